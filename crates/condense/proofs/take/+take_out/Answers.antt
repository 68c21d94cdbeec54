-- The goals of `take_out` that are proved by hand.
use Rattle.std.proofs.Common.{rules, ◌≡◌, ◌∙◌, ◌-◌, ◌<◌, ◌≤◌, ℕ, None, Some, IfSome, [], length, map}
use Rattle.std.proofs.Common.{refl, sym, ap, subst, arith, ⊎_elim, inl, inr, true}
use Rattle.std.specs.Prelude.{◌⊎◌}
use Rattle.page_file.specs.Fault.{IsOfDevice}
use Rattle.page_cache.specs.Cache.{IsPageMap, given, pages, touched_of}
use Rattle.page_cache.specs.Calls.{AsksUntil, asks_and_gives_up, asks_changes, asks_in_turn}
use Rattle.page_cache.specs.Calls.{changes_and_refuses, changes_in_turn, no_call_asks}
use Rattle.box_math.specs.Bounds.{Within}
use Rattle.tree_node.specs.Boxes.{box_at}
use Rattle.tree_node.specs.Trees.{row_items}
use Rattle.node_page.specs.Standing.{node_in}
use Rattle.node_page.proofs.DamageLemmas.{damaged_read}
use Rattle.node_page.proofs.NodeLemmas.{at_error}
use Rattle.node_page.proofs.StandingLemmas.{page_of_node}
use Rattle.reinsert.proofs.FaultLemmas.{at_none, no_answer}
use Rattle.condense.specs.Becoming.{HasBecome, IsNext, LeadsDown, StaysAbove}
use Rattle.condense.specs.Taken.{held_now, orphan_held}
use Rattle.condense.proofs.BelowLemmas.{below_contained, is_below, later_than, none_leads, passed_to, took_below}
use Rattle.condense.proofs.DamageLemmas.{child_named, comes_before, device_names_none, leads_kept, leads_live}
use Rattle.condense.proofs.DamageLemmas.{leads_same, same_adds_none}
use Rattle.condense.proofs.LeadLemmas.{takes_contained}
use Rattle.condense.proofs.RemoveLemmas.{never_some, on_err}
use Rattle.condense.proofs.take.+take_out.Goals as goal

pub children-init : goal.children-init
children-init g t c = (no_call_asks c.args.cache.now, refl, omega arith, λ h row stands leads. leads)

pub returns-in_err-next : goal.returns-in_err-next
returns-in_err-next g t c =
    let old = c.args.cache.now in
    let mid = c.children.cache in
    let new = c.next_child.new.cache in
    let at = c.args.at in
    let f = c.in_err-next.field-0.0 in
    let r = c.from_residual.result in
    let is = c.from_residual.ensures.1 in
    let err = c.in_err-next.ensures in
    let first : AsksUntil old mid None = c.children.invariant.0 in
    let then : AsksUntil mid new (Some f) = err.asks in
    record {
      changes = asks_and_gives_up old mid new f r is first then;
      grows = search rules;
      cut = no_answer r f _ is;
      room = omega (arith, ap length c.children.invariant.1);
      none = no_answer r f _ is;
      taken = λ h row stands. no_answer r f _ is;
      found = λ h row stands leads. no_answer r f _ is;
      absent = λ h row stands lacks. on_err r _ (then.touched ∙ first.touched);
      faults = λ h row stands. at_error r f IsOfDevice is
          (err.there (first.gate.honest.0 h.honest) (record { level = at.level; entries = row_items row })
          (ap (node_in g.row.D) (first.map.pages_stay h.honest at.page) ∙ stands.root) refl);
      sound = λ h. no_answer r f _ is;
      stays = λ h. no_answer r f _ is;
      touched = λ h. no_answer r f _ is;
      damage = λ h. at_error r f _ is
          (λ n damaged. ([], damaged_read f at.page n (err.faults (first.gate.honest.0 h.honest)) damaged));
      other_faults = at_error r f _ is err.other_faults;
    }

pub returns-in_default : goal.returns-in_default
returns-in_default g t c =
    let old = c.args.cache.now in
    let mid = c.children.cache in
    let new = c.next_child.new.cache in
    let at = c.args.at in
    let ok = c.in_ok-next.ensures in
    let first : AsksUntil old mid None = c.children.invariant.0 in
    let walked : AsksUntil old new None = asks_in_turn old mid new None first ok.asks in
    record {
      changes = asks_changes old new None walked;
      grows = search rules;
      cut = tt;
      room = omega (arith, ap length c.children.invariant.1);
      none = (walked, c.children.invariant.1);
      taken = λ h row stands. tt;
      found = λ h row stands leads.
          let high : 0 < at.level = omega (arith, c.if-at-eq0.false) in
          absurd (none_leads c.args.fanout.most (pages old) at row c.children.from c.args.object.now.reference
          (c.args.object.now.bounds, c.args.object.now.tag) stands high
          (at_none c.in_ok-next.field-0 _
          (ok.none (first.gate.honest.0 h.honest) (record { level = at.level; entries = row_items row })
          (ap (node_in g.row.D) (first.map.pages_stay h.honest at.page) ∙ stands.root))
          c.in_default.not-Some) (c.children.invariant.3 h row stands leads));
      absent = λ h row stands lacks. tt;
      faults = λ h row stands. tt;
      sound = λ h. tt;
      stays = λ h. tt;
      touched = λ h. tt;
      damage = λ h. tt;
      other_faults = tt;
    }

pub returns-in_err-became : goal.returns-in_err-became
returns-in_err-became g t c =
    let D = g.row.D in
    let old = c.args.cache.now in
    let mid = c.children.cache in
    let here = c.next_child.new.cache in
    let low = c.take_out.new.cache in
    let at = c.args.at in
    let next = c.in-Some.next in
    let finds = c.in_ok-next.ensures in
    let first : AsksUntil old mid None = c.children.invariant.0 in
    let walked : AsksUntil old here None = asks_in_turn old mid here None first finds.asks in
    let is_next : IsNext at next =
    subst (λ o. IfSome o (λ next. IsNext at next)) c.in-Some.is finds.is_next in
    let spelled : IsPageMap old → LeadsDown D (given mid) at next =
    λ h. subst (λ o. IfSome o (λ next. LeadsDown D (given mid) at next)) c.in-Some.is
    (finds.given_node (first.gate.honest.0 h.honest)) in
    let above : IsPageMap old → LeadsDown D (pages here) at next =
    λ h. leads_same D (pages mid) (pages here) at next
    (finds.asks.map.pages_stay (first.gate.honest.0 h.honest))
    (leads_live D mid at next (first.map.sound.0 h) (spelled h)) in
    let f = c.in_err-became.field-0.0 in
    let r = c.from_residual-in_err-became.result in
    let is = c.from_residual-in_err-became.ensures.1 in
    let err = c.in_err-became.ensures in
    record {
      changes = changes_and_refuses old here low f r is (asks_changes old here None walked) err.changes;
      grows = search rules;
      cut = no_answer r f _ is;
      room = omega (
        arith,
        ap length c.children.invariant.1,
        c.take_out.ensures.room,
        is_next.level,
        is_next.above,
      );
      none = no_answer r f _ is;
      taken = λ h row stands. no_answer r f _ is;
      found = λ h row stands leads. no_answer r f _ is;
      absent = λ h row stands lacks.
          let same = walked.map.pages_stay h.honest in
          let b = is_below (pages old) (pages here) at row next stands same (above h) is_next in
          on_err r _
          (err.absent (walked.map.sound.0 h) b.h.from.row b.stands
          (below_contained D c.args.fanout.most (pages old) (pages here) at row (above h).node.entries
          next.place
          next.below b c.args.object.now.reference (c.args.object.now.bounds, c.args.object.now.tag) lacks)
          ∙ walked.touched);
      faults = λ h row stands.
          let same = walked.map.pages_stay h.honest in
          let b = is_below (pages old) (pages here) at row next stands same (above h) is_next in
          at_error r f IsOfDevice is (err.faults (walked.map.sound.0 h) b.h.from.row b.stands);
      sound = λ h. no_answer r f _ is;
      stays = λ h. no_answer r f _ is;
      touched = λ h. no_answer r f _ is;
      damage = λ h.
          let node = (spelled h).node in
          let above_none : 0 < node.level = omega (arith, (spelled h).level_is, is_next.above) in
          let named = child_named node next.place next.below.page above_none (spelled h).within (spelled h).names
          in
          at_error r f _ is
          (λ n damaged. comes_before D (given old) (given here) at.page node next.below.page n
          (ap (node_in D) (sym (first.map.given_stay h.honest at.page)) ∙ (spelled h).there) named
          (same_adds_none D (given old) (given here) (walked.map.given_stay h.honest))
          (err.damage (walked.map.sound.0 h) n damaged));
      other_faults = at_error r f _ is err.other_faults;
    }

pub children-preserved : goal.children-preserved
children-preserved g t c =
    let D = g.row.D in
    let old = c.args.cache.now in
    let mid = c.children.cache in
    let here = c.next_child.new.cache in
    let low = c.take_out.new.cache in
    let at = c.args.at in
    let next = c.in-Some.next in
    let finds = c.in_ok-next.ensures in
    let first : AsksUntil old mid None = c.children.invariant.0 in
    let walked : AsksUntil old here None = asks_in_turn old mid here None first finds.asks in
    let is_next : IsNext at next =
    subst (λ o. IfSome o (λ next. IsNext at next)) c.in-Some.is finds.is_next in
    let spelled : IsPageMap old → LeadsDown D (given mid) at next =
    λ h. subst (λ o. IfSome o (λ next. LeadsDown D (given mid) at next)) c.in-Some.is
    (finds.given_node (first.gate.honest.0 h.honest)) in
    let above : IsPageMap old → LeadsDown D (pages here) at next =
    λ h. leads_same D (pages mid) (pages here) at next
    (finds.asks.map.pages_stay (first.gate.honest.0 h.honest))
    (leads_live D mid at next (first.map.sound.0 h) (spelled h)) in
    let ok = c.in_ok-became.ensures in
    let none = at_none c.in_ok-became.field-0 _ ok.none c.in_default-2.not-Some in
    let place =
    subst (λ o. IfSome o (λ next. (c.children.from ≤ next.place) × (next.place < 100))) c.in-Some.is
    finds.place in (
      asks_in_turn old here low None walked none.0,
      none.1 ∙ c.children.invariant.1,
      omega (arith, place.1),
      λ h row stands leads.
          let same = walked.map.pages_stay h.honest in
          let b = is_below (pages old) (pages here) at row next stands same (above h) is_next in
          let before =
          subst (λ o. IfSome o (λ next. (k : ℕ) → c.children.from ≤ k → k < next.place
          → k < length (row_items row) → ¬ Within D c.args.object.now.bounds (box_at (row_items row) k)))
          c.in-Some.is
          (finds.before (first.gate.honest.0 h.honest) (record { level = at.level; entries = row_items row })
          (ap (node_in D) (first.map.pages_stay h.honest at.page) ∙ stands.root)) in
          later_than D c.args.fanout.most (pages old) (pages here) at row (above h).node.entries next.place
          next.below
          b c.args.object.now.reference (c.args.object.now.bounds, c.args.object.now.tag)
          (λ both. never_some c.in_ok-became.field-0 c.in_default-2.not-Some
          (ok.found (walked.map.sound.0 h) b.h.from.row b.stands both.1))
          (passed_to c.args.fanout.most (pages old) at row c.children.from (next.place - c.children.from)
          next.place
          c.args.object.now.reference (c.args.object.now.bounds, c.args.object.now.tag) stands is_next.above
          (omega (arith, place.0)) before (c.children.invariant.3 h row stands leads)),
    )

pub returns-in_err-now : goal.returns-in_err-now
returns-in_err-now g t c =
    let D = g.row.D in
    let old = c.args.cache.now in
    let mid = c.children.cache in
    let here = c.next_child.new.cache in
    let low = c.take_out.new.cache in
    let at = c.args.at in
    let next = c.in-Some.next in
    let finds = c.in_ok-next.ensures in
    let first : AsksUntil old mid None = c.children.invariant.0 in
    let walked : AsksUntil old here None = asks_in_turn old mid here None first finds.asks in
    let is_next : IsNext at next =
    subst (λ o. IfSome o (λ next. IsNext at next)) c.in-Some.is finds.is_next in
    let spelled : IsPageMap old → LeadsDown D (given mid) at next =
    λ h. subst (λ o. IfSome o (λ next. LeadsDown D (given mid) at next)) c.in-Some.is
    (finds.given_node (first.gate.honest.0 h.honest)) in
    let above : IsPageMap old → LeadsDown D (pages here) at next =
    λ h. leads_same D (pages mid) (pages here) at next
    (finds.asks.map.pages_stay (first.gate.honest.0 h.honest))
    (leads_live D mid at next (first.map.sound.0 h) (spelled h)) in
    let ok = c.in_ok-became.ensures in
    let became = c.in-Some-2.became in
    let sound : IsPageMap old → IsPageMap low =
    λ h. subst (λ o. IfSome o (λ _. IsPageMap low)) c.in-Some-2.is (ok.sound (walked.map.sound.0 h)) in
    let stays : IsPageMap old → StaysAbove c.args.fanout.most next.below (pages here) (pages low) became =
    λ h. subst (λ o. IfSome o (StaysAbove c.args.fanout.most next.below (pages here) (pages low)))
    c.in-Some-2.is
    (ok.stays (walked.map.sound.0 h)) in
    let above_low : IsPageMap old → LeadsDown D (pages low) at next =
    λ h. leads_kept D (pages here) (pages low) at next is_next (stays h).stay (above h) in
    let new = c.put_child.new.cache in
    let f = c.in_err-now.field-0.0 in
    let r = c.from_residual-in_err-now.result in
    let is = c.from_residual-in_err-now.ensures.1 in
    let err = c.in_err-now.ensures in
    record {
      changes = changes_and_refuses old low new f r is
          (changes_in_turn old here low None (asks_changes old here None walked) ok.changes) err.changes;
      grows = search rules;
      cut = no_answer r f _ is;
      room = omega (
        arith,
        ap length c.children.invariant.1,
        c.take_out.ensures.room,
        c.put_child.ensures.room,
        is_next.level,
        is_next.above,
      );
      none = no_answer r f _ is;
      taken = λ h row stands. no_answer r f _ is;
      found = λ h row stands leads. no_answer r f _ is;
      absent = λ h row stands lacks.
          let same = walked.map.pages_stay h.honest in
          let b = is_below (pages old) (pages here) at row next stands same (above h) is_next in
          let done =
          subst (λ o. IfSome o (HasBecome c.args.fanout.most (pages here) (pages low) next.below
          c.args.object.now.reference (c.args.object.now.bounds, c.args.object.now.tag) b.h.from.row
          (held_now c.children.kept) (held_now c.take_out.new.kept) c.take_out.new.hand)) c.in-Some-2.is
          (ok.taken (walked.map.sound.0 h) b.h.from.row b.stands) in
          absurd (below_contained D c.args.fanout.most (pages old) (pages here) at row (above h).node.entries
          next.place next.below b c.args.object.now.reference
          (c.args.object.now.bounds, c.args.object.now.tag) lacks
          (takes_contained D c.args.fanout.most c.args.object.now.reference
          (c.args.object.now.bounds, c.args.object.now.tag) next.below.level b.h.from.row done.taken.out
          done.taken.takes_out));
      faults = λ h row stands. at_error r f IsOfDevice is
          (err.faults (sound h) (above_low h) (stays h).still);
      sound = λ h. no_answer r f _ is;
      stays = λ h. no_answer r f _ is;
      touched = λ h. no_answer r f _ is;
      damage = λ h. at_error r f _ is
          (λ n damaged. absurd (device_names_none f n
          (err.faults (sound h) (above_low h) (stays h).still) damaged));
      other_faults = at_error r f _ is err.other_faults;
    }

pub returns-in-children : goal.returns-in-children
returns-in-children g t c =
    let D = g.row.D in
    let old = c.args.cache.now in
    let mid = c.children.cache in
    let here = c.next_child.new.cache in
    let low = c.take_out.new.cache in
    let at = c.args.at in
    let next = c.in-Some.next in
    let finds = c.in_ok-next.ensures in
    let first : AsksUntil old mid None = c.children.invariant.0 in
    let walked : AsksUntil old here None = asks_in_turn old mid here None first finds.asks in
    let is_next : IsNext at next =
    subst (λ o. IfSome o (λ next. IsNext at next)) c.in-Some.is finds.is_next in
    let spelled : IsPageMap old → LeadsDown D (given mid) at next =
    λ h. subst (λ o. IfSome o (λ next. LeadsDown D (given mid) at next)) c.in-Some.is
    (finds.given_node (first.gate.honest.0 h.honest)) in
    let above : IsPageMap old → LeadsDown D (pages here) at next =
    λ h. leads_same D (pages mid) (pages here) at next
    (finds.asks.map.pages_stay (first.gate.honest.0 h.honest))
    (leads_live D mid at next (first.map.sound.0 h) (spelled h)) in
    let ok = c.in_ok-became.ensures in
    let became = c.in-Some-2.became in
    let sound : IsPageMap old → IsPageMap low =
    λ h. subst (λ o. IfSome o (λ _. IsPageMap low)) c.in-Some-2.is (ok.sound (walked.map.sound.0 h)) in
    let stays : IsPageMap old → StaysAbove c.args.fanout.most next.below (pages here) (pages low) became =
    λ h. subst (λ o. IfSome o (StaysAbove c.args.fanout.most next.below (pages here) (pages low)))
    c.in-Some-2.is
    (ok.stays (walked.map.sound.0 h)) in
    let above_low : IsPageMap old → LeadsDown D (pages low) at next =
    λ h. leads_kept D (pages here) (pages low) at next is_next (stays h).stay (above h) in
    let new = c.put_child.new.cache in
    let put = c.in_ok-now.ensures in
    record {
      changes = changes_in_turn old low new None
          (changes_in_turn old here low None (asks_changes old here None walked) ok.changes) put.changes;
      grows = search rules;
      cut = put.cut;
      room = omega (
        arith,
        ap length c.children.invariant.1,
        c.take_out.ensures.room,
        c.put_child.ensures.room,
        is_next.level,
        is_next.above,
      );
      none = tt;
      taken = λ h row stands.
          let same = walked.map.pages_stay h.honest in
          let b = is_below (pages old) (pages here) at row next stands same (above h) is_next in
          let done =
          subst (λ o. IfSome o (HasBecome c.args.fanout.most (pages here) (pages low) next.below
          c.args.object.now.reference (c.args.object.now.bounds, c.args.object.now.tag) b.h.from.row
          (held_now c.children.kept) (held_now c.take_out.new.kept) c.take_out.new.hand)) c.in-Some-2.is
          (ok.taken (walked.map.sound.0 h) b.h.from.row b.stands) in
          put.taken (sound h) (above_low h) (stays h).still (pages old) done.between c.args.object.now.reference
          (c.args.object.now.bounds, c.args.object.now.tag) row (held_now c.args.kept.now) done.items
          (took_below D c.args.fanout.most (pages old) (pages here) at row (above h).node.entries next.place
          next.below
          b c.args.object.now.reference (c.args.object.now.bounds, c.args.object.now.tag) done.between at.level
          (held_now c.children.kept) (held_now c.args.kept.now) (held_now c.take_out.new.kept) done.items stands
          same refl (ap (map (orphan_held {D = D})) c.children.invariant.1) done.taken)
          done.others done.now;
      found = λ h row stands leads. refl;
      absent = λ h row stands lacks. tt;
      faults = λ h row stands. tt;
      sound = λ h. put.sound (sound h) (above_low h) (stays h).still;
      stays = λ h. record {
        was = record {
          node = (above h).node;
          there = ap (node_in D) (sym (walked.map.pages_stay h.honest at.page)) ∙ (above h).there;
          level_is = (above h).level_is;
        };
        still = put.still (sound h) (above_low h) (stays h).still;
        stay = λ n x is high. put.stay (sound h) (above_low h) (stays h).still n x
            ((stays h).stay n x (ap (node_in D) (walked.map.pages_stay h.honest n) ∙ is)
            (omega (arith, high, is_next.level, is_next.above))) high;
      };
      touched = λ h.
          let live = page_of_node D (pages low next.below.page) (stays h).still.node (stays h).still.there in
          let either =
          subst (λ o. IfSome o (λ _. (c.take_out.new.kept.list.items ≡ c.children.kept.list.items)
          ⊎ (touched_of low ≡ true))) c.in-Some-2.is (ok.touched (walked.map.sound.0 h)) in
          ⊎_elim
          (λ (same : c.put_child.new.kept.list.items ≡ c.take_out.new.kept.list.items). ⊎_elim
          (λ (before : c.take_out.new.kept.list.items ≡ c.children.kept.list.items).
          inl (same ∙ before ∙ c.children.invariant.1))
          (λ (touched : touched_of low ≡ true). inr (put.changes.touched touched))
          either)
          (λ (touched : touched_of new ≡ true). inr touched)
          (put.touched (sound h) live);
      damage = λ h. tt;
      other_faults = tt;
    }
