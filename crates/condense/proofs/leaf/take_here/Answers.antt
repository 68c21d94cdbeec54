-- The goals of `take_here` that are proved by hand.
use Rattle.std.proofs.Common.{rules, ◌≡◌, ◌∙◌, ◌+◌, ◌<◌, None, Some, IfSome, [], length, refl, sym, ap}
use Rattle.std.proofs.Common.{subst, arith, inl}
use Rattle.std.specs.Prelude.{slice_index_or}
use Rattle.page_file.specs.Fault.{IsOfDevice}
use Rattle.page_cache.specs.Cache.{IsPageMap, given, pages}
use Rattle.page_cache.specs.Calls.{AsksUntil, asks_and_gives_up, asks_changes, changes_and_refuses}
use Rattle.page_cache.specs.Calls.{changes_in_turn, no_call_asks}
use Rattle.tree_node.specs.Boxes.{no_item}
use Rattle.tree_node.specs.Nodes.{Item, NodeContent}
use Rattle.tree_node.specs.Trees.{row_items}
use Rattle.node_page.specs.Standing.{node_in}
use Rattle.node_page.proofs.DamageLemmas.{damaged_read}
use Rattle.node_page.proofs.GivenLemmas.{given_node_is_live}
use Rattle.node_page.proofs.NodeLemmas.{at_error}
use Rattle.node_page.proofs.StandingLemmas.{page_of_node}
use Rattle.reinsert.proofs.FaultLemmas.{at_none, no_answer}
use Rattle.condense.specs.Spelled.{HasPlace}
use Rattle.condense.specs.Taken.{held_now, items_without}
use Rattle.condense.proofs.BelowLemmas.{none_here, taken_here}
use Rattle.condense.proofs.DamageLemmas.{others_keep}
use Rattle.condense.proofs.RemoveLemmas.{on_err}
use Rattle.condense.proofs.leaf.take_here.Goals as goal

pub returns-in_err-place : goal.returns-in_err-place
returns-in_err-place g c = λ kept.
    let old = c.args.cache.now in
    let new = c.find_here.new.cache in
    let page = c.args.at.page in
    let f = c.in_err-place.field-0.0 in
    let r = c.from_residual.result in
    let is = c.from_residual.ensures.1 in
    let err = c.in_err-place.ensures in
    let first : AsksUntil old new (Some f) = err.asks in
    record {
      changes = asks_and_gives_up old old new f r is (no_call_asks old) first;
      grows = search rules;
      cut = no_answer r f _ is;
      room = omega arith;
      none = no_answer r f _ is;
      taken = λ h row stands. no_answer r f _ is;
      found = λ h row stands leads. no_answer r f _ is;
      absent = λ h row stands lacks. on_err r _ first.touched;
      faults = λ h row stands. at_error r f IsOfDevice is
          (err.there h.honest (record { level = c.args.at.level; entries = row_items row }) stands.root
          c.requires.leaf);
      sound = λ h. no_answer r f _ is;
      stays = λ h. no_answer r f _ is;
      touched = λ h. no_answer r f _ is;
      damage = λ h. at_error r f _ is
          (λ n damaged. ([], damaged_read f page n (err.faults h.honest) damaged));
      other_faults = at_error r f _ is err.other_faults;
    }

pub returns-in_default : goal.returns-in_default
returns-in_default g c = λ kept.
    let old = c.args.cache.now in
    let new = c.find_here.new.cache in
    let ok = c.in_ok-place.ensures in
    let first : AsksUntil old new None = ok.asks in
    record {
      changes = asks_changes old new None first;
      grows = search rules;
      cut = tt;
      room = omega arith;
      none = (first, refl);
      taken = λ h row stands. tt;
      found = λ h row stands leads.
          absurd (none_here c.args.fanout.most (pages old) c.args.at c.args.object.now.reference
          (c.args.object.now.bounds, c.args.object.now.tag) row c.requires.leaf stands
          (at_none c.in_ok-place.field-0 _
          (ok.none h.honest (record { level = c.args.at.level; entries = row_items row }) stands.root)
          c.in_default.not-Some) leads);
      absent = λ h row stands lacks. tt;
      faults = λ h row stands. tt;
      sound = λ h. tt;
      stays = λ h. tt;
      touched = λ h. tt;
      damage = λ h. tt;
      other_faults = tt;
    }

pub returns-in_err-now : goal.returns-in_err-now
returns-in_err-now g c = λ kept.
    let D = g.row.D in
    let old = c.args.cache.now in
    let mid = c.find_here.new.cache in
    let new = c.take_at.new.cache in
    let page = c.args.at.page in
    let f = c.in_err-now.field-0.0 in
    let r = c.from_residual-in_err-now.result in
    let is = c.from_residual-in_err-now.ensures.1 in
    let ok = c.in_ok-place.ensures in
    let err = c.in_err-now.ensures in
    let first : AsksUntil old mid None = ok.asks in
    record {
      changes = changes_and_refuses old mid new f r is (asks_changes old mid None first) err.changes;
      grows = search rules;
      cut = no_answer r f _ is;
      room = omega arith;
      none = no_answer r f _ is;
      taken = λ h row stands. no_answer r f _ is;
      found = λ h row stands leads. no_answer r f _ is;
      absent = λ h row stands lacks. on_err r _ (err.refused ∙ first.touched);
      faults = λ h row stands.
          let x : NodeContent = record { level = c.args.at.level; entries = row_items row } in
          let found =
          subst (λ o. IfSome o (λ at. (d : Item) → (at < length x.entries)
          × (slice_index_or x.entries at d
          ≡ record {
            bounds = c.args.object.now.bounds;
            reference = c.args.object.now.reference;
            tag = c.args.object.now.tag;
          }))) c.in-Some.is (ok.found h.honest x stands.root) in
          at_error r f IsOfDevice is
          (err.faults (first.gate.honest.0 h.honest) x
          (ap (node_in D) (first.map.pages_stay h.honest page) ∙ stands.root) refl (found no_item).0);
      sound = λ h. no_answer r f _ is;
      stays = λ h. no_answer r f _ is;
      touched = λ h. no_answer r f _ is;
      damage = λ h. at_error r f _ is
          (λ n damaged. ([], damaged_read f page n (err.named (first.gate.honest.0 h.honest)) damaged));
      other_faults = at_error r f _ is err.other_faults;
    }

pub returns : goal.returns
returns g c = λ kept.
    let D = g.row.D in
    let old = c.args.cache.now in
    let mid = c.find_here.new.cache in
    let new = c.take_at.new.cache in
    let at = c.args.at in
    let page = at.page in
    let place = c.in-Some.place in
    let ok = c.in_ok-place.ensures in
    let took = c.in_ok-now.ensures in
    let first : AsksUntil old mid None = ok.asks in
    let spelled : IsPageMap old → HasPlace D page 0 place (given old) =
    λ h. subst (λ o. IfSome o (λ at. HasPlace D page 0 at (given old))) c.in-Some.is (ok.given_leaf h.honest) in
    let before : (h : IsPageMap old) → node_in D (pages old page) ≡ Some (spelled h).node =
    λ h. given_node_is_live D old page (spelled h).node h (spelled h).there in
    let there : (h : IsPageMap old) → node_in D (pages mid page) ≡ Some (spelled h).node =
    λ h. ap (node_in D) (first.map.pages_stay h.honest page) ∙ before h in
    let level : (h : IsPageMap old) → (spelled h).node.level ≡ at.level =
    λ h. (spelled h).level_is ∙ sym c.requires.leaf in
    record {
      changes = changes_in_turn old mid new None (asks_changes old mid None first) took.changes;
      grows = search rules;
      cut = took.cut;
      room = omega arith;
      none = tt;
      taken = λ h row stands.
          let x : NodeContent = record { level = at.level; entries = row_items row } in
          let here : node_in D (pages mid page) ≡ Some x =
          ap (node_in D) (first.map.pages_stay h.honest page) ∙ stands.root in
          let found =
          subst (λ o. IfSome o (λ at. (d : Item) → (at < length x.entries)
          × (slice_index_or x.entries at d
          ≡ record {
            bounds = c.args.object.now.bounds;
            reference = c.args.object.now.reference;
            tag = c.args.object.now.tag;
          }))) c.in-Some.is (ok.found h.honest x stands.root) in
          record {
            items = items_without (row_items row) place;
            between = pages old;
            taken = taken_here c.args.fanout.most (pages old) (pages old) at c.args.object.now.reference
                (c.args.object.now.bounds, c.args.object.now.tag) row (held_now kept)
                (items_without (row_items row) place) c.requires.leaf stands (λ n. refl)
                (record {
                  at = place;
                  within = (found no_item).0;
                  found = λ d. (found d).1;
                  rest = refl;
                });
            others = λ k other. took.others (first.gate.honest.0 h.honest)
                (page_of_node D (pages mid page) x here) k other ∙ first.map.pages_stay h.honest k;
            now = took.now (first.gate.honest.0 h.honest) x here refl;
          };
      found = λ h row stands leads. refl;
      absent = λ h row stands lacks. tt;
      faults = λ h row stands. tt;
      sound = λ h. took.sound (first.map.sound.0 h)
          (page_of_node D (pages mid page) (spelled h).node (there h));
      stays = λ h. record {
        was = record { node = (spelled h).node; there = before h; level_is = level h };
        still = took.still (first.gate.honest.0 h.honest) (spelled h).node (there h) (level h);
        stay = λ n y is high. others_keep D (pages mid) (pages new) page
            (took.others (first.gate.honest.0 h.honest)
            (page_of_node D (pages mid page) (spelled h).node (there h))) (at.level + 1) (spelled h).node
            (there h) (omega (arith, level h)) n y
            (ap (node_in D) (first.map.pages_stay h.honest n) ∙ is) high;
      };
      touched = λ h. inl refl;
      damage = λ h. tt;
      other_faults = tt;
    }
