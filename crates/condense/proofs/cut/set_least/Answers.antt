-- The goals of `set_least` that are proved by hand.
use Rattle.std.proofs.Common.{rules, ◌≡◌, ◌∙◌, ◌<◌, ℕ, List, None, Some, IfSome, length, refl, sym, ap, subst, inr}
use Rattle.std.specs.Prelude.{IsSome}
use Rattle.box_math.specs.Bounds.{Bounds}
use Rattle.page_file.specs.Fault.{IsOfDevice}
use Rattle.page_file.specs.declared.fault.Fault.TheVariants as fault
use Rattle.page_cache.specs.Cache.{IsHonest, IsLive, pages}
use Rattle.page_cache.specs.Calls.{AsksUntil, RefusesChange, asks_and_gives_up, asks_changes, asks_in_turn}
use Rattle.page_cache.specs.Calls.{changes_in_turn, fault_in, no_call_asks, refuses_after}
use Rattle.tree_node.specs.Boxes.{box_at, least_box}
use Rattle.tree_node.specs.Nodes.{Item, NodeContent}
use Rattle.node_bytes.specs.Enlarged.{set_box, with_box_at}
use Rattle.node_page.specs.Standing.{PageMap, node_in}
use Rattle.node_bytes.specs.Views.{content_in}
use Rattle.node_bytes.proofs.BoxedLemmas.{length-set_box}
use Rattle.node_page.proofs.NodeLemmas.{at_error}
use Rattle.node_page.proofs.StandingLemmas.{page_of_node, same_content}
use Rattle.reinsert.proofs.FaultLemmas.{asks_refused, at_none, changes_refused, damaged_asks, no_answer, no_success}
use Rattle.condense.proofs.BecomeLemmas.{cut_written, few_written, now_written, set_box_same}
use Rattle.condense.proofs.RemoveLemmas.{never_some, on_err}
use Rattle.condense.proofs.cut.set_least.Goals as goal

-- a node that is read has the box if the page's has it
has_not : (dims : ℕ) (m : PageMap) (page place : ℕ) (read there : NodeContent) (least : Bounds) {P : Type 0}
    → node_in dims (m page) ≡ Some read → node_in dims (m page) ≡ Some there
    → (place < length read.entries → ¬ (box_at read.entries place ≡ least)) → place < length there.entries
    → box_at there.entries place ≡ least → P
has_not dims m page place read there least is at lacks within has =
    let same = same_content dims m page read there is at in
    absurd (lacks (subst (λ (k : NodeContent). place < length k.entries) (sym same) within)
    (ap (λ (k : NodeContent). box_at k.entries place) same ∙ has))

pub returns-in_err-node-clause-alters : goal.returns-in_err-node-clause-alters
returns-in_err-node-clause-alters g c = λ hand.
    let old = c.args.cache.now in
    let new = c.view_node.follows.lender-at-none in
    let f = c.in_err-node.field-0.0 in
    let r = c.from_residual.result in
    let is = c.from_residual.ensures.1 in
    let err = c.in_err-node.ensures in
    let first : AsksUntil old new (Some f) =
    subst (λ x. AsksUntil old new (fault_in x)) c.in_err-node.was (search rules) in
    record {
      changes = asks_and_gives_up old old new f r is (no_call_asks old) first;
      grows = search rules;
      cut = no_answer r f _ is;
      now = λ h x there level. no_answer r f _ is;
      still = λ h x there level. no_answer r f _ is;
      others = λ h live k other. first.map.pages_stay h k;
      sound = λ h live. first.map.sound.0 h;
      refused = on_err r _ first.touched;
      given_node = λ h. no_success r f _ is;
      faults = λ h x there level within. at_error r f IsOfDevice is (err.there h x there level);
      named = λ h. at_error r f _ is (err.faults h);
      other_faults = at_error r f _ is err.other_faults;
    }

pub returns-then-has_box-clause-alters : goal.returns-then-has_box-clause-alters
returns-then-has_box-clause-alters g c = λ hand.
    let D = g.row.D in
    let old = c.args.cache.now in
    let new = c.view_node.follows.lender-at-none in
    let page = c.args.at.page in
    let view : NodeContent = content_in c.in_ok-node.node in
    let first : AsksUntil old new None =
    subst (λ x. AsksUntil old new (fault_in x)) c.in_ok-node.was (search rules) in
    let has = c.has_box.ensures.yes c.if-has_box.true in
    let same_box = set_box_same view.entries c.args.place c.args.least.now has.0 has.1 in
    record {
      changes = asks_changes old new None first;
      grows = search rules;
      cut = cut_written c.args.fanout.most c.len-count.result c.least.result c.written.result c.args.at.level
          hand
          c.written.ensures;
      now = λ h x there level.
          let same = same_content D (pages old) page view x
          (c.in_ok-node.ensures.node h (page_of_node D (pages old page) x there)) there in
          let items : set_box x.entries c.args.place c.args.least.now ≡ view.entries =
          ap (λ (k : NodeContent). set_box k.entries c.args.place c.args.least.now) (sym same) ∙ same_box in
          let here : node_in D (pages new page) ≡ Some view =
          ap (node_in D) (first.map.pages_stay h page) ∙ there ∙ ap (λ (k : NodeContent). Some k) (sym same) in
          now_written c.args.fanout.most c.len-count.result c.least.result c.written.result (pages new page)
          c.args.at.level (set_box x.entries c.args.place c.args.least.now) hand
          (here ∙ ap (λ (l : ℕ). Some (let k : NodeContent = record { level = l; entries = view.entries } in k))
          c.in_ok-node.ensures.level
          ∙ ap (λ (xs : List Item). Some (let k : NodeContent = record { level = c.args.at.level; entries = xs } in k))
          (sym items))
          (c.len-count.ensures.count ∙ ap length (sym items))
          (c.least.ensures ∙ ap (least_box D) (sym items)) c.written.ensures;
      still = λ h x there level.
          let same = same_content D (pages old) page view x
          (c.in_ok-node.ensures.node h (page_of_node D (pages old page) x there)) there in
          record {
            node = x;
            there = ap (node_in D) (first.map.pages_stay h page) ∙ there;
            level_is = level;
            few = few_written c.args.fanout.most c.len-count.result c.least.result c.written.result
                (length x.entries)
                (c.len-count.ensures.count ∙ ap (λ (k : NodeContent). length k.entries) same)
                c.written.ensures;
          };
      others = λ h live k other. first.map.pages_stay h k;
      sound = λ h live. first.map.sound.0 h;
      refused = tt;
      given_node = λ h. record {
        node = view;
        there = c.in_ok-node.ensures.given_node h;
        level_is = c.in_ok-node.ensures.level;
      };
      faults = λ h x there level within. tt;
      named = λ h. tt;
      other_faults = tt;
    }

pub returns-in_err-round-clause-alters : goal.returns-in_err-round-clause-alters
returns-in_err-round-clause-alters g c = λ hand.
    let old = c.args.cache.now in
    let mid = c.view_node.follows.lender-at-none in
    let new = c.set_entry_box.new.cache in
    let f = c.in_err-round.field-0.0 in
    let r = c.from_residual-in_err-round.result in
    let is = c.from_residual-in_err-round.ensures.1 in
    let err = c.in_err-round.ensures in
    let first : AsksUntil old mid None =
    subst (λ x. AsksUntil old mid (fault_in x)) c.in_ok-node.was (search rules) in
    let then : RefusesChange mid new f = err.refused in
    record {
      changes = changes_refused old new f r is (refuses_after old mid new f first then).changes;
      grows = search rules;
      cut = no_answer r f _ is;
      now = λ h x there level. no_answer r f _ is;
      still = λ h x there level. no_answer r f _ is;
      others = λ h live k other. then.map.pages_stay (first.gate.honest.0 h) k ∙ first.map.pages_stay h k;
      sound = λ h live. then.map.sound.0 (first.map.sound.0 h);
      refused = on_err r _ (then.touched ∙ first.touched);
      given_node = λ h. no_success r f _ is;
      faults = λ h x there level within. at_error r f IsOfDevice is
          (err.faults (first.gate.honest.0 h) x
          (ap (node_in g.row.D) (first.map.pages_stay h c.args.at.page) ∙ there) level);
      named = λ h. at_error r f _ is
          (err.named (first.gate.honest.0 h));
      other_faults = at_error r f _ is err.other_faults;
    }

pub returns-in_default-clause-alters : goal.returns-in_default-clause-alters
returns-in_default-clause-alters g c = λ hand.
    let old = c.args.cache.now in
    let mid = c.view_node.follows.lender-at-none in
    let new = c.set_entry_box.new.cache in
    let page = c.args.at.page in
    let first : AsksUntil old mid None =
    subst (λ x. AsksUntil old mid (fault_in x)) c.in_ok-node.was (search rules) in
    let then : AsksUntil mid new None =
    at_none c.in_ok-round.field-0 (AsksUntil mid new None) c.in_ok-round.ensures.cannot c.in_default.not-Some in
    record {
      changes = asks_changes old new (Some (fault.Damaged page))
          (damaged_asks old new page (asks_in_turn old mid new None first then));
      grows = search rules;
      cut = tt;
      now = λ h x there level. tt;
      still = λ h x there level. tt;
      others = λ h live k other. then.map.pages_stay (first.gate.honest.0 h) k ∙ first.map.pages_stay h k;
      sound = λ h live. then.map.sound.0 (first.map.sound.0 h);
      refused = then.touched ∙ first.touched;
      given_node = λ h. tt;
      faults = λ h x there level within.
          absurd (never_some c.in_ok-round.field-0 c.in_default.not-Some
          ((c.in_ok-round.ensures.room (first.gate.honest.0 h) x
          (ap (node_in g.row.D) (first.map.pages_stay h page) ∙ there)).1 within));
      named = λ h. inr refl;
      other_faults = search rules;
    }

pub returns-clause-alters : goal.returns-clause-alters
returns-clause-alters g c = λ hand.
    let D = g.row.D in
    let old = c.args.cache.now in
    let mid = c.view_node.follows.lender-at-none in
    let new = c.set_entry_box.new.cache in
    let page = c.args.at.page in
    let place = c.args.place in
    let b = c.args.least.now in
    let view : NodeContent = content_in c.in_ok-node.node in
    let first : AsksUntil old mid None =
    subst (λ x. AsksUntil old mid (fault_in x)) c.in_ok-node.was (search rules) in
    let ok = c.in_ok-round.ensures in
    let live_mid : IsHonest old → IsLive old page → IsLive mid page =
    λ h live. subst IsSome (sym (first.map.pages_stay h page)) live in
    let boxed : IsHonest old → (x : NodeContent) → node_in D (pages old page) ≡ Some x
    → (node_in D (pages new page) ≡ Some (with_box_at x place b))
    × (c.in-Some.round ≡ least_box D (set_box x.entries place b)) =
    λ h x there. subst (λ o. IfSome o (λ least. (node_in D (pages new page) ≡ Some (with_box_at x place b))
    × (least ≡ least_box D (set_box x.entries place b)))) c.in-Some.is
    (ok.boxed (first.gate.honest.0 h) x (ap (node_in D) (first.map.pages_stay h page) ∙ there)) in
    let count : IsHonest old → (x : NodeContent) → node_in D (pages old page) ≡ Some x
    → c.len-count.result ≡ length (set_box x.entries place b) =
    λ h x there. let same = same_content D (pages old) page view x
    (c.in_ok-node.ensures.node h (page_of_node D (pages old page) x there)) there in
    c.len-count.ensures.count ∙ ap (λ (k : NodeContent). length k.entries) same
    ∙ sym (length-set_box x.entries place b) in
    record {
      changes = changes_in_turn old mid new None (asks_changes old mid None first) ok.changes;
      grows = search rules;
      cut = cut_written c.args.fanout.most c.len-count.result c.in-Some.round c.written-2.result
          c.args.at.level
          hand c.written-2.ensures;
      now = λ h x there level.
          let is = boxed h x there in
          now_written c.args.fanout.most c.len-count.result c.in-Some.round c.written-2.result
          (pages new page)
          c.args.at.level (set_box x.entries place b) hand
          (is.0 ∙ ap (λ (l : ℕ). Some
          (let k : NodeContent = record { level = l; entries = set_box x.entries place b } in k)) level)
          (count h x there) is.1 c.written-2.ensures;
      still = λ h x there level. record {
        node = with_box_at x place b;
        there = (boxed h x there).0;
        level_is = level;
        few = few_written c.args.fanout.most c.len-count.result c.in-Some.round c.written-2.result
            (length (set_box x.entries place b)) (count h x there) c.written-2.ensures;
      };
      others = λ h live k other. ok.others (first.gate.honest.0 h) (live_mid h live) k other
          ∙ first.map.pages_stay h k;
      sound = λ h live. ok.sound (first.map.sound.0 h) (live_mid h.honest live);
      refused = tt;
      given_node = λ h. record {
        node = view;
        there = c.in_ok-node.ensures.given_node h;
        level_is = c.in_ok-node.ensures.level;
      };
      faults = λ h x there level within. tt;
      named = λ h. tt;
      other_faults = tt;
    }

-- ---- a page that has the box stays

pub returns-in_err-node-clause-same : goal.returns-in_err-node-clause-same
returns-in_err-node-clause-same g c = λ h x there within has.
    asks_refused c.args.cache.now c.view_node.follows.lender-at-none c.in_err-node.field-0.0
    c.from_residual.result c.from_residual.ensures.1
    (subst (λ x. AsksUntil c.args.cache.now c.view_node.follows.lender-at-none (fault_in x))
    c.in_err-node.was (search rules))

pub returns-then-has_box-clause-same : goal.returns-then-has_box-clause-same
returns-then-has_box-clause-same g c = λ h x there within has.
    subst (λ x. AsksUntil c.args.cache.now c.view_node.follows.lender-at-none (fault_in x)) c.in_ok-node.was
    (search rules)

-- it is not written where it has that box
pub returns-in_err-round-clause-same : goal.returns-in_err-round-clause-same
returns-in_err-round-clause-same g c = λ h x there within has.
    let read = c.in_ok-node.ensures.node h
    (page_of_node g.row.D (pages c.args.cache.now c.args.at.page) x there) in
    has_not g.row.D (pages c.args.cache.now) c.args.at.page c.args.place (content_in c.in_ok-node.node) x
    c.args.least.now read there (c.has_box.ensures.no c.if-has_box.false) within has

pub returns-in_default-clause-same : goal.returns-in_default-clause-same
returns-in_default-clause-same g c = λ h x there within has.
    let read = c.in_ok-node.ensures.node h
    (page_of_node g.row.D (pages c.args.cache.now c.args.at.page) x there) in
    has_not g.row.D (pages c.args.cache.now) c.args.at.page c.args.place (content_in c.in_ok-node.node) x
    c.args.least.now read there (c.has_box.ensures.no c.if-has_box.false) within has

pub returns-clause-same : goal.returns-clause-same
returns-clause-same g c = λ h x there within has.
    let read = c.in_ok-node.ensures.node h
    (page_of_node g.row.D (pages c.args.cache.now c.args.at.page) x there) in
    has_not g.row.D (pages c.args.cache.now) c.args.at.page c.args.place (content_in c.in_ok-node.node) x
    c.args.least.now read there (c.has_box.ensures.no c.if-has_box.false) within has
