-- The only child comes into the page of the root, level by level.
use Rattle.id_page.specs.Fork.{ForkContent}
use Rattle.id_tree.proofs.WorksLemmas.{works_after, works_handed, works_refused}
use Rattle.std.proofs.Common.{◌≡◌, ℕ, ◌<◌, ◌≤◌, ◌-◌, ◌∙◌, None, length, subst, sym, true, refl, arith, Some}
use Rattle.page_cache.specs.Cache.{pages}
use Rattle.page_cache.specs.Calls.{asks_and_gives_up, asks_changes, changes_and_refuses, changes_in_turn}
use Rattle.page_cache.specs.Calls.{fault_in, no_call_asks}
use Rattle.id_tree.specs.Joining.{Lifts, MayFree}
use Rattle.id_tree.specs.Tree.{links_of, fork_in}
use Rattle.id_tree.proofs.RemoveLemmas.{lower_same, lowers_from, lowers_more, lowers_none, may_free_child}
use Rattle.id_tree.proofs.RemoveLemmas.{may_lower_child, named_child, only_child, only_fork}
use Rattle.id_tree.proofs.SeekLemmas.{keys_ascend, no_route}
use Rattle.id_tree.proofs.TidyLemmas.{tidy_in_turn, tidy_same}
use Rattle.id_tree.proofs.lowering.+lower.Goals as goal

pub returns-in_err-way-clause-changes : goal.returns-in_err-way-clause-changes
returns-in_err-way-clause-changes g t c =
    asks_and_gives_up c.args.cache.now c.args.cache.now c.step.new.cache c.in_err-way.field-0.0
    c.from_residual.result c.from_residual.ensures.1 (no_call_asks c.args.cache.now)
    c.in_err-way.ensures.asks

pub returns-then-way-ne1-clause-changes : goal.returns-then-way-ne1-clause-changes
returns-then-way-ne1-clause-changes g t c = asks_changes c.args.cache.now c.step.new.cache None
    c.in_ok-way.ensures.asks

pub returns-in_err-lift-clause-changes : goal.returns-in_err-lift-clause-changes
returns-in_err-lift-clause-changes g t c =
    changes_and_refuses c.args.cache.now c.step.new.cache c.lift.new.cache c.in_err-lift.field-0.0
    c.from_residual-in_err-lift.result c.from_residual-in_err-lift.ensures.1
    (asks_changes c.args.cache.now c.step.new.cache None c.in_ok-way.ensures.asks)
    c.in_err-lift.ensures.changes

pub returns-clause-changes : goal.returns-clause-changes
returns-clause-changes g t c =
    changes_in_turn c.args.cache.now c.lift.new.cache c.lower.new.cache (fault_in c.lower.result)
    (changes_in_turn c.args.cache.now c.step.new.cache c.lift.new.cache None
    (asks_changes c.args.cache.now c.step.new.cache None c.in_ok-way.ensures.asks)
    c.in_ok-lift.ensures.changes)
    c.lower.ensures.changes

pub returns-then-level-le1-clause-lowers : goal.returns-then-level-le1-clause-lowers
returns-then-level-le1-clause-lowers g t c = λ map row may.
    let m = pages c.args.cache.now in
    record {
      sound = map;
      tidy = tidy_same g.row.D m m (λ n. refl);
      made = lowers_none g.row.D m m c.args.root c.args.level row (λ n. refl) may
          (λ two. absurd (omega (arith, two, c.if-level-le1.true)));
      faults = tt;
    }

pub returns-in_err-way-clause-lowers : goal.returns-in_err-way-clause-lowers
returns-in_err-way-clause-lowers g t c = λ map row may.
    works_refused c.in_err-way.field-0.0 c.from_residual.ensures.1 (c.in_err-way.ensures.asks.map.sound.0 map)
    (c.in_err-way.ensures.there map.honest (record { level = c.args.level; links = links_of row })
    (may.stands.node.fork may.high))

pub returns-then-way-ne1-clause-lowers : goal.returns-then-way-ne1-clause-lowers
returns-then-way-ne1-clause-lowers g t c = λ map row may.
    let D = g.row.D in
    let root = c.args.root in
    let level = c.args.level in
    let old = pages c.args.cache.now in
    let mid = pages c.step.new.cache in
    let asks = c.in_ok-way.ensures.asks in
    let same = asks.map.pages_stay map.honest in
    let content : ForkContent = record { level = level; links = links_of row } in
    let fork = may.stands.node.fork may.high in
    let count = c.in_ok-way.ensures.count map.honest content fork in
    record {
      sound = asks.map.sound.0 map;
      tidy = tidy_same D old mid same;
      made = lowers_none D old mid root level row same may
          (λ up. two_or_more (length (links_of row)) may.some (λ is. c.if-way-ne1.true (count ∙ is)));
      faults = tt;
    }
  where
    two_or_more : (n : ℕ) → 0 < n → ¬ (n ≡ 1) → 2 ≤ n
    two_or_more n some other = omega arith

pub returns-in_default-clause-lowers : goal.returns-in_default-clause-lowers
returns-in_default-clause-lowers g t c = λ map row may.
    let D = g.row.D in
    let root = c.args.root in
    let level = c.args.level in
    let old = pages c.args.cache.now in
    let mid = pages c.step.new.cache in
    let asks = c.in_ok-way.ensures.asks in
    let same = asks.map.pages_stay map.honest in
    let content : ForkContent = record { level = level; links = links_of row } in
    let fork = may.stands.node.fork may.high in
    let ascend = keys_ascend D old root level true row may.high may.stands in
    let named = c.in_ok-way.ensures.child map.honest content fork ascend in
    let none = no_route 0 (links_of row) (sym c.in_default.is ∙ named) in
    record {
      sound = asks.map.sound.0 map;
      tidy = tt;
      made = tt;
      faults = absurd (omega (arith, none, may.some));
    }

pub returns-in_err-lift-clause-lowers : goal.returns-in_err-lift-clause-lowers
returns-in_err-lift-clause-lowers g t c = λ map row may.
    let D = g.row.D in
    let root = c.args.root in
    let level = c.args.level in
    let old = pages c.args.cache.now in
    let mid = pages c.step.new.cache in
    let asks = c.in_ok-way.ensures.asks in
    let same = asks.map.pages_stay map.honest in
    let content : ForkContent = record { level = level; links = links_of row } in
    let fork = may.stands.node.fork may.high in
    let count = c.in_ok-way.ensures.count map.honest content fork in
    let ascend = keys_ascend D old root level true row may.high may.stands in
    let named = c.in_ok-way.ensures.child map.honest content fork ascend in
    let two : 1 < level = omega (arith, c.if-level-le1.false) in
    let one = only_child D old level row may.high may.stands.below
    (omega (arith, count, c.if-way-ne1.false)) in
    let is = named_child D old root level row c.in_ok-way.way.child c.in-Some.child may one named
    c.in-Some.is in
    let may1 = lower_same D old mid root level row same may in
    let free : MayFree mid root c.in-Some.child =
    subst (MayFree mid root) (sym is) (may_free_child D mid root level row may1 one) in
    let there =
    subst (λ (n : ℕ). fork_in D (mid n) ≡ Some (record { level = level - 1; links = links_of one.below }))
    (sym is) (only_fork D mid root level row may1 one two) in
    works_handed (c.in_err-lift.ensures.lifts (asks.map.sound.0 map) free D _ there)
    c.from_residual-in_err-lift.ensures.1 (λ why. why)

pub returns-clause-lowers : goal.returns-clause-lowers
returns-clause-lowers g t c = λ map row may.
    let D = g.row.D in
    let root = c.args.root in
    let level = c.args.level in
    let old = pages c.args.cache.now in
    let mid = pages c.step.new.cache in
    let asks = c.in_ok-way.ensures.asks in
    let same = asks.map.pages_stay map.honest in
    let content : ForkContent = record { level = level; links = links_of row } in
    let fork = may.stands.node.fork may.high in
    let count = c.in_ok-way.ensures.count map.honest content fork in
    let ascend = keys_ascend D old root level true row may.high may.stands in
    let named = c.in_ok-way.ensures.child map.honest content fork ascend in
    let two : 1 < level = omega (arith, c.if-level-le1.false) in
    let one = only_child D old level row may.high may.stands.below
    (omega (arith, count, c.if-way-ne1.false)) in
    let is = named_child D old root level row c.in_ok-way.way.child c.in-Some.child may one named
    c.in-Some.is in
    let may1 = lower_same D old mid root level row same may in
    let free : MayFree mid root c.in-Some.child =
    subst (MayFree mid root) (sym is) (may_free_child D mid root level row may1 one) in
    let there =
    subst (λ (n : ℕ). fork_in D (mid n) ≡ Some (record { level = level - 1; links = links_of one.below }))
    (sym is) (only_fork D mid root level row may1 one two) in
    let lifts = c.in_ok-lift.ensures.lifts (asks.map.sound.0 map) free D _ there in
    let cut = pages c.lift.new.cache in
    let up = subst (Lifts mid cut root) is lifts.made in
    let below = may_lower_child D mid root level row may1 one cut up.bytes up.was up.puts two in
    let new = pages c.lower.new.cache in
    works_after (c.lower.ensures.lowers lifts.sound one.below below)
    (tidy_in_turn D old mid cut (tidy_same D old mid same) lifts.tidy)
    (λ u w. lowers_from D old mid new root level row same
    (lowers_more D mid root level row may1 one cut up.bytes up.was up.puts two new w)) (λ f why. why)
