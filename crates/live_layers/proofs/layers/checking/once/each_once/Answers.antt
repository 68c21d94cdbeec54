-- In order the list has each number once where the numbers rise by one.
use Rattle.std.proofs.Common.{ℕ, arith, refl, subst, sym}
use Rattle.std.proofs.lemmas.List.Sorted.{IsNonDecreasingBy-from_sort}
use Rattle.live_layers.specs.Checked.{IsOdd}
use Rattle.live_layers.proofs.OnceLemmas.{counts_names_each, names_each_counts, odd_at, odd_end}
use Rattle.live_layers.proofs.layers.checking.once.each_once.Goals as goal

pub returns-then-page-place-clause-passes : goal.returns-then-page-place-clause-passes
returns-then-page-place-clause-passes c = λ each.
    let sorted = c.sort_unstable.new.self in
    let counts =
    names_each_counts c.args.next c.args.list.now sorted c.sort_unstable.ensures.permutation
    (IsNonDecreasingBy-from_sort (λ n. n) sorted c.sort_unstable.ensures.sorted) c.requires each in
    absurd (c.if-page-place.true (counts.0 c.loop-place.place c.loop-place-test.true))

pub returns-then-list-next-clause-passes : goal.returns-then-list-next-clause-passes
returns-then-list-next-clause-passes c = λ each.
    let sorted = c.sort_unstable.new.self in
    let counts =
    names_each_counts c.args.next c.args.list.now sorted c.sort_unstable.ensures.permutation
    (IsNonDecreasingBy-from_sort (λ n. n) sorted c.sort_unstable.ensures.sorted) c.requires each in
    absurd (c.if-list-next.true counts.1)

pub returns-clause-once : goal.returns-clause-once
returns-clause-once c =
    let sorted = c.sort_unstable.new.self in
    counts_names_each c.args.next c.args.list.now sorted c.sort_unstable.ensures.permutation
    (λ k lt. c.loop-place.invariant k (omega (arith, lt, c.loop-place-test.false))) c.if-list-next.false

pub returns-then-page-place-clause-damage : goal.returns-then-page-place-clause-damage
returns-then-page-place-clause-damage c =
    let sorted = c.sort_unstable.new.self in
    let odd = odd_at c.args.next c.args.list.now sorted c.sort_unstable.ensures.permutation
    (IsNonDecreasingBy-from_sort (λ n. n) sorted c.sort_unstable.ensures.sorted) c.loop-place.place
    c.loop-place-test.true c.loop-place.invariant c.if-page-place.true in
    (_, refl, subst (λ (n : ℕ). IsOdd c.args.next c.args.list.now n) (sym c.min.ensures) odd)

pub returns-then-list-next-clause-damage : goal.returns-then-list-next-clause-damage
returns-then-list-next-clause-damage c =
    let sorted = c.sort_unstable.new.self in
    let odd = odd_end c.args.next c.args.list.now sorted c.sort_unstable.ensures.permutation
    (λ k lt. c.loop-place.invariant k (omega (arith, lt, c.loop-place-test.false))) in
    (_, refl, subst (λ (n : ℕ). IsOdd c.args.next c.args.list.now n) (sym c.min-then-list-next.ensures) odd)
