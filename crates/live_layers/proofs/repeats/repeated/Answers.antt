-- The identifiers in order are the same as often.
use Rattle.std.proofs.Common.{◌≡◌, ◌∙◌, ℕ, List, None, ap, map, sym, subst}
use Rattle.std.specs.List.Sorted.{IsNonDecreasing}
use Rattle.std.proofs.lemmas.List.Sorted.{IsNonDecreasingBy-from_sort}
use Rattle.plain_table.specs.Loads.{least_repeated}
use Rattle.tree_node.specs.declared.node.Entry.{Entry}
use Rattle.live_layers.specs.Loading.{IsLeastTwice}
use Rattle.live_layers.proofs.LoadLemmas.{ids_listed}
use Rattle.live_layers.proofs.RepeatLemmas.{least_is, reordered}
use Rattle.live_layers.proofs.repeats.repeated.Goals as goal

pub first_twice-requires : goal.first_twice-requires
first_twice-requires g c =
    subst IsNonDecreasing (sym c.as_slice.ensures.value)
    (IsNonDecreasingBy-from_sort (λ x. x) c.sort_unstable.new.self.items c.sort_unstable.ensures.sorted)

pub returns : goal.returns
returns g c =
    let ids = c.in_ok-ids.ids.items in
    let least =
    subst (λ (xs : List ℕ). IsLeastTwice xs c.first_twice.result) c.as_slice.ensures.value
    c.first_twice.ensures in
    subst (λ (xs : List ℕ). c.first_twice.result ≡ least_repeated xs)
    (c.in_ok-ids.ensures ∙ ids_listed c.args.entries.now)
    (least_is ids c.first_twice.result
    (reordered ids c.sort_unstable.new.self.items c.first_twice.result
    c.sort_unstable.ensures.permutation least))

pub returns-then-branch : goal.returns-then-branch
returns-then-branch g c =
    let ids : List ℕ = map (λ (e : Entry g.row.D). e.reference) c.args.entries.now in
    least_is ids None (c.in_ok-are_apart.ensures c.if-branch.true)
    ∙ ap least_repeated (ids_listed c.args.entries.now)
