-- Sorted by a key, the objects are in its order.
use Rattle.std.proofs.Common.{ℕ, rules}
use Rattle.std.proofs.lemmas.List.Sorted.{IsNonDecreasingBy-from_sort_by_key}
use Rattle.tree_node.specs.declared.node.Entry.{Entry}
use Rattle.id_words.proofs.EntryLemmas.{listed_in_order}
use Rattle.id_table.proofs.filling.sort_by_identifier.Goals as goal

pub returns-clause-ordered : goal.returns-clause-ordered
returns-clause-ordered g c =
    let number : Entry g.row.D → ℕ = λ entry. entry.reference in
    listed_in_order (λ (id : ℕ). id) c.sort_unstable_by_key.new.self
    (IsNonDecreasingBy-from_sort_by_key number _ c.sort_unstable_by_key.ensures.sorted (λ a r q k. search rules))
