-- The two groups of a split have each position once.
use Rattle.std.proofs.Common.{ℕ, List, ◌++◌, length, subst, ◌∙◌}
use Rattle.std.specs.Prelude.{IsPermutation}
use Rattle.std.proofs.lemmas.List.{length-map}
use Rattle.tree_node.specs.declared.node.Entry.{Entry}
use Rattle.tree_node.specs.Nodes.{Item, item_of, items_of}
use Rattle.tree_node.specs.Positions.{AreParts}
use Rattle.tree_node.proofs.OrderSums.{total-take_drop, total-in_order}
use Rattle.tree_node.proofs.PartPermutations.{parts_are_whole}
use Rattle.rstar_split.specs.Cuts.{Splits, order_of, before}
use Rattle.rstar_split.specs.Divided.{IsDividedBySplit}

pub split_parts : (dims most : ℕ) (items : List Item) (first second : List ℕ)
    → Splits dims most items first second → AreParts first second (length items)
unfolding order_of
split_parts dims most items first second h f =
    rw (h.first_is, h.second_is)
    (total-take_drop f h.size (order_of items h.axis h.bound)
    ∙ total-in_order f (before items h.axis h.bound) (length items))

-- the two groups have together each entry once
pub divided_whole : (D most : ℕ) (es first second : List (Entry D)) → IsDividedBySplit D most es first second
    → IsPermutation es (first ++ second)
divided_whole D most es first second h =
    let parts = split_parts D most (items_of es) h.places h.others h.splits in
    rw (h.first_is, h.second_is)
    (parts_are_whole es h.places h.others
    (subst (AreParts h.places h.others) (length-map es item_of) parts))
