-- The entry that an index reads, as rules see it.
use Rattle.std.proofs.Common.{◌≡◌, ℕ, ◌<◌, List, length, get_or, ap}
use Rattle.std.proofs.lemmas.List.{get_or-map}
use Rattle.tree_node.specs.declared.node.Entry.{Entry}
use Rattle.tree_node.specs.Nodes.{Item, item_of, items_of}
use Rattle.tree_node.specs.Boxes.{no_item, box_at, reference_at}

-- the box of an entry that was read with any other entry for none
pub box_at-any : {D : ℕ} (entries : List (Entry D)) (i : ℕ) (d : Entry D) → i < length entries
    → box_at (items_of entries) i ≡ (get_or entries i d).bounds
box_at-any entries i d h = ap (λ (x : Item). x.bounds) (get_or-map item_of entries i d no_item h)

pub reference_at-any : {D : ℕ} (entries : List (Entry D)) (i : ℕ) (d : Entry D) → i < length entries
    → reference_at (items_of entries) i ≡ (get_or entries i d).reference
reference_at-any entries i d h = ap (λ (x : Item). x.reference) (get_or-map item_of entries i d no_item h)
