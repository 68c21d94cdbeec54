-- What lists and maps of objects say of identifiers: the words that the tables of identifiers share.
use Rattle.std.specs.Prelude.{◌≡◌, ℕ, ◌+◌, List, [], ◌∷◌, Option, Some, None, false, ⊤, if◌then◌else◌, ◌==◌}
use Rattle.std.specs.FinMap as map
use Rattle.std.specs.FinMap.{FinMap}
use Rattle.std.specs.Ordering.{nat_cmp}
use Rattle.box_math.specs.Bounds.{Bounds}
use Rattle.box_math.specs.Objects.{Object, tag_of}
use Rattle.bucket_page.specs.Layout.{Entry}
use Rattle.tree_node.specs.Nodes.{items_of}
use Rattle.tree_node.specs.declared.node.Entry.{Entry as Leaf}
use Rattle.node_page.specs.Checked.{pairs_of}

-- what is kept of the first of the objects with an identifier
abbrev pub kept_in : ℕ → List Entry → Option Object
kept_in id [] = None
kept_in id (x ∷ xs) = if x.0 == id then Some x.1 else kept_in id xs

-- how many of the objects have an identifier
abbrev pub times_in : ℕ → List Entry → ℕ
times_in id [] = 0
times_in id (x ∷ xs) = (if x.0 == id then 1 else 0) + times_in id xs

-- an object with another box
abbrev pub with_box : Object → Bounds → Object
with_box object box = (box, tag_of object)

-- a map with objects added one after the other
abbrev pub with_all : FinMap nat_cmp Object → List Entry → FinMap nat_cmp Object
with_all m [] = m
with_all m (object ∷ objects) = with_all (map.insert m object.0 object.1) objects

-- none of the objects has an identifier of the map, or one that an object before it has
abbrev pub AreNew : FinMap nat_cmp Object → List Entry → Type 0
AreNew m [] = ⊤
AreNew m (object ∷ objects) = (map.contains_key m object.0 ≡ false)
    × AreNew (map.insert m object.0 object.1) objects

-- the objects of entries of leaves
abbrev pub pairs_in : {D : ℕ} → List (Leaf D) → List Entry
pairs_in entries = pairs_of (items_of entries)
