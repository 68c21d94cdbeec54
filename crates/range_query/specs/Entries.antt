-- The entries of a node of which a search takes something (Guttman 1984, Search).
use Rattle.std.specs.Prelude.{ℕ, ◌&&◌, Bool, List, Option}
use Rattle.std.specs.List.{filter}
use Rattle.box_math.specs.Bounds.{Bounds}
use Rattle.box_math.specs.Objects.{Object, has_tag}
use Rattle.tree_node.specs.Nodes.{Item}

-- those whose boxes pass a test, by position
abbrev pub passing_entries : (Bounds → Bool) → List Item → List Item
passing_entries test items = filter (λ item. test item.bounds) items

-- those of a leaf whose boxes pass it and whose objects have the tag that is asked for, if one is
abbrev pub wanted : (Bounds → Bool) → Option ℕ → Item → Bool
wanted test tag item = test item.bounds && has_tag tag (item.bounds, item.tag)

abbrev pub wanted_entries : (Bounds → Bool) → Option ℕ → List Item → List Item
wanted_entries test tag items = filter (wanted test tag) items

-- the object of an entry of a leaf: its identifier and what is kept of it
abbrev pub object_of : Item → ℕ × Object
object_of item = (item.reference, (item.bounds, item.tag))

-- the identifier, or the page of a child
abbrev pub reference_of : Item → ℕ
reference_of item = item.reference
