-- The page that is damaged is the node's, or one that a walk from a child comes to.
use Rattle.std.proofs.Common.{◌≡◌, ℕ, ◌<◌, Bool, Some, List, All, length, map, get_or, refl, sym, subst}
use Rattle.std.proofs.Common.{rules}
use Rattle.std.proofs.lemmas.List.Elements.{All-filter, All-from_get_or, All-get_or, All-map}
use Rattle.box_math.specs.Bounds.{Bounds}
use Rattle.tree_node.specs.Boxes.{no_item}
use Rattle.tree_node.specs.Nodes.{Item, NodeContent}
use Rattle.node_page.specs.Checked.{ComesTo, Names}
use Rattle.node_page.specs.Standing.{PageMap, node_in}
use Rattle.node_page.proofs.DamageLemmas.{comes_below_so, comes_on, entry_names}
use Rattle.range_query.specs.Entries.{passing_entries, reference_of}

-- what is taken of the entries of a node above the leaves is named by it
pub taken_are_named : (guard : Bounds → Bool) (c : NodeContent) (pages : List ℕ) → 0 < c.level
    → pages ≡ map reference_of (passing_entries guard c.entries) → All (Names c) pages
taken_are_named guard c pages above taken =
    let named : Item → Type 0 = λ item. Names c item.reference in
    let all : All named c.entries =
    All-from_get_or named c.entries no_item
    (λ i within. entry_names c c.entries i (get_or c.entries i no_item) refl above within (search rules)) in
    subst (λ (ns : List ℕ). All (Names c) ns) (sym taken)
    (All-map (Names c) reference_of (passing_entries guard c.entries)
    (All-filter (λ (item : Item). guard item.bounds) named c.entries all))

-- a walk from a child, in pages that are the same, is one from the node
pub comes_by_child : (dims : ℕ) (old now : PageMap) (page : ℕ) (c : NodeContent) (children : List ℕ) (i n : ℕ)
    → node_in dims (old page) ≡ Some c → All (Names c) children → i < length children
    → ((k : ℕ) → now k ≡ old k) → ComesTo dims now (get_or children i 0) n → ComesTo dims old page n
comes_by_child dims old now page c children i n there named within same walk =
    comes_on dims old page c n there
    (comes_below_so dims old now c n same
    (get_or children i 0, All-get_or (Names c) children i 0 within named, walk))
