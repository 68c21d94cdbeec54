-- The lists that a reading of leaves gives (our rule, docs/FORMAT.md, "Trees of pages").
use Rattle.std.specs.Prelude.{◌≡◌, ◌++◌, List, [], ℕ, map}
use Rattle.std.specs.declared.vec.Vec.{Vec}
use Rattle.tree_node.specs.Searches.{counted, nodes_in}
use Rattle.tree_node.specs.Trees.{Row, leaf_ids}
use Rattle.node_page.specs.Standing.{PageMap, StandsAt}

-- the elements of each list
abbrev pub lists_of : {H : Type 0} → Vec (Vec ℕ H) H → List (List ℕ)
lists_of lists = map (λ list. list.items) lists.items

-- A tree stands at the page, whose leaves were appended to the lists, and each of whose nodes was looked at
-- once.
pub record AddsLeavesAt (dims : ℕ) (pages : PageMap) (page level : ℕ) (lists_before lists : List (List ℕ))
    (looks_before looks : ℕ) : Type 0 where
  pub row : Row
  pub stands : StandsAt dims pages page level row
  pub lists_are : lists ≡ lists_before ++ leaf_ids level row
  pub looks_are : looks ≡ counted looks_before (nodes_in (record { page = page; level = level; row = row }))

-- the lists are its leaves alone
abbrev pub AreLeavesAt : ℕ → PageMap → ℕ → ℕ → List (List ℕ) → ℕ → ℕ → Type 0
AreLeavesAt dims pages page level lists looks_before looks =
    AddsLeavesAt dims pages page level [] lists looks_before looks
