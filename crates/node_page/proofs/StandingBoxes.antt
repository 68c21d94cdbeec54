-- The boxes and the references of a tree that stands in pages.
use Rattle.std.proofs.Common.{◌≡◌, ℕ, ◌+◌, ◌-◌, ◌^◌, ◌<◌, ◌≤◌, false, eqb, Option, Some, None, List, All}
use Rattle.std.proofs.Common.{refl, subst, ⊎_elim, arith}
use Rattle.std.proofs.lemmas.Bool.{cases_eq}
use Rattle.std.proofs.lemmas.Bool.Decides.{nat_tests}
use Rattle.std.proofs.lemmas.List.Elements.{All-head, All-tail}
use Rattle.block_bytes.specs.Numbers.{AreBytes}
use Rattle.box_math.specs.Bounds.{IsBox}
use Rattle.box_math.specs.Objects.{bounds_of, tag_of}
use Rattle.tree_node.specs.Boxes.{RowHasBoxes}
use Rattle.tree_node.specs.Nodes.{Item}
use Rattle.tree_node.specs.Trees.{Row, end, more, object, child, occurs, row_items}
use Rattle.node_bytes.specs.Layout.{IsOfLevel, IsSpellable}
use Rattle.node_page.specs.Standing.{PageMap, HasNode, RowStands, node_in}
use Rattle.node_page.specs.StandingLaws.{BoxesAreBoxes, ChildPagesAreReferences}
use Rattle.node_bytes.proofs.Named.{spells_nodes}
use Rattle.node_page.proofs.PartLemmas.{none_or_some}
use Rattle.node_bytes.proofs.Reading.{spellable, spells}

node_boxes : (dims : ℕ) (pages : PageMap) (page level : ℕ) (row : Row)
    → ((n : ℕ) (bytes : List ℕ) → pages n ≡ Some bytes → AreBytes bytes) → HasNode dims pages page level row
    → All (λ item. IsBox dims item.bounds) (row_items row)
node_boxes dims pages page level row bytes node = case (pages page) refl node
  where
    case : (o : Option (List ℕ)) → pages page ≡ o
        → node_in dims o ≡ Some (record { level = level; entries = row_items row })
        → All (λ item. IsBox dims item.bounds) (row_items row)
    case None e n = absurd (cc)
    case (Some p) e n =
        (spells_nodes dims p (record { level = level; entries = row_items row }) (bytes page p e)
        (spells dims p (record { level = level; entries = row_items row }) n)).boxes

boxes_of : (dims : ℕ) (pages : PageMap) (level : ℕ) (row : Row)
    → ((n : ℕ) (bytes : List ℕ) → pages n ≡ Some bytes → AreBytes bytes)
    → All (λ item. IsBox dims item.bounds) (row_items row) → RowStands dims pages level row
    → RowHasBoxes dims row
boxes_of dims pages level end bytes boxes stands = tt
boxes_of dims pages level (more (object kept id) rest) bytes boxes stands =
    let item : Item = record { bounds = bounds_of kept; reference = id; tag = tag_of kept } in (
      All-head (λ (x : Item). IsBox dims x.bounds) item (row_items rest) boxes,
      boxes_of dims pages level rest bytes
          (All-tail (λ (x : Item). IsBox dims x.bounds) item (row_items rest) boxes) stands.1,
    )
boxes_of dims pages level (more (child bounds page below) rest) bytes boxes stands =
    let item : Item = record { bounds = bounds; reference = page; tag = 0 } in (
      All-head (λ (x : Item). IsBox dims x.bounds) item (row_items rest) boxes,
      boxes_of dims pages (level - 1) below bytes
          (node_boxes dims pages page (level - 1) below bytes stands.1) stands.2,
      boxes_of dims pages level rest bytes
          (All-tail (λ (x : Item). IsBox dims x.bounds) item (row_items rest) boxes) stands.3,
    )

pub boxes_are_boxes : BoxesAreBoxes
boxes_are_boxes dims pages t bytes stands =
    boxes_of dims pages t.level t.row bytes (node_boxes dims pages t.page t.level t.row bytes stands.root)
    stands.below

-- ---- references

abbrev AreReferences : ℕ → Row → Type 0
AreReferences level row = All (λ item. IsOfLevel level item.reference item.tag) (row_items row)

-- the node at a page can be spelled
pub node_spellable : (dims : ℕ) (pages : PageMap) (page level : ℕ) (row : Row)
    → HasNode dims pages page level row → IsSpellable (record { level = level; entries = row_items row })
node_spellable dims pages page level row node = case (pages page) node
  where
    case : (o : Option (List ℕ)) → node_in dims o ≡ Some (record { level = level; entries = row_items row })
        → IsSpellable (record { level = level; entries = row_items row })
    case None n = absurd (cc)
    case (Some p) n =
        spellable dims p (record { level = level; entries = row_items row })
        (spells dims p (record { level = level; entries = row_items row }) n)

below_refers : (dims : ℕ) (pages : PageMap) (level n : ℕ) (row : Row) → AreReferences level row
    → RowStands dims pages level row → 0 < occurs n row → (3 ≤ n) × (n < 2 ^ 31)
below_refers dims pages level n end refers stands some = absurd (omega (arith, some))
below_refers dims pages level n (more (object kept id) rest) refers stands some =
    below_refers dims pages level n rest
    (All-tail (λ (x : Item). IsOfLevel level x.reference x.tag)
    (record { bounds = bounds_of kept; reference = id; tag = tag_of kept }) (row_items rest) refers)
    stands.1 some
below_refers dims pages level n (more (child bounds page below) rest) refers stands some =
    let item : Item = record { bounds = bounds; reference = page; tag = 0 } in
    let here =
    All-head (λ (x : Item). IsOfLevel level x.reference x.tag) item (row_items rest) refers stands.0 in
    ⊎_elim
    (λ (is : page ≡ n). subst (λ k. (3 ≤ k) × (k < 2 ^ 31)) is (here.0, here.1))
    (λ differs.
    let test : eqb page n ≡ false = grind (arith, nat_tests) in
    let seen : 0 < 0 + occurs n below + occurs n rest = rw test at some in
    ⊎_elim
    (λ (none : occurs n below ≡ 0).
    below_refers dims pages level n rest
    (All-tail (λ (x : Item). IsOfLevel level x.reference x.tag) item (row_items rest) refers) stands.3
    (omega (arith, none, seen)))
    (λ (there : 0 < occurs n below). below_refers dims pages (level - 1) n below
    (node_spellable dims pages page (level - 1) below stands.1).refers stands.2 there)
    (none_or_some (occurs n below)))
    (cases_eq page n)

pub child_pages_are_references : ChildPagesAreReferences
child_pages_are_references dims pages t n stands some =
    below_refers dims pages t.level n t.row
    (node_spellable dims pages t.page t.level t.row stands.root).refers stands.below some

pub ruleset box_laws = (boxes_are_boxes, child_pages_are_references)
