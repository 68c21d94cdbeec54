-- What holds of trees in pages.
use Rattle.std.proofs.Common.{◌≡◌, ℕ, ◌+◌, ◌-◌, ◌<◌, ◌≤◌, true, false, Option, Some, None, IsSome, eqb, List}
use Rattle.std.proofs.Common.{refl, sym, ap, subst, ◌∙◌, ⊎_elim, arith}
use Rattle.std.proofs.lemmas.Bool.{cases_eq}
use Rattle.std.proofs.lemmas.Bool.Decides.{nat_tests}
use Rattle.box_math.specs.Objects.{bounds_of, tag_of}
use Rattle.tree_node.specs.Nodes.{NodeContent, Item}
use Rattle.tree_node.specs.Trees.{Tree, Row, end, more, object, child, RowOnLevel, row_items, occurs}
use Rattle.tree_node.specs.Trees.{occurs_in, with_node, tree_with_node}
use Rattle.node_page.specs.Standing.{PageMap, HasNode, RowStands, Stands, StandsAt, node_in}
use Rattle.tree_node.proofs.RowLemmas.{items_with_node, occurs_here, same_child, same_first, same_object}
use Rattle.tree_node.proofs.RowLemmas.{same_tree}
use Rattle.node_page.specs.StandingLaws.{OneTreeStands, EqualPagesStand, LevelsAreKept, PagesAreThere}
use Rattle.node_page.specs.StandingLaws.{ReplacedNodeStands}

-- a page spells one node
pub same_content : (dims : ℕ) (pages : PageMap) (page : ℕ) (a b : NodeContent)
    → node_in dims (pages page) ≡ Some a → node_in dims (pages page) ≡ Some b → a ≡ b
same_content dims pages page a b h k = cc

same_level : (dims : ℕ) (pages : PageMap) (page level level' : ℕ) (a b : Row)
    → HasNode dims pages page level a → HasNode dims pages page level' b → level ≡ level'
same_level dims pages page level level' a b h k =
    ap (λ (x : NodeContent). x.level) (same_content dims pages page _ _ h k)

-- a node stays where its bytes do
pub node_stays : (dims : ℕ) (old new : PageMap) (page level : ℕ) (row : Row) → new page ≡ old page
    → HasNode dims old page level row → HasNode dims new page level row
node_stays dims old new page level row same h = ap (node_in dims) same ∙ h

-- and so do the trees below one
pub row_stays : (dims : ℕ) (old new : PageMap) (level : ℕ) (row : Row)
    → ((n : ℕ) → 0 < occurs n row → new n ≡ old n) → RowStands dims old level row
    → RowStands dims new level row
row_stays dims old new level end same h = h
row_stays dims old new level (more (object kept id) rest) same h =
    (h.0, row_stays dims old new level rest same h.1)
row_stays dims old new level (more (child bounds page below) rest) same h = (
  h.0,
  node_stays dims old new page (level - 1) below (same page (omega (arith, occurs_here page))) h.1,
  row_stays dims old new (level - 1) below (λ n p. same n (omega arith)) h.2,
  row_stays dims old new level rest (λ n p. same n (omega arith)) h.3,
)

-- ---- one tree stands

pub one_row : (dims : ℕ) (pages : PageMap) (level : ℕ) (a b : Row)
    → ◌≡◌ {A = List Item} (row_items a) (row_items b) → RowStands dims pages level a
    → RowStands dims pages level b → a ≡ b
one_row dims pages level end end same h k = refl
one_row dims pages level end (more (object kept' id') rest') same h k = absurd (cc)
one_row dims pages level end (more (child bounds' page' below') rest') same h k = absurd (cc)
one_row dims pages level (more (object kept id) rest) end same h k = absurd (cc)
one_row dims pages level (more (object kept id) rest) (more (object kept' id') rest') same h k =
    let parts =
    same_first (bounds_of kept) (bounds_of kept') id id' (tag_of kept) (tag_of kept') (row_items rest)
    (row_items rest') same in
    same_object kept kept' id id' rest rest' parts.0 parts.2 parts.1
    (one_row dims pages level rest rest' parts.3 h.1 k.1)
one_row dims pages level (more (object kept id) rest) (more (child bounds' page' below') rest') same h k =
    absurd (omega (arith, h.0, k.0))
one_row dims pages level (more (child bounds page below) rest) end same h k = absurd (cc)
one_row dims pages level (more (child bounds page below) rest) (more (object kept' id') rest') same h k =
    absurd (omega (arith, h.0, k.0))
one_row dims pages level (more (child bounds page below) rest) (more (child bounds' page' below') rest') same
    h k =
    let parts = same_first bounds bounds' page page' 0 0 (row_items rest) (row_items rest') same in
    let node : HasNode dims pages page' (level - 1) below =
    subst (λ n. HasNode dims pages n (level - 1) below) parts.1 h.1 in
    let content =
    same_content dims pages page' (record { level = level - 1; entries = row_items below })
    (record { level = level - 1; entries = row_items below' }) node k.1 in
    let belows =
    one_row dims pages (level - 1) below below' (ap (λ (x : NodeContent). x.entries) content) h.2 k.2 in
    same_child bounds bounds' page page' below below' rest rest' parts.0 parts.1 belows
    (one_row dims pages level rest rest' parts.3 h.3 k.3)

-- two trees that stand at a page and level are the same
pub one_row_stands : (dims : ℕ) (pages : PageMap) (page level : ℕ) (a b : Row)
    → StandsAt dims pages page level a → StandsAt dims pages page level b → a ≡ b
one_row_stands dims pages page level a b first second =
    let content =
    same_content dims pages page (record { level = level; entries = row_items a })
    (record { level = level; entries = row_items b }) first.node second.node in
    one_row dims pages level a b (ap (λ (x : NodeContent). x.entries) content) first.below second.below

pub one_tree_stands : OneTreeStands
one_tree_stands dims pages s t at_page first second =
    let there : HasNode dims pages t.page s.level s.row =
    subst (λ n. HasNode dims pages n s.level s.row) at_page first.root in
    let at_level = same_level dims pages t.page s.level t.level s.row t.row there second.root in
    let here : HasNode dims pages t.page t.level s.row =
    subst (λ l. HasNode dims pages t.page l s.row) at_level there in
    let content =
    same_content dims pages t.page (record { level = t.level; entries = row_items s.row })
    (record { level = t.level; entries = row_items t.row }) here second.root in
    same_tree s.page t.page s.level t.level s.row t.row at_page at_level
    (one_row dims pages t.level s.row t.row (ap (λ (x : NodeContent). x.entries) content)
    (subst (λ l. RowStands dims pages l s.row) at_level first.below) second.below)

-- ---- its pages, and its levels

-- a page with a node is there
pub page_of_node : (dims : ℕ) (page : Option (List ℕ)) (c : NodeContent) → node_in dims page ≡ Some c
    → IsSome page
page_of_node dims None c e = absurd (cc)
page_of_node dims (Some bytes) c e = refl

pub below_there : (dims : ℕ) (pages : PageMap) (level : ℕ) (row : Row) (n : ℕ)
    → RowStands dims pages level row → 0 < occurs n row → IsSome (pages n)
below_there dims pages level end n h some = absurd (omega (arith, some))
below_there dims pages level (more (object kept id) rest) n h some =
    below_there dims pages level rest n h.1 some
below_there dims pages level (more (child bounds page below) rest) n h some = ⊎_elim
    (λ (is : page ≡ n). subst (λ k. IsSome (pages k)) is (page_of_node dims (pages page) _ h.1))
    (λ differs.
    let test : eqb page n ≡ false = grind (arith, nat_tests) in
    let seen : 0 < 0 + occurs n below + occurs n rest = rw test at some in
    let others : 0 < occurs n below + occurs n rest = omega (arith, seen) in
    ⊎_elim
    (λ (none : occurs n below ≡ 0). below_there dims pages level rest n h.3 (omega (arith, none, others)))
    (λ (more_below : ¬ (occurs n below ≡ 0)). below_there dims pages (level - 1) below n h.2
    (omega (arith, more_below)))
    (cases_eq (occurs n below) 0))
    (cases_eq page n)

pub pages_are_there : PagesAreThere
pages_are_there dims pages t n stands some = ⊎_elim
    (λ (is : t.page ≡ n). subst (λ k. IsSome (pages k)) is (page_of_node dims (pages t.page) _ stands.root))
    (λ differs.
    let test : eqb t.page n ≡ false = grind (arith, nat_tests) in
    let seen : 0 < 0 + occurs n t.row = rw test at some in
    below_there dims pages t.level t.row n stands.below (omega (arith, seen)))
    (cases_eq t.page n)

pub row_on_level : (dims : ℕ) (pages : PageMap) (level : ℕ) (row : Row) → RowStands dims pages level row
    → RowOnLevel level row
row_on_level dims pages level end h = tt
row_on_level dims pages level (more (object kept id) rest) h = (h.0, row_on_level dims pages level rest h.1)
row_on_level dims pages level (more (child bounds page below) rest) h =
    (h.0, row_on_level dims pages (level - 1) below h.2, row_on_level dims pages level rest h.3)

pub levels_are_kept : LevelsAreKept
levels_are_kept dims pages t stands = row_on_level dims pages t.level t.row stands.below

pub equal_pages_stand : EqualPagesStand
equal_pages_stand dims old new t same stands = record {
  root = node_stays dims old new t.page t.level t.row (same t.page (omega (arith, occurs_here t.page)))
      stands.root;
  below = row_stays dims old new t.level t.row (λ n p. same n (omega arith)) stands.below;
  distinct = stands.distinct;
}

-- ---- one node is replaced

has_with_node : (dims : ℕ) (pages : PageMap) (at level page : ℕ) (now row : Row)
    → HasNode dims pages at level row → HasNode dims pages at level (with_node page now row)
has_with_node dims pages at level page now row h = h
    ∙ ap (λ (xs : List Item). Some (record { level = level; entries = xs }))
    (sym (items_with_node page now row))

module _ (dims : ℕ) (old new : PageMap) (page level : ℕ) (was now : Row)
    (before : HasNode dims old page level was) (off : (n : ℕ) → ¬ (n ≡ page) → new n ≡ old n)
    (there : HasNode dims new page level now) (stands : RowStands dims new level now) where
  row_with_node : (l : ℕ) (row : Row) → RowStands dims old l row
      → RowStands dims new l (with_node page now row)
  row_with_node l end h = h
  row_with_node l (more (object kept id) rest) h = (h.0, row_with_node l rest h.1)
  row_with_node l (more (child bounds q below) rest) h =
      let later = row_with_node l rest h.3 in
      let inner = row_with_node (l - 1) below h.2 in
      ⊎_elim
      (λ is.
      let test : eqb q page ≡ true = grind (arith, nat_tests) in
      let levels : level ≡ l - 1 =
      same_level dims old page level (l - 1) was below before
      (subst (λ n. HasNode dims old n (l - 1) below) is h.1) in
      rw test (
        h.0,
        subst (λ n. HasNode dims new n (l - 1) now) (sym is)
            (subst (λ k. HasNode dims new page k now) levels there),
        subst (λ k. RowStands dims new k now) levels stands,
        later,
      ))
      (λ differs.
      let test : eqb q page ≡ false = grind (arith, nat_tests) in
      rw test (
        h.0,
        has_with_node dims new q (l - 1) page now below
            (node_stays dims old new q (l - 1) below (off q differs) h.1),
        inner,
        later,
      ))
      (cases_eq q page)

  with_node_stands : (t : Tree) → Stands dims old t → ((n : ℕ) → occurs_in n (tree_with_node t page now) ≤ 1)
      → Stands dims new (tree_with_node t page now)
  with_node_stands t whole once =
      ⊎_elim
      (λ is.
      let test : eqb t.page page ≡ true = grind (arith, nat_tests) in
      let levels : level ≡ t.level =
      same_level dims old page level t.level was t.row before
      (subst (λ n. HasNode dims old n t.level t.row) is whole.root) in
      record {
        root = rw test
            (subst (λ n. HasNode dims new n t.level now) (sym is)
            (subst (λ k. HasNode dims new page k now) levels there));
        below = rw test (subst (λ k. RowStands dims new k now) levels stands);
        distinct = once;
      })
      (λ differs.
      let test : eqb t.page page ≡ false = grind (arith, nat_tests) in
      record {
        root = rw test
            (has_with_node dims new t.page t.level page now t.row
            (node_stays dims old new t.page t.level t.row (off t.page differs) whole.root));
        below = rw test (row_with_node t.level t.row whole.below);
        distinct = once;
      })
      (cases_eq t.page page)

pub a_replaced_node_stands : ReplacedNodeStands
a_replaced_node_stands dims old new t page level was now whole before off there stands once =
    with_node_stands dims old new page level was now before off there stands t whole once

pub ruleset tree_laws = (one_tree_stands, equal_pages_stand, pages_are_there, levels_are_kept)
