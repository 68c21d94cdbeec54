-- A table has few pages beside its objects.
use Rattle.std.proofs.Common.{◌≡◌, ℕ, ◌+◌, ◌-◌, ◌*◌, ◌<◌, ◌≤◌, true, false, length, refl, subst, ⊎_elim}
use Rattle.std.proofs.Common.{arith, length-append}
use Rattle.std.proofs.lemmas.Bool.{cases_eq}
use Rattle.box_math.specs.Measures.{sum_over}
use Rattle.node_page.specs.Parts.{both, one_page}
use Rattle.node_page.specs.Standing.{PageMap}
use Rattle.node_page.proofs.CountLemmas.{sum_both, sum_none, sum_one}
use Rattle.id_tree.specs.Laws.{HasFewPages}
use Rattle.id_tree.specs.Tree.{IsFilled, IsLarge, Row, end, more, object, child, RowStands, at_edge, links_of}
use Rattle.id_tree.specs.Tree.{objects_in, occurs}
use Rattle.id_tree.proofs.CountLemmas.{nodes}
use Rattle.id_tree.proofs.CutLemmas.{least_some}

-- the pages below a row, counted by number
sum_nodes : (limit : ℕ) (row : Row) → sum_over limit (λ n. occurs n row) ≤ nodes row
unfolding nodes
sum_nodes limit end = omega (arith, sum_none limit)
sum_nodes limit (more (object id kept) rest) = sum_nodes limit rest
sum_nodes limit (more (child key page below) rest) = omega (
  arith,
  sum_both limit (both (one_page page) (λ n. occurs n below)) (λ n. occurs n rest),
  sum_both limit (one_page page) (λ n. occurs n below),
  sum_one limit page,
  sum_nodes limit below,
  sum_nodes limit rest,
)

leaf_nodes : (dims : ℕ) (pages : PageMap) (row : Row) → RowStands dims pages 0 row → nodes row ≡ 0
unfolding nodes
leaf_nodes dims pages end stands = refl
leaf_nodes dims pages (more (object id kept) rest) stands = leaf_nodes dims pages rest stands.1
leaf_nodes dims pages (more (child key page below) rest) stands = absurd (omega (arith, stands.0))

-- children that are all large
large_children : (dims : ℕ) (pages : PageMap) (level : ℕ) (row : Row) → RowStands dims pages level row
    → IsFilled dims level false row → 0 < level → 28 * nodes row + length (links_of row) ≤ length
    (objects_in row)
unfolding nodes
large_children dims pages level end stands filled high = omega arith
large_children dims pages level (more (object id kept) rest) stands filled high =
    absurd (omega (arith, high, stands.0))
large_children dims pages level (more (child key page below) rest) stands filled high =
    let off = away rest in
    let large : IsLarge dims (level - 1) below = filled.0 off in
    let inner : IsFilled dims (level - 1) false below =
    subst (λ e. IsFilled dims (level - 1) e below) off filled.1 in
    let later = large_children dims pages level rest stands.5 filled.2 high in
    let sum = length-append (objects_in below) (objects_in rest) in
    ⊎_elim
    (λ (low : level - 1 ≡ 0).
    let none = leaf_nodes dims pages below (subst (λ l. RowStands dims pages l below) low stands.4) in
    let many = large.leaf low in
    omega (arith, none, many, least_some dims, later, sum))
    (λ (up : ¬ (level - 1 ≡ 0)).
    let above : 0 < level - 1 = omega (arith, up) in
    let many = large.fork above in
    let here = large_children dims pages (level - 1) below stands.4 inner above in
    omega (arith, here, many, later, sum))
    (cases_eq (level - 1) 0)
  where
    away : (rest : Row) → at_edge false rest ≡ false
    away end = refl
    away (more b r) = refl

-- one large node and all below it
large_node : (dims : ℕ) (pages : PageMap) (level : ℕ) (row : Row) → RowStands dims pages level row
    → IsFilled dims level false row → IsLarge dims level row → 28 * (1 + nodes row) ≤ length (objects_in row)
large_node dims pages level row stands filled large = ⊎_elim
    (λ (low : level ≡ 0).
    let none = leaf_nodes dims pages row (subst (λ l. RowStands dims pages l row) low stands) in
    let many = large.leaf low in
    omega (arith, none, many, least_some dims))
    (λ (up : ¬ (level ≡ 0)).
    let high : 0 < level = omega (arith, up) in
    let many = large.fork high in
    omega (arith, large_children dims pages level row stands filled high, many))
    (cases_eq level 0)

-- with those at the edge, one on each level
edge_children : (dims : ℕ) (pages : PageMap) (level : ℕ) (row : Row) → RowStands dims pages level row
    → IsFilled dims level true row → 28 * nodes row ≤ length (objects_in row) + 28 * level
unfolding nodes
edge_children dims pages level end stands filled = omega arith
edge_children dims pages level (more (object id kept) rest) stands filled =
    omega (arith, edge_children dims pages level rest stands.1 filled)
edge_children dims pages level (more (child key page below) end) stands filled =
    omega (
      arith,
      stands.0,
      edge_children dims pages (level - 1) below stands.4 filled.1,
      length-append
          (objects_in below) (objects_in end),
    )
edge_children dims pages level (more (child key page below) (more b rest)) stands filled =
    omega (
      arith,
      large_node dims pages (level - 1) below stands.4 filled.1 (filled.0 refl),
      edge_children dims pages level (more b rest) stands.5 filled.2,
      length-append (objects_in below) (objects_in (more b rest)),
    )

pub few_pages : HasFewPages
few_pages dims limit pages t stands = omega (
  arith,
  sum_both limit (one_page t.page) (λ n. occurs n t.row),
  sum_one limit t.page,
  sum_nodes limit t.row,
  edge_children dims pages t.level t.row stands.below stands.filled,
  stands.bounded,
)
