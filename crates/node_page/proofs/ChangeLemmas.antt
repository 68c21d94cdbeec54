-- What stands beside a change of some pages.
use Rattle.std.proofs.Common.{◌≡◌, ℕ, ◌<◌, ◌≤◌, [], ◌∷◌, ⊎_elim, arith}
use Rattle.tree_node.proofs.RowLemmas.{occurs_one}
use Rattle.tree_node.specs.Rows.{occurs_on}
use Rattle.tree_node.specs.Trees.{Row, end, more, object, child, occurs, occurs_in}
use Rattle.node_page.specs.Changes.{ChildrenStand, TreesBelowStand, TreesBesideStand, WaitersBesideStand}
use Rattle.node_page.specs.Parts.{Moves, Part}
use Rattle.node_page.specs.Standing.{PageMap, RowStands}
use Rattle.node_page.proofs.PartLemmas.{none_or_some, not_new}
use Rattle.node_page.proofs.StandingLemmas.{below_there, equal_pages_stand, pages_are_there, row_stays}

pub trees_beside_stand : TreesBesideStand
trees_beside_stand dims old new was now t moves stands apart =
    let none : (n : ℕ) → 0 < occurs_in n t
    → now n ≡ 0 =
    λ n here. not_new old new was now n moves (apart n here) (pages_are_there dims old t n stands here) in
    (equal_pages_stand dims old new t (λ n here. moves.outside n (apart n here) (none n here)) stands, none)

-- the trees below entries stand after a change of other pages, too
pub row_beside : (dims : ℕ) (old new : PageMap) (was now : Part) (level : ℕ) (row : Row)
    → Moves old new was now → RowStands dims old level row → ((n : ℕ) → 0 < occurs n row → was n ≡ 0)
    → RowStands dims new level row × ((n : ℕ) → 0 < occurs n row → now n ≡ 0)
row_beside dims old new was now level row moves stands apart =
    let none : (n : ℕ) → 0 < occurs n row
    → now n ≡ 0 =
    λ n here. not_new old new was now n moves (apart n here)
    (below_there dims old level row n stands here) in
    (row_stays dims old new level row (λ n here. moves.outside n (apart n here) (none n here)) stands, none)

pub waiters_beside_stand : WaitersBesideStand
waiters_beside_stand dims old new was now [] moves wait apart = (tt, λ n here. absurd (omega (arith, here)))
waiters_beside_stand dims old new was now (w ∷ ws) moves wait apart =
    let first =
    row_beside dims old new was now w.level (more w.branch end) moves wait.0
    (λ n here. apart n (omega (arith, here, occurs_one n w.branch))) in
    let later =
    waiters_beside_stand dims old new was now ws moves wait.1
    (λ n here. apart n (omega (arith, here))) in (
      (first.0, later.0),
      λ n here. ⊎_elim
          (λ (none : occurs_on n w.branch ≡ 0). later.1 n (omega (arith, none, here)))
          (λ (some : 0 < occurs_on n w.branch). first.1 n (omega (arith, some, occurs_one n w.branch)))
          (none_or_some (occurs_on n w.branch)),
    )

children_stand : (dims : ℕ) (pages : PageMap) (level : ℕ) (row : Row) → RowStands dims pages level row
    → ((n : ℕ) → occurs n row ≤ 1) → ChildrenStand dims pages level row
children_stand dims pages level end h once = tt
children_stand dims pages level (more (object kept id) rest) h once =
    children_stand dims pages level rest h.1 once
children_stand dims pages level (more (child bounds page below) rest) h once = (
  record { root = h.1; below = h.2; distinct = λ n. omega (arith, once n) },
  children_stand dims pages level rest h.3 (λ n. omega (arith, once n)),
)

pub trees_below_stand : TreesBelowStand
trees_below_stand dims pages t stands =
    children_stand dims pages t.level t.row stands.below (λ n. omega (arith, stands.distinct n))

pub ruleset change_laws = (trees_beside_stand, waiters_beside_stand, trees_below_stand)
