-- Trees that stand, by lists of their entries, and changes of pages beside what stays.
use Rattle.std.proofs.Common.{◌≡◌, ℕ, zero, suc, ◌+◌, ◌<◌, ◌≤◌, IsSome, cond, eqb, List, [], ◌∷◌, ◌++◌, take}
use Rattle.std.proofs.Common.{drop, arith}
use Rattle.std.proofs.lemmas.Bool.Decides.{nat_tests}
use Rattle.tree_node.specs.Trees.{Row, end, more, Branch, object, child}
use Rattle.tree_node.specs.Rows.{row_of}
use Rattle.tree_node.specs.Positions.{pick}
use Rattle.node_page.specs.Standing.{PageMap, RowStands}
use Rattle.node_page.specs.Parts.{Moves}
use Rattle.node_page.proofs.PartLemmas.{moves_beside, the_rest_stays}

-- ---- trees that stand

stands_first : (dims : ℕ) (m : PageMap) (level : ℕ) (x : Branch) (rest : Row)
    → RowStands dims m level (more x rest) → RowStands dims m level (more x end) × RowStands dims m level rest
stands_first dims m level (object kept id) rest h = ((h.0, tt), h.1)
stands_first dims m level (child bounds page below) rest h = ((h.0, h.1, h.2, tt), h.3)

stands_more : (dims : ℕ) (m : PageMap) (level : ℕ) (x : Branch) (rest : Row)
    → RowStands dims m level (more x end) → RowStands dims m level rest → RowStands dims m level (more x rest)
stands_more dims m level (object kept id) rest h k = (h.0, k)
stands_more dims m level (child bounds page below) rest h k = (h.0, h.1, h.2, k)

pub RowStands-append : (dims : ℕ) (m : PageMap) (level : ℕ) (xs ys : List Branch)
    → RowStands dims m level (row_of xs) → RowStands dims m level (row_of ys)
    → RowStands dims m level (row_of (xs ++ ys))
RowStands-append dims m level [] ys h k = k
RowStands-append dims m level (x ∷ xs) ys h k =
    let parts = stands_first dims m level x (row_of xs) h in
    stands_more dims m level x (row_of (xs ++ ys)) parts.0 (RowStands-append dims m level xs ys parts.1 k)

RowStands-at : (dims : ℕ) (m : PageMap) (level i : ℕ) (xs : List Branch) → RowStands dims m level (row_of xs)
    → RowStands dims m level (row_of (take 1 (drop i xs)))
RowStands-at dims m level zero [] h = h
RowStands-at dims m level zero (x ∷ xs) h = (stands_first dims m level x (row_of xs) h).0
RowStands-at dims m level (suc i) [] h = h
RowStands-at dims m level (suc i) (x ∷ xs) h =
    RowStands-at dims m level i xs (stands_first dims m level x (row_of xs) h).1

pub RowStands-pick : (dims : ℕ) (m : PageMap) (level : ℕ) (xs : List Branch) (places : List ℕ)
    → RowStands dims m level (row_of xs) → RowStands dims m level (row_of (pick xs places))
RowStands-pick dims m level xs [] h = tt
RowStands-pick dims m level xs (at ∷ places) h =
    RowStands-append dims m level (take 1 (drop at xs)) (pick xs places) (RowStands-at dims m level at xs h)
    (RowStands-pick dims m level xs places h)

-- ---- counting a page

pub zero_there : (a b : ℕ) → ¬ (a ≡ b) → ◌≡◌ {A = ℕ} (cond (eqb a b) 1 0) 0
zero_there a b differs = grind (arith, nat_tests)

pub one_at_most : (a b : ℕ) → cond (eqb a b) 1 0 ≤ 1
one_at_most a b = grind (arith, nat_tests)

-- ---- changes beside what stays

module _ (m m' : PageMap) (a b r : ℕ → ℕ) (h : Moves m m' a b) (apart : (n : ℕ) → a n + r n ≤ 1)
    (live : (n : ℕ) → 0 < r n → IsSome (m n)) where
  pub rest_same : (n : ℕ) → 0 < r n → m' n ≡ m n
  rest_same n there = (the_rest_stays m m' a b r h live apart n there).0

  pub moves_with : Moves m m' (λ n. a n + r n) (λ n. b n + r n)
  moves_with = moves_beside m m' a b r h live apart

  pub rest_once : (n : ℕ) → b n + r n ≤ 1
  rest_once n = moves_with.once n
