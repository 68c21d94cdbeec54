-- How many pages a tree has, and so how many levels.
use Rattle.std.proofs.Common.{◌≡◌, ◌∙◌, ℕ, suc, ◌+◌, ◌-◌, ◌*◌, ◌^◌, ◌<◌, ◌≤◌, ◌||◌, Bool, true, false, cond}
use Rattle.std.proofs.Common.{eqb, IsSome, List, [], ◌∷◌, ◌++◌, length, refl, ap, subst, ⊎_elim, arith}
use Rattle.std.proofs.Common.{length-append}
use Rattle.std.proofs.lemmas.Bool.{cases_eq}
use Rattle.std.proofs.lemmas.Bool.Decides.{nat_tests}
use Rattle.std.proofs.lemmas.Map.Steps.{length-le_from_distinct_below}
use Rattle.std.specs.List.{IsDistinct, AllByRecursion, list_any}
use Rattle.node_page.specs.Standing.{PageMap}
use Rattle.id_tree.specs.Steps.{IsFullTree}
use Rattle.id_tree.specs.Tree.{IdTree, IsFilled, IsLarge, Row, end, more, object, child, RowStands, at_edge}
use Rattle.id_tree.specs.Tree.{links_of, occurs}
use Rattle.id_tree.proofs.NodeLemmas.{below_there, occurs_here}

-- how many pages are below a node, and which
unfoldable pub nodes : Row → ℕ
nodes end = 0
nodes (more (object id kept) rest) = nodes rest
nodes (more (child key page below) rest) = 1 + nodes below + nodes rest

numbers : Row → List ℕ
numbers end = []
numbers (more (object id kept) rest) = numbers rest
numbers (more (child key page below) rest) = page ∷ (numbers below ++ numbers rest)

many : ℕ → List ℕ → ℕ
many n [] = 0
many n (x ∷ xs) = (cond (eqb x n) 1 0) + many n xs

many-append : (n : ℕ) (xs ys : List ℕ) → many n (xs ++ ys) ≡ many n xs + many n ys
unfolding many
many-append n [] ys = omega arith
many-append n (x ∷ xs) ys = omega (arith, many-append n xs ys)

numbers_counted : (n : ℕ) (row : Row) → many n (numbers row) ≡ occurs n row
unfolding many numbers
numbers_counted n end = refl
numbers_counted n (more (object id kept) rest) = numbers_counted n rest
numbers_counted n (more (child key page below) rest) =
    omega (
      arith,
      many-append n (numbers below) (numbers rest),
      numbers_counted n below,
      numbers_counted n
          rest,
    )

numbers_long : (row : Row) → length (numbers row) ≡ nodes row
unfolding nodes numbers
numbers_long end = refl
numbers_long (more (object id kept) rest) = numbers_long rest
numbers_long (more (child key page below) rest) =
    omega (arith, length-append (numbers below) (numbers rest), numbers_long below, numbers_long rest)

apart_from : (p : ℕ) (xs : List ℕ) → many p xs ≡ 0 → AllByRecursion (λ y. eqb p y ≡ false) xs
unfolding many
apart_from p [] none = tt
apart_from p (x ∷ xs) none = (differ p x (omega (arith, none)), apart_from p xs (omega (arith, none)))
  where
    differ : (p k : ℕ) → ◌≡◌ {A = ℕ} (cond (eqb k p) 1 0) 0 → eqb p k ≡ false
    differ p k h = grind (arith, nat_tests)

are_distinct : (xs : List ℕ) → ((n : ℕ) → many n xs ≤ 1) → IsDistinct eqb xs
unfolding IsDistinct many
are_distinct [] once = tt
are_distinct (x ∷ xs) once =
    (apart_from x xs (omega (arith, once x, occurs_here x)), are_distinct xs (λ n. omega (arith, once n)))

some_there : (q : ℕ) (xs : List ℕ) → list_any (eqb q) xs ≡ true → 0 < many q xs
unfolding many
some_there q [] any = absurd (cc)
some_there q (x ∷ xs) any = ⊎_elim
    (λ (is : x ≡ q). let one : ◌≡◌ {A = ℕ} (cond (eqb x q) 1 0) 1 = ap (λ k. cond (eqb k q) 1 0) is
    ∙ occurs_here q in omega (arith, one))
    (λ (other : ¬ (x ≡ q)). let later = some_there q xs (skip q x (list_any (eqb q) xs) other any) in
    omega (arith, later))
    (cases_eq x q)
  where
    skip : (q k : ℕ) (rest : Bool) → ¬ (k ≡ q) → (eqb q k || rest) ≡ true → rest ≡ true
    skip q k rest other e = grind (arith, nat_tests)

-- pages of their own below a number are no more than that
nodes_few : (row : Row) (next : ℕ) → ((n : ℕ) → occurs n row ≤ 1) → ((n : ℕ) → 0 < occurs n row → n < next)
    → nodes row ≤ next
nodes_few row next once below =
    let few = length-le_from_distinct_below (numbers row) next
    (are_distinct (numbers row) (λ n. omega (arith, numbers_counted n row, once n)))
    (λ q any. below q (omega (arith, some_there q (numbers row) any, numbers_counted q row))) in
    omega (arith, few, numbers_long row)

-- ---- how many pages are below large nodes

nodes_links : (row : Row) → length (links_of row) ≤ nodes row
unfolding nodes
nodes_links end = omega arith
nodes_links (more (object id kept) rest) = nodes_links rest
nodes_links (more (child key page below) rest) = omega (arith, nodes_links rest)

-- each large node of a level has so many pages below it
HasMost : ℕ → PageMap → ℕ → ℕ → Type 0
HasMost dims pages level least = (row : Row) → RowStands dims pages level row → IsFilled dims level false row
    → IsLarge dims level row → least ≤ nodes row

-- so many for each child
children_have : (dims : ℕ) (pages : PageMap) (level least : ℕ) → HasMost dims pages level least → (row : Row)
    → RowStands dims pages (level + 1) row → IsFilled dims (level + 1) false row
    → least * length (links_of row) ≤ nodes row
unfolding nodes HasMost
children_have dims pages level least most end stands filled = let none : least * 0 ≡ 0 = omega arith in
    omega (arith, none)
children_have dims pages level least most (more (object id kept) rest) stands filled =
    absurd (omega (arith, stands.0))
children_have dims pages level least most (more (child key page below) rest) stands filled =
    let down : level + 1 - 1 ≡ level = omega arith in
    let off = away rest in
    let here = most below (subst (λ l. RowStands dims pages l below) down stands.4)
    (subst (λ e. IsFilled dims level e below) off
    (subst (λ l. IsFilled dims l (at_edge false rest) below) down filled.1))
    (subst (λ l. IsLarge dims l below) down (filled.0 off)) in
    let later = children_have dims pages level least most rest stands.5 filled.2 in
    let step : least * suc (length (links_of rest)) ≡ least + least * length (links_of rest) =
    times_more least (length (links_of rest)) in
    omega (arith, here, later, step)
  where
    away : (rest : Row) → at_edge false rest ≡ false
    away end = refl
    away (more b r) = refl

    times_more : (m n : ℕ) → m * suc n ≡ m + m * n
    times_more m n = grind arith

-- on the first levels
one : (dims : ℕ) (pages : PageMap) → HasMost dims pages 1 85
unfolding HasMost
one dims pages row stands filled large = let few = large.fork (omega arith) in
    omega (arith, few, nodes_links row)

two : (dims : ℕ) (pages : PageMap) → HasMost dims pages 2 7225
unfolding HasMost
two dims pages row stands filled large = let few = large.fork (omega arith) in
    omega (arith, few, children_have dims pages 1 85 (one dims pages) row stands filled)

three : (dims : ℕ) (pages : PageMap) → HasMost dims pages 3 614125
unfolding HasMost
three dims pages row stands filled large = let few = large.fork (omega arith) in
    omega (arith, few, children_have dims pages 2 7225 (two dims pages) row stands filled)

four : (dims : ℕ) (pages : PageMap) → HasMost dims pages 4 52200625
unfolding HasMost
four dims pages row stands filled large = let few = large.fork (omega arith) in
    omega (arith, few, children_have dims pages 3 614125 (three dims pages) row stands filled)

five : (dims : ℕ) (pages : PageMap) → HasMost dims pages 5 4437053125
unfolding HasMost
five dims pages row stands filled large = let few = large.fork (omega arith) in
    omega (arith, few, children_have dims pages 4 52200625 (four dims pages) row stands filled)

-- a root of the greatest level with two children would have more pages than there are numbers
too_wide : (dims : ℕ) (pages : PageMap) (row : Row) → RowStands dims pages 6 row → IsFilled dims 6 true row
    → 2 ≤ length (links_of row) → 4437053125 ≤ nodes row
unfolding nodes HasMost
too_wide dims pages end stands filled wide = absurd (omega (arith, wide))
too_wide dims pages (more (object id kept) rest) stands filled wide = absurd (omega (arith, stands.0))
too_wide dims pages (more (child key page below) end) stands filled wide = absurd (omega (arith, wide))
too_wide dims pages (more (child key page below) (more (object id kept) rest)) stands filled wide =
    absurd (omega (arith, stands.5.0))
too_wide dims pages (more (child key page below) (more (child k p b) rest)) stands filled wide =
    let first = five dims pages below stands.4 filled.1 (filled.0 refl) in
    omega (arith, first)

pub not_so_high : (dims : ℕ) (pages : PageMap) (t : IdTree) (level : ℕ)
    → ((n : ℕ) → IsSome (pages n) → n < 2147483648) → IsFullTree dims pages t level → 6 ≤ level → ⊥
not_so_high dims pages t level numbers full high =
    let six : t.level ≡ 6 = omega (arith, full.level_is, full.stands.bounded, high) in
    let stands : RowStands dims pages 6 t.row = subst (λ l. RowStands dims pages l t.row) six
    full.stands.below in
    let filled : IsFilled dims 6 true t.row = subst (λ l. IsFilled dims l true t.row) six
    full.stands.filled in
    let most = too_wide dims pages t.row stands filled (omega (arith, full.full)) in
    let few = nodes_few t.row 2147483648 (λ n. omega (arith, full.stands.once n))
    (λ n some. numbers n (below_there dims pages t.level t.row n full.stands.below some)) in
    omega (arith, most, few)

pub below_limit : (n next : ℕ) → n < next → next ≤ 2 ^ 31 → n < 2147483648
below_limit n next lt le =
    let big : 2 ^ 31 ≡ 2147483648 = refl in
    let under : next ≤ 2147483648 = subst (λ (k : ℕ). next ≤ k) big le in
    omega (arith, lt, under)
