-- A tree with loose shape has so many nodes that its level is small.
use Rattle.std.proofs.Common.{◌≡◌, ℕ, zero, suc, ◌+◌, ◌-◌, ◌*◌, ◌^◌, ◌<◌, ◌≤◌, cond, eqb, refl, subst, ⊎_elim}
use Rattle.std.proofs.Common.{◌⊎◌, arith}
use Rattle.std.proofs.Math.Pow.{pow_mono}
use Rattle.std.proofs.lemmas.Bool.{cases_eq}
use Rattle.std.proofs.lemmas.Bool.Decides.{nat_tests}
use Rattle.box_math.specs.Measures.{sum_over}
use Rattle.tree_node.specs.Trees.{Row, end, more, object, child, RowOnLevel, row_length, occurs}
use Rattle.tree_node.specs.Shape.{RowHasShape}
use Rattle.reinsert.specs.Kept.{ShapeBoundsLevel}

-- how many nodes are below
nodes : Row → ℕ
nodes end = 0
nodes (more (object kept id) rest) = nodes rest
nodes (more (child bounds page below) rest) = 1 + nodes below + nodes rest

times : (a b k : ℕ) → a ≤ b → a * k ≤ b * k
times a b k h = grind (arith, h)

-- each entry above the leaves has twice as many nodes as one a level lower
nodes_on : (dims most level : ℕ) (row : Row) → RowHasShape dims most row → RowOnLevel (suc level) row
    → row_length row * 2 ^ level ≤ nodes row
unfolding nodes
nodes_on dims most level end h on = omega arith
nodes_on dims most level (more (object kept id) rest) h on = absurd (omega (arith, on.0))
nodes_on dims most zero (more (child bounds page below) rest) h on =
    omega (arith, nodes_on dims most zero rest h.4 on.2)
nodes_on dims most (suc level) (more (child bounds page below) rest) h on =
    let lower : suc (suc level) - 1 ≡ suc level = omega arith in
    let under = nodes_on dims most level below h.3 (subst (λ l. RowOnLevel l below) lower on.1) in
    let two : 2 ≤ row_length below = omega (arith, h.0) in
    let grown : 2 * 2 ^ level ≤ row_length below * 2 ^ level = times 2 (row_length below) (2 ^ level) two in
    let later = nodes_on dims most (suc level) rest h.4 on.2 in
    omega (arith, under, grown, later)

none_there : (page n : ℕ) → n ≤ page → sum_over n (λ k. cond (eqb page k) 1 0) ≡ 0
none_there page zero h = refl
none_there page (suc n) h = let differs : ◌≡◌ {A = ℕ} (cond (eqb page n) 1 0) 0 =
    grind (arith, nat_tests, h) in omega (arith, differs, none_there page n (omega (arith, h)))

one_there : (page n : ℕ) → page < n → sum_over n (λ k. cond (eqb page k) 1 0) ≡ 1
one_there page zero h = absurd (omega (arith, h))
one_there page (suc n) h = ⊎_elim
    (λ is. let here : ◌≡◌ {A = ℕ} (cond (eqb page n) 1 0) 1 = grind (arith, nat_tests, is) in
    omega (arith, here, none_there page n (omega (arith, is))))
    (λ differs. let there : ◌≡◌ {A = ℕ} (cond (eqb page n) 1 0) 0 = grind (arith, nat_tests, differs) in
    omega (arith, there, one_there page n (omega (arith, h, differs))))
    (cases_eq page n)

sum_more : (n : ℕ) (f g h : ℕ → ℕ)
    → sum_over n (λ k. f k + g k + h k) ≡ sum_over n f + sum_over n g + sum_over n h
sum_more zero f g h = refl
sum_more (suc n) f g h = omega (arith, sum_more n f g h)

-- the pages are as many as the nodes
pages_of : (limit : ℕ) (row : Row) → ((n : ℕ) → 0 < occurs n row → n < limit)
    → sum_over limit (λ n. occurs n row) ≡ nodes row
unfolding nodes
pages_of limit end within = zeros limit
  where
    zeros : (n : ℕ) → sum_over n (λ k. 0) ≡ 0
    zeros zero = refl
    zeros (suc n) = omega (arith, zeros n)
pages_of limit (more (object kept id) rest) within = pages_of limit rest within
pages_of limit (more (child bounds page below) rest) within =
    let here : ◌≡◌ {A = ℕ} (cond (eqb page page) 1 0) 1 = grind (arith, nat_tests) in
    omega (
      arith,
      sum_more limit (λ n. cond (eqb page n) 1 0) (λ n. occurs n below) (λ n. occurs n rest),
      one_there page limit (within page (omega (arith, here))),
      pages_of limit below (λ n p. within n (omega (arith, p))),
      pages_of limit rest (λ n p. within n (omega (arith, p))),
    )

few_pages : (limit : ℕ) (f : ℕ → ℕ) → ((n : ℕ) → f n ≤ 1) → sum_over limit f ≤ limit
few_pages zero f once = omega arith
few_pages (suc limit) f once = omega (arith, once limit, few_pages limit f once)

bounded : (dims most limit level : ℕ) (row : Row) → RowHasShape dims most row → RowOnLevel (suc level) row
    → 1 ≤ row_length row
    → ((n : ℕ) → occurs n row ≤ 1) → ((n : ℕ) → 0 < occurs n row → n < limit) → 2 ^ level ≤ limit
bounded dims most limit level row h on some once within =
    let many : 1 * 2 ^ level ≤ row_length row * 2 ^ level = times 1 (row_length row) (2 ^ level) some in
    omega (
      arith,
      many,
      nodes_on dims most level row h on,
      pages_of limit row within,
      few_pages limit (λ n. occurs n row) once,
    )

low_level : (dims most level : ℕ) (row : Row) → RowHasShape dims most row → RowOnLevel level row
    → (0 < level → 1 ≤ row_length row)
    → ((n : ℕ) → occurs n row ≤ 1) → (limit : ℕ) → limit ≡ 2 ^ 31 → ((n : ℕ) → 0 < occurs n row → n < limit)
    → level ≤ 32
low_level dims most zero row h on some once limit is within = omega arith
low_level dims most (suc level) row h on some once limit is within = ⊎_elim
    (λ low. low)
    (λ high. absurd
    (omega (
      arith,
      pow_mono {i = 32} {j = level} (omega (arith, high)),
      bounded dims most limit level row h on (some (omega arith)) once within,
      is,
    )))
    (either level)
  where
    either : (n : ℕ) → (suc n ≤ 32) ⊎ (32 ≤ n)
    either n = grind arith

pub shape_bounds_level : ShapeBoundsLevel
shape_bounds_level dims most t h once within =
    low_level dims most t.level t.row h.below h.levels h.some (λ n. omega (arith, once n)) (2 ^ 31) refl
    (λ n p. within n (omega (arith, p)))
