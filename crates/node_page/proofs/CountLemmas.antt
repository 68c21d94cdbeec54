-- How many pages a part has, and a tree: the sum over the page numbers below a limit of how often it has
-- each.
use Rattle.std.proofs.Common.{◌≡◌, ℕ, zero, suc, ◌+◌, ◌<◌, ◌≤◌, cond, eqb, List, [], ◌∷◌, length, refl}
use Rattle.std.proofs.Common.{⊎_elim, arith}
use Rattle.std.proofs.lemmas.Bool.{cases_eq, cases_lt}
use Rattle.std.proofs.lemmas.Bool.Decides.{nat_tests}
use Rattle.std.proofs.lemmas.List.{length-append}
use Rattle.box_math.specs.Measures.{sum_over}
use Rattle.tree_node.specs.Shape.{HasShape, RowHasShape}
use Rattle.tree_node.specs.Trees.{Row, end, more, object, child, Tree, objects_in, occurs, occurs_in}
use Rattle.tree_node.specs.Trees.{row_length}
use Rattle.node_page.specs.Checked.{named_pages}
use Rattle.node_page.specs.Parts.{Part, both, one_page}

-- ---- sums of parts

pub sum_none : (limit : ℕ) → sum_over limit (λ n. 0) ≡ 0
sum_none zero = refl
sum_none (suc limit) = omega (arith, sum_none limit)

pub sum_both : (limit : ℕ) (a b : Part) → sum_over limit (both a b) ≡ sum_over limit a + sum_over limit b
sum_both zero a b = refl
sum_both (suc limit) a b = omega (arith, sum_both limit a b)

none_past : (page limit : ℕ) → limit ≤ page → sum_over limit (one_page page) ≡ 0
none_past page zero past = refl
none_past page (suc limit) past =
    let differs : ◌≡◌ {A = ℕ} (cond (eqb page limit) 1 0) 0 = grind (arith, nat_tests, past) in
    omega (arith, differs, none_past page limit (omega (arith, past)))

-- one page is one at most
pub sum_one : (limit page : ℕ) → sum_over limit (one_page page) ≤ 1
sum_one zero page = omega arith
sum_one (suc limit) page = ⊎_elim
    (λ (is : page ≡ limit). let here : ◌≡◌ {A = ℕ} (cond (eqb page limit) 1 0) 1 =
    grind (arith, nat_tests, is) in omega (arith, here, none_past page limit (omega (arith, is))))
    (λ (differs : ¬ (page ≡ limit)). let none : ◌≡◌ {A = ℕ} (cond (eqb page limit) 1 0) 0 =
    grind (arith, nat_tests, differs) in omega (arith, none, sum_one limit page))
    (cases_eq page limit)

-- a list has no more than its length
pub sum_listed : (limit : ℕ) (list : List ℕ) → sum_over limit (named_pages list) ≤ length list
sum_listed limit [] = omega (arith, sum_none limit)
sum_listed limit (page ∷ list) =
    omega (
      arith,
      sum_both limit (one_page page) (named_pages list),
      sum_one limit page,
      sum_listed limit list,
    )

-- a part that has each page from 2 on has as many as there are
pub sum_of_all : (limit : ℕ) (part : Part) → ((n : ℕ) → 2 ≤ n → n < limit → 0 < part n)
    → limit ≤ 2 + sum_over limit part
sum_of_all zero part has = omega arith
sum_of_all (suc limit) part has = ⊎_elim
    (λ (low : limit < 2). omega (arith, low))
    (λ (high : 2 ≤ limit). omega (
      arith,
      has limit high (omega arith),
      sum_of_all limit part (λ n low below. has n low (omega (arith, below))),
    ))
    (cases_lt limit 2)

-- ---- trees

-- below a node there are, with its entries, no more pages than objects, since each node below has at least
-- two entries
pages_below : (dims most limit : ℕ) (row : Row) → RowHasShape dims most row
    → sum_over limit (λ n. occurs n row) + row_length row ≤ length (objects_in row)
pages_below dims most limit end shape = omega (arith, sum_none limit)
pages_below dims most limit (more (object kept id) rest) shape =
    omega (arith, pages_below dims most limit rest shape)
pages_below dims most limit (more (child bounds page below) rest) shape =
    omega (
      arith,
      sum_both limit (both (one_page page) (λ n. occurs n below)) (λ n. occurs n rest),
      sum_both limit (one_page page) (λ n. occurs n below),
      sum_one limit page,
      shape.0,
      pages_below dims most limit below shape.3,
      pages_below dims most limit rest shape.4,
      length-append (objects_in below) (objects_in rest),
    )

-- a tree has at most one page more than it has objects
pub pages_of_tree : (dims most limit : ℕ) (t : Tree) → HasShape dims most t
    → sum_over limit (λ n. occurs_in n t) ≤ 1 + length (objects_in t.row)
pages_of_tree dims most limit t shape =
    omega (
      arith,
      sum_both limit (one_page t.page) (λ n. occurs n t.row),
      sum_one limit t.page,
      pages_below dims most limit t.row shape.below,
    )
