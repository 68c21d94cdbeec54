-- How many nodes, and pairs of them, a search and a join admit.
use Rattle.std.proofs.Common.{◌≡◌, ◌∙◌, ℕ, zero, suc, ◌+◌, ◌*◌, ◌≤◌, nat_le, Bool, true, false, cond, List}
use Rattle.std.proofs.Common.{◌++◌, length, refl, ap, arith}
use Rattle.box_math.specs.Bounds.{Bounds}
use Rattle.box_math.specs.Measures.{near_test}
use Rattle.box_math.proofs.Distances.{box_dist2_of-commutes}
use Rattle.tree_node.specs.Joins.{boxes_below, count_passing, near_pairs, root_box}
use Rattle.tree_node.specs.Laws.{AdmittedAreCounted, PairsAreOfNodes, PairsGoBothWays}
use Rattle.tree_node.specs.Positions.{total}
use Rattle.tree_node.specs.Searches.{passing}
use Rattle.tree_node.specs.Trees.{Row, end, more, object, child}
use Rattle.tree_node.proofs.PositionLemmas.{total-append, total-at_most, total-ones, total-same, total-turned}

-- the nodes below of which a box passes
pub passing_is : (test : Bounds → Bool) (row : Row) → passing test row ≡ count_passing test (boxes_below row)
passing_is test end = refl
passing_is test (more (object kept id) rest) = passing_is test rest
passing_is test (more (child bounds page below) rest) =
    omega (
      arith,
      passing_is test below,
      passing_is test rest,
      total-append (λ (b : Bounds). cond (test b) 1 0) (boxes_below below) (boxes_below rest),
    )

pub admitted_are_counted : AdmittedAreCounted
admitted_are_counted t test = ap (λ (n : ℕ). 1 + n) (passing_is test t.row)

-- ---- pairs

near_turned : (dims within : ℕ) (a b : Bounds) → near_test dims within a b ≡ near_test dims within b a
unfolding near_test
near_turned dims within a b = ap (λ (n : ℕ). nat_le n within) (box_dist2_of-commutes dims a b)

pub pairs_turned : (dims within : ℕ) (bs cs : List Bounds)
    → near_pairs dims within bs cs ≡ near_pairs dims within cs bs
pairs_turned dims within bs cs =
    total-turned (λ (b c : Bounds). cond (near_test dims within b c) 1 0) bs cs
    ∙ total-same (λ (c : Bounds). total (λ (b : Bounds). cond (near_test dims within b c) 1 0) bs)
    (λ (c : Bounds). total (λ (b : Bounds). cond (near_test dims within c b) 1 0) bs) cs
    (λ c. total-same (λ (b : Bounds). cond (near_test dims within b c) 1 0)
    (λ (b : Bounds). cond (near_test dims within c b) 1 0) bs
    (λ b. ap (λ (t : Bool). cond t 1 0) (near_turned dims within b c)))

-- those of two lists after one another are those of each
pub pairs_append : (dims within : ℕ) (bs cs others : List Bounds)
    → near_pairs dims within (bs ++ cs) others ≡ near_pairs dims within bs others + near_pairs dims within cs
    others
pairs_append dims within bs cs others =
    total-append (λ (b : Bounds). count_passing (near_test dims within b) others) bs cs

one_at_most : (t : Bool) → cond t 1 0 ≤ 1
one_at_most true = omega arith
one_at_most false = omega arith

pub some_of_all : (test : Bounds → Bool) (boxes : List Bounds) → count_passing test boxes ≤ length boxes
some_of_all test boxes =
    omega (arith, total-at_most (λ (b : Bounds). cond (test b) 1 0) 1 boxes (λ b. one_at_most (test b)))

pub pairs_at_most : (dims within : ℕ) (bs cs : List Bounds)
    → near_pairs dims within bs cs ≤ length bs * length cs
pairs_at_most dims within bs cs =
    total-at_most (λ (b : Bounds). count_passing (near_test dims within b) cs) (length cs) bs
    (λ b. some_of_all (near_test dims within b) cs)

one_root : (dims : ℕ) (row : Row) → length (root_box dims row) ≤ 1
one_root dims end = omega arith
one_root dims (more branch rest) = omega arith

at_most_of_one : (r n x : ℕ) → r ≤ 1 → x ≤ r * n → x ≤ n
at_most_of_one zero n x one few = omega arith
at_most_of_one (suc zero) n x one few = omega arith
at_most_of_one (suc (suc r)) n x one few = absurd (omega (arith, one))

-- all nodes below
all_below : (row : Row) → passing (λ b. true) row ≡ length (boxes_below row)
all_below row = passing_is (λ b. true) row ∙ total-ones (boxes_below row)

together : (p q a b c : ℕ) → a ≤ q → b ≤ p → c ≤ p * q → 1 + a + b + c ≤ (1 + p) * (1 + q)
together p q a b c ha hb hc = let e : (1 + p) * (1 + q) ≡ 1 + p + q + p * q = grind arith in omega arith

pub pairs_go_both_ways : PairsGoBothWays
pairs_go_both_ways dims within s t =
    omega (
      arith,
      pairs_turned dims within (root_box dims s.row) (boxes_below t.row),
      pairs_turned dims within (boxes_below s.row) (root_box dims t.row),
      pairs_turned dims within (boxes_below s.row) (boxes_below t.row),
    )

pub pairs_are_of_nodes : PairsAreOfNodes
pairs_are_of_nodes dims within s t =
    let p = length (boxes_below s.row) in
    let q = length (boxes_below t.row) in
    let first = near_pairs dims within (root_box dims s.row) (boxes_below t.row) in
    let second = near_pairs dims within (boxes_below s.row) (root_box dims t.row) in
    rw (all_below s.row, all_below t.row)
    (together p q first second (near_pairs dims within (boxes_below s.row) (boxes_below t.row))
    (at_most_of_one (length (root_box dims s.row)) q first (one_root dims s.row)
    (pairs_at_most dims within (root_box dims s.row) (boxes_below t.row)))
    (at_most_of_one (length (root_box dims t.row)) p second (one_root dims t.row)
    (omega (
      arith,
      pairs_turned dims within (boxes_below s.row) (root_box dims t.row),
      pairs_at_most dims within (root_box dims t.row) (boxes_below s.row),
    )))
    (pairs_at_most dims within (boxes_below s.row) (boxes_below t.row)))

pub ruleset join_laws = (admitted_are_counted, pairs_go_both_ways, pairs_are_of_nodes)
