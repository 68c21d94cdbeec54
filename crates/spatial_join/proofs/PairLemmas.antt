-- The pairs of objects below two nodes whose boxes meet, summed entry by entry, and how many pairs of nodes
-- do.
use Rattle.std.proofs.Common.{◌≡◌, ◌∙◌, ℕ, ◌+◌, Bool, true, false, cond, eqb, ◌&&◌, List, [], ◌∷◌, ◌++◌, map}
use Rattle.std.proofs.Common.{refl, sym, ap, subst, arith, IsPermutation}
use Rattle.std.specs.List.{filter}
use Rattle.std.proofs.lemmas.Bool.{false≢true}
use Rattle.std.proofs.lemmas.Bool.Decides.{nat_tests}
use Rattle.std.proofs.lemmas.List.{append-nil, map-append}
use Rattle.std.proofs.lemmas.List.Elements.{filter-append}
use Rattle.box_math.specs.Bounds.{Bounds, Within}
use Rattle.box_math.specs.Objects.{Object, bounds_of, tag_of}
use Rattle.box_math.specs.Measures.{near_test}
use Rattle.box_math.proofs.BoxLaws.{Within-refl, Within-trans}
use Rattle.box_math.proofs.Distances.{box_dist2_of-commutes, box_dist2_of-falls, near_test_true}
use Rattle.tree_node.specs.Joins.{boxes_below, near_pairs}
use Rattle.tree_node.specs.Nodes.{Item}
use Rattle.tree_node.specs.Positions.{total}
use Rattle.tree_node.specs.Shape.{RowHasShape, RowWithin}
use Rattle.tree_node.specs.Trees.{Row, end, more, object, child, objects_in, row_items}
use Rattle.tree_node.proofs.JoinLemmas.{pairs_append, pairs_turned}
use Rattle.tree_node.proofs.ObjectLemmas.{permutation_of_sums}
use Rattle.tree_node.proofs.PositionLemmas.{total-append}
use Rattle.tree_node.proofs.RowLemmas.{row_tail}
use Rattle.spatial_join.specs.Pairs.{near_objects, near_below, pairs_with}
use Rattle.spatial_join.specs.Opening.{AllWithin, Encloses}

-- ---- lists of pairs of which each sum is the same have the same pairs

abbrev same_pair : ℕ × ℕ → ℕ × ℕ → Bool
same_pair p q = eqb p.0 q.0 && eqb p.1 q.1

same_pair-refl : (p : ℕ × ℕ) → same_pair p p ≡ true
same_pair-refl p = grind (arith, nat_tests)

pair_same : (i j k l : ℕ) → i ≡ k → j ≡ l → ◌≡◌ {A = ℕ × ℕ} (i, j) (k, l)
pair_same i j k l g h = cc

same_pair-is : (p q : ℕ × ℕ) → same_pair p q ≡ true → p ≡ q
same_pair-is p q h = let i : p.0 ≡ q.0 = grind (arith, nat_tests) in
    let j : p.1 ≡ q.1 = grind (arith, nat_tests) in pair_same p.0 p.1 q.0 q.1 i j

pub equal_sums_permute : (xs ys : List (ℕ × ℕ)) → ((f : ℕ × ℕ → ℕ) → total f xs ≡ total f ys)
    → IsPermutation xs ys
equal_sums_permute xs ys sums = permutation_of_sums same_pair same_pair-is same_pair-refl xs ys sums

-- ---- pairs of objects

pairs_with-append : (dims limit : ℕ) (o : ℕ × Object) (xs ys : List (ℕ × Object))
    → pairs_with dims limit (xs ++ ys) o ≡ pairs_with dims limit xs o ++ pairs_with dims limit ys o
pairs_with-append dims limit o xs ys =
    let test : ℕ × Object → Bool = λ other. near_test dims limit (bounds_of o.1) (bounds_of other.1) in
    let pair : ℕ × Object → ℕ × ℕ = λ other. (o.0, other.0) in
    ap (map pair) (filter-append test xs ys) ∙ map-append pair (filter test xs) (filter test ys)

pub sum-left : (dims limit : ℕ) (f : ℕ × ℕ → ℕ) (xs ys zs : List (ℕ × Object))
    → total f (near_objects dims limit (xs ++ ys) zs) ≡ total f (near_objects dims limit xs zs) + total f
    (near_objects dims limit ys zs)
sum-left dims limit f [] ys zs = omega arith
sum-left dims limit f (x ∷ xs) ys zs =
    omega (
      arith,
      total-append f (pairs_with dims limit zs x) (near_objects dims limit (xs ++ ys) zs),
      total-append f (pairs_with dims limit zs x) (near_objects dims limit xs zs),
      sum-left dims limit f xs ys zs,
    )

sum-right : (dims limit : ℕ) (f : ℕ × ℕ → ℕ) (xs ys zs : List (ℕ × Object))
    → total f (near_objects dims limit xs (ys ++ zs)) ≡ total f (near_objects dims limit xs ys) + total f
    (near_objects dims limit xs zs)
sum-right dims limit f [] ys zs = omega arith
sum-right dims limit f (x ∷ xs) ys zs =
    let here = ap (total f) (pairs_with-append dims limit x ys zs)
    ∙ total-append f (pairs_with dims limit ys x) (pairs_with dims limit zs x) in
    omega (
      arith,
      here,
      total-append f (pairs_with dims limit (ys ++ zs) x) (near_objects dims limit xs (ys ++ zs)),
      total-append f (pairs_with dims limit ys x) (near_objects dims limit xs ys),
      total-append f (pairs_with dims limit zs x) (near_objects dims limit xs zs),
      sum-right dims limit f xs ys zs,
    )

-- ---- the first entry of a node, and the others

abbrev pub row_head : Row → Row
row_head end = end
row_head (more branch rest) = more branch end

objects_split : (s : Row) → objects_in s ≡ objects_in (row_head s) ++ objects_in (row_tail s)
objects_split end = refl
objects_split (more (object kept id) rest) = refl
objects_split (more (child bounds page below) rest) =
    ap (λ (l : List (ℕ × Object)). l ++ objects_in rest) (sym (append-nil (objects_in below)))

-- the sum of a number of each pair of objects below two nodes whose boxes meet
abbrev pub near_sum : ℕ → ℕ → (ℕ × ℕ → ℕ) → Row → Row → ℕ
near_sum dims limit f s t = total f (near_below dims limit s t)

pub near_sum-left : (dims limit : ℕ) (f : ℕ × ℕ → ℕ) (s t : Row)
    → near_sum dims limit f s t ≡ near_sum dims limit f (row_head s) t + near_sum dims limit f (row_tail s) t
near_sum-left dims limit f s t =
    ap (λ (l : List (ℕ × Object)). total f (near_objects dims limit l (objects_in t))) (objects_split s)
    ∙ sum-left dims limit f (objects_in (row_head s)) (objects_in (row_tail s)) (objects_in t)

pub near_sum-right : (dims limit : ℕ) (f : ℕ × ℕ → ℕ) (s t : Row)
    → near_sum dims limit f s t ≡ near_sum dims limit f s (row_head t) + near_sum dims limit f s (row_tail t)
near_sum-right dims limit f s t =
    ap (λ (l : List (ℕ × Object)). total f (near_objects dims limit (objects_in s) l)) (objects_split t)
    ∙ sum-right dims limit f (objects_in s) (objects_in (row_head t)) (objects_in (row_tail t))

pub near_sum-none : (dims limit : ℕ) (f : ℕ × ℕ → ℕ) (s : Row) → near_sum dims limit f s end ≡ 0
near_sum-none dims limit f s = at (objects_in s)
  where
    at : (xs : List (ℕ × Object)) → total f (near_objects dims limit xs []) ≡ 0
    at [] = refl
    at (x ∷ xs) = at xs

-- ---- pairs of nodes

boxes_split : (s : Row) → boxes_below s ≡ boxes_below (row_head s) ++ boxes_below (row_tail s)
boxes_split end = refl
boxes_split (more (object kept id) rest) = refl
boxes_split (more (child bounds page below) rest) =
    ap (λ (l : List Bounds). bounds ∷ (l ++ boxes_below rest)) (sym (append-nil (boxes_below below)))

pub pairs-right : (dims limit : ℕ) (xs ys zs : List Bounds)
    → near_pairs dims limit xs (ys ++ zs) ≡ near_pairs dims limit xs ys + near_pairs dims limit xs zs
pairs-right dims limit xs ys zs =
    omega (
      arith,
      pairs_turned dims limit xs (ys ++ zs),
      pairs_append dims limit ys zs xs,
      pairs_turned dims limit ys xs,
      pairs_turned dims limit zs xs,
    )

-- the pairs of nodes below two nodes whose boxes meet
abbrev pub pairs_below : ℕ → ℕ → Row → Row → ℕ
pairs_below dims limit s t = near_pairs dims limit (boxes_below s) (boxes_below t)

pub pairs_below-left : (dims limit : ℕ) (s t : Row)
    → pairs_below dims limit s t ≡ pairs_below dims limit (row_head s) t + pairs_below dims limit
    (row_tail s) t
pairs_below-left dims limit s t =
    ap (λ (l : List Bounds). near_pairs dims limit l (boxes_below t)) (boxes_split s)
    ∙ pairs_append dims limit (boxes_below (row_head s)) (boxes_below (row_tail s)) (boxes_below t)

pub pairs_below-right : (dims limit : ℕ) (s t : Row)
    → pairs_below dims limit s t ≡ pairs_below dims limit s (row_head t) + pairs_below dims limit s
    (row_tail t)
pairs_below-right dims limit s t =
    ap (λ (l : List Bounds). near_pairs dims limit (boxes_below s) l) (boxes_split t)
    ∙ pairs-right dims limit (boxes_below s) (boxes_below (row_head t)) (boxes_below (row_tail t))

-- ---- boxes that are too far apart have nothing within them that is nearer

pub fails_below : (dims limit : ℕ) (a b c d : Bounds) → Within dims a b → Within dims c d
    → near_test dims limit b d ≡ false → near_test dims limit a c ≡ false
fails_below dims limit a b c d inner outer fails = at (near_test dims limit a c) refl
  where
    at : (t : Bool) → near_test dims limit a c ≡ t → t ≡ false
    at false e = refl
    at true e =
        let near = (near_test_true dims limit a c).0 e in
        let grown = box_dist2_of-falls dims a c b inner in
        let turned = box_dist2_of-commutes dims b c in
        let both = box_dist2_of-falls dims c b d outer in
        let back = box_dist2_of-commutes dims d b in
        absurd (false≢true
        (sym fails ∙ (near_test_true dims limit b d).1 (omega (arith, near, grown, turned, both, back))))

none_with : (dims limit : ℕ) (o : ℕ × Object) (b d : Bounds) (ys : List (ℕ × Object))
    → Within dims (bounds_of o.1) b → AllWithin dims d ys → near_test dims limit b d ≡ false
    → pairs_with dims limit ys o ≡ []
none_with dims limit o b d [] inner all fails = refl
none_with dims limit o b d (y ∷ ys) inner all fails =
    let out = fails_below dims limit (bounds_of o.1) b (bounds_of y.1) d inner all.0 fails in
    let others : List (ℕ × Object) =
    filter (λ other. near_test dims limit (bounds_of o.1) (bounds_of other.1)) ys in
    ap (λ (t : Bool). map (λ (other : ℕ × Object). (o.0, other.0)) (cond t (y ∷ others) others)) out
    ∙ none_with dims limit o b d ys inner all.1 fails

none_near : (dims limit : ℕ) (b d : Bounds) (xs ys : List (ℕ × Object)) → AllWithin dims b xs
    → AllWithin dims d ys → near_test dims limit b d ≡ false → near_objects dims limit xs ys ≡ []
none_near dims limit b d [] ys inner outer fails = refl
none_near dims limit b d (x ∷ xs) ys inner outer fails =
    ap (λ (l : List (ℕ × ℕ)). l ++ near_objects dims limit xs ys)
    (none_with dims limit x b d ys inner.0 outer fails)
    ∙ none_near dims limit b d xs ys inner.1 outer fails

-- what lies below the first entry lies within its box
head_within : (dims : ℕ) (s : Row) (x : Item) (xs : List Item) → row_items s ≡ x ∷ xs → Encloses dims s
    → AllWithin dims x.bounds (objects_in (row_head s))
head_within dims end x xs same encloses = tt
head_within dims (more (object kept id) rest) x xs same encloses =
    let item : ◌≡◌ {A = Item} (record { bounds = bounds_of kept; reference = id; tag = tag_of kept }) x =
    cc in (
      subst (λ (b : Bounds). Within dims (bounds_of kept) b) (ap (λ (y : Item). y.bounds) item)
          (Within-refl dims (bounds_of kept)),
      tt,
    )
head_within dims (more (child bounds page below) rest) x xs same encloses =
    let item : ◌≡◌ {A = Item} (record { bounds = bounds; reference = page; tag = 0 }) x = cc in
    subst (λ (l : List (ℕ × Object)). AllWithin dims x.bounds l) (sym (append-nil (objects_in below)))
    (subst (λ (b : Bounds). AllWithin dims b (objects_in below)) (ap (λ (y : Item). y.bounds) item)
    encloses.0)

-- so objects in a box have no pair with those below a first entry whose box is not near that one
pub head_apart : (dims limit : ℕ) (f : ℕ × ℕ → ℕ) (s t : Row) (b : Bounds) (y : Item) (ys : List Item)
    → AllWithin dims b (objects_in s) → row_items t ≡ y ∷ ys → Encloses dims t
    → near_test dims limit b y.bounds ≡ false → near_sum dims limit f s (row_head t) ≡ 0
head_apart dims limit f s t b y ys within same encloses fails =
    ap (total f)
    (none_near dims limit b y.bounds (objects_in s) (objects_in (row_head t)) within
    (head_within dims t y ys same encloses) fails)

-- nor have those below first entries whose boxes are not near each other
pub heads_apart : (dims limit : ℕ) (f : ℕ × ℕ → ℕ) (s t : Row) (x y : Item) (xs ys : List Item)
    → row_items s ≡ x ∷ xs → row_items t ≡ y ∷ ys → Encloses dims s → Encloses dims t
    → near_test dims limit x.bounds y.bounds ≡ false
    → near_sum dims limit f (row_head s) (row_head t) ≡ 0
heads_apart dims limit f s t x y xs ys same same' encloses encloses' fails =
    head_apart dims limit f (row_head s) t x.bounds y ys (head_within dims s x xs same encloses) same'
    encloses' fails

-- ---- in a tree with least boxes each box encloses what lies below it

grown_within : (dims : ℕ) (b : Bounds) (xs ys : List (ℕ × Object)) → AllWithin dims b xs
    → AllWithin dims b ys → AllWithin dims b (xs ++ ys)
grown_within dims b [] ys inner outer = outer
grown_within dims b (x ∷ xs) ys inner outer = (inner.0, grown_within dims b xs ys inner.1 outer)

all_in_turn : (dims : ℕ) (b c : Bounds) (xs : List (ℕ × Object)) → Within dims b c → AllWithin dims b xs
    → AllWithin dims c xs
all_in_turn dims b c [] within all = tt
all_in_turn dims b c (x ∷ xs) within all =
    (Within-trans dims (bounds_of x.1) b c all.0 within, all_in_turn dims b c xs within all.1)

pub objects_within : (dims most : ℕ) (b : Bounds) (row : Row) → RowWithin dims row b
    → RowHasShape dims most row → AllWithin dims b (objects_in row)
objects_within dims most b end within shape = tt
objects_within dims most b (more (object kept id) rest) within shape =
    (within.0, objects_within dims most b rest within.1 shape)
objects_within dims most b (more (child bounds page below) rest) within shape =
    grown_within dims b (objects_in below) (objects_in rest)
    (all_in_turn dims bounds b (objects_in below) within.0
    (objects_within dims most bounds below shape.2.encloses shape.3))
    (objects_within dims most b rest within.1 shape.4)

pub shape_encloses : (dims most : ℕ) (row : Row) → RowHasShape dims most row → Encloses dims row
shape_encloses dims most end shape = tt
shape_encloses dims most (more (object kept id) rest) shape = shape_encloses dims most rest shape
shape_encloses dims most (more (child bounds page below) rest) shape = (
  objects_within dims most bounds below shape.2.encloses shape.3,
  shape_encloses dims most below shape.3,
  shape_encloses dims most rest shape.4,
)
