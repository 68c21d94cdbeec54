-- The pairs of a join of two trees are those of the objects of their layers. Turned, pairs in the order of a
-- join are in the order of the nearest, of which there is one list.
use Rattle.std.proofs.Common.{◌≡◌, ◌∙◌, ℕ, suc, ◌+◌, ◌<◌, ◌≤◌, Bool, true, false, cond, ◌==◌, nat_lt, List}
use Rattle.std.proofs.Common.{[], ◌∷◌, get_or, map, refl, sym, ap, subst, inl, inr, ⊎_elim, arith, T}
use Rattle.std.specs.Prelude.{IfErr, IfOk, IsPermutation, None, Some, Ok, Err, Result, Vec, filter}
use Rattle.std.specs.FinMap.{entries, entries_sorted, is_sorted}
use Rattle.std.specs.FinMap.Entries.{below_all}
use Rattle.std.specs.List.Sorted.{IsSorted}
use Rattle.std.specs.Ordering.{nat_cmp, is_lt, ordering_then}
use Rattle.std.specs.declared.cmp.Ordering.TheVariants.{Less, Equal, Greater}
use Rattle.std.proofs.lemmas.Bool.{cases_eq, cases_lt}
use Rattle.std.proofs.lemmas.Bool.Decides.{nat_tests}
use Rattle.std.proofs.lemmas.List.{map-append}
use Rattle.std.proofs.lemmas.List.Sorted.{IsPermutation-append, IsPermutation-map, IsPermutation-refl}
use Rattle.std.proofs.lemmas.List.Sorted.{IsPermutation-sym, IsPermutation-trans}
use Rattle.box_math.specs.Objects.{Object, bounds_of}
use Rattle.box_math.specs.Measures.{near_test}
use Rattle.bulk_load.proofs.RowWords.{total-permutation}
use Rattle.layer_pages.specs.Layers.{IsLayerAt, LayerPages}
use Rattle.layer_pages.proofs.ObjectLemmas.{filter_permuted, filter_sorted}
use Rattle.box_math.specs.Nearest.{comes_first}
use Rattle.nearest.proofs.OrderLemmas.{Ascends, Ascends-append, Heads, Heads-append, comes_first-trans}
use Rattle.nearest.proofs.OrderLemmas.{listed, nearer_first, one_order, same_row, same_row-is}
use Rattle.node_page.specs.Standing.{PageMap}
use Rattle.plain_table.specs.Answers.{pairs_answer}
use Rattle.plain_table.specs.Commands.Command.{Join}
use Rattle.plain_table.specs.Step.{join_rows, refusal_of}
use Rattle.plain_table.specs.Step.Answer.{Pairs}
use Rattle.plain_table.specs.Table.{Layer, Table, is_layer_name, layer_at}
use Rattle.plain_table.specs.declared.refusal.Refusal.{Refusal}
use Rattle.plain_table.specs.declared.refusal.Refusal.TheVariants as refusal
use Rattle.spatial_join.specs.Pairs.{IsJoinAnswer, near_objects, pair_cmp, pairs_with}
use Rattle.store_law.specs.Lawful.{IsFault}
use Rattle.tree_node.specs.Positions.{total}
use Rattle.tree_node.specs.Trees.{Tree, objects_in}
use Rattle.tree_node.specs.declared.node.Root.{Root}
use Rattle.tree_node.proofs.PositionLemmas.{total-append, total-same}
use Rattle.live_layers.specs.Keeping.{Belongs, Finds}
use Rattle.live_layers.specs.Questions.{IsReply}
use Rattle.live_layers.proofs.AskLemmas.{named_there, not_there}
use Rattle.plain_table.proofs.EntryLemmas.{left_of, right_of}

-- a pair with its second first
abbrev turned : ℕ × ℕ → ℕ × ℕ
turned p = (p.1, p.0)

turned_back : (ps : List (ℕ × ℕ)) → map turned (map turned ps) ≡ ps
turned_back [] = refl
turned_back (p ∷ ps) = ap (λ (xs : List (ℕ × ℕ)). p ∷ xs) (turned_back ps)

listed_turned : (z : ℕ × ℕ) (ps : List (ℕ × ℕ))
    → listed z (map turned ps) ≡ total (λ p. cond (same_row z (turned p)) 1 0) ps
listed_turned z [] = refl
listed_turned z (p ∷ ps) = ap (λ (n : ℕ). cond (same_row z (turned p)) 1 0 + n) (listed_turned z ps)

-- ---- the order of a join

no_less : (lt eq lt' eq' : Bool)
    → is_lt (ordering_then (cond lt Less (cond eq Equal Greater)) (cond lt' Less (cond eq' Equal Greater)))
    ≡ false → (lt ≡ false) × (eq ≡ true → lt' ≡ false)
no_less true eq lt' eq' h = absurd (cc)
no_less false true true eq' h = absurd (cc)
no_less false true false eq' h = (refl, λ e. refl)
no_less false false lt' eq' h = (refl, λ e. absurd (cc))

leads : (a b c d : ℕ) → nat_lt c a ≡ false → ((c == a) ≡ true → nat_lt d b ≡ false)
    → comes_first (b, a) (d, c) ≡ true
leads a b c d h g = ⊎_elim
    (λ (e : a ≡ c). let same : (c == a) ≡ true = grind (arith, nat_tests) in
    let low : nat_lt d b ≡ false = g same in grind (arith, nat_tests))
    (λ (ne : ¬ (a ≡ c)). grind (arith, nat_tests))
    (cases_eq a c)

in_turn : (p q : ℕ × ℕ) → is_lt (pair_cmp q p) ≡ false → comes_first (turned p) (turned q) ≡ true
in_turn p q h = let not = no_less (nat_lt q.0 p.0) (q.0 == p.0) (nat_lt q.1 p.1) (q.1 == p.1) h in
    leads p.0 p.1 q.0 q.1 not.0 not.1

heads_after : (x y : ℕ × ℕ) (ys : List (ℕ × ℕ)) → comes_first x y ≡ true → Heads y ys → Heads x ys
heads_after x y [] first h = tt
heads_after x y (z ∷ zs) first h = (comes_first-trans x y z first h.0, heads_after x y zs first h.1)

sorted_ascend : (ps : List (ℕ × ℕ)) → IsSorted pair_cmp ps → Ascends (map turned ps)
sorted_ascend [] up = tt
sorted_ascend (p ∷ []) up = (tt, tt)
sorted_ascend (p ∷ q ∷ qs) up =
    let rest = sorted_ascend (q ∷ qs) (λ k d low lt.
    let e : suc k + 1 ≡ suc (k + 1) = omega arith in
    subst (λ (n : ℕ). is_lt (pair_cmp (get_or (p ∷ q ∷ qs) n d) (get_or (q ∷ qs) k d)) ≡ false) e
    (up (suc k) d (omega arith) (omega (arith, lt)))) in
    let first = in_turn p q (up 0 p (omega arith) (omega arith)) in
    ((first, heads_after (turned p) (turned q) (map turned qs) first rest.0), rest)

-- ---- the pairs of objects by identifier

rises : (a b : ℕ) → T (is_lt (nat_cmp a b)) → a < b
rises a b h =
    ⊎_elim (λ (lt : a < b). lt) (λ (ge : b ≤ a). absurd (subst T (not_less a b ge) h)) (cases_lt a b)
  where
    not_less : (a b : ℕ) → b ≤ a → is_lt (nat_cmp a b) ≡ false
    not_less a b ge = grind (arith, nat_tests)

module _ (o : ℕ × Object) where
  -- an object with each of some others
  abbrev with_each : List (ℕ × Object) → List (ℕ × ℕ)
  with_each es = map (λ other. (o.0, other.0)) es

  each_leads : (x : ℕ) (es : List (ℕ × Object)) → T (below_all nat_cmp x es)
      → Heads (x, o.0) (map turned (with_each es))
  each_leads x [] h = tt
  each_leads x (e ∷ es) h = (
    below x e.0 (rises x e.0 (left_of (is_lt (nat_cmp x e.0)) (below_all nat_cmp x es) h)),
    each_leads x es (right_of (is_lt (nat_cmp x e.0)) (below_all nat_cmp x es) h),
  )
    where
      below : (x y : ℕ) → x < y → comes_first (x, o.0) (y, o.0) ≡ true
      below x y lt = grind (arith, nat_tests)

  each_ascends : (es : List (ℕ × Object)) → T (is_sorted nat_cmp es) → Ascends (map turned (with_each es))
  each_ascends [] h = tt
  each_ascends (e ∷ es) h = (
    each_leads e.0 es (left_of (below_all nat_cmp e.0 es) (is_sorted nat_cmp es) h),
    each_ascends es (right_of (below_all nat_cmp e.0 es) (is_sorted nat_cmp es) h),
  )

  each_has : (z : ℕ × ℕ) (es : List (ℕ × Object)) → 0 < listed z (map turned (with_each es)) → z.1 ≡ o.0
  each_has z [] there = absurd (omega (arith, there))
  each_has z (e ∷ es) there = at (each_has z es) (same_row z (e.0, o.0)) refl
    where
      at : (0 < listed z (map turned (with_each es)) → z.1 ≡ o.0) → (b : Bool) → same_row z (e.0, o.0) ≡ b
          → z.1 ≡ o.0
      at later true is = ap (λ (p : ℕ × ℕ). p.1) (same_row-is z (e.0, o.0) is)
      at later false is = later (omega (arith, rw is at there))

  after_each : (z : ℕ × ℕ) (es : List (ℕ × Object)) → z.1 < o.0 → Heads z (map turned (with_each es))
  after_each z [] lt = tt
  after_each z (e ∷ es) lt = (nearer_first z (e.0, o.0) lt, after_each z es lt)

module _ (dims within : ℕ) (ys : List (ℕ × Object)) where
  -- the others that an object meets
  abbrev met : ℕ × Object → List (ℕ × Object)
  met o = filter (λ other. near_test dims within (bounds_of o.1) (bounds_of other.1)) ys

  later_lead : (z : ℕ × ℕ) (xs : List (ℕ × Object)) → T (below_all nat_cmp z.1 xs)
      → Heads z (map turned (near_objects dims within xs ys))
  later_lead z [] h = tt
  later_lead z (x ∷ xs) h =
      subst (Heads z) (sym (map-append turned (pairs_with dims within ys x) (near_objects dims within xs ys)))
      (Heads-append z (map turned (pairs_with dims within ys x)) (map turned (near_objects dims within xs ys))
      (after_each x z (met x)
      (rises z.1 x.0 (left_of (is_lt (nat_cmp z.1 x.0)) (below_all nat_cmp z.1 xs) h)))
      (later_lead z xs (right_of (is_lt (nat_cmp z.1 x.0)) (below_all nat_cmp z.1 xs) h)))

  near_ascend : (xs : List (ℕ × Object)) → T (is_sorted nat_cmp xs) → T (is_sorted nat_cmp ys)
      → Ascends (map turned (near_objects dims within xs ys))
  near_ascend [] s s' = tt
  near_ascend (x ∷ xs) s s' =
      let block = map turned (pairs_with dims within ys x) in
      let after : T (below_all nat_cmp x.0 xs) =
      left_of (below_all nat_cmp x.0 xs) (is_sorted nat_cmp xs) s in
      subst Ascends (sym (map-append turned (pairs_with dims within ys x) (near_objects dims within xs ys)))
      (Ascends-append block (map turned (near_objects dims within xs ys))
      (each_ascends x (met x)
      (filter_sorted (λ other. near_test dims within (bounds_of x.1) (bounds_of other.1)) ys s'))
      (near_ascend xs (right_of (below_all nat_cmp x.0 xs) (is_sorted nat_cmp xs) s) s')
      (λ z there. later_lead z xs
      (subst (λ (n : ℕ). T (below_all nat_cmp n xs)) (sym (each_has x z (met x) there)) after)))

-- ---- the pairs of the same objects in another order

sum_near : (dims within : ℕ) (f : ℕ × ℕ → ℕ) (xs ys : List (ℕ × Object))
    → total f (near_objects dims within xs ys) ≡ total (λ x. total f (pairs_with dims within ys x)) xs
sum_near dims within f [] ys = refl
sum_near dims within f (x ∷ xs) ys =
    total-append f (pairs_with dims within ys x) (near_objects dims within xs ys)
    ∙ ap (λ (n : ℕ). total f (pairs_with dims within ys x) + n) (sum_near dims within f xs ys)

same_sums : (dims within : ℕ) (f : ℕ × ℕ → ℕ) (xs xs' ys ys' : List (ℕ × Object)) → IsPermutation xs xs'
    → IsPermutation ys ys'
    → total f (near_objects dims within xs ys) ≡ total f (near_objects dims within xs' ys')
same_sums dims within f xs xs' ys ys' same same' =
    sum_near dims within f xs ys
    ∙ total-same (λ x. total f (pairs_with dims within ys x)) (λ x. total f (pairs_with dims within ys' x)) xs
    (λ x. sym (total-permutation f (pairs_with dims within ys x) (pairs_with dims within ys' x)
    (IsPermutation-map (λ other. (x.0, other.0))
    (filter (λ other. near_test dims within (bounds_of x.1) (bounds_of other.1)) ys)
    (filter (λ other. near_test dims within (bounds_of x.1) (bounds_of other.1)) ys')
    (filter_permuted (λ other. near_test dims within (bounds_of x.1) (bounds_of other.1)) ys ys' same'))))
    ∙ sym (total-permutation (λ x. total f (pairs_with dims within ys' x)) xs xs' same)
    ∙ sym (sum_near dims within f xs' ys')

-- pairs of the same rows with the same objects in another order
near_permuted : (dims within : ℕ) (xs ys ys' : List (ℕ × Object)) → IsPermutation ys ys'
    → IsPermutation (near_objects dims within xs ys) (near_objects dims within xs ys')
near_permuted dims within [] ys ys' same = IsPermutation-refl []
near_permuted dims within (x ∷ xs) ys ys' same =
    let met : ℕ × Object → Bool = λ other. near_test dims within (bounds_of x.1) (bounds_of other.1) in
    IsPermutation-append (pairs_with dims within ys x) (pairs_with dims within ys' x)
    (near_objects dims within xs ys) (near_objects dims within xs ys')
    (IsPermutation-map (λ (other : ℕ × Object). (x.0, other.0)) (filter met ys) (filter met ys')
    (filter_permuted met ys ys' same))
    (near_permuted dims within xs ys ys' same)

-- ---- the answer

-- what a join of rows with the tree of a layer answers are the pairs of the rows and the objects of the layer
pub rows_are : (dims within : ℕ) (t : Tree) (rows objects : List (ℕ × Object)) (pairs : List (ℕ × ℕ))
    → IsPermutation (objects_in t.row) objects
    → IsPermutation (near_objects dims within rows (objects_in t.row)) pairs
    → IsPermutation (near_objects dims within rows objects) pairs
rows_are dims within t rows objects pairs same all =
    IsPermutation-trans (near_objects dims within rows objects)
    (near_objects dims within rows (objects_in t.row)) pairs
    (IsPermutation-sym (near_objects dims within rows (objects_in t.row)) (near_objects dims within rows objects)
    (near_permuted dims within rows (objects_in t.row) objects same)) all

pub joins_answer : (dims within : ℕ) (s t : Tree) (xs ys : List (ℕ × Object)) (pairs : List (ℕ × ℕ))
    → IsPermutation (objects_in s.row) xs → IsPermutation (objects_in t.row) ys → T (is_sorted nat_cmp xs)
    → T (is_sorted nat_cmp ys)
    → IsJoinAnswer dims within s t pairs → pairs ≡ near_objects dims within xs ys
joins_answer dims within s t xs ys pairs same same' sorted sorted' answer =
    let all = near_objects dims within xs ys in
    let below = near_objects dims within (objects_in s.row) (objects_in t.row) in
    let once : map turned pairs ≡ map turned all =
    one_order (map turned pairs) (map turned all) (sorted_ascend pairs answer.order)
    (near_ascend dims within ys xs sorted sorted')
    (λ z.
    let f : ℕ × ℕ → ℕ = λ p. cond (same_row z (turned p)) 1 0 in
    listed_turned z pairs ∙ total-permutation f below pairs answer.all
    ∙ same_sums dims within f (objects_in s.row) xs (objects_in t.row) ys same same'
    ∙ sym (listed_turned z all)) in
    sym (turned_back pairs) ∙ ap (map turned) once ∙ turned_back all

-- what a join of the trees of two layers answers are the pairs of the table
pub pairs_are : (dims within most other_most : ℕ) (pages : PageMap) (root other_root : Root)
    (ids_root other_ids_root : ℕ) (l o : LayerPages) (first second : Layer) (pairs : List (ℕ × ℕ))
    → first.dims ≡ dims
    → IsLayerAt dims most pages root ids_root l first.objects
    → IsLayerAt dims other_most pages other_root other_ids_root o second.objects
    → IsJoinAnswer dims within l.tree o.tree pairs → pairs ≡ join_rows first second within
pairs_are dims within most other_most pages root other_root ids_root other_ids_root l o first second pairs
    same at at' answer =
    joins_answer dims within l.tree o.tree (entries first.objects) (entries second.objects) pairs at.leaves
    at'.leaves (entries_sorted first.objects) (entries_sorted second.objects) answer
    ∙ ap (λ (d : ℕ). near_objects d within (entries first.objects) (entries second.objects)) (sym same)

-- ---- refusals and replies

module _ (t : Table) (first second : List ℕ) (within : ℕ) (named : is_layer_name first ≡ true)
    (named' : is_layer_name second ≡ true) where
  pub no_first : (place : ℕ) → Belongs t first place
      → refusal_of t (Join first second within) ≡ Some refusal.NoLayer
  no_first place belongs = let absent = not_there t first place belongs in rw (named, named', absent) refl

  module _ (place : ℕ) (finds : Finds t first place) where
    pub no_second : (other : ℕ) → Belongs t second other
        → refusal_of t (Join first second within) ≡ Some refusal.NoLayer
    no_second other belongs = let there = named_there t first place finds in
        let absent = not_there t second other belongs in rw (named, named', there, absent) refl

    module _ (other : ℕ) (finds' : Finds t second other) where
      pub dims_differ : ((layer_at t first).dims == (layer_at t second).dims) ≡ false
          → refusal_of t (Join first second within) ≡ Some refusal.DimsDiffer
      dims_differ e = let there = named_there t first place finds in
          let there' = named_there t second other finds' in rw (named, named', there, there', e) refl

      pub joins : ((layer_at t first).dims == (layer_at t second).dims) ≡ true
          → refusal_of t (Join first second within) ≡ None
      joins e = let there = named_there t first place finds in
          let there' = named_there t second other finds' in rw (named, named', there, there', e) refl

pub pairs_replied : {A : Type 0} (rose : Type 0) (rows : List (ℕ × ℕ))
    (result : Result (Vec (ℕ × ℕ) A) Refusal) → IfOk result (λ pairs. pairs.items ≡ rows)
    → IfErr result (IsFault rose) → IsReply rose None (Pairs rows) (pairs_answer result)
pairs_replied rose rows (Ok pairs) is failed = inl (ap Pairs is)
pairs_replied rose rows (Err r) is failed = inr failed
