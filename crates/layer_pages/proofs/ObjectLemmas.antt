-- Objects as lists and as a map by identifier.
use Rattle.std.proofs.Common.{◌≡◌, ◌∙◌, ℕ, zero, suc, ◌+◌, ◌<◌, ◌≤◌, Bool, true, false, cond, eqb, nat_lt}
use Rattle.std.proofs.Common.{◌&&◌, T, Option, Some, None, List, [], ◌∷◌, ◌++◌, length, get_or, All, refl}
use Rattle.std.proofs.Common.{sym, ap, subst, ⊎_elim, arith}
use Rattle.std.specs.Prelude.{IsPermutation, filter, is_some}
use Rattle.std.specs.Cmp.{nat_cmp_total}
use Rattle.std.specs.FinMap.{empty as empty_map, entries, entries-insert, entries_sorted, find, get}
use Rattle.std.specs.FinMap.{get-entries, get-insert, get-remove, contains_key, insert as map_insert}
use Rattle.std.specs.FinMap.{is_sorted, len, len-empty, len-entries, nat_cmp-IsAntisymmetric, put}
use Rattle.std.specs.FinMap.{remove as map_remove, same_entries_map, same_map}
use Rattle.std.specs.FinMap.Entries.{below_all, by_order}
use Rattle.std.specs.List.{Contains, insert}
use Rattle.std.specs.List.Sorted.{IsNonDecreasingBy}
use Rattle.std.specs.Ordering.{nat_cmp, is_eq, is_lt, eq_by_cmp}
use Rattle.std.specs.declared.cmp.Ordering.{Ordering}
use Rattle.std.specs.declared.cmp.Ordering.TheVariants.{Less, Equal, Greater}
use Rattle.std.proofs.lemmas.Bool.{cases_eq, cases_lt}
use Rattle.std.proofs.lemmas.Bool.Decides.{nat_tests}
use Rattle.std.proofs.lemmas.List.{append-nil}
use Rattle.std.proofs.lemmas.List.Elements.{All-cons, All-head, All-nil, All-tail}
use Rattle.std.proofs.lemmas.List.Sorted.{Contains-permutation, IsPermutation-cons, IsPermutation-insert}
use Rattle.std.proofs.lemmas.List.Sorted.{IsPermutation-refl, IsPermutation-sym, IsPermutation-trans}
use Rattle.std.proofs.lemmas.List.Sorted.{length_permutation}
use Rattle.box_math.specs.Bounds.{IsBox}
use Rattle.box_math.specs.Objects.{Object, bounds_of}
use Rattle.bucket_page.specs.Layout.{Entry}
use Rattle.tree_node.specs.Boxes.{RowHasBoxes}
use Rattle.tree_node.specs.Positions.{total}
use Rattle.tree_node.specs.Shape.{RowHasShape}
use Rattle.tree_node.specs.Trees.{Row, end, more, object, child, objects_in}
use Rattle.tree_node.proofs.ObjectLemmas.{equal_sums_permute}
use Rattle.tree_node.proofs.PositionLemmas.{total-append}
use Rattle.bulk_load.proofs.RowWords.{total-permutation}
use Rattle.id_words.specs.Objects.{AreNew, with_all}
use Rattle.layer_pages.specs.Layers.{Objects}

-- ---- no object

abbrev no_map : Objects
no_map = empty_map

pub no_entries : entries no_map ≡ []
no_entries = empty_list (entries no_map) (sym (len-entries no_map) ∙ none_counted)
  where
    empty_list : (os : List Entry) → length os ≡ 0 → os ≡ []
    empty_list [] is = refl
    empty_list (o ∷ os) is = absurd (omega (arith, is))

    none_counted : len no_map ≡ 0
    none_counted = len-empty nat_cmp Object

pub no_objects : IsPermutation [] (entries no_map)
no_objects = subst (IsPermutation []) (sym no_entries) (IsPermutation-refl [])

-- ---- an object with a new identifier

module _ {K X : Type 0} (R : K → K → Ordering) where
  by_cases : (o : Ordering) (k : K) (v : X) (e : K × X) (es : List (K × X)) → R k e.0 ≡ o
      → find R k (e ∷ es) ≡ None → ((i : ℕ) × (put R k v es ≡ insert es i (k, v)))
      → (i : ℕ) × (put R k v (e ∷ es) ≡ insert (e ∷ es) i (k, v))
  by_cases Less k v e es h none rest =
      (0, ap (λ o. by_order o ((k, v) ∷ e ∷ es) ((e.0, v) ∷ es) (e ∷ put R k v es)) h)
  by_cases Equal k v e es h none rest =
      absurd (let found : Some e.1 ≡ None = sym (ap (λ o. cond (is_eq o) (Some e.1) (find R k es)) h)
      ∙ none in cc)
  by_cases Greater k v e es h none rest = (
    suc rest.0,
    ap (λ o. by_order o ((k, v) ∷ e ∷ es) ((e.0, v) ∷ es) (e ∷ put R k v es)) h
        ∙ ap (λ t. e ∷ t) rest.1,
  )

  behind_none : (o : Ordering) (k : K) (e : K × X) (es : List (K × X)) → R k e.0 ≡ o
      → find R k (e ∷ es) ≡ None → find R k es ≡ None
  behind_none Less k e es h none = sym (ap (λ o. cond (is_eq o) (Some e.1) (find R k es)) h) ∙ none
  behind_none Equal k e es h none =
      absurd (let found : Some e.1 ≡ None = sym (ap (λ o. cond (is_eq o) (Some e.1) (find R k es)) h)
      ∙ none in cc)
  behind_none Greater k e es h none = sym (ap (λ o. cond (is_eq o) (Some e.1) (find R k es)) h) ∙ none

  put_is_insert : (k : K) (v : X) (es : List (K × X)) → find R k es ≡ None
      → (i : ℕ) × (put R k v es ≡ insert es i (k, v))
  put_is_insert k v [] none = (0, refl)
  put_is_insert k v (e ∷ es) none =
      by_cases (R k e.0) k v e es refl none (put_is_insert k v es (behind_none (R k e.0) k e es refl none))

  put_shuffles : (k : K) (v : X) (es : List (K × X)) → find R k es ≡ None
      → IsPermutation ((k, v) ∷ es) (put R k v es)
  put_shuffles k v es none = let at = put_is_insert k v es none in
      subst (IsPermutation ((k, v) ∷ es)) (sym at.1) (IsPermutation-insert es at.0 (k, v))

none_of : {X : Type 0} (o : Option X) → is_some o ≡ false → o ≡ None
none_of None e = refl
none_of (Some x) e = absurd (cc)

-- the entries of the map are the ones before and the new one
pub one_entry_more : (m : Objects) (id : ℕ) (b : Object) → contains_key m id ≡ false
    → IsPermutation ((id, b) ∷ entries m) (entries (map_insert m id b))
one_entry_more m id b absent =
    subst (IsPermutation ((id, b) ∷ entries m)) (sym (entries-insert nat_cmp_total m id b))
    (put_shuffles nat_cmp id b (entries m) (sym (get-entries m id) ∙ none_of (get m id) absent))

-- leaves with an object more hold the map with it
pub more_leaves : (leaves leaves' : List Entry) (m : Objects) (id : ℕ) (b : Object)
    → IsPermutation ((id, b) ∷ leaves) leaves' → IsPermutation leaves (entries m) → contains_key m id ≡ false
    → IsPermutation leaves' (entries (map_insert m id b))
more_leaves leaves leaves' m id b added same absent =
    IsPermutation-trans leaves' ((id, b) ∷ leaves) (entries (map_insert m id b))
    (IsPermutation-sym ((id, b) ∷ leaves) leaves' added)
    (IsPermutation-trans ((id, b) ∷ leaves) ((id, b) ∷ entries m) (entries (map_insert m id b))
    (IsPermutation-cons (id, b) leaves (entries m) same) (one_entry_more m id b absent))

-- ---- entries ascend

first_of : (a b : Bool) → T (a && b) → T a
first_of true b p = tt
first_of false b p = p

second_of : (a b : Bool) → T (a && b) → T b
second_of true b p = p
second_of false b p = absurd p

both_of : (a b : Bool) → T a → T b → T (a && b)
both_of true b p q = q
both_of false b p q = p

less_is : (a b : ℕ) → T (is_lt (nat_cmp a b)) → a < b
less_is a b h =
    ⊎_elim (λ (lt : a < b). lt) (λ (ge : b ≤ a). absurd (subst T (not_less a b ge) h)) (cases_lt a b)
  where
    not_less : (a b : ℕ) → b ≤ a → is_lt (nat_cmp a b) ≡ false
    not_less a b ge = grind (arith, nat_tests)

-- each identifier is greater than one before all of them
after_key : (k : ℕ) (es : List Entry) → T (below_all nat_cmp k es) → (j : ℕ) (d : Entry) → j < length es
    → k < (get_or es j d).0
after_key k [] h j d lt = absurd (omega (arith, lt))
after_key k (e ∷ es) h zero d lt = less_is k e.0 (first_of (is_lt (nat_cmp k e.0)) (below_all nat_cmp k es) h)
after_key k (e ∷ es) h (suc j) d lt =
    after_key k es (second_of (is_lt (nat_cmp k e.0)) (below_all nat_cmp k es) h) j d (omega (arith, lt))

sorted_first : (e : Entry) (es : List Entry) → T (is_sorted nat_cmp (e ∷ es)) → T (below_all nat_cmp e.0 es)
sorted_first e es h = first_of (below_all nat_cmp e.0 es) (is_sorted nat_cmp es) h

sorted_rest : (e : Entry) (es : List Entry) → T (is_sorted nat_cmp (e ∷ es)) → T (is_sorted nat_cmp es)
sorted_rest e es h = second_of (below_all nat_cmp e.0 es) (is_sorted nat_cmp es) h

pub sorted_rises : (es : List Entry) → T (is_sorted nat_cmp es) → IsNonDecreasingBy (λ (o : Entry). o.0) es
sorted_rises [] s i j d le lt = absurd (omega (arith, lt))
sorted_rises (e ∷ es) s zero zero d le lt = omega arith
sorted_rises (e ∷ es) s zero (suc j) d le lt = let after =
    after_key e.0 es (sorted_first e es s) j d (omega (arith, lt)) in omega (arith, after)
sorted_rises (e ∷ es) s (suc i) zero d le lt = absurd (omega (arith, le))
sorted_rises (e ∷ es) s (suc i) (suc j) d le lt =
    sorted_rises es (sorted_rest e es s) i j d (omega (arith, le)) (omega (arith, lt))

-- ---- how many have lesser identifiers, or one

lesser : ℕ → Entry → ℕ
lesser k o = cond (nat_lt o.0 k) 1 0

lesser_none : (k : ℕ) (o : Entry) → k ≤ o.0 → lesser k o ≡ 0
unfolding lesser
lesser_none k o le = grind (arith, nat_tests)

not_lesser : (k : ℕ) (o : Entry) → lesser k o ≡ 0 → k ≤ o.0
unfolding lesser
not_lesser k o none = grind (arith, nat_tests)

none_lesser : (k : ℕ) (xs : List Entry) → ((j : ℕ) (d : Entry) → j < length xs → k ≤ (get_or xs j d).0)
    → total (lesser k) xs ≡ 0
none_lesser k [] each = refl
none_lesser k (x ∷ xs) each =
    let here = lesser_none k x (each 0 x (omega arith)) in
    let rest = none_lesser k xs (λ j d lt. each (suc j) d (omega (arith, lt))) in
    omega (arith, here, rest)

equal : ℕ → Entry → ℕ
equal k o = cond (eqb o.0 k) 1 0

equal_none : (k : ℕ) (o : Entry) → ¬ (o.0 ≡ k) → equal k o ≡ 0
unfolding equal
equal_none k o other = grind (arith, nat_tests)

equal_one : (k : ℕ) (o : Entry) → o.0 ≡ k → equal k o ≡ 1
unfolding equal
equal_one k o is = grind (arith, nat_tests)

none_equal : (k : ℕ) (xs : List Entry) → ((j : ℕ) (d : Entry) → j < length xs → k < (get_or xs j d).0)
    → total (equal k) xs ≡ 0
none_equal k [] each = refl
none_equal k (x ∷ xs) each =
    let after = each 0 x (omega arith) in
    let here = equal_none k x (λ is. omega (arith, is, after)) in
    let rest = none_equal k xs (λ j d lt. each (suc j) d (omega (arith, lt))) in
    omega (arith, here, rest)

one_equal : (k : ℕ) (es : List Entry) → T (is_sorted nat_cmp es) → total (equal k) es ≤ 1
one_equal k [] s = omega arith
one_equal k (e ∷ es) s = ⊎_elim
    (λ (is : e.0 ≡ k).
    let here = equal_one k e is in
    let rest =
    none_equal k es
    (λ j d lt. let after = after_key e.0 es (sorted_first e es s) j d lt in omega (arith, after, is)) in
    omega (arith, here, rest))
    (λ (other : ¬ (e.0 ≡ k)).
    let here = equal_none k e other in
    let rest = one_equal k es (sorted_rest e es s) in
    omega (arith, here, rest))
    (cases_eq e.0 k)

differs : (k : ℕ) (e : Entry) → equal k e ≡ 0 → eq_by_cmp nat_cmp k e.0 ≡ false
unfolding equal
differs k e none = grind (arith, nat_tests)

not_found : (k : ℕ) (es : List Entry) → total (equal k) es ≡ 0 → find nat_cmp k es ≡ None
not_found k [] none = refl
not_found k (e ∷ es) none =
    ap (λ b. cond b (Some e.1) (find nat_cmp k es)) (differs k e (omega (arith, none)))
    ∙ not_found k es (omega (arith, none))

-- ---- one list of the objects ascends

same_list : (x y : Entry) (xs ys : List Entry) → x ≡ y → xs ≡ ys → x ∷ xs ≡ y ∷ ys
same_list x y xs ys here rest = cc

pub one_order : (xs ys : List Entry) → IsNonDecreasingBy (λ (o : Entry). o.0) xs → T (is_sorted nat_cmp ys)
    → IsPermutation xs ys → xs ≡ ys
one_order [] [] up sorted same = refl
one_order [] (y ∷ ys) up sorted same = absurd (omega (arith, length_permutation [] (y ∷ ys) same))
one_order (x ∷ xs) [] up sorted same = absurd (omega (arith, length_permutation (x ∷ xs) [] same))
one_order (x ∷ xs) (y ∷ ys) up sorted same =
    same_list x y xs ys here
    (one_order xs ys (λ i j d le lt. up (suc i) (suc j) d (omega (arith, le)) (omega (arith, lt)))
    (sorted_rest y ys sorted) rest)
  where
    low : y.0 ≤ x.0
    low =
        let none = none_lesser y.0 (y ∷ ys) (λ j d lt. sorted_rises (y ∷ ys) sorted 0 j d (omega arith) lt) in
        not_lesser y.0 x (omega (arith, none, total-permutation (lesser y.0) (x ∷ xs) (y ∷ ys) same))

    high : x.0 ≤ y.0
    high =
        let none = none_lesser x.0 (x ∷ xs) (λ j d lt. up 0 j d (omega arith) lt) in
        not_lesser x.0 y (omega (arith, none, total-permutation (lesser x.0) (x ∷ xs) (y ∷ ys) same))

    at : (k : ℕ) → k < length (y ∷ ys) → get_or (y ∷ ys) k x ≡ x → x ≡ y
    at zero lt is = sym is
    at (suc k) lt is = let after = after_key y.0 ys (sorted_first y ys sorted) k x (omega (arith, lt)) in
        absurd (omega (arith, after, ap (λ (o : Entry). o.0) is, high))

    here : x ≡ y
    here = let there = Contains-permutation (x ∷ xs) (y ∷ ys) x same (0, omega arith, refl) in
        at there.0 there.1 there.2

    rest : IsPermutation xs ys
    rest = equal_sums_permute xs ys
        (λ f. omega (arith, total-permutation f (x ∷ xs) (y ∷ ys) same, ap f here))

-- ---- an object that goes

same_key : (q k : ℕ) → q ≡ k → eq_by_cmp nat_cmp q k ≡ true
same_key q k is = grind (arith, nat_tests)

other_key : (q k : ℕ) → ¬ (q ≡ k) → eq_by_cmp nat_cmp q k ≡ false
other_key q k other = grind (arith, nat_tests)

pub gone : (m : Objects) (id : ℕ) → contains_key (map_remove m id) id ≡ false
gone m id =
    ap is_some (get-remove nat_cmp_total m id id ∙ ap (λ b. cond b None (get m id)) (same_key id id refl))

cond_twice : (b : Bool) (x y z : Option Object) → cond b x (cond b y z) ≡ cond b x z
cond_twice true x y z = refl
cond_twice false x y z = refl

-- an object that is put where one went is one that is put over it
pub put_anew : (m : Objects) (id : ℕ) (b : Object) → map_insert (map_remove m id) id b ≡ map_insert m id b
put_anew m id b = same_map nat_cmp_total nat_cmp-IsAntisymmetric _ _ (λ q.
    get-insert nat_cmp_total (map_remove m id) id b q
    ∙ ap (λ o. cond (eq_by_cmp nat_cmp q id) (Some b) o) (get-remove nat_cmp_total m id q)
    ∙ cond_twice (eq_by_cmp nat_cmp q id) (Some b) None (get m q) ∙ sym (get-insert nat_cmp_total m id b q))

-- put where it is, it changes nothing
put_again : (m : Objects) (id : ℕ) (b : Object) → get m id ≡ Some b → map_insert m id b ≡ m
put_again m id b there =
    same_map nat_cmp_total nat_cmp-IsAntisymmetric _ _ (λ q. get-insert nat_cmp_total m id b q ∙ as_before q)
  where
    as_before : (q : ℕ) → cond (eq_by_cmp nat_cmp q id) (Some b) (get m q) ≡ get m q
    as_before q = ⊎_elim
        (λ (is : q ≡ id). ap (λ c. cond c (Some b) (get m q)) (same_key q id is)
        ∙ sym (ap (get m) is ∙ there))
        (λ (other : ¬ (q ≡ id)). ap (λ c. cond c (Some b) (get m q)) (other_key q id other))
        (cases_eq q id)

-- the entries of the map are the others and the one that goes
one_entry_less : (m : Objects) (id : ℕ) (b : Object) → get m id ≡ Some b
    → IsPermutation ((id, b) ∷ entries (map_remove m id)) (entries m)
one_entry_less m id b there =
    subst (λ (n : Objects). IsPermutation ((id, b) ∷ entries (map_remove m id)) (entries n))
    (put_anew m id b ∙ put_again m id b there)
    (one_entry_more (map_remove m id) id b (gone m id))

-- leaves without the object hold the map without it
pub fewer_leaves : (leaves leaves' : List Entry) (m : Objects) (id : ℕ) (b : Object)
    → IsPermutation ((id, b) ∷ leaves') leaves → IsPermutation leaves (entries m) → get m id ≡ Some b
    → IsPermutation leaves' (entries (map_remove m id))
fewer_leaves leaves leaves' m id b removed same there =
    equal_sums_permute leaves' (entries (map_remove m id)) (λ f.
    let taken = total-permutation f ((id, b) ∷ leaves') leaves removed in
    let all = total-permutation f leaves (entries m) same in
    let less =
    total-permutation f ((id, b) ∷ entries (map_remove m id)) (entries m) (one_entry_less m id b there) in
    omega (arith, taken, all, less))

-- ---- an object in the leaves, and in the map

pub object_there : (leaves : List Entry) (m : Objects) (id : ℕ) (b : Object)
    → IsPermutation leaves (entries m) → get m id ≡ Some b → Contains leaves (id, b)
object_there leaves m id b same there =
    Contains-permutation (entries m) leaves (id, b) (IsPermutation-sym leaves (entries m) same)
    (Contains-permutation ((id, b) ∷ entries (map_remove m id)) (entries m) (id, b)
    (one_entry_less m id b there) (0, omega arith, refl))

found_at : (k : ℕ) (b : Object) (e : Entry) (es : List Entry) → T (is_sorted nat_cmp (e ∷ es))
    → (Contains es (k, b) → find nat_cmp k es ≡ Some b) → (i : ℕ) → i < length (e ∷ es)
    → get_or (e ∷ es) i (k, b) ≡ (k, b)
    → find nat_cmp k (e ∷ es) ≡ Some b
found_at k b e es sorted rest zero lt is =
    ap (λ c. cond c (Some e.1) (find nat_cmp k es)) (same_key k e.0 (sym (ap (λ (o : Entry). o.0) is)))
    ∙ ap (λ (o : Entry). Some o.1) is
found_at k b e es sorted rest (suc i) lt is =
    let after = after_key e.0 es (sorted_first e es sorted) i (k, b) (omega (arith, lt)) in
    let key = ap (λ (o : Entry). o.0) is in
    ap (λ c. cond c (Some e.1) (find nat_cmp k es))
    (other_key k e.0 (λ same. omega (arith, same, after, key))) ∙ rest (i, omega (arith, lt), is)

found : (k : ℕ) (b : Object) (es : List Entry) → T (is_sorted nat_cmp es) → Contains es (k, b)
    → find nat_cmp k es ≡ Some b
found k b [] sorted held = absurd (omega (arith, held.1))
found k b (e ∷ es) sorted held =
    found_at k b e es sorted (found k b es (sorted_rest e es sorted)) held.0 held.1 held.2

pub object_known : (leaves : List Entry) (m : Objects) (id : ℕ) (b : Object)
    → IsPermutation leaves (entries m) → Contains leaves (id, b) → get m id ≡ Some b
object_known leaves m id b same held = get-entries m id
    ∙ found id b (entries m) (entries_sorted m) (Contains-permutation leaves (entries m) (id, b) same held)

-- ---- those that pass a test

module _ (test : Entry → Bool) where
  total-filter : (f : Entry → ℕ) (xs : List Entry)
      → total f (filter test xs) ≡ total (λ x. cond (test x) (f x) 0) xs
  total-filter f [] = refl
  total-filter f (x ∷ xs) =
      elim (test x) as
      (λ b. total f (cond b (x ∷ filter test xs) (filter test xs)) ≡ cond b (f x) 0 + total
      (λ x. cond (test x) (f x) 0) xs) [
        | true ↦ ap (λ n. f x + n) (total-filter f xs)
        | false ↦ (let rest = total-filter f xs in omega (arith, rest))
      ]

  pub filter_permuted : (xs ys : List Entry) → IsPermutation xs ys
      → IsPermutation (filter test xs) (filter test ys)
  filter_permuted xs ys same =
      equal_sums_permute (filter test xs) (filter test ys)
      (λ f. total-filter f xs ∙ sym (total-permutation (λ x. cond (test x) (f x) 0) xs ys same)
      ∙ sym (total-filter f ys))

  below_filter : (k : ℕ) (es : List Entry) → T (below_all nat_cmp k es)
      → T (below_all nat_cmp k (filter test es))
  below_filter k [] h = tt
  below_filter k (e ∷ es) h =
      let rest = below_filter k es (second_of (is_lt (nat_cmp k e.0)) (below_all nat_cmp k es) h) in
      elim (test e) as (λ b. T (below_all nat_cmp k (cond b (e ∷ filter test es) (filter test es)))) [
        | true ↦ both_of (is_lt (nat_cmp k e.0)) (below_all nat_cmp k (filter test es))
            (first_of (is_lt (nat_cmp k e.0)) (below_all nat_cmp k es) h) rest
        | false ↦ rest
      ]

  pub filter_sorted : (es : List Entry) → T (is_sorted nat_cmp es) → T (is_sorted nat_cmp (filter test es))
  filter_sorted [] h = tt
  filter_sorted (e ∷ es) h =
      let rest = filter_sorted es (sorted_rest e es h) in
      elim (test e) as (λ b. T (is_sorted nat_cmp (cond b (e ∷ filter test es) (filter test es)))) [
        | true ↦ both_of (below_all nat_cmp e.0 (filter test es)) (is_sorted nat_cmp (filter test es))
            (below_filter e.0 es (sorted_first e es h)) rest
        | false ↦ rest
      ]

-- ---- a map of all the objects of a list

pub all_are_new : (pairs : List Entry) (m all : Objects) → IsPermutation (entries m ++ pairs) (entries all)
    → AreNew m pairs × (with_all m pairs ≡ all)
all_are_new [] m all same = (
  tt,
  same_entries_map m all
      (one_order (entries m) (entries all) (sorted_rises (entries m) (entries_sorted m)) (entries_sorted all)
      (subst (λ (es : List Entry). IsPermutation es (entries all)) (append-nil (entries m)) same)),
)
all_are_new (o ∷ rest) m all same = let later = all_are_new rest (map_insert m o.0 o.1) all next in
    ((absent, later.0), later.1)
  where
    none : total (equal o.0) (entries m) ≡ 0
    none =
        let once = one_equal o.0 (entries all) (entries_sorted all) in
        omega (
          arith,
          once,
          total-permutation (equal o.0) (entries m ++ o ∷ rest) (entries all) same,
          total-append (equal o.0) (entries m) (o ∷ rest),
          equal_one o.0 o refl,
        )

    absent : contains_key m o.0 ≡ false
    absent = ap is_some (get-entries m o.0 ∙ not_found o.0 (entries m) none)

    next : IsPermutation (entries (map_insert m o.0 o.1) ++ rest) (entries all)
    next = equal_sums_permute (entries (map_insert m o.0 o.1) ++ rest) (entries all) (λ f.
        let added =
        total-permutation f (o ∷ entries m) (entries (map_insert m o.0 o.1))
        (one_entry_more m o.0 o.1 absent) in
        let whole = total-permutation f (entries m ++ o ∷ rest) (entries all) same in
        omega (
          arith,
          added,
          whole,
          total-append f (entries (map_insert m o.0 o.1)) rest,
          total-append f (entries m) (o ∷ rest),
        ))

-- and such a list gives the entries of a map
pub entries_of_all : (pairs : List Entry) (m : Objects) → AreNew m pairs
    → IsPermutation (entries m ++ pairs) (entries (with_all m pairs))
entries_of_all [] m fresh =
    subst (λ (es : List Entry). IsPermutation es (entries m)) (sym (append-nil (entries m)))
    (IsPermutation-refl (entries m))
entries_of_all (o ∷ rest) m fresh =
    IsPermutation-trans (entries m ++ o ∷ rest) (entries (map_insert m o.0 o.1) ++ rest)
    (entries (with_all (map_insert m o.0 o.1) rest)) turned
    (entries_of_all rest (map_insert m o.0 o.1) fresh.1)
  where
    turned : IsPermutation (entries m ++ o ∷ rest) (entries (map_insert m o.0 o.1) ++ rest)
    turned = equal_sums_permute (entries m ++ o ∷ rest) (entries (map_insert m o.0 o.1) ++ rest) (λ f.
        let added =
        total-permutation f (o ∷ entries m) (entries (map_insert m o.0 o.1))
        (one_entry_more m o.0 o.1 fresh.0) in
        omega (
          arith,
          added,
          total-append f (entries (map_insert m o.0 o.1)) rest,
          total-append f (entries m) (o ∷ rest),
        ))

-- ---- boxes

all_left : (P : Entry → Type 0) (xs ys : List Entry) → All P (xs ++ ys) → All P xs
all_left P [] ys h = All-nil P
all_left P (x ∷ xs) ys h =
    All-cons P x xs (All-head P x (xs ++ ys) h) (all_left P xs ys (All-tail P x (xs ++ ys) h))

all_right : (P : Entry → Type 0) (xs ys : List Entry) → All P (xs ++ ys) → All P ys
all_right P [] ys h = h
all_right P (x ∷ xs) ys h = all_right P xs ys (All-tail P x (xs ++ ys) h)

pub row_boxes : (dims most : ℕ) (row : Row) → RowHasShape dims most row
    → All (λ (o : Entry). IsBox dims (bounds_of o.1)) (objects_in row) → RowHasBoxes dims row
row_boxes dims most end shape boxes = tt
row_boxes dims most (more (object kept id) rest) shape boxes =
    let P : Entry → Type 0 = λ o. IsBox dims (bounds_of o.1) in (
      All-head P (id, kept) (objects_in rest) boxes,
      row_boxes dims most rest shape (All-tail P (id, kept) (objects_in rest) boxes),
    )
row_boxes dims most (more (child bounds page below) rest) shape boxes =
    let P : Entry → Type 0 = λ o. IsBox dims (bounds_of o.1) in (
      shape.2.box,
      row_boxes dims most below shape.3 (all_left P (objects_in below) (objects_in rest) boxes),
      row_boxes dims most rest shape.4 (all_right P (objects_in below) (objects_in rest) boxes),
    )
