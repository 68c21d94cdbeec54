-- The objects of a leaf on both sides of a key, one after the other.
use Rattle.std.proofs.Common.{◌≡◌, ◌∙◌, ℕ, ◌+◌, ◌<◌, ◌≤◌, List, [], ◌∷◌, ◌++◌, length, get_or, take, drop}
use Rattle.std.proofs.Common.{◌^◌, All, Some, refl, sym, ap, subst, ⊎_elim, arith, length-append}
use Rattle.std.proofs.lemmas.Bool.{cases_lt}
use Rattle.std.proofs.lemmas.List.{append-nil, drop_more, take-append-drop, take_more}
use Rattle.box_math.specs.Bounds.{IsDims, origin_box}
use Rattle.block_bytes.specs.Laws.{number_at-lt}
use Rattle.block_bytes.specs.Numbers.{AreBytes, number_at}
use Rattle.bucket_page.specs.Layout.{Entry, entry_place, object_in}
use Rattle.id_page.specs.Leaf.{leaf_at, object_size}
use Rattle.id_page.proofs.LeafReading.{id_of_leaf, leaf_spells}
use Rattle.id_words.specs.Objects.{times_in}
use Rattle.std.proofs.lemmas.List.Elements.{All-from_get_or}
use Rattle.id_tree.specs.Halving.{from_key, under_key}
use Rattle.id_tree.proofs.HalvingLemmas.{all_below_key, one_key_more, skip_from, skip_under, step_from}
use Rattle.id_tree.proofs.HalvingLemmas.{step_under}

-- an object, where it is of no matter which
abbrev pub some_object : Entry
some_object = (0, (origin_box 2, 0))

pub under-append : (key : ℕ) (xs ys : List Entry)
    → under_key key (xs ++ ys) ≡ under_key key xs ++ under_key key ys
under-append key [] ys = refl
under-append key (x ∷ xs) ys = ⊎_elim
    (λ (lt : x.0 < key). step_under key x (xs ++ ys) lt
    ∙ ap (λ (zs : List Entry). x ∷ zs) (under-append key xs ys)
    ∙ sym (ap (λ (zs : List Entry). zs ++ under_key key ys) (step_under key x xs lt)))
    (λ (le : key ≤ x.0). skip_under key x (xs ++ ys) le ∙ under-append key xs ys
    ∙ sym (ap (λ (zs : List Entry). zs ++ under_key key ys) (skip_under key x xs le)))
    (cases_lt x.0 key)

pub from-append : (key : ℕ) (xs ys : List Entry)
    → from_key key (xs ++ ys) ≡ from_key key xs ++ from_key key ys
from-append key [] ys = refl
from-append key (x ∷ xs) ys = ⊎_elim
    (λ (lt : x.0 < key). skip_from key x (xs ++ ys) lt ∙ from-append key xs ys
    ∙ sym (ap (λ (zs : List Entry). zs ++ from_key key ys) (skip_from key x xs lt)))
    (λ (le : key ≤ x.0). step_from key x (xs ++ ys) le
    ∙ ap (λ (zs : List Entry). x ∷ zs) (from-append key xs ys)
    ∙ sym (ap (λ (zs : List Entry). zs ++ from_key key ys) (step_from key x xs le)))
    (cases_lt x.0 key)

module _ (key place : ℕ) (xs : List Entry) (within : place < length xs) where
  x : Entry
  x = get_or xs place some_object

  whole : xs ≡ take place xs ++ (x ∷ drop (place + 1) xs)
  unfolding x
  whole = sym (take-append-drop place xs) ∙ ap (λ (zs : List Entry). take place xs ++ zs)
      (drop_more xs place some_object within)

  pub under_next : (get_or xs place some_object).0 < key
      → under_key key (take (place + 1) xs) ≡ under_key key (take place xs) ++ get_or xs place
      some_object ∷ []
  unfolding x
  under_next lt = ap (under_key key) (take_more xs place some_object within)
      ∙ under-append key (take place xs) (x ∷ []) ∙ ap
      (λ (zs : List Entry). under_key key (take place xs) ++ zs) (step_under key x [] lt)

  pub under_skip : key ≤ (get_or xs place some_object).0
      → under_key key (take (place + 1) xs) ≡ under_key key (take place xs)
  unfolding x
  under_skip le = ap (under_key key) (take_more xs place some_object within)
      ∙ under-append key (take place xs) (x ∷ []) ∙ ap
      (λ (zs : List Entry). under_key key (take place xs) ++ zs) (skip_under key x [] le)
      ∙ append-nil (under_key key (take place xs))

  pub from_next : key ≤ (get_or xs place some_object).0
      → from_key key (take (place + 1) xs) ≡ from_key key (take place xs) ++ get_or xs place some_object ∷ []
  unfolding x
  from_next le = ap (from_key key) (take_more xs place some_object within)
      ∙ from-append key (take place xs) (x ∷ []) ∙ ap
      (λ (zs : List Entry). from_key key (take place xs) ++ zs) (step_from key x [] le)

  pub from_skip : (get_or xs place some_object).0 < key
      → from_key key (take (place + 1) xs) ≡ from_key key (take place xs)
  unfolding x
  from_skip lt = ap (from_key key) (take_more xs place some_object within)
      ∙ from-append key (take place xs) (x ∷ []) ∙ ap
      (λ (zs : List Entry). from_key key (take place xs) ++ zs) (skip_from key x [] lt)
      ∙ append-nil (from_key key (take place xs))

  pub under_room : (get_or xs place some_object).0 < key
      → length (under_key key (take place xs)) < length (under_key key xs)
  unfolding x
  under_room lt =
      let all = ap (λ (zs : List Entry). length (under_key key zs)) whole in
      let parts = ap length (under-append key (take place xs) (x ∷ drop (place + 1) xs)) in
      let sum = length-append (under_key key (take place xs)) (under_key key (x ∷ drop (place + 1) xs)) in
      let here = ap length (step_under key x (drop (place + 1) xs) lt) in
      omega (arith, all, parts, sum, here)

  pub from_room : key ≤ (get_or xs place some_object).0
      → length (from_key key (take place xs)) < length (from_key key xs)
  unfolding x
  from_room le =
      let all = ap (λ (zs : List Entry). length (from_key key zs)) whole in
      let parts = ap length (from-append key (take place xs) (x ∷ drop (place + 1) xs)) in
      let sum = length-append (from_key key (take place xs)) (from_key key (x ∷ drop (place + 1) xs)) in
      let here = ap length (step_from key x (drop (place + 1) xs) le) in
      omega (arith, all, parts, sum, here)

-- ---- identifiers fit

-- the identifiers in a page of bytes are numbers of 64 bits
pub ids_fit : (dims : ℕ) (page : List ℕ) (objects : List Entry) → AreBytes page
    → leaf_at dims page ≡ Some objects → All (λ o. o.0 < 18446744073709551616) objects
unfolding object_in
ids_fit dims page objects bytes is = All-from_get_or (λ (o : Entry). o.0 < 18446744073709551616) objects
    some_object (λ place lt.
    let read = id_of_leaf dims page objects place some_object is lt in
    let small : number_at 8 (entry_place (object_size dims) place) page < 256 ^ 8 =
    number_at-lt 8 (entry_place (object_size dims) place) page bytes in
    let big : 256 ^ 8 ≡ 18446744073709551616 = refl in
    subst (λ (n : ℕ). n < 18446744073709551616) read
    (subst (λ (n : ℕ). number_at 8 (entry_place (object_size dims) place) page < n) big small))

-- below the greatest key there are all, or all but one
pub most_below : (dims : ℕ) (page : List ℕ) (objects : List Entry) → AreBytes page
    → leaf_at dims page ≡ Some objects → ((id : ℕ) → times_in id objects ≤ 1)
    → length objects ≤ length (under_key 18446744073709551615 objects) + 1
most_below dims page objects bytes is single =
    let all : length (under_key 18446744073709551616 objects) ≡ length objects =
    all_below_key 18446744073709551616 objects (ids_fit dims page objects bytes is) in
    let more : length (under_key 18446744073709551616 objects) ≡ length
    (under_key 18446744073709551615 objects) + times_in 18446744073709551615 objects =
    one_key_more 18446744073709551615 objects in
    let few = single 18446744073709551615 in
    few_more (length objects) (length (under_key 18446744073709551615 objects))
    (times_in 18446744073709551615 objects) (sym all ∙ more) few
  where
    few_more : (n m t : ℕ) → n ≡ m + t → t ≤ 1 → n ≤ m + 1
    few_more n m t is few = omega arith

-- ---- pages started like others

-- a page that was started with the dimension of a leaf is a leaf of that dimension
pub leaf_like : (dims byte : ℕ) (other new : List ℕ) (objects : List Entry) → leaf_at dims other ≡ Some objects
    → byte ≡ dims → (IsDims byte → leaf_at byte new ≡ Some []) → leaf_at dims new ≡ Some []
leaf_like dims byte other new objects is same started =
    subst (λ (d : ℕ). leaf_at d new ≡ Some []) same
    (started (subst IsDims (sym same) (leaf_spells dims other objects is).head.axes))
