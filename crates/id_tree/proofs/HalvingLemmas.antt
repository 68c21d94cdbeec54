-- The objects of a leaf on both sides of a key.
use Rattle.std.proofs.Common.{◌≡◌, ◌∙◌, ℕ, ◌+◌, ◌<◌, ◌≤◌, Bool, cond, eqb, Some, None, List, [], ◌∷◌, ◌++◌}
use Rattle.std.proofs.Common.{length, All, rules, refl, sym, ap, subst, ⊎_elim, arith}
use Rattle.std.proofs.lemmas.Bool.{cases_eq, cases_lt}
use Rattle.std.proofs.lemmas.List.Elements.{All-append, All-cons, All-head, All-tail}
use Rattle.bucket_page.specs.Layout.{Entry}
use Rattle.id_page.proofs.Ways.{is_from, is_less}
use Rattle.id_words.proofs.ObjectLemmas.{times-append}
use Rattle.id_words.specs.Objects.{kept_in, times_in}
use Rattle.id_tree.specs.Halving.{from_key, under_key}
use Rattle.id_tree.specs.Steps.{Keeps}
use Rattle.id_tree.proofs.ObjectLemmas.{is_other, is_same, kept-append, none_behind, or_else}

-- one object on its side
pub step_under : (key : ℕ) (x : Entry) (xs : List Entry) → x.0 < key
    → under_key key (x ∷ xs) ≡ x ∷ under_key key xs
step_under key x xs lt = ap (λ (b : Bool). cond b (x ∷ under_key key xs) (under_key key xs))
    (is_less x.0 key lt)

pub skip_under : (key : ℕ) (x : Entry) (xs : List Entry) → key ≤ x.0
    → under_key key (x ∷ xs) ≡ under_key key xs
skip_under key x xs le = ap (λ (b : Bool). cond b (x ∷ under_key key xs) (under_key key xs))
    (is_from x.0 key le)

pub step_from : (key : ℕ) (x : Entry) (xs : List Entry) → key ≤ x.0
    → from_key key (x ∷ xs) ≡ x ∷ from_key key xs
step_from key x xs le = ap (λ (b : Bool). cond b (from_key key xs) (x ∷ from_key key xs)) (is_from x.0 key le)

pub skip_from : (key : ℕ) (x : Entry) (xs : List Entry) → x.0 < key → from_key key (x ∷ xs) ≡ from_key key xs
skip_from key x xs lt = ap (λ (b : Bool). cond b (from_key key xs) (x ∷ from_key key xs)) (is_less x.0 key lt)

pub both_lengths : (key : ℕ) (xs : List Entry)
    → length (under_key key xs) + length (from_key key xs) ≡ length xs
both_lengths key [] = refl
both_lengths key (x ∷ xs) = ⊎_elim
    (λ (lt : x.0 < key). omega
    (arith, ap length (step_under key x xs lt), ap length (skip_from key x xs lt), both_lengths key xs))
    (λ (le : key ≤ x.0). omega
    (arith, ap length (skip_under key x xs le), ap length (step_from key x xs le), both_lengths key xs))
    (cases_lt x.0 key)

pub all_under : (key : ℕ) (xs : List Entry) → All (λ o. o.0 < key) (under_key key xs)
all_under key [] = search rules
all_under key (x ∷ xs) = ⊎_elim
    (λ (lt : x.0 < key). subst (λ ys. All (λ o. o.0 < key) ys) (sym (step_under key x xs lt))
    (All-cons (λ (o : Entry). o.0 < key) x (under_key key xs) lt (all_under key xs)))
    (λ (le : key ≤ x.0). subst (λ ys. All (λ o. o.0 < key) ys) (sym (skip_under key x xs le))
    (all_under key xs))
    (cases_lt x.0 key)

pub all_from : (key : ℕ) (xs : List Entry) → All (λ o. key ≤ o.0) (from_key key xs)
all_from key [] = search rules
all_from key (x ∷ xs) = ⊎_elim
    (λ (lt : x.0 < key). subst (λ ys. All (λ o. key ≤ o.0) ys) (sym (skip_from key x xs lt))
    (all_from key xs))
    (λ (le : key ≤ x.0). subst (λ ys. All (λ o. key ≤ o.0) ys) (sym (step_from key x xs le))
    (All-cons (λ (o : Entry). key ≤ o.0) x (from_key key xs) le (all_from key xs)))
    (cases_lt x.0 key)

module _ (P : Entry → Type 0) (key : ℕ) where
  pub some_under : (xs : List Entry) → All P xs → All P (under_key key xs)
  some_under [] all = search rules
  some_under (x ∷ xs) all = ⊎_elim
      (λ (lt : x.0 < key). subst (λ ys. All P ys) (sym (step_under key x xs lt))
      (All-cons P x (under_key key xs) (All-head P x xs all) (some_under xs (All-tail P x xs all))))
      (λ (le : key ≤ x.0). subst (λ ys. All P ys) (sym (skip_under key x xs le))
      (some_under xs (All-tail P x xs all)))
      (cases_lt x.0 key)

  pub some_from : (xs : List Entry) → All P xs → All P (from_key key xs)
  some_from [] all = search rules
  some_from (x ∷ xs) all = ⊎_elim
      (λ (lt : x.0 < key). subst (λ ys. All P ys) (sym (skip_from key x xs lt))
      (some_from xs (All-tail P x xs all)))
      (λ (le : key ≤ x.0). subst (λ ys. All P ys) (sym (step_from key x xs le))
      (All-cons P x (from_key key xs) (All-head P x xs all) (some_from xs (All-tail P x xs all))))
      (cases_lt x.0 key)

both_times : (q key : ℕ) (xs : List Entry) → times_in q (under_key key xs) + times_in q
    (from_key key xs) ≡ times_in q xs
both_times q key [] = refl
both_times q key (x ∷ xs) = ⊎_elim
    (λ (lt : x.0 < key). omega (
      arith,
      ap (times_in q) (step_under key x xs lt),
      ap (times_in q) (skip_from key x xs lt),
      both_times
          q key xs,
    ))
    (λ (le : key ≤ x.0). omega (
      arith,
      ap (times_in q) (skip_under key x xs le),
      ap (times_in q) (step_from key x xs le),
      both_times
          q key xs,
    ))
    (cases_lt x.0 key)

-- an identifier is on its side alone
kept_under : (q key : ℕ) (xs : List Entry) → q < key → kept_in q (under_key key xs) ≡ kept_in q xs
kept_under q key [] lt = refl
kept_under q key (x ∷ xs) lt = ⊎_elim
    (λ (less : x.0 < key). ap (kept_in q) (step_under key x xs less)
    ∙ ap (λ o. cond (eqb x.0 q) (Some x.1) o) (kept_under q key xs lt))
    (λ (le : key ≤ x.0). ap (kept_in q) (skip_under key x xs le) ∙ kept_under q key xs lt
    ∙ sym (ap (λ b. cond b (Some x.1) (kept_in q xs)) (is_other x.0 q (λ is. omega (arith, is, lt, le)))))
    (cases_lt x.0 key)

none_under : (q key : ℕ) (xs : List Entry) → key ≤ q → kept_in q (under_key key xs) ≡ None
none_under q key [] le = refl
none_under q key (x ∷ xs) le = ⊎_elim
    (λ (less : x.0 < key). ap (kept_in q) (step_under key x xs less)
    ∙ ap (λ b. cond b (Some x.1) (kept_in q (under_key key xs)))
    (is_other x.0 q (λ is. omega (arith, is, le, less))) ∙ none_under q key xs le)
    (λ (from : key ≤ x.0). ap (kept_in q) (skip_under key x xs from) ∙ none_under q key xs le)
    (cases_lt x.0 key)

kept_from : (q key : ℕ) (xs : List Entry) → key ≤ q → kept_in q (from_key key xs) ≡ kept_in q xs
kept_from q key [] le = refl
kept_from q key (x ∷ xs) le = ⊎_elim
    (λ (less : x.0 < key). ap (kept_in q) (skip_from key x xs less) ∙ kept_from q key xs le
    ∙ sym (ap (λ b. cond b (Some x.1) (kept_in q xs))
    (is_other x.0 q (λ is. omega (arith, is, le, less)))))
    (λ (from : key ≤ x.0). ap (kept_in q) (step_from key x xs from)
    ∙ ap (λ o. cond (eqb x.0 q) (Some x.1) o) (kept_from q key xs le))
    (cases_lt x.0 key)

none_from_key : (q key : ℕ) (xs : List Entry) → q < key → kept_in q (from_key key xs) ≡ None
none_from_key q key [] lt = refl
none_from_key q key (x ∷ xs) lt = ⊎_elim
    (λ (less : x.0 < key). ap (kept_in q) (skip_from key x xs less) ∙ none_from_key q key xs lt)
    (λ (from : key ≤ x.0). ap (kept_in q) (step_from key x xs from)
    ∙ ap (λ b. cond b (Some x.1) (kept_in q (from_key key xs)))
    (is_other x.0 q (λ is. omega (arith, is, lt, from))) ∙ none_from_key q key xs lt)
    (cases_lt x.0 key)

pub both_keep : (key : ℕ) (xs : List Entry) → Keeps xs (under_key key xs ++ from_key key xs)
unfolding or_else
both_keep key xs = record {
  kept = λ q. kept-append q (under_key key xs) (from_key key xs) ∙ ⊎_elim
      (λ (lt : q < key). ap (or_else (kept_in q (under_key key xs))) (none_from_key q key xs lt)
      ∙ none_behind (kept_in q (under_key key xs)) ∙ kept_under q key xs lt)
      (λ (le : key ≤ q). ap (λ o. or_else o (kept_in q (from_key key xs))) (none_under q key xs le)
      ∙ kept_from q key xs le)
      (cases_lt q key);
  times = λ q. times-append q (under_key key xs) (from_key key xs) ∙ both_times q key xs;
  below = λ k all. All-append (λ (o : Entry). o.0 < k) (under_key key xs) (from_key key xs)
      (some_under (λ (o : Entry). o.0 < k) key xs all) (some_from (λ (o : Entry). o.0 < k) key xs all);
  from = λ k all. All-append (λ (o : Entry). k ≤ o.0) (under_key key xs) (from_key key xs)
      (some_under (λ (o : Entry). k ≤ o.0) key xs all) (some_from (λ (o : Entry). k ≤ o.0) key xs all);
}

-- ---- how many are below a key

pub none_below_zero : (xs : List Entry) → length (under_key 0 xs) ≡ 0
none_below_zero [] = refl
none_below_zero (x ∷ xs) = ap length (skip_under 0 x xs (omega arith)) ∙ none_below_zero xs

-- the next key has those more below it that have the identifier of this one
pub one_key_more : (key : ℕ) (xs : List Entry)
    → length (under_key (key + 1) xs) ≡ length (under_key key xs) + times_in key xs
one_key_more key [] = refl
one_key_more key (x ∷ xs) = ⊎_elim
    (λ (lt : x.0 < key).
    let no : ◌≡◌ {A = ℕ} (cond (eqb x.0 key) 1 0) 0 =
    ap (λ b. cond b 1 0) (is_other x.0 key (λ is. omega (arith, is, lt))) in
    omega (
      arith,
      ap length (step_under key x xs lt),
      ap length
          (step_under (key + 1) x xs (omega (arith, lt))),
      one_key_more key xs,
      no,
    ))
    (λ (le : key ≤ x.0). ⊎_elim
    (λ (is : x.0 ≡ key).
    let one : ◌≡◌ {A = ℕ} (cond (eqb x.0 key) 1 0) 1 = ap (λ b. cond b 1 0) (is_same x.0 key is) in
    omega (
      arith,
      ap length (skip_under key x xs le),
      ap length
          (step_under (key + 1) x xs (omega (arith, is))),
      one_key_more key xs,
      one,
    ))
    (λ (other : ¬ (x.0 ≡ key)).
    let no : ◌≡◌ {A = ℕ} (cond (eqb x.0 key) 1 0) 0 = ap (λ b. cond b 1 0) (is_other x.0 key other) in
    omega (
      arith,
      ap length (skip_under key x xs le),
      ap length
          (skip_under (key + 1) x xs (omega (arith, le, other))),
      one_key_more key xs,
      no,
    ))
    (cases_eq x.0 key))
    (cases_lt x.0 key)

-- all are below a key that is above all of them
pub all_below_key : (key : ℕ) (xs : List Entry) → All (λ o. o.0 < key) xs
    → length (under_key key xs) ≡ length xs
all_below_key key [] all = refl
all_below_key key (x ∷ xs) all =
    omega (
      arith,
      ap length (step_under key x xs (All-head (λ (o : Entry). o.0 < key) x xs all)),
      all_below_key key xs (All-tail (λ (o : Entry). o.0 < key) x xs all),
    )
