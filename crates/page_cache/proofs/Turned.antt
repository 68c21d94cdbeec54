-- Frames that are written where they are held, the one used least first, each of which becomes the one used
-- last.
use Rattle.std.proofs.Common.{inl, inr, ◌≡◌, ◌∙◌, ℕ, zero, suc, ◌+◌, ◌-◌, ◌<◌, false, cond, List, []}
use Rattle.std.proofs.Common.{◌∷◌, length}
use Rattle.std.proofs.Common.{take, slice_get, Option, Some, None, is_some, IsSome, option_map, nat_eq, refl}
use Rattle.std.proofs.Common.{sym}
use Rattle.std.proofs.Common.{ap, arith}
use Rattle.std.specs.List.{IsDistinct}
use Rattle.std.specs.Map.{lookup, lookup_entry, remove_entry, set_value, keys_of}
use Rattle.std.specs.Option.{option_map_or}
use Rattle.std.proofs.lemmas.Bool.{eqb-true, eq-eqb}
use Rattle.std.proofs.lemmas.Bool.Decides.{eqb_tells}
use Rattle.std.proofs.lemmas.List.{length-take}
use Rattle.lru.specs.LruCache.{last_entry, promoted}
use Rattle.lru.proofs.CallerLemmas.{Contains-lookup_entry}
use Rattle.lru.proofs.Pairs.{lookup-lookup_entry}
use Rattle.page_cache.specs.declared.frame.Frame.{Frame}
use Rattle.page_cache.proofs.Lookups.{lookup-last, lookup-set}
use Rattle.page_cache.proofs.Uses.{last_removed}

module _ {X : Type 0} where
  -- one is put in its own place
  pub set_same : (n k : ℕ) (es : List (ℕ × X)) (f : X) → lookup (nat_eq n) es ≡ Some f
      → lookup (nat_eq k) (set_value (nat_eq n) es f) ≡ lookup (nat_eq k) es
  set_same n k es f is = lookup-set n k es f (ap is_some is) ∙ elim (eqb_tells k n) [
    | inl e ↦ ap (λ y. cond y (Some f) (lookup (nat_eq k) es)) e.0 ∙ sym is
        ∙ ap (λ x. lookup (nat_eq x) es) (sym e.1)
    | inr e ↦ ap (λ y. cond y (Some f) (lookup (nat_eq k) es)) e.0
  ]

  pub held_set : (n k : ℕ) (es : List (ℕ × X)) (w : X) → IsSome (lookup (nat_eq n) es)
      → IsSome (lookup (nat_eq k) es) → IsSome (lookup (nat_eq k) (set_value (nat_eq n) es w))
  held_set n k es w some held = ap is_some (lookup-set n k es w some) ∙ elim (eqb_tells k n) [
    | inl e ↦ ap (λ y. is_some (cond y (Some w) (lookup (nat_eq k) es))) e.0
    | inr e ↦ ap (λ y. is_some (cond y (Some w) (lookup (nat_eq k) es))) e.0 ∙ held
  ]

  front : (n : ℕ) (x : X) (es : List (ℕ × X)) (o : Option (ℕ × X)) → lookup_entry (nat_eq n) es ≡ o
      → lookup (nat_eq n) es ≡ Some x
      → option_map_or (λ e. e ∷ remove_entry (nat_eq n) es) o es ≡ (n, x) ∷ remove_entry (nat_eq n) es
  front n x es None h is = let none : lookup (nat_eq n) es ≡ None =
      sym (lookup-lookup_entry (nat_eq n) es) ∙ ap (option_map (λ f. f.1)) h in
      absurd (let bad = sym is ∙ none in cc)
  front n x es (Some e) h is =
      let at_n : n ≡ e.0 = eqb-true n e.0 (Contains-lookup_entry (nat_eq n) es e h).1 in
      let value : Some e.1 ≡ Some x = sym (sym (lookup-lookup_entry (nat_eq n) es)
      ∙ ap (option_map (λ f. f.1)) h) ∙ is in
      let same : e.1 ≡ x = cc in
      ap (λ k. (k, e.1) ∷ remove_entry (nat_eq n) es) (sym at_n)
      ∙ ap (λ y. (n, y) ∷ remove_entry (nat_eq n) es) same

  pub slice_within : (i : ℕ) (es : List X) (e : X) → slice_get es i ≡ Some e → i < length es
  slice_within i [] e is = absurd (cc)
  slice_within zero (f ∷ es) e is = omega arith
  slice_within (suc i) (f ∷ es) e is = let on = slice_within i es e is in omega (arith, on)

  slice_taken : (j i : ℕ) (es : List X) (e : X) → slice_get (take j es) i ≡ Some e → slice_get es i ≡ Some e
  slice_taken zero i es e is = absurd (cc)
  slice_taken (suc j) i [] e is = absurd (cc)
  slice_taken (suc j) zero (f ∷ es) e is = is
  slice_taken (suc j) (suc i) (f ∷ es) e is = slice_taken j i es e is

module _ {A : Type 0} (n : ℕ) (es new : List (ℕ × Frame A)) where
  -- the last one is made the first, and written
  pub turned_round : (x y : Frame A) (mid : List (ℕ × Frame A)) → IsDistinct nat_eq (keys_of es)
      → Some (n, x) ≡ last_entry es → mid ≡ promoted (nat_eq n) es
      → new ≡ set_value (nat_eq n) mid y → new ≡ (n, y) ∷ take (length es - 1) es
  turned_round x y mid apart last is written =
      let at_front : mid ≡ (n, x) ∷ take (length es - 1) es =
      is ∙ front n x es (lookup_entry (nat_eq n) es) refl (lookup-last n x es apart last)
      ∙ ap (λ l. (n, x) ∷ l) (last_removed n x es apart (sym last)) in
      written ∙ ap (λ l. set_value (nat_eq n) l y) at_front
      ∙ ap (λ t. cond t ((n, y) ∷ take (length es - 1) es)
      ((n, x) ∷ set_value (nat_eq n) (take (length es - 1) es) y)) (eq-eqb n n refl)

  module _ (f : Frame A) (is : new ≡ (n, f) ∷ take (length es - 1) es) (some : 0 < length es) where
    pub length_turned : length new ≡ length es
    length_turned = ap length is ∙ omega (arith, length-take (length es - 1) es, some)

    -- one more of the first is written
    pub first_written : (left : ℕ) → f.changed ≡ false → 0 < left
        → ((i : ℕ) (e : ℕ × Frame A) → i + left < length es → slice_get es i ≡ Some e → e.1.changed ≡ false)
        → (i : ℕ) (e : ℕ × Frame A) → i + (left - 1) < length new → slice_get new i ≡ Some e
        → e.1.changed ≡ false
    first_written left clean_f more all zero e lt at =
        let here : Some (n, f) ≡ Some e = ap (λ l. slice_get l 0) (sym is) ∙ at in
        let same : f ≡ e.1 = cc in ap (λ (x : Frame A). x.changed) (sym same) ∙ clean_f
    first_written left clean_f more all (suc i) e lt at =
        let later : slice_get (take (length es - 1) es) i ≡ Some e = ap (λ l. slice_get l (suc i)) (sym is)
        ∙ at in
        all i e (omega (arith, lt, length_turned, more)) (slice_taken (length es - 1) i es e later)
