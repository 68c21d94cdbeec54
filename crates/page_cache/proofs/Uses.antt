-- The pages that are held, where one is used, let go or brought in.
use Rattle.std.proofs.Common.{inl, inr, ◌≡◌, ◌∙◌, ℕ, zero, suc, ◌-◌, ◌<◌, ◌≤◌, true, false, not, cond}
use Rattle.std.proofs.Common.{List, [], ◌∷◌, length, take, slice_get, Option, Some, None, is_some}
use Rattle.std.proofs.Common.{option_map, nat_eq, refl, sym, ap, arith, ⊎_elim, ◌⊎◌}
use Rattle.std.specs.List.{IsDistinct, filter}
use Rattle.std.specs.Map.{lookup, lookup_entry, remove_entry, keys_of}
use Rattle.std.specs.Option.{option_map_or}
use Rattle.std.proofs.lemmas.Bool.{eqb-true, eq-eqb}
use Rattle.std.proofs.lemmas.List.{take_all}
use Rattle.std.proofs.lemmas.Map.Entries.{length-keys_of}
use Rattle.std.proofs.lemmas.Map.Keys.{IsDistinct-tail}
use Rattle.std.specs.Prelude.{Result, Ok, Err, IsErrAnd}
use Rattle.lru.specs.LruCache.{LruCache, promoted, put_entries}
use Rattle.lru.proofs.CallerLemmas.{Contains-lookup_entry}
use Rattle.lru.proofs.Pairs.{lookup-lookup_entry}
use Rattle.page_cache.specs.Cache.{capacity_of, held_pages}
use Rattle.page_cache.specs.Uses.{Uses, used, with_room}
use Rattle.page_cache.specs.declared.cache.PageCache.{PageCache}
use Rattle.page_cache.proofs.Lookups.{length-removed, lookup-last, lookup-removed}

pub not_held : {X : Type 0} (o : Option X) → is_some o ≡ false → o ≡ None
not_held None none = refl
not_held (Some x) none = cc

module _ {X : Type 0} where
  -- the pages but n, where n is none of them
  pub others_of_absent : (n : ℕ) (es : List (ℕ × X)) → lookup (nat_eq n) es ≡ None
      → filter (λ k. not (nat_eq n k)) (keys_of es) ≡ keys_of es
  others_of_absent n [] absent = refl
  others_of_absent n (e ∷ es) absent = (elim (nat_eq n e.0) as
      (λ y. cond y (Some e.1) (lookup (nat_eq n) es) ≡ None
      → cond (not y) (e.0 ∷ filter (λ k. not (nat_eq n k)) (keys_of es))
      (filter (λ k. not (nat_eq n k)) (keys_of es)) ≡ e.0 ∷ keys_of es) [
        | true ↦ λ a. cc
        | false ↦ λ a. ap (λ l. e.0 ∷ l) (others_of_absent n es a)
      ]) absent

  -- n is let go
  pub keys_removed : (n : ℕ) (es : List (ℕ × X)) → IsDistinct nat_eq (keys_of es)
      → keys_of (remove_entry (nat_eq n) es) ≡ filter (λ k. not (nat_eq n k)) (keys_of es)
  keys_removed n [] apart = refl
  keys_removed n (e ∷ es) apart = (elim (nat_eq n e.0) as
      (λ y. nat_eq n e.0 ≡ y → keys_of (cond y es (e ∷ remove_entry (nat_eq n) es))
      ≡ cond (not y) (e.0 ∷ filter (λ k. not (nat_eq n k)) (keys_of es))
      (filter (λ k. not (nat_eq n k)) (keys_of es))) [
        | true ↦ λ t. let gone : lookup (nat_eq n) (cond (nat_eq n e.0) es (e ∷ remove_entry (nat_eq n) es)) ≡ None =
            lookup-removed n n (e ∷ es) apart
            ∙ ap (λ y. cond y None (lookup (nat_eq n) (e ∷ es))) (eq-eqb n n refl) in
            sym (others_of_absent n es (ap (λ y. lookup (nat_eq n) (cond y es (e ∷ remove_entry (nat_eq n) es))) (sym t) ∙ gone))
        | false ↦ λ t. ap (λ l. e.0 ∷ l) (keys_removed n es (IsDistinct-tail nat_eq e.0 (keys_of es) apart))
      ]) refl

  -- the last one is let go
  pub last_removed : (n : ℕ) (x : X) (es : List (ℕ × X)) → IsDistinct nat_eq (keys_of es)
      → slice_get es (length es - 1) ≡ Some (n, x)
      → remove_entry (nat_eq n) es ≡ take (length es - 1) es
  last_removed n x [] apart last = absurd (cc)
  last_removed n x (e ∷ []) apart last =
      let at_n : e.0 ≡ n = ap (λ o. option_map_or (λ f. f.0) o n) last in
      ap (λ y. cond y [] (e ∷ [])) (eq-eqb n e.0 (sym at_n))
  last_removed n x (e ∷ f ∷ es) apart last =
      let fewer : length (e ∷ f ∷ es) - 1 ≡ suc (length (f ∷ es) - 1) = omega arith in
      let tail = IsDistinct-tail nat_eq e.0 (keys_of (f ∷ es)) apart in
      let later : slice_get (f ∷ es) (length (f ∷ es) - 1) ≡ Some (n, x) =
      sym (ap (slice_get (e ∷ f ∷ es)) fewer) ∙ last in
      (elim (nat_eq n e.0) as
      (λ y. nat_eq n e.0 ≡ y → cond y (f ∷ es) (e ∷ remove_entry (nat_eq n) (f ∷ es))
      ≡ take (length (e ∷ f ∷ es) - 1) (e ∷ f ∷ es)) [
        | true ↦ λ t. let gone : lookup (nat_eq n) (cond (nat_eq n e.0) (f ∷ es) (e ∷ remove_entry (nat_eq n) (f ∷ es))) ≡ None =
            lookup-removed n n (e ∷ f ∷ es) apart
            ∙ ap (λ y. cond y None (lookup (nat_eq n) (e ∷ f ∷ es))) (eq-eqb n n refl) in
            let here : lookup (nat_eq n) (f ∷ es) ≡ Some x = lookup-last n x (f ∷ es) tail (sym later) in
            let none : lookup (nat_eq n) (f ∷ es) ≡ None =
            ap (λ y. lookup (nat_eq n) (cond y (f ∷ es) (e ∷ remove_entry (nat_eq n) (f ∷ es)))) (sym t) ∙ gone in
            absurd (let bad = sym here ∙ none in cc)
        | false ↦ λ t. ap (λ l. e ∷ l) (last_removed n x (f ∷ es) tail later)
            ∙ sym (ap (λ i. take i (e ∷ f ∷ es)) fewer)
      ]) refl

  pub keys_taken : (i : ℕ) (es : List (ℕ × X)) → keys_of (take i es) ≡ take i (keys_of es)
  keys_taken zero es = refl
  keys_taken (suc i) [] = refl
  keys_taken (suc i) (e ∷ es) = ap (λ l. e.0 ∷ l) (keys_taken i es)

  to_front : (n : ℕ) (es : List (ℕ × X)) (o : Option (ℕ × X)) → lookup_entry (nat_eq n) es ≡ o
      → IsDistinct nat_eq (keys_of es) → is_some (lookup (nat_eq n) es) ≡ true
      → keys_of (option_map_or (λ e. e ∷ remove_entry (nat_eq n) es) o es)
      ≡ n ∷ filter (λ k. not (nat_eq n k)) (keys_of es)
  to_front n es None h apart some = let none : lookup (nat_eq n) es ≡ None =
      sym (lookup-lookup_entry (nat_eq n) es) ∙ ap (option_map (λ f. f.1)) h in
      absurd (let bad = sym (ap is_some none) ∙ some in cc)
  to_front n es (Some e) h apart some =
      let at_n : n ≡ e.0 = eqb-true n e.0 (Contains-lookup_entry (nat_eq n) es e h).1 in
      ap (λ k. k ∷ keys_of (remove_entry (nat_eq n) es)) (sym at_n) ∙ ap (λ l. n ∷ l) (keys_removed n es apart)

  -- a page that is held is used
  pub used_held : (capacity n : ℕ) (es : List (ℕ × X)) → IsDistinct nat_eq (keys_of es)
      → length es ≤ capacity → is_some (lookup (nat_eq n) es) ≡ true
      → keys_of (promoted (nat_eq n) es) ≡ used capacity n (keys_of es)
  used_held capacity n es apart fits some =
      let count : suc (length (filter (λ k. not (nat_eq n k)) (keys_of es))) ≡ length es =
      omega (
        arith,
        ap length (keys_removed n es apart),
        length-keys_of (remove_entry (nat_eq n) es),
        length-removed n es some,
      ) in
      to_front n es (lookup_entry (nat_eq n) es) refl apart some
      ∙ sym (take_all capacity (n ∷ filter (λ k. not (nat_eq n k)) (keys_of es)) (omega (arith, count, fits)))

  -- a page that was not held is brought in
  pub used_absent : (capacity n : ℕ) (es : List (ℕ × X)) → 0 < capacity → lookup (nat_eq n) es ≡ None
      → n ∷ with_room capacity (keys_of es) ≡ used capacity n (keys_of es)
  used_absent zero n es some absent = absurd (omega (arith, some))
  used_absent (suc c) n es some absent =
      ap (λ i. n ∷ take i (keys_of es)) (omega arith)
      ∙ ap (λ l. n ∷ take c l) (sym (others_of_absent n es absent))

  -- room for one more
  pub room_there : (capacity : ℕ) (es : List (ℕ × X)) → length es < capacity
      → keys_of es ≡ with_room capacity (keys_of es)
  room_there capacity es room =
      sym (take_all (capacity - 1) (keys_of es) (omega (arith, length-keys_of es, room)))

  pub room_made : (capacity : ℕ) (es ls : List (ℕ × X)) → capacity ≤ length es → length es ≤ capacity
      → ls ≡ take (length es - 1) es → keys_of ls ≡ with_room capacity (keys_of es)
  room_made capacity es ls full fits is =
      ap keys_of is ∙ keys_taken (length es - 1) es ∙ ap (λ i. take i (keys_of es)) (omega (arith, full, fits))

  stays : (n : ℕ) (es : List (ℕ × X)) (o : Option (ℕ × X)) → lookup_entry (nat_eq n) es ≡ o
      → is_some (lookup (nat_eq n) es) ≡ false
      → option_map_or (λ e. e ∷ remove_entry (nat_eq n) es) o es ≡ es
  stays n es None h absent = refl
  stays n es (Some e) h absent = let some : lookup (nat_eq n) es ≡ Some e.1 =
      sym (lookup-lookup_entry (nat_eq n) es) ∙ ap (option_map (λ f. f.1)) h in
      absurd (let bad = sym (ap is_some some) ∙ absent in cc)

  -- a page that is not held changes no order
  pub promoted_none : (n : ℕ) (es : List (ℕ × X)) → is_some (lookup (nat_eq n) es) ≡ false
      → promoted (nat_eq n) es ≡ es
  promoted_none n es absent = stays n es (lookup_entry (nat_eq n) es) refl absent

  -- a page that is used again at once changes none either
  pub promoted_first : (n : ℕ) (es : List (ℕ × X)) → option_map (λ e. e.0) (slice_get es 0) ≡ Some n
      → (promoted (nat_eq n) es ≡ es) × (is_some (lookup (nat_eq n) es) ≡ true)
  promoted_first n [] first = absurd (cc)
  promoted_first n (e ∷ es) first =
      let at_n : e.0 ≡ n = cc in
      let same : nat_eq n e.0 ≡ true = eq-eqb n e.0 (sym at_n) in (
        ap (λ y. option_map_or (λ f. f ∷ cond y es (e ∷ remove_entry (nat_eq n) es))
            (cond y (Some e) (lookup_entry (nat_eq n) es)) (e ∷ es)) same,
        ap (λ y. is_some (cond y (Some e.1) (lookup (nat_eq n) es))) same,
      )

  put_first : (c : LruCache ℕ X) (n : ℕ) (v : X) (o : Option (ℕ × X)) → lookup_entry (nat_eq n) c.entries ≡ o
      → lookup (nat_eq n) c.entries ≡ None
      → keys_of (option_map_or (λ e. (e.0, v) ∷ remove_entry (nat_eq n) c.entries) o
      ((n, v) ∷ take (c.cap - 1) c.entries)) ≡ n ∷ keys_of (take (c.cap - 1) c.entries)
  put_first c n v None h absent = refl
  put_first c n v (Some e) h absent = let some : lookup (nat_eq n) c.entries ≡ Some e.1 =
      sym (lookup-lookup_entry (nat_eq n) c.entries) ∙ ap (option_map (λ f. f.1)) h in
      absurd (let bad = sym some ∙ absent in cc)

  -- a page comes in where there is room
  pub keys_put : (c : LruCache ℕ X) (n : ℕ) (v : X) → length c.entries < c.cap
      → lookup (nat_eq n) c.entries ≡ None → keys_of (put_entries nat_eq c n v) ≡ n ∷ keys_of c.entries
  keys_put c n v room absent = put_first c n v (lookup_entry (nat_eq n) c.entries) refl absent
      ∙ ap (λ l. n ∷ keys_of l) (take_all (c.cap - 1) c.entries (omega (arith, room)))

module _ {D A : Type 0} {m : _} {T E : Type 0} where
  -- calls that use a page go through caches that hold the same
  pub uses_after : (old mid new : PageCache D A m) (n : ℕ) (result : Result T E)
      → held_pages mid ≡ held_pages old → capacity_of mid ≡ capacity_of old → Uses mid new n result
      → Uses old new n result
  uses_after old mid new n (Ok x) held capacity uses = record {
    used = uses.used ∙ ap (λ h. used (capacity_of mid) n h) held ∙ ap (λ c. used c n (held_pages old)) capacity;
    refused = tt;
  }
  uses_after old mid new n (Err e) held capacity uses = record {
    used = tt;
    refused = ⊎_elim (λ (same : held_pages new ≡ held_pages mid). inl (same ∙ held))
        (λ less. inr (less ∙ ap (with_room (capacity_of mid)) held
        ∙ ap (λ c. with_room c (held_pages old)) capacity)) uses.refused;
  }

  -- refused, with what was held or less
  pub uses_refused : (old new : PageCache D A m) (n : ℕ) (e : E) (result : Result T E)
      → IsErrAnd result (λ x. x ≡ e)
      → (held_pages new ≡ held_pages old) ⊎ (held_pages new ≡ with_room (capacity_of old) (held_pages old))
      → Uses old new n result
  uses_refused old new n e (Ok x) is less = elim is [ ]
  uses_refused old new n e (Err x) is less = record { used = tt; refused = less }
