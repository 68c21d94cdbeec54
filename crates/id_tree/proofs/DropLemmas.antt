-- An object taken from a leaf: the last one fills its place.
use Rattle.std.proofs.Common.{◌≡◌, ◌∙◌, ℕ, suc, ◌+◌, ◌-◌, ◌<◌, ◌≤◌, Bool, true, false, cond, eqb, Option}
use Rattle.std.proofs.Common.{Some, None, List, [], ◌∷◌, length, get_or, set, refl, sym, ap, ⊎_elim, arith}
use Rattle.std.proofs.lemmas.Bool.{cases_eq, cases_lt}
use Rattle.std.proofs.lemmas.List.{get_or-set_other, get_or-set_same, get_or-take, length-set, length-take-le}
use Rattle.std.proofs.lemmas.List.Elements.{All-get_or, All-set, All-take}
use Rattle.std.proofs.lemmas.List.Sums.{sum_by-cons, sum_by-swap_remove}
use Rattle.std.proofs.Common.{sum_by}
use Rattle.std.specs.List.{swap_remove}
use Rattle.box_math.specs.Objects.{Object}
use Rattle.bucket_page.specs.Layout.{Entry}
use Rattle.id_words.specs.Objects.{kept_in, times_in}
use Rattle.id_words.proofs.ObjectLemmas.{none_times}
use Rattle.id_tree.specs.Steps.{drops, Turns}
use Rattle.id_tree.proofs.ObjectLemmas.{is_other, is_same}
use Rattle.id_tree.proofs.SeekLemmas.{kept_there}

counts : ℕ → Entry → ℕ
counts q o = cond (eqb o.0 q) 1 0

times_sum : (q : ℕ) (xs : List Entry) → times_in q xs ≡ sum_by (counts q) xs
unfolding counts
times_sum q [] = refl
times_sum q (x ∷ xs) = omega (arith, times_sum q xs, sum_by-cons (counts q) x xs)

none_of_times : (q : ℕ) (xs : List Entry) → times_in q xs ≡ 0 → kept_in q xs ≡ None
none_of_times q [] none = refl
none_of_times q (x ∷ xs) none = ⊎_elim
    (λ (is : x.0 ≡ q). let one : ◌≡◌ {A = ℕ} (cond (eqb x.0 q) 1 0) 1 =
    ap (λ b. cond b 1 0) (is_same x.0 q is) in absurd (omega (arith, one, none)))
    (λ (other : ¬ (x.0 ≡ q)). ap (λ b. cond b (Some x.1) (kept_in q xs)) (is_other x.0 q other)
    ∙ none_of_times q xs (omega (arith, none)))
    (cases_eq x.0 q)

-- the place of an object of which something is kept
record Placed (q : ℕ) (kept : Object) (xs : List Entry) (other : Entry) : Type 0 where
  pub place : ℕ
  pub within : place < length xs
  pub is : get_or xs place other ≡ (q, kept)

same_some : (a b : Object) → ◌≡◌ {A = Option Object} (Some a) (Some b) → a ≡ b
same_some a b e = cc

placed : (q : ℕ) (kept : Object) (xs : List Entry) (other : Entry) → kept_in q xs ≡ Some kept
    → Placed q kept xs other
placed q kept [] other is = absurd (cc)
placed q kept (x ∷ xs) other is = ⊎_elim
    (λ (same : x.0 ≡ q).
    let object : x.1 ≡ kept =
    same_some x.1 kept (sym (ap (λ b. cond b (Some x.1) (kept_in q xs)) (is_same x.0 q same)) ∙ is) in
    record {
      place = 0;
      within = omega arith;
      is = ap (λ (n : ℕ). (n, x.1)) same
          ∙ ap (λ (o : Object). (q, o)) object;
    })
    (λ (differs : ¬ (x.0 ≡ q)).
    let later =
    placed q kept xs other
    (sym (ap (λ b. cond b (Some x.1) (kept_in q xs)) (is_other x.0 q differs)) ∙ is) in
    record { place = suc later.place; within = omega (arith, later.within); is = later.is })
    (cases_eq x.0 q)

module _ (id place : ℕ) (kept : Object) (other : Entry) (xs : List Entry) (within : place < length xs)
    (is : get_or xs place other ≡ (id, kept)) (single : (q : ℕ) → times_in q xs ≤ 1) where
  long : length (swap_remove xs place other) ≡ length xs - 1
  long = length-take-le (length xs - 1) (set xs place (get_or xs (length xs - 1) other))
      (let same = length-set xs place (get_or xs (length xs - 1) other) in omega (arith, same))

  times_less : (q : ℕ) → times_in q (swap_remove xs place other) + cond (eqb id q) 1 0 ≡ times_in q xs
  unfolding counts
  times_less q =
      let here : counts q (get_or xs place other) ≡ cond (eqb id q) 1 0 = ap (counts q) is in
      omega (
        arith,
        times_sum q xs,
        times_sum q (swap_remove xs place other),
        sum_by-swap_remove (counts q) xs
            place other within,
        here,
      )

  few : (q : ℕ) → times_in q (swap_remove xs place other) ≤ 1
  few q = omega (arith, times_less q, single q)

  -- in another place there is what was there
  there : (j : ℕ) → j < length xs - 1 → ¬ (j ≡ place)
      → get_or (swap_remove xs place other) j other ≡ get_or xs j other
  there j lt apart = get_or-take (length xs - 1) (set xs place (get_or xs (length xs - 1) other)) j other lt
      ∙ get_or-set_other xs place j (get_or xs (length xs - 1) other) other apart

  -- and in that place the last one
  filled : place < length xs - 1 → get_or (swap_remove xs place other) place other ≡ get_or xs (length xs - 1)
      other
  filled lt = get_or-take (length xs - 1) (set xs place (get_or xs (length xs - 1) other)) place other lt
      ∙ get_or-set_same xs place (get_or xs (length xs - 1) other) other within

  kept_still : (q : ℕ) → ¬ (id ≡ q) → kept_in q (swap_remove xs place other) ≡ kept_in q xs
  kept_still q apart = by_kept (kept_in q xs) refl
    where
      at_last : (p : ℕ) (object : Object) → p < length xs → get_or xs p other ≡ (q, object) → ¬ (p ≡ place)
          → kept_in q (swap_remove xs place other) ≡ Some object
      at_last p object lt at off = ⊎_elim
          (λ (before : p < length xs - 1). kept_there q p object (swap_remove xs place other) other
          (omega (arith, before, long)) (there p before off ∙ at) (few q))
          (λ (behind : length xs - 1 ≤ p).
          let end : p ≡ length xs - 1 = omega (arith, lt, behind) in
          let room : place < length xs - 1 = omega (arith, within, off, end) in
          kept_there q place object (swap_remove xs place other) other (omega (arith, room, long))
          (filled room ∙ ap (λ (n : ℕ). get_or xs n other) (sym end) ∙ at) (few q))
          (cases_lt p (length xs - 1))

      by_kept : (o : Option Object) → kept_in q xs ≡ o → kept_in q (swap_remove xs place other) ≡ kept_in q xs
      by_kept None none = let zero_times = none_times q xs none in
          none_of_times q (swap_remove xs place other) (omega (arith, times_less q, zero_times)) ∙ sym none
      by_kept (Some object) some =
          let found = placed q object xs other some in
          at_last found.place object found.within found.is
          (λ same. apart
          (ap (λ (o : Entry). o.0) (sym is ∙ ap (λ (n : ℕ). get_or xs n other) (sym same) ∙ found.is)))
          ∙ sym some

  pub drops_at : Turns id drops xs (swap_remove xs place other)
  drops_at = record {
    kept = λ q. ⊎_elim
        (λ (same : id ≡ q).
        let yes = is_same id q same in
        let one : ◌≡◌ {A = ℕ} (cond (eqb id q) 1 0) 1 = ap (λ b. cond b 1 0) yes in
        none_of_times q (swap_remove xs place other) (omega (arith, times_less q, single q, one))
        ∙ sym (ap (λ b. cond b None (kept_in q xs)) yes))
        (λ (apart : ¬ (id ≡ q)). kept_still q apart ∙ sym
        (ap (λ b. cond b None (kept_in q xs)) (is_other id q apart)))
        (cases_eq id q);
    times = λ q. let none = nothing (eqb id q) in omega (arith, times_less q, none);
    below = λ key all less. All-take (λ (o : Entry). o.0 < key) (length xs - 1)
        (set xs place (get_or xs (length xs - 1) other))
        (All-set (λ (o : Entry). o.0 < key) xs place (get_or xs (length xs - 1) other)
        (All-get_or (λ (o : Entry). o.0 < key) xs (length xs - 1) other (omega (arith, within)) all) all);
    from = λ key all le. All-take (λ (o : Entry). key ≤ o.0) (length xs - 1)
        (set xs place (get_or xs (length xs - 1) other))
        (All-set (λ (o : Entry). key ≤ o.0) xs place (get_or xs (length xs - 1) other)
        (All-get_or (λ (o : Entry). key ≤ o.0) xs (length xs - 1) other (omega (arith, within)) all) all);
  }
    where
      nothing : (b : Bool) → ◌≡◌ {A = ℕ} (cond b 0 0) 0
      nothing true = refl
      nothing false = refl
