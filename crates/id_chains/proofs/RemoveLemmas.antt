-- An object less in a chain, and in the table.
use Rattle.std.proofs.Common.{◌≡◌, ◌∙◌, ◌⊎◌, ℕ, zero, suc, ◌+◌, ◌-◌, ◌<◌, ◌≤◌, All, drop, take, get_or, set}
use Rattle.std.proofs.Common.{Bool, true, false, cond, eqb, Option, Some, None, List, [], ◌∷◌, ◌++◌, length}
use Rattle.std.proofs.Common.{refl, sym, ap, subst, inl, inr, ⊎_elim, arith}
use Rattle.box_math.specs.Objects.{Object}
use Rattle.bucket_page.specs.Layout.{Entry}
use Rattle.std.proofs.lemmas.Bool.{cases_eq}
use Rattle.std.proofs.lemmas.Bool.Decides.{nat_tests}
use Rattle.std.proofs.lemmas.List.Elements.{All-cons, All-head, All-tail}
use Rattle.id_words.specs.Objects.{kept_in, times_in}
use Rattle.id_words.proofs.ObjectLemmas.{all_more, one_more, times_more}

-- ---- lists

pub split_set : {X : Type 0} (es : List X) (place : ℕ) (x d : X) → place < length es
    → (es ≡ take place es ++ get_or es place d ∷ drop (suc place) es)
    × (set es place x ≡ take place es ++ x ∷ drop (suc place) es)
split_set [] place x d lt = absurd (omega (arith, lt))
split_set (e ∷ es) zero x d lt = (refl, refl)
split_set (e ∷ es) (suc p) x d lt = let r = split_set es p x d (omega (arith, lt)) in
    (ap (λ l. e ∷ l) r.0, ap (λ l. e ∷ l) r.1)

drop_end : {X : Type 0} (es : List X) (n : ℕ) → length es ≤ n → drop n es ≡ []
drop_end [] zero le = refl
drop_end [] (suc n) le = refl
drop_end (e ∷ es) zero le = absurd (omega (arith, le))
drop_end (e ∷ es) (suc n) le = drop_end es n (omega (arith, le))

pub split_last : {X : Type 0} (es : List X) (d : X) → 0 < length es
    → es ≡ take (length es - 1) es ++ get_or es (length es - 1) d ∷ []
split_last es d some =
    let place = length es - 1 in
    (split_set es place d d (omega (arith, some))).0
    ∙ ap (λ l. take place es ++ get_or es place d ∷ l) (drop_end es (suc place) (omega (arith, some)))

pub none_in : (q : ℕ) (xs : List Entry) → times_in q xs ≡ 0 → kept_in q xs ≡ None
none_in q [] none = refl
none_in q (x ∷ xs) none = step (eqb x.0 q) (none_in q xs) none
  where
    step : (b : Bool) → (times_in q xs ≡ 0 → kept_in q xs ≡ None) → (cond b 1 0) + times_in q xs ≡ 0
        → cond b (Some x.1) (kept_in q xs) ≡ None
    step true later e = absurd (omega (arith, e))
    step false later e = later (omega (arith, e))

pub all_less : (P : Entry → Type 0) (x : Entry) (xs ys : List Entry) → All P (xs ++ x ∷ ys)
    → P x × All P (xs ++ ys)
all_less P x [] ys all = (All-head P x ys all, All-tail P x ys all)
all_less P x (y ∷ xs) ys all = let r = all_less P x xs ys (All-tail P y (xs ++ x ∷ ys) all) in
    (r.0, All-cons P y (xs ++ ys) (All-head P y (xs ++ x ∷ ys) all) r.1)

pub one_of : (a q : ℕ) → a ≡ q → ◌≡◌ {A = ℕ} (cond (eqb a q) 1 0) 1
one_of a q is = grind (arith, nat_tests)

other_than : (a q : ℕ) → ¬ (a ≡ q) → eqb a q ≡ false
other_than a q differ = grind (arith, nat_tests)

same_as : (a q : ℕ) → a ≡ q → eqb a q ≡ true
same_as a q is = grind (arith, nat_tests)

-- ---- an object taken, whose place the last one of the first page fills

-- the last one stands where the taken one was
pub record Moved (id : ℕ) (x : Entry) (all now : List Entry) : Type 0 where
  pub before : List Entry
  pub object : Entry
  pub after : List Entry
  pub was : all ≡ before ++ object ∷ after
  pub id_is : object.0 ≡ id
  pub is : now ≡ before ++ x ∷ after

-- or it is the taken one
abbrev pub Takes : ℕ → Entry → List Entry → List Entry → Type 0
Takes id x all now = Moved id x all now ⊎ ((x.0 ≡ id) × (now ≡ all))

module _ (id : ℕ) (x : Entry) (front rest now : List Entry)
    (single : (i : ℕ) → times_in i (front ++ x ∷ rest) ≤ 1) where
  moved_times : (m : Moved id x (front ++ rest) now) (i : ℕ)
      → (times_in i
      (front ++ x ∷ rest) ≡ (cond (eqb x.0 i) 1 0)
      + ((cond (eqb m.object.0 i) 1 0) + times_in i (m.before ++ m.after)))
      × (times_in i now ≡ (cond (eqb x.0 i) 1 0) + times_in i (m.before ++ m.after))
  moved_times m i = (
    times_more i x front rest ∙ ap (λ (es : List Entry). (cond (eqb x.0 i) 1 0) + times_in i es) m.was
        ∙ ap (λ n. (cond (eqb x.0 i) 1 0) + n) (times_more i m.object m.before m.after),
    ap (times_in i) m.is ∙ times_more i x m.before m.after,
  )

  pub taken_single : Takes id x (front ++ rest) now → (i : ℕ) → times_in i now ≤ 1
  taken_single (inl m) i = let t = moved_times m i in omega (arith, t.0, t.1, single i)
  taken_single (inr e) i = let t = times_more i x front rest in
      omega (arith, ap (times_in i) e.1, t, single i)

  pub taken_placed : (P : Entry → Type 0) → All P (front ++ x ∷ rest) → Takes id x (front ++ rest) now
      → All P now
  taken_placed P all (inl m) =
      let a = all_less P x front rest all in
      let b = all_less P m.object m.before m.after (subst (All P) m.was a.1) in
      subst (All P) (sym m.is) (all_more P x m.before m.after b.1 a.0)
  taken_placed P all (inr e) = subst (All P) (sym e.1) (all_less P x front rest all).1

  -- the last one is found after the rest of its page
  last_found : (q : ℕ)
      → kept_in q (front ++ x ∷ rest) ≡ cond (eqb x.0 q) (Some x.1) (kept_in q (front ++ rest))
  last_found q =
      one_more q x front rest
      (none_in x.0 (front ++ rest)
      (omega (arith, single x.0, times_more x.0 x front rest, one_of x.0 x.0 refl)))

  pub taken_box : Takes id x (front ++ rest) now → (q : ℕ)
      → kept_in q now ≡ cond (eqb id q) None (kept_in q (front ++ x ∷ rest))
  taken_box (inl m) q =
      let beside = m.before ++ m.after in
      let y = m.object in
      let at_x = (moved_times m x.0).0 in
      let at_y = (moved_times m y.0).0 in
      let no_x : kept_in x.0 beside ≡ None =
      none_in x.0 beside (omega (arith, at_x, single x.0, one_of x.0 x.0 refl)) in
      let no_y : kept_in y.0 beside ≡ None =
      none_in y.0 beside (omega (arith, at_y, single y.0, one_of y.0 y.0 refl)) in
      let apart : ¬ (x.0 ≡ y.0) = λ same. let e = one_of x.0 y.0 same in
      omega (arith, at_y, single y.0, one_of y.0 y.0 refl, e) in
      let now_is = ap (kept_in q) m.is ∙ one_more q x m.before m.after no_x in
      let all_is = last_found q ∙ ap (λ (es : List Entry). cond (eqb x.0 q) (Some x.1) (kept_in q es)) m.was
      ∙ ap (λ o. cond (eqb x.0 q) (Some x.1) o) (one_more q y m.before m.after no_y) in
      step (eqb x.0 q) (eqb id q) (eqb y.0 q) (kept_in q beside) (kept_in q now)
      (kept_in q (front ++ x ∷ rest)) now_is all_is (ap (λ k. eqb k q) m.id_is)
      (λ t. ap (λ k. kept_in k beside) (sym (is_same y.0 q t)) ∙ no_y)
      (λ t. other_than x.0 q (λ same. apart (same ∙ sym (is_same y.0 q t))))
    where
      is_same : (a q : ℕ) → eqb a q ≡ true → a ≡ q
      is_same a q t = grind (arith, nat_tests)

      step : (xq idq yq : Bool) (base fin all : Option Object) → fin ≡ cond xq (Some x.1) base
          → all ≡ cond xq (Some x.1) (cond yq (Some m.object.1) base) → yq ≡ idq
          → (yq ≡ true → base ≡ None) → (yq ≡ true → xq ≡ false) → fin ≡ cond idq None all
      step true true true base fin all f a s none apart = let differ = apart refl in absurd (cc)
      step false true true base fin all f a s none apart = f ∙ none refl
      step xq true false base fin all f a s none apart = absurd (cc)
      step xq false true base fin all f a s none apart = absurd (cc)
      step true false false base fin all f a s none apart = f ∙ sym a
      step false false false base fin all f a s none apart = f ∙ sym a
  taken_box (inr e) q = ⊎_elim
      (λ (is : id ≡ q). ap (kept_in q) e.1 ∙ ap (λ k. kept_in k (front ++ rest)) (sym (e.0 ∙ is))
      ∙ none_in x.0 (front ++ rest)
      (omega (arith, single x.0, times_more x.0 x front rest, one_of x.0 x.0 refl))
      ∙ ap (λ b. cond b None (kept_in q (front ++ x ∷ rest))) (sym (same_as id q is)))
      (λ (other : ¬ (id ≡ q)). ap (kept_in q) e.1
      ∙ sym (last_found q
      ∙ ap (λ b. cond b (Some x.1) (kept_in q (front ++ rest)))
      (other_than x.0 q (λ is. other (sym e.0 ∙ is))))
      ∙ ap (λ b. cond b None (kept_in q (front ++ x ∷ rest))) (sym (other_than id q other)))
      (cases_eq id q)
