-- Objects changed in the middle of a list.
use Rattle.std.proofs.Common.{◌≡◌, ◌∙◌, ℕ, ◌<◌, ◌≤◌, Bool, true, false, cond, eqb, Option, Some, None, List}
use Rattle.std.proofs.Common.{[], ◌∷◌, ◌++◌, length, All, rules, refl, sym, ap, subst, ⊎_elim, arith}
use Rattle.std.proofs.lemmas.Bool.{cases_eq}
use Rattle.std.proofs.lemmas.Bool.Decides.{nat_tests}
use Rattle.std.proofs.lemmas.List.Elements.{All-append, All-cons, All-head, All-tail}
use Rattle.box_math.specs.Objects.{Object}
use Rattle.bucket_page.specs.Layout.{Entry}
use Rattle.id_words.specs.Objects.{kept_in}
use Rattle.id_words.proofs.ObjectLemmas.{times-append}
use Rattle.id_tree.specs.Steps.{Keeps, Step, adds, Turns, kept_after}

-- ---- all of two lists

module _ (P : Entry → Type 0) where
  pub all_left : (xs ys : List Entry) → All P (xs ++ ys) → All P xs
  all_left [] ys all = search rules
  all_left (x ∷ xs) ys all = All-cons P x xs (All-head P x (xs ++ ys) all)
      (all_left xs ys (All-tail P x (xs ++ ys) all))

  pub all_right : (xs ys : List Entry) → All P (xs ++ ys) → All P ys
  all_right [] ys all = all
  all_right (x ∷ xs) ys all = all_right xs ys (All-tail P x (xs ++ ys) all)

-- ---- what is kept of one of two lists

unfoldable pub or_else : Option Object → Option Object → Option Object
or_else None b = b
or_else (Some x) b = Some x

pub kept-append : (q : ℕ) (xs ys : List Entry) → kept_in q (xs ++ ys) ≡ or_else (kept_in q xs) (kept_in q ys)
unfolding or_else
kept-append q [] ys = refl
kept-append q (x ∷ xs) ys = step (eqb x.0 q) (kept_in q xs) (kept_in q (xs ++ ys)) (kept-append q xs ys)
  where
    step : (b : Bool) (front all : Option Object) → all ≡ or_else front (kept_in q ys)
        → cond b (Some x.1) all ≡ or_else (cond b (Some x.1) front) (kept_in q ys)
    step true front all e = refl
    step false front all e = e

none_of_both : (a b : Option Object) → or_else a b ≡ None → (a ≡ None) × (b ≡ None)
unfolding or_else
none_of_both None b e = (refl, e)
none_of_both (Some x) b e = absurd (cc)

pub none_behind : (o : Option Object) → or_else o None ≡ o
unfolding or_else
none_behind None = refl
none_behind (Some x) = refl

pub is_same : (a b : ℕ) → a ≡ b → eqb a b ≡ true
is_same a b h = grind (arith, nat_tests)

pub is_other : (a b : ℕ) → ¬ (a ≡ b) → eqb a b ≡ false
is_other a b h = grind (arith, nat_tests)

-- objects with lesser identifiers are others, and so are those with greater ones
pub none_below : (id key : ℕ) (xs : List Entry) → All (λ o. o.0 < key) xs → key ≤ id → kept_in id xs ≡ None
none_below id key [] less le = refl
none_below id key (x ∷ xs) less le =
    let here : x.0 < key = All-head (λ (o : Entry). o.0 < key) x xs less in
    ap (λ b. cond b (Some x.1) (kept_in id xs)) (is_other x.0 id (λ is. omega (arith, is, here, le)))
    ∙ none_below id key xs (All-tail (λ (o : Entry). o.0 < key) x xs less) le

pub none_from : (id key : ℕ) (xs : List Entry) → All (λ o. key ≤ o.0) xs → id < key → kept_in id xs ≡ None
none_from id key [] from lt = refl
none_from id key (x ∷ xs) from lt =
    let here : key ≤ x.0 = All-head (λ (o : Entry). key ≤ o.0) x xs from in
    ap (λ b. cond b (Some x.1) (kept_in id xs)) (is_other x.0 id (λ is. omega (arith, is, here, lt)))
    ∙ none_from id key xs (All-tail (λ (o : Entry). key ≤ o.0) x xs from) lt

-- ---- others in the middle of a list

pub keeps_same : (xs : List Entry) → Keeps xs xs
keeps_same xs = record { kept = λ q. refl; times = λ q. refl; below = λ key all. all; from = λ key all. all }

pub keeps_equal : (xs ys : List Entry) → ys ≡ xs → Keeps xs ys
keeps_equal xs ys is = subst (Keeps xs) (sym is) (keeps_same xs)

-- what holds of each object before and behind, and of those that come between, holds of all
module _ (P : Entry → Type 0) where
  pub all_within : (front old new behind : List Entry) → (All P old → All P new)
      → All P (front ++ (old ++ behind)) → All P (front ++ (new ++ behind))
  all_within front old new behind step all =
      let rest = all_right P front (old ++ behind) all in
      All-append P front (new ++ behind) (all_left P front (old ++ behind) all)
      (All-append P new behind (step (all_left P old behind rest)) (all_right P old behind rest))

kept_between : (q : ℕ) (front new behind : List Entry)
    → kept_in q (front ++ (new ++ behind)) ≡ or_else (kept_in q front)
    (or_else (kept_in q new) (kept_in q behind))
kept_between q front new behind = kept-append q front (new ++ behind)
    ∙ ap (or_else (kept_in q front)) (kept-append q new behind)

pub keeps_within : (front old new behind : List Entry) → Keeps old new
    → Keeps (front ++ (old ++ behind)) (front ++ (new ++ behind))
keeps_within front old new behind keeps = record {
  kept = λ q. kept_between q front new behind ∙ ap
      (λ o. or_else (kept_in q front) (or_else o (kept_in q behind))) (keeps.kept q)
      ∙ sym (kept_between q front old behind);
  times = λ q. omega (
    arith,
    times-append q front (new ++ behind),
    times-append q new behind,
    times-append q front
        (old ++ behind),
    times-append q old behind,
    keeps.times q,
  );
  below = λ key all. all_within (λ (o : Entry). o.0 < key) front old new behind (keeps.below key) all;
  from = λ key all. all_within (λ (o : Entry). key ≤ o.0) front old new behind (keeps.from key) all;
}

-- a step of an identifier that none of those before and behind has
pub turns_within : (id : ℕ) (step : Step) (front old new behind : List Entry) → kept_in id front ≡ None
    → kept_in id behind ≡ None → Turns id step old new
    → Turns id step (front ++ (old ++ behind)) (front ++ (new ++ behind))
unfolding or_else
turns_within id step front old new behind before after turns = record {
  kept = λ q. kept_between q front new behind ∙ ⊎_elim
      (λ (is : id ≡ q).
      let yes = is_same id q is in
      let there : kept_in q new ≡ kept_after step = turns.kept q
      ∙ ap (λ b. cond b (kept_after step) (kept_in q old)) yes in
      let no_front : kept_in q front ≡ None = ap (λ k. kept_in k front) (sym is) ∙ before in
      let no_behind : kept_in q behind ≡ None = ap (λ k. kept_in k behind) (sym is) ∙ after in
      ap (λ o. or_else o (or_else (kept_in q new) (kept_in q behind))) no_front
      ∙ ap (or_else (kept_in q new)) no_behind ∙ none_behind (kept_in q new) ∙ there
      ∙ sym (ap (λ b. cond b (kept_after step) (kept_in q (front ++ (old ++ behind)))) yes))
      (λ (other : ¬ (id ≡ q)).
      let no = is_other id q other in
      let same : kept_in q new ≡ kept_in q old = turns.kept q
      ∙ ap (λ b. cond b (kept_after step) (kept_in q old)) no in
      ap (λ o. or_else (kept_in q front) (or_else o (kept_in q behind))) same
      ∙ sym (kept_between q front old behind)
      ∙ sym (ap (λ b. cond b (kept_after step) (kept_in q (front ++ (old ++ behind)))) no))
      (cases_eq id q);
  times = λ q. omega (
    arith,
    times-append q front (new ++ behind),
    times-append q new behind,
    times-append q front
        (old ++ behind),
    times-append q old behind,
    turns.times q,
  );
  below = λ key all less. all_within (λ (o : Entry). o.0 < key) front old new behind
      (λ inner. turns.below key inner less) all;
  from = λ key all le. all_within (λ (o : Entry). key ≤ o.0) front old new behind
      (λ inner. turns.from key inner le) all;
}

-- the same objects, and then a step
pub turns_after : (id : ℕ) (step : Step) (old mid new : List Entry) → Keeps old mid → Turns id step mid new
    → Turns id step old new
turns_after id step old mid new keeps turns = record {
  kept = λ q. turns.kept q ∙ ap (λ o. cond (eqb id q) (kept_after step) o) (keeps.kept q);
  times = λ q. omega (arith, turns.times q, keeps.times q);
  below = λ key all less. turns.below key (keeps.below key all) less;
  from = λ key all le. turns.from key (keeps.from key all) le;
}

-- an object more
pub adds_last : (id : ℕ) (kept : Object) (xs : List Entry) → kept_in id xs ≡ None
    → Turns id (adds kept) xs (xs ++ (id, kept) ∷ [])
unfolding or_else
adds_last id kept xs absent = record {
  kept = λ q. kept-append q xs ((id, kept) ∷ []) ∙ ⊎_elim
      (λ (is : id ≡ q).
      let yes = is_same id q is in
      let none : kept_in q xs ≡ None = ap (λ k. kept_in k xs) (sym is) ∙ absent in
      ap (λ o. or_else o (cond (eqb id q) (Some kept) None)) none ∙ ap (λ b. cond b (Some kept) None) yes
      ∙ sym (ap (λ b. cond b (Some kept) (kept_in q xs)) yes))
      (λ (other : ¬ (id ≡ q)).
      let no = is_other id q other in
      ap (λ b. or_else (kept_in q xs) (cond b (Some kept) None)) no ∙ none_behind (kept_in q xs)
      ∙ sym (ap (λ b. cond b (Some kept) (kept_in q xs)) no))
      (cases_eq id q);
  times = λ q. let none = nothing (eqb id q) in omega (arith, times-append q xs ((id, kept) ∷ []), none);
  below = λ key all less. All-append (λ (o : Entry). o.0 < key) xs ((id, kept) ∷ []) all
      (All-cons (λ (o : Entry). o.0 < key) (id, kept) [] less (search rules));
  from = λ key all le. All-append (λ (o : Entry). key ≤ o.0) xs ((id, kept) ∷ []) all
      (All-cons (λ (o : Entry). key ≤ o.0) (id, kept) [] le (search rules));
}
  where
    nothing : (b : Bool) → ◌≡◌ {A = ℕ} (cond b 0 0) 0
    nothing true = refl
    nothing false = refl

-- where there are objects there are some after those that keep them
pub some_kept : (xs ys : List Entry) → 0 < length xs → Keeps xs ys → 0 < length ys
some_kept [] ys some keeps = absurd (omega (arith, some))
some_kept (x ∷ xs) [] some keeps = let one : ◌≡◌ {A = ℕ} (cond (eqb x.0 x.0) 1 0) 1 =
    ap (λ b. cond b 1 0) (is_same x.0 x.0 refl) in absurd (omega (arith, keeps.times x.0, one))
some_kept (x ∷ xs) (y ∷ ys) some keeps = omega arith

-- what none of the objects has
pub none_in : (id : ℕ) (xs : List Entry) → All (λ o. ¬ (o.0 ≡ id)) xs → kept_in id xs ≡ None
none_in id [] none = refl
none_in id (x ∷ xs) none = ap (λ b. cond b (Some x.1) (kept_in id xs))
    (is_other x.0 id (All-head (λ (o : Entry). ¬ (o.0 ≡ id)) x xs none))
    ∙ none_in id xs (All-tail (λ (o : Entry). ¬ (o.0 ≡ id)) x xs none)
