-- What ends a call.
use Rattle.std.proofs.Common.{◌≡◌, ◌∙◌, ◌⊎◌, ⊎_elim, inl, inr, ℕ, Bool, true, false, Option, None, Some}
use Rattle.std.proofs.Common.{IfNone, IfOk, OnOk, Result, Ok, Err, refl, subst, sym}
use Rattle.std.specs.Prelude.{IsErrAnd}
use Rattle.page_file.specs.Fault.{IsOfDevice}
use Rattle.page_file.specs.declared.fault.Fault.{Fault}
use Rattle.page_file.specs.declared.fault.Fault.TheVariants as fault
use Rattle.page_cache.specs.Cache.{IsFull}
use Rattle.page_cache.specs.Calls.{Asks, AsksUntil, Changes, ChangesUntil, asks_changes, ends_so}
use Rattle.page_cache.specs.Calls.{no_call_asks}
use Rattle.page_cache.specs.declared.cache.PageCache.{PageCache}
use Rattle.node_page.specs.Faults.{IsNoDamage}
use Rattle.node_page.proofs.DamageLemmas.{damaged_read}

-- the second of two cases, with what it says of the pages
pub with_full : (X Y Z : Type 0) → X ⊎ Y → (Y → Z) → X ⊎ (Y × Z)
with_full X Y Z h full = ⊎_elim (λ (x : X). inl x) (λ (y : Y). inr (y, full y)) h

-- and the second of three
pub with_full_between : (X Y Z W : Type 0) → X ⊎ (Y ⊎ Z) → (Y → W) → X ⊎ ((Y × W) ⊎ Z)
with_full_between X Y Z W h full =
    ⊎_elim (λ (x : X). inl x)
    (λ (rest : Y ⊎ Z). inr (⊎_elim (λ (y : Y). inl (y, full y)) (λ (z : Z). inr z) rest)) h

-- one case more between two
pub one_more : (X Y Z : Type 0) → X ⊎ Z → X ⊎ (Y ⊎ Z)
one_more X Y Z h = ⊎_elim (λ (x : X). inl x) (λ (z : Z). inr (inr z)) h

-- what is so where there is none
pub at_none : {A : Type 0} (o : Option A) (X : Type 0) → IfNone o X → ((x : A) → o ≡ Some x → ⊥) → X
at_none None X h never = h
at_none (Some x) X h never = absurd (never x refl)

-- what a call answers anyway, and the first part of what it answers
pub ok_too : {T E : Type 0} (r : Result T E) (X : Type 0) (P : T → Type 0) → OnOk r X → ((x : T) → X → P x)
    → IfOk r P
ok_too (Ok x) X P h f = f x h
ok_too (Err e) X P h f = tt

pub ok_first : {T E : Type 0} (r : Result T E) (X : Type 0) (P : T → Type 0) → IfOk r (λ x. X × P x)
    → OnOk r X
ok_first (Ok x) X P h = h.0
ok_first (Err e) X P h = tt

-- what two clauses say of an answer
pub if_both : {T E : Type 0} (r : Result T E) (P Q R : T → Type 0) → IfOk r P → IfOk r Q
    → ((x : T) → P x → Q x → R x) → IfOk r R
if_both (Ok x) P Q R p q both = both x p q
if_both (Err e) P Q R p q both = tt

-- the only page that a fault can name
pub named_page : {D A : Type 0} {m : _} (cache : PageCache D A m) (f : Fault) (page n : ℕ)
    → IsNoDamage cache f ⊎ (f ≡ fault.Damaged page) → f ≡ fault.Damaged n → n ≡ page
named_page cache f page n either damaged = ⊎_elim
    (λ (none : IsNoDamage cache f). ⊎_elim
    (λ (device : IsOfDevice f). damaged_read f page n (inl device) damaged)
    (λ (full : (f ≡ fault.NoPages) × IsFull cache). let is = full.0 in absurd (cc))
    none)
    (λ (is : f ≡ fault.Damaged page). cc)
    either

-- no page was touched before, where none is now
pub none_before : (before now : Bool) → (before ≡ true → now ≡ true) → now ≡ false → before ≡ false
none_before false now stays none = refl
none_before true now stays none = absurd (let both = sym (stays refl) ∙ none in cc)

-- nothing is said of what a refused call answers
pub no_answer : {T E : Type 0} (r : Result T E) (f : E) (P : T → Type 0) → IsErrAnd r (λ e. e ≡ f) → IfOk r P
no_answer (Ok x) f P is = absurd is
no_answer (Err e) f P is = tt

pub no_success : {T E : Type 0} (r : Result T E) (f : E) (X : Type 0) → IsErrAnd r (λ e. e ≡ f) → OnOk r X
no_success (Ok x) f X is = absurd is
no_success (Err e) f X is = tt

module _ {D A : Type 0} {m : _} where
  -- what a call asked or changed whose fault is handed on
  pub asks_refused : {T : Type 0} (old new : PageCache D A m) (f : Fault) (result : Result T Fault)
      → IsErrAnd result (λ e. e ≡ f) → AsksUntil old new (Some f) → Asks old new result
  asks_refused old new f result is asks =
      subst (λ end. AsksUntil old new end) (sym (ends_so result f is)) asks

  pub changes_refused : {T : Type 0} (old new : PageCache D A m) (f : Fault) (result : Result T Fault)
      → IsErrAnd result (λ e. e ≡ f) → ChangesUntil old new (Some f) → Changes old new result
  changes_refused old new f result is changes =
      subst (λ end. ChangesUntil old new end) (sym (ends_so result f is)) changes

  -- pages that were only asked for, and then a damaged one
  pub damaged_asks : (old new : PageCache D A m) (page : ℕ) → AsksUntil old new None
      → AsksUntil old new (Some (fault.Damaged page))
  damaged_asks old new page asks = record {
    gate = asks.gate;
    map = asks.map;
    capacity = asks.capacity;
    looks = asks.looks;
    touched = asks.touched;
    faults = asks.faults;
  }

  -- no call, and a damaged page
  pub damaged_at_once : (cache : PageCache D A m) (page : ℕ)
      → ChangesUntil cache cache (Some (fault.Damaged page))
  damaged_at_once cache page =
      asks_changes cache cache (Some (fault.Damaged page))
      (damaged_asks cache cache page (no_call_asks cache))

  -- no call, and no memory
  pub memory_at_once : {T : Type 0} (cache : PageCache D A m) (f : Fault) (result : Result T Fault)
      → IsErrAnd result (λ e. e ≡ f) → f ≡ fault.Memory → Changes cache cache result
  memory_at_once cache f result is memory =
      let none = no_call_asks cache in
      let asks : AsksUntil cache cache (Some fault.Memory) = record {
        gate = none.gate;
        map = none.map;
        capacity = none.capacity;
        looks = none.looks;
        touched = none.touched;
        faults = none.faults;
      } in
      changes_refused cache cache f result is
      (subst (λ (e : Fault). ChangesUntil cache cache (Some e)) (sym memory)
      (asks_changes cache cache (Some fault.Memory) asks))
