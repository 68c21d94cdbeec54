-- A fact of an answer from facts of it.
use Rattle.std.proofs.Common.{◌≡◌, ◌∙◌, ℕ, Bool, true, false, ◌||◌, Some, eqb, not, refl, sym, ap}
use Rattle.std.proofs.lemmas.Bool.{eqb-true, eq-eqb}
use Rattle.std.proofs.Common.{subst}
use Rattle.std.specs.Prelude.{Result, Ok, Err, OnOk, OnErr, IfOk, IfErr, IsErrAnd, is_ok}
use Rattle.page_file.specs.Fault.{HasCause, faults_after}
use Rattle.page_file.specs.declared.fault.Fault.{Fault}
use Rattle.page_file.specs.declared.fault.Fault.TheVariants as fault
use Rattle.page_cache.specs.Calls.{ends_so, fault_in, faults_behind, has_cause}

module _ {T E : Type 0} where
  -- an answer of the one kind or the other
  pub either : {P Q R : Type 0} (r : Result T E) → OnOk r P → OnErr r Q → (P → R) → (Q → R) → R
  either (Ok x) p q f g = f p
  either (Err e) p q f g = g q

  pub on_ok_map : {P Q : Type 0} (r : Result T E) → OnOk r P → (P → Q) → OnOk r Q
  on_ok_map (Ok x) p f = f p
  on_ok_map (Err e) p f = tt

  pub on_err_map : {P Q : Type 0} (r : Result T E) → OnErr r P → (P → Q) → OnErr r Q
  on_err_map (Ok x) p f = tt
  on_err_map (Err e) p f = f p

  pub on_err_given : {H P Q R : Type 0} (r : Result T E) → OnErr r P → (H → OnErr r Q) → (P → (H → Q) → R)
      → OnErr r R
  on_err_given (Ok x) p q f = tt
  on_err_given (Err e) p q f = f p q

  pub on_err_and : {H P Q R S : Type 0} (r : Result T E) → OnErr r P → (H → OnErr r Q) → OnErr r S
      → (P → (H → Q) → S → R) → OnErr r R
  on_err_and (Ok x) p q s f = tt
  on_err_and (Err e) p q s f = f p q s

  pub if_ok_both : {P Q : T → Type 0} {S : Type 0} (r : Result T E) → IfOk r P → OnOk r S
      → ((x : T) → P x → S → Q x) → IfOk r Q
  if_ok_both (Ok x) p s f = f x p s
  if_ok_both (Err e) p s f = tt

  pub on_err_all : {P : Type 0} (r : Result T E) → P → OnErr r P
  on_err_all (Ok x) p = tt
  on_err_all (Err e) p = p

  pub on_ok_all : {P : Type 0} (r : Result T E) → P → OnOk r P
  on_ok_all (Ok x) p = p
  on_ok_all (Err e) p = tt

  pub either_if : {P : T → Type 0} {Q R : Type 0} (r : Result T E) → IfOk r P → OnErr r Q
      → ((x : T) → P x → R) → (Q → R) → R
  either_if (Ok x) p q f g = f x p
  either_if (Err e) p q f g = g q

  pub on_ok_both : {P Q R : Type 0} (r : Result T E) → OnOk r P → OnOk r Q → (P → Q → R) → OnOk r R
  on_ok_both (Ok x) p q f = f p q
  on_ok_both (Err e) p q f = tt

  pub either_both : {P Q R S : Type 0} (r : Result T E) → OnOk r P → OnOk r Q → OnErr r S → (P → Q → R)
      → (S → R) → R
  either_both (Ok x) p q s f g = f p q
  either_both (Err e) p q s f g = g s

  pub if_ok_map : {P Q : T → Type 0} (r : Result T E) → IfOk r P → ((x : T) → P x → Q x) → IfOk r Q
  if_ok_map (Ok x) p f = f x p
  if_ok_map (Err e) p f = tt

  pub if_err_map : {P Q : E → Type 0} (r : Result T E) → IfErr r P → ((e : E) → P e → Q e) → IfErr r Q
  if_err_map (Ok x) p f = tt
  if_err_map (Err e) p f = f e p

  pub on_err_any : {P : Type 0} (r : Result T E) → P → OnErr r P
  on_err_any (Ok x) p = tt
  on_err_any (Err e) p = p

-- ---- an answer that hands on a fault

module _ {T E : Type 0} where
  -- nothing is said of what it answers
  pub no_answer : (r : Result T E) (f : E) (P : T → Type 0) → IsErrAnd r (λ e. e ≡ f) → IfOk r P
  no_answer (Ok x) f P is = absurd is
  no_answer (Err e) f P is = tt

  pub no_success : (r : Result T E) (f : E) (X : Type 0) → IsErrAnd r (λ e. e ≡ f) → OnOk r X
  no_success (Ok x) f X is = absurd is
  no_success (Err e) f X is = tt

  -- and what is said of the fault holds
  pub at_error : (r : Result T E) (f : E) (P : E → Type 0) → IsErrAnd r (λ e. e ≡ f) → P f → IfErr r P
  at_error (Ok x) f P is p = tt
  at_error (Err e) f P is p = subst P (sym is) p

-- the device's faults are counted as the fault has it
pub refused_cause : {T : Type 0} (before now : ℕ) (r : Result T Fault) (f : Fault)
    → IsErrAnd r (λ e. e ≡ f) → now ≡ faults_after f before → HasCause before now r
refused_cause before now r f is counted =
    has_cause before now r (counted ∙ ap (λ x. faults_behind x before) (sym (ends_so r f is)))

-- ---- a flag that is set by an answer that is no refusal, or by a loss

set_by : (was : Bool) → (was || true) ≡ true
set_by true = refl
set_by false = refl

never_set : {P : Type 0} (was : Bool) → (was || true) ≡ false → P
never_set was unset = absurd (let bad : true ≡ false = sym (set_by was) ∙ unset in cc)

pub unset_by_err : {T E P : Type 0} (was ok : Bool) (r : Result T E) → ok ≡ is_ok r → (was || ok) ≡ false
    → OnErr r P → P
unset_by_err was ok (Ok x) is unset p = never_set was (ap (λ b. was || b) (sym is) ∙ unset)
unset_by_err was ok (Err e) is unset p = p

pub or_none : (was : Bool) → (was || false) ≡ was
or_none true = refl
or_none false = refl

pub untouched_by : {T E : Type 0} (was : Bool) (r : Result T E) (f : E) → IsErrAnd r (λ e. e ≡ f)
    → (was || is_ok r) ≡ was
untouched_by was (Ok x) f is = absurd is
untouched_by true (Err e) f is = refl
untouched_by false (Err e) f is = refl

pub stays_unless_lost : {T E : Type 0} (was ok : Bool) (left had : ℕ) (r : Result T E) → ok ≡ is_ok r
    → OnErr r (left ≡ had → (was || (ok || not (eqb left had))) ≡ was)
stays_unless_lost was ok left had (Ok x) is = tt
stays_unless_lost was ok left had (Err e) is =
    λ same. ap (λ b. was || (b || not (eqb left had))) is
    ∙ ap (λ b. was || not b) (eq-eqb left had same) ∙ or_none was

pub none_lost : {T E P : Type 0} (was ok : Bool) (left had : ℕ) (r : Result T E) → ok ≡ is_ok r
    → (was || (ok || not (eqb left had))) ≡ false → OnErr r (left ≡ had → P) → P
none_lost was ok left had (Ok x) is unset p =
    never_set was (ap (λ b. was || (b || not (eqb left had))) (sym is) ∙ unset)
none_lost {P = P} was ok left had (Err e) is unset p = case (eqb left had) refl
  where
    case : (t : Bool) → eqb left had ≡ t → P
    case true t = p (eqb-true left had t)
    case false t = never_set was (ap (λ b. was || not b) (sym t)
        ∙ ap (λ b. was || (b || not (eqb left had))) (sym is) ∙ unset)

-- a call of no device, that gives up where there is no memory
pub no_device : {T : Type 0} (before now : ℕ) (r : Result T Fault) → now ≡ before
    → IfErr r (λ f. f ≡ fault.Memory) → now ≡ faults_behind (fault_in r) before
no_device before now (Ok x) same memory = same
no_device before now (Err f) same memory = same ∙ sym (ap (λ x. faults_behind (Some x) before) memory)
