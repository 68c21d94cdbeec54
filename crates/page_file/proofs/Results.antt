-- A fact of an answer from facts of it.
use Rattle.std.proofs.Common.{subst, sym}
use Rattle.std.specs.Prelude.{◌≡◌, Result, Ok, Err, OnOk, OnErr, IfOk, IfErr, IsErrAnd}

module _ {T E : Type 0} where
  -- an answer of the one kind or the other
  pub either : {P Q R : Type 0} (r : Result T E) → OnOk r P → OnErr r Q → (P → R) → (Q → R) → R
  either (Ok x) p q f g = f p
  either (Err e) p q f g = g q

  pub on_err_map : {P Q : Type 0} (r : Result T E) → OnErr r P → (P → Q) → OnErr r Q
  on_err_map (Ok x) p f = tt
  on_err_map (Err e) p f = f p

  pub if_ok_both : {P Q : T → Type 0} {S : Type 0} (r : Result T E) → IfOk r P → OnOk r S
      → ((x : T) → P x → S → Q x) → IfOk r Q
  if_ok_both (Ok x) p s f = f x p s
  if_ok_both (Err e) p s f = tt

  pub if_err_map : {P Q : E → Type 0} (r : Result T E) → IfErr r P → ((e : E) → P e → Q e) → IfErr r Q
  if_err_map (Ok x) p f = tt
  if_err_map (Err e) p f = f e p

  pub on_ok_map : {P Q : Type 0} (r : Result T E) → (P → Q) → OnOk r P → OnOk r Q
  on_ok_map (Ok x) f p = f p
  on_ok_map (Err e) f p = p

  -- an answer that hands on a fault
  pub is_handed_on : (r : Result T E) (e : E) (P : E → Type 0) → IsErrAnd r (λ x. x ≡ e) → P e → IfErr r P
  is_handed_on (Ok x) e P is p = tt
  is_handed_on (Err x) e P is p = subst P (sym is) p
