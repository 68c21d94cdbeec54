-- What is known of a result that is Ok, and of one that is not.
use Rattle.std.proofs.Common.{◌≡◌, refl, subst}
use Rattle.std.specs.Prelude.{Result, Ok, Err, IfErr, IfOk}

pub ok_case : {T E : Type 0} {P : T → Type 0} (r : Result T E) → ((v : T) → r ≡ Ok v → P v) → IfOk r P
ok_case (Ok v) f = f v refl
ok_case (Err e) f = tt

pub err_case : {T E : Type 0} {P : E → Type 0} (r : Result T E) → ((e : E) → r ≡ Err e → P e) → IfErr r P
err_case (Ok v) f = tt
err_case (Err e) f = f e refl

pub at_ok : {T E : Type 0} (P : T → Type 0) (r : Result T E) (v : T) → r ≡ Ok v → IfOk r P → P v
at_ok P r v is h = subst (λ x. IfOk x P) is h

pub at_err : {T E : Type 0} (P : E → Type 0) (r : Result T E) (e : E) → r ≡ Err e → IfErr r P → P e
at_err P r e is h = subst (λ x. IfErr x P) is h
