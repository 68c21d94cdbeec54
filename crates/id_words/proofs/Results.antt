-- Answers of calls.
use Rattle.std.proofs.Common.{◌≡◌, subst, refl}
use Rattle.std.specs.Prelude.{Result, Ok, Err, IfOk, OnErr, OnOk}

-- a fact of the answer that does not name it
pub ok_of : {T E Q : Type 0} {P : T → Type 0} (r : Result T E) → IfOk r P → ((x : T) → P x → Q) → OnOk r Q
ok_of (Ok x) p f = f x p
ok_of (Err e) p f = tt

pub on_err : {T E X Y : Type 0} (r : Result T E) → (X → Y) → OnErr r X → OnErr r Y
on_err (Ok x) f h = tt
on_err (Err e) f h = f h

-- what two clauses say of an answer
pub if_both : {T E : Type 0} (r : Result T E) (P Q R : T → Type 0) → IfOk r P → IfOk r Q
    → ((x : T) → P x → Q x → R x) → IfOk r R
if_both (Ok x) P Q R p q both = both x p q
if_both (Err e) P Q R p q both = tt

-- a fact where the call succeeds, by its answer
pub on_done : {T E Q : Type 0} (r : Result T E) → ((x : T) → r ≡ Ok x → Q) → OnOk r Q
on_done (Ok x) f = f x refl
on_done (Err e) f = tt

pub done_so : {T E : Type 0} (r : Result T E) (x : T) (P : T → Type 0) → r ≡ Ok x → IfOk r P → P x
done_so (Ok y) x P is p = subst P (let same : y ≡ x = cc in same) p
done_so (Err e) x P is p = absurd (cc)
