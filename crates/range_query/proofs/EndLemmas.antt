-- How calls end that are refused.
use Rattle.std.proofs.Common.{◌≡◌, None, Some, subst, sym}
use Rattle.std.specs.Prelude.{Result, Ok, Err, IfOk, IsErrAnd, OnOk}
use Rattle.page_file.specs.declared.fault.Fault.{Fault}
use Rattle.page_file.specs.declared.fault.Fault.TheVariants as fault
use Rattle.page_cache.specs.Calls.{Asks, AsksUntil, ends_so}
use Rattle.page_cache.specs.declared.cache.PageCache.{PageCache}

-- nothing is said of what it answers
pub no_answer : {T E : Type 0} (r : Result T E) (f : E) (P : T → Type 0) → IsErrAnd r (λ e. e ≡ f) → IfOk r P
no_answer (Ok x) f P is = absurd is
no_answer (Err e) f P is = tt

pub no_success : {T E : Type 0} (r : Result T E) (f : E) (X : Type 0) → IsErrAnd r (λ e. e ≡ f) → OnOk r X
no_success (Ok x) f X is = absurd is
no_success (Err e) f X is = tt

module _ {B A : Type 0} {m : _} where
  -- a call that succeeds, and then a growth that is refused
  pub asks_and_refuses_memory : {T : Type 0} (old new : PageCache B A m) (f : Fault)
      (result : Result T Fault) → IsErrAnd result (λ e. e ≡ f) → f ≡ fault.Memory → AsksUntil old new None
      → Asks old new result
  asks_and_refuses_memory old new f result is memory asks =
      let ended = ends_so result f is in
      subst (λ end. AsksUntil old new end) (sym ended)
      (subst (λ g. AsksUntil old new (Some g)) (sym memory)
      (record {
        gate = asks.gate;
        map = asks.map;
        capacity = asks.capacity;
        looks = asks.looks;
        touched = asks.touched;
        faults = asks.faults;
      }))
