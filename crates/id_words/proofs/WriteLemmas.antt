-- What a refusal of a write names, and whether it touched a page.
use Rattle.std.proofs.Common.{◌≡◌, ◌⊎◌, ℕ, ◌<◌, ◌≤◌, Bool, true, false, ◌||◌, IsSome, Result, Ok, Err, IfErr}
use Rattle.std.proofs.Common.{sym, subst, ⊎_elim, inl, inr, arith}
use Rattle.std.specs.Prelude.{IsErrOf, OnOk, is_ok}
use Rattle.std.proofs.lemmas.Bool.{cases_eq, cases_lt}
use Rattle.page_file.specs.Fault.{IsOfDevice}
use Rattle.page_file.specs.Pages.{SameBut}
use Rattle.page_file.specs.declared.fault.Fault.{Fault}
use Rattle.page_file.specs.declared.fault.Fault.TheVariants as fault
use Rattle.node_page.specs.Standing.{PageMap}
use Rattle.node_page.proofs.NodeLemmas.{page_refused}

-- a page outside those given out is damaged, and another one is refused for want of memory or by the device
pub write_refused : {T : Type 0} (r : Result T Fault) (n next : ℕ)
    → (2 ≤ n → n < next → IfErr r IsOfDevice)
    → ((n < 2) ⊎ (next ≤ n) → IsErrOf r (fault.Damaged n))
    → IfErr r (λ f. IsOfDevice f ⊎ (f ≡ fault.Damaged n))
write_refused (Ok x) n next inside outside = tt
write_refused (Err f) n next inside outside =
    page_refused n next f inside (λ out. let is = outside out in cc)

-- a page that is freed is damaged where it is none after the catalog
pub freed_refused : (n next : ℕ) (f : Fault) → (¬ (n ≡ 2) → IsOfDevice f)
    → ((n < 3) ⊎ (next ≤ n) → f ≡ fault.Damaged n) → IsOfDevice f ⊎ (f ≡ fault.Damaged n)
freed_refused n next f inside outside = ⊎_elim
    (λ (is : n ≡ 2). inr (outside (inl (omega (arith, is)))))
    (λ (other : ¬ (n ≡ 2)). inl (inside other))
    (cases_eq n 2)

pub free_refused : {T : Type 0} (r : Result T Fault) (n next : ℕ) → (¬ (n ≡ 2) → IfErr r IsOfDevice)
    → ((n < 3) ⊎ (next ≤ n) → IsErrOf r (fault.Damaged n))
    → IfErr r (λ f. IsOfDevice f ⊎ (f ≡ fault.Damaged n))
free_refused (Ok x) n next inside outside = tt
free_refused (Err f) n next inside outside =
    freed_refused n next f inside (λ out. let is = outside out in cc)

-- one page of two that a fault may name
pub or_second : (f : Fault) (a b : ℕ) → IsOfDevice f ⊎ (f ≡ fault.Damaged a)
    → IsOfDevice f ⊎ ((f ≡ fault.Damaged a) ⊎ (f ≡ fault.Damaged b))
or_second f a b either =
    ⊎_elim (λ (device : IsOfDevice f). inl device) (λ (is : f ≡ fault.Damaged a). inr (inl is)) either

pub or_first : (f : Fault) (a b : ℕ) → IsOfDevice f ⊎ (f ≡ fault.Damaged b)
    → IsOfDevice f ⊎ ((f ≡ fault.Damaged a) ⊎ (f ≡ fault.Damaged b))
or_first f a b either =
    ⊎_elim (λ (device : IsOfDevice f). inl device) (λ (is : f ≡ fault.Damaged b). inr (inr is)) either

-- each live page stays live where one stays so and all others stay
pub stays_live : (old new : PageMap) (n k : ℕ) → IsSome (new n) → SameBut n old new → IsSome (old k)
    → IsSome (new k)
stays_live old new n k live others there = ⊎_elim
    (λ (is : k ≡ n). subst (λ (j : ℕ). IsSome (new j)) (sym is) live)
    (λ (other : ¬ (k ≡ n)). subst IsSome (sym (others k other)) there)
    (cases_eq k n)

-- ---- pages that are touched

pub touched_so : (before now : Bool) → now ≡ (before || true) → now ≡ true
touched_so true now is = is
touched_so false now is = is

pub touched_by : {T : Type 0} (r : Result T Fault) (before now : Bool) → now ≡ (before || is_ok r)
    → OnOk r (now ≡ true)
touched_by (Ok x) before now is = touched_so before now is
touched_by (Err f) before now is = tt

-- a page that is not freed was refused by the device, or is one before the first or past the last
pub untouched_refused : (n next : ℕ) (f : Fault) → (3 ≤ n → n < next → IsOfDevice f)
    → ((n < 3) ⊎ (next ≤ n) → f ≡ fault.Damaged n) → IsOfDevice f ⊎ (f ≡ fault.Damaged n)
untouched_refused n next f inside outside = ⊎_elim
    (λ (low : n < 3). inr (outside (inl low)))
    (λ (high : 3 ≤ n). ⊎_elim
    (λ (below : n < next). inl (inside high below))
    (λ (above : next ≤ n). inr (outside (inr above)))
    (cases_lt n next))
    (cases_lt n 3)

pub not_both : (touched : Bool) → touched ≡ true → touched ≡ false → ⊥
not_both touched was was_not = absurd (cc)
