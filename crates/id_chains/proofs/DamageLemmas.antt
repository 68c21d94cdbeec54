-- The page that is damaged is one that a walk along a chain comes to.
use Rattle.std.proofs.Common.{◌≡◌, ◌∙◌, ◌⊎◌, ℕ, Some, List, [], ◌∷◌, ◌++◌, sym, ap, subst, refl, ⊎_elim, inl}
use Rattle.std.proofs.Common.{inr}
use Rattle.page_file.specs.Fault.{IsOfDevice}
use Rattle.page_file.specs.declared.fault.Fault.{Fault}
use Rattle.page_file.specs.declared.fault.Fault.TheVariants as fault
use Rattle.bucket_page.specs.Layout.{BucketContent}
use Rattle.node_page.specs.Standing.{PageMap}
use Rattle.id_chains.specs.Checked.{ComesAlong, LeadsAlong}
use Rattle.id_chains.specs.Table.{bucket_in}

-- want of memory is a fault of the device's kind
pub damaged_or_memory : (f : Fault) (page : ℕ) → (f ≡ fault.Memory) ⊎ (f ≡ fault.Damaged page)
    → IsOfDevice f ⊎ (f ≡ fault.Damaged page)
damaged_or_memory f page either =
    ⊎_elim (λ (is : f ≡ fault.Memory). inl (inl is)) (λ (is : f ≡ fault.Damaged page). inr is) either

-- a walk goes on to the page that the bucket at its end names
pub leads_on : (dims : ℕ) (m : PageMap) (first : ℕ) (walk : List ℕ) (page next : ℕ) (c : BucketContent)
    → LeadsAlong dims m first walk page → bucket_in dims (m page) ≡ Some c → c.next ≡ next
    → LeadsAlong dims m first (walk ++ next ∷ []) next
leads_on dims m first [] page next c leads there is =
    ((c, ap (λ (n : ℕ). bucket_in dims (m n)) (sym leads) ∙ there, is), refl)
leads_on dims m first (k ∷ walk) page next c leads there is =
    (leads.0, leads_on dims m k walk page next c leads.1 there is)

-- walks are the same where the pages are
leads_so : (dims : ℕ) (old new : PageMap) (page : ℕ) (walk : List ℕ) (n : ℕ) → ((k : ℕ) → new k ≡ old k)
    → LeadsAlong dims new page walk n → LeadsAlong dims old page walk n
leads_so dims old new page [] n same leads = leads
leads_so dims old new page (next ∷ walk) n same leads = (
  (leads.0.0, ap (bucket_in dims) (sym (same page)) ∙ leads.0.1, leads.0.2),
  leads_so dims old new next walk n same leads.1,
)

pub comes_so : (dims : ℕ) (old new : PageMap) (first n : ℕ) → ((k : ℕ) → new k ≡ old k)
    → ComesAlong dims new first n → ComesAlong dims old first n
comes_so dims old new first n same comes =
    (comes.0, comes.1, leads_so dims old new first comes.1 n same comes.2)

-- the walk so far comes to the page that a fault names
pub comes_here : (dims : ℕ) (m : PageMap) (first number n : ℕ) → ¬ (number ≡ 0)
    → (walk : List ℕ) × LeadsAlong dims m first walk number → n ≡ number → ComesAlong dims m first n
comes_here dims m first number n some walk is =
    subst (ComesAlong dims m first) (sym is) (some, walk.0, walk.1)
