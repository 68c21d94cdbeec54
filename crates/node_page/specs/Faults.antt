-- What may end a change of trees (our rule, docs/FORMAT.md, "Trees of pages").
use Rattle.std.specs.Prelude.{◌≡◌, ◌⊎◌, ℕ, ◌<◌, ◌≤◌, ◌^◌}
use Rattle.page_file.specs.Fault.{IsDamage, IsOfDevice}
use Rattle.page_file.specs.declared.fault.Fault.{Fault}
use Rattle.page_file.specs.declared.fault.Fault.TheVariants as fault
use Rattle.page_cache.specs.Cache.{IsFull}
use Rattle.page_cache.specs.declared.cache.PageCache.{PageCache}

-- memory or the device, or each page number is live: no page is damaged
abbrev pub IsNoDamage : {D A : Type 0} {m : _} → PageCache D A m → Fault → Type 0
IsNoDamage cache f = IsOfDevice f ⊎ ((f ≡ fault.NoPages) × IsFull cache)

-- and in any pages: memory or the device, each page number is live, or a damaged page
abbrev pub IsChangeFault : {D A : Type 0} {m : _} → PageCache D A m → Fault → Type 0
IsChangeFault cache f = IsOfDevice f ⊎ (((f ≡ fault.NoPages) × IsFull cache) ⊎ IsDamage f)

-- a page that is named as damaged has a number that a node can refer to
abbrev pub NamesInRange : Fault → Type 0
NamesInRange f = (n : ℕ) → f ≡ fault.Damaged n → (3 ≤ n) × (n < 2 ^ 31)
