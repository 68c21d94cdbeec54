-- A page that a change may name as damaged beside those of its table.
use Rattle.std.specs.Prelude.{ℕ, IsSome}
use Rattle.page_cache.specs.Cache.{IsLive, IsPageMap, given}
use Rattle.page_cache.specs.declared.cache.PageCache.{PageCache}

-- The map of pages is not sound, and the page was given out and is not live: the chain of free pages may
-- break there.
abbrev pub MayBreakAt : {D A : Type 0} {m : _} → PageCache D A m → ℕ → Type 0
MayBreakAt cache n = (¬ (IsPageMap cache)) × IsSome (given cache n) × (¬ (IsLive cache n))
