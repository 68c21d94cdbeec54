-- Which pages stay held when one is used: the least recently used one goes, and only where there is no room.
use Rattle.std.specs.Prelude.{◌≡◌, ◌⊎◌, ◌-◌, ℕ, List, ◌∷◌, take, not, nat_eq, Result, OnOk, OnErr}
use Rattle.std.specs.List.{filter}
use Rattle.page_cache.specs.Cache.{capacity_of, held_pages}
use Rattle.page_cache.specs.declared.cache.PageCache.{PageCache}

-- Page n is used: it is the one used last, and of the others, in their order, as many stay as there is room
-- for.
abbrev pub used : ℕ → ℕ → List ℕ → List ℕ
used capacity n held = take capacity (n ∷ filter (λ k. not (nat_eq n k)) held)

-- room for one more is made: the page that was used least goes, where there is none
abbrev pub with_room : ℕ → List ℕ → List ℕ
with_room capacity held = take (capacity - 1) held

-- A call used page n, or was refused when it had made room for it, or earlier.
pub record Uses {D A : Type 0} {m : _} {T E : Type 0} (old new : PageCache D A m) (n : ℕ)
    (result : Result T E) : Type 0 where
  pub used : OnOk result (held_pages new ≡ used (capacity_of old) n (held_pages old))
  pub refused : OnErr result ((held_pages new ≡ held_pages old)
      ⊎ (held_pages new ≡ with_room (capacity_of old) (held_pages old)))

-- A page was asked for and refused: none went, or the one used least, to make room for it, or it was used like any
-- other, and what it spells was refused.
abbrev pub IsRefusedUse : ℕ → ℕ → List ℕ → List ℕ → Type 0
IsRefusedUse capacity n old new = (new ≡ old) ⊎ (new ≡ with_room capacity old) ⊎ (new ≡ used capacity n old)
