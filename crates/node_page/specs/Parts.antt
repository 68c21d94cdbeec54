-- Parts of the live pages, and what a change of one part leaves of the others (our rule, docs/FORMAT.md,
-- "Trees of pages").
use Rattle.std.specs.Prelude.{◌≡◌, ℕ, ◌+◌, ◌<◌, ◌≤◌, None, IsSome, if◌then◌else◌, ◌==◌}
use Rattle.page_file.specs.Pages.{SameBut}
use Rattle.node_page.specs.Standing.{PageMap}

-- A part of the pages: how often it has the page of each number. Two parts together have the sum.
abbrev pub Part : Type 0
Part = ℕ → ℕ

-- no page, and one
abbrev pub no_page : Part
no_page n = 0

abbrev pub one_page : ℕ → Part
one_page page n = if page == n then 1 else 0

-- two parts together
abbrev pub both : Part → Part → Part
both a b n = a n + b n

-- the live pages are those of the part, each once
pub record IsAllOf (pages : PageMap) (part : Part) : Type 0 where
  pub once : (n : ℕ) → part n ≤ 1
  pub live : (n : ℕ) → 0 < part n → IsSome (pages n)
  pub used : (n : ℕ) → IsSome (pages n) → 0 < part n

-- One part became another: a page of neither stays; one that came was not live, and one that went is no
-- longer live; those of the new part are live, and none is in it twice.
pub record Moves (old new : PageMap) (was now : Part) : Type 0 where
  pub outside : (n : ℕ) → was n ≡ 0 → now n ≡ 0 → new n ≡ old n
  pub came : (n : ℕ) → was n ≡ 0 → 0 < now n → old n ≡ None
  pub went : (n : ℕ) → 0 < was n → now n ≡ 0 → new n ≡ None
  pub live : (n : ℕ) → 0 < now n → IsSome (new n)
  pub once : (n : ℕ) → now n ≤ 1

-- ---- laws

-- a page given out, written or freed is such a change
abbrev pub OnePageMoves : Type 0
OnePageMoves = (old new : PageMap) (page : ℕ) → SameBut page old new
    → (old page ≡ None → IsSome (new page) → Moves old new no_page (one_page page))
    × (IsSome (new page) → Moves old new (one_page page) (one_page page))
    × (new page ≡ None → Moves old new (one_page page) no_page)

-- a part that stays as it is, of live pages, each once
abbrev pub StayingMoves : Type 0
StayingMoves = (old new : PageMap) (part : Part) → ((n : ℕ) → new n ≡ old n) → ((n : ℕ) → part n ≤ 1)
    → ((n : ℕ) → 0 < part n → IsSome (old n)) → Moves old new part part

-- one change after another is a change
abbrev pub MovesInTurn : Type 0
MovesInTurn = (old mid new : PageMap) (a b c : Part) → Moves old mid a b → Moves mid new b c
    → Moves old new a c

-- live pages beside those of a change may be counted with them
abbrev pub MovesBeside : Type 0
MovesBeside = (old new : PageMap) (was now rest : Part) → Moves old new was now
    → ((n : ℕ) → 0 < rest n → IsSome (old n)) → ((n : ℕ) → both was rest n ≤ 1)
    → Moves old new (both was rest) (both now rest)

-- and they stay, of which none came in
abbrev pub TheRestStays : Type 0
TheRestStays = (old new : PageMap) (was now rest : Part) → Moves old new was now
    → ((n : ℕ) → 0 < rest n → IsSome (old n)) → ((n : ℕ) → both was rest n ≤ 1)
    → (n : ℕ) → 0 < rest n → (new n ≡ old n) × (now n ≡ 0)

-- where all live pages are those of the part and of a rest, they are afterwards those of the new part and of
-- the rest
abbrev pub AllPagesMove : Type 0
AllPagesMove = (old new : PageMap) (was now rest : Part) → IsAllOf old (both was rest)
    → Moves old new was now → IsAllOf new (both now rest)
