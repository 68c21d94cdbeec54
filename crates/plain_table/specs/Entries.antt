-- Where a key stands in a list of entries in the order of their keys.
use Rattle.std.specs.Prelude.{ℕ, ◌≡◌, ◌<◌, ◌≤◌, List, length, slice_index_or, Some, None, Result, MatchResult}
use Rattle.std.specs.Prelude.{slice_set}
use Rattle.std.specs.List.{insert}
use Rattle.std.specs.FinMap.{find, put}
use Rattle.std.specs.declared.cmp.Ordering.{Ordering}

-- the entry at this place has the key: it is what is found, and a new value for the key goes there
pub record IsEntryAt {K X : Type 0} (R : K → K → Ordering) (es : List (K × X)) (k : K) (i : ℕ) : Type 0 where
  pub within : i < length es
  pub found : (d : K × X) → find R k es ≡ Some (slice_index_or es i d).1
  pub replaced : (v : X) (d : K × X) → put R k v es ≡ slice_set es i ((slice_index_or es i d).0, v)

-- no entry has the key, and a new one with it goes to this place
pub record BelongsAt {K X : Type 0} (R : K → K → Ordering) (es : List (K × X)) (k : K) (i : ℕ) : Type 0 where
  pub within : i ≤ length es
  pub absent : find R k es ≡ None
  pub inserted : (v : X) → put R k v es ≡ insert es i (k, v)

-- what a search for the key answers: where it stands, or else where it belongs
abbrev pub IsSearched : {K X : Type 0} → (K → K → Ordering) → List (K × X) → K → Result ℕ ℕ → Type 0
IsSearched R es k r = MatchResult r (IsEntryAt R es k) (BelongsAt R es k)
