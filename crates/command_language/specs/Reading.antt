-- What a reader gave, where its bytes are known, and the text that was taken of it.
use Rattle.std.specs.Prelude.{ℕ, ◌≡◌, ◌⊎◌, ◌^◌, ◌<◌, ◌≤◌, Bool, true, false, List, [], ◌∷◌, ◌++◌, length, take, drop}
use Rattle.std.specs.Prelude.{suc, Option}
use Rattle.std.specs.Io.KnownBytes.{Consumes, IsAtEnd}
use Rattle.command_language.specs.Lines.{newline, IsOneLine, IsWhole}

-- how many bytes the buffer holds
abbrev pub buffer_size : ℕ
buffer_size = 65536

-- how many read calls are made at most
abbrev pub most_calls : ℕ
most_calls = 2 ^ 62

-- these bytes begin with n that have no newline, and then one
pub record BeginsLine (bytes : List ℕ) (n : ℕ) : Type 0 where
  pub within : n < length bytes
  pub line : IsOneLine (take n bytes)
  pub ends : drop n bytes ≡ newline ∷ drop (suc n) bytes

-- the reader gave some bytes of those that it had, of which P holds
pub record ReadsTo (old new : Option (List ℕ)) (P : List ℕ → Type 0) : Type 0 where
  pub more : List ℕ
  pub read : Consumes old new more
  pub so : P more

-- where the text that was taken stops: after a newline, or, where it has ended, at the end of all that the
-- reader had
abbrev pub StopsAt : Bool → Type 0 → List ℕ → List ℕ → Type 0
StopsAt false at_end text left = IsWhole text
StopsAt true at_end text left = (left ≡ []) × at_end

-- From bytes that were pending, and what the reader gave after them, this text was taken, and some bytes are
-- left.
pub record Reads (ended : Bool) (old new : Option (List ℕ)) (pending left text : List ℕ) : Type 0 where
  pub stops : StopsAt ended (IsAtEnd new) text left
  pub read : ReadsTo old new (λ more. pending ++ more ≡ text ++ left)

-- the last read of a reader failed, or it was called so often
abbrev pub IsReadersFault : Bool → ℕ → Type 0
IsReadersFault is_failing calls = (is_failing ≡ true) ⊎ (most_calls ≤ calls)
