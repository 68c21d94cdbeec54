-- The lines of a text, and the words of a line. Our rule, docs/COMMANDS.md.
use Rattle.std.specs.Prelude.{ℕ, ◌≢◌, Bool, false, not, ◌||◌, ◌==◌, List, [], ◌∷◌, ◌++◌, if◌then◌else◌}
use Rattle.std.specs.List.{AllByRecursion}

-- the byte that ends a line
abbrev pub newline : ℕ
newline = 10

-- a byte put before the first piece of a text that was cut, or alone where there is none
abbrev pub onto_first : ℕ → List (List ℕ) → List (List ℕ)
onto_first b [] = (b ∷ []) ∷ []
onto_first b (piece ∷ pieces) = (b ∷ piece) ∷ pieces

-- the lines of a text, without their newlines; what stands after the last newline is a line unless it is
-- empty
abbrev pub lines_of : List ℕ → List (List ℕ)
lines_of [] = []
lines_of (b ∷ bs) = if b == newline then [] ∷ lines_of bs else onto_first b (lines_of bs)

-- no newline stands in these bytes
abbrev pub IsOneLine : List ℕ → Type 0
IsOneLine bytes = AllByRecursion (λ b. b ≢ newline) bytes

-- a text of whole lines: it is empty, or it ends with a newline
pub data IsWhole : List ℕ → Type 0 where
  none : IsWhole []
  ends : (line : List ℕ) → IsWhole (line ++ newline ∷ [])

-- a blank is a space, a tab or a carriage return
abbrev pub is_blank : ℕ → Bool
is_blank b = b == 32 || (b == 9 || b == 13)

-- whether the first byte of a text is one of a word
abbrev pub begins_word : List ℕ → Bool
begins_word [] = false
begins_word (b ∷ bs) = not (is_blank b)

-- the words of a line: its longest pieces without blanks
abbrev pub words_of : List ℕ → List (List ℕ)
words_of [] = []
words_of (b ∷ bs) =
    if is_blank b then words_of bs
    else if begins_word bs then onto_first b (words_of bs)
    else (b ∷ []) ∷ words_of bs
