-- What a `LineReader` holds, what it finds, and how much it may still do.
use Rattle.std.specs.Prelude.{ℕ, ◌≡◌, ◌<◌, ◌≤◌, ◌-◌, ◌+◌, ◌*◌, List, [], ◌∷◌, ◌++◌, length, take, drop}
use Rattle.command_language.specs.Lines.{newline, IsOneLine}
use Rattle.command_language.specs.Meanings.{longest_line}
use Rattle.command_language.specs.Reading.{buffer_size, most_calls, BeginsLine}
use Rattle.command_language.specs.declared.lines.LineReader.{LineReader}
use Rattle.command_language.specs.declared.lines.Found.{Found}
use Rattle.command_language.specs.declared.lines.Found.TheVariants.{Line, Last, TooLong, LastTooLong, End}

-- the bytes that were read and not taken
abbrev pub pending : LineReader → List ℕ
pending r = take (r.«end» - r.start) (drop r.start r.buffer)

-- a bound on the bytes that may be taken and the calls that may be made, each of which gives at most a buffer
-- of bytes
abbrev pub work_left : LineReader → ℕ
work_left r = (r.«end» - r.start) + (buffer_size + 1) * (most_calls - r.calls)

-- how much of it finding a line takes
abbrev pub work_done : Found → ℕ
work_done (Line n) = 0
work_done (Last n) = 0
work_done TooLong = 1
work_done LastTooLong = 1
work_done End = 0

-- what was found at the front of these bytes, and which of them are left; `at_end` says that the reader has
-- no more
abbrev pub Finds : Type 0 → Found → List ℕ → List ℕ → Type 0
Finds at_end (Line n) bytes left = (left ≡ bytes) × BeginsLine bytes n
Finds at_end (Last n) bytes left = (left ≡ bytes) × (n ≡ length bytes) × (0 < n) × IsOneLine bytes × at_end
Finds at_end TooLong bytes left = (line : List ℕ) × (longest_line < length line) × IsOneLine line
    × (bytes ≡ line ++ newline ∷ left)
Finds at_end LastTooLong bytes left = (longest_line < length bytes) × IsOneLine bytes × (left ≡ []) × at_end
Finds at_end End bytes left = (left ≡ []) × (bytes ≡ []) × at_end

-- no more calls are counted here than the reader tells
abbrev pub AreCounted : LineReader → ℕ → Type 0
AreCounted r calls = r.calls ≤ calls
