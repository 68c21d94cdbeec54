-- The requests that go out, and their answers. Our rule, docs/LIBRARY.md, "The streams".
use Rattle.std.specs.Prelude.{◌≡◌, ℕ, ◌==◌, List, Option, [], ◌∷◌, ◌++◌, length, if◌then◌else◌}
use Rattle.std.specs.Int.{from_le_bytes, to_le_bytes, w64}
use Rattle.std.specs.Io.KnownBytes.{Appends, Consumes}
use Rattle.file_device.specs.declared.open.OpenError.{OpenError}
use Rattle.file_device.specs.declared.open.OpenError.TheVariants as error
use Rattle.stream_file.specs.declared.request.FileSide.{FileSide}
use Rattle.stream_file.specs.declared.request.FileSide.TheVariants.{Base, Copy, Journal}
use Rattle.stream_file.specs.declared.request.JournalWish.{JournalWish}
use Rattle.stream_file.specs.declared.request.JournalWish.TheVariants as wish
use Rattle.stream_file.specs.declared.request.LockWish.{LockWish}
use Rattle.stream_file.specs.declared.request.LockWish.TheVariants.{Alone, Share}

-- the number of a file
abbrev pub number_of : FileSide → ℕ
number_of Base = 0
number_of Journal = 1
number_of Copy = 2

-- a letter, the file's number, and a place in it, least byte first
abbrev pub request_bytes : ℕ → FileSide → ℕ → List ℕ
request_bytes letter side at = letter ∷ number_of side ∷ to_le_bytes w64 at

-- the letters: r, w, y and s of a file's blocks, its syncs and its size, o, m, x, c and p of the journal as a file, a
-- and l of the file's lock
abbrev pub read_letter : ℕ
read_letter = 114

abbrev pub write_letter : ℕ
write_letter = 119

abbrev pub sync_letter : ℕ
sync_letter = 121

abbrev pub size_letter : ℕ
size_letter = 115

abbrev pub letter_of : JournalWish → ℕ
letter_of wish.Open = 111
letter_of wish.Make = 109
letter_of wish.Remove = 120
letter_of wish.MakeCopy = 99
letter_of wish.PutCopy = 112

abbrev pub lock_letter_of : LockWish → ℕ
lock_letter_of Alone = 97
lock_letter_of Share = 108

-- Of a call that was answered: these bytes went out, and these were taken of what came in. The last one taken
-- says how it went, and is 0 where it was done.
pub record Exchanges (request answer : List ℕ) (out_old out_new in_old in_new : Option (List ℕ)) : Type 0 where
  pub asked : Appends out_old out_new request
  pub answered : Consumes in_old in_new answer

-- why the journal, or a lock, is refused where the answer is this byte, which is not 0
abbrev pub refusal_of : ℕ → OpenError
refusal_of byte =
    if byte == 2 then error.InUse else if byte == 3 then error.NoLocks else if byte == 4 then error.Memory
    else error.Refused

-- The size of a file was asked for: eight bytes came in, which spell it, least byte first, and then how it
-- went.
abbrev pub TellsSize : FileSide → ℕ → Option (List ℕ) → Option (List ℕ) → Option (List ℕ) → Option (List ℕ)
    → Type 0
TellsSize side size out_old out_new in_old in_new =
    (bytes : List ℕ) × (length bytes ≡ 8) × (size ≡ from_le_bytes w64 bytes)
    × Exchanges (request_bytes size_letter side 0) (bytes ++ 0 ∷ []) out_old out_new in_old in_new
