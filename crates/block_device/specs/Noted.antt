-- An event of a device in memory as numbers and bytes, the form in which its ghost record notes it.
use Rattle.std.specs.Prelude.{ℕ, List}

abbrev pub Note : Type 0
Note = List ℕ × List ℕ

abbrev pub note_of : List ℕ → List ℕ → Note
note_of numbers bytes = (numbers, bytes)
