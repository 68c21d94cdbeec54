-- The numbers by which the system names open files.
use Rattle.std.specs.Prelude.{ℤ, pos, ◌≤ℤ◌}

-- none of the three standard streams'
abbrev pub IsOwnNumber : ℤ → Type 0
IsOwnNumber n = pos 3 ≤ℤ n
