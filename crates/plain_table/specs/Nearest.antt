-- How many nearest objects may be asked for. Our rule, docs/COMMANDS.md.
use Rattle.std.specs.Prelude.{ℕ, Bool, ◌&&◌, nat_le}

-- 1 to 1,000,000
abbrev pub is_count : ℕ → Bool
is_count k = nat_le 1 k && nat_le k 1000000
