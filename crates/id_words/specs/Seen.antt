-- The identifiers that a check has seen.
use Rattle.std.specs.Prelude.{◌≡◌, ℕ, ◌+◌, if◌then◌else◌, ◌==◌}
use Rattle.std.specs.BTreeSet.{BTreeSet, contains}
use Rattle.std.specs.Ordering.{nat_cmp}

-- how often an identifier was seen, by the set of those that were
abbrev pub seen_times : BTreeSet ℕ → ℕ → ℕ
seen_times seen id = if contains nat_cmp seen id then 1 else 0

-- one identifier more was seen
abbrev pub SeesOne : BTreeSet ℕ → BTreeSet ℕ → ℕ → Type 0
SeesOne seen_before seen id = (other : ℕ)
    → seen_times seen other ≡ seen_times seen_before other + (if id == other then 1 else 0)
