-- What holds at each turn of the loop of `keep`.
use Rattle.std.proofs.Common.{◌≡◌, ◌+◌, ◌++◌, map, reverse, take}
use Rattle.arrayvec.specs.ArrayVec.{array_vec_len}
use Rattle.reinsert.specs.Placed.{held_with}
use Rattle.condense.specs.Taken.{held_now}
use Rattle.condense.proofs.kept.Orphans.keep.Given as goal

-- the last entries so far are kept
abbrev pub invariant-loop-passed : goal.invariant-loop-passed
invariant-loop-passed g l =
    (held_now l.self ≡ held_now l.fn.self
    ++ take l.passed (reverse (map (held_with l.level) l.entries.items)))
    × (array_vec_len l.self.list ≡ array_vec_len l.fn.self.list + l.passed)
