-- The identifiers that a check has seen.
use Rattle.std.proofs.Common.{◌≡◌, ℕ, ◌≤◌, Bool, true, false, cond, List, [], ap, arith}
use Rattle.std.specs.BTreeSet.{BTreeSet, contains}
use Rattle.std.specs.Ordering.{nat_cmp}
use Rattle.id_words.specs.Seen.{seen_times}

pub seen_once : (seen : BTreeSet ℕ) (id : ℕ) → seen_times seen id ≤ 1
seen_once seen id = at_most (contains nat_cmp seen id)
  where
    at_most : (b : Bool) → cond b 1 0 ≤ 1
    at_most true = omega arith
    at_most false = omega arith

pub none_seen : (seen : BTreeSet ℕ) (id : ℕ) → seen.keys ≡ [] → seen_times seen id ≡ 0
none_seen seen id none = ap (λ (keys : List ℕ). seen_times (record { keys = keys }) id) none
