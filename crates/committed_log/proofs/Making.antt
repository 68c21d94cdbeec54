-- The flag of an empty journal, made: at no moment is a region committed.
use Rattle.std.proofs.Common.{◌≡◌, ◌∙◌, ℕ, ◌<◌, ◌≤◌, false, List, length, Ok, Err, OnOk, OnErr, ap, arith}
use Rattle.block_device.specs.Device.{Blocks, Torn, block_at, written}
use Rattle.block_device.specs.Written.{block_at-written, length-written_behind, torn_length}
use Rattle.device_pair.specs.Pairs.{JournalFollows, PairElapses, PairLeaves}
use Rattle.device_pair.specs.Runs.{pair_call}
use Rattle.committed_log.specs.FlagLaws.{says-none}
use Rattle.committed_log.specs.Log.{flag_block, recovered, says}
use Rattle.committed_log.specs.Opening.{AreSynced}
use Rattle.committed_log.specs.Regions.{recovered_short}
use Rattle.committed_log.proofs.Stood.{Answer}

pub one_answer : (r : Answer) (x : List ℕ) (old new : Blocks) → length old ≡ 0
    → OnOk r (new ≡ written 0 x old) → OnErr r (Torn 0 old new) → length new ≤ 1
one_answer (Ok u) x old new none w t =
    omega (arith, none, ap length w, length-written_behind 0 x old (omega (arith, none)))
one_answer (Err e) x old new none w t = omega (arith, none, torn_length 0 old new t)

pub one_there : (x : List ℕ) (old new : Blocks) → length old ≡ 0 → new ≡ written 0 x old → 0 < length new
one_there x old new none w =
    omega (arith, none, ap length w, length-written_behind 0 x old (omega (arith, none)))

pub made_unsaid : (x : List ℕ) (old new : Blocks) → x ≡ flag_block 0 → new ≡ written 0 x old
    → says (block_at 0 new) ≡ false
made_unsaid x old new is w =
    ap says (ap (block_at 0) w ∙ block_at-written 0 x old (omega arith) ∙ is) ∙ says-none

pub recovered_as : (base base' journal journal' : Blocks) → base' ≡ base → journal' ≡ journal
    → recovered base' journal' ≡ recovered base journal
recovered_as base base' journal journal' b j =
    ap (λ (x : Blocks). recovered x journal') b ∙ ap (recovered base) j

module _ {D : Type 0} (moment : D → ℕ) (left_since : D → ℕ → Blocks → Blocks → Type 0)
    (may_leave : D → Blocks → Blocks → Type 0) (base journal : Blocks) (old mid : D)
    (none : length journal ≡ 0) (synced : AreSynced base journal (may_leave old))
    (follows : JournalFollows (Torn 0) (may_leave old) (may_leave mid))
    (time : PairElapses (moment old) (moment mid) (left_since old) (left_since mid) (may_leave mid)) where
  pub made_base : (a b : Blocks) → may_leave mid a b → a ≡ base
  made_base a b left = let from = follows a b left in (synced a from.0 from.1).0

  pub made_now : (a b : Blocks) → may_leave mid a b → recovered a b ≡ base
  made_now a b left =
      let from = follows a b left in
      recovered_short a b
      (omega (arith, none, ap length (synced a from.0 from.1).1, torn_length 0 from.0 b from.2))
      ∙ made_base a b left

  pub made_stops : PairLeaves moment left_since old mid (λ a b. recovered a b ≡ base)
  made_stops =
      pair_call moment left_since old mid (λ a b. recovered a b ≡ base) (may_leave mid) time made_now
