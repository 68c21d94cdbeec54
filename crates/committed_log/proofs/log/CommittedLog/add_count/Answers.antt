-- A count behind the flag behind the regions.
use Rattle.std.proofs.Common.{◌≡◌, ◌∙◌, ap, arith, false, length, sym}
use Rattle.block_device.specs.Device.{Blocks, block_at}
use Rattle.device_pair.specs.Pairs.{PairLeaves}
use Rattle.committed_log.specs.Committed.{behind_of, leaves_of, seen_of, IsHonest}
use Rattle.committed_log.specs.Log.{recovered, says}
use Rattle.committed_log.proofs.Adding.{added_seen, count_leaves, count_says, on_fine, two_blocks}
use Rattle.committed_log.proofs.Keeping.{behind_still, leaves_call, leaves_still, leaves_then, seen_still}
use Rattle.committed_log.proofs.Stood.{on_ok}
use Rattle.committed_log.proofs.Appending.{appends_still, appends_then}
use Rattle.committed_log.proofs.log.CommittedLog.add_count.Given as given
use Rattle.committed_log.proofs.log.CommittedLog.add_count.Goals as goal
use Rattle.committed_log.proofs.log.CommittedLog.add_count.Goals.{After-write_behind}

one_so : (g : given.Over) (c : After-write_behind g) → length (behind_of c.args.self.now) ≡ 1
one_so g c = omega arith

unsaid_so : (g : given.Over) (c : After-write_behind g) → IsHonest c.args.self.now
    → says (block_at 0 (behind_of c.write_behind.new.self)) ≡ false
unsaid_so g c h =
    count_says c.write_behind.result c.zero_block.result (behind_of c.args.self.now)
    (behind_of c.write_behind.new.self) (omega (arith, one_so g c)) (c.requires.unsaid h)
    (c.write_behind.ensures.written h) (c.write_behind.ensures.torn h)

leaves_so : (g : given.Over) (c : After-write_behind g) → IsHonest c.args.self.now
    → (v j : Blocks) → leaves_of c.write_behind.new.self v j → recovered v j ≡ seen_of c.args.self.now
leaves_so g c h =
    let d = c.args.self.now in
    count_leaves (seen_of d) (behind_of d) (leaves_of d) (leaves_of c.write_behind.new.self)
    (omega (arith, one_so g c)) (c.requires.unsaid h) (c.requires.durable h) (c.write_behind.ensures.stops h)

stops_so : (g : given.Over) (c : After-write_behind g) → IsHonest c.args.self.now
    → PairLeaves g.P.DevicePair.moment g.P.DevicePair.left_since c.args.self.now.pair
    c.write_behind.new.self.pair (λ a b. recovered a b ≡ seen_of c.args.self.now)
stops_so g c h =
    let e = c.write_behind.new.self in
    leaves_call c.args.self.now.pair e (seen_of c.args.self.now) (g.met.P.DevicePair.few_blocks e.pair).0
    (c.write_behind.ensures.honest.0 h) (c.write_behind.ensures.time h) (leaves_so g c h)

pub returns-in_err-write_behind-clause-unsaid : goal.returns-in_err-write_behind-clause-unsaid
returns-in_err-write_behind-clause-unsaid g c = λ h.
    unsaid_so g (goal.at.returns-in_err-write_behind-clause-unsaid g c).After-write_behind h

pub returns-in_err-write_behind-clause-stops : goal.returns-in_err-write_behind-clause-stops
returns-in_err-write_behind-clause-stops g c = λ h.
    stops_so g (goal.at.returns-in_err-write_behind-clause-stops g c).After-write_behind h

pub returns-clause-seen : goal.returns-clause-seen
returns-clause-seen g c = λ h.
    seen_still c.write_behind.new.self c.sync_journal.new.self
    (c.sync_journal.ensures.still (c.write_behind.ensures.honest.0 h))
    ∙ c.write_behind.ensures.seen h

pub returns-clause-base : goal.returns-clause-base
returns-clause-base g c = λ h.
    (c.sync_journal.ensures.still (c.write_behind.ensures.honest.0 h)).base ∙ c.write_behind.ensures.base h

pub returns-clause-unsaid : goal.returns-clause-unsaid
returns-clause-unsaid g c = λ h.
    let m = c.write_behind.new.self in let e = c.sync_journal.new.self in
    ap (λ (b : Blocks). says (block_at 0 b))
    (behind_still m e (c.sync_journal.ensures.still (c.write_behind.ensures.honest.0 h)))
    ∙ unsaid_so g (goal.at.returns-clause-unsaid g c).After-write_behind h

pub returns-clause-room : goal.returns-clause-room
returns-clause-room g c = λ h.
    let d = c.args.self.now in let m = c.write_behind.new.self in let e = c.sync_journal.new.self in
    let still = c.sync_journal.ensures.still (c.write_behind.ensures.honest.0 h) in
    on_fine c.sync_journal.result _
    (omega (
      arith,
      ap length (behind_still m e still),
      two_blocks c.zero_block.result (behind_of d) (behind_of m)
          (one_so g (goal.at.returns-clause-room g c).After-write_behind)
          (c.in_ok-write_behind.ensures.written h),
    ))

pub returns-clause-durable : goal.returns-clause-durable
returns-clause-durable g c = λ h.
    let d = c.args.self.now in let m = c.write_behind.new.self in let e = c.sync_journal.new.self in
    let h1 = c.write_behind.ensures.honest.0 h in
    let still = c.sync_journal.ensures.still h1 in
    on_ok c.sync_journal.result _ _
    (λ (is : (v j : Blocks) → leaves_of e v j → j ≡ behind_of m). λ v j l. (
      added_seen 1 (seen_of d) (behind_of d) (leaves_of d) (leaves_of m) (c.requires.durable h)
          (c.write_behind.ensures.stops h) v j (leaves_still m e still v j l)
          ∙ sym (c.write_behind.ensures.seen h) ∙ sym (seen_still m e still),
      is v j l ∙ sym (behind_still m e still),
    ))
    (c.sync_journal.ensures.durable h1)

pub returns-clause-stops : goal.returns-clause-stops
returns-clause-stops g c = λ h.
    let d = c.args.self.now in let m = c.write_behind.new.self in let e = c.sync_journal.new.self in
    let at = (goal.at.returns-clause-stops g c).After-write_behind in
    let h1 = c.write_behind.ensures.honest.0 h in
    let still = c.sync_journal.ensures.still h1 in
    leaves_then d m e (c.write_behind.ensures.seen h) (stops_so g at h)
    (leaves_call m.pair e (seen_of m) (g.met.P.DevicePair.few_blocks e.pair).0
    (c.sync_journal.ensures.honest.0 h1) still.time
    (λ v j l. leaves_so g at h v j (leaves_still m e still v j l) ∙ sym (c.write_behind.ensures.seen h)))

pub returns-in_err-write_behind-clause-appends : goal.returns-in_err-write_behind-clause-appends
returns-in_err-write_behind-clause-appends g c = λ h.
    c.write_behind.ensures.appends h
    (sym (one_so g (goal.at.returns-in_err-write_behind-clause-appends g c).After-write_behind))

pub returns-clause-appends : goal.returns-clause-appends
returns-clause-appends g c = λ h.
    let d = c.args.self.now in let m = c.write_behind.new.self in
    appends_then d m c.sync_journal.new.self
    (c.write_behind.ensures.appends h
    (sym (one_so g (goal.at.returns-clause-appends g c).After-write_behind)))
    (appends_still m c.sync_journal.new.self (c.sync_journal.ensures.still (c.write_behind.ensures.honest.0 h)))
