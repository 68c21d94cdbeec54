-- A flag behind the region behind the others.
use Rattle.std.proofs.Common.{◌≡◌, ◌∙◌, ap, arith, inr, length, sym, take}
use Rattle.block_device.specs.Device.{Blocks, block_at}
use Rattle.device_pair.specs.Pairs.{PairLeaves}
use Rattle.committed_log.specs.Committed.{base_of, behind_of, journal_of, leaves_of, seen_of, IsHonest}
use Rattle.committed_log.specs.Log.{recovered, says}
use Rattle.committed_log.proofs.Adding.{added_first, added_leaves, added_recovers, added_seen, on_fine}
use Rattle.committed_log.proofs.Keeping.{behind_still, leaves_call, leaves_still, seen_still}
use Rattle.committed_log.proofs.Opened.{flag_added, longer_by}
use Rattle.committed_log.proofs.Reading.{back_as, back_then, reads_back}
use Rattle.committed_log.proofs.Stood.{on_ok}
use Rattle.committed_log.proofs.Appending.{appends_still, appends_then}
use Rattle.committed_log.proofs.log.CommittedLog.add_flag.Given as given
use Rattle.committed_log.proofs.log.CommittedLog.add_flag.Goals as goal
use Rattle.committed_log.proofs.log.CommittedLog.add_flag.Goals.{After-write_behind}

last_so : (g : given.Over) (c : After-write_behind g) → c.args.size ≡ length (behind_of c.args.self.now)
last_so g c =
    omega (arith, c.if-size-blocks.false, c.if-size-blocks-2.false, c.behind_blocks-blocks.ensures.is)

recovers_so : (g : given.Over) (c : After-write_behind g) → IsHonest c.args.self.now
    → recovered (seen_of c.write_behind.new.self) (behind_of c.write_behind.new.self)
    ≡ recovered (seen_of c.args.self.now) (behind_of c.args.self.now)
recovers_so g c h =
    let d = c.args.self.now in let e = c.write_behind.new.self in
    ap (λ (x : Blocks). recovered x (behind_of e)) (c.write_behind.ensures.seen h)
    ∙ added_recovers c.write_behind.result c.args.size c.flag_page.result (seen_of d) (behind_of d)
    (behind_of e) (c.requires.size h) (last_so g c) (c.write_behind.ensures.written h)
    (c.write_behind.ensures.torn h)

first_so : (g : given.Over) (c : After-write_behind g) → IsHonest c.args.self.now
    → take c.args.size (behind_of c.write_behind.new.self) ≡ take c.args.size (behind_of c.args.self.now)
first_so g c h =
    added_first c.write_behind.result c.args.size c.flag_page.result (behind_of c.args.self.now)
    (behind_of c.write_behind.new.self) (last_so g c) (c.write_behind.ensures.written h)
    (c.write_behind.ensures.torn h)

-- what a stop leaves then is recovered to the same
leaves_so : (g : given.Over) (c : After-write_behind g) → IsHonest c.args.self.now
    → (v j : Blocks) → leaves_of c.write_behind.new.self v j
    → recovered v j ≡ recovered (seen_of c.args.self.now) (behind_of c.args.self.now)
leaves_so g c h =
    let d = c.args.self.now in
    added_leaves c.args.size (seen_of d) (behind_of d) (leaves_of d) (leaves_of c.write_behind.new.self)
    (c.requires.size h) (last_so g c) (c.requires.durable h) (c.write_behind.ensures.stops h)

back_so : (g : given.Over) (c : After-write_behind g) → IsHonest c.args.self.now
    → recovered (seen_of c.args.self.now) (behind_of c.args.self.now)
    ≡ recovered (base_of c.args.self.now) (journal_of c.args.self.now)
back_so g c h =
    let d = c.args.self.now in
    sym (reads_back d (g.met.P.DevicePair.few_blocks d.pair).0 h (g.met.P.DevicePair.shown_counts d.pair h))

stops_so : (g : given.Over) (c : After-write_behind g) → IsHonest c.args.self.now
    → PairLeaves g.P.DevicePair.moment g.P.DevicePair.left_since c.args.self.now.pair
    c.write_behind.new.self.pair
    (λ a b. recovered a b ≡ recovered (base_of c.args.self.now) (journal_of c.args.self.now))
stops_so g c h =
    let d = c.args.self.now in let e = c.write_behind.new.self in
    back_as g.P.DevicePair.moment g.P.DevicePair.left_since d.pair e.pair (recovered (base_of d) (journal_of d)) (recovered (seen_of d) (behind_of d))
    (back_so g c h)
    (leaves_call d.pair e (recovered (seen_of d) (behind_of d)) (g.met.P.DevicePair.few_blocks e.pair).0
    (c.write_behind.ensures.honest.0 h) (c.write_behind.ensures.time h) (leaves_so g c h))

pub returns-in_err-write_behind-clause-region : goal.returns-in_err-write_behind-clause-region
returns-in_err-write_behind-clause-region g c = λ h.
    first_so g (goal.at.returns-in_err-write_behind-clause-region g c).After-write_behind h

pub returns-in_err-write_behind-clause-same : goal.returns-in_err-write_behind-clause-same
returns-in_err-write_behind-clause-same g c = λ h.
    recovers_so g (goal.at.returns-in_err-write_behind-clause-same g c).After-write_behind h

pub returns-in_err-write_behind-clause-stops : goal.returns-in_err-write_behind-clause-stops
returns-in_err-write_behind-clause-stops g c = λ h.
    stops_so g (goal.at.returns-in_err-write_behind-clause-stops g c).After-write_behind h

pub returns-clause-seen : goal.returns-clause-seen
returns-clause-seen g c = λ h.
    seen_still c.write_behind.new.self c.sync_journal.new.self
    (c.sync_journal.ensures.still (c.write_behind.ensures.honest.0 h))
    ∙ c.write_behind.ensures.seen h

pub returns-clause-base : goal.returns-clause-base
returns-clause-base g c = λ h.
    (c.sync_journal.ensures.still (c.write_behind.ensures.honest.0 h)).base ∙ c.write_behind.ensures.base h

pub returns-clause-region : goal.returns-clause-region
returns-clause-region g c = λ h.
    ap (take c.args.size)
    (behind_still c.write_behind.new.self c.sync_journal.new.self
    (c.sync_journal.ensures.still (c.write_behind.ensures.honest.0 h)))
    ∙ first_so g (goal.at.returns-clause-region g c).After-write_behind h

pub returns-clause-there : goal.returns-clause-there
returns-clause-there g c = λ h.
    let d = c.args.self.now in let m = c.write_behind.new.self in let e = c.sync_journal.new.self in
    let still = c.sync_journal.ensures.still (c.write_behind.ensures.honest.0 h) in
    on_fine c.sync_journal.result _
    (omega (
      arith,
      ap length (behind_still m e still),
      longer_by c.args.size c.flag_page.result (behind_of d) (behind_of m)
          (last_so g (goal.at.returns-clause-there g c).After-write_behind)
          (c.in_ok-write_behind.ensures.written h),
    ))

pub returns-clause-flag : goal.returns-clause-flag
returns-clause-flag g c = λ h.
    let d = c.args.self.now in let m = c.write_behind.new.self in let e = c.sync_journal.new.self in
    let still = c.sync_journal.ensures.still (c.write_behind.ensures.honest.0 h) in
    on_fine c.sync_journal.result _
    (inr (ap (λ (b : Blocks). says (block_at c.args.size b)) (behind_still m e still)
    ∙ flag_added c.args.size c.flag_page.result (behind_of d) (behind_of m)
    (last_so g (goal.at.returns-clause-flag g c).After-write_behind) c.flag_page.ensures
    (c.in_ok-write_behind.ensures.written h)))

pub returns-clause-same : goal.returns-clause-same
returns-clause-same g c = λ h.
    let m = c.write_behind.new.self in let e = c.sync_journal.new.self in
    let still = c.sync_journal.ensures.still (c.write_behind.ensures.honest.0 h) in
    ap (λ (x : Blocks). recovered x (behind_of e)) (seen_still m e still)
    ∙ ap (recovered (seen_of m)) (behind_still m e still)
    ∙ recovers_so g (goal.at.returns-clause-same g c).After-write_behind h

pub returns-clause-durable : goal.returns-clause-durable
returns-clause-durable g c = λ h.
    let d = c.args.self.now in let m = c.write_behind.new.self in let e = c.sync_journal.new.self in
    let h1 = c.write_behind.ensures.honest.0 h in
    let still = c.sync_journal.ensures.still h1 in
    on_ok c.sync_journal.result _ _
    (λ (is : (v j : Blocks) → leaves_of e v j → j ≡ behind_of m). λ v j l. (
      added_seen c.args.size (seen_of d) (behind_of d) (leaves_of d) (leaves_of m) (c.requires.durable h)
          (c.write_behind.ensures.stops h) v j (leaves_still m e still v j l)
          ∙ sym (c.write_behind.ensures.seen h) ∙ sym (seen_still m e still),
      is v j l ∙ sym (behind_still m e still),
    ))
    (c.sync_journal.ensures.durable h1)

pub returns-clause-stops : goal.returns-clause-stops
returns-clause-stops g c = λ h.
    let d = c.args.self.now in let m = c.write_behind.new.self in let e = c.sync_journal.new.self in
    let at = (goal.at.returns-clause-stops g c).After-write_behind in
    let h1 = c.write_behind.ensures.honest.0 h in
    let still = c.sync_journal.ensures.still h1 in
    back_then g.P.DevicePair.moment g.P.DevicePair.left_since d.pair m.pair e.pair (recovered (base_of d) (journal_of d))
    (recovered (seen_of d) (behind_of d)) (back_so g at h) (stops_so g at h)
    (leaves_call m.pair e (recovered (seen_of d) (behind_of d)) (g.met.P.DevicePair.few_blocks e.pair).0
    (c.sync_journal.ensures.honest.0 h1) still.time
    (λ v j l. leaves_so g at h v j (leaves_still m e still v j l)))

pub returns-in_err-write_behind-clause-appends : goal.returns-in_err-write_behind-clause-appends
returns-in_err-write_behind-clause-appends g c = λ h.
    c.write_behind.ensures.appends h
    (last_so g (goal.at.returns-in_err-write_behind-clause-appends g c).After-write_behind)

pub returns-clause-appends : goal.returns-clause-appends
returns-clause-appends g c = λ h.
    let d = c.args.self.now in let m = c.write_behind.new.self in
    appends_then d m c.sync_journal.new.self
    (c.write_behind.ensures.appends h (last_so g (goal.at.returns-clause-appends g c).After-write_behind))
    (appends_still m c.sync_journal.new.self (c.sync_journal.ensures.still (c.write_behind.ensures.honest.0 h)))
