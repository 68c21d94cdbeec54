-- The flag of an empty journal.
use Rattle.std.proofs.Common.{◌≡◌, ◌∙◌, ap, arith, length, sym}
use Rattle.block_device.specs.Device.{Blocks, block_at}
use Rattle.device_pair.specs.Runs.{pair_call, pair_then}
use Rattle.committed_log.specs.Log.{says}
use Rattle.committed_log.proofs.Adding.{on_fine}
use Rattle.committed_log.proofs.Making.{made_base, made_now, made_stops, made_unsaid, one_answer, one_there}
use Rattle.committed_log.proofs.Stood.{on_ok}
use Rattle.committed_log.specs.Appending.{IsAppended}
use Rattle.committed_log.proofs.Appending.{none_begins}
use Rattle.committed_log.proofs.log.open.make_flag.Goals as goal

pub returns-in_err-write_journal-clause-few : goal.returns-in_err-write_journal-clause-few
returns-in_err-write_journal-clause-few g c = λ h. let p = g.P.DevicePair in let d = c.args.pair.now in
    one_answer c.write_journal.result c.flag_page.result (p.journal d) (p.journal c.write_journal.new.self)
    c.requires.none (c.write_journal.ensures.written h) (c.write_journal.ensures.torn h)

pub returns-in_err-write_journal-clause-stops : goal.returns-in_err-write_journal-clause-stops
returns-in_err-write_journal-clause-stops g c = λ h. let p = g.P.DevicePair in let d = c.args.pair.now in
    made_stops p.moment p.left_since p.may_leave (p.base d) (p.journal d) d c.write_journal.new.self
    c.requires.none (c.requires.synced h) (c.write_journal.ensures.stops h) (c.write_journal.ensures.time h)

pub returns-clause-few : goal.returns-clause-few
returns-clause-few g c = λ h. let p = g.P.DevicePair in let d = c.args.pair.now in
    omega (
      arith,
      ap length (c.sync_journal.ensures.journal (c.write_journal.ensures.honest.0 h)),
      one_answer c.write_journal.result c.flag_page.result (p.journal d)
          (p.journal c.write_journal.new.self)
          c.requires.none (c.write_journal.ensures.written h) (c.write_journal.ensures.torn h),
    )

pub returns-clause-there : goal.returns-clause-there
returns-clause-there g c = λ h. let p = g.P.DevicePair in let d = c.args.pair.now in
    on_fine c.sync_journal.result _
    (omega (
      arith,
      ap length (c.sync_journal.ensures.journal (c.write_journal.ensures.honest.0 h)),
      one_there c.flag_page.result (p.journal d) (p.journal c.write_journal.new.self) c.requires.none
          (c.in_ok-write_journal.ensures.written h),
    ))

pub returns-clause-unsaid : goal.returns-clause-unsaid
returns-clause-unsaid g c = λ h. let p = g.P.DevicePair in let d = c.args.pair.now in
    on_fine c.sync_journal.result _
    (ap (λ (b : Blocks). says (block_at 0 b))
    (c.sync_journal.ensures.journal (c.write_journal.ensures.honest.0 h))
    ∙ made_unsaid c.flag_page.result (p.journal d) (p.journal c.write_journal.new.self) c.flag_page.ensures
    (c.in_ok-write_journal.ensures.written h))

pub returns-clause-durable : goal.returns-clause-durable
returns-clause-durable g c = λ h. let p = g.P.DevicePair in let d = c.args.pair.now in
    let m = c.write_journal.new.self in let e = c.sync_journal.new.self in
    let h1 = c.write_journal.ensures.honest.0 h in
    on_ok c.sync_journal.result _ _
    (λ (is : (a b : Blocks) → p.may_leave e a b → b ≡ p.journal m). λ a b left. (
      made_base p.moment p.left_since p.may_leave (p.base d) (p.journal d) d m c.requires.none
          (c.requires.synced h) (c.write_journal.ensures.stops h) (c.write_journal.ensures.time h) a b
          (c.sync_journal.ensures.stops h1 a b left)
          ∙ sym (c.write_journal.ensures.base h) ∙ sym (c.sync_journal.ensures.base h1),
      is a b left ∙ sym (c.sync_journal.ensures.journal h1),
    ))
    (c.sync_journal.ensures.durable h1)

pub returns-clause-stops : goal.returns-clause-stops
returns-clause-stops g c = λ h. let p = g.P.DevicePair in let d = c.args.pair.now in
    let m = c.write_journal.new.self in let e = c.sync_journal.new.self in
    let h1 = c.write_journal.ensures.honest.0 h in
    pair_then p.moment p.left_since d m e _
    (made_stops p.moment p.left_since p.may_leave (p.base d) (p.journal d) d m
    c.requires.none (c.requires.synced h) (c.write_journal.ensures.stops h) (c.write_journal.ensures.time h))
    (pair_call p.moment p.left_since m e _ (p.may_leave e) (c.sync_journal.ensures.time h1) (λ a b left.
    made_now p.moment p.left_since p.may_leave (p.base d) (p.journal d) d m c.requires.none
    (c.requires.synced h) (c.write_journal.ensures.stops h) (c.write_journal.ensures.time h) a b
    (c.sync_journal.ensures.stops h1 a b left)))

pub returns-in_err-write_journal-clause-append_stops : goal.returns-in_err-write_journal-clause-append_stops
returns-in_err-write_journal-clause-append_stops g c = λ h.
    let p = g.P.DevicePair in let d = c.args.pair.now in let m = c.write_journal.new.self in
    pair_call p.moment p.left_since d m _ (p.may_leave m) (c.write_journal.ensures.time h) (λ a b left. record {
      base_is = made_base p.moment p.left_since p.may_leave (p.base d) (p.journal d) d m c.requires.none
          (c.requires.synced h) (c.write_journal.ensures.stops h) (c.write_journal.ensures.time h) a b left;
      begins = none_begins (p.journal d) b c.requires.none;
    })

pub returns-clause-append_stops : goal.returns-clause-append_stops
returns-clause-append_stops g c = λ h.
    let p = g.P.DevicePair in let d = c.args.pair.now in
    let m = c.write_journal.new.self in let e = c.sync_journal.new.self in
    let h1 = c.write_journal.ensures.honest.0 h in
    let made : (a b : Blocks) → p.may_leave m a b → IsAppended (p.base d) (p.journal d) a b = λ a b left. record {
      base_is = made_base p.moment p.left_since p.may_leave (p.base d) (p.journal d) d m c.requires.none
          (c.requires.synced h) (c.write_journal.ensures.stops h) (c.write_journal.ensures.time h) a b left;
      begins = none_begins (p.journal d) b c.requires.none;
    } in
    pair_then p.moment p.left_since d m e _
    (pair_call p.moment p.left_since d m _ (p.may_leave m) (c.write_journal.ensures.time h) made)
    (pair_call p.moment p.left_since m e _ (p.may_leave e) (c.sync_journal.ensures.time h1)
    (λ a b left. made a b (c.sync_journal.ensures.stops h1 a b left)))
