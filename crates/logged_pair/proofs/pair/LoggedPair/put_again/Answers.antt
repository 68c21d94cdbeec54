-- A slot written again.
use Rattle.std.proofs.Common.{◌≡◌, ◌+◌, arith}
use Rattle.block_device.specs.Device.{written}
use Rattle.committed_log.specs.Committed as regions
use Rattle.logged_pair.specs.CommitLaws.{few_seen}
use Rattle.logged_pair.specs.Standing.{base_of, homes_of, journal_of}
use Rattle.logged_pair.proofs.Stood.{again_is, again_torn, on_any, on_ok}
use Rattle.logged_pair.proofs.pair.LoggedPair.put_again.Goals as goal

pub returns-clause-written : goal.returns-clause-written
returns-clause-written g c = λ h.
    let d = c.args.self.now in let e = c.put_journal.new.self in
    let s = d.standing h in
    on_ok c.put_journal.result _ _
    (λ (w : journal_of e ≡ written (2 + c.args.slot) c.args.bytes.now (journal_of d)).
    again_is (homes_of d) (homes_of e) (journal_of d) (journal_of e) (base_of d) (base_of e)
    c.put_journal.ensures.slots.homes (c.put_journal.ensures.base h)
    (few_seen d.log (g.met.P.DevicePair.few_blocks (regions.pair_of d.log)).0) s.room
    c.args.i c.args.slot c.args.bytes.now c.requires.slot (omega (arith, c.requires.committed, s.kept_there))
    w) (c.put_journal.ensures.written h)

pub returns-clause-torn : goal.returns-clause-torn
returns-clause-torn g c = λ h.
    let d = c.args.self.now in let e = c.put_journal.new.self in
    let s = d.standing h in
    on_any c.put_journal.result _
    (again_torn (homes_of d) (homes_of e) (journal_of d) (journal_of e) (base_of d) (base_of e)
    c.put_journal.ensures.slots.homes (c.put_journal.ensures.base h)
    (few_seen d.log (g.met.P.DevicePair.few_blocks (regions.pair_of d.log)).0) s.room
    c.args.i c.args.slot c.requires.slot (omega (arith, c.requires.committed, s.kept_there))
    (c.put_journal.ensures.torn h))
