-- The end that was written is there.
use Rattle.std.proofs.Common.{◌∙◌, ap, arith}
use Rattle.block_device.specs.Device.{block_at}
use Rattle.block_device.specs.Written.{block_at-written}
use Rattle.journaled_file.proofs.end.put_end.Goals as goal

pub returns-clause-end : goal.returns-clause-end
returns-clause-end g c = λ h _.
    let p = g.P.DevicePair in
    let h1 = c.end_of_base.ensures.honest.0 h in
    let h2 = c.sync_base.ensures.honest.0 h1 in
    let h3 = c.write_journal.ensures.honest.0 h2 in
    let before = p.journal c.sync_base.new.self in
    ap (block_at 1) (c.sync_journal.ensures.journal h3 ∙ c.in_ok-write_journal.ensures.written h2)
    ∙ block_at-written 1 c.in_ok-page.page before
    (omega (arith, c.if-journal_blocks-lt2-2.false, c.journal_blocks-2.ensures.is))
    ∙ c.in_ok-page.ensures.is h
