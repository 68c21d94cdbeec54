-- A block behind the last one.
use Rattle.std.proofs.Common.{◌∙◌, arith, sym}
use Rattle.block_device.specs.Written.{push_written}
use Rattle.logged_pair.proofs.Stood.{on_ok}
use Rattle.logged_pair.proofs.compaction.append.Goals as goal

pub returns-clause-added : goal.returns-clause-added
returns-clause-added g c = λ h.
    let p = g.P.DevicePair in
    on_ok c.write_journal.result _ _
    (λ w. w ∙ sym (push_written c.journal_blocks-at.result c.args.bytes.now (p.journal c.args.pair.now)
    (omega (arith, c.journal_blocks-at.ensures.is))))
    (c.write_journal.ensures.written h)
