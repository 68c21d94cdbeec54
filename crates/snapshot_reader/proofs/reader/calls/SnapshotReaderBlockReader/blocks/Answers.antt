-- As many as the base has.
use Rattle.std.proofs.Common.{◌∙◌, sym}
use Rattle.committed_log.specs.Replay.{length-overlaid}
use Rattle.snapshot_reader.specs.Reader.{homes_of}
use Rattle.snapshot_reader.proofs.reader.calls.SnapshotReaderBlockReader.blocks.Goals as goal

pub returns-clause-is : goal.returns-clause-is
returns-clause-is g c =
    let r = c.args.self.now in
    c.blocks-2.ensures.is
    ∙ sym (length-overlaid (homes_of r) (g.J.BlockReader.shown r.journal) (g.B.BlockReader.shown r.base))
