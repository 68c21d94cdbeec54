-- The regions add no block.
use Rattle.std.proofs.Common.{◌∙◌, sym}
use Rattle.committed_log.specs.Committed.{base_of, homes_of, journal_of}
use Rattle.committed_log.specs.Replay.{length-overlaid}
use Rattle.committed_log.proofs.log.CommittedLog.base_blocks.Goals as goal

pub returns-clause-is : goal.returns-clause-is
returns-clause-is g c = let d = c.args.self.now in
    c.base_blocks.ensures.is ∙ sym (length-overlaid (homes_of d) (journal_of d) (base_of d))
