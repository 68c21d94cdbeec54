-- As many as the base has.
use Rattle.std.proofs.Common.{◌∙◌, sym}
use Rattle.committed_log.specs.Room.{blocks_of}
use Rattle.journaled_file.specs.ViewedLaws.{length-seen}
use Rattle.titled_pair.specs.Title.{untitled}
use Rattle.journaled_file.proofs.viewed.calls.ViewedPairBlockDevice.blocks.Goals as goal

pub returns-clause-is : goal.returns-clause-is
returns-clause-is g c =
    let d = c.args.self.now in let p = g.P.DevicePair in
    c.base_blocks.ensures.is
    ∙ sym (length-seen (blocks_of d.view.slots) d.view.gate (p.base d.pair) (untitled (p.journal d.pair)))
