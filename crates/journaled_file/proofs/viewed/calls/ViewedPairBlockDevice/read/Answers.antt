-- As many as the base has.
use Rattle.std.proofs.Common.{arith}
use Rattle.committed_log.specs.Room.{blocks_of}
use Rattle.journaled_file.specs.ViewedLaws.{length-seen}
use Rattle.titled_pair.specs.Title.{untitled}
use Rattle.journaled_file.proofs.viewed.calls.ViewedPairBlockDevice.read.Goals as goal

pub read_seen-answer-requires : goal.read_seen-answer-requires
read_seen-answer-requires g c =
    let d = c.args.self.now in let p = g.P.DevicePair in
    omega (
      arith,
      c.requires,
      length-seen (blocks_of d.view.slots) d.view.gate (p.base d.pair) (untitled (p.journal d.pair)),
    )
