-- A block in memory, appended.
use Rattle.std.proofs.Common.{arith}
use Rattle.unwritten_pair.proofs.Steps.{put_behind}
use Rattle.unwritten_pair.specs.Pair.{behind_of}
use Rattle.unwritten_pair.proofs.pair.UnwrittenPair.put.Goals as goal

pub returns-clause-written : goal.returns-clause-written
returns-clause-written g c =
    put_behind c.append.result c.args.at c.args.bytes.now (behind_of c.args.self.now)
    (behind_of c.append.new.self) (omega arith) c.append.ensures.pushed
