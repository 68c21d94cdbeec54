-- The goals of `LineReader::take` that are proved by hand.
use Rattle.std.proofs.Common.{arith}
use Rattle.std.proofs.lemmas.List.{length-take}
use Rattle.command_language.proofs.LineLemmas.{drop_span}
use Rattle.command_language.proofs.lines.LineReader.take.Goals as goal

pub returns-clause-pending : goal.returns-clause-pending
returns-clause-pending c =
    let s = c.args.self.now in
    drop_span s.start s.«end» c.args.count s.buffer (omega (arith, s.ordered, simp length-take at c.requires))
