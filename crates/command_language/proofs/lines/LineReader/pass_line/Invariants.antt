-- What holds at each turn of the loop of `LineReader::pass_line`.
use Rattle.std.proofs.Common.{◌≡◌, ◌<◌, []}
use Rattle.command_language.specs.Pending.{AreCounted, pending, work_left}
use Rattle.command_language.specs.Lines.{IsOneLine}
use Rattle.command_language.specs.Reading.{ReadsTo}
use Rattle.command_language.proofs.lines.LineReader.pass_line.Given as goal

abbrev pub invariant-loop-self : goal.invariant-loop-self
invariant-loop-self g l = record {
  none : pending l.self ≡ [];
  text : ReadsTo (g.R.Read.remaining l.fn.reader) (g.R.Read.remaining l.reader) (λ more. IsOneLine more);
  fewer : work_left l.self < work_left l.fn.self;
  counted : AreCounted l.fn.self (g.R.CountedRead.calls l.fn.reader)
      → AreCounted l.self (g.R.CountedRead.calls l.reader);
}

abbrev pub decreases-loop-self : goal.decreases-loop-self
decreases-loop-self g l = work_left l.self
