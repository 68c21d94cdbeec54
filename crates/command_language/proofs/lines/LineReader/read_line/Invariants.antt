-- What holds at each turn of the loop of `LineReader::read_line`.
use Rattle.std.proofs.Common.{◌≡◌, ◌≤◌, ℕ, ◌++◌, length, take}
use Rattle.command_language.specs.Lines.{IsOneLine}
use Rattle.command_language.specs.Pending.{AreCounted, pending, work_left}
use Rattle.command_language.specs.Reading.{BeginsLine, ReadsTo}
use Rattle.command_language.proofs.lines.LineReader.read_line.Given as goal

abbrev pub invariant-loop-at : goal.invariant-loop-at
invariant-loop-at g l = record {
  text : ReadsTo (g.R.Read.remaining l.fn.reader) (g.R.Read.remaining l.reader)
      (λ more. pending l.self ≡ pending l.fn.self ++ more);
  within : l.seen ≤ length (pending l.self);
  none_seen : IsOneLine (take l.seen (pending l.self));
  fewer : work_left l.self ≤ work_left l.fn.self;
  lazy : (n : ℕ) → BeginsLine (pending l.fn.self) n
      → (l.reader ≡ l.fn.reader) × (pending l.self ≡ pending l.fn.self);
  counted : AreCounted l.fn.self (g.R.CountedRead.calls l.fn.reader)
      → AreCounted l.self (g.R.CountedRead.calls l.reader);
}

abbrev pub decreases-loop-at : goal.decreases-loop-at
decreases-loop-at g l = work_left l.self
