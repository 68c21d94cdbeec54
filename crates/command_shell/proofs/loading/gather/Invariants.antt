-- What holds at each turn of the loop of `gather`.
use Rattle.std.proofs.Common.{◌≤◌, false}
use Rattle.std.specs.Io.KnownBytes.{Keeps}
use Rattle.command_shell.specs.Gathering.{TakesAll}
use Rattle.command_language.specs.Pending.{AreCounted, pending, work_left}
use Rattle.command_shell.proofs.loading.gather.Given as goal

-- so many entry lines were taken so far, and gathered
abbrev pub invariant-loop-taken : goal.invariant-loop-taken
invariant-loop-taken g l = record {
  takes : TakesAll l.taken false l.fn.gathered l.gathered (g.R.Read.remaining l.fn.input)
      (g.R.Read.remaining l.input) (pending l.fn.lines) (pending l.lines);
  kept : Keeps (g.W.Write.contents l.fn.output) (g.W.Write.contents l.output);
  fewer : work_left l.lines ≤ work_left l.fn.lines;
  counted : AreCounted l.fn.lines (g.R.CountedRead.calls l.fn.input)
      → AreCounted l.lines (g.R.CountedRead.calls l.input);
}
