-- What holds at each turn of the loop of `answer_lines`.
use Rattle.std.proofs.Common.{[], true, false}
use Rattle.layer_store.specs.Calls.{Calls}
use Rattle.command_language.specs.Pending.{AreCounted, pending, work_left}
use Rattle.command_shell.specs.Serving.{ServesBy}
use Rattle.command_shell.proofs.StrictLemmas.{Goes}
use Rattle.command_shell.proofs.session.answer_lines.Given as goal

-- whole lines were taken so far, and counted, and each of them is answered; where the run is strict none was
-- refused; and each call of the reader is counted
abbrev pub invariant-loop-line : goal.invariant-loop-line
invariant-loop-line g l = ServesBy (Goes l.fn.strict l.taken (Calls l.fn.store l.store)) false true
    (g.R.Read.remaining l.fn.input) (g.R.Read.remaining l.input) (g.W.Write.contents l.fn.output)
    (g.W.Write.contents l.output) [] (pending l.lines)
    × AreCounted l.lines (g.R.CountedRead.calls l.input)

abbrev pub decreases-loop-line : goal.decreases-loop-line
decreases-loop-line g l = work_left l.lines
