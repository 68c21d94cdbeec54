-- A strict run, and what is left of its store.
use Rattle.std.proofs.Common.{subst, sym}
use Rattle.command_shell.specs.Strict.{TellsOutcome}
use Rattle.command_shell.proofs.CloseLemmas.{settles}
use Rattle.command_shell.proofs.strict.run_strictly_and_close.Goals as goal

pub returns-then-is_err-clause-settles : goal.returns-then-is_err-clause-settles
returns-then-is_err-clause-settles g c =
    let run = c.run_strictly-end in
    settles c.args.store run.new.store _ c.give_up.result.device run.result
    (g.R.Read.remaining c.args.input.now) (g.R.Read.remaining run.new.input)
    (g.W.Write.contents c.args.output.now) (g.W.Write.contents run.new.output)
    (g.W.Write.contents c.flush_out.new.self) (g.E.Write.contents c.args.errors.now)
    (g.E.Write.contents c.give_up.new.errors)
    (c.give_up.ensures.told run.result)
    c.flush_out.ensures.bytes run.ensures.session run.ensures.checked c.give_up.ensures.left
    c.give_up.ensures.image c.give_up.ensures.leaves

pub returns-in-Ran-clause-settles : goal.returns-in-Ran-clause-settles
returns-in-Ran-clause-settles g c =
    let run = c.run_strictly-end in
    settles c.args.store run.new.store _ c.settle.result.device run.result
    (g.R.Read.remaining c.args.input.now) (g.R.Read.remaining run.new.input)
    (g.W.Write.contents c.args.output.now) (g.W.Write.contents run.new.output)
    (g.W.Write.contents c.flush_out.new.self) (g.E.Write.contents c.args.errors.now)
    (g.E.Write.contents c.settle.new.errors)
    (subst
    (λ end. TellsOutcome end c.settle.result.outcome (g.E.Write.contents c.args.errors.now)
    (g.E.Write.contents c.settle.new.errors)) (sym c.in-Ran.is) c.settle.ensures.told)
    c.flush_out.ensures.bytes run.ensures.session run.ensures.checked c.settle.ensures.left
    c.settle.ensures.image c.settle.ensures.leaves

pub returns-in-Stopped-clause-settles : goal.returns-in-Stopped-clause-settles
returns-in-Stopped-clause-settles g c =
    let run = c.run_strictly-end in
    settles c.args.store run.new.store _ c.stop_there.result.device run.result
    (g.R.Read.remaining c.args.input.now) (g.R.Read.remaining run.new.input)
    (g.W.Write.contents c.args.output.now) (g.W.Write.contents run.new.output)
    (g.W.Write.contents c.flush_out.new.self) (g.E.Write.contents c.args.errors.now)
    (g.E.Write.contents c.stop_there.new.errors)
    (subst
    (λ end. TellsOutcome end c.stop_there.result.outcome (g.E.Write.contents c.args.errors.now)
    (g.E.Write.contents c.stop_there.new.errors)) (sym c.in-Stopped.is) c.stop_there.ensures.told)
    c.flush_out.ensures.bytes run.ensures.session run.ensures.checked c.stop_there.ensures.left
    c.stop_there.ensures.image c.stop_there.ensures.leaves
