-- A store is closed only where all was read.
use Rattle.std.proofs.Common.{subst, sym}
use Rattle.command_shell.specs.Strict.{TellsOutcome}
use Rattle.command_shell.specs.declared.session.LinesEnd.TheVariants.{Ran}
use Rattle.command_shell.proofs.strict.settle.Goals as goal

pub returns-in-Finished-clause-told : goal.returns-in-Finished-clause-told
returns-in-Finished-clause-told g c =
    subst
    (λ end. TellsOutcome (Ran end) c.close.result.outcome (g.E.Write.contents c.args.errors.now)
    (g.E.Write.contents c.close.new.errors)) (sym c.in-Finished.is) c.close.ensures.told
