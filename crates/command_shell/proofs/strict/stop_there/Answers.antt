-- A store that is given up leaves its device as it is.
use Rattle.std.proofs.Common.{refl}
use Rattle.command_shell.proofs.CloseLemmas.{leaves_when_given_up, left_when_given_up}
use Rattle.reply_texts.proofs.WriteLemmas.{some_written}
use Rattle.command_shell.proofs.strict.stop_there.Goals as goal

pub returns-clause-left : goal.returns-clause-left
returns-clause-left g c = λ s represents.
    left_when_given_up c.args.store s c.abandon.result _ (λ e. absurd (cc)) refl represents
    c.abandon.ensures

pub returns-clause-image : goal.returns-clause-image
returns-clause-image g c = λ s stands well. absurd (cc)

pub returns-clause-leaves : goal.returns-clause-leaves
returns-clause-leaves g c = λ s first represents run.
    leaves_when_given_up first c.args.store s c.abandon.result c.abandon.ensures run

pub returns-clause-told : goal.returns-clause-told
returns-clause-told g c = (_, refl, some_written _ _ c.tell_stop.result _ c.tell_stop.ensures)
