-- What was written of the line.
use Rattle.reply_texts.proofs.WriteLemmas.{some_written}
use Rattle.command_line.proofs.serving.tell_no_store.Goals as goal

pub returns-clause-told : goal.returns-clause-told
returns-clause-told g c = some_written _ _ c.tell_start.result _ c.tell_start.ensures
