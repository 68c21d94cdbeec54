-- Where there was no memory for the objects, the refusal is told.
use Rattle.std.proofs.Common.{inr, refl}
use Rattle.reply_texts.proofs.WriteLemmas.{some_written}
use Rattle.command_line.proofs.importing.tell_error.Goals as goal

pub returns-in-Memory : goal.returns-in-Memory
returns-in-Memory g c =
    inr (refl, inr (some_written _ _ c.tell_refusal.result _ c.tell_refusal.ensures))
