-- Where there was no memory for the words, the refusal is told.
use Rattle.std.proofs.Common.{refl}
use Rattle.reply_texts.proofs.WriteLemmas.{some_written}
use Rattle.command_line.proofs.program.tell_words.Goals as goal

pub returns-then-eq-clause-memory : goal.returns-then-eq-clause-memory
returns-then-eq-clause-memory g c =
    λ memory. (refl, refl, some_written _ _ c.tell_refusal.result _ c.tell_refusal.ensures)
