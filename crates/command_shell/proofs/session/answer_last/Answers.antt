-- The goals of `answer_last` that are proved by hand.
use Rattle.std.proofs.Common.{◌∙◌, [], ◌∷◌, true, ap, refl, subst, sym}
use Rattle.command_language.specs.Meanings.{Meaning}
use Rattle.command_language.specs.Said.{said}
use Rattle.command_shell.specs.TextCommands.{AreCommands, AsksAlone}
use Rattle.command_shell.specs.TextCommands.AreCommands.{none, one}
use Rattle.reply_texts.specs.Texts.{reply_answer}
use Rattle.command_shell.proofs.AnswerLemmas.{wrote_answer}
use Rattle.command_language.proofs.TextLemmas.{append_none}
use Rattle.command_shell.proofs.session.answer_last.Goals as goal

pub returns-in-Load : goal.returns-in-Load
returns-in-Load g c = λ text is. let k =
    c.last_load_reply-reply.ensures text (sym is ∙ ap said c.in-Load.is) in record {
      requests = k.request ∷ [];
      asked = k.asked;
      answers = reply_answer c.last_load_reply-reply.result ∷ [];
      lawful = record { lawful = (_, k.step, refl); tells = c.give.ensures.tells };
      written =
          wrote_answer (reply_answer c.last_load_reply-reply.result) (g.W.Write.contents c.args.output.now)
          (g.W.Write.contents c.give.new.output) c.give.result c.give.ensures.written;
    }

pub returns : goal.returns
returns g c = λ text is. let k = c.answer.ensures in record {
  requests = k.requests;
  asked = subst (AreCommands true (text ∷ [])) (append_none k.requests)
      (one k.requests (subst (λ (m : Meaning). AsksAlone m k.requests) is k.asked) none);
  answers = k.answers;
  lawful = k.lawful;
  written = k.written;
}
