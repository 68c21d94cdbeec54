-- The goals of `answer` that are proved by hand.
use Rattle.std.proofs.Common.{ap, refl}
use Rattle.plain_table.specs.Answers.{layers_answer}
use Rattle.plain_table.specs.Commands.Command.{Layers}
use Rattle.layer_store.proofs.CallLemmas.{asked_by_question}
use Rattle.command_language.specs.Said.{said}
use Rattle.reply_texts.specs.Texts.{reply_answer}
use Rattle.command_shell.proofs.AnswerLemmas.{replied, unwritten, written}
use Rattle.command_shell.proofs.session.answer.Goals as goal

pub returns-in-None : goal.returns-in-None
returns-in-None g c =
    unwritten (said c.args.line) _ (g.W.Write.contents c.args.output.now) c.in-None.ensures.replies

pub returns-in-Some : goal.returns-in-Some
returns-in-Some g c =
    written (said c.args.line) _ (g.W.Write.contents c.args.output.now)
    (g.W.Write.contents c.give.new.output) (reply_answer c.in-Some.reply) c.give.result
    c.in-Some.ensures.replies c.give.ensures.written c.give.ensures.tells

pub returns-in-Layers : goal.returns-in-Layers
returns-in-Layers g c =
    written (said c.args.line) _ (g.W.Write.contents c.args.output.now)
    (g.W.Write.contents c.give_layers.new.output) (layers_answer c.layers.result) c.give_layers.result
    (replied _ _ Layers (layers_answer c.layers.result) _ (ap said c.in-Layers.is) refl
    (_, asked_by_question (λ e. absurd (cc)) c.layers.ensures.answers, refl))
    c.give_layers.ensures.written c.give_layers.ensures.tells
