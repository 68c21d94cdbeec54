-- The goals of `reply_to` that are proved by hand.
use Rattle.std.proofs.Common.{◌≡◌, [], ◌∷◌, Result, Ok, Err, ap, refl, subst}
use Rattle.plain_table.specs.Answers.{done_answer, object_answer, boxes_answer, count_answer}
use Rattle.plain_table.specs.Answers.{distances_answer, dump_answer, pairs_answer}
use Rattle.plain_table.specs.Commands.Command.{Create, Insert, Move, Delete, Drop, Get, Count, Range, Nearest}
use Rattle.plain_table.specs.Commands.Command.{Join, Dump, Check, Reopen}
use Rattle.plain_table.specs.Step.{Answer}
use Rattle.plain_table.specs.Step.Answer.{Done}
use Rattle.plain_table.specs.declared.refusal.Refusal.{Refusal}
use Rattle.layer_store.specs.Representation.{device_in}
use Rattle.layer_store.proofs.CallLemmas.{asked_badly, asked_by_change, asked_by_check, asked_by_question}
use Rattle.layer_store.proofs.CallLemmas.{asked_by_reopening}
use Rattle.command_shell.specs.Answering.{IsPlain}
use Rattle.command_language.specs.Said.{said}
use Rattle.command_shell.proofs.AnswerLemmas.{replied, replied_bad, replied_blank}
use Rattle.command_shell.proofs.session.reply_to.Goals as goal

-- a reply that it is done comes from a check that was done
checked_done : (result : Result (Unit {0}) Refusal) (answer : Answer) → answer ≡ done_answer result
    → answer ∷ [] ≡ Done ∷ [] → result ≡ Ok tt
checked_done (Ok u) answer is done = refl
checked_done (Err r) answer is done = absurd (cc)

pub returns-in-Blank-clause-replies : goal.returns-in-Blank-clause-replies
returns-in-Blank-clause-replies g c = replied_blank _ _ (ap said c.in-Blank.is) refl

pub returns-in-Bad-clause-replies : goal.returns-in-Bad-clause-replies
returns-in-Bad-clause-replies g c =
    replied_bad _ _ (ap said c.in-Bad.is) (
      _,
      asked_badly c.args.store.now _
          (λ honest b left. g.met.D.BlockDevice.only_now (device_in c.args.store.now) b honest left) refl,
      refl,
    )

pub returns-in-Create-clause-replies : goal.returns-in-Create-clause-replies
returns-in-Create-clause-replies g c =
    replied _ _ (Create c.in-Create.layer.now c.in-Create.dims c.in-Create.fanout)
    (done_answer c.create.result) _ (ap said c.in-Create.is) c.change_reply.ensures (
      _,
      asked_by_change
          (λ honest b left. g.met.D.BlockDevice.only_now (device_in c.args.store.now) b honest left)
          (λ e. absurd (cc)) c.create.ensures.changes,
      refl,
    )

pub returns-in-Insert-clause-replies : goal.returns-in-Insert-clause-replies
returns-in-Insert-clause-replies g c =
    replied _ _ (Insert c.in-Insert.layer.now c.in-Insert.id c.in-Insert.bounds c.in-Insert.tag)
    (done_answer c.insert.result) _ (ap said c.in-Insert.is) c.change_reply-in-Insert.ensures (
      _,
      asked_by_change
          (λ honest b left. g.met.D.BlockDevice.only_now (device_in c.args.store.now) b honest left)
          (λ e. absurd (cc)) c.insert.ensures.changes,
      refl,
    )

pub returns-in-Get-clause-replies : goal.returns-in-Get-clause-replies
returns-in-Get-clause-replies g c =
    replied _ _ (Get c.in-Get.layer.now c.in-Get.id) (object_answer c.in-Get.id c.get.result) _
    (ap said c.in-Get.is) c.object_reply.ensures
    (_, asked_by_question (λ e. absurd (cc)) c.get.ensures.answers, refl)

pub returns-in-Count-clause-replies : goal.returns-in-Count-clause-replies
returns-in-Count-clause-replies g c =
    replied _ _ (Count c.in-Count.layer.now) (count_answer c.count.result) _ (ap said c.in-Count.is)
    c.count_reply.ensures
    (_, asked_by_question (λ e. absurd (cc)) c.count.ensures.answers, refl)

pub returns-in-Range-clause-replies : goal.returns-in-Range-clause-replies
returns-in-Range-clause-replies g c =
    replied _ _ (Range c.in-Range.layer.now c.in-Range.query c.in-Range.tag) (boxes_answer c.range.result) _
    (ap said c.in-Range.is) c.range_reply.ensures
    (_, asked_by_question (λ e. absurd (cc)) c.range.ensures.answers, refl)

pub returns-in-Nearest-clause-replies : goal.returns-in-Nearest-clause-replies
returns-in-Nearest-clause-replies g c =
    replied _ _ (Nearest c.in-Nearest.layer.now c.in-Nearest.k c.in-Nearest.point)
    (distances_answer c.nearest.result) _ (ap said c.in-Nearest.is) c.distances_reply.ensures
    (_, asked_by_question (λ e. absurd (cc)) c.nearest.ensures.answers, refl)

pub returns-in-Reopen-clause-replies : goal.returns-in-Reopen-clause-replies
returns-in-Reopen-clause-replies g c =
    replied _ _ Reopen (done_answer c.reopen.result) _ (ap said c.in-Reopen.is)
    c.change_reply-in-Reopen.ensures (
      _,
      asked_by_reopening
          (λ honest b left. g.met.D.BlockDevice.only_now (device_in c.args.store.now) b honest left)
          c.reopen.ensures.step c.reopen.ensures.reply c.reopen.ensures.honest c.reopen.ensures.stops
          c.reopen.ensures.dead,
      refl,
    )

pub returns-in-Move-clause-replies : goal.returns-in-Move-clause-replies
returns-in-Move-clause-replies g c =
    replied _ _ (Move c.in-Move.layer.now c.in-Move.id c.in-Move.bounds) (done_answer c.move_object.result) _
    (ap said c.in-Move.is) c.change_reply-in-Move.ensures (
      _,
      asked_by_change
          (λ honest b left. g.met.D.BlockDevice.only_now (device_in c.args.store.now) b honest left)
          (λ e. absurd (cc)) c.move_object.ensures.changes,
      refl,
    )

pub returns-in-Delete-clause-replies : goal.returns-in-Delete-clause-replies
returns-in-Delete-clause-replies g c =
    replied _ _ (Delete c.in-Delete.layer.now c.in-Delete.id) (done_answer c.delete.result) _
    (ap said c.in-Delete.is) c.change_reply-in-Delete.ensures (
      _,
      asked_by_change
          (λ honest b left. g.met.D.BlockDevice.only_now (device_in c.args.store.now) b honest left)
          (λ e. absurd (cc)) c.delete.ensures.changes,
      refl,
    )

pub returns-in-Drop-clause-replies : goal.returns-in-Drop-clause-replies
returns-in-Drop-clause-replies g c =
    replied _ _ (Drop c.in-Drop.layer.now) (done_answer c.drop_layer.result) _ (ap said c.in-Drop.is)
    c.change_reply-in-Drop.ensures (
      _,
      asked_by_change
          (λ honest b left. g.met.D.BlockDevice.only_now (device_in c.args.store.now) b honest left)
          (λ e. absurd (cc)) c.drop_layer.ensures.changes,
      refl,
    )

pub returns-in-Join-clause-replies : goal.returns-in-Join-clause-replies
returns-in-Join-clause-replies g c =
    replied _ _ (Join c.in-Join.first.now c.in-Join.second.now c.in-Join.within) (pairs_answer c.join.result)
    _ (ap said c.in-Join.is) c.pairs_reply.ensures
    (_, asked_by_question (λ e. absurd (cc)) c.join.ensures.answers, refl)

pub returns-in-Layers-clause-replies : goal.returns-in-Layers-clause-replies
returns-in-Layers-clause-replies g c = absurd (c.requires.unlisted (ap said c.in-Layers.is))

pub returns-in-Dump-clause-replies : goal.returns-in-Dump-clause-replies
returns-in-Dump-clause-replies g c =
    replied _ _ Dump (dump_answer c.dump.result) _ (ap said c.in-Dump.is) c.dump_reply.ensures
    (_, asked_by_question (λ e. absurd (cc)) c.dump.ensures.answers, refl)

pub returns-in-Check-clause-replies : goal.returns-in-Check-clause-replies
returns-in-Check-clause-replies g c =
    replied _ _ Check (done_answer c.check.result) _ (ap said c.in-Check.is) c.change_reply-in-Check.ensures
    (_, asked_by_check c.check.ensures.answers c.check.ensures.sound c.check.ensures.begins, refl)

pub returns-in-Load-clause-replies : goal.returns-in-Load-clause-replies
returns-in-Load-clause-replies g c = absurd (subst IsPlain (ap said c.in-Load.is) c.requires.plain)

pub returns-in-Check-clause-checked : goal.returns-in-Check-clause-checked
returns-in-Check-clause-checked g c = λ honest asks answered.
    let done = checked_done c.check.result _ c.change_reply-in-Check.ensures answered in
    ((rw done at c.check.ensures.sound) honest, λ settled. (rw done at c.check.ensures.begins) honest settled)
