-- The goals of `load_reply` that are proved by hand.
use Rattle.std.proofs.Common.{◌≡◌, ◌∙◌, ℕ, List, Option, None, Some, false, refl, subst, sym, true}
use Rattle.std.specs.Prelude.{is_none, is_some}
use Rattle.plain_table.specs.Commands.Command.{Load}
use Rattle.plain_table.specs.Loads.{GivenObjects}
use Rattle.plain_table.specs.Step.{Answer}
use Rattle.plain_table.specs.Step.Answer.{Refused}
use Rattle.store_law.specs.States.{Request}
use Rattle.store_law.specs.States.Request.{Asks}
use Rattle.layer_store.specs.Calls.{IsAsked}
use Rattle.layer_store.specs.Representation.{device_in}
use Rattle.layer_store.proofs.CallLemmas.{asked_badly, asked_by_change, asked_in_want}
use Rattle.command_language.specs.Entries.{objects_in}
use Rattle.command_shell.specs.TextCommands.{load_request}
use Rattle.reply_texts.specs.Texts.{reply_answer}
use Rattle.command_shell.proofs.AnswerLemmas.{out_of_room}
use Rattle.command_shell.proofs.GatherLemmas.{told_all, told_bad, told_room}
use Rattle.command_shell.proofs.session.load_reply.Goals as goal

some_bad : (o : Option ℕ) → true ≡ is_some o → is_none o ≡ false
some_bad None e = absurd (cc)
some_bad (Some place) e = refl

none_bad : (o : Option ℕ) → false ≡ is_some o → is_none o ≡ true
none_bad None e = refl
none_bad (Some place) e = absurd (cc)

pub returns-then-is_some : goal.returns-then-is_some
returns-then-is_some g c = λ layer entries h.
    let gathered = c.args.gathered in
    let bad =
    told_bad (is_none gathered.bad_entry) gathered.room gathered.layer.items layer gathered.objects.items
    (objects_in entries) h.1 (some_bad gathered.bad_entry c.if-is_some.ensures) in
    subst (λ (all : Option GivenObjects). IsAsked c.args.store.now (load_request layer all)
    (reply_answer c.bad_reply.result) c.args.store.now) (sym bad)
    (asked_badly c.args.store.now (reply_answer c.bad_reply.result)
    (λ honest b left. g.met.D.BlockDevice.only_now (device_in c.args.store.now) b honest left)
    c.bad_reply.ensures)

pub returns-then-not-gathered : goal.returns-then-not-gathered
returns-then-not-gathered g c = λ layer entries h.
    let gathered = c.args.gathered in
    let wanting = c.out_of_memory.ensures in
    out_of_room
    (λ (r : Request). IsAsked c.args.store.now r (Refused c.out_of_memory.result)
    c.out_of_memory.new.self) layer (objects_in entries)
    (told_room (is_none gathered.bad_entry) gathered.room gathered.layer.items layer gathered.objects.items
    (objects_in entries) h.1 (none_bad gathered.bad_entry c.if-is_some.ensures) c.if-not-gathered.true)
    (λ command may. asked_in_want command c.out_of_memory.result
    (λ honest b left. g.met.D.BlockDevice.only_now (device_in c.args.store.now) b honest left)
    wanting.same (wanting.step command may) (wanting.reply command may))

pub returns : goal.returns
returns g c = λ layer entries h.
    let gathered = c.args.gathered in
    let old = c.args.store.now in
    let new = c.load_owned.new.self in
    let answer = reply_answer c.change_reply.result in
    let all =
    told_all (is_none gathered.bad_entry) gathered.room gathered.layer.items layer gathered.objects.items
    (objects_in entries) h.1 (none_bad gathered.bad_entry c.if-is_some.ensures)
    c.if-not-gathered.false in
    let asked =
    asked_by_change (λ honest b left. g.met.D.BlockDevice.only_now (device_in old) b honest left)
    (λ e. absurd (cc)) c.load_owned.ensures.changes in
    subst (λ (o : Option GivenObjects). IsAsked old (load_request layer o) answer new) (sym all.0)
    (subst (λ (name : List ℕ). IsAsked old (Asks (Load name gathered.objects.items)) answer new)
    (c.as_slice.ensures.value ∙ all.1)
    (subst (λ (a : Answer). IsAsked old (Asks (Load c.as_slice.result.now gathered.objects.items)) a new)
    (sym c.change_reply.ensures) asked))
