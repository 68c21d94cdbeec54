-- Worked examples of answers from a check on that was answered ok. No other proof rests on them.
use Rattle.std.proofs.Common.{◌≡◌, [], ◌∷◌, refl}
use Rattle.std.specs.Prelude.{⊤}
use Rattle.plain_table.specs.Commands.Command.{Check}
use Rattle.plain_table.specs.Step.Answer.{Done, Refused}
use Rattle.plain_table.specs.declared.refusal.Refusal.TheVariants as refusal
use Rattle.store_law.specs.States.Request.{Asks, BadCommand}
use Rattle.layer_store.specs.Checked.{LawfulOnceChecked, Standing}

abbrev any_end : Standing → Type 0
any_end s = ⊤

before_a_check_all_answers_may_come : LawfulOnceChecked any_end (BadCommand ∷ Asks Check ∷ [])
    (Done ∷ Refused refusal.Memory ∷ [])
before_a_check_all_answers_may_come = (
  λ passed. let no : BadCommand ≡ Asks Check = passed.0 in absurd (cc),
  (λ passed. let no : Refused refusal.Memory ≡ Done = passed.1 in absurd (cc), tt),
)

after_one_a_bad_line_is_answered_so : LawfulOnceChecked any_end (Asks Check ∷ BadCommand ∷ [])
    (Done ∷ Done ∷ []) → ⊥
after_one_a_bad_line_is_answered_so h = let to = h.0 (refl, refl) in
    let no : Done ≡ Refused refusal.BadLine = to.lawful.1.answer.0 in cc

each_request_has_an_answer : LawfulOnceChecked any_end (Asks Check ∷ []) [] → ⊥
each_request_has_an_answer h = h
