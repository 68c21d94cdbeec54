-- What one line makes a store and a writer do.
use Rattle.std.specs.Prelude.{ℕ, ◌≡◌, true, List, [], ◌∷◌, Option, Some, None, Result}
use Rattle.store_law.specs.States.{Request}
use Rattle.plain_table.specs.Commands.Command.{Check}
use Rattle.plain_table.specs.Step.{Answer}
use Rattle.plain_table.specs.Step.Answer.{Done}
use Rattle.layer_store.specs.Representation.{BeginsWithSome, IsAliveWithSome, IsSettled, device_in}
use Rattle.layer_store.specs.declared.store.Store.{Store}
use Rattle.command_shell.specs.TextCommands.{AreCommands, AsksAlone}
use Rattle.command_language.specs.Meanings.{Meaning}
use Rattle.command_language.specs.Meanings.Meaning.{Loads, Means}
use Rattle.command_shell.specs.Serving.{WroteAs}
use Rattle.reply_texts.specs.Texts.{reply_answer}
use Rattle.reply_texts.specs.declared.replies.Reply.{Reply}

-- the line asks by itself, with no further lines
abbrev pub IsPlain : Meaning → Type 0
IsPlain (Loads layer count) = ⊥
IsPlain m = Unit {0}

-- the answers that a reply is, if there is one
abbrev pub reply_answers : {A : Type 0} → Option (Reply A) → List Answer
reply_answers None = []
reply_answers (Some r) = reply_answer r ∷ []

-- what a line of this meaning asks was answered, so that `So` holds of requests and answers
pub record Replies (m : Meaning) (So : List Request → List Answer → Type 0) (answers : List Answer) : Type
    0 where
  pub requests : List Request
  pub asked : AsksAlone m requests
  pub lawful : So requests answers

-- Where the line asks for a check and the reply is that it was done, the store is alive with some table; and
-- where it was settled before, it begins with one now, as an opened store does.
abbrev pub SaysChecked : {D A : Type 0} {m : _} → Meaning → Store D A m → Store D A m → List Answer → Type 0
SaysChecked {m = m} line old new answers =
    line ≡ Means Check → answers ≡ Done ∷ []
    → IsAliveWithSome new × (IsSettled old → BeginsWithSome new (m.moment (device_in new)))

-- the same, and the answers were written
pub record AnswersLine {E T : Type 0} (m : Meaning) (So : List Request → List Answer → Type 0)
    (before after : Option (List ℕ)) (result : Result T E) : Type 0 where
  pub requests : List Request
  pub asked : AsksAlone m requests
  pub answers : List Answer
  pub lawful : So requests answers
  pub written : WroteAs before after result answers

-- the last line of a text asks one request, which was answered, so that `So` holds of it and its answer
pub record RepliesLast (line : List ℕ) (So : Request → Answer → Type 0) (answer : Answer) : Type 0 where
  pub request : Request
  pub asked : AreCommands true (line ∷ []) (request ∷ [])
  pub step : So request answer

-- what the last line of a text asks was answered, so that `So` holds of requests and answers, and these were
-- written
pub record AnswersLast {E T : Type 0} (line : List ℕ) (So : List Request → List Answer → Type 0)
    (before after : Option (List ℕ)) (result : Result T E) : Type 0 where
  pub requests : List Request
  pub asked : AreCommands true (line ∷ []) requests
  pub answers : List Answer
  pub lawful : So requests answers
  pub written : WroteAs before after result answers
