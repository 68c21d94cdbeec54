-- What a line was answered.
use Rattle.std.proofs.Common.{◌≡◌, ℕ, List, [], ◌∷◌, Option, Some, None, IsSome, Result, Ok, Err, refl, sym}
use Rattle.std.proofs.Common.{subst}
use Rattle.plain_table.specs.Commands.{Command, MayGiveUp}
use Rattle.plain_table.specs.Commands.Command.{Load}
use Rattle.plain_table.specs.Loads.{GivenObjects}
use Rattle.store_law.specs.States.{Request}
use Rattle.store_law.specs.States.Request.{BadCommand, Asks}
use Rattle.plain_table.specs.Step.{Answer}
use Rattle.plain_table.specs.Step.Answer.{Refused}
use Rattle.plain_table.specs.declared.refusal.Refusal.{Refusal}
use Rattle.plain_table.specs.declared.refusal.Refusal.TheVariants as refusal
use Rattle.command_shell.specs.Answering.{AnswersLine, Replies}
use Rattle.command_shell.specs.TextCommands.{AsksAlone, load_request}
use Rattle.command_language.specs.Meanings.{Meaning}
use Rattle.command_language.specs.Meanings.Meaning.{Means, Bad, Blank}
use Rattle.command_shell.specs.Serving.{WroteAs}
use Rattle.command_shell.specs.Strict.{TellsCalls, TellsRefusal}
use Rattle.reply_texts.specs.Texts.{answer_text}
use Rattle.reply_texts.specs.Writing.{Writes}
use Rattle.command_language.proofs.TextLemmas.{append_none}
use Rattle.command_shell.proofs.SessionLemmas.{appends_none}

-- a command that a line asks was answered
pub replied : (So : List Request → List Answer → Type 0) (m : Meaning) (c : Command) (a b : Answer)
    → m ≡ Means c → b ≡ a → So (Asks c ∷ []) (a ∷ []) → Replies m So (b ∷ [])
replied So m c a b h e so =
    record {
      requests = Asks c ∷ [];
      asked = subst (λ x. AsksAlone x (Asks c ∷ [])) (sym h) refl;
      lawful = subst (λ x. So (Asks c ∷ []) (x ∷ [])) (sym e) so;
    }

-- a bad line was answered, and asked nothing of the store
pub replied_bad : (So : List Request → List Answer → Type 0) (m : Meaning) → m ≡ Bad
    → So (BadCommand ∷ []) (Refused refusal.BadLine ∷ []) → Replies m So (Refused refusal.BadLine ∷ [])
replied_bad So m e so =
    record {
      requests = BadCommand ∷ [];
      asked = subst (λ x. AsksAlone x (BadCommand ∷ [])) (sym e) refl;
      lawful = so;
    }

-- a blank line asked nothing
pub replied_blank : (So : List Request → List Answer → Type 0) (m : Meaning) → m ≡ Blank → So [] []
    → Replies m So []
replied_blank So m e so =
    record { requests = []; asked = subst (λ x. AsksAlone x []) (sym e) refl; lawful = so }

pub wrote_answer : {E T : Type 0} (answer : Answer) (a b : Option (List ℕ)) (result : Result T E)
    → Writes a b result (answer_text answer) → WroteAs a b result (answer ∷ [])
wrote_answer answer a b (Ok u) h = rw append_none h
wrote_answer answer a b (Err e) h =
    record { before = []; last = answer; are = refl; shown = h.0; is_part = h.1; written = h.2 }

-- an answer was written
pub written : {E : Type 0} (m : Meaning) (So : List Request → List Answer → Type 0)
    (w w' : Option (List ℕ)) (answer : Answer) (result : Result (Option Refusal) E)
    → Replies m So (answer ∷ []) → Writes w w' result (answer_text answer)
    → TellsRefusal result (answer ∷ []) → AnswersLine m (TellsCalls result So) w w' result
written m So w w' answer result h k tells =
    record {
      requests = h.requests;
      asked = h.asked;
      answers = answer ∷ [];
      lawful = record { lawful = h.lawful; tells = tells };
      written = wrote_answer answer w w' result k;
    }

-- there was no reply to write
pub unwritten : {E : Type 0} (m : Meaning) (So : List Request → List Answer → Type 0) (w : Option (List ℕ))
    → Replies m So []
    → AnswersLine {E = E} {T = Option Refusal} m (TellsCalls {E = E} (Ok None) So) w w (Ok None)
unwritten m So w h =
    record {
      requests = h.requests;
      asked = h.asked;
      answers = [];
      lawful = record { lawful = h.lawful; tells = tt };
      written = appends_none w;
    }

-- a load for which there is no room gave up
pub out_of_room : (So : Request → Type 0) (layer : List ℕ) (all : Option GivenObjects) → IsSome all
    → ((c : Command) → MayGiveUp c → So (Asks c)) → So (load_request layer all)
out_of_room So layer (Some objects) h t = t (Load layer objects) tt
out_of_room So layer None h t = absurd (cc)
