-- What a part of a run reads, answers and writes.
use Rattle.std.specs.Prelude.{ℕ, ◌≡◌, ◌<◌, Bool, true, false, List, [], ◌∷◌, ◌++◌, length, take, Option}
use Rattle.std.specs.Prelude.{Result, MatchResult}
use Rattle.std.specs.Io.KnownBytes.{Appends}
use Rattle.store_law.specs.Sessions.{SessionState, Session}
use Rattle.store_law.specs.States.{Request}
use Rattle.plain_table.specs.Step.{Answer}
use Rattle.command_shell.specs.TextCommands.{AreCommands}
use Rattle.command_language.specs.Lines.{lines_of}
use Rattle.command_language.specs.Reading.{Reads}
use Rattle.reply_texts.specs.Texts.{answer_text, texts_of}

-- the answers were written, but of the last one only a front
pub record BreaksOff (old new : Option (List ℕ)) (answers : List Answer) : Type 0 where
  pub before : List Answer
  pub last : Answer
  pub are : answers ≡ before ++ last ∷ []
  pub shown : ℕ
  pub is_part : shown < length (answer_text last)
  pub written : Appends old new (texts_of before ++ take shown (answer_text last))

-- the answers were written, the last one wholly or in part
abbrev pub Wrote : Bool → Option (List ℕ) → Option (List ℕ) → List Answer → Type 0
Wrote true old new answers = Appends old new (texts_of answers)
Wrote false old new answers = BreaksOff old new answers

-- the answers were written, or on a fault the last one in part
abbrev pub WroteAs : {E T : Type 0} → Option (List ℕ) → Option (List ℕ) → Result T E → List Answer → Type 0
WroteAs old new result answers =
    MatchResult result (λ _. Wrote true old new answers) (λ _. Wrote false old new answers)

-- What is known at a point of a run: the state of the session, what the reader still has, and what the writer
-- was given, where reader and writer make their bytes known.
pub record RunState : Type 0 where
  pub session : SessionState
  pub unread : Option (List ℕ)
  pub written : Option (List ℕ)

-- the state of a run with these
abbrev pub run_state : SessionState → Option (List ℕ) → Option (List ℕ) → RunState
run_state session unread written = record { session = session; unread = unread; written = written }

-- A text was taken, its commands were answered, so that `So` holds of the text, its requests and their
-- answers, and the answers were written. `ended` says whether the text is all that there was, `whole` whether
-- the last answer was written wholly. `input` is what the reader had and has, `output` what the writer was
-- given.
pub record ServesBy (So : List ℕ → List Request → List Answer → Type 0) (ended whole : Bool)
    (input input' output output' : Option (List ℕ)) (pending left : List ℕ) : Type 0 where
  pub text : List ℕ
  pub requests : List Request
  pub answers : List Answer
  pub reads : Reads ended input input' pending left text
  pub asked : AreCommands ended (lines_of text) requests
  pub lawful : So text requests answers
  pub written : Wrote whole output output' answers

-- so it is of requests and answers, whatever the text
abbrev pub of_any_text : (List Request → List Answer → Type 0) → List ℕ → List Request → List Answer → Type 0
of_any_text So text = So

-- the requests were so answered by a lawful session
abbrev pub IsSession : SessionState → SessionState → List Request → List Answer → Type 0
IsSession old new requests answers = Session old requests answers new

-- a text was taken, its commands were answered by a lawful session, and the answers were written
abbrev pub Serves : Bool → Bool → RunState → RunState → List ℕ → List ℕ → Type 0
Serves ended whole before after pending left =
    ServesBy (of_any_text (IsSession before.session after.session)) ended whole before.unread after.unread before.written
    after.written pending left
