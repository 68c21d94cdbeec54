-- Refused lines, and a strict run, which stops at the first of them. Our rule, docs/COMMANDS.md.
use Rattle.std.specs.Prelude.{ℕ, ◌≡◌, ◌+◌, Bool, true, false, List, [], ◌∷◌, ◌++◌, length}
use Rattle.std.specs.Prelude.{Option, Some, None, Result, Ok, Err, if◌then◌else◌, min}
use Rattle.std.specs.Prelude.{◌≤◌, option_map}
use Rattle.std.specs.Io.KnownBytes.{Keeps}
use Rattle.std.specs.List.{AllByRecursion}
use Rattle.block_device.specs.Device.{Blocks, Only}
use Rattle.block_device.specs.declared.device.BlockDevice as device
use Rattle.live_layers.specs.Image.{IsImage, IsImageOfOne, IsRefusedOrImageOf}
use Rattle.layer_store.specs.Checked.{LawfulOnceChecked, Standing}
use Rattle.plain_table.specs.Table.{Table}
use Rattle.plain_table.specs.Step.{Answer}
use Rattle.plain_table.specs.Step.Answer.{Refused}
use Rattle.plain_table.specs.declared.refusal.Refusal.{Refusal}
use Rattle.store_law.specs.Sessions.{SessionState}
use Rattle.store_law.specs.States.{Request}
use Rattle.store_law.specs.States.StoreState.{Alive}
use Rattle.command_language.specs.Lines.{IsWhole, lines_of}
use Rattle.command_language.specs.Meanings.{meaning_of}
use Rattle.command_language.specs.Meanings.Meaning.{Blank}
use Rattle.command_shell.specs.Runs.{FoundSince, LeavesTablesOf, RunsFrom, with_last}
use Rattle.command_shell.specs.Serving.{IsSession, ServesBy}
use Rattle.command_shell.specs.TextCommands.{AreCommands}
use Rattle.reply_texts.specs.Refused.{IsFrontOf, most_lines, told_stop}
use Rattle.reply_texts.specs.Texts.{told_fault, told_refusal}
use Rattle.reply_texts.specs.Writing.{AppendsSome}
use Rattle.reply_texts.specs.declared.refused.LineFront.{LineFront}
use Rattle.reply_texts.specs.declared.refused.RefusedLine.{RefusedLine}
use Rattle.reply_texts.specs.declared.refused.Stop.{Stop}
use Rattle.command_shell.specs.declared.session.LinesEnd.{LinesEnd}
use Rattle.command_shell.specs.declared.session.LinesEnd.TheVariants.{Ran, Stopped}
use Rattle.command_shell.specs.declared.session.RunEnd.{RunEnd}
use Rattle.command_shell.specs.declared.session.RunEnd.TheVariants.{Finished, ReadFault, WriteFault}
use Rattle.command_shell.specs.declared.session.Stepped.{Stepped}
use Rattle.command_shell.specs.declared.session.Stepped.TheVariants.{On, Last, End}
use Rattle.command_shell.specs.declared.strict.Outcome.{Outcome}
use Rattle.command_shell.specs.declared.strict.Outcome.TheVariants.{WentWell, StoppedAtLine, Failed, Unclosed}

-- ---- answers

-- the answer is no refusal
abbrev pub IsTaken : Answer → Type 0
IsTaken (Refused r) = ⊥
IsTaken a = Unit {0}

-- none of the answers is a refusal
abbrev pub AreTaken : List Answer → Type 0
AreTaken answers = AllByRecursion IsTaken answers

-- none of them is one but perhaps the last
abbrev pub AreTakenBefore : List Answer → Type 0
AreTakenBefore [] = Unit {0}
AreTakenBefore (a ∷ []) = Unit {0}
AreTakenBefore (a ∷ b ∷ more) = IsTaken a × AreTakenBefore (b ∷ more)

-- what the answers of a run that ended so are: no refusals, but perhaps one that was written in part
abbrev pub AreTakenAt : RunEnd → List Answer → Type 0
AreTakenAt Finished answers = AreTaken answers
AreTakenAt ReadFault answers = AreTaken answers
AreTakenAt WriteFault answers = AreTakenBefore answers

-- the refusal is the answer, or there is none and the answer is none
abbrev pub IsRefusalIn : Option Refusal → Answer → Type 0
IsRefusalIn None answer = IsTaken answer
IsRefusalIn (Some r) answer = answer ≡ Refused r

-- what is told of the answers that were written: the refusal that is the one answer, or that none is one; or
-- the last was written in part
abbrev pub TellsRefusal : {E : Type 0} → Result (Option Refusal) E → List Answer → Type 0
TellsRefusal (Ok None) answers = AreTaken answers
TellsRefusal (Ok (Some r)) answers = answers ≡ Refused r ∷ []
TellsRefusal (Err e) answers = AreTakenBefore answers

-- so it is of answers, and `So` holds of requests and answers
pub record TellsCalls {E : Type 0} (told : Result (Option Refusal) E)
    (So : List Request → List Answer → Type 0) (requests : List Request) (answers : List Answer) : Type
    0 where
  pub lawful : So requests answers
  pub tells : TellsRefusal told answers

-- ---- lines

-- how many lines a text has, at 2^64 - 1 where there are more
abbrev pub line_count : List ℕ → ℕ
line_count text = min (length (lines_of text)) most_lines

-- The text is one command, whose first line is told so, with the first bad one of its entry lines, and it was
-- refused.
pub record IsRefusedCommand (it : RefusedLine) (text : List ℕ) (requests : List Request)
    (answers : List Answer) : Type 0 where
  pub line : List ℕ
  pub entries : List (List ℕ)
  pub lines_are : lines_of text ≡ line ∷ entries
  pub asks : meaning_of line ≡ Blank → ⊥
  pub request : Request
  pub requests_are : requests ≡ request ∷ []
  pub answers_are : answers ≡ Refused it.refusal ∷ []
  pub front : IsFrontOf it.front line entries

-- such a text, or one of which no command was refused
abbrev pub Notes : Option RefusedLine → List ℕ → List Request → List Answer → Type 0
Notes None text requests answers = AreTaken answers
Notes (Some it) text requests answers = IsRefusedCommand it text requests answers

-- what a step notes of the text that it took: how many lines that has, and the one that was refused
abbrev pub NotesStep : Stepped → List ℕ → List Request → List Answer → Type 0
NotesStep (On lines refused) text requests answers =
    (lines ≡ line_count text) × Notes refused text requests answers
NotesStep (Last refused) text requests answers = Notes refused text requests answers
NotesStep (End end) text requests answers = AreTakenAt end answers

-- so a step was made, and `So` holds of requests and answers
pub record MakesStep (So : List Request → List Answer → Type 0) (step : Stepped) (text : List ℕ)
    (requests : List Request) (answers : List Answer) : Type 0 where
  pub lawful : So requests answers
  pub notes : NotesStep step text requests answers

-- the step that a written answer is: the last one of the text, or one after which it goes on
abbrev pub step_of : Bool → ℕ → LineFront → Option Refusal → Stepped
step_of true lines front refusal = Last (option_map (λ r. record { refusal = r; front = front }) refusal)
step_of false lines front refusal = On lines (option_map (λ r. record { refusal = r; front = front }) refusal)

-- ---- a run

-- The text ends with a command that was refused, and none before it was. Its first line has this number,
-- counted from 1, with blank lines, comments and entry lines.
pub record IsStop (it : Stop) (text : List ℕ) (requests : List Request) (answers : List Answer) : Type
    0 where
  pub before : List ℕ
  pub last : List ℕ
  pub text_is : text ≡ before ++ last
  pub whole : IsWhole before
  pub earlier : List Request
  pub asked : AreCommands false (lines_of before) earlier
  pub taken : List Answer
  pub are_taken : AreTaken taken
  pub last_request : List Request
  pub last_answer : List Answer
  pub refused : IsRefusedCommand it.refused last last_request last_answer
  pub requests_are : requests ≡ earlier ++ last_request
  pub answers_are : answers ≡ taken ++ last_answer
  pub line_is : it.line ≡ min (length (lines_of before) + 1) most_lines

-- A text was taken that ends with the first command that was refused, and all its answers were written; what
-- is left was not read as a line.
abbrev pub StopsThere : (List Request → List Answer → Type 0) → Stop → Option (List ℕ) → Option (List ℕ)
    → Option (List ℕ) → Option (List ℕ) → Type 0
StopsThere So it input input' output output' = (ended : Bool) × (left : List ℕ)
    × ServesBy (λ text requests answers. So requests answers × IsStop it text requests answers) ended true
    input input' output output' [] left

-- A run that stops at the first refused line where it is strict, and else at none.
abbrev pub RunsAs : Bool → (List Request → List Answer → Type 0) → LinesEnd → Option (List ℕ)
    → Option (List ℕ) → Option (List ℕ) → Option (List ℕ) → Type 0
RunsAs strict So (Ran end) input input' output output' =
    RunsFrom (λ text requests answers. So requests answers × (strict ≡ true → AreTakenAt end answers)) end
    input input' output output' []
RunsAs strict So (Stopped it) input input' output output' =
    (strict ≡ true) × StopsThere So it input input' output output'

-- A strict run. It stopped at the first refused line; or it ended as another run does, and no command was
-- refused, but perhaps one whose answer was written in part. `So` holds of requests and answers.
abbrev pub RunsStrictly : (List Request → List Answer → Type 0) → LinesEnd → Option (List ℕ)
    → Option (List ℕ) → Option (List ℕ) → Option (List ℕ) → Type 0
RunsStrictly So (Ran end) input input' output output' =
    RunsFrom (λ text requests answers. So requests answers × AreTakenAt end answers) end
    input input' output output' []
RunsStrictly So (Stopped it) input input' output output' = StopsThere So it input input' output output'

-- what follows of a step after so many lines: further lines, or how the run ends
abbrev pub stop_at : ℕ → RefusedLine → Stop
stop_at taken it = record { line = min (taken + 1) most_lines; refused = it }

abbrev pub Follows : Bool → ℕ → Stepped → Result ℕ LinesEnd → Type 0
Follows strict taken (On lines None) next = next ≡ Ok (min (taken + lines) most_lines)
Follows strict taken (On lines (Some it)) next =
    next ≡ (if strict then Err (Stopped (stop_at taken it)) else Ok (min (taken + lines) most_lines))
Follows strict taken (Last None) next = next ≡ Err (Ran Finished)
Follows strict taken (Last (Some it)) next =
    next ≡ Err (if strict then Stopped (stop_at taken it) else Ran Finished)
Follows strict taken (End end) next = next ≡ Err (Ran end)

-- ---- what a strict run of the program leaves

-- the tables of which one is found by the next opening: those that were kept before or closed by a command,
-- and the last one where the program tried to close it
abbrev pub tables_found : Outcome → SessionState → List Table
tables_found WentWell s = with_last s.state s.stops.kept_so_far
tables_found Unclosed s = with_last s.state s.stops.kept_so_far
tables_found outcome s = s.stops.kept_so_far

-- What is left of a store in this state, of which stops are told from that moment on. Where all went well,
-- the blocks are an image of its table, also after a stop. However it ended, stops left blocks that opening
-- refuses, or an image of one of the tables so far or the last; and what they are found to have left over a
-- device that commits what opening takes is an image of one of those that were kept: where the run stopped,
-- of none that it made since the last closing. The session counts no fault that the device does not count in
-- the end.
pub record IsLeft {D : Type 0} (m : device.Ghosts D) (outcome : Outcome) (moment : ℕ) (left : D)
    (s : SessionState) : Type 0 where
  pub well : outcome ≡ WentWell → (t : Table) × (s.state ≡ Alive t) × IsImage (m.shown left) t
      × Only (m.shown left) (m.may_leave left)
  pub stops : (c : Blocks) → m.left_since left moment c
      → IsRefusedOrImageOf (with_last s.state s.stops.so_far) c
  pub kept : (c : Blocks) → FoundSince m.recovery left moment c → IsImageOfOne (tables_found outcome s) c
  pub counted : s.faults ≤ m.faults left

-- What the program says of the end of a strict run: nothing where it went well, else a line that says why, or
-- a front of it.
abbrev pub TellsOutcome : LinesEnd → Outcome → Option (List ℕ) → Option (List ℕ) → Type 0
TellsOutcome end WentWell old new = (end ≡ Ran Finished) × Keeps old new
TellsOutcome end StoppedAtLine old new = (it : Stop) × (end ≡ Stopped it) × AppendsSome old new (told_stop it)
TellsOutcome end Failed old new = AppendsSome old new told_fault
TellsOutcome end Unclosed old new =
    (end ≡ Ran Finished) × (r : Refusal) × AppendsSome old new (told_refusal r)

-- What is known of a store in the end, of which nothing is known of stops: where all went well, the blocks
-- are an image of its table.
abbrev pub SettlesInImage : Outcome → Blocks → Standing → Type 0
SettlesInImage outcome blocks s = outcome ≡ WentWell → (t : Table) × (s.state ≡ Alive t) × IsImage blocks t

-- A strict run of the program over a store: how its lines ended, and that was told; that its commands were
-- answered by a lawful session, from each state that the store was in, and what is left then; and that over
-- an honest device they were answered lawfully from the first check on that was answered ok, and where all
-- went well the blocks are an image of the table in the end.
pub record RunsToSettle {D : Type 0} (m : device.Ghosts D) (Was : SessionState → Type 0) (outcome : Outcome)
    (opened left : D) (input input' output output' said said' : Option (List ℕ)) : Type 0 where
  pub end : LinesEnd
  pub told : TellsOutcome end outcome said said'
  pub run : (s : SessionState) → Was s → (s' : SessionState)
      × RunsStrictly (IsSession s s') end input input' output output'
      × IsLeft m outcome s.stops.since left s'
      × LeavesTablesOf m.moment m.left_since m.recovery s' opened left
  pub checked : m.honest opened
      → RunsStrictly (LawfulOnceChecked (SettlesInImage outcome (m.shown left))) end input input' output
      output'
