-- What each end of a run says.
use Rattle.std.specs.Prelude.{ℕ, ◌≡◌, ◌≤◌, ◌⊎◌, Bool, true, false, List, [], ◌∷◌, Option}
use Rattle.std.specs.Io.KnownBytes.{Keeps}
use Rattle.block_device.specs.Device.{Blocks, LeavesOnly, Recovery}
use Rattle.live_layers.specs.Image.{CommitsWhatOpens, IsImage, IsImageOfOne, IsRefusedOrImageOf}
use Rattle.layer_store.specs.Checked.{LawfulOnceChecked, Standing}
use Rattle.store_law.specs.Sessions.{SessionState}
use Rattle.store_law.specs.States.{Request, StoreState}
use Rattle.store_law.specs.States.StoreState.{Alive, Dead}
use Rattle.plain_table.specs.Step.{Answer}
use Rattle.plain_table.specs.Table.{Table}
use Rattle.plain_table.specs.declared.refusal.Refusal.{Refusal}
use Rattle.command_shell.specs.TextCommands.{IsUnfinished}
use Rattle.command_shell.specs.Serving.{IsSession, RunState, ServesBy, of_any_text}
use Rattle.reply_texts.specs.Texts.{told_fault, told_refusal}
use Rattle.reply_texts.specs.Writing.{AppendsSome}
use Rattle.command_shell.specs.declared.session.RunEnd.{RunEnd}
use Rattle.command_shell.specs.declared.session.RunEnd.TheVariants.{Finished, ReadFault, WriteFault}
use Rattle.command_shell.specs.declared.session.Stepped.{Stepped}
use Rattle.command_shell.specs.declared.session.Stepped.TheVariants.{On, Last, End}

-- all commands that were read to their last newline are answered
abbrev pub AnswersAllLines : (List ℕ → List Request → List Answer → Type 0) → Option (List ℕ) → Option (List ℕ)
    → Option (List ℕ) → Option (List ℕ) → List ℕ → Type 0
AnswersAllLines So input input' output output' pending = (left : List ℕ) × IsUnfinished left
    × ServesBy So false true input input' output output' pending left

-- the last answer was written in part
abbrev pub BreaksOffAnswer : (List ℕ → List Request → List Answer → Type 0) → Option (List ℕ) → Option (List ℕ)
    → Option (List ℕ) → Option (List ℕ) → List ℕ → Type 0
BreaksOffAnswer So input input' output output' pending = (ended : Bool) × (left : List ℕ)
    × ServesBy So ended false input input' output output' pending left

-- A run that begins with pending bytes. Finished: all that there was is read, and all its commands are
-- answered. ReadFault: the same of all commands that were read to their last newline. WriteFault: the last
-- answer is written in part; or all commands that were read to their last newline are answered. `So` holds of
-- the text, its requests and their answers.
abbrev pub RunsFrom : (List ℕ → List Request → List Answer → Type 0) → RunEnd → Option (List ℕ) → Option (List ℕ)
    → Option (List ℕ) → Option (List ℕ) → List ℕ → Type 0
RunsFrom So Finished input input' output output' pending =
    ServesBy So true true input input' output output' pending []
RunsFrom So ReadFault input input' output output' pending =
    AnswersAllLines So input input' output output' pending
RunsFrom So WriteFault input input' output output' pending =
    BreaksOffAnswer So input input' output output' pending
    ⊎ AnswersAllLines So input input' output output' pending

-- a run that begins with nothing pending
abbrev pub RunsBy : (List Request → List Answer → Type 0) → RunEnd → Option (List ℕ) → Option (List ℕ)
    → Option (List ℕ) → Option (List ℕ) → Type 0
RunsBy So end input input' output output' = RunsFrom (of_any_text So) end input input' output output' []

-- the same, whose commands are answered by a lawful session
abbrev pub Runs : RunEnd → RunState → RunState → Type 0
Runs end before after =
    RunsBy (IsSession before.session after.session) end before.unread after.unread before.written
    after.written

-- The same of a store on an honest device, whatever file was opened: from the first check on that was
-- answered ok, the rest of the commands is answered lawfully, from some table on, and P holds of what is
-- known in the end.
abbrev pub RunsOnceChecked : (Standing → Type 0) → RunEnd → Option (List ℕ) → Option (List ℕ)
    → Option (List ℕ) → Option (List ℕ) → Type 0
RunsOnceChecked P end input input' output output' =
    RunsBy (LawfulOnceChecked P) end input input' output output'

-- the tables so far, and with them that of a store which goes on
abbrev pub with_last : StoreState → List Table → List Table
with_last (Alive t) so_far = t ∷ so_far
with_last Dead so_far = so_far

-- over a device that commits what opening takes, a stop since that moment is found to have left these blocks
abbrev pub FoundSince : {D : Type 0} → Recovery D → D → ℕ → Blocks → Type 0
FoundSince recovery device moment c = CommitsWhatOpens recovery × recovery.found_since device moment c

-- A run of the program, from its first read to the closing of its store. Where it went well, all that there
-- was is answered, and the blocks are an image of the table at the session's end. However it ended, stops
-- since the session's beginning, of which `left` tells, left blocks that opening refuses, or an image of one
-- of the tables so far or the last; and what they are found to have left, of which `found` tells, is an image
-- of one of those that were kept, or of the last. The session counts no fault that the device does not count
-- in the end.
pub record RunsToClose (went_well : Bool) (blocks : Blocks) (left found : Blocks → Type 0) (faults : ℕ)
    (before after : RunState) : Type 0 where
  pub end : RunEnd
  pub runs : Runs end before after
  pub well : went_well ≡ true
      → (end ≡ Finished) × (t : Table) × (after.session.state ≡ Alive t) × IsImage blocks t
  pub stops : (c : Blocks) → left c
      → IsRefusedOrImageOf (with_last after.session.state after.session.stops.so_far) c
  pub kept : (c : Blocks) → found c
      → IsImageOfOne (with_last after.session.state after.session.stops.kept_so_far) c
  pub counted : after.session.faults ≤ faults

-- Over a run of calls that began at `old`, each stop left blocks that opening refuses, or an image of one of
-- the tables so far in this state of a session or the last.
abbrev pub LeavesTablesOf : {D : Type 0} → (D → ℕ) → (D → ℕ → Blocks → Type 0) → Recovery D → SessionState
    → D → D → Type 0
LeavesTablesOf moment left_since recovery s old new =
    LeavesOnly moment left_since recovery old new (IsRefusedOrImageOf (with_last s.state s.stops.so_far))

-- What is known of a store in the end, of which nothing is known of stops: where the run went well, the
-- blocks are an image of its table.
abbrev pub EndsInImage : Bool → Blocks → Standing → Type 0
EndsInImage went_well blocks s = went_well ≡ true → (t : Table) × (s.state ≡ Alive t) × IsImage blocks t

-- A run of the program over a store on an honest device, whatever file was opened. Where it went well, all
-- that there was is answered. From the first check on that was answered ok, the rest of the commands is
-- answered lawfully, from some table on, and where it went well, the blocks are an image of the table in the
-- end.
pub record ChecksToClose (went_well : Bool) (blocks : Blocks)
    (input input' output output' : Option (List ℕ)) : Type 0 where
  pub end : RunEnd
  pub runs : RunsOnceChecked (EndsInImage went_well blocks) end input input' output output'
  pub well : went_well ≡ true → end ≡ Finished

-- What the program says of the end of a run: nothing where it went well, else a line that says why, or a
-- front of it.
abbrev pub TellsEnd : Bool → Option (List ℕ) → Option (List ℕ) → Type 0
TellsEnd true old new = Keeps old new
TellsEnd false old new = AppendsSome old new told_fault
    ⊎ ((r : Refusal) × AppendsSome old new (told_refusal r))

-- one step of a run: a command further, the last one of the text, or the end
abbrev pub StepsTo : (List ℕ → List Request → List Answer → Type 0) → Stepped → Option (List ℕ)
    → Option (List ℕ) → Option (List ℕ) → Option (List ℕ) → List ℕ → List ℕ → Type 0
StepsTo So (On lines refused) input input' output output' pending left =
    ServesBy So false true input input' output output' pending left
StepsTo So (Last refused) input input' output output' pending left =
    ServesBy So true true input input' output output' pending []
StepsTo So (End end) input input' output output' pending left =
    RunsFrom So end input input' output output' pending

-- what holds where the run goes on
abbrev pub IfOn : Stepped → Type 0 → Type 0
IfOn (On lines refused) P = P
IfOn step P = Unit {0}
