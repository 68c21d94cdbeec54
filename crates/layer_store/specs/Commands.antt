-- What each command keeps of the store that it works on: one word for commands that change, and one for those
-- that ask.
use Rattle.std.specs.Prelude.{◌≡◌, ◌⊎◌, ◌↔◌, ℕ, Bool, true, false, List, Option, Result, Vec, Ok, Err, OnErr, OnOk}
use Rattle.std.specs.Prelude.{IfErr}
use Rattle.live_layers.specs.Creating.{version_by}
use Rattle.live_layers.specs.Faults.{HasRefusalCause, IsMet, may_refuse}
use Rattle.live_layers.specs.Image.{IsRefusedOrImageOf, MayRemain}
use Rattle.live_layers.specs.Keeping.{LooksAtTree}
use Rattle.live_layers.specs.Questions.{is_admitted}
use Rattle.live_layers.specs.Refusals.{IsOfNone, Passes, Refuses, refusals_in}
use Rattle.live_layers.specs.Staying.{KeepsEachTree, KeepsPagesAndRecords, KeepsVersions, LeavesVersion}
use Rattle.live_layers.specs.Unmade.{is_broken, told}
use Rattle.live_layers.specs.declared.unmade.Unmade.{Unmade}
use Rattle.live_layers.specs.declared.unmade.Unmade.TheVariants as unmade
use Rattle.page_cache.specs.Cache.{IsHonest, gate_of}
use Rattle.page_cache.specs.declared.cache.PageCache.{PageCache}
use Rattle.page_file.specs.Fault.{number_of}
use Rattle.page_file.specs.declared.fault.Fault.{Fault}
use Rattle.page_file.specs.declared.gate.Gate.TheVariants.{Shut}
use Rattle.plain_table.specs.Answers.{boxes_answer, done_answer}
use Rattle.plain_table.specs.Commands.{Command}
use Rattle.plain_table.specs.Commands.Command.{Range, Reopen}
use Rattle.plain_table.specs.Step.{Answer, changes}
use Rattle.plain_table.specs.Step.Answer.{Refused}
use Rattle.plain_table.specs.Table.{Table, layer_at}
use Rattle.plain_table.specs.declared.boxes.AnyBox.{AnyBox}
use Rattle.plain_table.specs.declared.queries.RawQuery.{RawQuery}
use Rattle.plain_table.specs.declared.refusal.Refusal.{Refusal}
use Rattle.plain_table.specs.declared.refusal.Refusal.TheVariants as refusal
use Rattle.layer_store.specs.Checked.{LawfulReply, Standing}
use Rattle.store_law.specs.Sessions.{LawfulStep, SessionState, Takes}
use Rattle.store_law.specs.States.Request.{Asks}
use Rattle.store_law.specs.States.StoreState.{Alive, Dead}
use Rattle.store_law.specs.Stops.{is_end, tables_left}
use Rattle.layer_store.specs.Representation.{IsInState, IsSettled, KeepsStore, Represents, RepresentsTable}
use Rattle.layer_store.specs.Representation.{SpellsUnchanged, StandsAs, StopsLeave, cache_in, device_in}
use Rattle.layer_store.specs.Representation.{file_version, layers_in, newest_in}
use Rattle.layer_store.specs.declared.store.Store.{Store}
use Rattle.tree_node.specs.Searches.{admitted}

-- the command was answered so, by one lawful step from whatever state of a session the store was in
abbrev pub TakesStep : {D A : Type 0} {m : _} → Store D A m → Store D A m → Command → Answer → Type 0
TakesStep old new c a = Takes Represents old new (λ s s'. LawfulStep s (Asks c) a s')

-- and lawfully from whatever state the store was in, whatever stops leave of it, as after a check that was
-- answered ok
abbrev pub TakesReply : {D A : Type 0} {m : _} → Store D A m → Store D A m → Command → Answer → Type 0
TakesReply old new c a = Takes StandsAs old new (λ s s'. LawfulReply s (Asks c) a s')

-- its device stays honest
abbrev pub StaysHonest : {D A : Type 0} {m : _} → Store D A m → Store D A m → Type 0
StaysHonest old new = IsHonest (cache_in old) → IsHonest (cache_in new)

-- a store that had failed answers so, and stays as it was, on any device
abbrev pub StaysDead : {D A : Type 0} {m : _} {T : Type 0} → Store D A m → Store D A m → Result T Refusal
    → Type 0
StaysDead old new result = IsInState old Dead → (result ≡ Err (refusal.StoreFailed 19)) × (new ≡ old)

-- the count of the device's faults rose by one where it was refused with a fault of the device, and else not
abbrev pub CountsFaults : {D A : Type 0} {m : _} {T : Type 0} → Store D A m → Store D A m → Result T Refusal
    → Type 0
CountsFaults {m = m} old new result =
    HasRefusalCause (m.faults (device_in old)) (m.faults (device_in new)) result

-- What refused a command of a store that was alive, sound or not, where this is the cache that it left: one of
-- the table's own refusals; or a fault that was met, which is want of memory, a device that failed, a damaged page,
-- or want of a page number where each is live; or such a fault ended the store, which tells its number.
abbrev pub IsMetIn : {D A : Type 0} {m : _} → PageCache D A m → Refusal → Type 0
IsMetIn cache r = IsMet cache (unmade.Refused r)
    ⊎ ((f : Fault) × (r ≡ refusal.StoreFailed (number_of f)) × IsMet cache (unmade.Broken f))

-- What was asked of a store that was alive, sound or not, is refused by the first condition that holds, or by a fault;
-- and what is done, answered, or ended the store, by none.
abbrev pub IsInTurn : {T : Type 0} → (Bool → List (Bool × Refusal)) → Result T Refusal → Type 0
IsInTurn conditions (Ok x) = Passes conditions
IsInTurn conditions (Err r) = Refuses conditions r ⊎ (IsOfNone r ⊎ ((is_end r ≡ true) × Passes conditions))

-- the refusal is StoreFailed exactly where the store is dead
abbrev pub TellsOfEnd : {D A : Type 0} {m : _} → Store D A m → Refusal → Type 0
TellsOfEnd store r = (is_end r ≡ true) ↔ IsInState store Dead

-- A command that may change the table was asked, and done or refused.
pub record Changes {D A : Type 0} {m : _} (old new : Store D A m) (c : Command)
    (result : Result (Unit {0}) Refusal) : Type 0 where
  -- it was answered by one lawful step
  pub step : TakesStep old new c (done_answer result)
  -- and lawfully of each store that is alive with a table or dead, whatever stops leave of it
  pub reply : TakesReply old new c (done_answer result)
  pub honest : StaysHonest old new
  -- a stop leaves what one before the call leaves, or blocks that opening refuses
  pub stops : (s : SessionState) (t : Table) → Represents old s → s.state ≡ Alive t
      → StopsLeave old new (IsRefusedOrImageOf (tables_left s.stops.now))
  -- where the table stays, it leaves nothing else than before
  pub quiet : (s : SessionState) (t : Table) → Represents old s → s.state ≡ Alive t → changes t c ≡ false
      → StopsLeave old new (MayRemain s.stops.now)
  -- and what was settled is so still
  pub settled : (t : Table) → RepresentsTable old t → changes t c ≡ false → IsSettled old → IsSettled new
  -- where nothing was changed since the last closing, or the last that was tried, page 2 spells the records
  -- still
  pub spelled : (t : Table) → IsInState old (Alive t) → SpellsUnchanged old
      → IsInState new Dead ⊎ SpellsUnchanged new
  -- refused, it keeps pages and records, so each tree, but where the store has failed
  pub refused : OnErr result (IsInState new Dead ⊎ KeepsPagesAndRecords (layers_in old) (layers_in new))
  -- by StoreFailed exactly then
  pub ended : IfErr result (TellsOfEnd new)
  -- in any store that was alive by a fault that was met, or as the table refuses
  pub met : IsInState old Dead ⊎ IfErr result (IsMetIn (cache_in new))
  -- and in its turn: the table's conditions are tried in their order, by the records and by what pages told
  pub in_turn : IsInState old Dead ⊎ IsInTurn (refusals_in (layers_in old) c) result
  -- a store that had failed stays so
  pub dead : StaysDead old new result
  -- the version of the file stays, but where a layer was made; and that to which it may be raised
  pub versions : LeavesVersion (layers_in old) (layers_in new)
      (version_by c (newest_in old) (file_version old)) result
  -- faults of the device are counted
  pub cause : CountsFaults old new result

-- A command that only asks was asked, and its result is the answer.
pub record Answers {D A : Type 0} {m : _} {T : Type 0} (old new : Store D A m) (c : Command)
    (answer : Result T Refusal → Answer) (result : Result T Refusal) : Type 0 where
  -- it was answered by one lawful step
  pub step : TakesStep old new c (answer result)
  -- and lawfully of each store that is alive with a table or dead, whatever stops leave of it
  pub reply : TakesReply old new c (answer result)
  -- the gate stays with its moment, pages and records, so each tree, and the versions; and what was settled
  -- is so still
  pub kept : KeepsStore old new
  -- a stop leaves nothing else than before
  pub stops : (s : SessionState) → Represents old s → StopsLeave old new (MayRemain s.stops.now)
  -- refused, it is so by StoreFailed exactly where the store is dead
  pub ended : IfErr result (TellsOfEnd new)
  -- in any store that was alive by memory, the device, a damaged page, or as the table refuses
  pub met : IsInState old Dead ⊎ IfErr result (λ r. may_refuse r ≡ true)
  -- and in its turn: the table's conditions are tried in their order, by the records and by what pages told
  pub in_turn : IsInState old Dead ⊎ IsInTurn (refusals_in (layers_in old) c) result
  -- a store that had failed stays so
  pub dead : StaysDead old new result
  -- faults of the device are counted
  pub cause : CountsFaults old new result

-- Pages were asked for by no command, so no step is taken.
pub record OnlyAsks {D A : Type 0} {m : _} {T : Type 0} (old new : Store D A m)
    (result : Result T Refusal) : Type 0 where
  -- the gate stays with its moment, pages and records, so each tree, and the versions; and what was settled
  -- is so still
  pub kept : KeepsStore old new
  -- a session goes on as it was, but for the count of faults
  pub goes_on : (s : SessionState) → Represents old s
      → Represents new (record s { faults = m.faults (device_in new) })
  -- and so it does whatever stops leave
  pub stands_on : (s : Standing) → StandsAs old s
      → StandsAs new (record s { faults = m.faults (device_in new) })
  -- a stop leaves nothing else than before
  pub stops : (s : SessionState) → Represents old s → StopsLeave old new (MayRemain s.stops.now)
  -- refused, it is so by StoreFailed exactly where the store is dead
  pub ended : IfErr result (TellsOfEnd new)
  -- in any store that was alive by memory, the device, a damaged page, or as the table refuses
  pub met : IsInState old Dead ⊎ IfErr result (λ r. may_refuse r ≡ true)
  -- a store that had failed stays so
  pub dead : StaysDead old new result
  -- faults of the device are counted
  pub cause : CountsFaults old new result

-- A range query of a layer was asked: its rows are the answer, and it looked at the nodes of the layer's tree
-- that it admits.
pub record AnswersRange {D A : Type 0} {m : _} (old new : Store D A m) (layer : List ℕ) (query : RawQuery)
    (tag : Option ℕ) (result : Result (Vec (ℕ × AnyBox × ℕ) A) Refusal) : Type 0 where
  pub answers : Answers old new (Range layer query tag) boxes_answer result
  pub looks : (t : Table) → IsInState old (Alive t) → OnOk result
      (LooksAtTree (layers_in old) (layers_in new) layer
      (admitted (is_admitted (layer_at t layer).dims query)))

-- A closing that was refused, and not finished: the device is that of a store that goes on, as after a
-- reopening that was refused so, with each tree and the versions, and its gate is not shut.
pub record IsUnfinished {D A : Type 0} {m : _} (old : Store D A m) (r : Refusal) (device : D) : Type 0 where
  pub left : Store D A m
  pub has : device ≡ device_in left
  pub step : TakesStep old left Reopen (Refused r)
  pub going : IsInState left Dead → ⊥
  pub trees : KeepsEachTree (layers_in old) (layers_in left)
  pub versions : KeepsVersions (layers_in old) (layers_in left)
  pub unshut : ¬ (gate_of (cache_in left) ≡ Shut)

-- What was made of the layers is told, and where it broke off half way a store that was alive has failed.
pub record Tells (old new : Bool) (made : Result (Unit {0}) Unmade)
    (result : Result (Unit {0}) Refusal) : Type 0 where
  pub answer : result ≡ told made
  pub failed : old ≡ false → new ≡ is_broken made
