-- What a stop leaves of a store, and how an answered request changes that. Our rule, docs/FORMAT.md, "What
-- stops leave of a store".
use Rattle.std.specs.Prelude.{ℕ, Bool, true, false, if◌then◌else◌, List, [], ◌∷◌}
use Rattle.plain_table.specs.Commands.{Command}
use Rattle.plain_table.specs.Commands.Command.{Reopen}
use Rattle.plain_table.specs.Step.{Answer, changes}
use Rattle.plain_table.specs.Step.Answer.{Refused}
use Rattle.plain_table.specs.Table.{Table}
use Rattle.plain_table.specs.declared.refusal.Refusal.{Refusal}
use Rattle.plain_table.specs.declared.refusal.Refusal.TheVariants as refusal
use Rattle.store_law.specs.States.{Request, StoreState}
use Rattle.store_law.specs.States.Request.{Asks, BadCommand}
use Rattle.store_law.specs.States.StoreState.{Alive, Dead}

-- What a stop between two requests leaves of a store: surely an image of this table; or perhaps one of one of
-- these, and else nothing that is opened.
pub data AfterStop : Type 0 where
  Surely : Table → AfterStop
  Perhaps : List Table → AfterStop

-- What stops leave of a store: one now, between two requests; and of one at any moment since that of a
-- beginning an image of one of these tables, and else nothing that is opened. Over a device that commits a
-- stop now is found to have left an image of one of the tables that are kept, and one at any moment since
-- that of the beginning of one of those that were.
pub record Stops : Type 0 where
  pub now : AfterStop
  pub since : ℕ
  pub so_far : List Table
  pub kept : List Table
  pub kept_so_far : List Table

-- the same, but for what a stop now leaves
abbrev pub with_now : AfterStop → Stops → Stops
with_now now stops =
    record {
      now = now;
      since = stops.since;
      so_far = stops.so_far;
      kept = stops.kept;
      kept_so_far = stops.kept_so_far;
    }

-- the tables of which a stop may leave an image
abbrev pub tables_left : AfterStop → List Table
tables_left (Surely t) = t ∷ []
tables_left (Perhaps ts) = ts

-- the refusal says that the store is dead
abbrev pub is_end : Refusal → Bool
is_end (refusal.StoreFailed cause) = true
is_end r = false

-- A closing of the table is finished where it is answered, and where the store failed in reading the file
-- again; else a stop leaves what it left before, or perhaps this table too.
abbrev pub after_closing : Table → AfterStop → Answer → AfterStop
after_closing t old (Refused r) = if is_end r then Surely t else Perhaps (t ∷ tables_left old)
after_closing t old a = Surely t

-- A finished closing keeps its table alone; after another perhaps it is kept, too.
abbrev pub kept_after_closing : Table → List Table → Answer → List Table
kept_after_closing t old (Refused r) = if is_end r then t ∷ [] else t ∷ old
kept_after_closing t old a = t ∷ []

-- A change of the table is made behind an open gate, so a stop after it leaves nothing that is opened. One
-- that gave up may or may not have opened the gate.
abbrev pub after_change : AfterStop → Answer → AfterStop
after_change old (Refused r) = if is_end r then Perhaps [] else Perhaps (tables_left old)
after_change old a = Perhaps []

-- only a closing, and a change of the table, changes what stops leave
abbrev pub after_command : Table → Stops → Command → Answer → Stops
after_command t old Reopen a = record {
  now = after_closing t old.now a;
  since = old.since;
  so_far = t ∷ old.so_far;
  kept = kept_after_closing t old.kept a;
  kept_so_far = t ∷ old.kept_so_far;
}
after_command t old c a = if changes t c then with_now (after_change old.now a) old else old

-- what stops leave after a request
abbrev pub after_request : StoreState → Stops → Request → Answer → Stops
after_request state old BadCommand a = old
after_request (Alive t) old (Asks c) a = after_command t old c a
after_request Dead old (Asks c) a = old
