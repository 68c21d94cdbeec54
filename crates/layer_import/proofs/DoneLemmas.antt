-- What lawful answers say of the table, where each command was done.
use Rattle.std.proofs.Common.{◌≡◌, ◌∙◌, ◌⊎◌, ℕ, Bool, true, false, not, cond, List, [], ◌∷◌, Option}
use Rattle.std.proofs.Common.{Some}
use Rattle.std.proofs.Common.{None, ap, ap₂, inl, inr, refl, subst, sym}
use Rattle.std.specs.FinMap.{contains_key, len}
use Rattle.std.specs.Prelude.{nat_lt}
use Rattle.block_device.specs.Device.{HasRisen}
use Rattle.plain_table.specs.Commands.{Command}
use Rattle.plain_table.specs.Commands.Command.{Count, Create, Insert, Load, Move, Delete, Drop, Get, Range}
use Rattle.plain_table.specs.Commands.Command.{Nearest, Join, Layers, Dump, Check, Reopen}
use Rattle.plain_table.specs.Loads.{GivenObjects}
use Rattle.plain_table.specs.Step.{Answer, after, changes, first_refusal, kept_or, refused_or, reply_of}
use Rattle.plain_table.specs.Step.Answer.{Counted, Done, Refused}
use Rattle.plain_table.specs.Table.{Table, is_layer_name, layer_at}
use Rattle.plain_table.specs.declared.refusal.Refusal.{Refusal}
use Rattle.plain_table.specs.declared.refusal.Refusal.TheVariants as refusal
use Rattle.store_law.specs.Lawful.{Lawful, LawfulFrom}
use Rattle.store_law.specs.Sessions.{LawfulStep, Session, SessionState}
use Rattle.store_law.specs.States.{Request, StoreState}
use Rattle.store_law.specs.States.Request.{Asks, BadCommand}
use Rattle.store_law.specs.States.StoreState.{Alive, Dead}
use Rattle.store_law.specs.Stops.{Stops, after_request}
use Rattle.layer_import.specs.Imports.{AreDone, ArePut, IsFilled, IsLoaded, IsMade, IsPut, all_done, asked}
use Rattle.layer_import.specs.Imports.{import_commands, insertions}

-- ---- the tables of which stops leave an image

-- they stay where nothing is closed
pub record SameTables (old new : Stops) : Type 0 where
  pub so_far : new.so_far ≡ old.so_far
  pub kept : new.kept_so_far ≡ old.kept_so_far

either_same : (b : Bool) (x y : Stops) → SameTables y x → SameTables y (cond b x y)
either_same true x y same = same
either_same false x y same = record { so_far = refl; kept = refl }

put_keeps : (state : StoreState) (old : Stops) (r : Request) (a : Answer) → IsPut r
    → SameTables old (after_request state old r a)
put_keeps state old BadCommand a put = elim put [ ]
put_keeps (Alive t) old (Asks (Create name dims fanout)) a put =
    either_same (changes t (Create name dims fanout)) _ old (record { so_far = refl; kept = refl })
put_keeps (Alive t) old (Asks (Insert name id box tag)) a put =
    either_same (changes t (Insert name id box tag)) _ old (record { so_far = refl; kept = refl })
put_keeps (Alive t) old (Asks (Load name objects)) a put =
    either_same (changes t (Load name objects)) _ old (record { so_far = refl; kept = refl })
put_keeps (Alive t) old (Asks (Count name)) a put = record { so_far = refl; kept = refl }
put_keeps (Alive t) old (Asks (Move name id box)) a put = elim put [ ]
put_keeps (Alive t) old (Asks (Delete name id)) a put = elim put [ ]
put_keeps (Alive t) old (Asks (Drop name)) a put = elim put [ ]
put_keeps (Alive t) old (Asks (Get name id)) a put = elim put [ ]
put_keeps (Alive t) old (Asks (Range name query tag)) a put = elim put [ ]
put_keeps (Alive t) old (Asks (Nearest name k point)) a put = elim put [ ]
put_keeps (Alive t) old (Asks (Join first second within)) a put = elim put [ ]
put_keeps (Alive t) old (Asks Layers) a put = elim put [ ]
put_keeps (Alive t) old (Asks Dump) a put = elim put [ ]
put_keeps (Alive t) old (Asks Check) a put = elim put [ ]
put_keeps (Alive t) old (Asks Reopen) a put = elim put [ ]
put_keeps Dead old (Asks c) a put = record { so_far = refl; kept = refl }

pub session_keeps : (old new : SessionState) (rs : List Request) (as' : List Answer) → ArePut rs
    → Session old rs as' new → SameTables old.stops new.stops
session_keeps old new [] [] put same = record {
  so_far = ap (λ (s : SessionState). s.stops.so_far) same;
  kept = ap (λ (s : SessionState). s.stops.kept_so_far) same;
}
session_keeps old new (r ∷ rs) (a ∷ as') put session =
    let one = put_keeps old.state old.stops r a put.0 in
    let rest = session_keeps session.0 new rs as' put.1 session.2 in
    let step = session.1.stops in
    record {
      so_far = rest.so_far ∙ (ap (λ (x : Stops). x.so_far) step ∙ one.so_far);
      kept = rest.kept ∙ (ap (λ (x : Stops). x.kept_so_far) step ∙ one.kept);
    }
session_keeps old new [] (a ∷ as') put session = elim session [ ]
session_keeps old new (r ∷ rs) [] put session = elim session [ ]

-- ---- commands that are done

-- the table in which a store is then
pub record LeavesTable (t : Table) (commands : List Command) (new : SessionState) : Type 0 where
  pub table : Table
  pub alive : new.state ≡ Alive table
  pub done : AreDone t commands table

done_so : (rose : Type 0) (t : Table) (c : Command) (new : StoreState) → LawfulFrom rose t c Done new
    → (reply_of t c ≡ Done) × (new ≡ Alive (after t c))
done_so rose t c new (inl answered) = (sym answered.0, answered.1)
done_so rose t c new (inr (inl gave)) = elim gave.0 [ ]
done_so rose t c new (inr (inr died)) = elim died.0 [ ]

done_step : (old new : SessionState) (t : Table) (c : Command) → old.state ≡ Alive t
    → LawfulStep old (Asks c) Done new → (reply_of t c ≡ Done) × (new.state ≡ Alive (after t c))
done_step old new t c alive step =
    done_so (HasRisen old.faults new.faults) t c new.state
    (subst (λ (state : StoreState). Lawful (HasRisen old.faults new.faults) state (Asks c) Done new.state)
    alive step.answer)

pub all_done_so : (old new : SessionState) (t : Table) (cs : List Command) → old.state ≡ Alive t
    → Session old (asked cs) (all_done cs) new → LeavesTable t cs new
all_done_so old new t [] alive same = record {
  table = t;
  alive = ap (λ (s : SessionState). s.state) same ∙ alive;
  done = refl;
}
all_done_so old new t (c ∷ cs) alive session =
    let one = done_step old session.0 t c alive session.1 in
    let rest = all_done_so session.0 new (after t c) cs one.1 session.2 in
    record { table = rest.table; alive = rest.alive; done = (one.0, rest.done) }

-- ---- what a count says of the layer

-- the reply to a count, by whether the name is one, and whether a layer has it
abbrev reply : Bool → Bool → ℕ → Answer
reply named there n =
    refused_or (first_refusal ((not named, refusal.BadName) ∷ (not there, refusal.NoLayer) ∷ [])) (Counted n)

counted : (named there : Bool) (n k : ℕ) → Counted k ≡ reply named there n → (there ≡ true) × (k ≡ n)
counted true true n k e = (refl, cc)
counted true false n k e = absurd (cc)
counted false there n k e = absurd (cc)

missing : (named there : Bool) (n : ℕ) → Refused refusal.NoLayer ≡ reply named there n → there ≡ false
missing true true n e = absurd (cc)
missing true false n e = refl
missing false there n e = absurd (cc)

kept_same : (o : Option Refusal) (t : Table) → kept_or o t t ≡ t
kept_same (Some r) t = refl
kept_same None t = refl

counted_so : (rose : Type 0) (t : Table) (layer : List ℕ) (k : ℕ) (new : StoreState)
    → LawfulFrom rose t (Count layer) (Counted k) new
    → (contains_key t layer ≡ true) × (k ≡ len (layer_at t layer).objects) × (new ≡ Alive t)
counted_so rose t layer k new (inl answered) =
    let is = counted (is_layer_name layer) (contains_key t layer) _ k answered.0 in
    (is.0, is.1, answered.1 ∙ ap Alive (kept_same _ t))
counted_so rose t layer k new (inr (inl gave)) = elim gave.0 [ ]
counted_so rose t layer k new (inr (inr died)) = elim died.0 [ ]

missing_so : (rose : Type 0) (t : Table) (layer : List ℕ) (new : StoreState)
    → LawfulFrom rose t (Count layer) (Refused refusal.NoLayer) new
    → (contains_key t layer ≡ false) × (new ≡ Alive t)
missing_so rose t layer new (inl answered) = (
  missing (is_layer_name layer) (contains_key t layer) _ answered.0,
  answered.1 ∙ ap Alive (kept_same _ t),
)
missing_so rose t layer new (inr (inl gave)) = elim gave.0 [ ]
missing_so rose t layer new (inr (inr died)) = elim died.0 [ ]

-- one step from a store that is alive with this table
from_table : (old new : SessionState) (t : Table) (c : Command) (a : Answer) → old.state ≡ Alive t
    → LawfulStep old (Asks c) a new → LawfulFrom (HasRisen old.faults new.faults) t c a new.state
from_table old new t c a alive step =
    subst (λ (state : StoreState). Lawful (HasRisen old.faults new.faults) state (Asks c) a new.state)
    alive step.answer

-- ---- the commands of an import

module _ (t : Table) (layer : List ℕ) (dims fanout : ℕ) (objects : GivenObjects) where
  abbrev by_case : Bool → Bool → List Command
  by_case there filled =
      cond there (cond filled (insertions layer objects) (Load layer objects ∷ []))
      (Create layer dims fanout ∷ Load layer objects ∷ [])

  leaves_by : (there filled : Bool) (new : SessionState) → contains_key t layer ≡ there
      → nat_lt 0 (len (layer_at t layer).objects) ≡ filled → LeavesTable t (by_case there filled) new
      → LeavesTable t (import_commands t layer dims fanout objects) new
  leaves_by there filled new e f left =
      subst (λ (cs : List Command). LeavesTable t cs new) (sym (ap₂ by_case e f)) left

  loaded : (old new : SessionState) (rs : List Request) (as' : List Answer) → old.state ≡ Alive t
      → Session old rs as' new → IsLoaded layer objects rs as'
      → LeavesTable t (import_commands t layer dims fanout objects) new
  loaded old new rs as' alive session is =
      let all = subst (λ (xs : List Answer). Session old (Asks (Count layer) ∷ asked (Load layer objects
      ∷ [])) xs new) is.1
      (subst (λ (qs : List Request). Session old qs as' new) is.0 session) in
      let count = counted_so (HasRisen old.faults all.0.faults) t layer 0 all.0.state
      (from_table old all.0 t (Count layer) (Counted 0) alive all.1) in
      leaves_by true false new count.0 (ap (nat_lt 0) (sym count.1))
      (all_done_so all.0 new t (Load layer objects ∷ []) count.2 all.2)

  made : (old new : SessionState) (rs : List Request) (as' : List Answer) → old.state ≡ Alive t
      → Session old rs as' new → IsMade layer dims fanout objects rs as'
      → LeavesTable t (import_commands t layer dims fanout objects) new
  made old new rs as' alive session is =
      let cs = Create layer dims fanout ∷ Load layer objects ∷ [] in
      let all = subst (λ (xs : List Answer). Session old (Asks (Count layer) ∷ asked cs) xs new) is.1
      (subst (λ (qs : List Request). Session old qs as' new) is.0 session) in
      let none =
      missing_so (HasRisen old.faults all.0.faults) t layer all.0.state
      (from_table old all.0 t (Count layer) (Refused refusal.NoLayer) alive all.1) in
      leaves_by false (nat_lt 0 (len (layer_at t layer).objects)) new none.0 refl
      (all_done_so all.0 new t cs none.1 all.2)

  filled : (old new : SessionState) (rs : List Request) (as' : List Answer) → old.state ≡ Alive t
      → Session old rs as' new → IsFilled layer objects rs as'
      → LeavesTable t (import_commands t layer dims fanout objects) new
  filled old new rs as' alive session is =
      let cs = insertions layer objects in
      let all = subst (λ (xs : List Answer). Session old (Asks (Count layer) ∷ asked cs) xs new) is.3
      (subst (λ (qs : List Request). Session old qs as' new) is.2 session) in
      let count =
      counted_so (HasRisen old.faults all.0.faults) t layer is.0 all.0.state
      (from_table old all.0 t (Count layer) (Counted is.0) alive all.1) in
      leaves_by true true new count.0 (ap (nat_lt 0) (sym count.1) ∙ is.1)
      (all_done_so all.0 new t cs count.2 all.2)

  -- where all went well, each of the commands was done
  pub put_so : (old new : SessionState) (rs : List Request) (as' : List Answer) → old.state ≡ Alive t
      → Session old rs as' new
      → IsLoaded layer objects rs as'
      ⊎ (IsMade layer dims fanout objects rs as' ⊎ IsFilled layer objects rs as')
      → LeavesTable t (import_commands t layer dims fanout objects) new
  put_so old new rs as' alive session (inl is) = loaded old new rs as' alive session is
  put_so old new rs as' alive session (inr (inl is)) = made old new rs as' alive session is
  put_so old new rs as' alive session (inr (inr is)) = filled old new rs as' alive session is
