-- Lemmas on sessions: steps in turn, the tables so far, and answers whatever stops leave.
use Rattle.std.proofs.Common.{◌≡◌, ◌++◌, List, [], ◌∷◌, Bool, true, false, cond, suc, refl, sym, ap, subst}
use Rattle.std.proofs.Common.{arith}
use Rattle.std.specs.List.{Contains}
use Rattle.plain_table.specs.Commands.Command.{Create, Insert, Load, Move, Delete, Drop, Get, Count, Range}
use Rattle.plain_table.specs.Commands.Command.{Nearest, Join, Layers, Dump, Check, Reopen}
use Rattle.plain_table.specs.Step.{Answer, changes}
use Rattle.plain_table.specs.Step.Answer.{Refused}
use Rattle.plain_table.specs.Table.{Table}
use Rattle.plain_table.specs.declared.refusal.Refusal.TheVariants as refusal
use Rattle.store_law.specs.Sessions.{LawfulStep, Session, SessionState}
use Rattle.store_law.specs.States.{Request, StoreState}
use Rattle.store_law.specs.States.Request.{Asks, BadCommand}
use Rattle.store_law.specs.States.StoreState.{Alive, Dead}
use Rattle.store_law.specs.Stops.{Stops, after_request}
use Rattle.layer_store.specs.Checked.{LawfulOnceChecked, LawfulReply, Standing, StepsBy, standing_of}

-- one stretch of steps after another
pub steps_join : {T : Type 0} (Step : T → Request → Answer → T → Type 0) (old mid new : T)
    (rs ss : List Request) (as' bs : List Answer) → StepsBy Step old rs as' mid → StepsBy Step mid ss bs new
    → StepsBy Step old (rs ++ ss) (as' ++ bs) new
steps_join Step old mid new [] ss [] bs p q = subst (λ s. StepsBy Step s ss bs new) p q
steps_join Step old mid new (r ∷ rs) ss (a ∷ as') bs p q =
    (p.0, p.1, steps_join Step p.0 mid new rs ss as' bs p.2 q)
steps_join Step old mid new [] ss (a ∷ as') bs p q = elim p [ ]
steps_join Step old mid new (r ∷ rs) ss [] bs p q = elim p [ ]

-- the tables of which a stop since the beginning may have left an image stay among them
either_tables : (b : Bool) (x y : Stops) → x.so_far ≡ y.so_far → (cond b x y).so_far ≡ y.so_far
either_tables true x y e = e
either_tables false x y e = refl

one_more_table : (t u : Table) (ts : List Table) → Contains ts u → Contains (t ∷ ts) u
one_more_table t u ts (k, lt, is) = (suc k, omega (arith, lt), is)

so_far_by : (ts us : List Table) (u : Table) → us ≡ ts → Contains ts u → Contains us u
so_far_by ts us u e there = subst (λ (x : List Table). Contains x u) (sym e) there

pub tables_after : (state : StoreState) (old : Stops) (r : Request) (a : Answer) (u : Table)
    → Contains old.so_far u → Contains (after_request state old r a).so_far u
tables_after state old BadCommand a u there = there
tables_after (Alive t) old (Asks (Create name dims fanout)) a u there =
    so_far_by _ _ u (either_tables (changes t (Create name dims fanout)) _ old refl) there
tables_after (Alive t) old (Asks (Insert name id box tag)) a u there =
    so_far_by _ _ u (either_tables (changes t (Insert name id box tag)) _ old refl) there
tables_after (Alive t) old (Asks (Load name objects)) a u there =
    so_far_by _ _ u (either_tables (changes t (Load name objects)) _ old refl) there
tables_after (Alive t) old (Asks (Move name id box)) a u there =
    so_far_by _ _ u (either_tables (changes t (Move name id box)) _ old refl) there
tables_after (Alive t) old (Asks (Delete name id)) a u there =
    so_far_by _ _ u (either_tables (changes t (Delete name id)) _ old refl) there
tables_after (Alive t) old (Asks (Drop name)) a u there =
    so_far_by _ _ u (either_tables (changes t (Drop name)) _ old refl) there
tables_after (Alive t) old (Asks (Get name id)) a u there = there
tables_after (Alive t) old (Asks (Count name)) a u there = there
tables_after (Alive t) old (Asks (Range name query tag)) a u there = there
tables_after (Alive t) old (Asks (Nearest name k point)) a u there = there
tables_after (Alive t) old (Asks (Join first second within)) a u there = there
tables_after (Alive t) old (Asks Layers) a u there = there
tables_after (Alive t) old (Asks Dump) a u there = there
tables_after (Alive t) old (Asks Check) a u there = there
tables_after (Alive t) old (Asks Reopen) a u there = one_more_table t u old.so_far there
tables_after Dead old (Asks c) a u there = there

-- those of a step, and of a session
pub a_step_keeps_its_tables : (old new : SessionState) (r : Request) (a : Answer) → LawfulStep old r a new
    → (u : Table) → Contains old.stops.so_far u → Contains new.stops.so_far u
a_step_keeps_its_tables old new r a step u there =
    so_far_by _ _ u (ap (λ (stops : Stops). stops.so_far) step.stops)
    (tables_after old.state old.stops r a u there)

pub a_session_keeps_its_tables : (old new : SessionState) (rs : List Request) (as' : List Answer)
    → Session old rs as' new → (u : Table) → Contains old.stops.so_far u → Contains new.stops.so_far u
a_session_keeps_its_tables old new [] [] p u there =
    so_far_by _ _ u (ap (λ (s : SessionState). s.stops.so_far) p) there
a_session_keeps_its_tables old new (r ∷ rs) (a ∷ as') p u there =
    a_session_keeps_its_tables p.0 new rs as' p.2 u (a_step_keeps_its_tables old p.0 r a p.1 u there)
a_session_keeps_its_tables old new [] (a ∷ as') p u there = elim p [ ]
a_session_keeps_its_tables old new (r ∷ rs) [] p u there = elim p [ ]

pub a_step_is_a_reply : (old new : SessionState) (r : Request) (a : Answer) → LawfulStep old r a new
    → LawfulReply (standing_of old) r a (standing_of new)
a_step_is_a_reply old new r a step = record { answer = step.answer; faults = step.faults }

pub a_bad_line_is_a_lawful_reply : (s : Standing) → LawfulReply s BadCommand (Refused refusal.BadLine) s
a_bad_line_is_a_lawful_reply s = record { answer = (refl, refl); faults = omega arith }

-- what follows of the end
pub once_checked_so : (P Q : Standing → Type 0) → ((s : Standing) → P s → Q s)
    → (rs : List Request) (as' : List Answer) → LawfulOnceChecked P rs as' → LawfulOnceChecked Q rs as'
once_checked_so P Q f [] [] h = tt
once_checked_so P Q f (r ∷ rs) (a ∷ as') h = (
  λ passed. let to = h.0 passed in
      record {
        table = to.table;
        old = to.old;
        new = to.new;
        begins = to.begins;
        lawful = to.lawful;
        ends = f to.new to.ends;
      },
  once_checked_so P Q f rs as' h.1,
)
once_checked_so P Q f [] (a ∷ as') h = elim h [ ]
once_checked_so P Q f (r ∷ rs) [] h = elim h [ ]
