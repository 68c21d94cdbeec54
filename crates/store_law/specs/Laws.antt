-- What follows from the law of a store.
use Rattle.std.proofs.Common.{◌≡◌, ◌∙◌, ◌≤◌, ◌++◌, List, [], ◌∷◌, Bool, true, false, not, ◌&&◌, cond, Some}
use Rattle.std.proofs.Common.{inl, inr, refl, sym, ap, subst, arith}
use Rattle.std.specs.List.{list_all}
use Rattle.plain_table.specs.Commands.{Command, MayGiveUp}
use Rattle.plain_table.specs.Commands.Command.{Create, Insert, Load, Move, Delete, Drop, Get, Count, Range}
use Rattle.plain_table.specs.Commands.Command.{Nearest, Join, Layers, Dump, Check, Reopen}
use Rattle.plain_table.specs.Laws.{the_refusal_of_a_reply}
use Rattle.plain_table.specs.Step.{Answer, after, changes, first_refusal, refusals_of, reply_of}
use Rattle.plain_table.specs.Step.Answer.{Refused}
use Rattle.plain_table.specs.Table.{Table}
use Rattle.plain_table.specs.declared.queries.RawQuery.TheVariants as query
use Rattle.plain_table.specs.declared.refusal.Refusal.{Refusal}
use Rattle.plain_table.specs.declared.refusal.Refusal.TheVariants as refusal
use Rattle.store_law.specs.Lawful.{IsFault, Lawful, LawfulFrom, RefusedBy, blames_device}
use Rattle.store_law.specs.Sessions.{LawfulStep, Session, SessionState}
use Rattle.store_law.specs.States.{Request, StoreState}
use Rattle.store_law.specs.States.Request.{Asks, BadCommand}
use Rattle.store_law.specs.States.StoreState.{Alive, Dead}
use Rattle.store_law.specs.Stops.{Stops, after_request}

-- ---- steps

-- a bad line is answered so, whatever the store's state
pub a_bad_line_is_lawful : (s : SessionState) → LawfulStep s BadCommand (Refused refusal.BadLine) s
a_bad_line_is_lawful s = record { answer = (refl, refl); stops = refl; faults = omega arith }

-- to answer as the table does is lawful
pub the_tables_reply_is_lawful : (rose : Type 0) (t u : Table) (c : Command) (a : Answer) → a ≡ reply_of t c
    → u ≡ after t c → LawfulFrom rose t c a (Alive u)
the_tables_reply_is_lawful rose t u c a e f = inl (e, ap Alive f)

-- and to want memory for a command that may give up, and leave the table as it was
pub want_of_memory_is_lawful : (rose : Type 0) (t u : Table) (c : Command) (a : Answer)
    → a ≡ Refused refusal.Memory → MayGiveUp c → u ≡ t → LawfulFrom rose t c a (Alive u)
want_of_memory_is_lawful rose t u c a e may f =
    inr (inl (subst (RefusedBy (IsFault rose)) (sym e) tt, may, ap Alive f))

-- ---- the table's own refusals blame no device

-- no refusal of a list blames the device
abbrev none_blames_device : List (Bool × Refusal) → Bool
none_blames_device cs = list_all (λ c. not (blames_device c.1)) cs

first_blames_none : (cs : List (Bool × Refusal)) (r : Refusal) → none_blames_device cs ≡ true
    → first_refusal cs ≡ Some r → blames_device r ≡ false
first_blames_none [] r none e = absurd (cc)
first_blames_none (c ∷ cs) r none e =
    case c.0 (blames_device c.1) refl none e (λ rest later. first_blames_none cs r rest later)
  where
    case : (holds blamed : Bool) → blames_device c.1 ≡ blamed → (not blamed && none_blames_device cs) ≡ true
        → cond holds (Some c.1) (first_refusal cs) ≡ Some r
        → (none_blames_device cs ≡ true → first_refusal cs ≡ Some r → blames_device r ≡ false)
        → blames_device r ≡ false
    case holds true is none e again = absurd (cc)
    case true false is none e again = ap blames_device (let same : r ≡ c.1 = cc in same) ∙ is
    case false false is none e again = again none e

no_check_blames : (t : Table) (c : Command) → none_blames_device (refusals_of t c) ≡ true
no_check_blames t (Create name dims fanout) = refl
no_check_blames t (Insert name id box tag) = refl
no_check_blames t (Load name objects) = refl
no_check_blames t (Move name id box) = refl
no_check_blames t (Delete name id) = refl
no_check_blames t (Drop name) = refl
no_check_blames t (Get name id) = refl
no_check_blames t (Count name) = refl
no_check_blames t (Range name (query.Window window) tag) = refl
no_check_blames t (Range name (query.Inside window) tag) = refl
no_check_blames t (Range name (query.Around inner) tag) = refl
no_check_blames t (Range name (query.Point point) tag) = refl
no_check_blames t (Nearest name k point) = refl
no_check_blames t (Join first second within) = refl
no_check_blames t Layers = refl
no_check_blames t Dump = refl
no_check_blames t Check = refl
no_check_blames t Reopen = refl

pub no_reply_of_the_table_blames_the_device : (t : Table) (c : Command) (r : Refusal)
    → reply_of t c ≡ Refused r → blames_device r ≡ false
no_reply_of_the_table_blames_the_device t c r e =
    first_blames_none (refusals_of t c) r (no_check_blames t c) (the_refusal_of_a_reply t c r e)

-- ---- sessions

-- one session after another is a session
pub sessions_join : (old mid new : SessionState) (rs ss : List Request) (as' bs : List Answer)
    → Session old rs as' mid → Session mid ss bs new → Session old (rs ++ ss) (as' ++ bs) new
sessions_join old mid new [] ss [] bs p q = subst (λ s. Session s ss bs new) p q
sessions_join old mid new (r ∷ rs) ss (a ∷ as') bs p q =
    (p.0, p.1, sessions_join p.0 mid new rs ss as' bs p.2 q)
sessions_join old mid new [] ss (a ∷ as') bs p q = elim p [ ]
sessions_join old mid new (r ∷ rs) ss [] bs p q = elim p [ ]

-- how often the device has failed does not fall
pub no_count_falls : (old new : SessionState) (rs : List Request) (as' : List Answer)
    → Session old rs as' new → old.faults ≤ new.faults
no_count_falls old new [] [] p = let e = ap (λ (s : SessionState). s.faults) p in omega (arith, e)
no_count_falls old new (r ∷ rs) (a ∷ as') p = omega (arith, no_count_falls p.0 new rs as' p.2, p.1.faults)
no_count_falls old new [] (a ∷ as') p = elim p [ ]
no_count_falls old new (r ∷ rs) [] p = elim p [ ]

-- a store that has failed stays so
dead_after : (rose : Type 0) (old new : StoreState) (r : Request) (a : Answer) → old ≡ Dead
    → Lawful rose old r a new → new ≡ Dead
dead_after rose Dead new BadCommand a e h = h.1
dead_after rose Dead new (Asks c) a e h = h.1
dead_after rose (Alive t) new r a e h = absurd (cc)

pub a_dead_store_stays_dead : (old new : SessionState) (rs : List Request) (as' : List Answer)
    → old.state ≡ Dead → Session old rs as' new → new.state ≡ Dead
a_dead_store_stays_dead old new [] [] e p = ap (λ (s : SessionState). s.state) p ∙ e
a_dead_store_stays_dead old new (r ∷ rs) (a ∷ as') e p =
    a_dead_store_stays_dead p.0 new rs as' (dead_after _ old.state p.0.state r a e p.1.answer) p.2
a_dead_store_stays_dead old new [] (a ∷ as') e p = elim p [ ]
a_dead_store_stays_dead old new (r ∷ rs) [] e p = elim p [ ]

-- stops are told from the same moment on
either_beginning : (b : Bool) (x y : Stops) → x.since ≡ y.since → (cond b x y).since ≡ y.since
either_beginning true x y e = e
either_beginning false x y e = refl

same_beginning : (state : StoreState) (old : Stops) (r : Request) (a : Answer)
    → (after_request state old r a).since ≡ old.since
same_beginning state old BadCommand a = refl
same_beginning (Alive t) old (Asks (Create name dims fanout)) a =
    either_beginning (changes t (Create name dims fanout)) _ old refl
same_beginning (Alive t) old (Asks (Insert name id box tag)) a =
    either_beginning (changes t (Insert name id box tag)) _ old refl
same_beginning (Alive t) old (Asks (Load name objects)) a =
    either_beginning (changes t (Load name objects)) _ old refl
same_beginning (Alive t) old (Asks (Move name id box)) a =
    either_beginning (changes t (Move name id box)) _ old refl
same_beginning (Alive t) old (Asks (Delete name id)) a =
    either_beginning (changes t (Delete name id)) _ old refl
same_beginning (Alive t) old (Asks (Drop name)) a = either_beginning (changes t (Drop name)) _ old refl
same_beginning (Alive t) old (Asks (Get name id)) a = refl
same_beginning (Alive t) old (Asks (Count name)) a = refl
same_beginning (Alive t) old (Asks (Range name query tag)) a = refl
same_beginning (Alive t) old (Asks (Nearest name k point)) a = refl
same_beginning (Alive t) old (Asks (Join first second within)) a = refl
same_beginning (Alive t) old (Asks Layers) a = refl
same_beginning (Alive t) old (Asks Dump) a = refl
same_beginning (Alive t) old (Asks Check) a = refl
same_beginning (Alive t) old (Asks Reopen) a = refl
same_beginning Dead old (Asks c) a = refl

pub a_session_keeps_its_beginning : (old new : SessionState) (rs : List Request) (as' : List Answer)
    → Session old rs as' new → new.stops.since ≡ old.stops.since
a_session_keeps_its_beginning old new [] [] p = ap (λ (s : SessionState). s.stops.since) p
a_session_keeps_its_beginning old new (r ∷ rs) (a ∷ as') p =
    a_session_keeps_its_beginning p.0 new rs as' p.2 ∙ ap (λ (stops : Stops). stops.since) p.1.stops
    ∙ same_beginning old.state old.stops r a
a_session_keeps_its_beginning old new [] (a ∷ as') p = elim p [ ]
a_session_keeps_its_beginning old new (r ∷ rs) [] p = elim p [ ]
