-- Worked examples of lawful steps: what a live and a dead store may answer, and what they may not.
-- No other proof rests on them. A definition that says another thing than docs/COMMANDS.md is refused here.
use Rattle.std.proofs.Common.{List, None, Option, ◌≡◌, ℕ, [], ◌∷◌, refl, sym, ap, ◌∙◌, inl, inr, arith}
use Rattle.std.specs.Cmp.Lexicographic.{slice_cmp}
use Rattle.std.specs.Ordering.{nat_cmp}
use Rattle.std.specs.FinMap.{entries, entries-from_sorted}
use Rattle.block_device.specs.Device.{HasRisen}
use Rattle.plain_table.specs.Commands.{Command, MayGiveUp}
use Rattle.plain_table.specs.Commands.Command.{Create, Count, Range, Layers, Reopen}
use Rattle.store_law.specs.Sessions.{SessionState, LawfulAnswer, LawfulStep, Session}
use Rattle.store_law.specs.States.{StoreState, Request}
use Rattle.store_law.specs.Stops.{Stops, with_now, after_request}
use Rattle.store_law.specs.Stops.AfterStop.{Surely, Perhaps}
use Rattle.store_law.specs.States.Request.{BadCommand, Asks}
use Rattle.store_law.specs.States.StoreState.{Alive, Dead}
use Rattle.plain_table.specs.Laws.{a_refused_command_changes_nothing}
use Rattle.store_law.specs.Laws.{a_bad_line_is_lawful}
use Rattle.plain_table.specs.Step.{Answer}
use Rattle.plain_table.specs.Step.Answer.{Done, Refused, Counted}
use Rattle.plain_table.specs.Table.{Table, Layer}
use Rattle.plain_table.specs.declared.boxes.RawBox.TheVariants.{Two}
use Rattle.plain_table.specs.declared.queries.RawQuery.{RawQuery}
use Rattle.plain_table.specs.declared.queries.RawQuery.TheVariants.{Window}
use Rattle.plain_table.specs.declared.refusal.Refusal.TheVariants as refusal
use Rattle.plain_table.proofs.Examples.{a, at, table, touching, empty_layer, count_of_two_objects}
use Rattle.plain_table.proofs.Examples.{squares_that_touch_are_both_found, window_changes_nothing}
use Rattle.plain_table.proofs.Examples.{create_changes_the_table, create_is_done, create_makes_an_empty_layer}
use Rattle.plain_table.proofs.Examples.{create_of_a_layer_that_is_there, a_refused_create_changes_nothing}
use Rattle.plain_table.proofs.Examples.{a_refused_create_does_not}

-- ---- the steps

-- no table was closed
abbrev unclosed : Stops
unclosed = record { now = Perhaps []; since = 0; so_far = []; kept = []; kept_so_far = [] }

-- a store with this table, after so many faults
abbrev live : Table → ℕ → SessionState
live t faults = record { state = Alive t; stops = unclosed; faults = faults }

abbrev dead : ℕ → SessionState
dead faults = record { state = Dead; stops = unclosed; faults = faults }

-- a layer that is there, and one that is new
abbrev made : Table
made = table empty_layer

abbrev none : Table
none = table []

abbrev create : Request
create = Asks (Create a 2 4)

-- ---- a bad line

a_bad_line_is_answered_so : (t : Table)
    → LawfulAnswer (live t 0) BadCommand (Refused refusal.BadLine) (live t 0)
a_bad_line_is_answered_so t = (refl, refl)

a_dead_store_answers_a_bad_line_so : LawfulAnswer (dead 1) BadCommand (Refused refusal.BadLine) (dead 1)
a_dead_store_answers_a_bad_line_so = (refl, refl)

a_bad_line_changes_nothing : (s s' : SessionState) (answer : Answer) → LawfulAnswer s BadCommand answer s'
    → s'.state ≡ s.state
a_bad_line_changes_nothing s s' answer h = h.1

a_bad_line_is_not_done : (s s' : SessionState) → LawfulAnswer s BadCommand Done s' → ⊥
a_bad_line_is_not_done s s' h = let no = h.0 in absurd (cc)

a_bad_line_is_not_refused_otherwise : (s s' : SessionState)
    → LawfulAnswer s BadCommand (Refused refusal.Memory) s' → ⊥
a_bad_line_is_not_refused_otherwise s s' h = let no = h.0 in absurd (cc)

a_dead_store_answers_a_bad_line_as_a_live_one : (s' : SessionState)
    → LawfulAnswer (dead 1) BadCommand (Refused (refusal.StoreFailed 19)) s' → ⊥
a_dead_store_answers_a_bad_line_as_a_live_one s' h = let no = h.0 in absurd (cc)

-- ---- a dead store

a_dead_store_refuses : (c : Command)
    → LawfulAnswer (dead 1) (Asks c) (Refused (refusal.StoreFailed 19)) (dead 1)
a_dead_store_refuses c = (refl, refl)

a_dead_store_answers_nothing_else : (c : Command) (answer : Answer) (s' : SessionState)
    → LawfulAnswer (dead 1) (Asks c) answer s' → answer ≡ Refused (refusal.StoreFailed 19)
a_dead_store_answers_nothing_else c answer s' h = h.0

a_dead_store_does_nothing : (c : Command) (s' : SessionState) → LawfulAnswer (dead 1) (Asks c) Done s' → ⊥
a_dead_store_does_nothing c s' h = let no = h.0 in absurd (cc)

a_dead_store_names_no_new_cause : (c : Command) (s' : SessionState)
    → LawfulAnswer (dead 1) (Asks c) (Refused (refusal.StoreFailed 17)) s' → ⊥
a_dead_store_names_no_new_cause c s' h = let no = h.0 in absurd (cc)

a_dead_store_stays_dead : (r : Request) (answer : Answer) (s' : SessionState)
    → LawfulAnswer (dead 1) r answer s' → s'.state ≡ Dead
a_dead_store_stays_dead BadCommand answer s' h = h.1
a_dead_store_stays_dead (Asks c) answer s' h = h.1

-- ---- the table's answer

a_create_is_done : LawfulAnswer (live none 0) create Done (live made 0)
a_create_is_done = inl (sym create_is_done, ap Alive (sym create_makes_an_empty_layer))

-- done, but no layer made
a_create_makes_its_layer : (s' : SessionState) → LawfulAnswer (live none 0) create Done s'
    → s'.state ≡ Alive made
a_create_makes_its_layer s' (inl h) = h.1 ∙ ap Alive create_makes_an_empty_layer
a_create_makes_its_layer s' (inr (inl h)) = absurd h.0
a_create_makes_its_layer s' (inr (inr h)) = absurd h.0

a_create_is_not_refused_without_cause : (s' : SessionState)
    → LawfulAnswer (live none 0) create (Refused refusal.LayerExists) s' → ⊥
a_create_is_not_refused_without_cause s' (inl h) = let no = h.0 ∙ create_is_done in absurd (cc)
a_create_is_not_refused_without_cause s' (inr (inl h)) = h.0
a_create_is_not_refused_without_cause s' (inr (inr h)) = h.0

a_create_of_a_layer_that_is_there : LawfulAnswer (live (table touching) 0) (Asks (Create a 3 100))
    (Refused refusal.LayerExists) (live (table touching) 0)
a_create_of_a_layer_that_is_there =
    inl (sym create_of_a_layer_that_is_there, ap Alive (sym a_refused_create_changes_nothing))

a_reopen_is_done : (t : Table) → LawfulAnswer (live t 0) (Asks Reopen) Done (live t 0)
a_reopen_is_done t = inl (refl, refl)

-- ---- want of memory

memory_may_be_wanting : (t : Table) (c : Command) → MayGiveUp c
    → LawfulAnswer (live t 0) (Asks c) (Refused refusal.Memory) (live t 0)
memory_may_be_wanting t c may = inr (inl (tt, may, refl))

a_count_wants_no_memory : (s' : SessionState)
    → LawfulAnswer (live (table touching) 0) (Asks (Count a)) (Refused refusal.Memory) s' → ⊥
a_count_wants_no_memory s' (inl h) = let no = h.0 ∙ count_of_two_objects in absurd (cc)
a_count_wants_no_memory s' (inr (inl h)) = h.1
a_count_wants_no_memory s' (inr (inr h)) = absurd h.0

a_listing_wants_no_memory : (s' : SessionState)
    → LawfulAnswer (live none 0) (Asks Layers) (Refused refusal.Memory) s' → ⊥
a_listing_wants_no_memory s' (inl h) = let no = h.0 in absurd (cc)
a_listing_wants_no_memory s' (inr (inl h)) = h.1
a_listing_wants_no_memory s' (inr (inr h)) = absurd h.0

-- another number of objects
a_count_is_exact : (s' : SessionState) (n : ℕ)
    → LawfulAnswer (live (table touching) 0) (Asks (Count a)) (Counted n) s' → n ≡ 2
a_count_is_exact s' n (inl h) = let same = h.0 ∙ count_of_two_objects in cc
a_count_is_exact s' n (inr (inl h)) = absurd h.0
a_count_is_exact s' n (inr (inr h)) = absurd h.0

want_of_memory_changes_nothing : (t : Table) (c : Command) (s' : SessionState)
    → LawfulAnswer (live t 0) (Asks c) (Refused refusal.Memory) s' → s'.state ≡ Alive t
want_of_memory_changes_nothing t c s' (inl h) = h.1
    ∙ ap Alive (a_refused_command_changes_nothing t c refusal.Memory (sym h.0))
want_of_memory_changes_nothing t c s' (inr (inl h)) = h.2
want_of_memory_changes_nothing t c s' (inr (inr h)) = absurd h.0

-- the table of a live store, and no layer where it is dead
abbrev table_of : StoreState → Table
table_of (Alive t) = t
table_of Dead = none

made_is_another : made ≡ none → ⊥
made_is_another e = let same = sym (entries-from_sorted (slice_cmp nat_cmp) empty_layer tt) ∙ ap entries e
    ∙ entries-from_sorted {X = Layer} (slice_cmp nat_cmp) [] tt in absurd (cc)

want_of_memory_makes_no_layer : (s' : SessionState) → s'.state ≡ Alive made
    → LawfulAnswer (live none 0) create (Refused refusal.Memory) s' → ⊥
want_of_memory_makes_no_layer s' is h =
    made_is_another (ap table_of (sym is ∙ want_of_memory_changes_nothing none (Create a 2 4) s' h))

-- ---- faults of the device

a_device_may_fail : LawfulAnswer (live none 0) create (Refused refusal.Device) (live none 1)
a_device_may_fail = inr (inl (inl (omega arith), tt, refl))

a_device_that_did_not_fail_is_not_blamed : (s' : SessionState) → s'.faults ≡ 5
    → LawfulAnswer (live none 5) create (Refused refusal.Device) s' → ⊥
a_device_that_did_not_fail_is_not_blamed s' same (inl h) = let no = h.0 ∙ create_is_done in absurd (cc)
a_device_that_did_not_fail_is_not_blamed s' same (inr (inl h)) = not_risen h.0
  where
    not_risen : HasRisen 5 s'.faults → ⊥
    not_risen (inl more) = absurd (omega (arith, same, more))
    not_risen (inr full) = absurd (omega (arith, same, full))
a_device_that_did_not_fail_is_not_blamed s' same (inr (inr h)) = absurd h.0

-- the count of faults is held at the greatest u64
the_greatest_count_rises : LawfulAnswer (live none 18446744073709551615) create (Refused refusal.Device)
    (live none 18446744073709551615)
the_greatest_count_rises = inr (inl (inr (omega arith), tt, refl))

the_count_below_it_rises_to_it : LawfulAnswer (live none 18446744073709551614) create
    (Refused refusal.Device) (live none 18446744073709551615)
the_count_below_it_rises_to_it = inr (inl (inl (omega arith), tt, refl))

the_count_below_it_does_not_stay : (s' : SessionState) → s'.faults ≡ 18446744073709551614
    → LawfulAnswer (live none 18446744073709551614) create (Refused refusal.Device) s' → ⊥
the_count_below_it_does_not_stay s' same (inl h) = let no = h.0 ∙ create_is_done in absurd (cc)
the_count_below_it_does_not_stay s' same (inr (inl h)) = not_risen h.0
  where
    not_risen : HasRisen 18446744073709551614 s'.faults → ⊥
    not_risen (inl more) = absurd (omega (arith, same, more))
    not_risen (inr full) = absurd (omega (arith, same, full))
the_count_below_it_does_not_stay s' same (inr (inr h)) = absurd h.0

-- ---- no other fault

no_page_number_is_wanting : (s' : SessionState)
    → LawfulAnswer (live none 0) create (Refused refusal.NoPages) s' → ⊥
no_page_number_is_wanting s' (inl h) = let no = h.0 ∙ create_is_done in absurd (cc)
no_page_number_is_wanting s' (inr (inl h)) = h.0
no_page_number_is_wanting s' (inr (inr h)) = h.0

no_page_is_damaged : (s' : SessionState) → LawfulAnswer (live none 0) create (Refused (refusal.Damaged 3)) s'
    → ⊥
no_page_is_damaged s' (inl h) = let no = h.0 ∙ create_is_done in absurd (cc)
no_page_is_damaged s' (inr (inl h)) = h.0
no_page_is_damaged s' (inr (inr h)) = h.0

-- ---- the end of a store

a_create_may_end_the_store : LawfulAnswer (live none 0) create (Refused (refusal.StoreFailed 16)) (dead 0)
a_create_may_end_the_store =
    inr (inr (inl refl, inr (λ e. made_is_another (sym create_makes_an_empty_layer ∙ e)), refl))

a_fault_of_the_device_may_end_the_store : LawfulAnswer (live none 0) create
    (Refused (refusal.StoreFailed 17)) (dead 1)
a_fault_of_the_device_may_end_the_store =
    inr (inr
    (inr (refl, inl (omega arith)), inr (λ e. made_is_another (sym create_makes_an_empty_layer ∙ e)), refl))

a_reopen_may_end_the_store : (t : Table)
    → LawfulAnswer (live t 0) (Asks Reopen) (Refused (refusal.StoreFailed 16)) (dead 0)
a_reopen_may_end_the_store t = inr (inr (inl refl, inl refl, refl))

a_store_that_failed_is_dead : (cause : ℕ) (s' : SessionState)
    → LawfulAnswer (live none 0) create (Refused (refusal.StoreFailed cause)) s' → s'.state ≡ Dead
a_store_that_failed_is_dead cause s' (inl h) = let no = h.0 ∙ create_is_done in absurd (cc)
a_store_that_failed_is_dead cause s' (inr (inl h)) = absurd h.0
a_store_that_failed_is_dead cause s' (inr (inr h)) = h.2

-- 18 is the number of Damaged, which ends no store
damage_ends_no_store : (s' : SessionState)
    → LawfulAnswer (live none 0) create (Refused (refusal.StoreFailed 18)) s' → ⊥
damage_ends_no_store s' (inl h) = let no = h.0 ∙ create_is_done in absurd (cc)
damage_ends_no_store s' (inr (inl h)) = h.0
damage_ends_no_store s' (inr (inr h)) =
    elim h.0 [ inl e ↦ absurd (omega (arith, e)) | inr p ↦ absurd (omega (arith, p.0)) ]

want_of_page_numbers_ends_no_store : (s' : SessionState)
    → LawfulAnswer (live none 0) create (Refused (refusal.StoreFailed 25)) s' → ⊥
want_of_page_numbers_ends_no_store s' (inl h) = let no = h.0 ∙ create_is_done in absurd (cc)
want_of_page_numbers_ends_no_store s' (inr (inl h)) = h.0
want_of_page_numbers_ends_no_store s' (inr (inr h)) =
    elim h.0 [ inl e ↦ absurd (omega (arith, e)) | inr p ↦ absurd (omega (arith, p.0)) ]

a_refused_create_ends_no_store : (s' : SessionState)
    → LawfulAnswer (live (table touching) 0) (Asks (Create a 3 100)) (Refused (refusal.StoreFailed 16)) s' → ⊥
a_refused_create_ends_no_store s' (inl h) = let no = h.0 ∙ create_of_a_layer_that_is_there in absurd (cc)
a_refused_create_ends_no_store s' (inr (inl h)) = h.0
a_refused_create_ends_no_store s' (inr (inr h)) =
    elim h.1 [ inl e ↦ absurd (cc) | inr changes ↦ changes a_refused_create_changes_nothing ]

a_window_ends_no_store : (s' : SessionState)
    → LawfulAnswer (live (table touching) 0) (Asks (Range a (Window (Two (at 1 1) (at 1 1))) None))
    (Refused (refusal.StoreFailed 16)) s' → ⊥
a_window_ends_no_store s' (inl h) = let no = h.0 ∙ squares_that_touch_are_both_found in absurd (cc)
a_window_ends_no_store s' (inr (inl h)) = h.0
a_window_ends_no_store s' (inr (inr h)) =
    elim h.1 [ inl e ↦ absurd (cc) | inr changes ↦ changes window_changes_nothing ]

-- ---- what a stop leaves

-- one table was closed last, at moment 7, and another stands now; a device that commits keeps what was closed
abbrev closed_before : Stops
closed_before =
    record { now = Surely none; since = 7; so_far = none ∷ []; kept = none ∷ []; kept_so_far = none ∷ [] }

-- a closing of it was refused
abbrev closing_refused : Stops
closing_refused =
    record {
      now = Perhaps (made ∷ none ∷ []);
      since = 7;
      so_far = made ∷ none ∷ [];
      kept = made ∷ none ∷ [];
      kept_so_far = made ∷ none ∷ [];
    }

a_closing_leaves_its_table_alone : after_request (Alive made) closed_before (Asks Reopen)
    Done ≡ record {
      now = Surely made;
      since = 7;
      so_far = made ∷ none ∷ [];
      kept = made ∷ [];
      kept_so_far = made ∷ none ∷ [];
    }
a_closing_leaves_its_table_alone = refl

a_closing_is_finished_where_the_store_fails_behind_it : after_request (Alive made) closed_before
    (Asks Reopen)
    (Refused (refusal.StoreFailed 17))
    ≡ record {
      now = Surely made;
      since = 7;
      so_far = made ∷ none ∷ [];
      kept = made ∷ [];
      kept_so_far = made ∷ none ∷ [];
    }
a_closing_is_finished_where_the_store_fails_behind_it = refl

a_refused_closing_leaves_either_table : after_request (Alive made) closed_before (Asks Reopen)
    (Refused refusal.Device) ≡ closing_refused
a_refused_closing_leaves_either_table = refl

the_next_closing_leaves_its_table_alone : after_request (Alive made) closing_refused (Asks Reopen)
    Done ≡ record {
      now = Surely made;
      since = 7;
      so_far = made ∷ made ∷ none ∷ [];
      kept = made ∷ [];
      kept_so_far = made ∷ made ∷ none ∷ [];
    }
the_next_closing_leaves_its_table_alone = refl

a_bad_line_changes_nothing_that_is_left : (t : Table) (answer : Answer)
    → after_request (Alive t) closed_before BadCommand answer ≡ closed_before
a_bad_line_changes_nothing_that_is_left t answer = refl

a_question_changes_nothing_that_is_left : (t : Table) (name : List ℕ) (query : RawQuery) (tag : Option ℕ)
    (answer : Answer)
    → after_request (Alive t) closed_before (Asks (Range name query tag)) answer ≡ closed_before
a_question_changes_nothing_that_is_left t name query tag answer = refl

a_change_leaves_nothing_that_is_opened : after_request (Alive none) closed_before create Done ≡ with_now
    (Perhaps []) closed_before
a_change_leaves_nothing_that_is_opened = rw create_changes_the_table refl

a_change_that_gave_up_perhaps_leaves_what_was_left : after_request (Alive none) closed_before create
    (Refused refusal.Device) ≡ with_now (Perhaps (none ∷ [])) closed_before
a_change_that_gave_up_perhaps_leaves_what_was_left = rw create_changes_the_table refl

a_change_that_ended_the_store_leaves_nothing_that_is_opened : after_request (Alive none) closed_before create
    (Refused (refusal.StoreFailed 17)) ≡ with_now (Perhaps []) closed_before
a_change_that_ended_the_store_leaves_nothing_that_is_opened = rw create_changes_the_table refl

a_refused_change_changes_nothing_that_is_left : (answer : Answer)
    → after_request (Alive (table touching)) closed_before (Asks (Create a 3 100)) answer ≡ closed_before
a_refused_change_changes_nothing_that_is_left answer = rw a_refused_create_does_not refl

a_dead_store_closes_nothing : (before : Stops) (c : Command) (answer : Answer)
    → after_request Dead before (Asks c) answer ≡ before
a_dead_store_closes_nothing before c answer = refl

-- a closing that is answered, and was not made
a_closing_is_made : (s' : SessionState) → s'.stops ≡ unclosed
    → LawfulStep (live made 0) (Asks Reopen) Done s' → ⊥
a_closing_is_made s' is h = let no = ap (λ (stops : Stops). stops.now) (sym is ∙ h.stops) in absurd (cc)

-- ---- sessions

requests_are_answered_in_their_order : Session (live none 0) (BadCommand ∷ create ∷ [])
    (Refused refusal.BadLine ∷ Done ∷ []) (live made 0)
requests_are_answered_in_their_order = (
  live none 0,
  a_bad_line_is_lawful (live none 0),
  (
    live made 0,
    record { answer = a_create_is_done; stops = rw create_changes_the_table refl; faults = omega arith },
    refl,
  ),
)

-- no step forgets that the device failed
no_fault_is_forgotten : (s' : SessionState) (r : Request) (answer : Answer) → s'.faults ≡ 4
    → LawfulStep (live none 5) r answer s' → ⊥
no_fault_is_forgotten s' r answer less h = absurd (omega (arith, less, h.faults))

no_request_is_left_unanswered : (s s' : SessionState) (r : Request) → Session s (r ∷ []) [] s' → ⊥
no_request_is_left_unanswered s s' r h = h

nothing_is_answered_unasked : (s s' : SessionState) (answer : Answer) → Session s [] (answer ∷ []) s' → ⊥
nothing_is_answered_unasked s s' answer h = h

nothing_asked_changes_nothing : (s s' : SessionState) → Session s [] [] s' → s' ≡ s
nothing_asked_changes_nothing s s' h = h
