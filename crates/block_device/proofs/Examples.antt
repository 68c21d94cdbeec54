-- Worked examples of the words of a device's contract: what a write makes of the blocks, what outcomes follow
-- from others, which faults count, and when a fuse fails. No other proof rests on them. A definition that
-- says another thing than docs/FORMAT.md, "The disk model of a stop", is refused here.
use Rattle.std.proofs.Common.{◌≡◌, ◌∙◌, ◌⊎◌, ℕ, ◌<◌, List, [], ◌∷◌, true, false, Result, Ok, Err, refl, ap}
use Rattle.std.proofs.Common.{arith, inl, inr, ⊎_elim, ◌+◌, get_or, length, map, replicate}
use Rattle.std.proofs.lemmas.List.{length-replicate}
use Rattle.block_device.specs.Device.{IsBlock, Blocks, block_at, written, Torn, Follows, LeavesNoMore, Only}
use Rattle.block_device.specs.Device.{Elapses, Brings, LeavesOnly, Recovery, no_recovery, one_more, Counts}
use Rattle.block_device.specs.Device.{HasRisen}
use Rattle.block_device.specs.Moments.{brings_nothing}
use Rattle.block_device.specs.Fuse.{is_blown, fails_next, CallsBelow, faults_with}
use Rattle.block_device.specs.Laws.{Both}
use Rattle.block_device.specs.Outcomes.{repeated_block}
use Rattle.block_device.specs.declared.device.DeviceError.{DeviceError}
use Rattle.block_device.specs.declared.device.DeviceError.TheVariants.{Failed, Memory}
use Rattle.block_device.specs.declared.fuse.FuseDevice.{FuseDevice}
use Rattle.block_device.specs.declared.fuse.FuseMode.TheVariants.{Once, Onward}

-- ---- blocks

abbrev pub block : ℕ → List ℕ
block byte = replicate 4096 byte

pub is_block : (byte : ℕ) → byte < 256 → IsBlock (block byte)
is_block = repeated_block

one_byte_less_is_no_block : IsBlock (replicate 4095 0) → ⊥
one_byte_less_is_no_block h = absurd (omega (arith, h.size, length-replicate {A = ℕ} 4095 0))

one_byte_more_is_no_block : IsBlock (replicate 4097 0) → ⊥
one_byte_more_is_no_block h = absurd (omega (arith, h.size, length-replicate {A = ℕ} 4097 0))

a_greater_number_is_no_byte : IsBlock (255 ∷ 256 ∷ replicate 4094 0) → ⊥
a_greater_number_is_no_byte h = absurd (omega (arith, h.bytes_fit 1))

-- two blocks; of the tiny ones only the number counts
abbrev two : Blocks
two = (1 ∷ []) ∷ (2 ∷ []) ∷ []

behind_the_last_block_there_are_no_bytes : map (λ i. block_at i two)
    (0 ∷ 1 ∷ 2 ∷ 3 ∷ []) ≡ (1 ∷ []) ∷ (2 ∷ []) ∷ [] ∷ [] ∷ []
behind_the_last_block_there_are_no_bytes = refl

a_block_is_changed : map (λ i. written i (9 ∷ []) two)
    (0 ∷ 1 ∷ []) ≡ ((9 ∷ []) ∷ (2 ∷ []) ∷ []) ∷ ((1 ∷ []) ∷ (9 ∷ []) ∷ []) ∷ []
a_block_is_changed = refl

behind_the_last_one_a_block_is_added : map (λ i. written i (9 ∷ []) two) (2 ∷ 3 ∷ []) ≡ replicate 2
    ((1 ∷ []) ∷ (2 ∷ []) ∷ (9 ∷ []) ∷ [])
behind_the_last_one_a_block_is_added = refl

a_first_block_is_added : written 0 (9 ∷ []) [] ≡ (9 ∷ []) ∷ []
a_first_block_is_added = refl

-- ---- a write that is cut short

a_torn_write_may_have_done_nothing : (i : ℕ) (blocks : Blocks) → Torn i blocks blocks
a_torn_write_may_have_done_nothing i blocks = inl refl

a_torn_write_may_leave_any_bytes : (byte : ℕ) → byte < 256 → Torn 1 two ((1 ∷ []) ∷ block byte ∷ [])
a_torn_write_may_leave_any_bytes byte lt = inr (block byte, is_block byte lt, refl)

a_torn_write_may_have_added_its_block : Torn 2 two ((1 ∷ []) ∷ (2 ∷ []) ∷ block 9 ∷ [])
a_torn_write_may_have_added_its_block = inr (block 9, is_block 9 (omega arith), refl)

a_torn_write_changes_no_other_block : Torn 1 two (block 9 ∷ (2 ∷ []) ∷ []) → ⊥
a_torn_write_changes_no_other_block (inl same) =
    absurd (omega (arith, ap (λ c. get_or (block_at 0 c) 0 0) same))
a_torn_write_changes_no_other_block (inr w) = absurd (omega (arith, ap (λ c. get_or (block_at 0 c) 0 0) w.2))

a_torn_write_changes_no_two_blocks : Torn 1 two (block 9 ∷ block 9 ∷ []) → ⊥
a_torn_write_changes_no_two_blocks (inl same) =
    absurd (omega (arith, ap (λ c. get_or (block_at 0 c) 0 0) same))
a_torn_write_changes_no_two_blocks (inr w) = absurd (omega (arith, ap (λ c. get_or (block_at 0 c) 0 0) w.2))

a_torn_write_leaves_no_block_of_another_length : Torn 1 two ((1 ∷ []) ∷ (9 ∷ []) ∷ []) → ⊥
a_torn_write_leaves_no_block_of_another_length (inl same) = absurd (cc)
a_torn_write_leaves_no_block_of_another_length (inr w) =
    absurd (omega (arith, w.1.size, ap (λ c. length (block_at 1 c)) w.2))

a_torn_write_leaves_no_number_above_a_byte : Torn 1 two ((1 ∷ []) ∷ block 256 ∷ []) → ⊥
a_torn_write_leaves_no_number_above_a_byte (inl same) =
    absurd (omega (arith, ap (λ c. get_or (block_at 1 c) 0 0) same))
a_torn_write_leaves_no_number_above_a_byte (inr w) =
    absurd (omega (arith, w.1.bytes_fit 0, ap (λ c. get_or (block_at 1 c) 0 0) w.2))

a_torn_write_takes_no_block_away : Torn 1 two ((1 ∷ []) ∷ []) → ⊥
a_torn_write_takes_no_block_away (inl same) = absurd (cc)
a_torn_write_takes_no_block_away (inr w) = absurd (omega (arith, ap length w.2))

-- ---- outcomes of a stop

-- these blocks alone, and these or others
abbrev pub are : Blocks → Blocks → Type 0
are blocks c = c ≡ blocks

abbrev either : Blocks → Blocks → Blocks → Type 0
either a b c = (c ≡ a) ⊎ (c ≡ b)

abbrev other : Blocks
other = (3 ∷ []) ∷ []

an_outcome_follows_by_a_step : Follows (Torn 2) (are two) (are ((1 ∷ []) ∷ (2 ∷ []) ∷ block 9 ∷ []))
an_outcome_follows_by_a_step c is = (two, refl, inr (block 9, is_block 9 (omega arith), is))

each_new_outcome_follows : Follows (Torn 2) (are two) (either two other) → ⊥
each_new_outcome_follows h = let from = h other (inr refl) in let d = from.1 in absurd (case from.0 d from.2)
  where
    case : (d : Blocks) → d ≡ two → Torn 2 d other → ⊥
    case d is (inl same) = let no = same ∙ is in absurd (cc)
    case d is (inr w) = absurd (omega (arith, ap length (w.2 ∙ ap (written 2 w.0) is)))

no_outcome_follows_from_none : Follows (Torn 0) (λ d. ⊥) (are two) → ⊥
no_outcome_follows_from_none h = (h two refl).1

fewer_outcomes_are_no_more : LeavesNoMore (either two other) (are two)
fewer_outcomes_are_no_more c is = inl is

one_more_outcome_is_more : LeavesNoMore (are two) (either two other) → ⊥
one_more_outcome_is_more h = let no = h other (inr refl) in absurd (cc)

these_blocks_only : Only two (are two)
these_blocks_only c is = is

these_and_others_are_not_these_only : Only two (either two other) → ⊥
these_and_others_are_not_these_only h = let no = h other (inr refl) in absurd (cc)

first_one_step_and_then_another : Both (Torn 0) (Torn 1) two (block 8 ∷ block 9 ∷ [])
first_one_step_and_then_another = (
  block 8 ∷ (2 ∷ []) ∷ [],
  inr (block 8, is_block 8 (omega arith), refl),
  inr (block 9, is_block 9 (omega arith), refl),
)

-- ---- moments

a_call_adds_what_it_may_leave : Elapses 1 2 (λ t c. c ≡ two) (λ t c. (c ≡ two) ⊎ (c ≡ other)) (are other)
a_call_adds_what_it_may_leave =
    record { later = omega arith; nothing_else = λ t c le left. left; keeps = λ t c le was. inl was }

a_call_may_take_no_time : Elapses 1 1 (λ t. are two) (λ t. are two) (are two)
a_call_may_take_no_time =
    record { later = omega arith; nothing_else = λ t c le left. inl left; keeps = λ t c le was. was }

a_call_takes_no_time_back : (past since : ℕ → Blocks → Type 0) (now : Blocks → Type 0)
    → Elapses 2 1 past since now → ⊥
a_call_takes_no_time_back past since now h = absurd (omega (arith, h.later))

a_call_adds_nothing_else : Elapses 1 2 (λ t. are two) (λ t. either two other) (are two) → ⊥
a_call_adds_nothing_else h =
    ⊎_elim (λ was. let no = was in absurd (cc)) (λ now. let no = now in absurd (cc))
    (h.nothing_else 1 other (omega arith) (inr refl))

a_call_forgets_nothing : (now : Blocks → Type 0) → Elapses 1 2 (λ t. are two) (λ t. are other) now → ⊥
a_call_forgets_nothing now h = let no = h.keeps 1 two (omega arith) refl in absurd (cc)

a_later_moment_is_not_asked : Elapses 1 2 (λ t c. t ≡ 2) (λ t c. t ≡ 3) (λ c. ⊥)
a_later_moment_is_not_asked =
    record {
      later = omega arith;
      nothing_else = λ t c le left. absurd (omega (arith, le, left));
      keeps = λ t c le was. absurd (omega (arith, le, was));
    }

-- devices that are the moment that they are at, and leave a block that says it
abbrev moment : ℕ → ℕ
moment d = d

abbrev left : ℕ → ℕ → Blocks → Type 0
left d t c = c ≡ (d ∷ []) ∷ []

a_run_leaves_what_is_said : LeavesOnly moment left no_recovery 1 2 (are ((2 ∷ []) ∷ []))
a_run_leaves_what_is_said =
    record {
      later = omega arith;
      each = λ c is. is;
      before = λ t c le is. inr is;
      brings = brings_nothing moment 1 2 (are ((2 ∷ []) ∷ []));
    }

a_run_leaves_nothing_else : LeavesOnly moment (λ d t c. t ≡ 1) no_recovery 1 2 (λ c. ⊥) → ⊥
a_run_leaves_nothing_else h = h.each two refl

a_run_leaves_nothing_else_since_an_earlier_moment : LeavesOnly moment (λ d t c. (d ≡ 2) × (t ≡ 0))
    no_recovery 1 2 (λ c. ⊥) → ⊥
a_run_leaves_nothing_else_since_an_earlier_moment h =
    ⊎_elim (λ was. absurd (omega (arith, was.0))) (λ no. no) (h.before 0 two (omega arith) (refl, refl))

what_was_left_before_may_be_left : LeavesOnly moment (λ d t c. t ≡ 0) no_recovery 1 2 (λ c. ⊥)
what_was_left_before_may_be_left =
    record {
      later = omega arith;
      each = λ c is. absurd (omega (arith, is));
      before = λ t c le is. inl is;
      brings = brings_nothing moment 1 2 (λ c. ⊥);
    }

a_run_takes_no_time_back : (P : Blocks → Type 0) → LeavesOnly moment left no_recovery 2 1 P → ⊥
a_run_takes_no_time_back P h = absurd (omega (arith, h.later))

-- devices of which a stop brings back a block that says which they are, and which take such blocks alone
abbrev committing : Recovery ℕ
committing =
    record {
      commits = λ d k. k ≡ (d ∷ []) ∷ [];
      found_since = λ d t c. c ≡ (d ∷ []) ∷ [];
      takes = λ k. k ≡ (2 ∷ []) ∷ [];
    }

a_commit_is_of_what_the_run_leaves : Brings moment committing 1 2 (are ((2 ∷ []) ∷ []))
a_commit_is_of_what_the_run_leaves = record {
  commits = λ k is. inr (is, is);
  found = λ t c le is. inr (
    (2 ∷ []) ∷ [],
    inr (refl, refl),
    record { no_shorter = omega (arith, ap length is); same = λ k lt. ap (block_at k) is },
  );
}

a_commit_is_of_nothing_else : Brings moment committing 1 2 (are two) → ⊥
a_commit_is_of_nothing_else h = ⊎_elim (λ was. (cc)) (λ new. (cc)) (h.commits ((2 ∷ []) ∷ []) refl)

a_commit_is_only_of_what_is_taken : (P : Blocks → Type 0) → Brings moment committing 1 3 P → ⊥
a_commit_is_only_of_what_is_taken P h =
    ⊎_elim (λ was. (cc)) (λ new. let e = new.0 in (cc)) (h.commits ((3 ∷ []) ∷ []) refl)

-- ---- faults

one_more_up_to_the_greatest : map one_more
    (0 ∷ 7 ∷ 18446744073709551614 ∷ 18446744073709551615 ∷ []) ≡ 1 ∷ 8 ∷ 18446744073709551615
    ∷ 18446744073709551615 ∷ []
one_more_up_to_the_greatest = refl

abbrev ok : Result (Unit {0}) DeviceError
ok = Ok tt

abbrev failed : Result (Unit {0}) DeviceError
failed = Err Failed

abbrev memory : Result (Unit {0}) DeviceError
memory = Err Memory

a_fault_is_counted : (Counts 3 4 failed) × (Counts 18446744073709551615 18446744073709551615 failed)
a_fault_is_counted = (
  record { failed = λ e. refl; other = λ no. absurd (no refl) },
  record { failed = λ e. refl; other = λ no. refl },
)

nothing_else_is_counted : (Counts 3 3 ok) × (Counts 3 3 memory)
nothing_else_is_counted = (
  record { failed = λ e. absurd (cc); other = λ no. refl },
  record { failed = λ e. absurd (cc); other = λ no. refl },
)

no_fault_goes_uncounted : Counts 3 3 failed → ⊥
no_fault_goes_uncounted h = absurd (omega (arith, h.failed refl))

no_fault_is_counted_twice : Counts 3 5 failed → ⊥
no_fault_is_counted_twice h = absurd (omega (arith, h.failed refl))

ok_is_no_fault : Counts 3 4 ok → ⊥
ok_is_no_fault h = absurd (omega (arith, h.other (λ e. cc)))

want_of_memory_is_no_fault : Counts 3 4 memory → ⊥
want_of_memory_is_no_fault h = absurd (omega (arith, h.other (λ e. cc)))

a_count_has_risen : (HasRisen 3 4) × (HasRisen 18446744073709551614 18446744073709551615)
a_count_has_risen = (inl (omega arith), inl (omega arith))

the_greatest_count_has_risen : HasRisen 18446744073709551615 18446744073709551615
the_greatest_count_has_risen = inr (omega arith)

a_count_that_stays_has_not_risen : HasRisen 3 3 → ⊥
a_count_that_stays_has_not_risen (inl h) = absurd (omega (arith, h))
a_count_that_stays_has_not_risen (inr h) = absurd (omega (arith, h))

a_count_that_falls_has_not_risen : HasRisen 4 3 → ⊥
a_count_that_falls_has_not_risen (inl h) = absurd (omega (arith, h))
a_count_that_falls_has_not_risen (inr h) = absurd (omega (arith, h))

the_one_below_the_greatest_rises_or_has_not_risen : HasRisen 18446744073709551614 18446744073709551614 → ⊥
the_one_below_the_greatest_rises_or_has_not_risen (inl h) = absurd (omega (arith, h))
the_one_below_the_greatest_rises_or_has_not_risen (inr h) = absurd (omega (arith, h))

-- ---- a fuse

once_one_call_fails : map (is_blown Once 2) (0 ∷ 1 ∷ 2 ∷ 3 ∷ []) ≡ false ∷ false ∷ true ∷ false ∷ []
once_one_call_fails = refl

onward_each_later_call_fails : map (is_blown Onward 2) (0 ∷ 1 ∷ 2 ∷ 3 ∷ []) ≡ false ∷ false ∷ true ∷ true ∷ []
onward_each_later_call_fails = refl

faults_below_and_blown_calls_are_faults : map (faults_with 3)
    (0 ∷ 2 ∷ 18446744073709551612 ∷ 18446744073709551613 ∷ []) ≡ 3 ∷ 5 ∷ 18446744073709551615
    ∷ 18446744073709551615 ∷ []
faults_below_and_blown_calls_are_faults = refl

-- a fuse over a device that is a number
abbrev fuse : ℕ → ℕ → ℕ → FuseDevice ℕ
fuse inner calls blown = record { inner = inner; passes = 2; mode = Once; calls = calls; blown = blown }

the_third_call_fails : map (λ calls. fails_next (fuse 7 calls 0))
    (0 ∷ 1 ∷ 2 ∷ 3 ∷ []) ≡ false ∷ false ∷ true ∷ false ∷ []
the_third_call_fails = refl

a_failed_call_is_counted : (below : Type 0) → CallsBelow (fuse 7 2 0) (fuse 7 3 1) failed below
a_failed_call_is_counted below =
    record {
      fails = λ e. (refl, refl);
      passes = λ e. absurd (cc);
      counted = refl;
      passes_stay = refl;
      mode_stays = refl;
    }

a_call_that_passes_is_one_below : CallsBelow (fuse 7 1 0) (fuse 8 2 0) ok (8 ≡ 7 + 1)
a_call_that_passes_is_one_below =
    record {
      fails = λ e. absurd (cc);
      passes = λ e. refl;
      counted = refl;
      passes_stay = refl;
      mode_stays = refl;
    }

a_failed_call_answers_failed : (below : Type 0) → CallsBelow (fuse 7 2 0) (fuse 7 3 1) ok below → ⊥
a_failed_call_answers_failed below h = let no = (h.fails refl).0 in absurd (cc)

a_failed_call_changes_nothing_below : (below : Type 0) → CallsBelow (fuse 7 2 0) (fuse 8 3 1) failed below → ⊥
a_failed_call_changes_nothing_below below h = absurd (omega (arith, (h.fails refl).1))

a_call_that_passes_is_nothing_else : CallsBelow (fuse 7 1 0) (fuse 8 2 0) ok ⊥ → ⊥
a_call_that_passes_is_nothing_else h = h.passes refl

each_call_is_counted : (below : Type 0) → CallsBelow (fuse 7 1 0) (fuse 7 1 0) ok below → ⊥
each_call_is_counted below h = absurd (omega (arith, h.counted))
