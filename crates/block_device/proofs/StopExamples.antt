-- Worked examples of the histories of a device in memory: what a stop at each moment may leave, and what the
-- stops that can be tried leave. No other proof rests on them. A definition that says another thing than
-- docs/FORMAT.md, "The disk model of a stop", is refused here.
use Rattle.std.proofs.Common.{◌≡◌, ℕ, zero, suc, ◌<◌, List, [], ◌∷◌, Some, None, All, Contains, refl, ap}
use Rattle.std.proofs.Common.{arith, inl, inr, get_or, length, map}
use Rattle.std.proofs.lemmas.List.Elements.{All-nil, All-cons}
use Rattle.block_device.specs.Device.{IsBlock, Blocks, block_at}
use Rattle.block_device.specs.History.{Event, Wrote, Synced, history, undone, before, IsThere, IsHistory}
use Rattle.block_device.specs.History.{at_sync, unsynced, MayLeave, LeftSince}
use Rattle.block_device.specs.Memory.{IsLeft}
use Rattle.block_device.specs.Stop.{IsOutcome, IsFilled}
use Rattle.block_device.specs.declared.left.Left.TheVariants.{Written as LeavesWritten}
use Rattle.block_device.specs.declared.left.Left.TheVariants.{Synced as LeavesSynced, Filled}
use Rattle.block_device.proofs.Examples.{block, is_block}

abbrev pub tiny : ℕ → List ℕ
tiny byte = byte ∷ []

abbrev pub two : Blocks
two = tiny 1 ∷ tiny 2 ∷ []

-- ---- a history

notes_say_events : history (([], []) ∷ (3 ∷ [], []) ∷ (3 ∷ 0 ∷ [], tiny 7) ∷ []) ≡ Synced ∷ Wrote 3
    None ∷ Wrote 3 (Some (tiny 7)) ∷ []
notes_say_events = refl

a_change_is_undone : map (λ i. undone i (Some (tiny 7)) two)
    (0 ∷ 1 ∷ []) ≡ (tiny 7 ∷ tiny 2 ∷ []) ∷ (tiny 1 ∷ tiny 7 ∷ []) ∷ []
a_change_is_undone = refl

an_append_is_undone : undone 1 None two ≡ tiny 1 ∷ []
an_append_is_undone = refl

a_sync_changes_nothing : before Synced two ≡ two
a_sync_changes_nothing = refl

-- block 0 was changed twice, and block 1 appended, since the sync; before it block 0 held a 9
abbrev events : List Event
events =
    Wrote 0 (Some (tiny 5)) ∷ Wrote 1 None ∷ Wrote 0 (Some (tiny 7)) ∷ Synced ∷ Wrote 0 (Some (tiny 9)) ∷ []

at_the_last_sync : at_sync two events ≡ tiny 7 ∷ []
at_the_last_sync = refl

without_a_sync_at_the_beginning : at_sync two (Wrote 1 None ∷ Wrote 0 (Some (tiny 7)) ∷ []) ≡ tiny 7 ∷ []
without_a_sync_at_the_beginning = refl

written_since_then : unsynced events ≡ 0 ∷ 1 ∷ 0 ∷ []
written_since_then = refl

an_appended_block_is_the_last : IsThere 1 None two
an_appended_block_is_the_last = refl

the_first_of_two_was_not_appended : IsThere 0 None two → ⊥
the_first_of_two_was_not_appended h = absurd (omega (arith, h))

a_changed_block_is_there : IsThere 1 (Some (block 7)) two
a_changed_block_is_there = (omega arith, is_block 7 (omega arith))

no_third_of_two_was_changed : IsThere 2 (Some (block 7)) two → ⊥
no_third_of_two_was_changed h = absurd (omega (arith, h.0))

a_changed_block_was_a_block : IsThere 1 (Some (tiny 7)) two → ⊥
a_changed_block_was_a_block h = absurd (omega (arith, h.1.size))

a_history : IsHistory two (Wrote 0 (Some (block 5)) ∷ Synced ∷ Wrote 1 None ∷ Wrote 0 None ∷ [])
a_history = ((omega arith, is_block 5 (omega arith)), (refl, (refl, tt)))

no_history_appends_a_block_twice : IsHistory two (Wrote 1 None ∷ Wrote 1 None ∷ []) → ⊥
no_history_appends_a_block_twice h = absurd (omega (arith, h.1.0))

-- ---- what a stop leaves

abbrev one : ℕ → Blocks
one a = block a ∷ []

abbrev both : ℕ → ℕ → Blocks
both a b = block a ∷ block b ∷ []

all_one : (a : ℕ) → a < 256 → All IsBlock (one a)
all_one a lt = All-cons IsBlock (block a) [] (is_block a lt) (All-nil IsBlock)

all_both : (a b : ℕ) → a < 256 → b < 256 → All IsBlock (both a b)
all_both a b lt lt' = All-cons IsBlock (block a) (one b) (is_block a lt) (all_one b lt')

not_0 : ¬ Contains {X = ℕ} (1 ∷ []) 0
not_0 (zero, lt, e) = absurd (omega (arith, e))
not_0 (suc i, lt, e) = absurd (omega (arith, lt))

-- block 1 was written since the last sync, at which it was there, or was not
an_unsynced_block_holds_any_bytes : (byte : ℕ) → byte < 256
    → IsOutcome (both 1 2) (both 1 3) (1 ∷ []) (both 1 byte)
an_unsynced_block_holds_any_bytes byte fits =
    record {
      no_shorter = omega arith;
      no_longer = omega arith;
      whole = all_both 1 byte (omega arith) fits;
      others = same;
    }
  where
    same : (k : ℕ) → ¬ Contains (1 ∷ []) k → k < 2 → block_at k (both 1 byte) ≡ block_at k (both 1 2)
    same zero none lt = refl
    same (suc zero) none lt = absurd (none (0, omega arith, refl))
    same (suc (suc k)) none lt = absurd (omega (arith, lt))

an_appended_block_may_be_missing : IsOutcome (both 1 2) (one 1) (1 ∷ []) (one 1)
an_appended_block_may_be_missing =
    record {
      no_shorter = omega arith;
      no_longer = omega arith;
      whole = all_one 1 (omega arith);
      others = same;
    }
  where
    same : (k : ℕ) → ¬ Contains (1 ∷ []) k → k < 1 → block_at k (one 1) ≡ block_at k (both 1 2)
    same zero none lt = refl
    same (suc k) none lt = absurd (omega (arith, lt))

a_block_that_was_synced_is_not_missing : IsOutcome (both 1 2) (both 1 3) (1 ∷ []) (one 1) → ⊥
a_block_that_was_synced_is_not_missing h = absurd (omega (arith, h.no_shorter))

no_block_is_added : IsOutcome (one 1) (one 1) (1 ∷ []) (both 1 2) → ⊥
no_block_is_added h = absurd (omega (arith, h.no_longer))

a_block_that_was_not_written_stays : IsOutcome (both 1 2) (both 1 3) (1 ∷ []) (both 9 2) → ⊥
a_block_that_was_not_written_stays h =
    absurd (omega (arith, ap (λ b. get_or b 0 0) (h.others 0 not_0 (omega arith))))

each_block_has_4096_bytes : IsOutcome two two (0 ∷ 1 ∷ []) two → ⊥
each_block_has_4096_bytes h = absurd (omega (arith, (h.whole 0 [] (omega arith)).size))

-- it was written, and synced
abbrev synced : List Event
synced = Synced ∷ Wrote 0 (Some (block 1)) ∷ []

after_a_sync_a_stop_leaves_what_is_read : MayLeave (one 2) synced (one 2)
after_a_sync_a_stop_leaves_what_is_read =
    record {
      no_shorter = omega arith;
      no_longer = omega arith;
      whole = all_one 2 (omega arith);
      others = λ k none lt. refl;
    }

after_a_sync_a_stop_leaves_nothing_else : MayLeave (one 2) synced (one 9) → ⊥
after_a_sync_a_stop_leaves_nothing_else h =
    absurd (omega
    (arith, ap (λ b. get_or b 0 0) (h.others 0 (λ none. absurd (omega (arith, none.1))) (omega arith))))

before_the_sync_a_stop_left_any_bytes : LeftSince (one 2) synced 1 (one 9)
before_the_sync_a_stop_left_any_bytes =
    inr (
      omega arith,
      inl (record {
        no_shorter = omega arith;
        no_longer = omega arith;
        whole = all_one 9 (omega arith);
        others = same;
      }),
    )
  where
    same : (k : ℕ) → ¬ Contains (0 ∷ []) k → k < 1 → block_at k (one 9) ≡ block_at k (one 2)
    same zero none lt = absurd (none (0, omega arith, refl))
    same (suc k) none lt = absurd (omega (arith, lt))

since_the_sync_a_stop_left_nothing_else : LeftSince (one 2) synced 2 (one 9) → ⊥
since_the_sync_a_stop_left_nothing_else (inl now) = after_a_sync_a_stop_leaves_nothing_else now
since_the_sync_a_stop_left_nothing_else (inr past) = absurd (omega (arith, past.0))

-- block 0 was written and synced, and then block 1
abbrev in_turn : List Event
in_turn = Synced ∷ Wrote 1 (Some (block 4)) ∷ Synced ∷ Wrote 0 (Some (block 9)) ∷ []

at_an_earlier_moment_a_stop_left_the_blocks_of_that_moment : LeftSince (both 1 5) in_turn 1 (both 7 4)
at_an_earlier_moment_a_stop_left_the_blocks_of_that_moment =
    inr (
      omega arith,
      inr (
        omega arith,
        inr (
          omega arith,
          inl (record {
            no_shorter = omega arith;
            no_longer = omega arith;
            whole = all_both 7 4 (omega arith) (omega arith);
            others = same;
          }),
        ),
      ),
    )
  where
    same : (k : ℕ) → ¬ Contains (0 ∷ []) k → k < 2 → block_at k (both 7 4) ≡ block_at k (both 1 4)
    same zero none lt = absurd (none (0, omega arith, refl))
    same (suc zero) none lt = refl
    same (suc (suc k)) none lt = absurd (omega (arith, lt))

-- ---- the stops that can be tried

a_filled_block : IsFilled (tiny 9) (1 ∷ []) two (tiny 1 ∷ tiny 9 ∷ [])
a_filled_block = record { as_many = refl; there = there; others = others }
  where
    there : (k : ℕ) → Contains (1 ∷ []) k → k < 2 → block_at k (tiny 1 ∷ tiny 9 ∷ []) ≡ tiny 9
    there zero one lt = absurd (not_0 one)
    there (suc zero) one lt = refl
    there (suc (suc k)) one lt = absurd (omega (arith, lt))

    others : (k : ℕ) → ¬ Contains (1 ∷ []) k → block_at k (tiny 1 ∷ tiny 9 ∷ []) ≡ block_at k two
    others zero none = refl
    others (suc zero) none = absurd (none (0, omega arith, refl))
    others (suc (suc k)) none = refl

an_unsynced_block_is_filled : IsFilled (tiny 9) (1 ∷ []) two two → ⊥
an_unsynced_block_is_filled h = let no = h.there 1 (0, omega arith, refl) (omega arith) in absurd (cc)

no_other_block_is_filled : IsFilled (tiny 9) (1 ∷ []) two (tiny 9 ∷ tiny 9 ∷ []) → ⊥
no_other_block_is_filled h = let no = h.others 0 not_0 in absurd (cc)

filling_adds_no_block : IsFilled (tiny 9) (1 ∷ []) (tiny 1 ∷ []) (tiny 1 ∷ tiny 9 ∷ []) → ⊥
filling_adds_no_block h = absurd (omega (arith, h.as_many))

-- block 0 was changed and block 1 appended
what_was_written_is_left : IsLeft LeavesWritten two (tiny 7 ∷ []) (1 ∷ 0 ∷ []) two
what_was_written_is_left = refl

a_stop_may_not_undo_what_it_leaves_written : IsLeft LeavesWritten two (tiny 7 ∷ []) (1 ∷ 0 ∷ [])
    (tiny 7 ∷ []) → ⊥
a_stop_may_not_undo_what_it_leaves_written h = absurd (cc)

what_was_synced_is_left_without_the_append : IsLeft LeavesSynced two (tiny 7 ∷ []) (1 ∷ 0 ∷ []) (tiny 7 ∷ [])
what_was_synced_is_left_without_the_append = refl

a_stop_may_not_keep_what_it_takes_back : IsLeft LeavesSynced two (tiny 7 ∷ []) (1 ∷ 0 ∷ []) two → ⊥
a_stop_may_not_keep_what_it_takes_back h = absurd (cc)

where_all_is_synced_nothing_is_filled : IsLeft (Filled 9) two two [] two
where_all_is_synced_nothing_is_filled =
    record { as_many = refl; there = λ k one lt. absurd (omega (arith, one.1)); others = λ k none. refl }

whole_blocks_are_filled : IsLeft (Filled 9) two two (1 ∷ []) (tiny 1 ∷ tiny 9 ∷ []) → ⊥
whole_blocks_are_filled h =
    absurd (omega
    (arith, (is_block 9 (omega arith)).size, ap length (h.there 1 (0, omega arith, refl) (omega arith))))
