-- Worked examples of a device in memory: the marks and the log that it keeps of writes, and what its calls
-- answer and leave. No other proof rests on them. A definition that says another thing is refused here.
use Rattle.std.proofs.Common.{◌≡◌, ◌∙◌, ℕ, zero, suc, ◌<◌, List, [], ◌∷◌, true, false, Result, Ok, Err, Some}
use Rattle.std.proofs.Common.{None, refl, sym, ap, arith, map, slice_index_or}
use Rattle.std.proofs.lemmas.List.Elements.{All-nil}
use Rattle.block_device.specs.Device.{IsBlock, block_at, written, one_more}
use Rattle.block_device.specs.History.{Wrote, Synced}
use Rattle.block_device.specs.Kept.{IsKept, is_in, is_logged, IsOld, Keeps, FillsMarked, IsLeftFrom}
use Rattle.block_device.specs.Logged.{Write, writes_in, restored}
use Rattle.block_device.specs.Memory.{shown_of, history_of, writes_of, unsynced_of, AnswersRead, HasWritten}
use Rattle.block_device.specs.Memory.{AnswersWrite, AnswersSync, IsLeftBy}
use Rattle.block_device.specs.declared.device.DeviceError.{DeviceError}
use Rattle.block_device.specs.declared.device.DeviceError.TheVariants.{Failed, Memory}
use Rattle.block_device.specs.declared.left.Left.TheVariants.{Written as LeavesWritten}
use Rattle.block_device.specs.declared.left.Left.TheVariants.{Synced as LeavesSynced}
use Rattle.block_device.specs.declared.memory.MemoryDevice.{MemoryDevice}
use Rattle.block_device.proofs.StopExamples.{tiny, two}

-- ---- what is kept for a stop

abbrev log : List Write
log = record { at = 0; old = tiny 7 } ∷ record { at = 1; old = tiny 8 } ∷ record { at = 0; old = tiny 9 } ∷ []

a_log_of_numbers_and_blocks : writes_in (0 ∷ 1 ∷ 0 ∷ []) (tiny 7 ∷ tiny 8 ∷ tiny 9 ∷ []) ≡ log
a_log_of_numbers_and_blocks = refl

writes_are_restored_in_the_order_of_the_log : restored log two ≡ tiny 9 ∷ tiny 8 ∷ []
writes_are_restored_in_the_order_of_the_log = refl

numbers_in_a_list : map (λ k. is_in k (1 ∷ 3 ∷ [])) (0 ∷ 1 ∷ 2 ∷ 3 ∷ []) ≡ false ∷ true ∷ false ∷ true ∷ []
numbers_in_a_list = refl

blocks_in_a_log : map (λ k. is_logged k log) (0 ∷ 1 ∷ 2 ∷ []) ≡ true ∷ true ∷ false ∷ []
blocks_in_a_log = refl

a_write_tells_what_was_there : IsOld two (record { at = 1; old = tiny 2 })
a_write_tells_what_was_there = (omega arith, refl)

no_write_tells_of_a_block_that_was_not : IsOld two (record { at = 2; old = [] }) → ⊥
no_write_tells_of_a_block_that_was_not h = absurd (omega (arith, h.0))

the_first_write_is_logged : Keeps 1 (tiny 2) (true ∷ false ∷ []) [] (true ∷ true ∷ [])
    (record { at = 1; old = tiny 2 } ∷ [])
the_first_write_is_logged = record { marked = refl; logged = refl }

a_further_write_is_not : Keeps 0 (tiny 1) (true ∷ false ∷ []) [] (true ∷ false ∷ []) []
a_further_write_is_not = record { marked = refl; logged = refl }

a_marked_block_is_filled : FillsMarked (tiny 9) (false ∷ true ∷ []) two (tiny 1 ∷ tiny 9 ∷ [])
a_marked_block_is_filled = record { as_many = refl; there = there; others = others }
  where
    there : (k : ℕ) → k < 2 → slice_index_or (false ∷ true ∷ []) k false ≡ true
        → block_at k (tiny 1 ∷ tiny 9 ∷ []) ≡ tiny 9
    there zero lt mark = absurd (cc)
    there (suc zero) lt mark = refl
    there (suc (suc k)) lt mark = absurd (omega (arith, lt))

    others : (k : ℕ) → slice_index_or (false ∷ true ∷ []) k false ≡ false
        → block_at k (tiny 1 ∷ tiny 9 ∷ []) ≡ block_at k two
    others zero mark = refl
    others (suc zero) mark = absurd (cc)
    others (suc (suc k)) mark = refl

no_marked_block_is_left_out : FillsMarked (tiny 9) (false ∷ true ∷ []) two (tiny 1 ∷ tiny 1 ∷ []) → ⊥
no_marked_block_is_left_out h = let no = h.there 1 (omega arith) refl in absurd (cc)

no_block_without_a_mark_is_filled : FillsMarked (tiny 9) (false ∷ true ∷ []) two (tiny 9 ∷ tiny 9 ∷ []) → ⊥
no_block_without_a_mark_is_filled h = let no = h.others 0 refl in absurd (cc)

the_log_and_the_count_give_back_the_last_sync : IsLeftFrom LeavesSynced (true ∷ true ∷ [])
    (record { at = 0; old = tiny 7 } ∷ []) 1 two (tiny 7 ∷ [])
the_log_and_the_count_give_back_the_last_sync = refl

a_new_device_keeps_nothing : IsKept [] [] [] 0 []
a_new_device_keeps_nothing = record {
  whole = All-nil IsBlock;
  leads = tt;
  as_many = refl;
  marked = λ k lt. absurd (omega (arith, lt));
  synced_is = refl;
  logged = λ k lt. absurd (omega (arith, lt));
  old = All-nil (IsOld []);
}

-- block 0 was there at the last sync, and was written since
a_written_block_is_marked : (ws : List Write)
    → IsKept (tiny 1 ∷ []) (false ∷ []) ws 1 (Wrote 0 (Some (tiny 7)) ∷ []) → ⊥
a_written_block_is_marked ws h = let no = h.marked 0 (omega arith) in absurd (cc)

a_written_block_is_logged : IsKept (tiny 1 ∷ []) (true ∷ []) [] 1 (Wrote 0 (Some (tiny 7)) ∷ []) → ⊥
a_written_block_is_logged h = let no = h.logged 0 (omega arith) refl in absurd (cc)

a_written_block_is_logged_with_what_it_held : IsKept (tiny 1 ∷ []) (true ∷ [])
    (record { at = 0; old = tiny 1 } ∷ []) 1 (Wrote 0 (Some (tiny 7)) ∷ []) → ⊥
a_written_block_is_logged_with_what_it_held h = let no =
    (h.old 0 (record { at = 0; old = [] }) (omega arith)).1 in absurd (cc)

an_appended_block_was_not_synced : (ws : List Write)
    → IsKept (tiny 1 ∷ []) (true ∷ []) ws 1 (Wrote 0 None ∷ []) → ⊥
an_appended_block_was_not_synced ws h = absurd (omega (arith, h.synced_is))

-- ---- calls of a device in memory

module _ {X : Type 0} (old new : MemoryDevice X) where
  a_read_gives_the_block : (result : Result (Unit {0}) DeviceError) → shown_of old ≡ two
      → AnswersRead old 1 result (tiny 1) new → ⊥
  a_read_gives_the_block result is h = let no = h.bytes ∙ ap (block_at 1) is in absurd (cc)

  a_read_answers_ok : (into : List ℕ) → AnswersRead old 1 (Err Memory) into new → ⊥
  a_read_answers_ok into h = let no = h.ok in absurd (cc)

  a_write_is_read : shown_of old ≡ two → HasWritten old 1 (tiny 9) new → shown_of new ≡ tiny 1 ∷ tiny 9 ∷ []
  a_write_is_read is h = h.shown ∙ ap (written 1 (tiny 9)) is

  a_write_is_unsynced_and_counted : unsynced_of old ≡ 0 ∷ [] → writes_of old ≡ 3
      → HasWritten old 1 (tiny 9) new → (unsynced_of new ≡ 1 ∷ 0 ∷ []) × (writes_of new ≡ 4)
  a_write_is_unsynced_and_counted was count h =
      (h.unsynced ∙ ap (λ ns. 1 ∷ ns) was, h.counted ∙ ap one_more count)

  a_write_is_refused_for_memory_alone : (bytes : List ℕ) → AnswersWrite old 1 bytes (Err Failed) new → ⊥
  a_write_is_refused_for_memory_alone bytes h = h.memory refl

  a_refused_write_changes_nothing : shown_of old ≡ two → shown_of new ≡ tiny 1 ∷ tiny 9 ∷ []
      → AnswersWrite old 1 (tiny 9) (Err Memory) new → ⊥
  a_refused_write_changes_nothing was is h = let no = sym is ∙ h.refused.shown ∙ was in absurd (cc)

  a_block_written_again_takes_no_memory : shown_of old ≡ two → unsynced_of old ≡ 1 ∷ []
      → AnswersWrite old 1 (tiny 9) (Err Memory) new → ⊥
  a_block_written_again_takes_no_memory shown was h = let no =
      h.again (rw was (0, omega arith, refl)) (rw shown (omega arith)) in absurd (cc)

  after_a_sync_nothing_is_unsynced : unsynced_of new ≡ 1 ∷ [] → AnswersSync old (Ok tt) new → ⊥
  after_a_sync_nothing_is_unsynced is h = let no = sym is ∙ h.unsynced in absurd (cc)

  a_stop_leaves_no_history : history_of new ≡ Synced ∷ [] → IsLeftBy LeavesWritten old new → ⊥
  a_stop_leaves_no_history is h = let no = sym is ∙ h.fresh in absurd (cc)

  a_stop_leaves_what_its_kind_says : shown_of old ≡ two → IsLeftBy LeavesWritten old new → shown_of new ≡ two
  a_stop_leaves_what_its_kind_says is h = h.shown ∙ is
