-- Worked examples of what a cache shows of the blocks below it, and of how calls end. No other proof rests on
-- them. A definition that says another thing than docs/FORMAT.md is refused here.
use Rattle.std.proofs.Common.{◌≡◌, ℕ, ◌-◌, ◌^◌, [], ◌∷◌, Some, None, Ok, Err, if◌then◌else◌, ◌==◌, refl}
use Rattle.page_file.specs.declared.fault.Fault.TheVariants.{Device, Memory}
use Rattle.page_cache.specs.Calls.{fault_in, faults_behind, looks_after}
use Rattle.page_cache.specs.Frames.{laid_over}

-- page 1 is changed in memory, and so is page 5, which has no block
changed_pages_are_read_in_the_place_of_their_blocks :
    laid_over (λ n. if n == 1 then Some (7 ∷ []) else if n == 5 then Some (8 ∷ []) else None)
    ((0 ∷ []) ∷ (1 ∷ []) ∷ (2 ∷ []) ∷ [])
    ≡ (0 ∷ []) ∷ (7 ∷ []) ∷ (2 ∷ []) ∷ []
changed_pages_are_read_in_the_place_of_their_blocks = refl

a_call_that_succeeds_ends_without_a_fault : fault_in {T = ℕ} (Ok 3) ≡ None
a_call_that_succeeds_ends_without_a_fault = refl

only_a_fault_of_the_device_is_counted : faults_behind None 4 ∷ faults_behind (Some Memory) 4 ∷ faults_behind
    (Some Device) 4 ∷ [] ≡ 4 ∷ 4 ∷ 5 ∷ []
only_a_fault_of_the_device_is_counted = refl

a_page_that_is_refused_is_no_look : looks_after {T = ℕ} (Ok 0) 4 ∷ looks_after {T = ℕ} (Err Memory)
    4 ∷ [] ≡ 5 ∷ 4 ∷ []
a_page_that_is_refused_is_no_look = refl

the_greatest_count_of_looks_stays : looks_after {T = ℕ} (Ok 0) (2 ^ 64 - 1) ≡ 2 ^ 64 - 1
the_greatest_count_of_looks_stays = refl
