-- The core law: recovery of what a stop leaves of the base as it is read, and of the blocks behind the regions,
-- gives the last commit, or the one in progress.
use Rattle.std.proofs.Common.{◌≡◌, ◌∙◌, ◌⊎◌, ℕ, ◌+◌, ◌<◌, ◌≤◌, Bool, true, false, List, [], ◌++◌, length, take, drop}
use Rattle.std.proofs.Common.{refl, sym, ap, subst, arith, inl, inr, ⊎_elim}
use Rattle.std.specs.List.{All}
use Rattle.std.proofs.lemmas.Bool.{cases_Bool}
use Rattle.std.proofs.lemmas.List.{append-nil, get_or-drop, get_or-take, length-take-le, take-append-drop}
use Rattle.std.proofs.lemmas.List.Elements.{All-weaker}
use Rattle.block_device.specs.Device.{Begins, BeginsOne, Blocks, block_at}
use Rattle.committed_log.specs.Log.{homes_in, index_blocks, is_committed, no_home, overlaid, recovered}
use Rattle.committed_log.specs.Log.{region_homes, region_of, says, size_of, slot_homes}
use Rattle.committed_log.specs.Opening.{IsMalformed}
use Rattle.committed_log.specs.Region.{IsRegion}
use Rattle.committed_log.specs.Regions.{committed_room, homes_alone, homes_more, homes_unsaid, is_committed_so}
use Rattle.committed_log.specs.Regions.{length_homes, recovered_unsaid, region_same, size_same}
use Rattle.committed_log.specs.Whole.{malformed_rest, slots_below, unsaid_well, whole_alone}
use Rattle.logged_pair.specs.Shown.{shown_flag, shown_region}
use Rattle.logged_pair.specs.Stages.{CommitsIn, IsDeciding, IsFilling, IsRecorded, ReadsIn, SameBehind, StopIn}
use Rattle.logged_pair.specs.Stages.{shown_through}

-- ---- beginnings

pub begins_same : (a b : Blocks) → b ≡ a → Begins a b
begins_same a b e = record { no_shorter = omega (arith, ap length e); same = λ k lt. ap (block_at k) e }

pub begins_take : (n : ℕ) (a : Blocks) → n ≤ length a → Begins (take n a) a
begins_take n a le =
    let size : length (take n a) ≡ n = length-take-le n a le in
    record {
      no_shorter = omega (arith, size, le);
      same = λ k lt. sym (get_or-take n a k [] (omega (arith, lt, size)));
    }

pub begins_as : (kept c d : Blocks) → d ≡ c → Begins kept c → Begins kept d
begins_as kept c d e begins = subst (Begins kept) (sym e) begins

-- ---- a region that is recorded

module _ (slots : List ℕ) (journal : Blocks) (r : IsRecorded slots journal) where
  pub recorded_size : size_of journal ≡ 2 + length slots + index_blocks (length slots)
  recorded_size = ap (λ (n : ℕ). 2 + n + index_blocks n) r.count

  recorded_homes : region_homes journal ≡ region_of slots
  unfolding region_homes
  recorded_homes =
      ap (λ (n : ℕ). region_of (slot_homes n 0 n journal)) r.count ∙ ap region_of r.index

  -- it is one, once its flag says so
  pub recorded_region : (n : ℕ) → says (block_at 0 journal) ≡ true → All (λ h. h < n) slots
      → IsRegion slots n journal
  recorded_region n said below = record {
    committed = is_committed_so journal said (omega (arith, recorded_size, r.room));
    homes = recorded_homes;
    below = below;
    there = omega (arith, recorded_size, r.room);
  }

  same_size : (b : Blocks) → SameBehind b journal → size_of b ≡ size_of journal
  same_size b same = size_same journal b (λ j gt lt. same.same j gt)

  same_committed : (b : Blocks) → SameBehind b journal → says (block_at 0 b) ≡ true → is_committed b ≡ true
  same_committed b same said =
      is_committed_so b said (omega (arith, same_size b same, recorded_size, r.room, same.as_many))

  same_homes : (b : Blocks) → SameBehind b journal → region_homes b ≡ region_of slots
  same_homes b same = region_same journal b (λ j gt lt. same.same j gt) ∙ recorded_homes

  behind_unsaid : (b : Blocks) → SameBehind b journal → says (block_at 0 (drop (size_of b) b)) ≡ false
  behind_unsaid b same =
      let at : size_of b + 0 ≡ 2 + length slots + index_blocks (length slots) =
      omega (arith, same_size b same, recorded_size) in
      ap says (get_or-drop (size_of b) b 0 [] ∙ ap (λ (n : ℕ). block_at n b) at
      ∙ same.same (2 + length slots + index_blocks (length slots)) (omega arith))
      ∙ r.last

  -- and then it is the last one
  recorded_last : (b : Blocks) → SameBehind b journal → says (block_at 0 b) ≡ true → homes_in b ≡ region_of slots
  recorded_last b same said =
      homes_more b (same_committed b same said)
      ∙ ap (λ (l : List ℕ). l ++ homes_in (drop (size_of b) b)) (same_homes b same)
      ∙ ap (λ (l : List ℕ). region_of slots ++ l) (homes_unsaid (drop (size_of b) b) (behind_unsaid b same))
      ∙ append-nil (region_of slots)

  -- whether the flag says so or not, it is not malformed
  recorded_well : (v b : Blocks) → All (λ h. h < length v) slots → SameBehind b journal → ¬ IsMalformed v b
  recorded_well v b below same bad = ⊎_elim
      (λ (said : says (block_at 0 b) ≡ true).
      let n : ℕ = size_of b in
      let e : is_committed b ≡ true = same_committed b same said in
      unsaid_well v (drop n b) (behind_unsaid b same)
      (malformed_rest v v (take n b) (drop n b) (region_homes b) (homes_alone b e)
      (length_homes b ∙ sym (length-take-le n b (committed_room b e))) refl
      (whole_alone (length v) b e (slots_below (length v) slots b (same_homes b same) below))
      (subst (IsMalformed v) (sym (take-append-drop n b)) bad)))
      (λ (none : says (block_at 0 b) ≡ false). unsaid_well v b none bad)
      (cases_Bool (says (block_at 0 b)))

  -- the flag decides
  pub decides : (base v j : Blocks) → length base ≤ no_home → IsDeciding base journal v j
      → (recovered v j ≡ base) ⊎ (recovered v j ≡ shown_through slots journal base)
  decides base v j few stop = ⊎_elim
      (λ (said : says (block_at 0 j) ≡ true). inr
      (ap (λ (l : List ℕ). overlaid l j v) (recorded_last j stop.journal_is said)
      ∙ ap (overlaid (region_of slots) j) stop.base_is
      ∙ shown_region slots j base few
      ∙ shown_flag slots j journal base few stop.journal_is))
      (λ (none : says (block_at 0 j) ≡ false). inl (recovered_unsaid v j none ∙ stop.base_is))
      (cases_Bool (says (block_at 0 j)))

-- ---- the law

pub recovery_of_filling : (kept : ℕ) (base v j : Blocks) → IsFilling kept base v j
    → Begins (take kept base) (recovered v j)
recovery_of_filling kept base v j stop =
    begins_as (take kept base) v (recovered v j) (recovered_unsaid v j stop.unsaid) stop.begins

pub recovery : (deciding : Bool) (kept : ℕ) (slots : List ℕ) (base journal v j : Blocks)
    → length base ≤ no_home → kept ≤ length base → ReadsIn deciding slots journal
    → StopIn deciding kept base journal v j
    → BeginsOne (CommitsIn deciding kept slots base journal) (recovered v j)
recovery false kept slots base journal v j few le reads stop =
    (take kept base, refl, recovery_of_filling kept base v j stop)
recovery true kept slots base journal v j few le reads stop = ⊎_elim
    (λ (old : recovered v j ≡ base). (
      take kept base,
      inl refl,
      begins_as (take kept base) base (recovered v j) old (begins_take kept base le),
    ))
    (λ (new : recovered v j ≡ shown_through slots journal base). (
      shown_through slots journal base,
      inr refl,
      begins_same (shown_through slots journal base) (recovered v j) new,
    ))
    (decides slots journal reads base v j few stop)

-- ---- no region is malformed

pub stop_well : (deciding : Bool) (kept : ℕ) (slots : List ℕ) (base journal v j : Blocks) → kept ≤ length base
    → All (λ h. h < kept) slots → ReadsIn deciding slots journal → StopIn deciding kept base journal v j
    → ¬ IsMalformed v j
stop_well false kept slots base journal v j le below reads stop = unsaid_well v j stop.unsaid
stop_well true kept slots base journal v j le below reads stop =
    recorded_well slots journal reads v j
    (All-weaker (λ h. h < kept) (λ h. h < length v) (λ h lt. omega (arith, lt, le, ap length stop.base_is)) slots below)
    stop.journal_is
