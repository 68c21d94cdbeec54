-- Laws of the outcomes of a stop of a device in memory.
use Rattle.std.specs.Prelude.{◌≡◌, ℕ, zero, suc, ◌+◌, ◌<◌, ◌≤◌, ◌^◌, List, [], ◌∷◌, length, replicate}
use Rattle.std.specs.Prelude.{slice_index, Option, Some, None, refl}
use Rattle.std.specs.List.{All, Contains}
use Rattle.std.proofs.Common.{get_or, set, take, subst, inl, inr, ⊎_elim, sym, ◌∙◌, arith, lit<, length-set}
use Rattle.std.proofs.lemmas.List.{get_or-set_same, get_or-set_other, get_or-take, length-replicate}
use Rattle.std.proofs.lemmas.List.{length-take-le}
use Rattle.std.proofs.lemmas.Bool.{cases_eq}
use Rattle.block_device.specs.Device.{Blocks, IsBlock, block_at}
use Rattle.block_device.specs.History.{Event, Wrote, Synced, undone, before, IsThere, IsHistory, MayLeave}
use Rattle.block_device.specs.History.{LeftSince, at_sync, unsynced}
use Rattle.block_device.specs.Stop.{IsOutcome}

-- what a number that is not in a list is not
pub not_first : (k n : ℕ) (ns : List ℕ) → ¬ Contains (n ∷ ns) k → ¬ (k ≡ n)
not_first k n ns none e = none (0, omega arith, sym e)

pub not_later : (k n : ℕ) (ns : List ℕ) → ¬ Contains (n ∷ ns) k → ¬ Contains ns k
not_later k n ns none one = none (suc one.0, omega (arith, one.1), one.2)

pub there_lt : (i : ℕ) (old : Option (List ℕ)) (blocks : Blocks) → IsThere i old blocks → i < length blocks
there_lt i (Some old) blocks there = there.0
there_lt i None blocks there = omega (arith, there)

pub undone_le : (i : ℕ) (old : Option (List ℕ)) (blocks : Blocks) → IsThere i old blocks
    → (i ≤ length (undone i old blocks)) × (length (undone i old blocks) ≤ length blocks)
undone_le i (Some old) blocks there =
    (omega (arith, there.0, length-set blocks i old), omega (arith, length-set blocks i old))
undone_le i None blocks there = (
  omega (arith, there, length-take-le i blocks (omega (arith, there))),
  omega (arith, there, length-take-le i blocks (omega (arith, there))),
)

pub undone_other : (i k : ℕ) (old : Option (List ℕ)) (blocks : Blocks) → IsThere i old blocks → ¬ (k ≡ i)
    → k < length (undone i old blocks) → block_at k (undone i old blocks) ≡ block_at k blocks
undone_other i k (Some old) blocks there apart lt = get_or-set_other blocks i k old [] apart
undone_other i k None blocks there apart lt =
    get_or-take i blocks k [] (omega (arith, lt, there, length-take-le i blocks (omega (arith, there))))

-- there were no more blocks at the last sync than there are
pub sync_le : (blocks : Blocks) (es : List Event) → IsHistory blocks es
    → length (at_sync blocks es) ≤ length blocks
sync_le blocks [] h = omega arith
sync_le blocks (Synced ∷ es) h = omega arith
sync_le blocks (Wrote i old ∷ es) h =
    omega (arith, sync_le (undone i old blocks) es h.1, (undone_le i old blocks h.0).1)

-- a block that was not written since is as it was then
pub sync_same : (blocks : Blocks) (es : List Event) (k : ℕ) → IsHistory blocks es
    → ¬ Contains (unsynced es) k → k < length (at_sync blocks es)
    → block_at k (at_sync blocks es) ≡ block_at k blocks
sync_same blocks [] k h none lt = refl
sync_same blocks (Synced ∷ es) k h none lt = refl
sync_same blocks (Wrote i old ∷ es) k h none lt =
    sync_same (undone i old blocks) es k h.1 (not_later k i (unsynced es) none) lt
    ∙ undone_other i k old blocks h.0 (not_first k i (unsynced es) none)
    (omega (arith, lt, sync_le (undone i old blocks) es h.1))

-- a block of one byte throughout
repeated_fit : (n byte k : ℕ) → byte < 256 → slice_index (replicate n byte) k < 256
repeated_fit zero byte k lt = omega arith
repeated_fit (suc n) byte zero lt = lt
repeated_fit (suc n) byte (suc k) lt = repeated_fit n byte k lt

pub repeated_block : (byte : ℕ) → byte < 256 → IsBlock (replicate 4096 byte)
repeated_block byte lt =
    record { size = length-replicate 4096 byte; bytes_fit = λ k. repeated_fit 4096 byte k lt }

-- a block written or left out leaves blocks
pub set_blocks : (i : ℕ) (b : List ℕ) (bs : Blocks) → IsBlock b → All IsBlock bs → All IsBlock (set bs i b)
set_blocks i b bs sized all k d lt = ⊎_elim
    (λ (e : k ≡ i). subst (λ (j : ℕ). IsBlock (get_or (set bs i b) j d)) (sym e)
    (subst IsBlock (sym (get_or-set_same bs i b d (omega (arith, lt, e, length-set bs i b)))) sized))
    (λ (apart : ¬ (k ≡ i)). subst IsBlock (sym (get_or-set_other bs i k b d apart))
    (all k d (omega (arith, lt, length-set bs i b))))
    (cases_eq k i)

pub take_blocks : (i : ℕ) (bs : Blocks) → i ≤ length bs → All IsBlock bs → All IsBlock (take i bs)
take_blocks i bs le all k d lt =
    let size : length (take i bs) ≡ i = length-take-le i bs le in
    subst IsBlock (sym (get_or-take i bs k d (omega (arith, lt, size))))
    (all k d (omega (arith, lt, size, le)))

-- so do blocks of an earlier moment
pub undone_blocks : (i : ℕ) (old : Option (List ℕ)) (blocks : Blocks) → IsThere i old blocks
    → All IsBlock blocks → All IsBlock (undone i old blocks)
undone_blocks i (Some old) blocks there all = set_blocks i old blocks there.1 all
undone_blocks i None blocks there all = take_blocks i blocks (omega (arith, there)) all

pub sync_blocks : (blocks : Blocks) (es : List Event) → IsHistory blocks es → All IsBlock blocks
    → All IsBlock (at_sync blocks es)
sync_blocks blocks [] h all = all
sync_blocks blocks (Synced ∷ es) h all = all
sync_blocks blocks (Wrote i old ∷ es) h all =
    sync_blocks (undone i old blocks) es h.1 (undone_blocks i old blocks h.0 all)

-- what is read is one of the outcomes
pub shown_left : (blocks : Blocks) (es : List Event) → All IsBlock blocks → IsHistory blocks es
    → MayLeave blocks es blocks
shown_left blocks es sized h =
    record {
      no_shorter = sync_le blocks es h;
      no_longer = omega arith;
      whole = sized;
      others = λ k none lt. refl;
    }

-- so they are where nothing was written
pub all_left : (blocks : Blocks) → All IsBlock blocks → IsOutcome blocks blocks [] blocks
all_left blocks sized =
    record { no_shorter = omega arith; no_longer = omega arith; whole = sized; others = λ k none lt. refl }

pub no_longer_left : (blocks : Blocks) (es : List Event) (c : Blocks) → MayLeave blocks es c
    → length c ≤ length blocks + 1
no_longer_left blocks es c now = omega (arith, now.no_longer)

pub now_since : (blocks : Blocks) (es : List Event) (t : ℕ) (c : Blocks) → MayLeave blocks es c
    → LeftSince blocks es t c
now_since blocks [] t c now = now
now_since blocks (e ∷ es) t c now = inl now

pub since_now : (blocks : Blocks) (es : List Event) (c : Blocks) → LeftSince blocks es (length es) c
    → MayLeave blocks es c
since_now blocks [] c left = left
since_now blocks (e ∷ es) c left = ⊎_elim
    (λ (now : MayLeave blocks (e ∷ es) c). now)
    (λ (past : (suc (length es) ≤ length es) × LeftSince (before e blocks) es (suc (length es)) c). absurd
    (omega (arith, past.0)))
    left

pub since_earlier_left : (blocks : Blocks) (es : List Event) (t u : ℕ) (c : Blocks) → t ≤ u
    → LeftSince blocks es u c → LeftSince blocks es t c
since_earlier_left blocks [] t u c le left = left
since_earlier_left blocks (e ∷ es) t u c le left = ⊎_elim
    (λ (now : MayLeave blocks (e ∷ es) c). inl now)
    (λ (past : (u ≤ length es) × LeftSince (before e blocks) es u c). inr
    (omega (arith, le, past.0), since_earlier_left (before e blocks) es t u c le past.1))
    left

-- no fault at all is a u64
pub none_fits : 0 < 2 ^ 64
none_fits = lit< tt
