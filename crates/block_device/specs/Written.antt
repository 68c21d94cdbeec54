-- Lemmas on a block written: what is read then, and how many blocks there are.
use Rattle.std.proofs.Common.{◌≡◌, ◌∙◌, ℕ, zero, suc, ◌+◌, ◌<◌, ◌≤◌, List, [], ◌∷◌, ◌++◌, length, take, set}
use Rattle.std.proofs.Common.{refl, sym, ap, arith, ⊎_elim, inr, length-set}
use Rattle.std.proofs.lemmas.List.{take_all, take_more, set-set, set-get_or, length-take-le}
use Rattle.std.proofs.lemmas.Bool.{cases_lt}
use Rattle.block_device.specs.Device.{Blocks, IsBlock, Torn, block_at, written}

-- a block that is there
pub set_written : (i : ℕ) (b : List ℕ) (bs : Blocks) → i < length bs → set bs i b ≡ written i b bs
set_written i b [] lt = absurd (omega arith)
set_written zero b (x ∷ bs) lt = refl
set_written (suc i) b (x ∷ bs) lt = ap (λ (l : Blocks). x ∷ l) (set_written i b bs (omega arith))

-- one after the last
pub push_written : (i : ℕ) (b : List ℕ) (bs : Blocks) → length bs ≤ i → bs ++ b ∷ [] ≡ written i b bs
push_written i b [] le = refl
push_written zero b (x ∷ bs) le = absurd (omega arith)
push_written (suc i) b (x ∷ bs) le = ap (λ (l : Blocks). x ∷ l) (push_written i b bs (omega arith))

pub length-written_within : (i : ℕ) (b : List ℕ) (bs : Blocks) → i < length bs
    → length (written i b bs) ≡ length bs
length-written_within i b [] lt = absurd (omega arith)
length-written_within zero b (x ∷ bs) lt = refl
length-written_within (suc i) b (x ∷ bs) lt = ap suc (length-written_within i b bs (omega arith))

pub length-written_behind : (i : ℕ) (b : List ℕ) (bs : Blocks) → length bs ≤ i
    → length (written i b bs) ≡ suc (length bs)
length-written_behind i b [] le = refl
length-written_behind zero b (x ∷ bs) le = absurd (omega arith)
length-written_behind (suc i) b (x ∷ bs) le = ap suc (length-written_behind i b bs (omega arith))

-- what was written is read
pub block_at-written : (i : ℕ) (b : List ℕ) (bs : Blocks) → i ≤ length bs → block_at i (written i b bs) ≡ b
block_at-written zero b [] le = refl
block_at-written (suc i) b [] le = absurd (omega arith)
block_at-written zero b (x ∷ bs) le = refl
block_at-written (suc i) b (x ∷ bs) le = block_at-written i b bs (omega arith)

-- each other block stays
pub block_at-written_other : (i k : ℕ) (b : List ℕ) (bs : Blocks) → i ≤ length bs → ¬ (k ≡ i)
    → block_at k (written i b bs) ≡ block_at k bs
block_at-written_other zero zero b [] le apart = absurd (apart refl)
block_at-written_other zero (suc k) b [] le apart = refl
block_at-written_other (suc i) k b [] le apart = absurd (omega arith)
block_at-written_other zero zero b (x ∷ bs) le apart = absurd (apart refl)
block_at-written_other zero (suc k) b (x ∷ bs) le apart = refl
block_at-written_other (suc i) zero b (x ∷ bs) le apart = refl
block_at-written_other (suc i) (suc k) b (x ∷ bs) le apart =
    block_at-written_other i k b bs (omega arith) (λ e. apart (ap suc e))

pub torn_other : (i k : ℕ) (old new : Blocks) → Torn i old new → i ≤ length old → ¬ (k ≡ i)
    → block_at k new ≡ block_at k old
torn_other i k old new torn le apart = ⊎_elim
    (λ (e : new ≡ old). ap (block_at k) e)
    (λ (w : (b : List ℕ) × IsBlock b × (new ≡ written i b old)). ap (block_at k) w.2
    ∙ block_at-written_other i k w.0 old le apart)
    torn

pub torn_length : (i : ℕ) (old new : Blocks) → Torn i old new
    → (length old ≤ length new) × (length new ≤ length old + 1)
torn_length i old new torn = ⊎_elim
    (λ (e : new ≡ old). (omega (arith, ap length e), omega (arith, ap length e)))
    (λ (w : (b : List ℕ) × IsBlock b × (new ≡ written i b old)). ⊎_elim
    (λ (within : i < length old). (
      omega (arith, ap length w.2, length-written_within i w.0 old within),
      omega (arith, ap length w.2, length-written_within i w.0 old within),
    ))
    (λ (behind : length old ≤ i). (
      omega (arith, ap length w.2, length-written_behind i w.0 old behind),
      omega (arith, ap length w.2, length-written_behind i w.0 old behind),
    ))
    (cases_lt i (length old)))
    torn

-- any blocks are those with other bytes in block i, torn there
pub torn_within : (i : ℕ) (b : List ℕ) (c : Blocks) → i < length c → IsBlock (block_at i c)
    → Torn i (set c i b) c
torn_within i b c lt sized = inr (
  block_at i c,
  sized,
  sym (sym (set_written i (block_at i c) (set c i b) (omega (arith, length-set c i b)))
      ∙ set-set c i b (block_at i c) ∙ set-get_or c i []),
)

-- any blocks are those but the last, torn after them
pub torn_behind : (i : ℕ) (c : Blocks) → length c ≡ i + 1 → IsBlock (block_at i c) → Torn i (take i c) c
torn_behind i c size sized =
    let last : written i (block_at i c) (take i c) ≡ c =
    sym (push_written i (block_at i c) (take i c) (omega (arith, length-take-le i c (omega (arith, size)))))
    ∙ sym (take_more c i [] (omega (arith, size)))
    ∙ take_all (i + 1) c (omega (arith, size)) in
    inr (block_at i c, sized, sym last)
