-- How many blocks there are and what the first one is, where a block was written or torn.
use Rattle.std.proofs.Common.{◌≡◌, ◌∙◌, ℕ, zero, suc, ◌<◌, ◌≤◌, List, [], ◌∷◌, length, drop, refl, ap, arith}
use Rattle.std.proofs.Common.{⊎_elim}
use Rattle.block_device.specs.Device.{Blocks, IsBlock, Torn, block_at, written}
use Rattle.block_device.specs.Written.{length-written_within}
use Rattle.page_file.specs.Stops.{SameButGate}

pub torn_size : (i : ℕ) (old new : Blocks) → Torn i old new → i < length old → length new ≡ length old
torn_size i old new torn lt =
    ⊎_elim (λ e. ap length e) (λ w. ap length w.2 ∙ length-written_within i w.0 old lt) torn

written_longer : (i : ℕ) (b : List ℕ) (bs : Blocks) → length bs ≤ length (written i b bs)
written_longer i b [] = omega arith
written_longer zero b (x ∷ bs) = omega arith
written_longer (suc i) b (x ∷ bs) = omega (arith, written_longer i b bs)

pub torn_longer : (i : ℕ) (old new : Blocks) → Torn i old new → length old ≤ length new
torn_longer i old new torn = ⊎_elim
    (λ (e : new ≡ old). omega (arith, ap length e))
    (λ (w : (b : List ℕ) × IsBlock b × (new ≡ written i b old)). omega
    (arith, ap length w.2, written_longer i w.0 old))
    torn

pub within_written : (i : ℕ) (b : List ℕ) (bs : Blocks) → i ≤ length bs → i < length (written i b bs)
within_written zero b [] le = omega arith
within_written (suc i) b [] le = absurd (omega arith)
within_written zero b (x ∷ bs) le = omega arith
within_written (suc i) b (x ∷ bs) le = omega (arith, within_written i b bs (omega arith))

-- a write after the first block leaves it, where there is one
first_written : (i : ℕ) (b : List ℕ) (bs : Blocks) → 0 < i → 0 < length bs
    → block_at 0 (written i b bs) ≡ block_at 0 bs
first_written i b [] gt some = absurd (omega arith)
first_written zero b (x ∷ bs) gt some = absurd (omega arith)
first_written (suc i) b (x ∷ bs) gt some = refl

pub first_torn : (i : ℕ) (old new : Blocks) → Torn i old new → 0 < i → 0 < length old
    → block_at 0 new ≡ block_at 0 old
first_torn i old new torn gt some =
    ⊎_elim (λ e. ap (block_at 0) e) (λ w. ap (block_at 0) w.2 ∙ first_written i w.0 old gt some) torn

aside_written : (b : List ℕ) (bs : Blocks) → SameButGate (written 0 b bs) bs
aside_written b [] = refl
aside_written b (x ∷ bs) = refl

pub aside_torn : (old new : Blocks) → Torn 0 old new → SameButGate new old
aside_torn old new torn =
    ⊎_elim (λ (e : new ≡ old). ap (drop 1) e)
    (λ (w : (b : List ℕ) × IsBlock b × (new ≡ written 0 b old)). ap (drop 1) w.2 ∙ aside_written w.0 old) torn
