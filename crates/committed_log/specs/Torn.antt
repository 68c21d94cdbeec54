-- What a write of a block, cut short or not, leaves of the blocks before it and of all others.
use Rattle.std.proofs.Common.{◌≡◌, ◌∙◌, ℕ, zero, suc, ◌+◌, ◌<◌, ◌≤◌, List, [], ◌∷◌, length, take, drop, set}
use Rattle.std.proofs.Common.{refl, sym, ap, subst, arith, inl, inr, ⊎_elim}
use Rattle.std.proofs.lemmas.List.{get_or-take, length-take-le}
use Rattle.block_device.specs.Device.{Blocks, IsBlock, Torn, block_at, written}
use Rattle.block_device.specs.Written.{length-written_within}
use Rattle.committed_log.specs.Replay.{same_blocks}

pub written_longer : (i : ℕ) (b : List ℕ) (bs : Blocks) → length bs ≤ length (written i b bs)
written_longer i b [] = omega arith
written_longer zero b (x ∷ bs) = omega arith
written_longer (suc i) b (x ∷ bs) = omega (arith, written_longer i b bs)

pub written_shorter : (i : ℕ) (b : List ℕ) (bs : Blocks) → length (written i b bs) ≤ length bs + 1
written_shorter i b [] = omega arith
written_shorter zero b (x ∷ bs) = omega arith
written_shorter (suc i) b (x ∷ bs) = omega (arith, written_shorter i b bs)

-- a block before it, wherever the blocks end
pub written_before : (k i : ℕ) (b : List ℕ) (bs : Blocks) → k < i → k < length bs
    → block_at k (written i b bs) ≡ block_at k bs
written_before k i b [] lt there = absurd (omega arith)
written_before k zero b (x ∷ bs) lt there = absurd (omega arith)
written_before zero (suc i) b (x ∷ bs) lt there = refl
written_before (suc k) (suc i) b (x ∷ bs) lt there = written_before k i b bs (omega arith) (omega arith)

-- what holds of the old blocks and of those with any bytes written, holds of those torn
pub torn_cases : (i : ℕ) (old new : Blocks) (P : Blocks → Type 0) → P old
    → ((b : List ℕ) → IsBlock b → P (written i b old)) → Torn i old new → P new
torn_cases i old new P same other torn = ⊎_elim
    (λ (e : new ≡ old). subst P (sym e) same)
    (λ (w : (b : List ℕ) × IsBlock b × (new ≡ written i b old)). subst P (sym w.2) (other w.0 w.1))
    torn

pub torn_longer : (i : ℕ) (old new : Blocks) → Torn i old new → length old ≤ length new
torn_longer i old new torn =
    torn_cases i old new (λ c. length old ≤ length c) (omega arith) (λ b is. written_longer i b old) torn

pub torn_before : (k i : ℕ) (old new : Blocks) → k < i → k < length old → Torn i old new
    → block_at k new ≡ block_at k old
torn_before k i old new lt there torn =
    torn_cases i old new (λ c. block_at k c ≡ block_at k old) refl
    (λ b is. written_before k i b old lt there) torn

pub torn_size : (i : ℕ) (old new : Blocks) → i < length old → Torn i old new → length new ≡ length old
torn_size i old new lt torn =
    torn_cases i old new (λ c. length c ≡ length old) refl (λ b is. length-written_within i b old lt) torn

-- the first blocks stay, where the write is behind them
pub take_torn : (n i : ℕ) (old new : Blocks) → n ≤ i → n ≤ length old → Torn i old new
    → take n new ≡ take n old
take_torn n i old new le there torn =
    let size : length (take n old) ≡ n = length-take-le n old there in
    let longer = torn_longer i old new torn in
    let size' : length (take n new) ≡ n = length-take-le n new (omega (arith, there, longer)) in
    same_blocks (take n new) (take n old) (size' ∙ sym size) (λ k lt.
    get_or-take n new k [] (omega (arith, lt, size'))
    ∙ torn_before k i old new (omega (arith, lt, size', le)) (omega (arith, lt, size', there)) torn
    ∙ sym (get_or-take n old k [] (omega (arith, lt, size'))))

-- a block set beside one that is written
pub set_written : (i h : ℕ) (b y : List ℕ) (bs : Blocks) → ¬ (h ≡ i) → h < length bs
    → set (written i b bs) h y ≡ written i b (set bs h y)
set_written i h b y [] apart there = absurd (omega arith)
set_written zero zero b y (x ∷ bs) apart there = absurd (apart refl)
set_written zero (suc h) b y (x ∷ bs) apart there = refl
set_written (suc i) zero b y (x ∷ bs) apart there = refl
set_written (suc i) (suc h) b y (x ∷ bs) apart there =
    ap (λ (l : Blocks). x ∷ l) (set_written i h b y bs (λ e. apart (ap suc e)) (omega arith))

-- a block written behind the first s, as those behind them see it
pub drop_written : (s i at : ℕ) (b : List ℕ) (bs : Blocks) → at ≡ s + i → s ≤ length bs
    → drop s (written at b bs) ≡ written i b (drop s bs)
drop_written zero i at b bs is le = ap (λ (n : ℕ). written n b bs) (omega (arith, is))
drop_written (suc s) i at b [] is le = absurd (omega arith)
drop_written (suc s) i zero b (x ∷ bs) is le = absurd (omega (arith, is))
drop_written (suc s) i (suc at) b (x ∷ bs) is le =
    drop_written s i at b bs (omega (arith, is)) (omega (arith, le))

pub drop_torn : (s i at : ℕ) (old new : Blocks) → at ≡ s + i → s ≤ length old → Torn at old new
    → Torn i (drop s old) (drop s new)
drop_torn s i at old new is le torn =
    torn_cases at old new (λ c. Torn i (drop s old) (drop s c)) (inl refl)
    (λ b block. inr (b, block, drop_written s i at b old is le)) torn
