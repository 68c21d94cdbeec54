-- Laws of the mark: what is shown of blocks, and of blocks that are written or torn.
use Rattle.std.proofs.Common.{◌≡◌, ◌∙◌, ℕ, zero, suc, ◌<◌, ◌≤◌, Bool, true, false, ◌&&◌, ◌==◌, cond, List, []}
use Rattle.std.proofs.Common.{◌∷◌, length, refl, sym, ap, subst, arith, inl, inr, ⊎_elim, lit<}
use Rattle.std.specs.List.{All}
use Rattle.std.proofs.lemmas.Bool.{cases_eq, cases_lt}
use Rattle.std.proofs.lemmas.Bool.Decides.{nat_tests}
use Rattle.std.proofs.lemmas.List.{ext_get_or}
use Rattle.block_bytes.specs.Numbers.{zeros, number_at, put_number}
use Rattle.block_bytes.specs.Laws.{length-put, length-zeros, number_at-put, number_at-put_other}
use Rattle.block_device.specs.Device.{Blocks, IsBlock, Torn, block_at, written}
use Rattle.page_file.specs.Layout.{gate_block, gate_text}
use Rattle.marked_pair.specs.GateBlock.{gate_is_block}
use Rattle.page_file.specs.Written.{first_torn}
use Rattle.marked_pair.specs.Mark.{reads_as, unmarked, unmarked_gate, IsMarked}

both : (s t : Bool) → (s && t) ≡ true → (s ≡ true) × (t ≡ true)
both true t e = (refl, e)
both false t e = cc

-- what a gate's number says of its bytes
pub gate_bytes : (n : ℕ) (b : List ℕ) → reads_as n b ≡ true
    → (number_at 8 0 b ≡ gate_text) × (number_at 1 8 b ≡ n)
unfolding reads_as
gate_bytes n b e =
    let t = both (number_at 8 0 b == gate_text) (number_at 1 8 b == n) e in
    let t0 : (number_at 8 0 b == gate_text) ≡ true = t.0 in
    let t1 : (number_at 1 8 b == n) ≡ true = t.1 in
    (grind (arith, nat_tests), grind (arith, nat_tests))

pub reads_so : (n : ℕ) (b : List ℕ) → number_at 8 0 b ≡ gate_text → number_at 1 8 b ≡ n → reads_as n b ≡ true
unfolding reads_as
reads_so n b text byte =
    let t0 : (number_at 8 0 b == gate_text) ≡ true = grind (arith, nat_tests) in
    let t1 : (number_at 1 8 b == n) ≡ true = grind (arith, nat_tests) in
    ap (λ (s : Bool). s && (number_at 1 8 b == n)) t0 ∙ t1

-- the gate with this number reads so
pub gate_reads : (n : ℕ) → n < 256 → reads_as n (gate_block n) ≡ true
unfolding gate_block
gate_reads n small =
    let t = put_number 8 0 gate_text zeros in
    let size : length t ≡ 4096 = length-put 8 0 gate_text zeros (omega (arith, length-zeros))
    ∙ length-zeros in
    reads_so n (put_number 1 8 n t)
    (number_at-put_other 8 0 1 8 n t (omega (arith, size)) (inl (omega arith))
    ∙ number_at-put 8 0 gate_text zeros (omega (arith, length-zeros)) (lit< tt))
    (number_at-put 1 8 n t (omega (arith, size)) small)

-- one with the mark is shown as a shut gate
pub unmarked_marked : (b : List ℕ) → reads_as 2 b ≡ true → unmarked_gate b ≡ gate_block 1
unfolding unmarked_gate
unmarked_marked b m = ap (λ (t : Bool). cond t (gate_block 1) b) m

-- a block without the mark is shown as it is
pub unmarked_plain : (b : List ℕ) → ¬ (reads_as 2 b ≡ true) → unmarked_gate b ≡ b
unfolding unmarked_gate
unmarked_plain b none = case (reads_as 2 b) none
  where
    case : (t : Bool) → ¬ (t ≡ true) → cond t (gate_block 1) b ≡ b
    case true none = absurd (none refl)
    case false none = refl

pub unmarked_block : (b : List ℕ) → IsBlock b → IsBlock (unmarked_gate b)
unfolding unmarked_gate
unmarked_block b is = case (reads_as 2 b)
  where
    case : (t : Bool) → IsBlock (cond t (gate_block 1) b)
    case true = gate_is_block 1
    case false = is

-- so of blocks
pub length-unmarked : (c : Blocks) → length (unmarked c) ≡ length c
length-unmarked [] = refl
length-unmarked (b ∷ bs) = refl

pub unmarked_whole : (c : Blocks) → All IsBlock c → All IsBlock (unmarked c)
unmarked_whole [] all k d lt = absurd (omega arith)
unmarked_whole (b ∷ bs) all zero d lt = unmarked_block b (all 0 d (omega arith))
unmarked_whole (b ∷ bs) all (suc k) d lt = all (suc k) d lt

-- blocks without the mark are shown as they are
pub unmarked_same : (c : Blocks) → ¬ IsMarked c → unmarked c ≡ c
unmarked_same [] none = refl
unmarked_same (b ∷ bs) none =
    ap (λ (x : List ℕ). x ∷ bs) (unmarked_plain b (λ e. none (record { there = omega arith; mark = e })))

-- of a block that is written
pub unmarked_put : (b : List ℕ) (c : Blocks)
    → unmarked (written 0 b c) ≡ written 0 (unmarked_gate b) (unmarked c)
unmarked_put b [] = refl
unmarked_put b (x ∷ bs) = refl

-- and torn
torn_by : (i : ℕ) (b : List ℕ) (c : Blocks) → IsBlock b → Torn i (unmarked c) (unmarked (written i b c))
torn_by i b [] is = inr (unmarked_gate b, unmarked_block b is, refl)
torn_by zero b (x ∷ bs) is = inr (unmarked_gate b, unmarked_block b is, refl)
torn_by (suc i) b (x ∷ bs) is = inr (b, is, refl)

pub unmarked_torn : (i : ℕ) (old new : Blocks) → Torn i old new → Torn i (unmarked old) (unmarked new)
unmarked_torn i old new torn = ⊎_elim
    (λ (e : new ≡ old). inl (ap unmarked e))
    (λ (w : (b : List ℕ) × IsBlock b × (new ≡ written i b old)). subst
    (λ (c : Blocks). Torn i (unmarked old) (unmarked c)) (sym w.2) (torn_by i w.0 old w.1))
    torn

-- the mark stays where another block is torn, and is there where a gate with it was written
length_written : (i : ℕ) (b : List ℕ) (c : Blocks) → 0 < length c → 0 < length (written i b c)
length_written i b [] some = absurd (omega arith)
length_written zero b (x ∷ bs) some = omega arith
length_written (suc i) b (x ∷ bs) some = omega arith

torn_le : (i : ℕ) (old new : Blocks) → Torn i old new → 0 < length old → 0 < length new
torn_le i old new torn some = ⊎_elim
    (λ (e : new ≡ old). omega (arith, ap length e))
    (λ (w : (b : List ℕ) × IsBlock b × (new ≡ written i b old)). omega
    (arith, ap length w.2, length_written i w.0 old some))
    torn

pub marked_torn : (i : ℕ) (old new : Blocks) → 0 < i → Torn i old new → IsMarked old → IsMarked new
marked_torn i old new some torn m = record {
  there = torn_le i old new torn m.there;
  mark = ap (reads_as 2) (first_torn i old new torn some m.there) ∙ m.mark;
}

other_first : (i : ℕ) (b : List ℕ) (c : Blocks) → 0 < i → 0 < length c
    → block_at 0 (written i b c) ≡ block_at 0 c
other_first i b [] some there = absurd (omega arith)
other_first zero b (x ∷ bs) some there = absurd (omega arith)
other_first (suc i) b (x ∷ bs) some there = refl

pub marked_stays : (i : ℕ) (b : List ℕ) (c : Blocks) → 0 < i → IsMarked c → IsMarked (written i b c)
marked_stays i b c some m =
    record {
      there = length_written i b c m.there;
      mark = ap (reads_as 2) (other_first i b c some m.there) ∙ m.mark;
    }

-- blocks with the mark, as they are shown, and as it is written
pub shown_marked : (c : Blocks) → IsMarked c → unmarked c ≡ written 0 (gate_block 1) (unmarked c)
shown_marked [] m = absurd (omega (arith, m.there))
shown_marked (b ∷ bs) m = ap (λ (x : List ℕ). x ∷ bs) (unmarked_marked b m.mark)

pub marked_written : (c : Blocks) → IsMarked (written 0 (gate_block 2) c)
marked_written [] = record { there = omega arith; mark = gate_reads 2 (lit< tt) }
marked_written (b ∷ bs) = record { there = omega arith; mark = gate_reads 2 (lit< tt) }
