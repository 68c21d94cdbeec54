-- Blocks of zeros behind others, and bytes that are all zeros.
use Rattle.std.proofs.Common.{◌≡◌, ◌∙◌, ℕ, suc, ◌+◌, ◌<◌, ◌≤◌, List, [], ◌∷◌, ◌++◌, length, get_or, replicate}
use Rattle.std.proofs.Common.{sym, ap, arith}
use Rattle.std.proofs.lemmas.List.{append_assoc, get_or-replicate, length-append, length-replicate}
use Rattle.std.proofs.lemmas.List.{replicate_more}
use Rattle.std.proofs.lemmas.Grind.{same_number_lists}
use Rattle.block_device.specs.Blank.{blank, with_blanks}
use Rattle.block_device.specs.Device.{Blocks}

-- one of them is written
pub one_written : (written : Blocks) (before count : ℕ) → before ≡ suc count
    → with_blanks (written ++ blank ∷ []) count ≡ with_blanks written before
one_written written before count one = append_assoc written (blank ∷ []) (replicate count blank)
    ∙ ap (with_blanks written) (sym one)

-- one more stands behind them
pub one_more_blank : (written : Blocks) (count : ℕ)
    → with_blanks written (count + 1) ≡ with_blanks written count ++ blank ∷ []
one_more_blank written count =
    ap (λ (bs : Blocks). written ++ bs) (sym (replicate_more count blank))
    ∙ sym (append_assoc written (replicate count blank) (blank ∷ []))

pub as_many_with : (written : Blocks) (count : ℕ)
    → length (with_blanks written count) ≡ length written + count
as_many_with written count = length-append written (replicate count blank)
    ∙ ap (λ (n : ℕ). length written + n) (length-replicate count blank)

size_of_blank : length blank ≡ 4096
size_of_blank = length-replicate {A = ℕ} 4096 0

pub all_zeros : (bytes : List ℕ) → length bytes ≡ 4096
    → ((k : ℕ) → k < 4096 → get_or bytes k 0 ≤ 0) → bytes ≡ blank
all_zeros bytes size none = same_number_lists bytes blank (size ∙ sym size_of_blank)
    (λ k within.
    let below : k < 4096 = omega (arith, within, size) in
    let one : get_or bytes k 0 ≡ 0 = omega (arith, none k below) in
    one ∙ sym (get_or-replicate 4096 k 0 0 below))

pub a_zero : (bytes : List ℕ) → bytes ≡ blank → (k : ℕ) → k < 4096 → get_or bytes k 0 ≡ 0
a_zero bytes is k below = ap (λ (bs : List ℕ). get_or bs k 0) is ∙ get_or-replicate 4096 k 0 0 below
