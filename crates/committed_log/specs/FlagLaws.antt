-- What is read from a flag as it is written.
use Rattle.std.proofs.Common.{◌≡◌, ◌∙◌, ℕ, ◌+◌, ◌^◌, ◌<◌, ◌≤◌, true, false, ◌&&◌, ◌==◌, List, [], length, ap}
use Rattle.std.proofs.Common.{arith, inl, lit<, refl}
use Rattle.block_bytes.specs.Numbers.{zeros, number_at, put_number, IsApart}
use Rattle.block_bytes.specs.Laws.{length-zeros, length-put, number_at-put, number_at-put_other}
use Rattle.committed_log.specs.Log.{log_text, flag_block, says, count_block}

size : (n at x : ℕ) (block : List ℕ) → at + n ≤ 4096 → length block ≡ 4096
    → length (put_number n at x block) ≡ 4096
size n at x block fits is = length-put n at x block (omega (arith, fits, is)) ∙ is

there : (n at x : ℕ) (block : List ℕ) → at + n ≤ 4096 → length block ≡ 4096 → x < 256 ^ n
    → number_at n at (put_number n at x block) ≡ x
there n at x block fits is small = number_at-put n at x block (omega (arith, fits, is)) small

past : (n at m to x v : ℕ) (block : List ℕ) → to + m ≤ 4096 → length block ≡ 4096 → IsApart n at m to
    → number_at n at block ≡ v → number_at n at (put_number m to x block) ≡ v
past n at m to x v block fits is apart was =
    number_at-put_other n at m to x block (omega (arith, fits, is)) apart ∙ was

text_size : (text : ℕ) → length (put_number 8 0 text zeros) ≡ 4096
text_size text = size 8 0 text zeros (omega arith) length-zeros

text-flag : (x : ℕ) → number_at 8 0 (flag_block x) ≡ log_text
unfolding flag_block
text-flag x =
    past 8 0 1 8 x log_text _ (omega arith) (text_size log_text) (inl (omega arith))
    (there 8 0 log_text zeros (omega arith) length-zeros (lit< tt))

byte-flag : (x : ℕ) → x < 256 → number_at 1 8 (flag_block x) ≡ x
unfolding flag_block
byte-flag x small = there 1 8 x _ (omega arith) (text_size log_text) small

pub says-one : says (flag_block 1) ≡ true
unfolding says
says-one = ap (λ (t : ℕ). (t == log_text) && (number_at 1 8 (flag_block 1) == 1)) (text-flag 1)
    ∙ ap (λ (b : ℕ). b == 1) (byte-flag 1 (lit< tt))

pub says-none : says (flag_block 0) ≡ false
unfolding says
says-none = ap (λ (t : ℕ). (t == log_text) && (number_at 1 8 (flag_block 0) == 1)) (text-flag 0)
    ∙ ap (λ (b : ℕ). b == 1) (byte-flag 0 (lit< tt))

-- nothing is read from a block that is not there
pub says-nothing : says [] ≡ false
unfolding says number_at
says-nothing = refl

pub count-read : (n : ℕ) → n < 2 ^ 32 → number_at 4 8 (count_block n) ≡ n
unfolding count_block
count-read n small = there 4 8 n _ (omega arith) (text_size log_text) small
