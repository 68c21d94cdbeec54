-- A gate's block is a block of bytes.
use Rattle.std.proofs.Common.{◌≡◌, ◌∙◌, ℕ, zero, suc, ◌<◌, ◌≤◌, ◌+◌, ◌^◌, List, [], ◌∷◌, ◌++◌, length, take}
use Rattle.std.proofs.Common.{drop, get_or, refl, sym, ap, subst, arith, lit<}
use Rattle.std.specs.Int.{byte_at, bytes_high_first}
use Rattle.std.specs.Prelude.{◌/◌}
use Rattle.std.proofs.lemmas.Nat.{mod_below}
use Rattle.std.proofs.lemmas.List.{get_or-drop}
use Rattle.block_bytes.specs.Numbers.{zeros, number_at, put_number, AreBytes}
use Rattle.block_bytes.specs.Laws.{byte_at as place_at, length-put, length-zeros, number_at-zeros}
use Rattle.block_device.specs.Device.{IsBlock}
use Rattle.page_file.specs.Layout.{gate_block, gate_text}

bytes_append : (xs ys : List ℕ) → AreBytes xs → AreBytes ys → AreBytes (xs ++ ys)
bytes_append [] ys bx by k = by k
bytes_append (x ∷ xs) ys bx by zero = bx 0
bytes_append (x ∷ xs) ys bx by (suc k) = bytes_append xs ys (λ j. bx (suc j)) by k

bytes_take : (n : ℕ) (xs : List ℕ) → AreBytes xs → AreBytes (take n xs)
bytes_take zero xs bx k = lit< tt
bytes_take (suc n) [] bx k = lit< tt
bytes_take (suc n) (x ∷ xs) bx zero = bx 0
bytes_take (suc n) (x ∷ xs) bx (suc k) = bytes_take n xs (λ j. bx (suc j)) k

bytes_drop : (n : ℕ) (xs : List ℕ) → AreBytes xs → AreBytes (drop n xs)
bytes_drop n xs bx k = subst (λ (b : ℕ). b < 256) (sym (get_or-drop n xs k 0)) (bx (n + k))

byte_fits : (n x : ℕ) → byte_at n x < 256
byte_fits zero x = mod_below x 256 (lit< tt)
byte_fits (suc n) x = mod_below (x / 256 ^ suc n) 256 (lit< tt)

bytes_high : (n x : ℕ) → AreBytes (bytes_high_first n x)
bytes_high zero x k = lit< tt
bytes_high (suc n) x zero = byte_fits n x
bytes_high (suc n) x (suc k) = bytes_high n x k

pub bytes_put : (n at x : ℕ) (block : List ℕ) → AreBytes block → AreBytes (put_number n at x block)
unfolding put_number
bytes_put n at x block bytes =
    bytes_append (take at block) (bytes_high_first n x ++ drop (at + n) block) (bytes_take at block bytes)
    (bytes_append (bytes_high_first n x) (drop (at + n) block) (bytes_high n x)
    (bytes_drop (at + n) block bytes))

bytes_zeros : AreBytes zeros
bytes_zeros k = subst (λ (b : ℕ). b < 256) (sym (place_at k zeros ∙ number_at-zeros 1 k)) (lit< tt)

pub gate_is_block : (n : ℕ) → IsBlock (gate_block n)
unfolding gate_block
gate_is_block n =
    let t = put_number 8 0 gate_text zeros in
    let size : length t ≡ 4096 = length-put 8 0 gate_text zeros (omega (arith, length-zeros))
    ∙ length-zeros in
    record {
      size = length-put 1 8 n t (omega (arith, size)) ∙ size;
      bytes_fit = bytes_put 1 8 n t (bytes_put 8 0 gate_text zeros bytes_zeros);
    }
