-- Worked examples of numbers at places of a block: the order of bytes, the signs, and which places share a
-- byte. No other proof rests on them.
use Rattle.std.proofs.Common.{◌≡◌, ℕ, ◌<◌, List, [], ◌∷◌, length, refl, pos, negsuc, map, arith, inl, inr}
use Rattle.block_bytes.specs.Numbers.{zeros, number_at, put_number, signed_at, put_signed, IsApart, AreBytes}

-- eight bytes, each another
abbrev bytes : List ℕ
bytes = 1 ∷ 2 ∷ 3 ∷ 4 ∷ 5 ∷ 6 ∷ 7 ∷ 8 ∷ []

the_highest_byte_is_first : number_at 1 0 bytes ∷ number_at 2 0 bytes ∷ number_at 4 2 bytes ∷ number_at 8 0
    bytes ∷ [] ≡ 1 ∷ 258 ∷ 50595078 ∷ 72623859790382856 ∷ []
unfolding number_at
the_highest_byte_is_first = refl

numbers_are_put_in_their_places : put_number 1 0 9 bytes ∷ put_number 2 3 258 bytes ∷ put_number 4 4
    4294967294 bytes ∷ [] ≡
    (9 ∷ 2 ∷ 3 ∷ 4 ∷ 5 ∷ 6 ∷ 7 ∷ 8 ∷ []) ∷ (1 ∷ 2 ∷ 3 ∷ 1 ∷ 2 ∷ 6 ∷ 7 ∷ 8 ∷ [])
    ∷ (1 ∷ 2 ∷ 3 ∷ 4 ∷ 255 ∷ 255 ∷ 255 ∷ 254 ∷ []) ∷ []
unfolding put_number
numbers_are_put_in_their_places = refl

-- the ends of the range, and what lies on both sides of zero
signed_numbers_are_in_twos_complement : map (signed_at 0)
    ((127 ∷ 255 ∷ 255 ∷ 255 ∷ []) ∷ (128 ∷ 0 ∷ 0 ∷ 0 ∷ []) ∷ (255 ∷ 255 ∷ 255 ∷ 255 ∷ [])
    ∷ (0 ∷ 0 ∷ 1 ∷ 2 ∷ []) ∷ []) ≡
    pos 2147483647 ∷ negsuc 2147483647 ∷ negsuc 0 ∷ pos 258 ∷ []
unfolding signed_at number_at
signed_numbers_are_in_twos_complement = refl

signed_numbers_are_put_so : map (λ z. put_signed 1 z bytes) (negsuc 1 ∷ negsuc 2147483647 ∷ pos 258 ∷ []) ≡
    (1 ∷ 255 ∷ 255 ∷ 255 ∷ 254 ∷ 6 ∷ 7 ∷ 8 ∷ []) ∷ (1 ∷ 128 ∷ 0 ∷ 0 ∷ 0 ∷ 6 ∷ 7 ∷ 8 ∷ [])
    ∷ (1 ∷ 0 ∷ 0 ∷ 1 ∷ 2 ∷ 6 ∷ 7 ∷ 8 ∷ []) ∷ []
unfolding put_signed put_number
signed_numbers_are_put_so = refl

a_block_has_4096_bytes : length zeros ≡ 4096
unfolding zeros
a_block_has_4096_bytes = refl

-- ---- which places share a byte

neighbours_are_apart : IsApart 4 0 2 4 × IsApart 2 4 4 0
neighbours_are_apart = (inl (omega arith), inr (omega arith))

the_last_byte_is_shared : IsApart 4 0 2 3 → ⊥
the_last_byte_is_shared (inl h) = absurd (omega arith)
the_last_byte_is_shared (inr h) = absurd (omega arith)

the_first_byte_is_shared : IsApart 4 3 4 0 → ⊥
the_first_byte_is_shared (inl h) = absurd (omega arith)
the_first_byte_is_shared (inr h) = absurd (omega arith)

a_byte_is_below_256 : AreBytes (255 ∷ 256 ∷ []) → ⊥
a_byte_is_below_256 h = let lt : 256 < 256 = h 1 in absurd (omega arith)
