-- Worked examples of corners and boxes at places of a block: with the coordinates together and in columns,
-- and which bytes are a corner's. No other proof rests on them.
use Rattle.std.proofs.Common.{◌≡◌, ℕ, zero, suc, ◌+◌, ◌*◌, ◌≤◌, ◌⊎◌, List, [], ◌∷◌, ◌++◌, refl, pos, negsuc}
use Rattle.std.proofs.Common.{arith, inl, inr}
use Rattle.block_bytes.specs.Numbers.{number_at, signed_at}
use Rattle.box_bytes.specs.Corners.{corner_at, box_at, IsClearOfCorner, IsClearOfBox, AreApart, IsOfCorner}

-- six coordinates after two bytes
abbrev block : List ℕ
block = 7 ∷ 7 ∷ (255 ∷ 255 ∷ 255 ∷ 255 ∷ []) ++ (0 ∷ 0 ∷ 0 ∷ 2 ∷ []) ++ (128 ∷ 0 ∷ 0 ∷ 0 ∷ [])
    ++ (0 ∷ 0 ∷ 0 ∷ 3 ∷ []) ++ (0 ∷ 0 ∷ 0 ∷ 4 ∷ []) ++ (127 ∷ 255 ∷ 255 ∷ 255 ∷ []) ++ []

coordinates_stand_together : corner_at 2 block 2 4 ∷ corner_at 3 block 2
    4 ∷ [] ≡ (negsuc 0 ∷ pos 2 ∷ []) ∷ (negsuc 0 ∷ pos 2 ∷ negsuc 2147483647 ∷ []) ∷ []
unfolding corner_at signed_at number_at
coordinates_stand_together = refl

coordinates_stand_in_columns : corner_at 2 block 2 8 ∷ corner_at 3 block 6
    8 ∷ [] ≡ (negsuc 0 ∷ negsuc 2147483647 ∷ []) ∷ (pos 2 ∷ pos 3 ∷ pos 2147483647 ∷ []) ∷ []
unfolding corner_at signed_at number_at
coordinates_stand_in_columns = refl

boxes_have_their_lows_first : box_at 2 block 2 10 4 ∷ box_at 3 block 2 14 4 ∷ [] ≡
    record { low = negsuc 0 ∷ pos 2 ∷ []; high = negsuc 2147483647 ∷ pos 3 ∷ [] } ∷
    record { low = negsuc 0 ∷ pos 2 ∷ negsuc 2147483647 ∷ []; high = pos 3 ∷ pos 4 ∷ pos 2147483647 ∷ [] }
    ∷ []
unfolding corner_at signed_at number_at
boxes_have_their_lows_first = refl

-- ---- which bytes are a corner's

-- the second coordinate begins a stride on
first_and_last_byte_are_the_corners : IsOfCorner 2 16 8 16 × IsOfCorner 2 16 8 19 × IsOfCorner 2 16 8 24
    × IsOfCorner 2 16 8 27
first_and_last_byte_are_the_corners = (
  (0, omega arith, omega arith, omega arith),
  (0, omega arith, omega arith, omega arith),
  (1, omega arith, omega arith, omega arith),
  (1, omega arith, omega arith, omega arith),
)

bytes_between_the_columns_are_not : IsOfCorner 2 16 8 20 ⊎ IsOfCorner 2 16 8 23 → ⊥
bytes_between_the_columns_are_not (inl (zero, lt, from, to)) = absurd (omega arith)
bytes_between_the_columns_are_not (inr (zero, lt, from, to)) = absurd (omega arith)
bytes_between_the_columns_are_not (inl (suc axis, lt, from, to)) = absurd (omega arith)
bytes_between_the_columns_are_not (inr (suc axis, lt, from, to)) = absurd (omega arith)

bytes_of_a_third_axis_are_not : IsOfCorner 2 16 8 32 → ⊥
bytes_of_a_third_axis_are_not (axis, lt, from, to) = absurd (omega arith)

-- a number between the columns, and one that ends in the second
a_number_fits_between_the_columns : IsClearOfCorner 2 16 8 4 20
a_number_fits_between_the_columns zero lt = inr (omega arith)
a_number_fits_between_the_columns (suc axis) lt = inl (omega arith)

a_longer_number_does_not : IsClearOfCorner 2 16 8 5 20 → ⊥
a_longer_number_does_not h = at (h 1 (omega arith))
  where
    at : (20 + 5 ≤ 16 + 8 * 1) ⊎ (16 + 8 * 1 + 4 ≤ 20) → ⊥
    at (inl le) = absurd (omega arith)
    at (inr le) = absurd (omega arith)

a_number_in_the_highs_is_in_the_box : IsClearOfBox 2 16 24 4 4 28 → ⊥
a_number_in_the_highs_is_in_the_box h = at (h.highs 1 (omega arith))
  where
    at : (28 + 4 ≤ 24 + 4 * 1) ⊎ (24 + 4 * 1 + 4 ≤ 28) → ⊥
    at (inl le) = absurd (omega arith)
    at (inr le) = absurd (omega arith)

-- columns of one place by turns, and corners that share a coordinate
columns_by_turns_are_apart : AreApart 2 16 20 8
columns_by_turns_are_apart zero lt zero lt' = inl (omega arith)
columns_by_turns_are_apart zero lt (suc axis) lt' = inl (omega arith)
columns_by_turns_are_apart (suc zero) lt zero lt' = inr (omega arith)
columns_by_turns_are_apart (suc zero) lt (suc zero) lt' = inl (omega arith)
columns_by_turns_are_apart (suc zero) lt (suc (suc axis)) lt' = absurd (omega (arith, lt'))
columns_by_turns_are_apart (suc (suc axis)) lt b lt' = absurd (omega (arith, lt))

a_shared_coordinate_is_seen : AreApart 2 16 20 4 → ⊥
a_shared_coordinate_is_seen h = at (h 1 (omega arith) 0 (omega arith))
  where
    at : (16 + 4 * 1 + 4 ≤ 20 + 4 * 0) ⊎ (20 + 4 * 0 + 4 ≤ 16 + 4 * 1) → ⊥
    at (inl le) = absurd (omega arith)
    at (inr le) = absurd (omega arith)
