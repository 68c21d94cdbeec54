-- Worked examples of what the tests do not reach: the tests of points and boxes on their edges, joins, and
-- distances. No other proof rests on them.
use Rattle.std.proofs.Common.{◌≡◌, ℕ, List, [], ◌∷◌, true, false, refl, ℤ, pos, negsuc, map}
use Rattle.box_math.specs.Bounds.{Bounds, ordered_test, holds_test, meets_test, within_test, join_of, meet_of}
use Rattle.box_math.specs.Bounds.{widened_of}
use Rattle.box_math.specs.Measures.{volume_of, margin_of, overlap_of, dist2, point_dist2_of, centre2_of}
use Rattle.box_math.specs.Measures.{centre_dist2_of, box_dist2_of, near_test}

abbrev at : ℕ → ℕ → List ℤ
at x y = pos x ∷ pos y ∷ []

abbrev in_space : ℕ → ℕ → ℕ → List ℤ
in_space x y z = pos x ∷ pos y ∷ pos z ∷ []

abbrev bounds : List ℤ → List ℤ → Bounds
bounds low high = record { low = low; high = high }

-- a rectangle of 2 by 3, one that has its corner in common with it, and one apart on the last axis alone
abbrev rectangle : Bounds
rectangle = bounds (at 1 2) (at 3 5)

abbrev corner : Bounds
corner = bounds (at 3 5) (at 9 9)

abbrev above : Bounds
above = bounds (at 0 6) (at 9 9)

-- the first and the last coordinate that there is
abbrev lowest : ℤ
lowest = negsuc 2147483647

abbrev highest : ℤ
highest = pos 2147483647

low_above_high_on_one_axis_is_out_of_order : map (λ high. ordered_test 3 (in_space 1 1 1) high)
    (in_space 1 1 1 ∷ in_space 0 1 1 ∷ in_space 1 0 1 ∷ in_space 1 1 0 ∷ []) ≡ true ∷ false ∷ false ∷ false
    ∷ []
unfolding ordered_test
low_above_high_on_one_axis_is_out_of_order = refl

a_box_holds_its_edges : map (holds_test 2 rectangle)
    (at 1 2 ∷ at 3 5 ∷ at 1 5 ∷ at 2 4 ∷ []) ≡ true ∷ true ∷ true ∷ true ∷ []
unfolding holds_test
a_box_holds_its_edges = refl

a_box_holds_nothing_beside_it : map (holds_test 2 rectangle)
    (at 0 2 ∷ at 4 5 ∷ at 1 1 ∷ at 3 6 ∷ []) ≡ false ∷ false ∷ false ∷ false ∷ []
unfolding holds_test
a_box_holds_nothing_beside_it = refl

boxes_meet_on_each_axis : map (meets_test 2 rectangle)
    (rectangle ∷ corner ∷ above ∷ bounds (at 4 2) (at 9 5) ∷ bounds (at 2 3) (at 2 3) ∷ []) ≡ true ∷ true
    ∷ false ∷ false ∷ true ∷ []
unfolding meets_test
boxes_meet_on_each_axis = refl

the_third_axis_counts : map
    (λ z. meets_test 3 (bounds (in_space 0 0 0) (in_space 1 1 1)) (bounds (in_space 0 0 z) (in_space 1 1 9)))
    (0 ∷ 1 ∷ 2 ∷ []) ≡ true ∷ true ∷ false ∷ []
unfolding meets_test
the_third_axis_counts = refl

a_box_is_within_itself_and_larger_ones : map (within_test 2 rectangle)
    (rectangle ∷ bounds (at 0 0) (at 9 9) ∷ bounds (at 2 2) (at 3 5) ∷ bounds (at 1 2) (at 3 4) ∷ []) ≡ true
    ∷ true ∷ false ∷ false ∷ []
unfolding within_test
a_box_is_within_itself_and_larger_ones = refl

join_and_meet : map (λ make. make 2 rectangle (bounds (at 2 0) (at 9 4))) (join_of ∷ meet_of ∷ []) ≡ bounds
    (at 1 0) (at 9 5) ∷ bounds (at 2 2) (at 3 4) ∷ []
join_and_meet = refl

sides_are_highs_less_lows : map (λ measure. measure 2 rectangle) (volume_of ∷ margin_of ∷ []) ≡ 6 ∷ 5 ∷ []
sides_are_highs_less_lows = refl

all_of_space : volume_of 3
    (bounds (lowest ∷ lowest ∷ lowest ∷ []) (highest ∷ highest ∷ highest ∷ []))
    ≡ 79228162458924105385300197375
all_of_space = refl

overlap_is_the_volume_in_common : map (overlap_of 2 rectangle)
    (bounds (at 2 0) (at 9 4) ∷ rectangle ∷ corner ∷ above ∷ []) ≡ 2 ∷ 6 ∷ 0 ∷ 0 ∷ []
unfolding overlap_of meets_test
overlap_is_the_volume_in_common = refl

points_have_the_distance_of_euclid : dist2 2 (negsuc 0 ∷ pos 0 ∷ []) (at 2 4) ≡ 25
points_have_the_distance_of_euclid = refl

-- below the low on one axis or both, within, and above the high
distance_is_to_the_nearest_point : map (point_dist2_of 2 rectangle)
    (at 0 3 ∷ at 0 0 ∷ at 2 3 ∷ at 3 5 ∷ at 6 9 ∷ []) ≡ 1 ∷ 5 ∷ 0 ∷ 0 ∷ 25 ∷ []
distance_is_to_the_nearest_point = refl

from_the_first_point_to_the_last : point_dist2_of 3
    (bounds (highest ∷ highest ∷ highest ∷ []) (highest ∷ highest ∷ highest ∷ []))
    (lowest ∷ lowest ∷ lowest ∷ []) ≡ 55340232195358851075
from_the_first_point_to_the_last = refl

centres_are_doubled : centre2_of 2 rectangle ≡ at 4 7
centres_are_doubled = refl

-- from (2, 3.5) to (6, 7)
distance_of_doubled_centres : centre_dist2_of 2 rectangle corner ≡ 113
distance_of_doubled_centres = refl

-- beside, above and to the upper right of it, and one that touches it
distance_of_boxes_is_that_of_their_nearest_points : map (box_dist2_of 2 rectangle)
    (bounds (at 5 3) (at 7 9) ∷ bounds (at 2 8) (at 2 9) ∷ bounds (at 6 9) (at 6 9) ∷ bounds (at 3 5)
    (at 9 9) ∷ []) ≡ 4 ∷ 9 ∷ 25 ∷ 0 ∷ []
distance_of_boxes_is_that_of_their_nearest_points = refl

points_at_the_ends : box_dist2_of 3 (bounds (lowest ∷ lowest ∷ lowest ∷ []) (lowest ∷ lowest ∷ lowest ∷ []))
    (bounds (highest ∷ highest ∷ highest ∷ []) (highest ∷ highest ∷ highest ∷ [])) ≡ 55340232195358851075
points_at_the_ends = refl

a_distance_that_is_reached_counts : map (λ within. near_test 2 within rectangle (bounds (at 5 3) (at 7 9)))
    (3 ∷ 4 ∷ 5 ∷ []) ≡ false ∷ true ∷ true ∷ []
unfolding near_test
a_distance_that_is_reached_counts = refl

a_widened_box_ends_where_integers_do : widened_of 2 3
    (bounds (lowest ∷ pos 7 ∷ []) (highest ∷ pos 8 ∷ [])) ≡ bounds (lowest ∷ pos 4 ∷ [])
    (highest ∷ pos 11 ∷ [])
a_widened_box_ends_where_integers_do = refl
