-- Worked examples of packed loads (docs/RULES.md). No other proof rests on them.
use Rattle.std.proofs.Common.{◌≡◌, ℕ, zero, suc, ◌+◌, ◌*◌, ◌^◌, ◌≤◌, List, [], ◌∷◌, refl, pos, arith}
use Rattle.tree_node.specs.Nodes.{Item}
use Rattle.tree_node.specs.Rows.{row_of}
use Rattle.tree_node.specs.Trees.{object, end}
use Rattle.bulk_load.specs.Hints.{centre_told, place_told, retold}
use Rattle.bulk_load.specs.Packed.{IsPacked, objects_of, root}
use Rattle.bulk_load.specs.Sorting.{before, order_on, sorted_on}
use Rattle.bulk_load.specs.Tiling.{IsLeastRoot, IsTiled, ending, even_sizes, joined, one_run, size_of_one}

abbrev at : ℕ → ℕ → ℕ → Item
at id x y =
    record {
      bounds = record { low = pos x ∷ pos y ∷ []; high = pos x ∷ pos y ∷ [] };
      reference = id;
      tag = 2 * id;
    }

-- the longer of even runs come first
some_even_sizes : (even_sizes 9 2 ≡ 5 ∷ 4 ∷ []) × (even_sizes 5 2 ≡ 3 ∷ 2 ∷ [])
    × (even_sizes 4 2 ≡ 2 ∷ 2 ∷ []) × (even_sizes 3 1 ≡ 3 ∷ [])
some_even_sizes = (refl, refl, refl, refl)

-- few entries are one run, none are no run
some_one_runs : (one_run {A = ℕ} (7 ∷ 5 ∷ []) ≡ (7 ∷ 5 ∷ []) ∷ []) × (one_run {A = ℕ} [] ≡ [])
    × (size_of_one 2 ≡ 2 ∷ []) × (size_of_one 0 ≡ [])
some_one_runs = (refl, refl, refl, refl)

its_joined : joined {A = ℕ} ((7 ∷ 5 ∷ []) ∷ [] ∷ (6 ∷ []) ∷ []) ≡ 7 ∷ 5 ∷ 6 ∷ []
its_joined = refl

-- ---- sorts

-- by the axis, and then by reference
crowd : List Item
crowd = at 9 2 0 ∷ at 4 0 5 ∷ at 7 2 1 ∷ at 5 1 0 ∷ []

on_the_first_axis : order_on 2 0 crowd ≡ 1 ∷ 3 ∷ 2 ∷ 0 ∷ []
unfolding crowd order_on before
on_the_first_axis = refl

on_the_second_axis : order_on 2 1 crowd ≡ 3 ∷ 0 ∷ 2 ∷ 1 ∷ []
unfolding crowd order_on before
on_the_second_axis = refl

-- entries of one centre and one reference stay as they stand
by_position : order_on 2 0 (at 1 0 0 ∷ at 1 0 9 ∷ at 1 0 4 ∷ []) ≡ 0 ∷ 1 ∷ 2 ∷ []
unfolding order_on before
by_position = refl

-- a hint of a few entries tells its position below the centre, and one of very many is its position
some_places_told : (place_told 3 (9 * 2 ^ 31 + 2) ≡ 2) × (place_told (2 ^ 31 + 1) (2 ^ 31) ≡ 2 ^ 31)
unfolding place_told
some_places_told = (refl, refl)

-- and above it the centre, or nothing
some_centres_told : (centre_told 3 (9 * 2 ^ 31 + 2) ≡ 9) × (centre_told (2 ^ 31 + 1) (2 ^ 31) ≡ 0)
unfolding centre_told
some_centres_told = (refl, refl)

-- a hint that tells another number
one_retold : retold 7 (9 * 2 ^ 31 + 2) ≡ 7 * 2 ^ 31 + 2
one_retold = refl

-- ---- runs

-- the entries of an even axis end in their own list, and those of an odd one in the other
some_endings : (ending {A = ℕ} 0 7 5 ≡ 7) × (ending {A = ℕ} 1 7 5 ≡ 5) × (ending {A = ℕ} 2 7 5 ≡ 7)
unfolding ending
some_endings = (refl, refl, refl)

-- a square of two by two slabs is enough for two cells, and one by one is not
two_cells : IsLeastRoot 2 2 2
two_cells = record { enough = omega arith; least = at_least_two }
  where
    at_least_two : (k : ℕ) → 2 ≤ k ^ 2 → 2 ≤ k
    at_least_two zero h = absurd (omega (arith, h))
    at_least_two (suc zero) h = absurd (omega (arith, h))
    at_least_two (suc (suc k)) h = omega arith

-- Five points of a row, in another order, four to a node: two slabs, each of which is one run.
five : List Item
five = at 4 3 0 ∷ at 1 0 0 ∷ at 5 10 0 ∷ at 3 2 0 ∷ at 2 1 0 ∷ []

first : List Item
first = at 1 0 0 ∷ at 2 1 0 ∷ at 3 2 0 ∷ []

second : List Item
second = at 4 3 0 ∷ at 5 10 0 ∷ []

five_in_order : sorted_on (λ x. x) 2 0 five ≡ joined (first ∷ second ∷ [])
unfolding five first second order_on before
five_in_order = refl

five_are_two_runs : IsTiled (λ x. x) 2 4 five (first ∷ second ∷ [])
unfolding five first second order_on before
five_are_two_runs = (
  λ few. absurd (omega (arith, few)),
  λ many. record {
    count = 2;
    root = two_cells;
    slabs = first ∷ second ∷ [];
    cut = record { whole = refl; sizes = refl };
    each = (
      first ∷ [],
      (
        second ∷ [],
        (
          refl,
          (λ few. refl, λ many. absurd (omega (arith, many))),
          (second ∷ [], ([], (refl, (λ few. refl, λ many. absurd (omega (arith, many))), refl))),
        ),
      ),
    );
  },
)

-- ---- trees

-- as entries of leaves
as_objects : objects_of (at 7 0 0 ∷ at 5 0 1 ∷ []) ≡ object ((at 7 0 0).bounds, 14) 7 ∷ object
    ((at 5 0 1).bounds, 10) 5 ∷ []
as_objects = refl

-- no objects make an empty leaf, and two are a leaf in the order in which they stand
nothing : IsPacked 2 4 [] (record { page = 3; level = 0; row = end })
nothing = root 0 3 [] (omega arith)

two : IsPacked 2 4 (at 7 0 0 ∷ at 5 0 1 ∷ [])
    (record { page = 3; level = 0; row = row_of (objects_of (at 7 0 0 ∷ at 5 0 1 ∷ [])) })
two = root 0 3 (objects_of (at 7 0 0 ∷ at 5 0 1 ∷ [])) (omega arith)
