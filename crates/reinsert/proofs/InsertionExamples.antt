-- Worked insertions (docs/RULES.md). No other proof rests on them.
use Rattle.std.proofs.Common.{replicate, Bool, ◌≡◌, ℕ, zero, suc, ◌<◌, List, [], ◌∷◌, Some, None, true, false}
use Rattle.std.proofs.Common.{refl, arith, pos}
use Rattle.std.proofs.lemmas.Bool.Decides.{nat_tests}
use Rattle.box_math.specs.Bounds.{Bounds}
use Rattle.tree_node.specs.Keys.{AtMost}
use Rattle.tree_node.specs.Nodes.{Item}
use Rattle.tree_node.specs.Rows.{Waiter, row_of}
use Rattle.tree_node.specs.Trees.{Row, object, child, Tree, row_items}
use Rattle.tree_node.proofs.KeyLemmas.{AtMost-itself}
use Rattle.choose_subtree.specs.Choice.{IsChosenChild, child_key}
use Rattle.rstar_split.specs.Cuts.{Splits}
use Rattle.reinsert.specs.Insertion.{IsInsertion}

-- the box of one point of the plane, and a box
abbrev point : ℕ → ℕ → Bounds
point x y = record { low = pos x ∷ pos y ∷ []; high = pos x ∷ pos y ∷ [] }

abbrev box : ℕ → ℕ → ℕ → ℕ → Bounds
box x y x' y' = record { low = pos x ∷ pos y ∷ []; high = pos x' ∷ pos y' ∷ [] }

abbrev at : ℕ → ℕ → ℕ → Item
at id x y = record { bounds = point x y; reference = id; tag = id }

-- ---- the fifth of five points on a line, which are split so, splits the root

abbrev line : List Item
line = at 1 0 0 ∷ at 2 1 0 ∷ at 3 2 0 ∷ at 4 3 0 ∷ at 5 10 0 ∷ []

abbrev four : Tree
four = record {
  page = 3;
  level = 0;
  row = row_of
      (object (point 0 0, 1) 1 ∷ object (point 1 0, 2) 2 ∷ object (point 2 0, 3) 3 ∷ object (point 3 0, 4)
      4 ∷ []);
}

abbrev first_leaf : Row
first_leaf = row_of (object (point 0 0, 1) 1 ∷ object (point 1 0, 2) 2 ∷ [])

abbrev second_leaf : Row
second_leaf = row_of (object (point 2 0, 3) 3 ∷ object (point 3 0, 4) 4 ∷ object (point 10 0, 5) 5 ∷ [])

abbrev five : Tree
five = record {
  page = 6;
  level = 1;
  row = row_of (child (box 0 0 1 0) 3 first_leaf ∷ child (box 2 0 10 0) 5 second_leaf ∷ []);
}

pub fifth : Splits 2 4 line (0 ∷ 1 ∷ []) (2 ∷ 3 ∷ 4 ∷ [])
    → IsInsertion 2 4 (λ n. 0) (object (point 10 0, 5) 5) 0 four five
unfolding Rattle.tree_node.specs.Boxes.least_box
fifth line_splits = record {
  count = 1;
  called = true ∷ replicate 40 false;
  placed = (
    _,
    record {
      first = record { branch = object (point 10 0, 5) 5; level = 0 };
      rest = [];
      waits = refl;
      fits = omega arith;
      outcome =
          record {
            row = first_leaf;
            beside = Some (record { page = 5; row = second_leaf });
            far = [];
            called = true ∷ replicate 40 false;
          };
      places =
          record { page = 5; first = 0 ∷ 1 ∷ []; second = 2 ∷ 3 ∷ 4 ∷ []; splits = line_splits; is = refl };
      root = (6, refl);
      waiting = refl;
      called = refl;
      distinct = λ n. grind (arith, nat_tests);
    },
    refl,
  );
}

-- ---- the first overflow below a root: entry 6 is taken out of the second leaf and goes into the first

abbrev low : Row
low = row_of (object (point 0 0, 1) 1 ∷ object (point 2 2, 2) 2 ∷ object (point 42 42, 7) 7 ∷ [])

abbrev high : Row
high = row_of
    (object (point 100 100, 3) 3 ∷ object (point 102 102, 4) 4 ∷ object (point 104 100, 5) 5 ∷ object
    (point 60 60, 6) 6 ∷ [])

abbrev seven : Row
seven = row_of (child (box 0 0 42 42) 3 low ∷ child (box 60 60 104 102) 5 high ∷ [])

abbrev high_after : Row
high_after =
    row_of (object (point 100 100, 3) 3 ∷ object (point 102 102, 4) 4 ∷ object (point 104 100, 5) 5 ∷ object
    (point 103 101, 8) 8 ∷ [])

abbrev between : Row
between = row_of (child (box 0 0 42 42) 3 low ∷ child (box 100 100 104 102) 5 high_after ∷ [])

abbrev low_after : Row
low_after =
    row_of (object (point 0 0, 1) 1 ∷ object (point 2 2, 2) 2 ∷ object (point 42 42, 7) 7 ∷ object
    (point 60 60, 6) 6 ∷ [])

abbrev eight : Row
eight = row_of (child (box 0 0 60 60) 3 low_after ∷ child (box 100 100 104 102) 5 high_after ∷ [])

-- the overlaps grow by 1763 and 0
second_least : (j : ℕ) → j < 2
    → AtMost (child_key 2 1 (row_items seven) (point 103 101) 1)
    (child_key 2 1 (row_items seven) (point 103 101) j)
unfolding child_key Rattle.choose_subtree.specs.Choice.overlap_at Rattle.box_math.specs.Measures.overlap_of
    Rattle.box_math.specs.Bounds.meets_test
second_least zero lt = (omega arith, λ same. absurd (omega (arith, same)))
second_least (suc zero) lt = AtMost-itself (child_key 2 1 (row_items seven) (point 103 101) 1)
second_least (suc (suc j)) lt = absurd (omega (arith, lt))

second_first : (j : ℕ) → j < 1
    → ¬ (child_key 2 1 (row_items seven) (point 103 101) j ≡ child_key 2 1 (row_items seven) (point 103 101)
    1)
unfolding child_key Rattle.choose_subtree.specs.Choice.overlap_at Rattle.box_math.specs.Measures.overlap_of
    Rattle.box_math.specs.Bounds.meets_test
second_first zero lt same = absurd (cc)
second_first (suc j) lt same = absurd (omega (arith, lt))

to_second : IsChosenChild 2 1 (row_items seven) (point 103 101) 1
to_second = record { within = omega arith; least = second_least; first = second_first }

-- then no overlap grows, and the areas by 1836 and 1840
first_least : (j : ℕ) → j < 2
    → AtMost (child_key 2 1 (row_items between) (point 60 60) 0)
    (child_key 2 1 (row_items between) (point 60 60) j)
unfolding child_key Rattle.choose_subtree.specs.Choice.overlap_at Rattle.box_math.specs.Measures.overlap_of
    Rattle.box_math.specs.Bounds.meets_test
first_least zero lt = AtMost-itself (child_key 2 1 (row_items between) (point 60 60) 0)
first_least (suc zero) lt = (omega arith, λ a. (omega arith, λ same. absurd (omega (arith, same))))
first_least (suc (suc j)) lt = absurd (omega (arith, lt))

to_first : IsChosenChild 2 1 (row_items between) (point 60 60) 0
to_first =
    record { within = omega arith; least = first_least; first = λ j lt same. absurd (omega (arith, lt)) }

pub first_overflow : IsInsertion 2 4 (λ n. 0) (object (point 103 101, 8) 8) 0
    (record { page = 6; level = 1; row = seven }) (record { page = 6; level = 1; row = eight })
unfolding Rattle.tree_node.specs.Boxes.least_box Rattle.reinsert.specs.Far.far_places
    Rattle.reinsert.specs.Far.near_places Rattle.reinsert.specs.Far.far_order
    Rattle.reinsert.specs.Far.farther
first_overflow =
    let six : Waiter = record { branch = object (point 60 60, 6) 6; level = 0 } in
    let called : List Bool = true ∷ replicate 40 false in
    record {
      count = 2;
      called = called;
      placed = (
        record { tree = record { page = 6; level = 1; row = between }; waiting = six ∷ []; called = called },
        record {
          first = record { branch = object (point 103 101, 8) 8; level = 0 };
          rest = [];
          waits = refl;
          fits = omega arith;
          outcome = record { row = between; beside = None; far = six ∷ []; called = called };
          places = record {
            at = 1;
            chosen = to_second;
            from = record { page = 5; row = high };
            there = refl;
            below = record { row = high_after; beside = None; far = six ∷ []; called = called };
            settled = refl;
            above = record { row = between; beside = None; far = []; called = called };
            settles = refl;
            is = refl;
          };
          root = refl;
          waiting = refl;
          called = refl;
          distinct = λ n. grind (arith, nat_tests);
        },
        (
          record { tree = record { page = 6; level = 1; row = eight }; waiting = []; called = called },
          record {
            first = six;
            rest = [];
            waits = refl;
            fits = omega arith;
            outcome = record { row = eight; beside = None; far = []; called = called };
            places = record {
              at = 0;
              chosen = to_first;
              from = record { page = 3; row = low };
              there = refl;
              below = record { row = low_after; beside = None; far = []; called = called };
              settled = refl;
              above = record { row = eight; beside = None; far = []; called = called };
              settles = refl;
              is = refl;
            };
            root = refl;
            waiting = refl;
            called = refl;
            distinct = λ n. grind (arith, nat_tests);
          },
          refl,
        ),
      );
    }
