-- A worked example of a removal: of two leaves {1,2} and {3,4,5} the object 1 is removed, so the first leaf
-- leaves, 2 comes into the other one, and the root gives way to it. No other proof rests on it.
use Rattle.std.proofs.Common.{◌≡◌, ℕ, zero, suc, ◌+◌, ◌<◌, [], ◌∷◌, None, refl, arith, pos}
use Rattle.std.proofs.lemmas.Bool.Decides.{nat_tests}
use Rattle.box_math.specs.Bounds.{Bounds}
use Rattle.tree_node.specs.Boxes.{least_box}
use Rattle.tree_node.specs.Keys.{AtMost}
use Rattle.tree_node.specs.Rows.{row_of}
use Rattle.tree_node.specs.Trees.{Row, object, child, Tree, row_items}
use Rattle.tree_node.proofs.KeyLemmas.{AtMost-itself}
use Rattle.choose_subtree.specs.Choice.{child_key, IsChosenChild}
use Rattle.reinsert.specs.Called.{none_called}
use Rattle.reinsert.specs.Insertion.{IsInsertion}
use Rattle.condense.specs.Removal.{Condensed, TakesOut, GivesWay, IsRemoval}

abbrev point : ℕ → ℕ → Bounds
point x y = record { low = pos x ∷ pos y ∷ []; high = pos x ∷ pos y ∷ [] }

abbrev box : ℕ → ℕ → ℕ → ℕ → Bounds
box x y x' y' = record { low = pos x ∷ pos y ∷ []; high = pos x' ∷ pos y' ∷ [] }

abbrev left : Row
left = row_of (object (point 0 0, 7) 1 ∷ object (point 1 0, 7) 2 ∷ [])

abbrev right : Row
right = row_of (object (point 2 0, 0) 3 ∷ object (point 3 0, 9) 4 ∷ object (point 10 0, 0) 5 ∷ [])

abbrev before : Tree
before =
    record {
      page = 5;
      level = 1;
      row = row_of (child (box 0 0 1 0) 3 left ∷ child (box 2 0 10 0) 4 right ∷ []);
    }

-- the first leaf has too few entries, and its entry is kept
abbrev out : Condensed
out = record {
  row = row_of (child (box 2 0 10 0) 4 right ∷ []);
  kept = record { branch = object (point 1 0, 7) 2; level = 0 } ∷ [];
}

takes_out : TakesOut 2 4 1 1 (point 0 0, 7) before.row out
takes_out = (
  0,
  record { page = 3; row = left },
  refl,
  record { row = row_of (object (point 1 0, 7) 2 ∷ []); kept = [] },
  (0, refl, refl),
  refl,
)

abbrev filled_leaf : Row
filled_leaf =
    row_of (object (point 2 0, 0) 3 ∷ object (point 3 0, 9) 4 ∷ object (point 10 0, 0) 5 ∷ object
    (point 1 0, 7) 2 ∷ [])

abbrev filled : Tree
filled = record { page = 5; level = 1; row = row_of (child (box 1 0 10 0) 4 filled_leaf ∷ []) }

-- the box of the leaf that it comes into
filled_box : least_box 2 (row_items filled_leaf) ≡ box 1 0 10 0
unfolding least_box
filled_box = refl

only_one : (j : ℕ) → j < 1
    → AtMost (child_key 2 1 (row_items out.row) (point 1 0) 0)
    (child_key 2 1 (row_items out.row) (point 1 0) j)
only_one zero lt = AtMost-itself (child_key 2 1 (row_items out.row) (point 1 0) 0)
only_one (suc j) lt = absurd (omega (arith, lt))

only_child : IsChosenChild 2 1 (row_items out.row) (point 1 0) 0
only_child = record { within = omega arith; least = only_one; first = λ j lt. absurd (omega (arith, lt)) }

abbrev after : Tree
after = record { page = 4; level = 0; row = filled_leaf }

gives_way : GivesWay 1 filled after
gives_way = (
  omega arith,
  refl,
  record { page = 4; row = filled_leaf },
  refl,
  (refl, λ above. absurd (omega (arith, above))),
)

-- 2 comes back, into the leaf that is left
comes_back : IsInsertion 2 4 (λ n. 0 + 0) (object (point 1 0, 7) 2) 0
    (record { page = 5; level = 1; row = out.row }) filled
unfolding least_box
comes_back = record {
  count = 1;
  called = none_called;
  placed = (
    _,
    record {
      first = record { branch = object (point 1 0, 7) 2; level = 0 };
      rest = [];
      waits = refl;
      fits = omega arith;
      outcome = record { row = filled.row; beside = None; far = []; called = none_called };
      places = record {
        at = 0;
        chosen = only_child;
        from = record { page = 4; row = right };
        there = refl;
        below = record { row = filled_leaf; beside = None; far = []; called = none_called };
        settled = refl;
        above = record { row = filled.row; beside = None; far = []; called = none_called };
        settles = refl;
        is = refl;
      };
      root = refl;
      waiting = refl;
      called = refl;
      distinct = λ n. grind (arith, nat_tests);
    },
    refl,
  );
}

pub one_is_removed : IsRemoval 2 4 (λ n. 0) 1 (point 0 0, 7) before after
one_is_removed = record {
  out = out;
  takes_out = takes_out;
  filled = filled;
  inserted = (filled, comes_back, refl);
  count = 1;
  lowered = gives_way;
}
