-- The box of a node.
use Rattle.std.proofs.Common.{ℕ, arith}
use Rattle.box_math.specs.Bounds.{Bounds, IsBox, Within, join_of}
use Rattle.box_math.specs.Objects.{bounds_of}
use Rattle.box_math.proofs.BoxLaws.{IsBox-join_of, Within-antisym, Within-refl, Within-trans}
use Rattle.box_math.proofs.BoxLaws.{join_of-encloses, join_of-least}
use Rattle.tree_node.specs.Boxes.{RowHasBoxes, box_round, least_box}
use Rattle.tree_node.specs.Laws.{JoinIsLeastBox, OneLeastBox}
use Rattle.tree_node.specs.Shape.{RowWithin}
use Rattle.tree_node.specs.Trees.{Row, end, more, object, child, row_items}

pub one_least_box : OneLeastBox
one_least_box dims a b row first second =
    Within-antisym dims a b first.box second.box (first.least b second.box second.encloses)
    (second.least a first.box first.encloses)

round_is_box : (dims : ℕ) (b : Bounds) (row : Row) → IsBox dims b → RowHasBoxes dims row
    → IsBox dims (box_round dims b (row_items row))
round_is_box dims b end box boxes = box
round_is_box dims b (more (object kept id) rest) box boxes =
    round_is_box dims (join_of dims b (bounds_of kept)) rest
    (IsBox-join_of dims b (bounds_of kept) box boxes.0) boxes.1
round_is_box dims b (more (child bounds page below) rest) box boxes =
    round_is_box dims (join_of dims b bounds) rest (IsBox-join_of dims b bounds box boxes.0) boxes.2

pub begins_within : (dims : ℕ) (b : Bounds) (row : Row) → Within dims b (box_round dims b (row_items row))
begins_within dims b end = Within-refl dims b
begins_within dims b (more (object kept id) rest) =
    Within-trans dims b (join_of dims b (bounds_of kept)) _ (join_of-encloses dims b (bounds_of kept)).0
    (begins_within dims (join_of dims b (bounds_of kept)) rest)
begins_within dims b (more (child bounds page below) rest) =
    Within-trans dims b (join_of dims b bounds) _ (join_of-encloses dims b bounds).0
    (begins_within dims (join_of dims b bounds) rest)

pub all_within : (dims : ℕ) (b : Bounds) (row : Row) → RowWithin dims row (box_round dims b (row_items row))
all_within dims b end = tt
all_within dims b (more (object kept id) rest) = (
  Within-trans dims (bounds_of kept) (join_of dims b (bounds_of kept)) _
      (join_of-encloses dims b (bounds_of kept)).1
      (begins_within dims (join_of dims b (bounds_of kept)) rest),
  all_within dims (join_of dims b (bounds_of kept)) rest,
)
all_within dims b (more (child bounds page below) rest) = (
  Within-trans dims bounds (join_of dims b bounds) _ (join_of-encloses dims b bounds).1
      (begins_within dims (join_of dims b bounds) rest),
  all_within dims (join_of dims b bounds) rest,
)

round_is_least : (dims : ℕ) (b c : Bounds) (row : Row) → Within dims b c → RowWithin dims row c
    → Within dims (box_round dims b (row_items row)) c
round_is_least dims b c end here within = here
round_is_least dims b c (more (object kept id) rest) here within =
    round_is_least dims (join_of dims b (bounds_of kept)) c rest
    (join_of-least dims b (bounds_of kept) c here within.0) within.1
round_is_least dims b c (more (child bounds page below) rest) here within =
    round_is_least dims (join_of dims b bounds) c rest (join_of-least dims b bounds c here within.0) within.1

pub join_is_least_box : JoinIsLeastBox
unfolding least_box
join_is_least_box dims end some boxes = absurd (omega (arith, some))
join_is_least_box dims (more (object kept id) rest) some boxes = record {
  box = round_is_box dims (bounds_of kept) rest boxes.0 boxes.1;
  encloses = (begins_within dims (bounds_of kept) rest, all_within dims (bounds_of kept) rest);
  least = λ c box within. round_is_least dims (bounds_of kept) c rest within.0 within.1;
}
join_is_least_box dims (more (child bounds page below) rest) some boxes = record {
  box = round_is_box dims bounds rest boxes.0 boxes.2;
  encloses = (begins_within dims bounds rest, all_within dims bounds rest);
  least = λ c box within. round_is_least dims bounds c rest within.0 within.1;
}

pub ruleset box_laws = (one_least_box, join_is_least_box)
