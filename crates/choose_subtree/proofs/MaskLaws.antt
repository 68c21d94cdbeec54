-- What a mask of the entries that meet a window says of those whose bits are not set.
use Rattle.std.proofs.Common.{◌≡◌, ◌∙◌, ℕ, ◌<◌, ◌≤◌, List, All, Some, false, length, get_or, sym, arith}
use Rattle.std.proofs.lemmas.Bool.{false≢true}
use Rattle.std.proofs.lemmas.Int.{ints}
use Rattle.std.proofs.lemmas.Option.{slice_get-get_or}
use Rattle.std.specs.Prelude.{slice_get}
use Rattle.box_math.specs.Bounds.{Bounds, IsBox, Meets, Within, join_of, meets_test}
use Rattle.box_math.specs.Masks.{has_bit}
use Rattle.box_math.proofs.TestLaws.{meets_test_true}
use Rattle.tree_node.specs.Boxes.{box_at, no_item}
use Rattle.tree_node.specs.Nodes.{Item}
use Rattle.choose_subtree.proofs.OverlapLaws.{GrewBy, overlap_passes}

-- an entry whose bit is not set does not meet the window
pub unset_is_apart : (dims : ℕ) (items : List Item) (window : Bounds) (mask j : ℕ)
    → ((place : ℕ) (item : Item) → slice_get items place ≡ Some item
    → has_bit mask place ≡ meets_test dims item.bounds window) → has_bit mask j ≡ false → j < length items
    → Meets dims (box_at items j) window → ⊥
unset_is_apart dims items window mask j met unset lt meets =
    false≢true
    (sym unset ∙ met j (get_or items j no_item) (slice_get-get_or items j no_item lt)
    ∙ (meets_test_true dims (box_at items j) window).1 meets)

-- nor does it hold it, where it is a box
pub unset_holds_not : (dims : ℕ) (items : List Item) (new : Bounds) (mask j : ℕ) → IsBox dims new
    → ((place : ℕ) (item : Item) → slice_get items place ≡ Some item
    → has_bit mask place ≡ meets_test dims item.bounds new) → has_bit mask j ≡ false → j < length items
    → Within dims new (box_at items j) → ⊥
unset_holds_not dims items new mask j box met unset lt inside =
    unset_is_apart dims items new mask j met unset lt
    (λ axis h. let w = inside axis h in let s = (box.spans axis h).ordered in
    (omega (arith, ints, w.0, s), omega (arith, ints, w.1, s)))

-- nor has it anything in common with entry k, whose greater box is the window, so it is passed over
pub passes : (dims : ℕ) (items : List Item) (new : Bounds) (k n next s : ℕ) (before after : Bounds) (mask : ℕ)
    → before ≡ box_at items k → after ≡ join_of dims before new → IsBox dims before
    → All (λ (item : Item). IsBox dims item.bounds) items → n ≤ next → next ≤ length items
    → ((place : ℕ) (item : Item) → slice_get items place ≡ Some item
    → has_bit mask place ≡ meets_test dims item.bounds after)
    → ((j : ℕ) → n ≤ j → j < next → has_bit mask j ≡ false)
    → GrewBy dims items new k n s → GrewBy dims items new k next s
passes dims items new k n next s before after mask eb ea box boxes up within met unset =
    overlap_passes dims items new k n next s before after eb ea box (λ j lt. boxes j no_item lt) up within
    (λ j from below. unset_is_apart dims items after mask j met (unset j from below)
    (omega (arith, below, within)))
