-- Through the boxes of children each object that is sought is reached: in a tree with least boxes none lies
-- below a box that is not admitted.
use Rattle.std.proofs.Common.{◌≡◌, ◌∙◌, ℕ, Bool, true, false, cond, List, [], ◌∷◌, ◌++◌, refl, sym, ap}
use Rattle.std.proofs.lemmas.List.Elements.{filter-append}
use Rattle.box_math.specs.Bounds.{Bounds, IsOrdered, Within}
use Rattle.box_math.specs.Objects.{Object, bounds_of}
use Rattle.box_math.proofs.BoxLaws.{Within-trans}
use Rattle.tree_node.specs.Searches.{objects_reached, passing_objects}
use Rattle.tree_node.specs.Shape.{RowHasShape, RowWithin}
use Rattle.tree_node.specs.Trees.{Row, end, more, object, child, objects_in}
use Rattle.node_page.specs.Standing.{PageMap, StandsAt}
use Rattle.node_page.proofs.RootedLemmas.{HasOrderedBoxes, boxes_ordered}
use Rattle.range_query.proofs.QueryLemmas.{Finds}

fails_within : (dims : ℕ) (guard test : Bounds → Bool) (a b : Bounds) → Finds dims guard test
    → IsOrdered dims a.low a.high → Within dims a b → guard b ≡ false → test a ≡ false
fails_within dims guard test a b finds ordered within fails = case (test a) refl
  where
    case : (t : Bool) → test a ≡ t → t ≡ false
    case false e = refl
    case true e = absurd (let passes = finds a b ordered within e in cc)

in_turn : (dims : ℕ) (row : Row) (b c : Bounds) → RowWithin dims row b → Within dims b c
    → RowWithin dims row c
in_turn dims end b c inner outer = tt
in_turn dims (more (object kept id) rest) b c inner outer =
    (Within-trans dims (bounds_of kept) b c inner.0 outer, in_turn dims rest b c inner.1 outer)
in_turn dims (more (child bounds page below) rest) b c inner outer =
    (Within-trans dims bounds b c inner.0 outer, in_turn dims rest b c inner.1 outer)

none_found : (dims most : ℕ) (guard test : Bounds → Bool) (b : Bounds) (row : Row) → Finds dims guard test
    → RowHasShape dims most row → HasOrderedBoxes dims row → RowWithin dims row b → guard b ≡ false
    → passing_objects test row ≡ []
none_found dims most guard test b end finds shape boxes within fails = refl
none_found dims most guard test b (more (object kept id) rest) finds shape boxes within fails =
    let here = fails_within dims guard test (bounds_of kept) b finds boxes.0 within.0 fails in
    ap (λ (t : Bool). cond t ((id, kept) ∷ passing_objects test rest) (passing_objects test rest)) here
    ∙ none_found dims most guard test b rest finds shape boxes.1 within.1 fails
none_found dims most guard test b (more (child bounds page below) rest) finds shape boxes within fails =
    filter-append (λ (found : ℕ × Object). test (bounds_of found.1)) (objects_in below) (objects_in rest)
    ∙ ap (λ (l : List (ℕ × Object)). l ++ passing_objects test rest)
    (none_found dims most guard test b below finds shape.3 boxes.0
    (in_turn dims below bounds b shape.2.encloses within.0) fails)
    ∙ none_found dims most guard test b rest finds shape.4 boxes.1 within.1 fails

found_here : (t : Bool) (o : ℕ × Object) (xs ys : List (ℕ × Object)) → xs ≡ ys
    → cond t (o ∷ []) [] ++ xs ≡ cond t (o ∷ ys) ys
found_here true o xs ys e = ap (λ (l : List (ℕ × Object)). o ∷ l) e
found_here false o xs ys e = e

found_below : (t : Bool) (r p r' p' : List (ℕ × Object)) → (t ≡ true → r ≡ p) → (t ≡ false → p ≡ [])
    → r' ≡ p' → cond t r [] ++ r' ≡ p ++ p'
found_below true r p r' p' passes fails rest = ap (λ (l : List (ℕ × Object)). l ++ r') (passes refl)
    ∙ ap (λ (l : List (ℕ × Object)). p ++ l) rest
found_below false r p r' p' passes fails rest = rest
    ∙ ap (λ (l : List (ℕ × Object)). l ++ p') (sym (fails refl))

all_found : (dims most : ℕ) (guard test : Bounds → Bool) (row : Row) → Finds dims guard test
    → RowHasShape dims most row → HasOrderedBoxes dims row
    → objects_reached guard test row ≡ passing_objects test row
all_found dims most guard test end finds shape boxes = refl
all_found dims most guard test (more (object kept id) rest) finds shape boxes =
    found_here (test (bounds_of kept)) (id, kept) (objects_reached guard test rest)
    (passing_objects test rest) (all_found dims most guard test rest finds shape boxes.1)
all_found dims most guard test (more (child bounds page below) rest) finds shape boxes =
    let inner = all_found dims most guard test below finds shape.3 boxes.0 in
    let later = all_found dims most guard test rest finds shape.4 boxes.1 in
    found_below (guard bounds) (objects_reached guard test below) (passing_objects test below)
    (objects_reached guard test rest) (passing_objects test rest)
    (λ e. inner)
    (λ e. none_found dims most guard test bounds below finds shape.3 boxes.0 shape.2.encloses e)
    later
    ∙ sym (filter-append (λ (found : ℕ × Object). test (bounds_of found.1)) (objects_in below)
    (objects_in rest))

pub nothing_missed : (dims most : ℕ) (guard test : Bounds → Bool) (m : PageMap) (page level : ℕ) (row : Row)
    → Finds dims guard test → RowHasShape dims most row → StandsAt dims m page level row
    → objects_reached guard test row ≡ passing_objects test row
nothing_missed dims most guard test m page level row finds shape at =
    all_found dims most guard test row finds shape (boxes_ordered dims m page level row at)
