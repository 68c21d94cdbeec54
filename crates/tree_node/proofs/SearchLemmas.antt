-- What searches of trees find, and how many nodes they look at.
use Rattle.std.proofs.Common.{◌≡◌, ◌∙◌, ℕ, ◌+◌, Bool, true, false, cond, List, [], ◌∷◌, ◌++◌, refl, sym, ap}
use Rattle.std.proofs.Common.{arith}
use Rattle.std.specs.List.{filter}
use Rattle.box_math.specs.Bounds.{Bounds, IsBox, Within}
use Rattle.box_math.specs.Objects.{Object, bounds_of}
use Rattle.box_math.proofs.BoxLaws.{Within-trans}
use Rattle.tree_node.specs.Boxes.{RowHasBoxes}
use Rattle.tree_node.specs.Laws.{AdmittedAreReached, CountsGoOn, CountsRise, NoObjectIsMissed}
use Rattle.tree_node.specs.Searches.{Guards, objects_reached, passing, passing_objects, reached}
use Rattle.tree_node.specs.Shape.{RowHasShape, RowWithin}
use Rattle.tree_node.specs.Trees.{Row, end, more, object, child, objects_in}

-- a test that a box fails is failed by each box within it
fails_within : (dims : ℕ) (guard test : Bounds → Bool) (a b : Bounds) → Guards dims guard test → IsBox dims a
    → Within dims a b → guard b ≡ false → test a ≡ false
fails_within dims guard test a b guards box within fails = case (test a) refl
  where
    case : (t : Bool) → test a ≡ t → t ≡ false
    case false e = refl
    case true e = absurd (let passes = guards a b box within e in cc)

-- so no node below it passes
none_pass : (dims most : ℕ) (test : Bounds → Bool) (b : Bounds) (row : Row) → Guards dims test test
    → RowHasShape dims most row → RowWithin dims row b → test b ≡ false → passing test row ≡ 0
none_pass dims most test b end guards shape within fails = refl
none_pass dims most test b (more (object kept id) rest) guards shape within fails =
    none_pass dims most test b rest guards shape within.1 fails
none_pass dims most test b (more (child bounds page below) rest) guards shape within fails =
    let here = fails_within dims test test bounds b guards shape.2.box within.0 fails in
    let under = none_pass dims most test bounds below guards shape.3 shape.2.encloses here in
    let others = none_pass dims most test b rest guards shape.4 within.1 fails in
    rw (here, under, others) refl

-- a node that passes is reached with those below it, and of one that does not none passes
reached_below : (t : Bool) (r p r' p' : ℕ) → (t ≡ true → p ≡ r) → (t ≡ false → p ≡ 0) → p' ≡ r'
    → cond t 1 0 + p + p' ≡ cond t (1 + r) 0 + r'
reached_below true r p r' p' passes fails rest = omega (arith, passes refl, rest)
reached_below false r p r' p' passes fails rest = omega (arith, fails refl, rest)

all_reached : (dims most : ℕ) (test : Bounds → Bool) (row : Row) → Guards dims test test
    → RowHasShape dims most row → passing test row ≡ reached test row
all_reached dims most test end guards shape = refl
all_reached dims most test (more (object kept id) rest) guards shape =
    all_reached dims most test rest guards shape
all_reached dims most test (more (child bounds page below) rest) guards shape =
    let inner = all_reached dims most test below guards shape.3 in
    let later = all_reached dims most test rest guards shape.4 in
    reached_below (test bounds) (reached test below) (passing test below) (reached test rest)
    (passing test rest)
    (λ e. inner)
    (λ e. none_pass dims most test bounds below guards shape.3 shape.2.encloses e)
    later

pub admitted_are_reached : AdmittedAreReached
admitted_are_reached dims most t test shape guards =
    ap (λ (n : ℕ). 1 + n) (all_reached dims most test t.row guards shape.below)

-- ---- objects

kept : {X : Type 0} (t : Bool) (x : X) (both xs ys : List X) → both ≡ xs ++ ys
    → cond t (x ∷ both) both ≡ cond t (x ∷ xs) xs ++ ys
kept true x both xs ys e = ap (λ l. x ∷ l) e
kept false x both xs ys e = e

filter_append : {X : Type 0} (p : X → Bool) (xs ys : List X)
    → filter p (xs ++ ys) ≡ filter p xs ++ filter p ys
filter_append p [] ys = refl
filter_append p (x ∷ xs) ys =
    kept (p x) x (filter p (xs ++ ys)) (filter p xs) (filter p ys) (filter_append p xs ys)

-- no object below a box that fails the guard passes the test
in_turn : (dims : ℕ) (row : Row) (b c : Bounds) → RowWithin dims row b → Within dims b c
    → RowWithin dims row c
in_turn dims end b c inner outer = tt
in_turn dims (more (object kept id) rest) b c inner outer =
    (Within-trans dims (bounds_of kept) b c inner.0 outer, in_turn dims rest b c inner.1 outer)
in_turn dims (more (child bounds page below) rest) b c inner outer =
    (Within-trans dims bounds b c inner.0 outer, in_turn dims rest b c inner.1 outer)

none_found : (dims most : ℕ) (guard test : Bounds → Bool) (b : Bounds) (row : Row) → Guards dims guard test
    → RowHasShape dims most row → RowHasBoxes dims row → RowWithin dims row b → guard b ≡ false
    → passing_objects test row ≡ []
none_found dims most guard test b end guards shape boxes within fails = refl
none_found dims most guard test b (more (object kept id) rest) guards shape boxes within fails =
    let here = fails_within dims guard test (bounds_of kept) b guards boxes.0 within.0 fails in
    ap (λ (t : Bool). cond t ((id, kept) ∷ passing_objects test rest) (passing_objects test rest)) here
    ∙ none_found dims most guard test b rest guards shape boxes.1 within.1 fails
none_found dims most guard test b (more (child bounds page below) rest) guards shape boxes within fails =
    filter_append (λ object. test (bounds_of object.1)) (objects_in below) (objects_in rest)
    ∙ ap (λ l. l ++ passing_objects test rest)
    (none_found dims most guard test b below guards shape.3 boxes.1
    (in_turn dims below bounds b shape.2.encloses within.0) fails)
    ∙ none_found dims most guard test b rest guards shape.4 boxes.2 within.1 fails

found_here : (t : Bool) (o : ℕ × Object) (xs ys : List (ℕ × Object)) → xs ≡ ys
    → cond t (o ∷ []) [] ++ xs ≡ cond t (o ∷ ys) ys
found_here true o xs ys e = ap (λ l. o ∷ l) e
found_here false o xs ys e = e

found_below : (t : Bool) (r p r' p' : List (ℕ × Object)) → (t ≡ true → r ≡ p) → (t ≡ false → p ≡ [])
    → r' ≡ p' → cond t r [] ++ r' ≡ p ++ p'
found_below true r p r' p' passes fails rest = ap (λ l. l ++ r') (passes refl) ∙ ap (λ l. p ++ l) rest
found_below false r p r' p' passes fails rest = rest ∙ sym (ap (λ l. l ++ p') (fails refl))

all_found : (dims most : ℕ) (guard test : Bounds → Bool) (row : Row) → Guards dims guard test
    → RowHasShape dims most row → RowHasBoxes dims row
    → objects_reached guard test row ≡ passing_objects test row
all_found dims most guard test end guards shape boxes = refl
all_found dims most guard test (more (object kept id) rest) guards shape boxes =
    found_here (test (bounds_of kept)) (id, kept) (objects_reached guard test rest)
    (passing_objects test rest) (all_found dims most guard test rest guards shape boxes.1)
all_found dims most guard test (more (child bounds page below) rest) guards shape boxes =
    let inner = all_found dims most guard test below guards shape.3 boxes.1 in
    let later = all_found dims most guard test rest guards shape.4 boxes.2 in
    found_below (guard bounds) (objects_reached guard test below) (passing_objects test below)
    (objects_reached guard test rest) (passing_objects test rest)
    (λ e. inner)
    (λ e. none_found dims most guard test bounds below guards shape.3 boxes.1 shape.2.encloses e)
    later
    ∙ sym (filter_append (λ object. test (bounds_of object.1)) (objects_in below) (objects_in rest))

pub no_object_is_missed : NoObjectIsMissed
no_object_is_missed dims most t guard test shape boxes guards =
    all_found dims most guard test t.row guards shape.below boxes

-- ---- counts

pub counts_go_on : CountsGoOn
counts_go_on before a b = omega arith

pub counts_rise : CountsRise
counts_rise before others small = (omega arith, omega arith, omega arith)

pub ruleset search_laws = (admitted_are_reached, no_object_is_missed, counts_go_on, counts_rise)
