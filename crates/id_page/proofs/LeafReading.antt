-- What a leaf page spells, and the test of it.
use Rattle.std.proofs.Common.{◌≡◌, ℕ, ◌<◌, ◌≤◌, ◌&&◌, ◌==◌, Bool, true, false, nat_le, List, length, get_or}
use Rattle.std.proofs.Common.{Option, Some, None, IsSome, is_some, refl, sym, ◌∙◌, ap, arith}
use Rattle.std.proofs.lemmas.Bool.Decides.{nat_tests}
use Rattle.std.proofs.lemmas.Option.{cond_some}
use Rattle.block_bytes.specs.FormLaws.{none_read}
use Rattle.block_bytes.specs.Numbers.{number_at}
use Rattle.block_bytes.specs.PlaceLaws.{first_places-are, get_or-first_places, length-first_places}
use Rattle.block_bytes.specs.Places.{first_places}
use Rattle.box_bytes.specs.Laws.{all_over-each, all_over-from}
use Rattle.box_math.proofs.TestLaws.{ordered_test_true}
use Rattle.box_math.specs.Bounds.{IsDims, all_over, dims_test}
use Rattle.box_math.specs.Objects.{bounds_of}
use Rattle.bucket_page.proofs.Writing.{nothing}
use Rattle.bucket_page.specs.Layout.{Entry, HasOrderedBox, is_ordered}
use Rattle.id_page.specs.Leaf.{HasLeafHead, SpellsLeaf, leaf_at, leaf_object, leaf_test, most_objects}

head_means : (kind d dims n most : ℕ) (b : Bool)
    → (dims_test dims && kind == 9 && d == dims && nat_le n most && b) ≡ true
    → IsDims dims × (kind ≡ 9) × (d ≡ dims) × (n ≤ most) × (b ≡ true)
head_means kind d dims n most b h = (
  (grind (arith, nat_tests), grind (arith, nat_tests)),
  grind (arith, nat_tests),
  grind (arith, nat_tests),
  grind (arith, nat_tests),
  grind (arith, nat_tests),
)

head_test : (kind d dims n most : ℕ) (b : Bool) → IsDims dims → kind ≡ 9 → d ≡ dims → n ≤ most → b ≡ true
    → (dims_test dims && kind == 9 && d == dims && nat_le n most && b) ≡ true
head_test kind d dims n most b axes is same few holds = let low = axes.0 in let high = axes.1 in
    grind (arith, nat_tests)

-- where the page spells a leaf, reading it gives that leaf
pub leaf_spelled : (dims : ℕ) (page : List ℕ) (objects : List Entry) → SpellsLeaf dims page objects
    → leaf_at dims page ≡ Some objects
unfolding leaf_at leaf_test
leaf_spelled dims page objects s =
    let n = number_at 2 2 page in
    let test = all_over n (λ place. is_ordered dims (leaf_object dims page place)) in
    let each : test ≡ true =
    all_over-from n (λ place. is_ordered dims (leaf_object dims page place))
    (λ place lt.
    (ordered_test_true dims (bounds_of (leaf_object dims page place).1).low
    (bounds_of (leaf_object dims page place).1).high).1 (s.ordered place lt)) in
    let passes = head_test (number_at 1 0 page) (number_at 1 1 page) dims n (most_objects dims) test
    s.head.axes
    s.head.kind s.head.dims_is s.head.few each in
    rw passes (ap (λ (os : List Entry). Some os) (sym s.objects_are))

-- and what reading gives is spelled so
pub leaf_spells : (dims : ℕ) (page : List ℕ) (objects : List Entry) → leaf_at dims page ≡ Some objects
    → SpellsLeaf dims page objects
unfolding leaf_at leaf_test
leaf_spells dims page objects h =
    let n = number_at 2 2 page in
    let test = all_over n (λ place. is_ordered dims (leaf_object dims page place)) in
    let parts =
    cond_some
    (dims_test dims && number_at 1 0 page == 9 && number_at 1 1 page == dims && nat_le n (most_objects dims)
    && test)
    (first_places (leaf_object dims page) n) objects h in
    let means = head_means (number_at 1 0 page) (number_at 1 1 page) dims n (most_objects dims) test
    parts.0 in
    record {
      head = record { axes = means.0; kind = means.1; dims_is = means.2; few = means.3 };
      ordered =
          λ place lt.
          (ordered_test_true dims (bounds_of (leaf_object dims page place).1).low
          (bounds_of (leaf_object dims page place).1).high).0
          (all_over-each n (λ k. is_ordered dims (leaf_object dims page k)) means.4 place lt);
      objects_are = sym parts.1;
    }

-- ---- what readers of a leaf page know

pub count_of_leaf : (dims : ℕ) (page : List ℕ) (objects : List Entry) → leaf_at dims page ≡ Some objects
    → number_at 2 2 page ≡ length objects
count_of_leaf dims page objects is =
    sym (ap length (leaf_spells dims page objects is).objects_are
    ∙ length-first_places (leaf_object dims page) (number_at 2 2 page))

pub object_of_leaf : (dims : ℕ) (page : List ℕ) (objects : List Entry) (place : ℕ) (other : Entry)
    → leaf_at dims page ≡ Some objects → place < length objects
    → get_or objects place other ≡ leaf_object dims page place
object_of_leaf dims page objects place other is lt =
    ap (λ (os : List Entry). get_or os place other) (leaf_spells dims page objects is).objects_are
    ∙ get_or-first_places (leaf_object dims page) (number_at 2 2 page) place other
    (omega (arith, lt, count_of_leaf dims page objects is))

pub box_of_leaf : (dims : ℕ) (page : List ℕ) (objects : List Entry) (place : ℕ)
    → leaf_at dims page ≡ Some objects → place < length objects
    → HasOrderedBox dims (leaf_object dims page place)
box_of_leaf dims page objects place is lt = (leaf_spells dims page objects is).ordered place
    (omega (arith, lt, count_of_leaf dims page objects is))

-- an object that is read is the one there
pub some_of_leaf : (dims : ℕ) (page : List ℕ) (objects : List Entry) (place : ℕ) (other object : Entry)
    → leaf_at dims page ≡ Some objects → place < length objects → object ≡ leaf_object dims page place
    → ◌≡◌ {A = Option Entry} (Some object) (Some (get_or objects place other))
some_of_leaf dims page objects place other object is lt e =
    ap (λ (x : Entry). Some x) (e ∙ sym (object_of_leaf dims page objects place other is lt))

pub id_of_leaf : (dims : ℕ) (page : List ℕ) (objects : List Entry) (place : ℕ) (other : Entry)
    → leaf_at dims page ≡ Some objects → place < length objects
    → (leaf_object dims page place).0 ≡ (get_or objects place other).0
id_of_leaf dims page objects place other is lt =
    sym (ap (λ (x : Entry). x.0) (object_of_leaf dims page objects place other is lt))

-- a page that spells no leaf
pub no_leaf : (dims : ℕ) (page : List ℕ) → (HasLeafHead dims page → ⊥) → leaf_at dims page ≡ None
no_leaf dims page none = none_read (leaf_at dims page)
    (λ objects is. none (leaf_spells dims page objects is).head)

pub no_object : (dims place : ℕ) (page : List ℕ) → place < number_at 2 2 page
    → (HasOrderedBox dims (leaf_object dims page place) → ⊥) → leaf_at dims page ≡ None
no_object dims place page lt none = none_read (leaf_at dims page)
    (λ objects is. none ((leaf_spells dims page objects is).ordered place lt))

-- a page with its head and these objects
pub leaf_is : (dims : ℕ) (page : List ℕ) (objects : List Entry) → HasLeafHead dims page
    → number_at 2 2 page ≡ length objects
    → ((k : ℕ) → k < length objects → get_or objects k nothing ≡ leaf_object dims page k)
    → ((k : ℕ) → k < length objects → HasOrderedBox dims (leaf_object dims page k))
    → leaf_at dims page ≡ Some objects
leaf_is dims page objects head count each ordered = leaf_spelled dims page objects (record {
  head = head;
  ordered = λ k lt. ordered k (omega (arith, lt, count));
  objects_are = first_places-are (leaf_object dims page) (number_at 2 2 page) objects nothing (sym count)
      (λ k lt. each k (omega (arith, lt, count)));
})

-- a page with its head and boxes in its places
pub leaf_if : (dims : ℕ) (page : List ℕ) → HasLeafHead dims page
    → ((k : ℕ) → k < number_at 2 2 page → HasOrderedBox dims (leaf_object dims page k))
    → IsSome (leaf_at dims page)
leaf_if dims page head ordered =
    let objects = first_places (leaf_object dims page) (number_at 2 2 page) in
    ap is_some
    (leaf_spelled dims page objects (record { head = head; ordered = ordered; objects_are = refl }))

pub none_is_none : (dims : ℕ) (page : List ℕ) → leaf_at dims page ≡ None → IsSome (leaf_at dims page) → ⊥
none_is_none dims page none some = let e : is_some (leaf_at dims page) ≡ false = ap is_some none in cc
