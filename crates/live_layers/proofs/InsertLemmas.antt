-- Why an insertion is refused, and what one that is not does to the table.
use Rattle.std.proofs.Common.{◌≡◌, ◌∙◌, ℕ, ◌+◌, ◌<◌, ◌≤◌, List, true, false, Bool, Option, Some, None, refl}
use Rattle.std.proofs.Common.{sym, ap, arith}
use Rattle.std.specs.Prelude.{nat_le, ◌==◌, unwrap_or}
use Rattle.std.proofs.lemmas.Bool.Decides.{nat_tests}
use Rattle.std.specs.FinMap.{contains_key, get, get-entries, insert as map_insert}
use Rattle.box_math.specs.Bounds.{Bounds}
use Rattle.box_math.specs.Objects.{Object}
use Rattle.plain_table.specs.Boxes.{dims_of, given_bounds, is_ordered}
use Rattle.plain_table.specs.Commands.Command.{Insert}
use Rattle.plain_table.specs.Step.{after, changed, first_refusal, kept_or, object_refusals, refusal_of}
use Rattle.plain_table.specs.Table.{Layer, Table, is_layer_name, layer_at, most_objects, no_layer}
use Rattle.plain_table.specs.Table.{object_count, with_object}
use Rattle.plain_table.specs.declared.boxes.RawBox.{RawBox}
use Rattle.plain_table.specs.declared.refusal.Refusal.TheVariants as refusal
use Rattle.plain_table.proofs.StepLemmas.{insert_refusal, len-with_object}
use Rattle.live_layers.specs.Inserting.{ReachesBox}
use Rattle.live_layers.specs.Keeping.{Finds}
use Rattle.live_layers.proofs.ReplaceLemmas.{count_replaced}

pub bad_name : (t : Table) (name : List ℕ) (id : ℕ) (box : RawBox) (tag : ℕ) → is_layer_name name ≡ false
    → refusal_of t (Insert name id box tag) ≡ Some refusal.BadName
bad_name t name id box tag e = rw e refl

-- ---- objects

module _ (layer : Layer) (id : ℕ) (box : RawBox) (full : Bool) where
  pub wrong_dims : (dims_of box == layer.dims) ≡ false
      → first_refusal (object_refusals layer id box full) ≡ Some refusal.WrongDims
  wrong_dims e = rw e refl

  pub bad_box : (dims_of box == layer.dims) ≡ true → is_ordered (dims_of box) (given_bounds box) ≡ false
      → first_refusal (object_refusals layer id box full) ≡ Some refusal.BadBox
  bad_box e f = rw (e, f) refl

  pub duplicate : (dims_of box == layer.dims) ≡ true → is_ordered (dims_of box) (given_bounds box) ≡ true
      → contains_key layer.objects id ≡ true
      → first_refusal (object_refusals layer id box full) ≡ Some refusal.Duplicate
  duplicate e f has = rw (e, f, has) refl

  pub too_many : (dims_of box == layer.dims) ≡ true → is_ordered (dims_of box) (given_bounds box) ≡ true
      → contains_key layer.objects id ≡ false → full ≡ true
      → first_refusal (object_refusals layer id box full) ≡ Some refusal.TooManyObjects
  too_many e f new is = rw (e, f, new, is) refl

  pub none_refuses : (dims_of box == layer.dims) ≡ true → is_ordered (dims_of box) (given_bounds box) ≡ true
      → contains_key layer.objects id ≡ false → full ≡ false
      → first_refusal (object_refusals layer id box full) ≡ None
  none_refuses e f new is = rw (e, f, new, is) refl

  -- a box that is not refused has the dimension of the layer
  pub its_dims : first_refusal (object_refusals layer id box full) ≡ None → layer.dims ≡ dims_of box
  its_dims none = case (dims_of box == layer.dims) refl
    where
      case : (b : Bool) → (dims_of box == layer.dims) ≡ b → layer.dims ≡ dims_of box
      case true e = grind (arith, nat_tests)
      case false e = absurd (let no : Some refusal.WrongDims ≡ None = sym (wrong_dims e) ∙ none in cc)

pub full_so : (a b c : ℕ) → b ≤ a → a ≡ c → nat_le b c ≡ true
full_so a b c le e = grind (arith, nat_tests)

pub room_so : (a b c : ℕ) → a < b → a ≡ c → nat_le b c ≡ false
room_so a b c lt e = grind (arith, nat_tests)

-- ---- the table

-- an object that is new makes one more
pub one_more_object : (t : Table) (name : List ℕ) (place : ℕ) → Finds t name place → (id : ℕ) (o : Object)
    → contains_key (layer_at t name).objects id ≡ false
    → object_count (map_insert t name (with_object (layer_at t name) id o)) ≡ object_count t + 1
one_more_object t name place finds id o absent =
    omega (
      arith,
      count_replaced t name place finds (with_object (layer_at t name) id o),
      len-with_object (layer_at t name) id o absent,
    )

module _ (t : Table) (name : List ℕ) (place : ℕ) (id : ℕ) (box : RawBox) (tag dims : ℕ) (bounds : Bounds)
    (reaches : ReachesBox t name place box dims bounds) where
  there : get t name ≡ Some (layer_at t name)
  there =
      let found = get-entries t name ∙ reaches.finds.stands.found (name, no_layer) in
      found ∙ ap (λ (l : Layer). Some l) (ap (λ (o : Option Layer). unwrap_or o no_layer) (sym found))

  pub as_object : refusal_of t (Insert name id box tag) ≡ first_refusal
      (object_refusals (layer_at t name) id box (nat_le most_objects (object_count t)))
  as_object =
      insert_refusal t name reaches.good id box tag (layer_at t name) (nat_le most_objects (object_count t))
      there refl

  pub it_grows : refusal_of t (Insert name id box tag) ≡ None
      → contains_key (layer_at t name).objects id ≡ false → ¬ (after t (Insert name id box tag) ≡ t)
  it_grows none absent = λ same.
      let then : after t (Insert name id box tag) ≡ map_insert t name
      (with_object (layer_at t name) id (given_bounds box, tag)) =
      ap (λ o. kept_or o t (changed t (Insert name id box tag))) none in
      omega (
        arith,
        ap object_count (sym then ∙ same),
        one_more_object t name place reaches.finds id (given_bounds box, tag) absent,
      )
