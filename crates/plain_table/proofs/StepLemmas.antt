-- Which refusal of a command comes first.
use Rattle.std.proofs.Common.{◌≡◌, ℕ, ◌<◌, ◌≤◌, ◌+◌, List, Bool, true, false, cond, Some, None, refl, sym, ap}
use Rattle.std.proofs.Common.{◌∙◌, arith}
use Rattle.std.specs.Prelude.{Option, is_some, nat_le, unwrap_or}
use Rattle.std.proofs.lemmas.Bool.Decides.{nat_tests}
use Rattle.std.specs.Cmp.{nat_cmp_total}
use Rattle.std.specs.FinMap.{contains_key, get, len, len-insert}
use Rattle.box_math.specs.Objects.{Object}
use Rattle.plain_table.specs.Commands.Command.{Create, Insert, Get, Count, Range, Nearest}
use Rattle.plain_table.specs.Laws.{none_holds}
use Rattle.plain_table.specs.Step.{first_refusal, missing_refusals, nearest_refusals, object_refusals}
use Rattle.plain_table.specs.Step.{query_refusals, refusal_of}
use Rattle.plain_table.specs.Table.{Table, Layer, is_layer_name, is_dims, is_fanout, object_count}
use Rattle.plain_table.specs.Table.{most_layers, layer_at, most_objects, no_layer, with_object}
use Rattle.plain_table.specs.declared.boxes.RawBox.{RawBox}
use Rattle.plain_table.specs.declared.boxes.RawPoint.{RawPoint}
use Rattle.plain_table.specs.declared.queries.RawQuery.{RawQuery}
use Rattle.plain_table.specs.declared.refusal.Refusal.TheVariants as refusal

module _ (t : Table) (name : List ℕ) (named : is_layer_name name ≡ true) where
  module _ (dims fanout : ℕ) (d : is_dims dims ≡ true) (f : is_fanout fanout ≡ true) where
    pub create_exists : contains_key t name ≡ true
        → refusal_of t (Create name dims fanout) ≡ Some refusal.LayerExists
    create_exists h = rw (named, d, f, h) refl

    pub create_full : contains_key t name ≡ false → most_layers ≤ len t
        → refusal_of t (Create name dims fanout) ≡ Some refusal.TooManyLayers
    create_full h l = let many : nat_le 60 (len t) ≡ true = grind (arith, nat_tests) in
        rw (named, d, f, h, many) refl

    pub create_passes : contains_key t name ≡ false → len t < most_layers
        → refusal_of t (Create name dims fanout) ≡ None
    create_passes h l = let few : nat_le 60 (len t) ≡ false = grind (arith, nat_tests) in
        rw (named, d, f, h, few) refl

  pub insert_missing : (id : ℕ) (box : RawBox) (tag : ℕ) → contains_key t name ≡ false
      → refusal_of t (Insert name id box tag) ≡ Some refusal.NoLayer
  insert_missing id box tag h = rw (named, h) refl

  pub insert_refusal : (id : ℕ) (box : RawBox) (tag : ℕ) (l : Layer) (full : Bool) → get t name ≡ Some l
      → full ≡ nat_le most_objects (object_count t)
      → refusal_of t (Insert name id box tag) ≡ first_refusal (object_refusals l id box full)
  insert_refusal id box tag l full g e = rw (named, g, ← e) refl

  pub get_missing : (id : ℕ) → contains_key t name ≡ false → refusal_of t (Get name id) ≡ Some refusal.NoLayer
  get_missing id h = rw (named, h) refl

  pub get_refusal : (id : ℕ) (l : Layer) → get t name ≡ Some l
      → refusal_of t (Get name id) ≡ first_refusal (missing_refusals l id)
  get_refusal id l g = rw (named, g) refl

  pub count_missing : contains_key t name ≡ false → refusal_of t (Count name) ≡ Some refusal.NoLayer
  count_missing h = rw (named, h) refl

  pub count_passes : (l : Layer) → get t name ≡ Some l → refusal_of t (Count name) ≡ None
  count_passes l g = rw (named, g) refl

  pub range_missing : (query : RawQuery) (tag : Option ℕ) → contains_key t name ≡ false
      → refusal_of t (Range name query tag) ≡ Some refusal.NoLayer
  range_missing query tag h = rw (named, h) refl

  pub range_refusal : (query : RawQuery) (tag : Option ℕ) (l : Layer) → get t name ≡ Some l
      → refusal_of t (Range name query tag) ≡ first_refusal (query_refusals l.dims query)
  range_refusal query tag l g =
      let there : contains_key t name ≡ true = ap is_some g in
      let first : refusal_of t (Range name query tag) ≡ first_refusal
      (query_refusals (layer_at t name).dims query) = rw (named, there) refl in
      first ∙ ap (λ (o : Option Layer). first_refusal (query_refusals (unwrap_or o no_layer).dims query)) g

  pub nearest_missing : (k : ℕ) (point : RawPoint) → contains_key t name ≡ false
      → refusal_of t (Nearest name k point) ≡ Some refusal.NoLayer
  nearest_missing k point h = rw (named, h) refl

  pub nearest_refusal : (k : ℕ) (point : RawPoint) (l : Layer) → get t name ≡ Some l
      → refusal_of t (Nearest name k point) ≡ first_refusal (nearest_refusals l.dims k point)
  nearest_refusal k point l g = rw (named, g) refl

-- an object that is not refused is new, and there is room for it
pub object_passes : (l : Layer) (id : ℕ) (box : RawBox) (full : Bool)
    → first_refusal (object_refusals l id box full) ≡ None
    → (contains_key l.objects id ≡ false) × (full ≡ false)
object_passes l id box full h = let hold = none_holds (object_refusals l id box full) h in
    (hold.1.1.0, hold.1.1.1.0)

pub has_room : (full : Bool) (count : ℕ) → full ≡ nat_le most_objects count → full ≡ false
    → count < most_objects
has_room full count e h = let less : nat_le most_objects count ≡ false = sym e ∙ h in grind (arith, nat_tests)

-- a new object makes one more
pub len-with_object : (l : Layer) (id : ℕ) (object : Object) → contains_key l.objects id ≡ false
    → len (with_object l id object).objects ≡ len l.objects + 1
len-with_object l id object h = len-insert nat_cmp_total l.objects id object
    ∙ ap (λ x. cond x (len l.objects) (len l.objects + 1)) h
