-- Loads whose layer was found.
use Rattle.std.specs.Prelude.{ℕ, ◌≡◌, ◌<◌, ◌≤◌, ◌==◌, Bool, true, not, List, [], ◌∷◌, map, Option, None, Some}
use Rattle.std.specs.Prelude.{count_by}
use Rattle.box_math.specs.Objects.{Object}
use Rattle.plain_table.specs.Loads.{GivenObjects, are_ordered, given_object, have_dims}
use Rattle.plain_table.specs.Table.{Table, is_layer_name, layer_at}
use Rattle.plain_table.specs.declared.refusal.Refusal.{Refusal}
use Rattle.plain_table.specs.declared.refusal.Refusal.TheVariants as refusal
use Rattle.live_layers.specs.Keeping.{Finds}

-- how often a number stands in a list
abbrev pub times_in : ℕ → List ℕ → ℕ
times_in id ids = count_by (λ other. other == id) ids

-- no number stands twice in the list, or this one does and none below it
abbrev pub IsLeastTwice : List ℕ → Option ℕ → Type 0
IsLeastTwice ids None = (id : ℕ) → times_in id ids ≤ 1
IsLeastTwice ids (Some least) = (1 < times_in least ids) × ((id : ℕ) → 1 < times_in id ids → least ≤ id)

-- objects of which some box has another number of axes, or a low above its high
abbrev pub boxes_refusals : ℕ → GivenObjects → List (Bool × Refusal)
boxes_refusals dims objects =
    (not (have_dims dims objects), refusal.WrongDims) ∷ (not (are_ordered objects), refusal.BadBox) ∷ []

-- the layer of a good name stands at the place, and has so many axes
pub record NamesLayer (t : Table) (name : List ℕ) (place dims : ℕ) : Type 0 where
  pub good : is_layer_name name ≡ true
  pub finds : Finds t name place
  pub axes : (layer_at t name).dims ≡ dims

-- the layer of a good name stands at the place, and the objects have its axes, no low above its high, and
-- these boxes and tags
pub record ReachesObjects (t : Table) (name : List ℕ) (place : ℕ) (given : GivenObjects) (dims : ℕ)
    (objects : List (ℕ × Object)) : Type 0 where
  pub good : is_layer_name name ≡ true
  pub finds : Finds t name place
  pub axes : (layer_at t name).dims ≡ dims
  pub right : have_dims dims given ≡ true
  pub ordered : are_ordered given ≡ true
  pub objects_are : objects ≡ map given_object given
