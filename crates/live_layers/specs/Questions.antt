-- What questions ask of a layer, and what they are answered (our rule, docs/COMMANDS.md; the nodes that are
-- looked at: Guttman 1984; Beckmann, Kriegel, Schneider and Seeger 1990; of a join: Brinkhoff, Kriegel and
-- Seeger 1993).
use Rattle.std.specs.Prelude.{ℕ, ◌≡◌, ◌+◌, ◌≤◌, ◌⊎◌, Bool, List, [], ◌∷◌, Option, None, Some, Result, Ok, Err, Vec}
use Rattle.std.specs.Prelude.{IsPermutation, map}
use Rattle.std.specs.FinMap.{entries}
use Rattle.std.specs.List.Sorted.{IsSorted}
use Rattle.box_math.specs.Bounds.{Bounds}
use Rattle.box_math.specs.Objects.{Object}
use Rattle.box_math.specs.Queries.{admits}
use Rattle.id_table.specs.declared.asking.Spot.{Spot}
use Rattle.page_cache.specs.Cache.{looks_of}
use Rattle.plain_table.specs.Answers.{row_of}
use Rattle.plain_table.specs.Loads.{GivenObjects, given_object}
use Rattle.plain_table.specs.Queries.{given_query}
use Rattle.plain_table.specs.Step.{Answer, first_refusal, layer_refusals, range_rows, refused_or}
use Rattle.plain_table.specs.Step.Answer.{Boxes, Refused}
use Rattle.plain_table.specs.Table.{Layer, Table}
use Rattle.plain_table.specs.declared.boxes.AnyBox.{AnyBox}
use Rattle.plain_table.specs.declared.queries.RawQuery.{RawQuery}
use Rattle.plain_table.specs.declared.refusal.Refusal.{Refusal}
use Rattle.spatial_join.specs.Pairs.{near_objects, pair_cmp}
use Rattle.store_law.specs.Lawful.{IsFault, RefusedBy}
use Rattle.tree_node.specs.Trees.{Tree}
use Rattle.live_layers.specs.Keeping.{HasTree}
use Rattle.live_layers.specs.declared.layers.Layers.{Layers}

-- ---- names

-- a layer has this name, so what is asked of it is refused only for what the layer is
abbrev pub IsNamed : Table → List ℕ → Type 0
IsNamed t name = (more : List (Bool × Refusal))
    → first_refusal (layer_refusals t name more) ≡ first_refusal more

-- whatever is asked of this name is refused so: it is none, or no layer has it
abbrev pub IsUnnamed : Table → List ℕ → Refusal → Type 0
IsUnnamed t name why = (more : List (Bool × Refusal)) → first_refusal (layer_refusals t name more) ≡ Some why

-- ---- ranges

-- whether a query looks into a node with this box, in a layer of so many axes
abbrev pub is_admitted : ℕ → RawQuery → Bounds → Bool
is_admitted dims query b = admits {D = dims} (given_query query) b

-- ---- answers

-- the answers that an object that was found, and rows of objects, of a known dimension are
abbrev pub found_answer : ℕ → Result (Spot × Object) Refusal → Answer
found_answer id (Ok found) = Boxes ((id, found.1) ∷ [])
found_answer id (Err r) = Refused r

abbrev pub rows_answer : {A : Type 0} → Result (Vec (ℕ × Object) A) Refusal → Answer
rows_answer (Ok rows) = Boxes rows.items
rows_answer (Err r) = Refused r

-- it is answered so where nothing refuses the question, and else refused so; or a fault refuses it
abbrev pub IsReply : Type 0 → Option Refusal → Answer → Answer → Type 0
IsReply rose why answer a = (a ≡ refused_or why answer) ⊎ RefusedBy (IsFault rose) a

-- What was asked is told so, where none of these conditions refuses it; or it is refused by the first that holds, or
-- by a fault.
abbrev pub IsToldOr : Type 0 → List (Bool × Refusal) → {T : Type 0} → (T → Type 0) → Result T Refusal → Type 0
IsToldOr rose refusals P (Ok x) = (first_refusal refusals ≡ None) × P x
IsToldOr rose refusals P (Err r) = (first_refusal refusals ≡ Some r) ⊎ IsFault rose r

-- the rows are those that a query is answered, in any order
abbrev pub HasRows : {A : Type 0} → Layer → RawQuery → Option ℕ → Vec (ℕ × AnyBox × ℕ) A → Type 0
HasRows layer query tag rows = IsPermutation (range_rows layer query tag) (map row_of rows.items)

-- ---- joins

-- all pairs of one of the given objects and an object of a layer whose boxes have at most this squared distance: their
-- identifiers, ascending by the first and then by the second
pub record HasPairs {A : Type 0} (given : GivenObjects) (layer : Layer) (within : ℕ) (pairs : Vec (ℕ × ℕ) A)
    : Type 0 where
  pub all : IsPermutation
      (near_objects layer.dims within (map given_object given) (entries layer.objects)) pairs.items
  pub order : IsSorted pair_cmp pairs.items

-- the looks rose by at most what is counted of the tree of the layer of this name
pub record LooksAtMost {D A : Type 0} {m : _} (old new : Layers D A m) (name : List ℕ) (count : Tree → ℕ)
    : Type 0 where
  pub tree : Tree
  pub is_tree : HasTree old name tree
  pub looks : looks_of new.cache ≤ looks_of old.cache + count tree

-- the looks rose by at most what is counted of the trees of the layers of these names
pub record LooksAtTrees {D A : Type 0} {m : _} (old new : Layers D A m) (first second : List ℕ)
    (count : Tree → Tree → ℕ) : Type 0 where
  pub tree : Tree
  pub other : Tree
  pub is_tree : HasTree old first tree
  pub is_other : HasTree old second other
  pub looks : looks_of new.cache ≤ looks_of old.cache + count tree other
