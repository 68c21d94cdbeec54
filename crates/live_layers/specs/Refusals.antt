-- The conditions under which layers refuse a command, whether they are sound or not: those of the plain table, by
-- the records, and by what the pages told (our rule, docs/COMMANDS.md, "Refusals").
use Rattle.std.specs.Prelude.{ℕ, ◌≡◌, ◌⊎◌, ◌-◌, ◌&&◌, ◌==◌, Bool, false, true, not, nat_le, nat_lt, List, [], ◌∷◌}
use Rattle.std.specs.Prelude.{length, Option, Some, None, is_some, unwrap_or, Result, Ok, Err, slice_index_or}
use Rattle.std.specs.Cmp.Lexicographic.{slice_cmp}
use Rattle.std.specs.FinMap.{contains_key}
use Rattle.std.specs.FinMap.Entries.{by_order}
use Rattle.std.specs.Ordering.{nat_cmp}
use Rattle.catalog_page.specs.Layout.{Record}
use Rattle.plain_table.specs.Commands.{Command}
use Rattle.plain_table.specs.Commands.Command.{Create, Insert, Load, Move, Delete, Drop, Get, Count, Range}
use Rattle.plain_table.specs.Commands.Command.{Nearest, Join, Layers as ListLayers, Dump, Check, Reopen}
use Rattle.plain_table.specs.Loads.{GivenObjects, are_ordered, have_dims, ids_of, least_repeated}
use Rattle.plain_table.specs.Refusals.{refusal_number}
use Rattle.plain_table.specs.Step.{box_refusals, first_refusal, nearest_refusals, query_refusals}
use Rattle.plain_table.specs.Table.{Table, is_dims, is_fanout, is_layer_name, layer_at, most_layers}
use Rattle.plain_table.specs.Table.{most_objects}
use Rattle.plain_table.specs.declared.boxes.RawBox.{RawBox}
use Rattle.plain_table.specs.declared.refusal.Refusal.{Refusal}
use Rattle.plain_table.specs.declared.refusal.Refusal.TheVariants as refusal
use Rattle.store_law.specs.Stops.{is_end}
use Rattle.live_layers.specs.Keeping.{count_in, records_in}
use Rattle.live_layers.specs.declared.layers.Layers.{Layers}
use Rattle.live_layers.specs.declared.unmade.Unmade.{Unmade}
use Rattle.live_layers.specs.declared.unmade.Unmade.TheVariants as unmade

-- ---- names

-- the record of a name, which is sought among records in the order of their names, up to the first greater one
abbrev pub record_named : List Record → List ℕ → Option Record
record_named [] name = None
record_named (r ∷ rs) name = by_order (slice_cmp nat_cmp name r.name) None (Some r) (record_named rs name)

abbrev pub is_recorded : List Record → List ℕ → Bool
is_recorded records name = is_some (record_named records name)

-- what is taken for the record where there is none
abbrev pub no_record : Record
no_record = record { name = []; dims = 0; fanout = 0; level = 0; root = 0; ids_root = 0; count = 0 }

abbrev pub record_at : List Record → List ℕ → Record
record_at records name = unwrap_or (record_named records name) no_record

-- ---- conditions

-- a name that is none, or that no record has, before further refusals
abbrev pub named_refusals : List Record → List ℕ → List (Bool × Refusal) → List (Bool × Refusal)
named_refusals records name more =
    (not (is_layer_name name), refusal.BadName) ∷ (not (is_recorded records name), refusal.NoLayer) ∷ more

-- an object of a layer with so many axes whose box is refused, that was found, or for which there is no room
abbrev pub found_refusals : ℕ → RawBox → Bool → Bool → List (Bool × Refusal)
found_refusals dims box is_full found =
    box_refusals dims box ((found, refusal.Duplicate) ∷ (is_full, refusal.TooManyObjects) ∷ [])

-- an object that was not found
abbrev pub lost_refusals : Bool → List (Bool × Refusal)
lost_refusals found = (not found, refusal.NoObject) ∷ []

-- objects of which some box has another number of axes, or a low above its high, before further refusals
abbrev pub given_refusals : ℕ → GivenObjects → List (Bool × Refusal) → List (Bool × Refusal)
given_refusals dims objects more =
    (not (have_dims dims objects), refusal.WrongDims) ∷ (not (are_ordered objects), refusal.BadBox) ∷ more

-- A load into a layer that has so many objects, beside so many of all layers: with an identifier twice, of which
-- the least is named, or of more than there is room for.
abbrev pub ids_refusals : ℕ → GivenObjects → ℕ → List (Bool × Refusal)
ids_refusals held objects count =
    (nat_lt 0 held, refusal.NotEmpty)
    ∷ (
      is_some (least_repeated (ids_of objects)),
      refusal.DuplicateInLoad (unwrap_or (least_repeated (ids_of objects)) 0),
    )
    ∷ (nat_lt (most_objects - count) (length objects), refusal.TooManyObjects) ∷ []

-- two names of which one is none, or one that no record has, or of layers with different numbers of axes
abbrev pub pair_refusals : List Record → List ℕ → List ℕ → List (Bool × Refusal)
pair_refusals records first second =
    (not (is_layer_name first && is_layer_name second), refusal.BadName)
    ∷ (not (is_recorded records first && is_recorded records second), refusal.NoLayer)
    ∷ (not ((record_at records first).dims == (record_at records second).dims), refusal.DimsDiffer) ∷ []

-- The refusals of a command in the order in which they are tried, by the records, by how many objects all layers
-- have, and by whether the pages told of an object of the identifier.
abbrev pub refusals_by : List Record → ℕ → Command → Bool → List (Bool × Refusal)
refusals_by records count (Create name dims fanout) found =
    (not (is_layer_name name), refusal.BadName) ∷ (not (is_dims dims), refusal.BadDims)
    ∷ (not (is_fanout fanout), refusal.BadFanout) ∷ (is_recorded records name, refusal.LayerExists)
    ∷ (nat_le most_layers (length records), refusal.TooManyLayers) ∷ []
refusals_by records count (Insert name id box tag) found =
    named_refusals records name
    (found_refusals (record_at records name).dims box (nat_le most_objects count) found)
refusals_by records count (Load name objects) found =
    named_refusals records name
    (given_refusals (record_at records name).dims objects
    (ids_refusals (record_at records name).count objects count))
refusals_by records count (Move name id box) found =
    named_refusals records name (box_refusals (record_at records name).dims box (lost_refusals found))
refusals_by records count (Delete name id) found = named_refusals records name (lost_refusals found)
refusals_by records count (Drop name) found = named_refusals records name []
refusals_by records count (Get name id) found = named_refusals records name (lost_refusals found)
refusals_by records count (Count name) found = named_refusals records name []
refusals_by records count (Range name query tag) found =
    named_refusals records name (query_refusals (record_at records name).dims query)
refusals_by records count (Nearest name k point) found =
    named_refusals records name (nearest_refusals (record_at records name).dims k point)
refusals_by records count (Join first second within) found = pair_refusals records first second
refusals_by records count ListLayers found = []
refusals_by records count Dump found = []
refusals_by records count Check found = []
refusals_by records count Reopen found = []

-- of these layers
abbrev pub refusals_in : {D A : Type 0} {m : _} → Layers D A m → Command → Bool → List (Bool × Refusal)
refusals_in kept c found = refusals_by (records_in kept) (count_in kept) c found

-- whether the table has an object of the identifier that a command names, if it names one
abbrev pub has_object_of : Table → Command → Bool
has_object_of t (Insert name id box tag) = contains_key (layer_at t name).objects id
has_object_of t (Move name id box) = contains_key (layer_at t name).objects id
has_object_of t (Delete name id) = contains_key (layer_at t name).objects id
has_object_of t (Get name id) = contains_key (layer_at t name).objects id
has_object_of t c = false

-- ---- in turn

-- no condition holds, by what the pages told
abbrev pub Passes : (Bool → List (Bool × Refusal)) → Type 0
Passes conditions = (found : Bool) × (first_refusal (conditions found) ≡ None)

-- this is the refusal of the first one that holds
abbrev pub Refuses : (Bool → List (Bool × Refusal)) → Refusal → Type 0
Refuses conditions r = (found : Bool) × (first_refusal (conditions found) ≡ Some r)

-- the refusal is that of no condition, but want of memory or one with a greater number; and it is not that of a store
-- that failed
abbrev pub IsOfNone : Refusal → Type 0
IsOfNone r = (nat_le 16 (refusal_number r) ≡ true) × (is_end r ≡ false)

-- What was asked is refused by the first condition that holds, or by none; and what is answered, by none.
abbrev pub IsTried : {T : Type 0} → (Bool → List (Bool × Refusal)) → Result T Refusal → Type 0
IsTried conditions (Ok x) = Passes conditions
IsTried conditions (Err r) = Refuses conditions r ⊎ IsOfNone r

-- The same of a change; no condition holds of one that broke off half way.
abbrev pub IsTriedChange : (Bool → List (Bool × Refusal)) → Result (Unit {0}) Unmade → Type 0
IsTriedChange conditions (Ok u) = Passes conditions
IsTriedChange conditions (Err (unmade.Refused r)) = Refuses conditions r ⊎ IsOfNone r
IsTriedChange conditions (Err (unmade.Broken f)) = Passes conditions

-- the name is one, and the record at this place is its
pub record IsRecordedAt {D A : Type 0} {m : _} (kept : Layers D A m) (name : List ℕ) (place : ℕ)
    : Type 0 where
  pub passes : (more : List (Bool × Refusal))
      → first_refusal (named_refusals (records_in kept) name more) ≡ first_refusal more
  pub recorded : (d : Record) → record_at (records_in kept) name ≡ slice_index_or (records_in kept) place d

-- whatever is asked of this name is refused so: it is none, or no record has it
abbrev pub IsUnrecorded : {D A : Type 0} {m : _} → Layers D A m → List ℕ → Refusal → Type 0
IsUnrecorded kept name why = (more : List (Bool × Refusal))
    → first_refusal (named_refusals (records_in kept) name more) ≡ Some why
