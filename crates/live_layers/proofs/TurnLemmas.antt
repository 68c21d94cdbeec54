-- The order of refusals of a layer that was found by its record, or not.
use Rattle.std.proofs.Common.{◌≡◌, ◌∙◌, ℕ, List, [], ◌∷◌, map, Bool, true, false, not, ◌⊎◌, inl, inr, refl, sym, ap}
use Rattle.std.proofs.Common.{length, arith}
use Rattle.std.specs.Prelude.{Option, Some, None, nat_le, ◌==◌, slice_index_or, unwrap_or}
use Rattle.std.proofs.lemmas.List.{length-map}
use Rattle.box_math.specs.Objects.{Object}
use Rattle.catalog_page.specs.Layout.{Record}
use Rattle.id_words.proofs.EntryLemmas.{as_many_listed}
use Rattle.id_words.specs.Objects.{pairs_in}
use Rattle.plain_table.specs.Boxes.{point_dims}
use Rattle.plain_table.specs.Commands.Command.{Count, Delete, Drop, Get, Insert, Load, Move, Nearest, Range}
use Rattle.plain_table.specs.Laws.{none_holds}
use Rattle.plain_table.specs.Loads.{GivenObjects, are_ordered, given_object, have_dims, ids_of, least_repeated}
use Rattle.plain_table.specs.Nearest.{is_count}
use Rattle.plain_table.specs.Step.{box_refusals, first_refusal, nearest_refusals, query_refusals}
use Rattle.plain_table.specs.Table.{most_objects}
use Rattle.plain_table.specs.declared.boxes.RawBox.{RawBox}
use Rattle.plain_table.specs.declared.boxes.RawPoint.{RawPoint}
use Rattle.plain_table.specs.declared.queries.RawQuery.{RawQuery}
use Rattle.plain_table.specs.declared.refusal.Refusal.{Refusal}
use Rattle.plain_table.specs.declared.refusal.Refusal.TheVariants as refusal
use Rattle.store_law.specs.Lawful.{IsFault}
use Rattle.tree_node.specs.declared.node.Entry.{Entry}
use Rattle.live_layers.specs.Keeping.{count_in, records_in}
use Rattle.live_layers.specs.Loading.{boxes_refusals}
use Rattle.live_layers.specs.Located.{IsRecorded, Whereabouts}
use Rattle.live_layers.specs.Refusals.{IsOfNone, IsRecordedAt, IsUnrecorded, Refuses, found_refusals}
use Rattle.live_layers.specs.Refusals.{given_refusals, ids_refusals, lost_refusals, no_record, record_at}
use Rattle.live_layers.specs.Refusals.{record_named, refusals_in}
use Rattle.live_layers.specs.declared.layers.Layers.{Layers}
use Rattle.live_layers.specs.declared.located.Located.{Located}
use Rattle.live_layers.proofs.LoadLemmas.{first_of, same_ids}
use Rattle.live_layers.proofs.RefusalLemmas.{memory_of_none}

-- ---- no layer was found

module _ {D A : Type 0} {m : _} (kept : Layers D A m) (name : List ℕ) (r : Refusal)
    (so : IsUnrecorded kept name r) where
  pub insert_unrecorded : (id : ℕ) (box : RawBox) (tag : ℕ)
      → Refuses (refusals_in kept (Insert name id box tag)) r
  insert_unrecorded id box tag = (
    false,
    so (found_refusals (record_at (records_in kept) name).dims box (nat_le most_objects (count_in kept)) false),
  )

  pub load_unrecorded : (objects : GivenObjects) → Refuses (refusals_in kept (Load name objects)) r
  load_unrecorded objects = (
    false,
    so (given_refusals (record_at (records_in kept) name).dims objects
        (ids_refusals (record_at (records_in kept) name).count objects (count_in kept))),
  )

  pub move_unrecorded : (id : ℕ) (box : RawBox) → Refuses (refusals_in kept (Move name id box)) r
  move_unrecorded id box =
      (false, so (box_refusals (record_at (records_in kept) name).dims box (lost_refusals false)))

  pub delete_unrecorded : (id : ℕ) → Refuses (refusals_in kept (Delete name id)) r
  delete_unrecorded id = (false, so (lost_refusals false))

  pub get_unrecorded : (id : ℕ) → Refuses (refusals_in kept (Get name id)) r
  get_unrecorded id = (false, so (lost_refusals false))

  pub drop_unrecorded : Refuses (refusals_in kept (Drop name)) r
  drop_unrecorded = (false, so [])

  pub count_unrecorded : Refuses (refusals_in kept (Count name)) r
  count_unrecorded = (false, so [])

  pub range_unrecorded : (query : RawQuery) (tag : Option ℕ) → Refuses (refusals_in kept (Range name query tag)) r
  range_unrecorded query tag = (false, so (query_refusals (record_at (records_in kept) name).dims query))

  pub nearest_unrecorded : (k : ℕ) (point : RawPoint) → Refuses (refusals_in kept (Nearest name k point)) r
  nearest_unrecorded k point =
      (false, so (nearest_refusals (record_at (records_in kept) name).dims k point))

-- ---- a layer was found

-- it was located with the axes of its record
dims_located : {D A : Type 0} {m : _} (kept : Layers D A m) (name : List ℕ) (place : ℕ) (there : Located)
    → record_at (records_in kept) name ≡ slice_index_or (records_in kept) place no_record
    → IsRecorded kept place there → (record_at (records_in kept) name).dims ≡ there.dims
dims_located kept name place there is by_record =
    ap (λ (r : Record). r.dims) is ∙ sym (ap (λ (w : Whereabouts). w.dims) (by_record no_record))

pub dims_found : {D A : Type 0} {m : _} (kept : Layers D A m) (name : List ℕ) (place : ℕ) (there : Located)
    → record_named (records_in kept) name ≡ Some (slice_index_or (records_in kept) place no_record)
    → IsRecorded kept place there → (record_at (records_in kept) name).dims ≡ there.dims
dims_found kept name place there is by_record =
    dims_located kept name place there (ap (λ (o : Option Record). unwrap_or o no_record) is) by_record

module _ {D A : Type 0} {m : _} (kept : Layers D A m) (name : List ℕ) (place : ℕ)
    (its : IsRecordedAt kept name place) where
  -- with the axes with which it was located
  module _ (there : Located) (by_record : IsRecorded kept place there) where
    pub dims_there : (record_at (records_in kept) name).dims ≡ there.dims
    dims_there = dims_located kept name place there (its.recorded no_record) by_record

    pub insert_there : (id : ℕ) (box : RawBox) (tag : ℕ) (found : Bool)
        → first_refusal (refusals_in kept (Insert name id box tag) found) ≡ first_refusal
        (found_refusals there.dims box (nat_le most_objects (count_in kept)) found)
    insert_there id box tag found =
        its.passes
        (found_refusals (record_at (records_in kept) name).dims box (nat_le most_objects (count_in kept)) found)
        ∙ ap (λ (dims : ℕ). first_refusal
        (found_refusals dims box (nat_le most_objects (count_in kept)) found)) dims_there

    pub move_there : (id : ℕ) (box : RawBox) (found : Bool)
        → first_refusal (refusals_in kept (Move name id box) found) ≡ first_refusal
        (box_refusals there.dims box (lost_refusals found))
    move_there id box found =
        its.passes (box_refusals (record_at (records_in kept) name).dims box (lost_refusals found))
        ∙ ap (λ (dims : ℕ). first_refusal (box_refusals dims box (lost_refusals found))) dims_there

    pub range_there : (query : RawQuery) (tag : Option ℕ) (dims : ℕ) → there.dims ≡ dims → (found : Bool)
        → first_refusal (refusals_in kept (Range name query tag) found) ≡ first_refusal
        (query_refusals dims query)
    range_there query tag dims is found =
        its.passes (query_refusals (record_at (records_in kept) name).dims query)
        ∙ ap (λ (d : ℕ). first_refusal (query_refusals d query)) (dims_there ∙ is)

    pub nearest_there : (k : ℕ) (point : RawPoint) (found : Bool)
        → first_refusal (refusals_in kept (Nearest name k point) found) ≡ first_refusal
        ((not (point_dims point == there.dims), refusal.WrongDims)
        ∷ (not (is_count k), refusal.BadCount) ∷ [])
    nearest_there k point found =
        its.passes (nearest_refusals (record_at (records_in kept) name).dims k point)
        ∙ ap (λ (d : ℕ). first_refusal (nearest_refusals d k point)) dims_there

  pub delete_there : (id : ℕ) (found : Bool)
      → first_refusal (refusals_in kept (Delete name id) found) ≡ first_refusal (lost_refusals found)
  delete_there id found = its.passes (lost_refusals found)

  pub get_there : (id : ℕ) (found : Bool)
      → first_refusal (refusals_in kept (Get name id) found) ≡ first_refusal (lost_refusals found)
  get_there id found = its.passes (lost_refusals found)

  -- ---- loads

  pub given_refused : (objects : GivenObjects) (dims : ℕ) → (record_at (records_in kept) name).dims ≡ dims
      → (r : Refusal) → (first_refusal (boxes_refusals dims objects) ≡ Some r) ⊎ IsFault ⊥ r
      → Refuses (refusals_in kept (Load name objects)) r ⊎ IsOfNone r
  given_refused objects dims axes r (inl is) =
      let more = ids_refusals (record_at (records_in kept) name).count objects (count_in kept) in
      inl (
        false,
        its.passes (given_refusals (record_at (records_in kept) name).dims objects more)
            ∙ ap (λ (d : ℕ). first_refusal (given_refusals d objects more)) axes
            ∙ first_of (not (have_dims dims objects)) (not (are_ordered objects)) more r is,
      )
  given_refused objects dims axes r (inr want) = inr (memory_of_none r want)

  pub load_there : (objects : GivenObjects)
      → have_dims (record_at (records_in kept) name).dims objects ≡ true → are_ordered objects ≡ true
      → (found : Bool)
      → first_refusal (refusals_in kept (Load name objects) found) ≡ first_refusal
      (ids_refusals (slice_index_or (records_in kept) place no_record).count objects (count_in kept))
  load_there objects wide ordered found =
      let more = ids_refusals (record_at (records_in kept) name).count objects (count_in kept) in
      its.passes (given_refusals (record_at (records_in kept) name).dims objects more)
      ∙ given_pass (record_at (records_in kept) name).dims more wide
      ∙ ap (λ (r : Record). first_refusal (ids_refusals r.count objects (count_in kept)))
      (its.recorded no_record)
    where
      given_pass : (dims : ℕ) (more : List (Bool × Refusal)) → have_dims dims objects ≡ true
          → first_refusal (given_refusals dims objects more) ≡ first_refusal more
      given_pass dims more e = rw (e, ordered) refl

-- objects that were lent as they were given are of the axes, and no low is above its high, where nothing refuses
-- them
pub given_good : (dims its : ℕ) (given lent : GivenObjects) → its ≡ dims → lent ≡ given
    → first_refusal (boxes_refusals dims lent) ≡ None
    → (have_dims its given ≡ true) × (are_ordered given ≡ true)
given_good dims its given lent axes is none =
    let hold = none_holds (boxes_refusals dims lent) none in (
      ap (λ (d : ℕ). have_dims d given) axes ∙ ap (λ (os : GivenObjects). have_dims dims os) (sym is)
          ∙ no_more (have_dims dims lent) hold.0,
      ap are_ordered (sym is) ∙ no_more (are_ordered lent) hold.1.0,
    )
  where
    no_more : (b : Bool) → not b ≡ false → b ≡ true
    no_more true e = refl
    no_more false e = absurd (cc)

-- entries of leaves that are the objects given have their identifiers, and are as many
pub ids_listed_as : {D : ℕ} (entries : List (Entry D)) (given : GivenObjects)
    → pairs_in entries ≡ map given_object given
    → least_repeated (map (λ (o : ℕ × Object). o.0) (pairs_in entries)) ≡ least_repeated (ids_of given)
ids_listed_as entries given is =
    ap least_repeated (ap (map (λ (o : ℕ × Object). o.0)) is ∙ same_ids given)

pub as_many_given : {D : ℕ} (entries : List (Entry D)) (given : GivenObjects)
    → pairs_in entries ≡ map given_object given → length given ≡ length entries
as_many_given entries given is =
    omega (arith, as_many_listed entries, ap length is, length-map given given_object)
