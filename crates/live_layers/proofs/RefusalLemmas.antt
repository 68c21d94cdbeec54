-- Refusals in their order, in layers that need not be sound.
use Rattle.std.proofs.Common.{◌≡◌, ◌∙◌, ℕ, zero, suc, ◌<◌, ◌≤◌, List, [], ◌∷◌, length, get_or, map, Bool, true}
use Rattle.std.proofs.Common.{false, cond, not, ◌⊎◌, inl, inr, refl, sym, ap, subst, arith}
use Rattle.std.specs.Prelude.{Option, Some, None, is_some, nat_le, nat_lt, ◌==◌, ◌-◌}
use Rattle.std.specs.Prelude.{Result, Ok, Err, IfErr, IsErrAnd}
use Rattle.std.proofs.lemmas.Bool.Decides.{nat_tests}
use Rattle.std.specs.Cmp.Lexicographic.{slice_cmp}
use Rattle.std.specs.FinMap.Entries.{by_order}
use Rattle.std.specs.Ordering.{nat_cmp}
use Rattle.std.specs.declared.cmp.Ordering.{Ordering}
use Rattle.std.specs.declared.cmp.Ordering.TheVariants.{Less, Equal, Greater}
use Rattle.catalog_page.specs.Layout.{Record, record_of}
use Rattle.catalog_page.specs.declared.layer_record.LayerRecord.{LayerRecord}
use Rattle.page_file.specs.declared.fault.Fault.{Fault}
use Rattle.page_file.specs.declared.fault.Fault.TheVariants as fault
use Rattle.plain_table.specs.Boxes.{dims_of, given_bounds, is_ordered}
use Rattle.plain_table.specs.Commands.Command.{Create, Join}
use Rattle.plain_table.specs.Loads.{GivenObjects, ids_of, least_repeated}
use Rattle.plain_table.specs.Nearest.{is_count}
use Rattle.plain_table.specs.Step.{box_refusals, first_refusal}
use Rattle.plain_table.specs.Table.{is_dims, is_fanout, is_layer_name, most_layers, most_objects}
use Rattle.plain_table.specs.declared.boxes.RawBox.{RawBox}
use Rattle.plain_table.specs.declared.refusal.Refusal.{Refusal}
use Rattle.plain_table.specs.declared.refusal.Refusal.TheVariants as refusal
use Rattle.store_law.specs.Lawful.{IsFault}
use Rattle.live_layers.specs.Faults.{as_refusal, change_of}
use Rattle.live_layers.specs.Refusals.{IsOfNone, IsTried, IsTriedChange, Passes, Refuses}
use Rattle.live_layers.specs.Refusals.{found_refusals, ids_refusals, is_recorded}
use Rattle.live_layers.specs.Refusals.{named_refusals, record_at, record_named, refusals_by}
use Rattle.live_layers.specs.declared.broken.Broken.{Broken}
use Rattle.live_layers.specs.declared.unmade.Unmade.{Unmade}
use Rattle.live_layers.specs.declared.unmade.Unmade.TheVariants as unmade

-- ---- the record of a name

module _ (name : List ℕ) where
  -- what is found behind a record, by how the name compares with its
  abbrev step : LayerRecord → List LayerRecord → Ordering → Option Record
  step r rs o = by_order o None (Some (record_of r)) (record_named (map record_of rs) name)

  -- it is the one at a place that ties, where each before it is less
  pub recorded_at : (items : List LayerRecord) (i : ℕ) → i < length items
      → ((k : ℕ) (d : LayerRecord) → k < i → slice_cmp nat_cmp name (get_or items k d).name.items ≡ Greater)
      → ((d : LayerRecord) → slice_cmp nat_cmp name (get_or items i d).name.items ≡ Equal)
      → (d : Record) → record_named (map record_of items) name ≡ Some (get_or (map record_of items) i d)
  recorded_at [] i within ahead tie d = absurd (omega (arith, within))
  recorded_at (r ∷ rs) zero within ahead tie d = ap (step r rs) (tie r)
  recorded_at (r ∷ rs) (suc i) within ahead tie d = ap (step r rs) (ahead 0 r (omega arith))
      ∙ recorded_at rs i (omega (arith, within)) (λ k e low. ahead (suc k) e (omega (arith, low))) tie d

  -- and there is none where each before a place is less, and the one there is greater
  pub unrecorded_at : (items : List LayerRecord) (i : ℕ) → i ≤ length items
      → ((k : ℕ) (d : LayerRecord) → k < i → slice_cmp nat_cmp name (get_or items k d).name.items ≡ Greater)
      → ((d : LayerRecord) → i < length items
      → slice_cmp nat_cmp name (get_or items i d).name.items ≡ Less)
      → record_named (map record_of items) name ≡ None
  unrecorded_at [] i le above below = refl
  unrecorded_at (r ∷ rs) zero le above below = ap (step r rs) (below r (omega arith))
  unrecorded_at (r ∷ rs) (suc i) le above below = ap (step r rs) (above 0 r (omega arith))
      ∙ unrecorded_at rs i (omega (arith, le)) (λ k d low. above (suc k) d (omega (arith, low)))
      (λ d lt. below d (omega (arith, lt)))

module _ (records : List Record) (name : List ℕ) where
  pub not_a_name : is_layer_name name ≡ false → (more : List (Bool × Refusal))
      → first_refusal (named_refusals records name more) ≡ Some refusal.BadName
  not_a_name e more = rw e refl

  pub no_record_named : is_layer_name name ≡ true → record_named records name ≡ None
      → (more : List (Bool × Refusal))
      → first_refusal (named_refusals records name more) ≡ Some refusal.NoLayer
  no_record_named e none more =
      let unrecorded : is_recorded records name ≡ false = ap is_some none in rw (e, unrecorded) refl

  pub name_passes : is_layer_name name ≡ true → is_recorded records name ≡ true
      → (more : List (Bool × Refusal))
      → first_refusal (named_refusals records name more) ≡ first_refusal more
  name_passes e is more = rw (e, is) refl

-- ---- in turn

module _ (inner outer : Bool → List (Bool × Refusal))
    (same : (found : Bool) → first_refusal (outer found) ≡ first_refusal (inner found)) where
  pub passes_so : Passes inner → Passes outer
  passes_so h = (h.0, same h.0 ∙ h.1)

  pub refuses_so : (r : Refusal) → Refuses inner r ⊎ IsOfNone r → Refuses outer r ⊎ IsOfNone r
  refuses_so r (inl h) = inl (h.0, same h.0 ∙ h.1)
  refuses_so r (inr none) = inr none

  pub tried_so : {T : Type 0} (result : Result T Refusal) → IsTried inner result → IsTried outer result
  tried_so (Ok x) h = passes_so h
  tried_so (Err r) h = refuses_so r h

-- a refusal that is known
pub the_refusal : {T : Type 0} (conditions : Bool → List (Bool × Refusal)) (result : Result T Refusal)
    (r : Refusal) → IsErrAnd result (λ e. e ≡ r) → Refuses conditions r ⊎ IsOfNone r
    → IsTried conditions result
the_refusal conditions (Ok x) r is h = absurd is
the_refusal conditions (Err e) r is h = subst (λ (x : Refusal). Refuses conditions x ⊎ IsOfNone x) (sym is) h

-- what no condition refuses
pub of_none : {T : Type 0} (conditions : Bool → List (Bool × Refusal)) (result : Result T Refusal)
    → Passes conditions → IfErr result IsOfNone → IsTried conditions result
of_none conditions (Ok x) passes none = passes
of_none conditions (Err r) passes none = inr none

-- a fault is the refusal of no condition
of_fault : (f : Fault) → IsOfNone (as_refusal f)
of_fault fault.Memory = (refl, refl)
of_fault fault.Device = (refl, refl)
of_fault (fault.Damaged page) = (refl, refl)
of_fault fault.NotClosed = (refl, refl)
of_fault fault.NotAStore = (refl, refl)
of_fault fault.WrongVersion = (refl, refl)
of_fault fault.NoPages = (refl, refl)

pub fault_of_none : (f : Fault) (r : Refusal) → r ≡ as_refusal f → IsOfNone r
fault_of_none f r is = subst IsOfNone (sym is) (of_fault f)

pub memory_of_none : (r : Refusal) → IsFault ⊥ r → IsOfNone r
memory_of_none refusal.Memory h = (refl, refl)
memory_of_none refusal.Device h = absurd h
memory_of_none r h = absurd h

-- a change behind conditions of which none holds
pub begun_in_turn : (conditions : Bool → List (Bool × Refusal)) (made : Result (Unit {0}) Broken)
    (result : Result (Unit {0}) Unmade) → result ≡ change_of made → Passes conditions
    → IsTriedChange conditions result
begun_in_turn conditions made result is passes =
    subst (IsTriedChange conditions) (sym is) (by made)
  where
    by_touch : (b : Broken) (touched : Bool) → IsTriedChange conditions
        (Err (cond touched (unmade.Broken b.cause) (unmade.Refused (as_refusal b.cause))))
    by_touch b true = passes
    by_touch b false = inr (of_fault b.cause)

    by : (r : Result (Unit {0}) Broken) → IsTriedChange conditions (change_of r)
    by (Ok u) = passes
    by (Err b) = by_touch b b.touched

-- ---- layers

module _ (records : List Record) (count : ℕ) (name : List ℕ) (dims fanout : ℕ) where
  -- what is tried of a layer that is to be made
  abbrev of_create : Bool → List (Bool × Refusal)
  of_create found = refusals_by records count (Create name dims fanout) found

  pub create_bad_name : is_layer_name name ≡ false → Refuses of_create refusal.BadName
  create_bad_name e = (false, rw e refl)

  module _ (good : is_layer_name name ≡ true) where
    pub create_bad_dims : is_dims dims ≡ false → Refuses of_create refusal.BadDims
    create_bad_dims e = (false, rw (good, e) refl)

    module _ (axes : is_dims dims ≡ true) where
      pub create_bad_fanout : is_fanout fanout ≡ false → Refuses of_create refusal.BadFanout
      create_bad_fanout e = (false, rw (good, axes, e) refl)

      module _ (sized : is_fanout fanout ≡ true) where
        pub create_there : is_recorded records name ≡ true → Refuses of_create refusal.LayerExists
        create_there is = (false, rw (good, axes, sized, is) refl)

        pub create_full : is_recorded records name ≡ false → most_layers ≤ length records
            → Refuses of_create refusal.TooManyLayers
        create_full absent le =
            let many : nat_le 60 (length records) ≡ true = grind (arith, nat_tests) in
            (false, rw (good, axes, sized, absent, many) refl)

        pub create_passes : is_recorded records name ≡ false → length records < most_layers
            → Passes of_create
        create_passes absent lt =
            let few : nat_le 60 (length records) ≡ false = grind (arith, nat_tests) in
            (false, rw (good, axes, sized, absent, few) refl)

-- ---- objects

module _ (dims : ℕ) (box : RawBox) where
  pub other_axes : (dims_of box == dims) ≡ false → (more : List (Bool × Refusal))
      → first_refusal (box_refusals dims box more) ≡ Some refusal.WrongDims
  other_axes e more = rw e refl

  pub unordered : (dims_of box == dims) ≡ true → is_ordered (dims_of box) (given_bounds box) ≡ false
      → (more : List (Bool × Refusal)) → first_refusal (box_refusals dims box more) ≡ Some refusal.BadBox
  unordered e f more = rw (e, f) refl

  pub box_passes : (dims_of box == dims) ≡ true → is_ordered (dims_of box) (given_bounds box) ≡ true
      → (more : List (Bool × Refusal)) → first_refusal (box_refusals dims box more) ≡ first_refusal more
  box_passes e f more = rw (e, f) refl

-- an object that is to be added
module _ (dims : ℕ) (box : RawBox) (full : Bool) where
  pub object_axes : (dims_of box == dims) ≡ false → Refuses (found_refusals dims box full) refusal.WrongDims
  object_axes e = (false, rw e refl)

  module _ (right : (dims_of box == dims) ≡ true) where
    pub object_bad : is_ordered (dims_of box) (given_bounds box) ≡ false
        → Refuses (found_refusals dims box full) refusal.BadBox
    object_bad e = (false, rw (right, e) refl)

    module _ (ordered : is_ordered (dims_of box) (given_bounds box) ≡ true) where
      pub object_there : Refuses (found_refusals dims box full) refusal.Duplicate
      object_there = (true, rw (right, ordered) refl)

      pub object_many : full ≡ true → Refuses (found_refusals dims box full) refusal.TooManyObjects
      object_many e = (false, rw (right, ordered, e) refl)

      pub object_fits : full ≡ false → Passes (found_refusals dims box full)
      object_fits e = (false, rw (right, ordered, e) refl)

-- the nearest to a point
module _ (dims its k : ℕ) where
  abbrev pub of_nearest : Bool → List (Bool × Refusal)
  of_nearest found = (not (dims == its), refusal.WrongDims) ∷ (not (is_count k), refusal.BadCount) ∷ []

  pub point_axes : (dims == its) ≡ false → Refuses of_nearest refusal.WrongDims
  point_axes e = (false, rw e refl)

  module _ (right : (dims == its) ≡ true) where
    pub not_a_count : is_count k ≡ false → Refuses of_nearest refusal.BadCount
    not_a_count e = (false, rw (right, e) refl)

    pub count_passes : is_count k ≡ true → Passes of_nearest
    count_passes e = (false, rw (right, e) refl)

-- ---- loads

module _ (held : ℕ) (given : GivenObjects) (count : ℕ) where
  abbrev of_ids : Bool → List (Bool × Refusal)
  of_ids found = ids_refusals held given count

  pub holds_some : 0 < held → Refuses of_ids refusal.NotEmpty
  holds_some lt = let some : nat_lt 0 held ≡ true = grind (arith, nat_tests) in (false, rw some refl)

  module _ (empty : held ≡ 0) where
    none_held : nat_lt 0 held ≡ false
    none_held = grind (arith, nat_tests)

    pub given_twice : (id : ℕ) → least_repeated (ids_of given) ≡ Some id
        → Refuses of_ids (refusal.DuplicateInLoad id)
    given_twice id least = let none = none_held in (false, rw (none, least) refl)

    module _ (once : least_repeated (ids_of given) ≡ None) where
      pub more_than_fit : most_objects - count < length given → Refuses of_ids refusal.TooManyObjects
      more_than_fit lt =
          let none = none_held in
          let many : nat_lt (most_objects - count) (length given) ≡ true = over (most_objects - count) lt in
          (false, rw (none, once, many) refl)
        where
          over : (n : ℕ) → n < length given → nat_lt n (length given) ≡ true
          over n less = grind (arith, nat_tests)

      pub ids_pass : length given ≤ most_objects - count → Passes of_ids
      ids_pass le =
          let none = none_held in
          let few : nat_lt (most_objects - count) (length given) ≡ false = within (most_objects - count) le in
          (false, rw (none, once, few) refl)
        where
          within : (n : ℕ) → length given ≤ n → nat_lt n (length given) ≡ false
          within n no_more = grind (arith, nat_tests)

-- ---- two layers

module _ (records : List Record) (count : ℕ) (first second : List ℕ) (within : ℕ) where
  abbrev of_join : Bool → List (Bool × Refusal)
  of_join found = refusals_by records count (Join first second within) found

  pub join_bad_first : is_layer_name first ≡ false → Refuses of_join refusal.BadName
  join_bad_first e = (false, rw e refl)

  module _ (good : is_layer_name first ≡ true) where
    pub join_bad_second : is_layer_name second ≡ false → Refuses of_join refusal.BadName
    join_bad_second e = (false, rw (good, e) refl)

    module _ (fine : is_layer_name second ≡ true) where
      pub join_no_first : is_recorded records first ≡ false → Refuses of_join refusal.NoLayer
      join_no_first absent = (false, rw (good, fine, absent) refl)

      module _ (is : is_recorded records first ≡ true) where
        pub join_no_second : is_recorded records second ≡ false → Refuses of_join refusal.NoLayer
        join_no_second absent = (false, rw (good, fine, is, absent) refl)

        module _ (other : is_recorded records second ≡ true) where
          pub join_differs : ((record_at records first).dims == (record_at records second).dims) ≡ false
              → Refuses of_join refusal.DimsDiffer
          join_differs e = (false, rw (good, fine, is, other, e) refl)

          pub join_passes : ((record_at records first).dims == (record_at records second).dims) ≡ true
              → Passes of_join
          join_passes e = (false, rw (good, fine, is, other, e) refl)
