-- Why a load is refused, and what one that is not does to the table.
use Rattle.std.proofs.Common.{◌≡◌, ◌∙◌, ◌⊎◌, inl, inr, ℕ, ◌+◌, ◌<◌, ◌≤◌, List, [], ◌∷◌, length, get_or, map}
use Rattle.std.proofs.Common.{true, false, Bool, cond, eqb, not, Option, Some, None, refl, sym, ap, subst}
use Rattle.std.proofs.Common.{arith}
use Rattle.std.specs.Prelude.{IsPermutation, ◌&&◌, ◌==◌, is_some, nat_lt, unwrap_or}
use Rattle.std.specs.FinMap.{contains_key, entries, find, from_entries, len, len-entries}
use Rattle.std.specs.Ordering.{nat_cmp}
use Rattle.std.proofs.lemmas.Bool.Decides.{nat_tests}
use Rattle.std.proofs.lemmas.List.{length-map}
use Rattle.std.proofs.lemmas.List.Folds.{list_all_at}
use Rattle.std.proofs.lemmas.List.Sums.{AllPass-from_list_all}
use Rattle.box_math.specs.Objects.{Object}
use Rattle.catalog_page.specs.Layout.{Record, records_of}
use Rattle.id_words.proofs.ObjectLemmas.{same_key}
use Rattle.id_words.specs.Objects.{pairs_in}
use Rattle.plain_table.specs.Boxes.{dims_of, given_bounds, is_ordered}
use Rattle.plain_table.specs.Commands.Command.{Load}
use Rattle.plain_table.specs.Laws.{none_holds}
use Rattle.plain_table.specs.Loads.{GivenObjects, are_ordered, given_object, have_dims, ids_of}
use Rattle.plain_table.specs.Loads.{least_repeated, with_objects}
use Rattle.plain_table.specs.Step.{box_refusals, changes, first_refusal, is_admitted, load_refusals}
use Rattle.plain_table.specs.Step.{refusal_of}
use Rattle.plain_table.specs.Table.{Layer, Table, is_layer_name, layer_at, most_objects, object_count}
use Rattle.plain_table.specs.declared.boxes.RawBox.{RawBox}
use Rattle.plain_table.specs.declared.refusal.Refusal.{Refusal}
use Rattle.plain_table.specs.declared.refusal.Refusal.TheVariants as refusal
use Rattle.store_law.specs.Lawful.{IsFault}
use Rattle.tree_node.specs.declared.node.Entry.{Entry}
use Rattle.live_layers.specs.Keeping.{Finds, IsSound}
use Rattle.live_layers.specs.Loading.{NamesLayer, ReachesObjects, boxes_refusals, times_in}
use Rattle.live_layers.specs.declared.layers.Layers.{Layers}
use Rattle.live_layers.proofs.AskLemmas.{named_there}
use Rattle.live_layers.proofs.FillLemmas.{AreApart, entries_made}
use Rattle.live_layers.proofs.RepeatLemmas.{each_once, times_more}
use Rattle.live_layers.proofs.ReplaceLemmas.{count_there, reading, row_there}

-- ---- names

module _ (t : Table) (name : List ℕ) (given : GivenObjects) where
  pub no_name : is_layer_name name ≡ false → refusal_of t (Load name given) ≡ Some refusal.BadName
  no_name e = rw e refl

  pub no_layer_there : is_layer_name name ≡ true → contains_key t name ≡ false
      → refusal_of t (Load name given) ≡ Some refusal.NoLayer
  no_layer_there e none = rw (e, none) refl

-- what may be refused of a layer that is there
pub as_load : (t : Table) (name : List ℕ) (place : ℕ) (given : GivenObjects) → is_layer_name name ≡ true
    → Finds t name place
    → refusal_of t (Load name given) ≡ first_refusal (load_refusals (layer_at t name) given (object_count t))
as_load t name place given good finds = let there = named_there t name place finds in rw (good, there) refl

-- ---- boxes

pub first_of : (wrong bad : Bool) (more : List (Bool × Refusal)) (r : Refusal)
    → first_refusal ((wrong, refusal.WrongDims) ∷ (bad, refusal.BadBox) ∷ []) ≡ Some r
    → first_refusal ((wrong, refusal.WrongDims) ∷ (bad, refusal.BadBox) ∷ more) ≡ Some r
first_of true bad more r is = is
first_of false true more r is = is
first_of false false more r is = absurd (cc)

bad_of : (wide ordered : Bool) (r : Refusal) → wide ≡ true
    → first_refusal ((not wide, refusal.WrongDims) ∷ (not ordered, refusal.BadBox) ∷ []) ≡ Some r
    → ordered ≡ false
bad_of true false r is_wide why = refl
bad_of true true r is_wide why = absurd (cc)
bad_of false ordered r is_wide why = absurd (cc)

-- one of the right axes that is refused has a low above its high
pub bad_box_there : (dims : ℕ) (given : GivenObjects) (i : ℕ) (d : ℕ × RawBox × ℕ) (r : Refusal)
    → i < length given → have_dims dims given ≡ true
    → first_refusal (box_refusals dims (get_or given i d).1 []) ≡ Some r
    → first_refusal (boxes_refusals dims given) ≡ Some refusal.BadBox
bad_box_there dims given i d r within wide why =
    let here : (dims_of (get_or given i d).1 == dims) ≡ true =
    AllPass-from_list_all (λ (o : ℕ × RawBox × ℕ). dims_of o.1 == dims) given wide i d within in
    let bad = bad_of (dims_of (get_or given i d).1 == dims)
    (is_ordered (dims_of (get_or given i d).1) (given_bounds (get_or given i d).1)) r here why in
    let unordered : are_ordered given ≡ false =
    list_all_at (λ (o : ℕ × RawBox × ℕ). is_ordered (dims_of o.1) (given_bounds o.1)) given i d within bad in
    rw (wide, unordered) refl

-- what is tried after the boxes
abbrev after_boxes : Layer → GivenObjects → ℕ → List (Bool × Refusal)
after_boxes layer given count =
    (nat_lt 0 (len layer.objects), refusal.NotEmpty)
    ∷ (
      is_some (least_repeated (ids_of given)),
      refusal.DuplicateInLoad (unwrap_or (least_repeated (ids_of given)) 0),
    )
    ∷ (nat_lt most_objects (count + length given), refusal.TooManyObjects) ∷ []

pub names_layer : (t : Table) (name : List ℕ) (place dims : ℕ) → is_layer_name name ≡ true → Finds t name place
    → (layer_at t name).dims ≡ dims → NamesLayer t name place dims
names_layer t name place dims good finds axes = record { good = good; finds = finds; axes = axes }

-- one that is refused is why the load is
pub box_refused_there : (t : Table) (name : List ℕ) (place : ℕ) (given : GivenObjects) (dims : ℕ)
    → is_layer_name name ≡ true → Finds t name place → (layer_at t name).dims ≡ dims → (r : Refusal)
    → (first_refusal (boxes_refusals dims given) ≡ Some r) ⊎ IsFault ⊥ r
    → (refusal_of t (Load name given) ≡ Some r) ⊎ IsFault ⊥ r
box_refused_there t name place given dims good finds axes r (inl is) =
    inl (as_load t name place given good finds
    ∙ first_of (not (have_dims (layer_at t name).dims given)) (not (are_ordered given))
    (after_boxes (layer_at t name) given (object_count t)) r
    (ap (λ (k : ℕ). first_refusal (boxes_refusals k given)) axes ∙ is))
box_refused_there t name place given dims good finds axes r (inr h) = inr h

-- where none is refused, the objects reach the layer
pub all_reach : (t : Table) (name : List ℕ) (place : ℕ) (given : GivenObjects) (dims : ℕ)
    (objects : List (ℕ × Object)) → is_layer_name name ≡ true → Finds t name place
    → (layer_at t name).dims ≡ dims
    → first_refusal (boxes_refusals dims given) ≡ None → objects ≡ map given_object given
    → ReachesObjects t name place given dims objects
all_reach t name place given dims objects good finds axes none boxes =
    let hold = none_holds (boxes_refusals dims given) none in
    record {
      good = good;
      finds = finds;
      axes = axes;
      right = no_more (have_dims dims given) hold.0;
      ordered = no_more (are_ordered given) hold.1.0;
      objects_are = boxes;
    }
  where
    no_more : (b : Bool) → not b ≡ false → b ≡ true
    no_more true e = refl
    no_more false e = absurd (cc)

-- ---- faults

-- want of memory, which may refuse anything
pub only_memory : (rose : Type 0) (r : Refusal) → IsFault ⊥ r → IsFault rose r
only_memory rose refusal.Memory h = h
only_memory rose refusal.Device h = absurd h
only_memory rose r h = h

pub allowed_anyhow : (rose : Type 0) (why : Option Refusal) (r : Refusal) → (why ≡ Some r) ⊎ IsFault ⊥ r
    → (why ≡ Some r) ⊎ IsFault rose r
allowed_anyhow rose why r (inl h) = inl h
allowed_anyhow rose why r (inr h) = inr (only_memory rose r h)

-- ---- entries of leaves

pub ids_listed : {D : ℕ} (entries : List (Entry D))
    → map (λ (entry : Entry D). entry.reference) entries ≡ map (λ (o : ℕ × Object). o.0) (pairs_in entries)
ids_listed [] = refl
ids_listed (entry ∷ entries) = ap (λ (ids : List ℕ). entry.reference ∷ ids) (ids_listed entries)

-- ---- objects of different identifiers

pub same_ids : (given : GivenObjects) → map (λ (o : ℕ × Object). o.0) (map given_object given) ≡ ids_of given
same_ids [] = refl
same_ids (o ∷ rest) = ap (λ (ids : List ℕ). o.0 ∷ ids) (same_ids rest)

not_found : (q : ℕ) (os : List (ℕ × Object)) → times_in q (map (λ (o : ℕ × Object). o.0) os) ≡ 0
    → find nat_cmp q os ≡ None
not_found q [] none = refl
not_found q (o ∷ os) none = ap (λ b. cond b (Some o.1) (find nat_cmp q os)) (same_key q o.0)
    ∙ step (eqb o.0 q) (times_in q (map (λ (o : ℕ × Object). o.0) os))
    (sym (times_more q o.0 (map (λ (o : ℕ × Object). o.0) os)) ∙ none) (not_found q os)
  where
    step : (b : Bool) (n : ℕ) → cond b 1 0 + n ≡ 0 → (n ≡ 0 → find nat_cmp q os ≡ None)
        → cond b (Some o.1) (find nat_cmp q os) ≡ None
    step true n none rest = absurd (omega (arith, none))
    step false n none rest = rest (omega (arith, none))

are_apart : (os : List (ℕ × Object)) → ((q : ℕ) → times_in q (map (λ (o : ℕ × Object). o.0) os) ≤ 1)
    → AreApart os
are_apart [] once = tt
are_apart (o ∷ os) once = (
  not_found o.0 os (alone (times_more o.0 o.0 (map (λ (o : ℕ × Object). o.0) os)) (once o.0)),
  are_apart os (λ q. fewer q (times_more q o.0 (map (λ (o : ℕ × Object). o.0) os)) (once q)),
)
  where
    itself : (x n : ℕ) → cond (eqb x x) 1 0 + n ≡ 1 + n
    itself x n = grind (arith, nat_tests)

    alone : {m n : ℕ} → m ≡ cond (eqb o.0 o.0) 1 0 + n → m ≤ 1 → n ≡ 0
    alone {m} {n} is few = omega (arith, itself o.0 n, is, few)

    fewer : (q : ℕ) → {m n : ℕ} → m ≡ cond (eqb o.0 q) 1 0 + n → m ≤ 1 → n ≤ 1
    fewer q is few = omega (arith, is, few)

-- ---- objects that reach a layer

module _ (t : Table) (name : List ℕ) (place : ℕ) (given : GivenObjects) (dims : ℕ)
    (objects : List (ℕ × Object)) (reaches : ReachesObjects t name place given dims objects) where
  right : have_dims (layer_at t name).dims given ≡ true
  right = ap (λ (k : ℕ). have_dims k given) reaches.axes ∙ reaches.right

  pub ids_are : map (λ (o : ℕ × Object). o.0) objects ≡ ids_of given
  ids_are = ap (map (λ (o : ℕ × Object). o.0)) reaches.objects_are ∙ same_ids given

  pub as_many : length objects ≡ length given
  as_many = ap length reaches.objects_are ∙ length-map given given_object

  -- why they are refused
  pub not_empty : 0 < len (layer_at t name).objects
      → first_refusal (load_refusals (layer_at t name) given (object_count t)) ≡ Some refusal.NotEmpty
  not_empty some =
      let has : nat_lt 0 (len (layer_at t name).objects) ≡ true = grind (arith, nat_tests) in
      let wide = right in rw (wide, reaches.ordered, has) refl

  none_there : len (layer_at t name).objects ≡ 0 → nat_lt 0 (len (layer_at t name).objects) ≡ false
  none_there none = grind (arith, nat_tests)

  pub twice_given : (id : ℕ) → len (layer_at t name).objects ≡ 0
      → Some id ≡ least_repeated (map (λ (o : ℕ × Object). o.0) objects)
      → first_refusal (load_refusals (layer_at t name) given (object_count t)) ≡ Some
      (refusal.DuplicateInLoad id)
  twice_given id none least =
      let wide = right in
      let empty = none_there none in
      let is : least_repeated (ids_of given) ≡ Some id = sym (least ∙ ap least_repeated ids_are) in
      rw (wide, reaches.ordered, empty, is) refl

  pub too_many_given : len (layer_at t name).objects ≡ 0
      → None ≡ least_repeated (map (λ (o : ℕ × Object). o.0) objects)
      → most_objects < object_count t + length objects
      → first_refusal (load_refusals (layer_at t name) given (object_count t)) ≡ Some refusal.TooManyObjects
  too_many_given none once many =
      let wide = right in
      let empty = none_there none in
      let is : least_repeated (ids_of given) ≡ None = sym (once ∙ ap least_repeated ids_are) in
      let full : nat_lt most_objects (object_count t + length given) ≡ true =
      over (object_count t + length given) (omega (arith, many, as_many)) in
      rw (wide, reaches.ordered, empty, is, full) refl
    where
      over : (n : ℕ) → most_objects < n → nat_lt most_objects n ≡ true
      over n lt = grind (arith, nat_tests)

  pub may_be_given : len (layer_at t name).objects ≡ 0
      → None ≡ least_repeated (map (λ (o : ℕ × Object). o.0) objects)
      → object_count t + length objects ≤ most_objects
      → first_refusal (load_refusals (layer_at t name) given (object_count t)) ≡ None
  may_be_given none once few =
      let wide = right in
      let empty = none_there none in
      let is : least_repeated (ids_of given) ≡ None = sym (once ∙ ap least_repeated ids_are) in
      let fits : nat_lt most_objects (object_count t + length given) ≡ false =
      within (object_count t + length given) (omega (arith, few, as_many)) in
      rw (wide, reaches.ordered, empty, is, fits) refl
    where
      within : (n : ℕ) → n ≤ most_objects → nat_lt most_objects n ≡ false
      within n le = grind (arith, nat_tests)

  -- where nothing refuses them
  module _ (none : first_refusal (load_refusals (layer_at t name) given (object_count t)) ≡ None) where
    pub had_none : len (layer_at t name).objects ≡ 0
    had_none =
        zero_of (len (layer_at t name).objects)
        (none_holds (load_refusals (layer_at t name) given (object_count t)) none).1.1.0
      where
        zero_of : (n : ℕ) → nat_lt 0 n ≡ false → n ≡ 0
        zero_of n e = grind (arith, nat_tests)

    -- they are the entries of the layer that they make
    pub made_of : IsPermutation objects (entries (with_objects (layer_at t name) given).objects)
    made_of =
        let once =
        nothing (least_repeated (ids_of given))
        (none_holds (load_refusals (layer_at t name) given (object_count t)) none).1.1.1.0 in
        let apart =
        are_apart (map given_object given)
        (λ q. subst (λ (ids : List ℕ). times_in q ids ≤ 1) (sym (same_ids given))
        (each_once (ids_of given) once q)) in
        subst (λ (os : List (ℕ × Object)). IsPermutation os
        (entries (from_entries {R = nat_cmp} (map given_object given)))) (sym reaches.objects_are)
        (entries_made (map given_object given) apart)
      where
        nothing : (o : Option ℕ) → is_some o ≡ false → o ≡ None
        nothing None e = refl
        nothing (Some id) e = absurd (cc)

    admitted : is_admitted t (Load name given) ≡ true
    admitted =
        ap (λ (o : Option Refusal). not (is_some o))
        (as_load t name place given reaches.good reaches.finds ∙ none)

    -- objects that are there change the table, and no objects do not
    pub some_change : 0 < length objects → changes t (Load name given) ≡ true
    some_change some =
        let more : nat_lt 0 (length given) ≡ true = positive (length given) (omega (arith, some, as_many)) in
        ap (λ (b : Bool). b && nat_lt 0 (length given)) admitted ∙ more
      where
        positive : (n : ℕ) → 0 < n → nat_lt 0 n ≡ true
        positive n lt = grind (arith, nat_tests)

    pub none_change : length objects ≡ 0 → changes t (Load name given) ≡ false
    none_change less =
        let more : nat_lt 0 (length given) ≡ false = empty (length given) (omega (arith, less, as_many)) in
        ap (λ (b : Bool). b && nat_lt 0 (length given)) admitted ∙ more
      where
        empty : (n : ℕ) → n ≡ 0 → nat_lt 0 n ≡ false
        empty n e = grind (arith, nat_tests)

  -- what is refused changes nothing
  pub refused_change : (r : Refusal) → refusal_of t (Load name given) ≡ Some r
      → changes t (Load name given) ≡ false
  refused_change r why = ap (λ (o : Option Refusal). not (is_some o) && nat_lt 0 (length given)) why

-- ---- layers

module _ {D A : Type 0} {m : _} (kept : Layers D A m) (t : Table) (name : List ℕ) (place : ℕ)
    (sound : IsSound kept t) (finds : Finds t name place) where
  -- a layer has as many objects as its record says
  pub counted_there : (n : ℕ) → ((d : Record) → n ≡ (get_or (records_of kept.records) place d).count)
      → len (layer_at t name).objects ≡ n
  counted_there n by =
      let row : Record = (reading kept t name place sound finds).row in
      len-entries (layer_at t name).objects ∙ sym (count_there kept t name place sound finds)
      ∙ sym (by row ∙ ap (λ (r : Record). r.count) (row_there kept t name place sound finds row))
