-- Of layers that are sound with a table the conditions of a command are the table's.
use Rattle.std.proofs.Common.{◌≡◌, ◌∙◌, ℕ, ◌+◌, ◌≤◌, List, [], ◌∷◌, length, map, Bool, cond, not}
use Rattle.std.proofs.Common.{◌&&◌, T, refl, sym, ap, subst, arith}
use Rattle.std.specs.Prelude.{Option, Some, None, is_some, nat_le, nat_lt, unwrap_or, ◌==◌, ◌-◌}
use Rattle.std.proofs.lemmas.Bool.Decides.{nat_tests}
use Rattle.std.proofs.lemmas.List.{length-map}
use Rattle.std.specs.Cmp.Lexicographic.{slice_cmp, nat_list_cmp_total}
use Rattle.std.specs.FinMap.{contains_key, entries_sorted, find, get, get-entries, is_sorted, len, len-empty}
use Rattle.std.specs.FinMap.{len-entries}
use Rattle.std.specs.FinMap.Entries.{by_order}
use Rattle.std.specs.Ordering.{is_eq, nat_cmp}
use Rattle.std.specs.declared.cmp.Ordering.{Ordering}
use Rattle.std.specs.declared.cmp.Ordering.TheVariants.{Less, Equal, Greater}
use Rattle.box_math.specs.Objects.{Object}
use Rattle.catalog_page.specs.Layout.{Record, record_of}
use Rattle.node_page.specs.Standing.{PageMap}
use Rattle.page_cache.specs.Cache.{next_of, pages}
use Rattle.plain_table.specs.Commands.{Command}
use Rattle.plain_table.specs.Commands.Command.{Create, Insert, Load, Move, Delete, Drop, Get, Count, Range}
use Rattle.plain_table.specs.Commands.Command.{Nearest, Join, Layers as ListLayers, Dump, Check, Reopen}
use Rattle.plain_table.specs.Loads.{are_ordered, have_dims, ids_of, least_repeated}
use Rattle.plain_table.specs.Step.{box_refusals, first_refusal, missing_refusals, nearest_refusals}
use Rattle.plain_table.specs.Step.{query_refusals, refusal_of}
use Rattle.plain_table.specs.Table.{Layer, Table, is_dims, is_fanout, is_layer_name, layer_at, most_layers}
use Rattle.plain_table.specs.Table.{most_objects, no_layer, object_count}
use Rattle.plain_table.specs.declared.refusal.Refusal.{Refusal}
use Rattle.plain_table.specs.declared.refusal.Refusal.TheVariants as refusal
use Rattle.plain_table.proofs.EntryLemmas.{belongs_at, right_of}
use Rattle.live_layers.specs.Keeping.{IsSound, records_in}
use Rattle.live_layers.specs.Layers.{LayersStand, Reading, entry_of, row_of}
use Rattle.live_layers.specs.Refusals.{found_refusals, has_object_of, is_recorded}
use Rattle.live_layers.specs.Refusals.{no_record, record_named, refusals_in}
use Rattle.live_layers.specs.declared.layers.Layers.{Layers}
use Rattle.live_layers.proofs.FindLemmas.{as_many, is_true}

-- what is asked of a layer: its axes, and how many objects it has
abbrev of_record : Option Record → Option (ℕ × ℕ)
of_record None = None
of_record (Some r) = Some (r.dims, r.count)

abbrev of_layer : Option Layer → Option (ℕ × ℕ)
of_layer None = None
of_layer (Some l) = Some (l.dims, len l.objects)

-- the same of what is found behind a record, by how the name compares with its
module _ (name : List ℕ) (h : Reading) (hs : List Reading) where
  abbrev step : Ordering → Option (ℕ × ℕ)
  step o = of_record (by_order o None (Some h.row) (record_named (map row_of hs) name))

  abbrev jump : Ordering → Option (ℕ × ℕ)
  jump o = of_layer (cond (is_eq o) (Some h.layer) (find (slice_cmp nat_cmp) name (map entry_of hs)))

-- a record that is found says it of the layer that the table has
same_found : (held : PageMap) (name : List ℕ) (hs : List Reading) → LayersStand held hs
    → T (is_sorted (slice_cmp nat_cmp) (map entry_of hs))
    → of_record (record_named (map row_of hs) name) ≡ of_layer
    (find (slice_cmp nat_cmp) name (map entry_of hs))
same_found held name [] stand sorted = refl
same_found held name (h ∷ hs) stand sorted =
    by (same_found held name hs stand.1 (right_of _ _ sorted)) (slice_cmp nat_cmp name h.row.name) refl
  where
    by : of_record (record_named (map row_of hs) name) ≡ of_layer
        (find (slice_cmp nat_cmp) name (map entry_of hs))
        → (o : Ordering) → slice_cmp nat_cmp name h.row.name ≡ o
        → of_record (record_named (map row_of (h ∷ hs)) name) ≡ of_layer
        (find (slice_cmp nat_cmp) name (map entry_of (h ∷ hs)))
    by rest Less e =
        let absent =
        (belongs_at (slice_cmp nat_cmp) nat_list_cmp_total name (map entry_of (h ∷ hs)) 0 (omega arith)
        (is_true _ sorted) (λ k d low high. absurd (omega (arith, high))) (λ d within. e)).absent in
        ap (step name h hs) e ∙ sym (ap of_layer absent)
    by rest Equal e =
        let count = len-entries h.layer.objects ∙ stand.0.count in
        ap (step name h hs) e ∙ (λ i. Some (sym stand.0.dims i, sym count i)) ∙ sym (ap (jump name h hs) e)
    by rest Greater e = ap (step name h hs) e ∙ rest ∙ sym (ap (jump name h hs) e)

-- what a name stands for in layers and in their table
record Agrees (r : Option Record) (l : Option Layer) : Type 0 where
  pub there : is_some r ≡ is_some l
  pub dims : (unwrap_or r no_record).dims ≡ (unwrap_or l no_layer).dims
  pub held : (unwrap_or r no_record).count ≡ len (unwrap_or l no_layer).objects

agree : (r : Option Record) (l : Option Layer) → of_record r ≡ of_layer l → Agrees r l
agree None None e = record { there = refl; dims = refl; held = sym (len-empty nat_cmp Object) }
agree None (Some l) e = absurd (cc)
agree (Some r) None e = absurd (cc)
agree (Some r) (Some l) e = record {
  there = refl;
  dims = ap (λ (o : Option (ℕ × ℕ)). (unwrap_or o (0, 0)).0) e;
  held = ap (λ (o : Option (ℕ × ℕ)). (unwrap_or o (0, 0)).1) e;
}

-- there is as much room, however it is counted
same_room : (count n : ℕ) → count ≤ most_objects
    → nat_lt (most_objects - count) n ≡ nat_lt most_objects (count + n)
same_room count n le = grind (arith, nat_tests)

module _ {D A : Type 0} {m : _} (kept : Layers D A m) (t : Table) (sound : IsSound kept t) where
  agrees : (name : List ℕ) → Agrees (record_named (records_in kept) name) (get t name)
  agrees name =
      let hs = sound.holds.layers in
      let sorted : T (is_sorted (slice_cmp nat_cmp) (map entry_of hs)) =
      subst (λ (es : List (List ℕ × Layer)). T (is_sorted (slice_cmp nat_cmp) es)) (sym sound.holds.table)
      (entries_sorted t) in
      agree (record_named (records_in kept) name) (get t name)
      (ap (λ (rs : List Record). of_record (record_named rs name)) (sym sound.holds.rows)
      ∙ same_found (pages kept.cache) name hs sound.holds.stand sorted
      ∙ ap (λ (es : List (List ℕ × Layer)). of_layer (find (slice_cmp nat_cmp) name es)) sound.holds.table
      ∙ ap of_layer (sym (get-entries t name)))

  many_layers : length (records_in kept) ≡ len t
  many_layers = length-map kept.records.items record_of
      ∙ sym (as_many (pages kept.cache) (next_of kept.cache) kept.records.items t sound.holds)
      ∙ sym (len-entries t)

  room : (n : ℕ) → nat_lt (most_objects - kept.object_count) n ≡ nat_lt most_objects (object_count t + n)
  room n = same_room kept.object_count n sound.within
      ∙ ap (λ (count : ℕ). nat_lt most_objects (count + n)) sound.counted

  -- a name before further refusals
  named : (name : List ℕ) → {more of_table : List (Bool × Refusal)} → more ≡ of_table
      → first_refusal ((not (is_layer_name name), refusal.BadName)
      ∷ (not (is_recorded (records_in kept) name), refusal.NoLayer) ∷ more) ≡ first_refusal
      ((not (is_layer_name name), refusal.BadName) ∷ (not (contains_key t name), refusal.NoLayer) ∷ of_table)
  named name same = λ i. first_refusal
      ((not (is_layer_name name), refusal.BadName) ∷ (not ((agrees name).there i), refusal.NoLayer) ∷ same i)

  pub as_the_table : (c : Command)
      → first_refusal (refusals_in kept c (has_object_of t c)) ≡ refusal_of t c
  as_the_table (Create name dims fanout) = λ i. first_refusal
      ((not (is_layer_name name), refusal.BadName) ∷ (not (is_dims dims), refusal.BadDims)
      ∷ (not (is_fanout fanout), refusal.BadFanout) ∷ ((agrees name).there i, refusal.LayerExists)
      ∷ (nat_le most_layers (many_layers i), refusal.TooManyLayers) ∷ [])
  as_the_table (Insert name id box tag) = named name (λ i. found_refusals ((agrees name).dims i) box
      (nat_le most_objects (sound.counted i)) (contains_key (layer_at t name).objects id))
  as_the_table (Load name objects) = named name (λ i.
      (not (have_dims ((agrees name).dims i) objects), refusal.WrongDims)
      ∷ (not (are_ordered objects), refusal.BadBox) ∷ (nat_lt 0 ((agrees name).held i), refusal.NotEmpty)
      ∷ (
        is_some (least_repeated (ids_of objects)),
        refusal.DuplicateInLoad (unwrap_or (least_repeated (ids_of objects)) 0),
      )
      ∷ (room (length objects) i, refusal.TooManyObjects) ∷ [])
  as_the_table (Move name id box) = named name (λ i. box_refusals ((agrees name).dims i) box
      (missing_refusals (layer_at t name) id))
  as_the_table (Delete name id) = named name (λ i. missing_refusals (layer_at t name) id)
  as_the_table (Drop name) = named name (λ i. [])
  as_the_table (Get name id) = named name (λ i. missing_refusals (layer_at t name) id)
  as_the_table (Count name) = named name (λ i. [])
  as_the_table (Range name query tag) = named name (λ i. query_refusals ((agrees name).dims i) query)
  as_the_table (Nearest name k point) = named name (λ i. nearest_refusals ((agrees name).dims i) k point)
  as_the_table (Join first second within) = λ i. first_refusal
      ((not (is_layer_name first && is_layer_name second), refusal.BadName)
      ∷ (not ((agrees first).there i && (agrees second).there i), refusal.NoLayer)
      ∷ (not ((agrees first).dims i == (agrees second).dims i), refusal.DimsDiffer) ∷ [])
  as_the_table ListLayers = refl
  as_the_table Dump = refl
  as_the_table Check = refl
  as_the_table Reopen = refl
