-- Where the layer of a name stands among records in the order of their names, or belongs.
use Rattle.std.proofs.Common.{◌≡◌, ◌∙◌, ℕ, zero, suc, ◌<◌, ◌≤◌, List, [], ◌∷◌, length, get_or, map, Bool}
use Rattle.std.proofs.Common.{true, false, refl, sym, ap, arith, T}
use Rattle.std.specs.Prelude.{IsTrue}
use Rattle.std.specs.Cmp.Lexicographic.{slice_cmp, nat_list_cmp_total}
use Rattle.std.specs.FinMap.{is_sorted, entries, entries_sorted, nat_cmp-IsAntisymmetric}
use Rattle.std.specs.FinMap.{slice_cmp-IsAntisymmetric}
use Rattle.std.specs.FinMap.Entries.{below_all}
use Rattle.std.specs.Ordering.{nat_cmp, ordering_reverse}
use Rattle.std.specs.declared.cmp.Ordering.{Ordering}
use Rattle.std.specs.declared.cmp.Ordering.TheVariants.{Less, Equal, Greater}
use Rattle.std.proofs.lemmas.List.{get_or-map, length-map}
use Rattle.page_file.specs.declared.header.Version.{Version}
use Rattle.plain_table.specs.Table.{Table, Layer, no_layer}
use Rattle.catalog_page.specs.Layout.{Record, record_of}
use Rattle.catalog_page.specs.declared.layer_record.LayerRecord.{LayerRecord}
use Rattle.id_table.specs.Table.{no_table}
use Rattle.node_page.specs.Standing.{PageMap}
use Rattle.tree_node.specs.Trees.{end}
use Rattle.live_layers.specs.Keeping.{Belongs, Finds}
use Rattle.live_layers.specs.Layers.{Holds, Reading, entry_of, row_of}
use Rattle.plain_table.proofs.EntryLemmas.{belongs_at, is_entry_at, left_of, less_is, right_of}

pub is_true : (b : Bool) → T b → IsTrue b
is_true true h = refl
is_true false h = absurd h

module _ {K X : Type 0} (R : K → K → Ordering) where
  pub below_at : (x : K) (es : List (K × X)) (i : ℕ) (d : K × X) → i < length es → T (below_all R x es)
      → R x (get_or es i d).0 ≡ Less
  below_at x [] i d lt h = absurd (omega (arith, lt))
  below_at x (e ∷ es) zero d lt h = less_is _ (left_of _ _ h)
  below_at x (e ∷ es) (suc i) d lt h = below_at x es i d (omega (arith, lt)) (right_of _ _ h)

  -- the keys before a place are below the one there
  before : (es : List (K × X)) (k i : ℕ) (d : K × X) → k < i → i < length es → T (is_sorted R es)
      → R (get_or es k d).0 (get_or es i d).0 ≡ Less
  before [] k i d low lt h = absurd (omega (arith, lt))
  before (e ∷ es) zero zero d low lt h = absurd (omega (arith, low))
  before (e ∷ es) zero (suc i) d low lt h = below_at e.0 es i d (omega (arith, lt)) (left_of _ _ h)
  before (e ∷ es) (suc k) zero d low lt h = absurd (omega (arith, low))
  before (e ∷ es) (suc k) (suc i) d low lt h =
      before es k i d (omega (arith, low)) (omega (arith, lt)) (right_of _ _ h)

own_reverse : (o : Ordering) → o ≡ ordering_reverse o → o ≡ Equal
own_reverse Less e = absurd (cc)
own_reverse Equal e = refl
own_reverse Greater e = absurd (cc)

-- a name ties with itself
pub ties : (name : List ℕ) → slice_cmp nat_cmp name name ≡ Equal
ties name = own_reverse (slice_cmp nat_cmp name name) (nat_list_cmp_total.antisymm name name)

-- a layer whose key is the name is found in its place
pub finds_at : (t : Table) (name : List ℕ) (i : ℕ) → i < length (entries t)
    → ((d : List ℕ × Layer) → (get_or (entries t) i d).0 ≡ name) → Finds t name i
finds_at t name i lt is = record {
  stands = is_entry_at (slice_cmp nat_cmp) name (entries t) i lt
      (λ k d low high.
      let less = before (slice_cmp nat_cmp) (entries t) k i d high lt (entries_sorted t) in
      let below : slice_cmp nat_cmp (get_or (entries t) k d).0 name ≡ Less =
      ap (slice_cmp nat_cmp (get_or (entries t) k d).0) (sym (is d)) ∙ less in
      nat_list_cmp_total.antisymm name (get_or (entries t) k d).0 ∙ ap ordering_reverse below)
      (λ d. ap (slice_cmp nat_cmp name) (is d) ∙ ties name);
  named = is;
}

-- a name above those before a place and below the one there belongs to it
pub belongs_here : (t : Table) (name : List ℕ) (i : ℕ) → i ≤ length (entries t)
    → ((k : ℕ) (d : List ℕ × Layer) → k < i → slice_cmp nat_cmp name (get_or (entries t) k d).0 ≡ Greater)
    → ((d : List ℕ × Layer) → i < length (entries t)
    → slice_cmp nat_cmp name (get_or (entries t) i d).0 ≡ Less) → Belongs t name i
belongs_here t name i le above below =
    belongs_at (slice_cmp nat_cmp) nat_list_cmp_total name (entries t) i le (is_true _ (entries_sorted t))
    (λ k d low high. above k d high) below

-- ---- the records

abbrev pub no_record : LayerRecord
no_record =
    record {
      name = record { items = [] };
      dims = 0;
      fanout = 0;
      level = 0;
      root = 0;
      ids_root = 0;
      count = 0;
    }

abbrev pub no_reading : Reading
no_reading = record {
  row = record { name = []; dims = 0; fanout = 0; level = 0; root = 0; ids_root = 0; count = 0 };
  pages = record { tree = record { page = 0; level = 0; row = end }; ids = no_table };
  layer = no_layer;
}

module _ {version : Version} (pages : PageMap) (next : ℕ) (items : List LayerRecord) (t : Table)
    (h : Holds pages next version (map record_of items) t) where
  -- there are as many layers as records
  pub as_many : length (entries t) ≡ length items
  as_many = sym (ap length h.table) ∙ length-map h.layers entry_of ∙ sym (length-map h.layers row_of)
      ∙ ap length h.rows ∙ length-map items record_of

  -- the names of a table's layers are those of the records
  pub name_at : (k : ℕ) (d : List ℕ × Layer) (r : LayerRecord) → k < length items
      → (get_or (entries t) k d).0 ≡ (get_or items k r).name.items
  name_at k d r lt =
      let within : k < length h.layers =
      omega (arith, lt, as_many, ap length h.table, length-map h.layers entry_of) in
      ap (λ (es : List (List ℕ × Layer)). (get_or es k d).0) (sym h.table)
      ∙ ap (λ (e : List ℕ × Layer). e.0) (get_or-map entry_of h.layers k no_reading d within)
      ∙ ap (λ (x : Record). x.name) (sym (get_or-map row_of h.layers k no_reading (record_of r) within))
      ∙ ap (λ (rs : List Record). (get_or rs k (record_of r)).name) h.rows
      ∙ ap (λ (x : Record). x.name) (get_or-map record_of items k r (record_of r) lt)

  pub found_here : (name : List ℕ) (i : ℕ) → i < length items
      → ((d : LayerRecord) → slice_cmp nat_cmp name (get_or items i d).name.items ≡ Equal) → Finds t name i
  found_here name i lt tie = finds_at t name i (omega (arith, lt, as_many))
      (λ d. name_at i d no_record lt
      ∙ sym (slice_cmp-IsAntisymmetric nat_cmp-IsAntisymmetric name (get_or items i no_record).name.items
      (tie no_record)))

  pub belongs_there : (name : List ℕ) (i : ℕ) → i ≤ length items
      → ((k : ℕ) (d : LayerRecord) → k < i → slice_cmp nat_cmp name (get_or items k d).name.items ≡ Greater)
      → ((d : LayerRecord) → i < length items → slice_cmp nat_cmp name (get_or items i d).name.items ≡ Less)
      → Belongs t name i
  belongs_there name i le above below = belongs_here t name i (omega (arith, le, as_many))
      (λ k d lt. ap (slice_cmp nat_cmp name) (name_at k d no_record (omega (arith, lt, le)))
      ∙ above k no_record lt)
      (λ d lt. let within : i < length items = omega (arith, lt, as_many) in
      ap (slice_cmp nat_cmp name) (name_at i d no_record within) ∙ below no_record within)
