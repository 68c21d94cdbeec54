-- A layer that is made: the table has one more, and the pages hold it.
use Rattle.std.proofs.Common.{◌≡◌, ◌∙◌, ℕ, ◌+◌, ◌<◌, ◌≤◌, ◌^◌, List, length, map, true, false, cond, Bool}
use Rattle.std.proofs.Common.{◌&&◌, refl, sym, ap, subst, arith, ⊎_elim}
use Rattle.std.specs.Prelude.{None, Some, IsSome, sum_by}
use Rattle.std.specs.Cmp.Derive.{both_true}
use Rattle.std.specs.Cmp.Lexicographic.{nat_list_cmp_total}
use Rattle.std.specs.FinMap.{contains_key, empty, entries, insert as map_insert, len, len-empty, len-entries}
use Rattle.std.specs.FinMap.{len-insert}
use Rattle.std.specs.List.{Contains, insert}
use Rattle.std.specs.Ordering.{nat_cmp}
use Rattle.std.proofs.lemmas.Bool.{cases_lt}
use Rattle.std.proofs.lemmas.List.{length-map}
use Rattle.std.proofs.lemmas.List.Edits.{get_or-insert_above, get_or-insert_at, get_or-insert_below}
use Rattle.std.proofs.lemmas.List.Edits.{length-insert}
use Rattle.std.proofs.lemmas.List.Sums.{sum_by-insert}
use Rattle.box_math.specs.Objects.{Object}
use Rattle.catalog_page.specs.Layout.{Record, record_of, records_of}
use Rattle.catalog_page.specs.declared.layer_record.LayerRecord.{LayerRecord}
use Rattle.id_table.specs.declared.kind.TableKind.{TableKind}
use Rattle.id_table.specs.declared.kind.TableKind.TheVariants as kinds
use Rattle.layer_pages.specs.Changes.{BecomesLayer, IsEmptyLeaf}
use Rattle.layer_pages.specs.Layers.{CanBeRoot}
use Rattle.node_page.specs.Parts.{no_page}
use Rattle.page_cache.specs.Cache.{IsPageMap, next_of, pages, version_of}
use Rattle.page_cache.specs.Laws.{a_live_page_was_given_out}
use Rattle.node_page.specs.Standing.{PageMap}
use Rattle.page_file.specs.declared.header.Version.{Version}
use Rattle.page_file.specs.declared.header.Version.TheVariants.{Two, Three}
use Rattle.plain_table.specs.Commands.Command.{Create}
use Rattle.plain_table.specs.Step.{after, changed, kept_or, refusal_of}
use Rattle.plain_table.specs.Table.{Layer, Table, is_dims, is_fanout, is_layer_name, most_objects}
use Rattle.plain_table.specs.Table.{object_count}
use Rattle.plain_table.specs.declared.refusal.Refusal.TheVariants as refusal
use Rattle.tree_node.specs.Trees.{Tree}
use Rattle.tree_node.specs.declared.node.Root.{Root}
use Rattle.live_layers.specs.Catalog.{AreLayers, is_layer, is_layer_record}
use Rattle.live_layers.specs.Creating.{BringsTree, MayBeLayer, kind_in, new_layer, version_after}
use Rattle.live_layers.specs.Keeping.{Belongs, IsSound}
use Rattle.live_layers.specs.Layers.{Holds, IsTreeOf, LayerStands, Reading, entry_of, of_layers, row_of}
use Rattle.live_layers.specs.declared.layers.Layers.{Layers}
use Rattle.live_layers.proofs.CatalogGood.{All-insert, a_page, from_parts}
use Rattle.live_layers.proofs.HoldLemmas.{all_stay, holds_more, map-insert, trees_stay}
use Rattle.live_layers.proofs.ReplaceLemmas.{same_tree_of}
use Rattle.live_layers.proofs.TableLemmas.{entries_more}

-- ---- refusals

pub bad_name : (t : Table) (name : List ℕ) (dims fanout : ℕ) → is_layer_name name ≡ false
    → refusal_of t (Create name dims fanout) ≡ Some refusal.BadName
bad_name t name dims fanout e = rw e refl

pub bad_dims : (t : Table) (name : List ℕ) (dims fanout : ℕ) → is_layer_name name ≡ true
    → is_dims dims ≡ false → refusal_of t (Create name dims fanout) ≡ Some refusal.BadDims
bad_dims t name dims fanout good e = rw (good, e) refl

pub bad_fanout : (t : Table) (name : List ℕ) (dims fanout : ℕ) → is_layer_name name ≡ true
    → is_dims dims ≡ true → is_fanout fanout ≡ false
    → refusal_of t (Create name dims fanout) ≡ Some refusal.BadFanout
bad_fanout t name dims fanout good d e = rw (good, d, e) refl

-- ---- the table

-- as many objects as before, and one layer more
pub no_more_objects : (t : Table) (name : List ℕ) (place dims fanout : ℕ) → Belongs t name place
    → object_count (map_insert t name (new_layer dims fanout)) ≡ object_count t
no_more_objects t name place dims fanout belongs =
    let layer = new_layer dims fanout in
    let value : List ℕ × Layer → Layer = λ e. e.1 in
    let size : Layer → ℕ = λ l. len l.objects in
    let is : map value (entries (map_insert t name layer)) ≡ insert (map value (entries t)) place layer =
    ap (map value) (entries_more t name place belongs layer)
    ∙ map-insert value (entries t) place (name, layer) in
    omega (
      arith,
      ap (sum_by size) is,
      sum_by-insert size (map value (entries t)) place layer,
      len-empty nat_cmp Object,
    )

pub one_more_layer : (t : Table) (name : List ℕ) (layer : Layer) → contains_key t name ≡ false
    → len (map_insert t name layer) ≡ len t + 1
one_more_layer t name layer absent = len-insert nat_list_cmp_total t name layer
    ∙ ap (λ (b : Bool). cond b (len t) (len t + 1)) absent

pub it_grows : (t : Table) (name : List ℕ) (dims fanout : ℕ) → refusal_of t (Create name dims fanout) ≡ None
    → contains_key t name ≡ false → ¬ (after t (Create name dims fanout) ≡ t)
it_grows t name dims fanout none absent = λ same.
    let then : after t (Create name dims fanout) ≡ map_insert t name (new_layer dims fanout) =
    ap (λ o. kept_or o t (changed t (Create name dims fanout))) none in
    omega (arith, ap len (sym then ∙ same), one_more_layer t name (new_layer dims fanout) absent)

-- ---- the records

-- the record of a layer that is made
abbrev pub made_record : List ℕ → ℕ → ℕ → Root → ℕ → Record
made_record name dims fanout root ids_root =
    record {
      name = name;
      dims = dims;
      fanout = fanout;
      level = root.level;
      root = root.page;
      ids_root = ids_root;
      count = 0;
    }

is_layer_made : (name : List ℕ) (dims fanout : ℕ) (root : Root) (ids_root : ℕ) → MayBeLayer name dims fanout
    → is_layer (made_record name dims fanout root ids_root) ≡ true
is_layer_made name dims fanout root ids_root may =
    both_true {s = is_layer_name name && is_dims dims} {t = is_fanout fanout}
    (both_true {s = is_layer_name name} {t = is_dims dims} may.named may.axes) may.sized

-- records of layers that may be, and one more
pub one_more_may_be : (records : List Record) (place : ℕ) (name : List ℕ) (dims fanout : ℕ) (root : Root)
    (ids_root : ℕ) → MayBeLayer name dims fanout → CanBeRoot root → 3 ≤ ids_root → ids_root < 2 ^ 31
    → (new : List Record) → new ≡ insert records place (made_record name dims fanout root ids_root)
    → AreLayers records → AreLayers new
one_more_may_be records place name dims fanout root ids_root may can low below new is each =
    subst AreLayers (sym is)
    (All-insert (λ (r : Record). is_layer_record (2 ^ 31) r ≡ true) records place
    (made_record name dims fanout root ids_root)
    (from_parts (2 ^ 31) (made_record name dims fanout root ids_root)
    (record {
      layer = is_layer_made name dims fanout root ids_root may;
      low = can.level;
      root = a_page (2 ^ 31) root.page can.page.0 can.page.1;
      ids_root = a_page (2 ^ 31) ids_root low below;
    })) each)

-- the record that is put in
pub put_in : (items xs : List LayerRecord) (place : ℕ) (r : LayerRecord) (row : Record)
    → xs ≡ insert items place r → record_of r ≡ row
    → map record_of xs ≡ insert (map record_of items) place row
put_in items xs place r row is same = ap (map record_of) is ∙ map-insert record_of items place r
    ∙ ap (insert (map record_of items) place) same

-- an element stays where another comes in
contains_more : {X : Type 0} (xs : List X) (i : ℕ) (y x : X) → i ≤ length xs → Contains xs x
    → Contains (insert xs i y) x
contains_more xs i y x le (k, lt, is) = ⊎_elim
    (λ (less : k < i).
    (k, omega (arith, lt, length-insert xs i y le), get_or-insert_below xs i y x k less le ∙ is))
    (λ (more : i ≤ k).
    (k + 1, omega (arith, lt, length-insert xs i y le), get_or-insert_above xs i y x k more le ∙ is))
    (cases_lt k i)

-- ---- the version

pub version_made : (newest was mid now : Version) (kind : TableKind) → kind ≡ kind_in newest
    → (kind ≡ kinds.Chains → now ≡ mid) → (kind ≡ kinds.Tree → now ≡ Three) → mid ≡ was → now ≡ version_after newest was
version_made Two was mid now kind is chains tree same = chains is ∙ same
version_made Three was mid now kind is chains tree same = tree is

-- below version 3 a layer was made with chains, and no version was raised
by_kind : (was now : Version) (kind : TableKind) → (kind ≡ kinds.Chains → now ≡ was)
    → (kind ≡ kinds.Tree → now ≡ Three) → now ≡ Two → (was ≡ Two) × (kind ≡ kinds.Chains)
by_kind was now kinds.Chains chains tree two = (sym (chains refl) ∙ two, refl)
by_kind was now kinds.Tree chains tree two = let no : Three ≡ Two = sym (tree refl) ∙ two in absurd (cc)

-- a layer that was made stands where the pages stayed
pub made_still : (old mid new : PageMap) (dims fanout : ℕ) (kind : TableKind) (root : Root) (ids_root : ℕ)
    → ((n : ℕ) → new n ≡ mid n)
    → BecomesLayer dims fanout old mid no_page kind root ids_root empty IsEmptyLeaf
    → BecomesLayer dims fanout old new no_page kind root ids_root empty IsEmptyLeaf
made_still old mid new dims fanout kind root ids_root same =
    subst (λ (p : PageMap). BecomesLayer dims fanout old p no_page kind root ids_root empty IsEmptyLeaf)
    (λ i n. sym (same n) i)

-- ---- the pages

module _ {D A : Type 0} {m : _} (kept new : Layers D A m) (t : Table) (name : List ℕ) (place : ℕ)
    (sound : IsSound kept t) (belongs : Belongs t name place) (dims fanout : ℕ)
    (may : MayBeLayer name dims fanout)
    (root : Root) (ids_root : ℕ) (kind : TableKind)
    (became : BecomesLayer dims fanout (pages kept.cache) (pages new.cache) no_page kind root ids_root empty
    IsEmptyLeaf) (can : CanBeRoot root) (le : next_of kept.cache ≤ next_of new.cache)
    (chains : kind ≡ kinds.Chains → version_of new.cache ≡ version_of kept.cache)
    (tree : kind ≡ kinds.Tree → version_of new.cache ≡ Three)
    (records : records_of new.records ≡ insert (records_of kept.records) place
    (made_record name dims fanout root ids_root)) where
  abbrev made : Reading
  made = record {
    row = made_record name dims fanout root ids_root;
    pages = became.layer;
    layer = new_layer dims fanout;
  }

  stands : LayerStands (pages new.cache) made
  stands =
      record {
        at = became.stands;
        dims = refl;
        fanout = refl;
        count = sym (len-entries empty) ∙ len-empty nat_cmp Object;
      }

  -- the version was raised, or the new layer's table is of chains
  raised : version_of new.cache ≡ Two → (version_of kept.cache ≡ Two) × (kind ≡ kinds.Chains)
  raised two = by_kind (version_of kept.cache) (version_of new.cache) kind chains tree two

  given : (n : ℕ) → IsSome (pages new.cache n) → (2 ≤ n) × (n < next_of new.cache)
  given n live = let l = a_live_page_was_given_out new.cache n live in (l.0, l.1)

  few : object_count (map_insert t name (new_layer dims fanout)) ≤ most_objects
  few = omega (arith, no_more_objects t name place dims fanout belongs, sound.within, sound.counted)

  held : Holds (pages new.cache) (next_of new.cache) (version_of new.cache)
      (insert (records_of kept.records) place (made_record name dims fanout root ids_root))
      (map_insert t name (new_layer dims fanout))
  held = holds_more (pages kept.cache) (pages new.cache) (next_of kept.cache) (next_of new.cache)
      (records_of kept.records) t sound.holds name place belongs made stands (λ two. (raised two).0)
      (λ two. became.kind_is ∙ (raised two).1) refl became.moves le given
      (is_layer_made name dims fanout root ids_root may) can.level few

  -- the layers are sound with the table that has one more
  pub sound_made : IsPageMap new.cache → new.object_count ≡ kept.object_count → new.written ≡ false
      → IsSound new (map_insert t name (new_layer dims fanout))
  sound_made is_map total unwritten = record {
    map = is_map;
    holds = subst
        (λ (rs : List Record). Holds (pages new.cache) (next_of new.cache) (version_of new.cache) rs
        (map_insert t name (new_layer dims fanout))) (sym records) held;
    counted = total ∙ sound.counted ∙ sym (no_more_objects t name place dims fanout belongs);
    within = omega (arith, total, sound.within);
    catalog = λ w. let no : true ≡ false = sym w ∙ unwritten in absurd (cc);
  }

  -- the pages of the layers that were there stay
  theirs_stay : (n : ℕ) → 0 < of_layers sound.holds.layers n → pages new.cache n ≡ pages kept.cache n
  theirs_stay =
      all_stay (pages kept.cache) (pages new.cache) (next_of kept.cache) (next_of new.cache)
      (records_of kept.records) t sound.holds name place belongs made stands (λ two. (raised two).0)
      (λ two. became.kind_is ∙ (raised two).1) refl became.moves le given
      (is_layer_made name dims fanout root ids_root may) can.level few

  -- and so do their trees
  their_trees_stay : (other : List ℕ) (s : Tree)
      → IsTreeOf (pages kept.cache) (records_of kept.records) other s
      → IsTreeOf (pages new.cache) (records_of kept.records) other s
  their_trees_stay =
      trees_stay (pages kept.cache) (next_of kept.cache) (records_of kept.records) t sound.holds
      (pages new.cache) theirs_stay

  place_within : place ≤ length (records_of kept.records)
  place_within =
      omega (
        arith,
        belongs.within,
        ap length sound.holds.table,
        length-map sound.holds.layers entry_of,
        ap length sound.holds.rows,
        length-map sound.holds.layers row_of,
      )

  -- its tree is an empty leaf
  pub tree_made : BringsTree kept new name IsEmptyLeaf
  unfolding stands
  tree_made =
      let K = records_of kept.records in
      let row = made_record name dims fanout root ids_root in
      record {
        now = became.layer.tree;
        after = subst (λ (rs : List Record). IsTreeOf (pages new.cache) rs name became.layer.tree)
            (sym records) (record {
              row = row;
              among = (
                place,
                omega (arith, place_within, length-insert K place row place_within),
                get_or-insert_at K place row row place_within,
              );
              named = refl;
              tree = became.stands.tree;
            });
        is_so = became.tree_is;
        others = λ other s was.
            let there = their_trees_stay other s was in
            subst (λ (rs : List Record). IsTreeOf (pages new.cache) rs other s) (sym records)
            (record {
              row = there.row;
              among = contains_more K place row there.row place_within there.among;
              named = there.named;
              tree = there.tree;
            });
      }

-- a tree that came in, said of the layers before, whose pages and records are the same
pub brings_before : {D A : Type 0} {m : _} (old kept new : Layers D A m) (name : List ℕ)
    (IsSo : Tree → Type 0) → ((n : ℕ) → pages kept.cache n ≡ pages old.cache n)
    → records_of kept.records ≡ records_of old.records
    → BringsTree kept new name IsSo → BringsTree old new name IsSo
brings_before old kept new name IsSo same records brings = record {
  now = brings.now;
  after = brings.after;
  is_so = brings.is_so;
  others =
      λ other t there. brings.others other t
      (same_tree_of (pages old.cache) (pages kept.cache) (records_of old.records) (records_of kept.records)
      (λ n. sym (same n)) (sym records) other t there);
}
