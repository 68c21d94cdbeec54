-- A layer that goes: the table has one less, and the pages hold it.
use Rattle.std.proofs.Common.{◌≡◌, ◌∙◌, ℕ, zero, suc, ◌+◌, ◌-◌, ◌^◌, ◌<◌, ◌≤◌, List, [], ◌∷◌, length, get_or}
use Rattle.std.proofs.Common.{map, Bool, true, false, cond, not, ◌&&◌, Option, None, Some, refl, sym, ap}
use Rattle.std.proofs.Common.{subst, arith, T, ⊎_elim}
use Rattle.std.specs.Prelude.{is_some, sum_by}
use Rattle.std.specs.Cmp.{IsTotalOrder, alike_right, eq_by_cmp_equiv}
use Rattle.std.specs.Cmp.Lexicographic.{nat_list_cmp_total, slice_cmp}
use Rattle.std.specs.FinMap.{contains_key, entries, entries-from_sorted, entries_sorted, find, from_sorted}
use Rattle.std.specs.FinMap.{get, get-entries, get-from_sorted, get-remove, is_sorted, len}
use Rattle.std.specs.FinMap.{nat_cmp-IsAntisymmetric, remove as map_remove, same_map}
use Rattle.std.specs.FinMap.{slice_cmp-IsAntisymmetric}
use Rattle.std.specs.FinMap.Entries.{below_all, find_tied}
use Rattle.std.specs.List.{All, Contains, remove}
use Rattle.std.specs.Ordering.{eq_by_cmp, is_eq, nat_cmp}
use Rattle.std.specs.declared.cmp.Ordering.{Ordering}
use Rattle.std.specs.declared.cmp.Ordering.TheVariants.{Less, Equal, Greater}
use Rattle.std.proofs.lemmas.Bool.{cases_lt}
use Rattle.std.proofs.lemmas.List.{get_or-map, length-map}
use Rattle.std.proofs.lemmas.List.Edits.{get_or-remove_above, get_or-remove_below, length-remove}
use Rattle.std.proofs.lemmas.List.Elements.{All-weaker}
use Rattle.std.proofs.lemmas.List.Sums.{sum_by-remove}
use Rattle.catalog_page.specs.Layout.{Record, record_of, records_of}
use Rattle.catalog_page.specs.declared.layer_record.LayerRecord.{LayerRecord}
use Rattle.layer_pages.specs.Layers.{part_of_layer}
use Rattle.node_page.specs.Parts.{IsAllOf, Moves, both, no_page}
use Rattle.node_page.specs.Standing.{PageMap}
use Rattle.node_page.proofs.PartLemmas.{all_of_same, all_pages_move, the_rest_stays}
use Rattle.page_cache.specs.Cache.{IsPageMap, next_of, pages, version_of}
use Rattle.plain_table.specs.Commands.Command.{Drop}
use Rattle.plain_table.specs.Laws.{a_change_makes_another_table}
use Rattle.plain_table.specs.Step.{after, refusal_of}
use Rattle.page_file.specs.declared.header.Version.{Version}
use Rattle.plain_table.specs.Table.{Layer, Table, layer_at, most_objects, object_count}
use Rattle.plain_table.specs.declared.refusal.Refusal.{Refusal}
use Rattle.tree_node.specs.Trees.{Tree}
use Rattle.live_layers.specs.Catalog.{AreLayers, is_good_catalog, is_layer_record}
use Rattle.live_layers.specs.Dropping.{KeepsOtherTrees}
use Rattle.live_layers.specs.Keeping.{Finds, IsSound}
use Rattle.live_layers.specs.Layers.{AllowsTable, Holds, IsTreeOf, LayersStand, Reading, entry_of, in_use}
use Rattle.live_layers.specs.Layers.{of_layer, of_layers, row_of}
use Rattle.live_layers.specs.declared.layers.Layers.{Layers}
use Rattle.live_layers.proofs.AskLemmas.{named_there}
use Rattle.live_layers.proofs.CatalogGood.{more_record}
use Rattle.plain_table.proofs.EntryLemmas.{left_of, less_is, right_of}
use Rattle.live_layers.proofs.FindLemmas.{below_at, finds_at, no_reading, ties}
use Rattle.live_layers.proofs.HoldLemmas.{catalog_good, few_objects, here, in_layers, in_records, other_place}
use Rattle.live_layers.proofs.HoldLemmas.{other_stays, rows_good, the_rest, used_here}
use Rattle.live_layers.proofs.LayerLemmas.{layer_stays, layers_stay, of_others}
use Rattle.live_layers.proofs.LoadLemmas.{counted_there}
use Rattle.live_layers.proofs.ReplaceLemmas.{reading, same_tree_of}
use Rattle.live_layers.proofs.TableLemmas.{layer_found}

-- ---- a list without one of its elements

pub map-remove : {X Y : Type 0} (f : X → Y) (xs : List X) (i : ℕ) → map f (remove xs i) ≡ remove (map f xs) i
map-remove f [] zero = refl
map-remove f [] (suc i) = refl
map-remove f (x ∷ xs) zero = refl
map-remove f (x ∷ xs) (suc i) = ap (λ ys. f x ∷ ys) (map-remove f xs i)

pub All-remove : {X : Type 0} (P : X → Type 0) (xs : List X) (i : ℕ) → i < length xs → All P xs
    → All P (remove xs i)
All-remove P xs i within all = λ k d lt. ⊎_elim
    (λ (less : k < i). subst P (sym (get_or-remove_below xs i d k less within))
    (all k d (omega (arith, less, within))))
    (λ (more : i ≤ k). subst P (sym (get_or-remove_above xs i d k more within))
    (all (k + 1) d (omega (arith, lt, length-remove xs i within))))
    (cases_lt k i)

-- an element at another place stays
pub contains_less : {X : Type 0} (xs : List X) (i k : ℕ) (x : X) → i < length xs → k < length xs → ¬ (k ≡ i)
    → get_or xs k x ≡ x → Contains (remove xs i) x
contains_less xs i k x within lt apart is = ⊎_elim
    (λ (less : k < i). (
      k,
      omega (arith, less, within, length-remove xs i within),
      get_or-remove_below xs i x k less within
          ∙ is,
    ))
    (λ (more : i ≤ k).
    let above : i < k = omega (arith, more, apart) in
    let back : k - 1 + 1 ≡ k = omega (arith, above) in (
      k - 1,
      omega (arith, above, lt, length-remove xs i within),
      get_or-remove_above xs i x (k - 1) (omega (arith, above)) within ∙ ap (λ (j : ℕ). get_or xs j x) back
          ∙ is,
    ))
    (cases_lt k i)

-- ---- entries without one of them

both_of : (a b : Bool) → T a → T b → T (a && b)
both_of true b p q = q
both_of false b p q = p

tied : (r : Ordering) → is_eq r ≡ true → r ≡ Equal
tied Less h = absurd (cc)
tied Equal h = refl
tied Greater h = absurd (cc)

not_both : (r : Ordering) → r ≡ Equal → r ≡ Less → ⊥
not_both r equal less = let no : Equal ≡ Less = sym equal ∙ less in absurd (cc)

module _ {K X : Type 0} (R : K → K → Ordering) where
  below_less : (x : K) (es : List (K × X)) (i : ℕ) → T (below_all R x es) → T (below_all R x (remove es i))
  below_less x [] zero h = tt
  below_less x [] (suc i) h = tt
  below_less x (e ∷ es) zero h = right_of _ _ h
  below_less x (e ∷ es) (suc i) h = both_of _ _ (left_of _ _ h) (below_less x es i (right_of _ _ h))

  sorted_less : (es : List (K × X)) (i : ℕ) → T (is_sorted R es) → T (is_sorted R (remove es i))
  sorted_less [] zero h = tt
  sorted_less [] (suc i) h = tt
  sorted_less (e ∷ es) zero h = right_of _ _ h
  sorted_less (e ∷ es) (suc i) h =
      both_of _ _ (below_less e.0 es i (left_of _ _ h)) (sorted_less es i (right_of _ _ h))

  -- a key below all others is not among them
  absent_above : (x : K) (es : List (K × X)) → T (below_all R x es) → find R x es ≡ None
  absent_above x [] h = refl
  absent_above x (e ∷ es) h =
      ap (λ (r : Ordering). cond (is_eq r) (Some e.1) (find R x es)) (less_is (R x e.0) (left_of _ _ h))
      ∙ absent_above x es (right_of _ _ h)

  module _ (o : IsTotalOrder R) (k q : K) where
    -- the first entry goes
    first_goes : (e : K × X) (es : List (K × X)) → R k e.0 ≡ Equal → T (below_all R e.0 es)
        → find R q es ≡ cond (eq_by_cmp R q k) None (find R q (e ∷ es))
    first_goes e es tie below = case (eq_by_cmp R q k) refl
      where
        same : eq_by_cmp R q e.0 ≡ eq_by_cmp R q k
        same = sym (ap is_eq (alike_right o k e.0 q tie))

        case : (b : Bool) → eq_by_cmp R q k ≡ b → find R q es ≡ cond b None (find R q (e ∷ es))
        case true e' = sym (find_tied R o q e.0 (tied (R q e.0) (same ∙ e')) es) ∙ absent_above e.0 es below
        case false e' = sym (ap (λ (b : Bool). cond b (Some e.1) (find R q es)) (same ∙ e'))

    -- one behind it goes
    later_goes : (a b : Bool) (v x : Option X) → (a ≡ true → b ≡ true → ⊥)
        → cond a v (cond b None x) ≡ cond b None (cond a v x)
    later_goes true true v x apart = absurd (apart refl refl)
    later_goes true false v x apart = refl
    later_goes false b v x apart = refl

    find_less : (es : List (K × X)) (i : ℕ) → i < length es → T (is_sorted R es)
        → ((d : K × X) → R k (get_or es i d).0 ≡ Equal)
        → find R q (remove es i) ≡ cond (eq_by_cmp R q k) None (find R q es)
    find_less [] i lt sorted tie = absurd (omega (arith, lt))
    find_less (e ∷ es) zero lt sorted tie = first_goes e es (tie e) (left_of _ _ sorted)
    find_less (e ∷ es) (suc i) lt sorted tie =
        let within : i < length es = omega (arith, lt) in
        let below : R e.0 (get_or es i e).0 ≡ Less = below_at R e.0 es i e within (left_of _ _ sorted) in
        let rest : find R q (remove es i) ≡ cond (eq_by_cmp R q k) None (find R q es) =
        find_less es i within (right_of _ _ sorted) tie in
        ap (λ (x : Option X). cond (eq_by_cmp R q e.0) (Some e.1) x) rest
        ∙ later_goes (eq_by_cmp R q e.0) (eq_by_cmp R q k) (Some e.1) (find R q es)
        (λ here there.
        let equal : R q (get_or es i e).0 ≡ Equal = sym (alike_right o k (get_or es i e).0 q (tie e))
        ∙ tied (R q k) there in
        let less : R q (get_or es i e).0 ≡ Less = o.congr q e.0 (get_or es i e).0 (tied (R q e.0) here)
        ∙ below in
        not_both (R q (get_or es i e).0) equal less)

-- ---- the table

module _ (t : Table) (name : List ℕ) (place : ℕ) (finds : Finds t name place) where
  its_place : (d : List ℕ × Layer) → slice_cmp nat_cmp name (get_or (entries t) place d).0 ≡ Equal
  its_place d = ap (slice_cmp nat_cmp name) (finds.named d) ∙ ties name

  left : T (is_sorted (slice_cmp nat_cmp) (remove (entries t) place))
  left = sorted_less (slice_cmp nat_cmp) (entries t) place (entries_sorted t)

  -- the layers that are left stand as they stood
  pub entries_less : entries (map_remove t name) ≡ remove (entries t) place
  entries_less =
      let es = remove (entries t) place in
      ap entries
      (same_map nat_list_cmp_total (slice_cmp-IsAntisymmetric nat_cmp-IsAntisymmetric)
      (map_remove t name) (from_sorted es)
      (λ q. get-remove nat_list_cmp_total t name q
      ∙ ap (λ (x : Option Layer). cond (eq_by_cmp (slice_cmp nat_cmp) q name) None x) (get-entries t q)
      ∙ sym (find_less (slice_cmp nat_cmp) nat_list_cmp_total name q (entries t) place finds.stands.within
      (entries_sorted t) its_place) ∙ sym (get-from_sorted (slice_cmp nat_cmp) es q left)))
      ∙ entries-from_sorted (slice_cmp nat_cmp) es left

  -- with the objects of the layer that goes there are as many as before
  pub fewer_objects : object_count (map_remove t name) + len (layer_at t name).objects ≡ object_count t
  fewer_objects =
      let value : List ℕ × Layer → Layer = λ e. e.1 in
      let size : Layer → ℕ = λ l. len l.objects in
      let d : List ℕ × Layer = (name, layer_at t name) in
      let is : map value (entries (map_remove t name)) ≡ remove (map value (entries t)) place =
      ap (map value) entries_less ∙ map-remove value (entries t) place in
      let there : get_or (map value (entries t)) place (value d) ≡ layer_at t name =
      get_or-map value (entries t) place d (value d) finds.stands.within
      ∙ sym (layer_found t name place finds d) in
      omega (
        arith,
        ap (sum_by size) is,
        sum_by-remove size (map value (entries t)) place (value d)
            (omega (arith, finds.stands.within, length-map (entries t) value)),
        ap size there,
      )

-- no layer has the name any more
pub none_left : (t : Table) (name : List ℕ) → contains_key (map_remove t name) name ≡ false
none_left t name =
    ap is_some
    (get-remove nat_list_cmp_total t name name
    ∙ ap (λ (b : Bool). cond b None (get t name)) ((eq_by_cmp_equiv nat_list_cmp_total).refl name))

pub it_shrinks : (t : Table) (name : List ℕ) → refusal_of t (Drop name) ≡ None → ¬ (after t (Drop name) ≡ t)
it_shrinks t name none =
    a_change_makes_another_table t (Drop name) (ap (λ (o : Option Refusal). not (is_some o)) none)

-- ---- the records

-- the record that is taken out
pub taken_out : (items xs : List LayerRecord) (place : ℕ) → xs ≡ remove items place
    → map record_of xs ≡ remove (map record_of items) place
taken_out items xs place is = ap (map record_of) is ∙ map-remove record_of items place

-- records of layers that may be, and one less
pub one_less_may_be : (records new : List Record) (place : ℕ) → place < length records
    → new ≡ remove records place → AreLayers records → AreLayers new
one_less_may_be records new place lt is each =
    subst AreLayers (sym is)
    (All-remove (λ (r : Record). is_layer_record (2 ^ 31) r ≡ true) records place lt each)

-- ---- the pages

others_left : (hs : List Reading) (i n : ℕ) → of_layers (remove hs i) n ≡ of_others hs i n
others_left [] zero n = refl
others_left [] (suc i) n = refl
others_left (h ∷ hs) zero n = refl
others_left (h ∷ hs) (suc i) n = omega (arith, others_left hs i n)

others_stand : (old new : PageMap) (hs : List Reading) (i : ℕ)
    → ((n : ℕ) → 0 < of_others hs i n → new n ≡ old n) → LayersStand old hs → LayersStand new (remove hs i)
others_stand old new [] zero same all = tt
others_stand old new [] (suc i) same all = tt
others_stand old new (h ∷ hs) zero same all = layers_stay old new hs same all.1
others_stand old new (h ∷ hs) (suc i) same all = (
  layer_stays old new h (λ n p. same n (omega (arith, p))) all.0,
  others_stand old new hs i (λ n p. same n (omega (arith, p))) all.1,
)

-- the layer of a record is in the table
pub has_layer : {version : Version} (pages : PageMap) (next : ℕ) (records : List Record) (t : Table)
    (h : Holds pages next version records t) (r : Record) → Contains records r → contains_key t r.name ≡ true
has_layer pages next records t h r (k, lt, is) =
    let within : k < length h.layers = omega (arith, lt, ap length h.rows, length-map h.layers row_of) in
    let row : r ≡ (get_or h.layers k no_reading).row = sym is
    ∙ ap (λ (rs : List Record). get_or rs k r) (sym h.rows)
    ∙ get_or-map row_of h.layers k no_reading r within in
    named_there t r.name k
    (finds_at t r.name k (omega (arith, within, ap length h.table, length-map h.layers entry_of))
    (λ d. ap (λ (es : List (List ℕ × Layer)). (get_or es k d).0) (sym h.table)
    ∙ ap (λ (e : List ℕ × Layer). e.0) (get_or-map entry_of h.layers k no_reading d within)
    ∙ sym (ap (λ (x : Record). x.name) row)))

module _ {version : Version} (old new : PageMap) (next next' : ℕ) (records : List Record) (t : Table)
    (h : Holds old next version records t) (name : List ℕ) (place : ℕ) (finds : Finds t name place)
    (moves : Moves old new (of_layer (here old next records t h name place finds)) no_page)
    (le : next ≤ next') where
  abbrev was : Reading
  was = here old next records t h name place finds

  used : IsAllOf old (both (of_layer was) (the_rest old next records t h name place finds))
  used = used_here old next records t h name place finds

  used_less : IsAllOf new (both no_page (the_rest old next records t h name place finds))
  used_less =
      all_pages_move old new (of_layer was) no_page (the_rest old next records t h name place finds) used
      moves

  -- the pages of the other layers stay
  others_stay : (n : ℕ) → 0 < of_others h.layers place n → new n ≡ old n
  others_stay n p =
      (the_rest_stays old new (of_layer was) no_page (the_rest old next records t h name place finds) moves
      (λ m q. used.live m (omega (arith, q))) used.once n (omega (arith, p))).0

  table_less : map entry_of (remove h.layers place) ≡ entries (map_remove t name)
  table_less = map-remove entry_of h.layers place
      ∙ ap (λ (es : List (List ℕ × Layer)). remove es place) h.table ∙ sym (entries_less t name place finds)

  rows_less : map row_of (remove h.layers place) ≡ remove records place
  rows_less = map-remove row_of h.layers place ∙ ap (λ (rs : List Record). remove rs place) h.rows

  stand_less : LayersStand new (remove h.layers place)
  stand_less = others_stand old new h.layers place others_stay h.stand

  each_less : All (λ (r : Record). is_layer_record next' r ≡ true) (map row_of (remove h.layers place))
  each_less =
      subst (λ (rs : List Record). All (λ (r : Record). is_layer_record next' r ≡ true) rs)
      (sym (map-remove row_of h.layers place))
      (All-remove (λ (r : Record). is_layer_record next' r ≡ true) (map row_of h.layers) place
      (omega (arith, in_layers old next records t h name place finds, length-map h.layers row_of))
      (All-weaker (λ (r : Record). is_layer_record next r ≡ true)
      (λ (r : Record). is_layer_record next' r ≡ true) (λ r e. more_record next next' r le e)
      (map row_of h.layers) (rows_good old next records t h)))

  few : object_count (map_remove t name) ≤ most_objects
  few = omega (arith, fewer_objects t name place finds, few_objects old next records t h)

  -- so the new pages hold the table without it
  pub holds_less : Holds new next' version (remove records place) (map_remove t name)
  holds_less = record {
    layers = remove h.layers place;
    rows = rows_less;
    table = table_less;
    stand = stand_less;
    allowed = All-remove (AllowsTable version) h.layers place
        (in_layers old next records t h name place finds) h.allowed;
    used = all_of_same new (both no_page (the_rest old next records t h name place finds))
        (in_use (remove h.layers place)) (λ n. omega (arith, others_left h.layers place n)) used_less;
    good = subst (λ (rs : List Record). is_good_catalog next' rs ≡ true) rows_less
        (catalog_good new next' (remove h.layers place) (map_remove t name) stand_less table_less each_less
        few);
  }

  -- no layer has the name any more
  pub none_named : (s : Tree) → ¬ IsTreeOf new (remove records place) name s
  none_named s there =
      let has : contains_key (map_remove t name) name ≡ true =
      subst (λ (n : List ℕ). contains_key (map_remove t name) n ≡ true) there.named
      (has_layer new next' (remove records place) (map_remove t name) holds_less there.row there.among) in
      let no : true ≡ false = sym has ∙ none_left t name in absurd (cc)

  -- and the trees of the others stay
  pub others_left_stay : (other : List ℕ) (s : Tree) → ¬ (other ≡ name) → IsTreeOf old records other s
      → IsTreeOf new (remove records place) other s
  others_left_stay other s ne there =
      let k = there.among.0 in
      let apart =
      other_place old next records t h name place finds other there.row k ne there.named there.among.2 in
      record {
        row = there.row;
        among = contains_less records place k there.row (in_records old next records t h name place finds)
            there.among.1 apart there.among.2;
        named = there.named;
        tree = other_stays old next records t h name place finds new others_stay there.row k s there.among.1
            there.among.2 apart there.tree;
      }

-- ---- the layers

module _ {D A : Type 0} {m : _} (kept new : Layers D A m) (t : Table) (name : List ℕ) (place : ℕ)
    (sound : IsSound kept t) (finds : Finds t name place)
    (moves : Moves (pages kept.cache) (pages new.cache)
    (part_of_layer (reading kept t name place sound finds).pages) no_page)
    (le : next_of kept.cache ≤ next_of new.cache) (version : version_of new.cache ≡ version_of kept.cache)
    (records : records_of new.records ≡ remove (records_of kept.records) place) where
  -- they are sound without it
  pub sound_less : (count : ℕ) → ((d : Record) → count ≡ (get_or (records_of kept.records) place d).count)
      → IsPageMap new.cache → new.object_count ≡ kept.object_count - count → new.written ≡ false
      → IsSound new (map_remove t name)
  sound_less count is is_map total unwritten =
      let its : len (layer_at t name).objects ≡ count =
      counted_there kept t name place sound finds count is in
      let left : new.object_count ≡ object_count (map_remove t name) =
      omega (arith, total, its, fewer_objects t name place finds, sound.counted) in
      record {
        map = is_map;
        holds = subst
            (λ (rs : List Record). Holds (pages new.cache) (next_of new.cache) (version_of new.cache) rs
            (map_remove t name))
            (sym records)
            (subst (λ (v : Version). Holds (pages new.cache) (next_of new.cache) v
            (remove (records_of kept.records) place) (map_remove t name)) (sym version)
            (holds_less (pages kept.cache) (pages new.cache) (next_of kept.cache) (next_of new.cache)
            (records_of kept.records) t sound.holds name place finds moves le));
        counted = left;
        within = omega (arith, total, sound.within);
        catalog = λ w. let no : true ≡ false = sym w ∙ unwritten in absurd (cc);
      }

  -- and the trees of all others stay
  pub trees_left : KeepsOtherTrees kept new name
  trees_left = record {
    gone = λ s there. none_named (pages kept.cache) (pages new.cache) (next_of kept.cache)
        (next_of new.cache) (records_of kept.records) t sound.holds name place finds moves le s
        (subst (λ (rs : List Record). IsTreeOf (pages new.cache) rs name s) records there);
    others =
        λ other s apart there. subst (λ (rs : List Record). IsTreeOf (pages new.cache) rs other s)
        (sym records)
        (others_left_stay (pages kept.cache) (pages new.cache) (next_of kept.cache) (next_of new.cache)
        (records_of kept.records) t sound.holds name place finds moves le other s apart there);
  }

-- the trees that stay, said of the layers before, whose pages and records are the same
pub keeps_before : {D A : Type 0} {m : _} (old kept new : Layers D A m) (name : List ℕ)
    → ((n : ℕ) → pages kept.cache n ≡ pages old.cache n) → records_of kept.records ≡ records_of old.records
    → KeepsOtherTrees kept new name → KeepsOtherTrees old new name
keeps_before old kept new name same records keeps = record {
  gone = keeps.gone;
  others = λ other t apart there.
      keeps.others other t apart
      (same_tree_of (pages old.cache) (pages kept.cache) (records_of old.records)
      (records_of kept.records) (λ n. sym (same n)) (sym records) other t there);
}
