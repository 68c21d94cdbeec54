-- Pages that hold a table, and those that hold it with one layer replaced, or one more. Every change of one
-- layer is one of these.
use Rattle.std.proofs.Common.{◌≡◌, ◌∙◌, ℕ, zero, suc, ◌+◌, ◌<◌, ◌≤◌, List, [], ◌∷◌, length, get_or, map, true}
use Rattle.std.proofs.Common.{refl, sym, ap, subst, arith}
use Rattle.std.specs.Prelude.{IsSome, slice_set, sum_by}
use Rattle.std.specs.FinMap.{entries, len, len-entries, insert as map_insert}
use Rattle.std.specs.List.{All, insert}
use Rattle.std.proofs.lemmas.Bool.Decides.{nat_tests}
use Rattle.std.proofs.lemmas.List.{get_or-map, get_or-set_other, get_or-set_same, length-map, length-set}
use Rattle.std.proofs.lemmas.List.{map-set}
use Rattle.std.proofs.lemmas.List.Elements.{All-set, All-weaker}
use Rattle.std.proofs.lemmas.List.Sums.{sum_by-cons}
use Rattle.catalog_page.specs.Layout.{Record}
use Rattle.id_table.specs.Table.{page_of}
use Rattle.id_table.proofs.TableLemmas.{begins_in_itself}
use Rattle.node_page.specs.Parts.{IsAllOf, Moves, Part, both, no_page, one_page}
use Rattle.node_page.specs.Rooted.{IsTreeAt}
use Rattle.node_page.specs.Standing.{PageMap}
use Rattle.node_page.proofs.PartLemmas.{all_of_same, all_pages_move, the_rest_stays}
use Rattle.node_page.proofs.StandingLemmas.{equal_pages_stand, one_tree_stands}
use Rattle.page_file.specs.declared.header.Version.{Version}
use Rattle.page_file.specs.declared.header.Version.TheVariants.{Two}
use Rattle.plain_table.specs.Table.{Table, Layer, layer_at, most_objects, object_count}
use Rattle.tree_node.specs.Trees.{Tree, occurs_in}
use Rattle.live_layers.specs.Catalog.{is_good_catalog, is_layer, is_layer_record, is_page, objects_named}
use Rattle.live_layers.specs.Keeping.{Belongs, Finds}
use Rattle.live_layers.specs.Layers.{AllowsTable, Holds, IsTreeOf, LayerStands, LayersStand, Reading}
use Rattle.live_layers.specs.Layers.{entry_of, in_use, of_catalog, of_layer, of_layers, root_of, row_of}
use Rattle.live_layers.proofs.CatalogGood.{All-insert, a_page, each_good, few_good, from_parts, makes_good}
use Rattle.live_layers.proofs.CatalogGood.{more_record}
use Rattle.live_layers.proofs.FindLemmas.{no_reading}
use Rattle.live_layers.proofs.LayerLemmas.{layer_at_stands, layer_more, layer_replaced, layers_stay}
use Rattle.live_layers.proofs.LayerLemmas.{more_parts, of_others, one_and_others, other_part}
use Rattle.live_layers.proofs.LayerLemmas.{replaced_and_others}
use Rattle.live_layers.proofs.TableLemmas.{entries_after, entries_more, layer_found, names_of_table}

-- ---- counts and names

-- the layers have as many objects as their records say
counts_agree : (pages : PageMap) (hs : List Reading) → LayersStand pages hs
    → objects_named (map row_of hs) ≡ sum_by (λ (l : Layer). len l.objects)
    (map (λ (e : List ℕ × Layer). e.1) (map entry_of hs))
counts_agree pages [] stand = refl
counts_agree pages (h ∷ hs) stand =
    let size : Layer → ℕ = λ l. len l.objects in
    let count : Record → ℕ = λ r. r.count in
    let here : h.row.count ≡ size h.layer = sym stand.0.count ∙ sym (len-entries h.layer.objects) in
    sum_by-cons count h.row (map row_of hs)
    ∙ (λ i. here i + counts_agree pages hs stand.1 i)
    ∙ sym (sum_by-cons size h.layer (map (λ (e : List ℕ × Layer). e.1) (map entry_of hs)))

table_counts : (pages : PageMap) (hs : List Reading) (t : Table) → LayersStand pages hs
    → map entry_of hs ≡ entries t → objects_named (map row_of hs) ≡ object_count t
table_counts pages hs t stand table = counts_agree pages hs stand
    ∙ ap (λ (es : List (List ℕ × Layer)). sum_by (λ (l : Layer). len l.objects)
    (map (λ (e : List ℕ × Layer). e.1) es)) table

names_map : (hs : List Reading)
    → map (λ (r : Record). r.name) (map row_of hs) ≡ map (λ (e : List ℕ × Layer). e.0) (map entry_of hs)
names_map [] = refl
names_map (x ∷ xs) = ap (λ (ns : List (List ℕ)). x.row.name ∷ ns) (names_map xs)

-- readings that stand for a table of few objects, whose records are good, have a good catalog
pub catalog_good : (pages : PageMap) (next : ℕ) (hs : List Reading) (t : Table) → LayersStand pages hs
    → map entry_of hs ≡ entries t → All (λ (r : Record). is_layer_record next r ≡ true) (map row_of hs)
    → object_count t ≤ most_objects
    → is_good_catalog next (map row_of hs) ≡ true
catalog_good pages next hs t stand table each few = makes_good next (map row_of hs) each
    (names_of_table (map row_of hs) t (names_map hs ∙ ap (map (λ (e : List ℕ × Layer). e.0)) table))
    (omega (arith, few, table_counts pages hs t stand table))

-- ---- the pages of a layer beside the catalog

begins : (page : ℕ) → one_page page page ≡ 1
begins page = grind (arith, nat_tests)

not_the_catalog : (n : ℕ) → of_catalog n ≡ 0 → ¬ (n ≡ 2)
not_the_catalog n e is = let one : of_catalog n ≡ 1 = grind (arith, nat_tests) in omega (arith, e, one)

-- where all pages are those of a layer that stands and others, among them the catalog's, its record is good
pub record_good : (pages : PageMap) (next : ℕ) (h : Reading) (others : Part) → LayerStands pages h
    → IsAllOf pages (both (of_layer h) (both of_catalog others))
    → ((n : ℕ) → IsSome (pages n) → (2 ≤ n) × (n < next))
    → is_layer h.row ≡ true → h.row.level ≤ 40 → is_layer_record next h.row ≡ true
record_good pages next h others stands all given layer low =
    let part = both (of_layer h) (both of_catalog others) in
    let good : (n : ℕ) → 0 < of_layer h n → is_page next n ≡ true = λ n p.
    let where' = given n (all.live n (omega (arith, p))) in
    let apart = not_the_catalog n (omega (arith, all.once n, p)) in
    a_page next n (omega (arith, where'.0, apart)) where'.1 in
    let root = h.pages.tree.page in
    let ids_root = page_of h.pages.ids in
    from_parts next h.row (record {
      layer = layer;
      low = low;
      root = subst (λ (n : ℕ). is_page next n ≡ true) stands.at.tree.page_is
          (good root (omega (arith, begins root)));
      ids_root =
          subst (λ (n : ℕ). is_page next n ≡ true) stands.at.ids_root_is
          (good ids_root (omega (arith, begins_in_itself h.pages.ids)));
    })

-- ---- the layer at a place

module _ {version : Version} (pages : PageMap) (next : ℕ) (records : List Record) (t : Table)
    (h : Holds pages next version records t) where
  pub counted : objects_named records ≡ object_count t
  counted = ap objects_named (sym h.rows) ∙ table_counts pages h.layers t h.stand h.table

  pub few_objects : object_count t ≤ most_objects
  few_objects = omega (arith, counted, few_good next records h.good)

  pub rows_good : All (λ (r : Record). is_layer_record next r ≡ true) (map row_of h.layers)
  rows_good =
      subst (λ (rs : List Record). All (λ (r : Record). is_layer_record next r ≡ true) rs) (sym h.rows)
      (each_good next records h.good)

  reading_within : (k : ℕ) → k < length records → k < length h.layers
  reading_within k lt = omega (arith, lt, ap length h.rows, length-map h.layers row_of)

  -- the tree of a record stays where the pages of its layer do
  pub tree_at_stays : (new : PageMap) (r : Record) (k : ℕ) (s : Tree) → k < length records
      → get_or records k r ≡ r → ((n : ℕ) → 0 < of_layer (get_or h.layers k no_reading) n → new n ≡ pages n)
      → IsTreeAt r.dims r.fanout pages (root_of r) s → IsTreeAt r.dims r.fanout new (root_of r) s
  tree_at_stays new r k s lt is stay there =
      let hk : Reading = get_or h.layers k no_reading in
      let within = reading_within k lt in
      let row : r ≡ hk.row = sym is ∙ ap (λ (rs : List Record). get_or rs k r) (sym h.rows)
      ∙ get_or-map row_of h.layers k no_reading r within in
      let stands_k = layer_at_stands pages h.layers k no_reading within h.stand in
      let its : IsTreeAt r.dims r.fanout pages (root_of r) hk.pages.tree =
      subst (λ (x : Record). IsTreeAt x.dims x.fanout pages (root_of x) hk.pages.tree) (sym row)
      stands_k.at.tree in
      let same : s ≡ hk.pages.tree =
      one_tree_stands r.dims pages s hk.pages.tree (there.page_is ∙ sym its.page_is) there.stands
      its.stands in
      record {
        page_is = there.page_is;
        level_is = there.level_is;
        stands =
            equal_pages_stand r.dims pages new s
            (λ n p. stay n (omega (arith, p, ap (λ (x : Tree). occurs_in n x) same))) there.stands;
        shape = there.shape;
      }

  -- where the pages of all layers stay, so do their trees
  pub trees_stay : (new : PageMap) → ((n : ℕ) → 0 < of_layers h.layers n → new n ≡ pages n)
      → (name : List ℕ) (s : Tree) → IsTreeOf pages records name s → IsTreeOf new records name s
  trees_stay new stay name s there =
      let k = there.among.0 in
      let lt = there.among.1 in
      record {
        row = there.row;
        among = there.among;
        named = there.named;
        tree = tree_at_stays new there.row k s lt there.among.2
            (λ n p. stay n (omega (arith, p, one_and_others h.layers k n no_reading (reading_within k lt))))
            there.tree;
      }

  -- none of them is the page of the catalog
  pub apart_from_catalog : (n : ℕ) → 0 < of_layers h.layers n → ¬ (n ≡ 2)
  apart_from_catalog n p = not_the_catalog n (omega (arith, h.used.once n, p))

  module _ (name : List ℕ) (place : ℕ) (finds : Finds t name place) where
    -- what is read of it
    abbrev pub here : Reading
    here = get_or h.layers place no_reading

    pub in_layers : place < length h.layers
    in_layers = omega (arith, finds.stands.within, ap length h.table, length-map h.layers entry_of)

    pub in_records : place < length records
    in_records = omega (arith, in_layers, ap length h.rows, length-map h.layers row_of)

    pub here_stands : LayerStands pages here
    here_stands = layer_at_stands pages h.layers place no_reading in_layers h.stand

    pub here_allowed : AllowsTable version here
    here_allowed = h.allowed place no_reading in_layers

    here_entry : get_or (entries t) place (entry_of no_reading) ≡ entry_of here
    here_entry = ap (λ (es : List (List ℕ × Layer)). get_or es place (entry_of no_reading)) (sym h.table)
        ∙ get_or-map entry_of h.layers place no_reading (entry_of no_reading) in_layers

    pub here_layer : layer_at t name ≡ here.layer
    here_layer = layer_found t name place finds (entry_of no_reading)
        ∙ ap (λ (e : List ℕ × Layer). e.1) here_entry

    pub here_named : here.row.name ≡ name
    here_named = sym (ap (λ (e : List ℕ × Layer). e.0) here_entry) ∙ finds.named (entry_of no_reading)

    pub here_row : (d : Record) → get_or records place d ≡ here.row
    here_row d = ap (λ (rs : List Record). get_or rs place d) (sym h.rows)
        ∙ get_or-map row_of h.layers place no_reading d in_layers

    pub here_good : is_layer_record next here.row ≡ true
    here_good = ap (is_layer_record next) (sym (here_row here.row))
        ∙ each_good next records h.good place here.row in_records

    -- all other pages in use
    abbrev pub the_rest : Part
    the_rest n = both of_catalog (of_others h.layers place) n

    pub used_here : IsAllOf pages (both (of_layer here) the_rest)
    used_here =
        all_of_same pages (in_use h.layers) (both (of_layer here) the_rest)
        (λ n. omega (arith, one_and_others h.layers place n no_reading in_layers)) h.used

    -- a layer of another name stands in another place
    pub other_place : (other : List ℕ) (r : Record) (k : ℕ) → ¬ (other ≡ name) → r.name ≡ other
        → get_or records k r ≡ r → ¬ (k ≡ place)
    other_place other r k ne called is same =
        ne (sym called
        ∙ ap (λ (x : Record). x.name) (sym is ∙ ap (λ (j : ℕ). get_or records j r) same ∙ here_row r)
        ∙ here_named)

    -- where the pages of the other layers stay, so do their trees
    pub other_stays : (new : PageMap) → ((n : ℕ) → 0 < of_others h.layers place n → new n ≡ pages n)
        → (r : Record) (k : ℕ) (s : Tree) → k < length records → get_or records k r ≡ r → ¬ (k ≡ place)
        → IsTreeAt r.dims r.fanout pages (root_of r) s → IsTreeAt r.dims r.fanout new (root_of r) s
    other_stays new stay r k s lt is ne there =
        tree_at_stays new r k s lt is
        (λ n p. stay n
        (omega (arith, p, other_part h.layers place k n no_reading (reading_within k lt) ne))) there

-- ---- a layer replaced

module _ {version : Version} (old new : PageMap) (next next' : ℕ) (records : List Record) (t : Table)
    (h : Holds old next version records t) (name : List ℕ) (place : ℕ) (finds : Finds t name place)
    (h' : Reading) (stands : LayerStands new h') (allowed : AllowsTable version h') (named : h'.row.name ≡ name)
    (moves : Moves old new (of_layer (here old next records t h name place finds)) (of_layer h'))
    (le : next ≤ next') (given : (n : ℕ) → IsSome (new n) → (2 ≤ n) × (n < next'))
    (layer : is_layer h'.row ≡ true) (low : h'.row.level ≤ 40)
    (few : object_count (map_insert t name h'.layer) ≤ most_objects) where
  abbrev was : Reading
  was = here old next records t h name place finds

  abbrev rest : Part
  rest n = the_rest old next records t h name place finds n

  used : IsAllOf old (both (of_layer was) rest)
  used = used_here old next records t h name place finds

  used_new : IsAllOf new (both (of_layer h') rest)
  used_new = all_pages_move old new (of_layer was) (of_layer h') rest used moves

  -- the pages of the other layers stay
  pub others_stay : (n : ℕ) → 0 < of_others h.layers place n → new n ≡ old n
  others_stay n p =
      (the_rest_stays old new (of_layer was) (of_layer h') rest moves (λ m q. used.live m (omega (arith, q)))
      used.once n (omega (arith, p))).0

  lt : place < length h.layers
  lt = in_layers old next records t h name place finds

  table' : map entry_of (slice_set h.layers place h') ≡ entries (map_insert t name h'.layer)
  table' = map-set entry_of h.layers place h' ∙ (λ i. slice_set (h.table i) place (named i, h'.layer))
      ∙ sym (entries_after t name place finds h'.layer)

  rows' : map row_of (slice_set h.layers place h') ≡ slice_set records place h'.row
  rows' = map-set row_of h.layers place h' ∙ ap (λ (rs : List Record). slice_set rs place h'.row) h.rows

  stand' : LayersStand new (slice_set h.layers place h')
  stand' = layer_replaced old new h.layers place h' lt others_stay stands h.stand

  each' : All (λ (r : Record). is_layer_record next' r ≡ true) (map row_of (slice_set h.layers place h'))
  each' = subst (λ (rs : List Record). All (λ (r : Record). is_layer_record next' r ≡ true) rs)
      (sym (map-set row_of h.layers place h'))
      (All-set (λ (r : Record). is_layer_record next' r ≡ true) (map row_of h.layers) place h'.row
      (record_good new next' h' (of_others h.layers place) stands used_new given layer low)
      (All-weaker (λ (r : Record). is_layer_record next r ≡ true)
      (λ (r : Record). is_layer_record next' r ≡ true) (λ r e. more_record next next' r le e)
      (map row_of h.layers) (rows_good old next records t h)))

  -- so the new pages hold the table with it
  pub holds_replaced : Holds new next' version (slice_set records place h'.row) (map_insert t name h'.layer)
  holds_replaced = record {
    layers = slice_set h.layers place h';
    rows = rows';
    table = table';
    stand = stand';
    allowed = All-set (AllowsTable version) h.layers place h' allowed h.allowed;
    used = all_of_same new (both (of_layer h') rest) (in_use (slice_set h.layers place h'))
        (λ n. omega (arith, replaced_and_others h.layers place n h' lt)) used_new;
    good = subst (λ (rs : List Record). is_good_catalog next' rs ≡ true) rows'
        (catalog_good new next' (slice_set h.layers place h') (map_insert t name h'.layer) stand' table'
        each' few);
  }

  -- ---- the trees

  in_rows : place < length records
  in_rows = in_records old next records t h name place finds

  -- the tree of the layer after it
  pub its_tree_after : IsTreeOf new (slice_set records place h'.row) name h'.pages.tree
  its_tree_after = record {
    row = h'.row;
    among = (
      place,
      omega (arith, in_rows, length-set records place h'.row),
      get_or-set_same records place h'.row h'.row in_rows,
    );
    named = named;
    tree = stands.at.tree;
  }

  pub other_trees_stay : (other : List ℕ) (s : Tree) → ¬ (other ≡ name) → IsTreeOf old records other s
      → IsTreeOf new (slice_set records place h'.row) other s
  other_trees_stay other s ne there =
      let k = there.among.0 in
      let apart =
      other_place old next records t h name place finds other there.row k ne there.named there.among.2 in
      record {
        row = there.row;
        among = (
          k,
          omega (arith, there.among.1, length-set records place h'.row),
          get_or-set_other records place k h'.row there.row apart ∙ there.among.2,
        );
        named = there.named;
        tree = other_stays old next records t h name place finds new others_stay there.row k s there.among.1
            there.among.2 apart there.tree;
      }

-- ---- a layer more

pub map-insert : {X Y : Type 0} (f : X → Y) (xs : List X) (i : ℕ) (x : X)
    → map f (insert xs i x) ≡ insert (map f xs) i (f x)
map-insert f [] zero x = refl
map-insert f [] (suc i) x = refl
map-insert f (y ∷ ys) zero x = refl
map-insert f (y ∷ ys) (suc i) x = ap (λ t. f y ∷ t) (map-insert f ys i x)

module _ {version version' : Version} (old new : PageMap) (next next' : ℕ) (records : List Record) (t : Table)
    (h : Holds old next version records t) (name : List ℕ) (place : ℕ) (belongs : Belongs t name place)
    (h' : Reading) (stands : LayerStands new h') (raised : version' ≡ Two → version ≡ Two)
    (allowed : AllowsTable version' h') (named : h'.row.name ≡ name)
    (moves : Moves old new no_page (of_layer h'))
    (le : next ≤ next') (given : (n : ℕ) → IsSome (new n) → (2 ≤ n) × (n < next'))
    (layer : is_layer h'.row ≡ true) (low : h'.row.level ≤ 40)
    (few : object_count (map_insert t name h'.layer) ≤ most_objects) where
  used_more : IsAllOf new (both (of_layer h') (in_use h.layers))
  used_more =
      all_pages_move old new no_page (of_layer h') (in_use h.layers)
      (all_of_same old (in_use h.layers) (both no_page (in_use h.layers)) (λ n. omega arith) h.used) moves

  -- the pages of the layers that were there stay
  pub all_stay : (n : ℕ) → 0 < of_layers h.layers n → new n ≡ old n
  all_stay n p =
      (the_rest_stays old new no_page (of_layer h') (in_use h.layers) moves (λ m q. h.used.live m q)
      (λ m. omega (arith, h.used.once m)) n (omega (arith, p))).0

  table_more : map entry_of (insert h.layers place h') ≡ entries (map_insert t name h'.layer)
  table_more = map-insert entry_of h.layers place h' ∙ (λ i. insert (h.table i) place (named i, h'.layer))
      ∙ sym (entries_more t name place belongs h'.layer)

  rows_more : map row_of (insert h.layers place h') ≡ insert records place h'.row
  rows_more = map-insert row_of h.layers place h' ∙ ap (λ (rs : List Record). insert rs place h'.row) h.rows

  stand_more : LayersStand new (insert h.layers place h')
  stand_more = layer_more new h.layers place h' stands (layers_stay old new h.layers all_stay h.stand)

  each_more : All (λ (r : Record). is_layer_record next' r ≡ true) (map row_of (insert h.layers place h'))
  each_more =
      subst (λ (rs : List Record). All (λ (r : Record). is_layer_record next' r ≡ true) rs)
      (sym (map-insert row_of h.layers place h'))
      (All-insert (λ (r : Record). is_layer_record next' r ≡ true) (map row_of h.layers) place h'.row
      (record_good new next' h' (of_layers h.layers) stands used_more given layer low)
      (All-weaker (λ (r : Record). is_layer_record next r ≡ true)
      (λ (r : Record). is_layer_record next' r ≡ true) (λ r e. more_record next next' r le e)
      (map row_of h.layers) (rows_good old next records t h)))

  -- so the new pages hold the table with it
  pub holds_more : Holds new next' version' (insert records place h'.row) (map_insert t name h'.layer)
  holds_more = record {
    layers = insert h.layers place h';
    rows = rows_more;
    table = table_more;
    stand = stand_more;
    allowed = All-insert (AllowsTable version') h.layers place h' allowed
        (All-weaker (AllowsTable version) (AllowsTable version') (λ one has two. has (raised two)) h.layers
        h.allowed);
    used = all_of_same new (both (of_layer h') (in_use h.layers)) (in_use (insert h.layers place h'))
        (λ n. omega (arith, more_parts h.layers place n h')) used_more;
    good = subst (λ (rs : List Record). is_good_catalog next' rs ≡ true) rows_more
        (catalog_good new next' (insert h.layers place h') (map_insert t name h'.layer) stand_more table_more
        each_more few);
  }

-- ---- the catalog is written

catalog_apart : (n : ℕ) → 0 < of_catalog n → n ≡ 2
catalog_apart n p = grind (arith, nat_tests)

catalog_none : (n : ℕ) → of_catalog n ≡ 0 → ¬ (n ≡ 2)
catalog_none n e = not_the_catalog n e

catalog_once : (n : ℕ) → of_catalog n ≤ 1
catalog_once n = grind (arith, nat_tests)

-- the page of the catalog holds other bytes, and the pages the same table
pub catalog_changed : {version : Version} (old new : PageMap) (next : ℕ) (records : List Record) (t : Table)
    → ((n : ℕ) → ¬ (n ≡ 2) → new n ≡ old n) → IsSome (new 2) → Holds old next version records t
    → Holds new next version records t
catalog_changed old new next records t same live h =
    let moves : Moves old new of_catalog of_catalog = record {
      outside = λ n p q. same n (catalog_none n p);
      came = λ n p q. absurd (omega (arith, p, q));
      went = λ n p q. absurd (omega (arith, p, q));
      live = λ n p. subst (λ (k : ℕ). IsSome (new k)) (sym (catalog_apart n p)) live;
      once = catalog_once;
    } in
    record {
      layers = h.layers;
      rows = h.rows;
      table = h.table;
      stand = layers_stay old new h.layers
          (λ n p. (the_rest_stays old new of_catalog of_catalog (of_layers h.layers) moves
          (λ m q. h.used.live m (omega (arith, q))) h.used.once n p).0) h.stand;
      allowed = h.allowed;
      used = all_pages_move old new of_catalog of_catalog (of_layers h.layers) h.used moves;
      good = h.good;
    }
