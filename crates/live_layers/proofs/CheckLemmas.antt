-- Layers that are checked one after the other, and their pages.
use Rattle.std.proofs.Common.{◌≡◌, ◌∙◌, ℕ, ◌+◌, ◌<◌, cond, eqb, List, [], ◌∷◌, ◌++◌, length, get_or, map}
use Rattle.std.proofs.Common.{◌⊎◌, zero, suc, Contains, inl, inr, take, refl, sym, ap, subst, arith}
use Rattle.std.specs.FinMap.{len, len-entries}
use Rattle.std.proofs.lemmas.List.{get_or-map, length-map, map-append, take_more}
use Rattle.std.proofs.lemmas.List.Elements.{All-nil, All-push}
use Rattle.catalog_page.specs.Layout.{Record, record_of}
use Rattle.catalog_page.specs.declared.layer_record.LayerRecord.{LayerRecord}
use Rattle.id_table.specs.Table.{kind_of}
use Rattle.id_table.specs.declared.kind.TableKind.TheVariants.{Chains}
use Rattle.layer_pages.specs.Checked.{ComesInLayer, IsCheckedLayer}
use Rattle.layer_pages.specs.Layers.{IsLayerAt}
use Rattle.node_page.specs.Checked.{named_pages}
use Rattle.node_page.specs.Standing.{PageMap}
use Rattle.page_cache.specs.Cache.{BreaksAt}
use Rattle.page_cache.specs.declared.cache.PageCache.{PageCache}
use Rattle.page_file.specs.Fault.{IsOfDevice}
use Rattle.page_file.specs.declared.fault.Fault.{Fault}
use Rattle.page_file.specs.declared.fault.Fault.TheVariants as fault
use Rattle.page_file.specs.declared.header.Version.{Version}
use Rattle.page_file.specs.declared.header.Version.TheVariants.{Two}
use Rattle.tree_node.specs.declared.node.Root.{Root}
use Rattle.tree_node.proofs.PositionLemmas.{total-append}
use Rattle.plain_table.specs.declared.refusal.Refusal.TheVariants as refusal
use Rattle.live_layers.specs.Faults.{as_refusal}
use Rattle.live_layers.specs.Checked.{AddsLayer, AddsLayers, ComesInLayers, IsFoundDamaged}
use Rattle.live_layers.specs.Layers.{AllowsTable, AllowsTables, LayerStands, LayersStand, Reading, of_layer}
use Rattle.live_layers.specs.Layers.{of_layers, root_of, row_of}
use Rattle.live_layers.proofs.FindLemmas.{no_reading}
use Rattle.live_layers.proofs.LayerLemmas.{layer_at_stands, layer_stays, layers_stay}

-- ---- one layer

-- a layer that was checked, its pages appended
pub adds_layer : (dims : ℕ) (pages : PageMap) (version : Version) (r : Record) (list before now : List ℕ)
    → r.dims ≡ dims
    → (checked : IsCheckedLayer dims r.fanout pages (root_of r) r.ids_root r.count list)
    → (version ≡ Two → kind_of checked.layer.ids ≡ Chains) → now ≡ before ++ list
    → AddsLayer pages version r before now
adds_layer dims pages version r list before now axes checked allowed is = record {
  layer = record {
    row = r;
    pages = checked.layer;
    layer = record { dims = r.dims; fanout = r.fanout; objects = checked.objects };
  };
  row = refl;
  stands = record {
    at = subst (λ (d : ℕ). IsLayerAt d r.fanout pages (root_of r) r.ids_root checked.layer checked.objects)
        (sym axes) checked.stands;
    dims = refl;
    fanout = refl;
    count = sym (len-entries checked.objects) ∙ checked.count_is;
  };
  allowed = allowed;
  listed =
      λ n. omega (
        arith,
        ap (λ (xs : List ℕ). named_pages xs n) is,
        total-append (λ (page : ℕ). cond (eqb page n) 1 0) before list,
        checked.pages_are n,
      );
}

-- a layer that stands, as it is checked
module _ (dims : ℕ) (pages : PageMap) (r : Record) (h : Reading) (row : h.row ≡ r) (axes : r.dims ≡ dims)
    (stands : LayerStands pages h) where
  pub layer_of_row : IsLayerAt dims r.fanout pages (root_of r) r.ids_root h.pages h.layer.objects
  layer_of_row =
      subst (λ (d : ℕ). IsLayerAt d r.fanout pages (root_of r) r.ids_root h.pages h.layer.objects) axes
      (subst (λ (x : Record). IsLayerAt x.dims x.fanout pages (root_of x) x.ids_root h.pages
      h.layer.objects) row stands.at)

  pub count_of_row : len h.layer.objects ≡ r.count
  count_of_row = len-entries h.layer.objects ∙ stands.count ∙ ap (λ (x : Record). x.count) row

-- tables that one version allows the same version does
pub allowed_in : (was is : Version) (hs : List Reading) → is ≡ was → AllowsTables was hs → AllowsTables is hs
allowed_in was is hs version = subst (λ (v : Version). AllowsTables v hs) (sym version)

-- ---- the layer of the record at a place

-- it comes after those before it
pub records_more : (items : List LayerRecord) (i : ℕ) (r : LayerRecord) → i < length items
    → r ≡ get_or items i r
    → map record_of (take (i + 1) items) ≡ map record_of (take i items) ++ record_of r ∷ []
records_more items i r lt is =
    ap (map record_of) (take_more items i r lt) ∙ map-append record_of (take i items) (get_or items i r ∷ [])
    ∙ ap (λ (x : LayerRecord). map record_of (take i items) ++ record_of x ∷ []) (sym is)

module _ (items : List LayerRecord) (hs : List Reading) (rows : map row_of hs ≡ map record_of items) (i : ℕ)
    (r : LayerRecord) (lt : i < length items) (is : r ≡ get_or items i r) where
  pub in_readings : i < length hs
  in_readings = omega (arith, lt, ap length rows, length-map hs row_of, length-map items record_of)

  pub row_here : (get_or hs i no_reading).row ≡ record_of r
  row_here =
      sym (get_or-map row_of hs i no_reading (record_of r) in_readings)
      ∙ ap (λ (rs : List Record). get_or rs i (record_of r)) rows
      ∙ get_or-map record_of items i r (record_of r) lt ∙ ap record_of (sym is)

  -- the version allows its table
  pub allowed_here : (was is : Version) → is ≡ was → AllowsTables was hs
      → AllowsTable is (get_or hs i no_reading)
  allowed_here was is version all = allowed_in was is hs version all i no_reading in_readings

  -- it stands, also in equal pages
  pub stands_here : (old new : PageMap) → ((n : ℕ) → new n ≡ old n) → LayersStand old hs
      → LayerStands new (get_or hs i no_reading)
  stands_here old new same stand =
      layer_stays old new (get_or hs i no_reading) (λ n p. same n)
      (layer_at_stands old hs i no_reading in_readings stand)

-- ---- one layer after the other

stand_more : (pages : PageMap) (hs : List Reading) (h : Reading) → LayersStand pages hs → LayerStands pages h
    → LayersStand pages (hs ++ h ∷ [])
stand_more pages [] h all stands = (stands, tt)
stand_more pages (k ∷ ks) h all stands = (all.0, stand_more pages ks h all.1 stands)

parts_more : (hs : List Reading) (h : Reading) (n : ℕ)
    → of_layers (hs ++ h ∷ []) n ≡ of_layers hs n + of_layer h n
parts_more [] h n = omega arith
parts_more (k ∷ ks) h n = omega (arith, parts_more ks h n)

pub adds_none : (pages : PageMap) (version : Version) (list : List ℕ) → AddsLayers pages version [] list list
adds_none pages version list =
    record { layers = []; rows = refl; stand = tt; allowed = All-nil (AllowsTable version); listed = λ n. omega arith }

pub adds_more : (pages : PageMap) (version : Version) (rs : List Record) (r : Record)
    (before mid now : List ℕ) → AddsLayers pages version rs before mid → AddsLayer pages version r mid now
    → AddsLayers pages version (rs ++ r ∷ []) before now
adds_more pages version rs r before mid now a b = record {
  layers = a.layers ++ b.layer ∷ [];
  rows = map-append row_of a.layers (b.layer ∷ []) ∙ ap (λ (xs : List Record). xs ++ b.layer.row ∷ []) a.rows
      ∙ ap (λ (x : Record). rs ++ x ∷ []) b.row;
  stand = stand_more pages a.layers b.layer a.stand b.stands;
  allowed = All-push (AllowsTable version) a.layers b.layer a.allowed b.allowed;
  listed = λ n. omega (arith, a.listed n, b.listed n, parts_more a.layers b.layer n);
}

-- in equal pages of a file of the same version
pub adds_in : (old new : PageMap) (was is : Version) (r : Record) (before now : List ℕ)
    → ((n : ℕ) → new n ≡ old n) → is ≡ was → AddsLayer new is r before now → AddsLayer old was r before now
adds_in old new was is r before now same version a =
    subst (λ (v : Version). AddsLayer old v r before now) version
    (subst (λ (p : PageMap). AddsLayer p is r before now) (λ i n. same n i) a)

pub all_in : (old new : PageMap) (was is : Version) (rs : List Record) (before now : List ℕ)
    → ((n : ℕ) → new n ≡ old n) → is ≡ was → AddsLayers new is rs before now
    → AddsLayers old was rs before now
all_in old new was is rs before now same version a =
    subst (λ (v : Version). AddsLayers old v rs before now) version
    (subst (λ (p : PageMap). AddsLayers p is rs before now) (λ i n. same n i) a)

pub stand_in : (old new : PageMap) (hs : List Reading) → ((n : ℕ) → new n ≡ old n) → LayersStand old hs
    → LayersStand new hs
stand_in old new hs same stand = layers_stay old new hs (λ n p. same n) stand

-- ---- what is damaged

-- a refusal of memory or the device names no page
pub names_no_page : (f : Fault) (n : ℕ) → IsOfDevice f → f ≡ fault.Damaged n → ⊥
names_no_page f n (inl memory) is = let no : fault.Memory ≡ fault.Damaged n = sym memory ∙ is in cc
names_no_page f n (inr device) is = let no : fault.Device ≡ fault.Damaged n = sym device ∙ is in cc

pub one_number : (n k : ℕ) → fault.Damaged n ≡ fault.Damaged k → n ≡ k
one_number n k e = cc

pub damaged_fault : (f : Fault) (n : ℕ) → as_refusal f ≡ refusal.Damaged n → f ≡ fault.Damaged n
damaged_fault fault.Memory n e = let no : refusal.Memory ≡ refusal.Damaged n = e in absurd (cc)
damaged_fault fault.Device n e = let no : refusal.Device ≡ refusal.Damaged n = e in absurd (cc)
damaged_fault (fault.Damaged k) n e = let is : refusal.Damaged k ≡ refusal.Damaged n = e in
    let same : k ≡ n = cc in ap fault.Damaged same
damaged_fault fault.NotClosed n e = let no : refusal.NotClosed ≡ refusal.Damaged n = e in absurd (cc)
damaged_fault fault.NotAStore n e = let no : refusal.NotAStore ≡ refusal.Damaged n = e in absurd (cc)
damaged_fault fault.WrongVersion n e = let no : refusal.WrongVersion ≡ refusal.Damaged n = e in absurd (cc)
damaged_fault fault.NoPages n e = let no : refusal.NoPages ≡ refusal.Damaged n = e in absurd (cc)

-- a walk through a layer is one through each layer's pages that agree
pub comes_in_same : (dims : ℕ) (m m' : PageMap) (root : Root) (ids_root n : ℕ) → ((k : ℕ) → m k ≡ m' k)
    → ComesInLayer dims m root ids_root n → ComesInLayer dims m' root ids_root n
comes_in_same dims m m' root ids_root n same comes =
    subst (λ (p : PageMap). ComesInLayer dims p root ids_root n) (λ i k. same k i) comes

pub comes_in_all : (m m' : PageMap) (rs : List Record) (n : ℕ) → ((k : ℕ) → m k ≡ m' k)
    → ComesInLayers m rs n → ComesInLayers m' rs n
comes_in_all m m' rs n same comes =
    (comes.0, comes.1, comes_in_same comes.0.dims m m' (root_of comes.0) comes.0.ids_root n same comes.2)

pub among_records : (items : List LayerRecord) (i : ℕ) (r : LayerRecord) → i < length items
    → r ≡ get_or items i r → Contains (map record_of items) (record_of r)
among_records [] i r lt is = absurd (omega (arith, lt))
among_records (x ∷ xs) zero r lt is = (0, omega arith, sym (ap record_of is))
among_records (x ∷ xs) (suc i) r lt is =
    let rest = among_records xs i r (omega (arith, lt)) is in (suc rest.0, omega (arith, rest.1), rest.2)

module _ {D A : Type 0} {m : _} (cache : PageCache D A m) (records : List Record) where
  -- the chain of free pages breaks there
  pub chain_breaks : (f : Fault) (n : ℕ) → f ≡ fault.Damaged n
      → IsOfDevice f ⊎ ((k : ℕ) × (f ≡ fault.Damaged k) × BreaksAt cache k) → IsFoundDamaged cache records n
  chain_breaks f n is (inl of_device) = absurd (names_no_page f n of_device is)
  chain_breaks f n is (inr breaks) =
      inl (subst (BreaksAt cache) (one_number breaks.0 n (sym breaks.1 ∙ is)) breaks.2)
