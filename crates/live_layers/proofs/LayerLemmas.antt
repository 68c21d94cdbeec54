-- Layers that stand: one of them replaced, and one more.
use Rattle.std.proofs.Common.{◌≡◌, ℕ, zero, suc, ◌+◌, ◌<◌, ◌≤◌, List, [], ◌∷◌, length, get_or, refl, ap}
use Rattle.std.proofs.Common.{arith}
use Rattle.std.specs.Prelude.{slice_set}
use Rattle.std.specs.List.{insert}
use Rattle.id_table.proofs.TableLemmas.{ids_stay}
use Rattle.layer_pages.specs.Layers.{IsLayerAt, LayerPages, Objects, part_of_layer}
use Rattle.node_page.specs.Parts.{Part}
use Rattle.node_page.specs.Standing.{PageMap}
use Rattle.node_page.proofs.StandingLemmas.{equal_pages_stand}
use Rattle.tree_node.specs.declared.node.Root.{Root}
use Rattle.live_layers.specs.Layers.{Reading, LayerStands, LayersStand, of_layer, of_layers}

-- ---- equal pages

pub pages_stay : (dims most : ℕ) (old new : PageMap) (root : Root) (ids_root : ℕ) (l : LayerPages)
    (objects : Objects) → ((n : ℕ) → 0 < part_of_layer l n → new n ≡ old n)
    → IsLayerAt dims most old root ids_root l objects → IsLayerAt dims most new root ids_root l objects
pages_stay dims most old new root ids_root l objects same h = record {
  tree = record {
    page_is = h.tree.page_is;
    level_is = h.tree.level_is;
    stands = equal_pages_stand dims old new l.tree (λ n p. same n (omega (arith, p))) h.tree.stands;
    shape = h.tree.shape;
  };
  boxes = h.boxes;
  ids_root_is = h.ids_root_is;
  ids = ids_stay dims old new l.ids (λ n p. same n (omega (arith, p))) h.ids;
  leaves = h.leaves;
  table = h.table;
  once = h.once;
}

-- a layer stays where its pages do
pub layer_stays : (old new : PageMap) (h : Reading) → ((n : ℕ) → 0 < of_layer h n → new n ≡ old n)
    → LayerStands old h → LayerStands new h
layer_stays old new h same stands = record {
  at = pages_stay h.row.dims h.row.fanout old new _ h.row.ids_root h.pages h.layer.objects same stands.at;
  dims = stands.dims;
  fanout = stands.fanout;
  count = stands.count;
}

pub layers_stay : (old new : PageMap) (hs : List Reading) → ((n : ℕ) → 0 < of_layers hs n → new n ≡ old n)
    → LayersStand old hs → LayersStand new hs
layers_stay old new [] same stands = tt
layers_stay old new (h ∷ hs) same stands = (
  layer_stays old new h (λ n p. same n (omega (arith, p))) stands.0,
  layers_stay old new hs (λ n p. same n (omega (arith, p))) stands.1,
)

-- ---- one of them

-- the pages of all layers but the one at a place
abbrev pub of_others : List Reading → ℕ → Part
of_others [] i n = 0
of_others (h ∷ hs) zero n = of_layers hs n
of_others (h ∷ hs) (suc i) n = of_layer h n + of_others hs i n

pub one_and_others : (hs : List Reading) (i n : ℕ) (d : Reading) → i < length hs
    → of_layers hs n ≡ of_layer (get_or hs i d) n + of_others hs i n
one_and_others [] i n d lt = absurd (omega (arith, lt))
one_and_others (h ∷ hs) zero n d lt = refl
one_and_others (h ∷ hs) (suc i) n d lt = omega (arith, one_and_others hs i n d (omega (arith, lt)))

pub replaced_and_others : (hs : List Reading) (i n : ℕ) (h' : Reading) → i < length hs
    → of_layers (slice_set hs i h') n ≡ of_layer h' n + of_others hs i n
replaced_and_others [] i n h' lt = absurd (omega (arith, lt))
replaced_and_others (h ∷ hs) zero n h' lt = refl
replaced_and_others (h ∷ hs) (suc i) n h' lt =
    omega (arith, replaced_and_others hs i n h' (omega (arith, lt)))

pub layer_at_stands : (pages : PageMap) (hs : List Reading) (i : ℕ) (d : Reading) → i < length hs
    → LayersStand pages hs → LayerStands pages (get_or hs i d)
layer_at_stands pages [] i d lt stands = absurd (omega (arith, lt))
layer_at_stands pages (h ∷ hs) zero d lt stands = stands.0
layer_at_stands pages (h ∷ hs) (suc i) d lt stands = layer_at_stands pages hs i d (omega (arith, lt)) stands.1

-- one layer is replaced, and the pages of the others stay
pub layer_replaced : (old new : PageMap) (hs : List Reading) (i : ℕ) (h' : Reading) → i < length hs
    → ((n : ℕ) → 0 < of_others hs i n → new n ≡ old n) → LayerStands new h' → LayersStand old hs
    → LayersStand new (slice_set hs i h')
layer_replaced old new [] i h' lt same stands all = absurd (omega (arith, lt))
layer_replaced old new (h ∷ hs) zero h' lt same stands all = (stands, layers_stay old new hs same all.1)
layer_replaced old new (h ∷ hs) (suc i) h' lt same stands all = (
  layer_stays old new h (λ n p. same n (omega (arith, p))) all.0,
  layer_replaced old new hs i h' (omega (arith, lt)) (λ n p. same n (omega (arith, p))) stands all.1,
)

-- the pages of another layer are among those of the others
pub other_part : (hs : List Reading) (i k n : ℕ) (d : Reading) → k < length hs → ¬ (k ≡ i)
    → of_layer (get_or hs k d) n ≤ of_others hs i n
other_part [] i k n d lt ne = absurd (omega (arith, lt))
other_part (h ∷ hs) zero zero n d lt ne = absurd (ne refl)
other_part (h ∷ hs) zero (suc k) n d lt ne = omega (arith, one_and_others hs k n d (omega (arith, lt)))
other_part (h ∷ hs) (suc i) zero n d lt ne = omega arith
other_part (h ∷ hs) (suc i) (suc k) n d lt ne =
    omega (arith, other_part hs i k n d (omega (arith, lt)) (λ e. ne (ap suc e)))

-- ---- one more

pub more_parts : (hs : List Reading) (i n : ℕ) (h' : Reading)
    → of_layers (insert hs i h') n ≡ of_layer h' n + of_layers hs n
more_parts [] zero n h' = refl
more_parts [] (suc i) n h' = refl
more_parts (h ∷ hs) zero n h' = refl
more_parts (h ∷ hs) (suc i) n h' = omega (arith, more_parts hs i n h')

pub layer_more : (pages : PageMap) (hs : List Reading) (i : ℕ) (h' : Reading) → LayerStands pages h'
    → LayersStand pages hs → LayersStand pages (insert hs i h')
layer_more pages [] zero h' stands all = (stands, tt)
layer_more pages [] (suc i) h' stands all = (stands, tt)
layer_more pages (h ∷ hs) zero h' stands all = (stands, all)
layer_more pages (h ∷ hs) (suc i) h' stands all = (all.0, layer_more pages hs i h' stands all.1)
