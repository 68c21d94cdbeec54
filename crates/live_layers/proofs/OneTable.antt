-- Pages hold at most one table, and opening refuses no image.
use Rattle.std.proofs.Common.{◌≡◌, ◌∙◌, ℕ, List, [], ◌∷◌, map, true, false, Some, None, sym, ap, subst, inl}
use Rattle.std.proofs.Common.{inr}
use Rattle.std.specs.Prelude.{IsPermutation}
use Rattle.std.specs.FinMap.{entries, entries_sorted, same_entries_map}
use Rattle.std.proofs.lemmas.List.Sorted.{IsPermutation-sym, IsPermutation-trans}
use Rattle.block_device.specs.Device.{Blocks}
use Rattle.catalog_page.specs.Layout.{Record}
use Rattle.layer_pages.specs.Layers.{IsLayerAt, LayerPages, Objects}
use Rattle.layer_pages.proofs.ObjectLemmas.{one_order, sorted_rises}
use Rattle.node_page.specs.Standing.{PageMap}
use Rattle.node_page.proofs.StandingLemmas.{one_tree_stands}
use Rattle.page_file.specs.Layout.{IsWithin, opened_version}
use Rattle.page_file.specs.Newest.{passes_within, refused_above}
use Rattle.page_file.specs.Pages.{next_in, pages_in}
use Rattle.page_file.specs.declared.fault.Fault.{Fault}
use Rattle.page_file.specs.declared.fault.Fault.TheVariants.{WrongVersion}
use Rattle.page_file.specs.declared.header.Version.{Version}
use Rattle.plain_table.specs.Table.{Table}
use Rattle.tree_node.specs.Trees.{Tree, objects_in}
use Rattle.tree_node.specs.declared.node.Root.{Root}
use Rattle.live_layers.specs.Image.{IsImage, OpeningRefuses, OpeningRefusesUpTo}
use Rattle.live_layers.specs.Layers.{Holds, LayerStands, LayersStand, Reading, entry_of, root_of, row_of}

-- ---- one table

-- a layer's tree, of which one stands there, has its objects
same_objects : (dims most : ℕ) (pages : PageMap) (root : Root) (ids_root : ℕ) (l k : LayerPages)
    (a b : Objects) → IsLayerAt dims most pages root ids_root l a
    → IsLayerAt dims most pages root ids_root k b → a ≡ b
same_objects dims most pages root ids_root l k a b h g =
    let trees : l.tree ≡ k.tree =
    one_tree_stands dims pages l.tree k.tree (h.tree.page_is ∙ sym g.tree.page_is) h.tree.stands
    g.tree.stands in
    let leaves : IsPermutation (objects_in k.tree.row) (entries a) =
    subst (λ (t : Tree). IsPermutation (objects_in t.row) (entries a)) trees h.leaves in
    same_entries_map a b
    (one_order (entries a) (entries b) (sorted_rises (entries a) (entries_sorted a)) (entries_sorted b)
    (IsPermutation-trans (entries a) (objects_in k.tree.row) (entries b)
    (IsPermutation-sym (objects_in k.tree.row) (entries a) leaves) g.leaves))

same_layer : (pages : PageMap) (h k : Reading) → h.row ≡ k.row → LayerStands pages h → LayerStands pages k
    → entry_of h ≡ entry_of k
same_layer pages h k e a b =
    let at =
    subst (λ (r : Record). IsLayerAt r.dims r.fanout pages (root_of r) r.ids_root h.pages
    h.layer.objects) e a.at in
    let objects =
    same_objects k.row.dims k.row.fanout pages (root_of k.row) k.row.ids_root h.pages k.pages
    h.layer.objects k.layer.objects at b.at in
    λ i. (
      (e i).name,
      record {
        dims = (a.dims ∙ ap (λ (r : Record). r.dims) e ∙ sym b.dims) i;
        fanout = (a.fanout ∙ ap (λ (r : Record). r.fanout) e ∙ sym b.fanout) i;
        objects = objects i;
      },
    )

same_layers : (pages : PageMap) (hs ks : List Reading) → map row_of hs ≡ map row_of ks → LayersStand pages hs
    → LayersStand pages ks → map entry_of hs ≡ map entry_of ks
same_layers pages [] [] e a b = λ i. []
same_layers pages [] (k ∷ ks) e a b = absurd (cc)
same_layers pages (h ∷ hs) [] e a b = absurd (cc)
same_layers pages (h ∷ hs) (k ∷ ks) e a b =
    let first : h.row ≡ k.row = cc in
    let rest : map row_of hs ≡ map row_of ks = cc in
    λ i. same_layer pages h k first a.0 b.0 i ∷ same_layers pages hs ks rest a.1 b.1 i

-- with the same records pages hold one table
pub pages_hold_one_table : {version : Version} (pages : PageMap) (next : ℕ) (records : List Record)
    (t u : Table) → Holds pages next version records t → Holds pages next version records u → t ≡ u
pages_hold_one_table pages next records t u h k =
    same_entries_map t u
    (sym h.table ∙ same_layers pages h.layers k.layers (h.rows ∙ sym k.rows) h.stand k.stand ∙ k.table)

-- blocks are an image of at most one table
pub an_image_is_of_one_table : (blocks : Blocks) (t u : Table) → IsImage blocks t → IsImage blocks u → t ≡ u
an_image_is_of_one_table blocks t u h k =
    let both : Some h.records ≡ Some k.records = sym h.spelled ∙ k.spelled in
    let same : h.records ≡ k.records = cc in
    pages_hold_one_table (pages_in blocks) (next_in blocks) k.records t u
    (subst (λ (rs : List Record). Holds (pages_in blocks) (next_in blocks) (opened_version blocks) rs t) same
    h.holds) k.holds

-- ---- refusals

some_is_not_none : {X : Type 0} {a : X} → None ≡ Some a → ⊥
some_is_not_none e = absurd (cc)

true_is_not_false : true ≡ false → ⊥
true_is_not_false e = absurd (cc)

-- no check of opening refuses an image
pub an_image_is_not_refused : (blocks : Blocks) (t : Table) (f : Fault) → IsImage blocks t
    → OpeningRefuses blocks f → ⊥
an_image_is_not_refused blocks t f h (inl e) = some_is_not_none (sym h.passes ∙ e)
an_image_is_not_refused blocks t f h (inr d) = true_is_not_false (sym h.holds.good ∙ d.2 h.records h.spelled)

-- opening refuses blocks in one way
pub blocks_are_refused_in_one_way : (blocks : Blocks) (f g : Fault) → OpeningRefuses blocks f
    → OpeningRefuses blocks g → f ≡ g
blocks_are_refused_in_one_way blocks f g (inl a) (inl b) = let both : Some f ≡ Some g = sym a ∙ b in cc
blocks_are_refused_in_one_way blocks f g (inl a) (inr b) = absurd (some_is_not_none (sym b.0 ∙ a))
blocks_are_refused_in_one_way blocks f g (inr a) (inl b) = absurd (some_is_not_none (sym a.0 ∙ b))
blocks_are_refused_in_one_way blocks f g (inr a) (inr b) = a.1 ∙ sym b.1

-- ---- where no version above one is read

-- an image of none above it is not refused
pub an_image_within_is_not_refused : (newest : Version) (blocks : Blocks) (t : Table) (f : Fault)
    → IsImage blocks t → IsWithin newest (opened_version blocks) → OpeningRefusesUpTo newest blocks f → ⊥
an_image_within_is_not_refused newest blocks t f h within (inl e) =
    some_is_not_none (sym (passes_within newest blocks h.passes within) ∙ e)
an_image_within_is_not_refused newest blocks t f h within (inr d) =
    true_is_not_false (sym h.holds.good ∙ d.2 h.records h.spelled)

-- and one of a version above it is, as of a version that is not known
pub an_image_above_is_refused : (newest : Version) (blocks : Blocks) (t : Table) → IsImage blocks t
    → ¬ (IsWithin newest (opened_version blocks)) → OpeningRefusesUpTo newest blocks WrongVersion
an_image_above_is_refused newest blocks t h above = inl (refused_above newest blocks h.passes above)

-- in one way
pub blocks_are_refused_in_one_way_up_to : (newest : Version) (blocks : Blocks) (f g : Fault)
    → OpeningRefusesUpTo newest blocks f → OpeningRefusesUpTo newest blocks g → f ≡ g
blocks_are_refused_in_one_way_up_to newest blocks f g (inl a) (inl b) =
    let both : Some f ≡ Some g = sym a ∙ b in cc
blocks_are_refused_in_one_way_up_to newest blocks f g (inl a) (inr b) =
    absurd (some_is_not_none (sym b.0 ∙ a))
blocks_are_refused_in_one_way_up_to newest blocks f g (inr a) (inl b) =
    absurd (some_is_not_none (sym a.0 ∙ b))
blocks_are_refused_in_one_way_up_to newest blocks f g (inr a) (inr b) = a.1 ∙ sym b.1
