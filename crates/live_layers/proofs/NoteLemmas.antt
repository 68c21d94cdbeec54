-- A record that is written anew in its place.
use Rattle.std.proofs.Common.{◌≡◌, ◌∙◌, ℕ, ◌<◌, ◌^◌, List, length, get_or, map, true, sym, ap, subst}
use Rattle.std.specs.Prelude.{slice_set}
use Rattle.std.specs.List.{refill}
use Rattle.std.proofs.lemmas.Grind.{common_steps}
use Rattle.std.proofs.Common.{arith}
use Rattle.std.proofs.lemmas.List.{get_or-map, length-map, length-set, map-set}
use Rattle.std.proofs.lemmas.List.Elements.{All-set}
use Rattle.catalog_page.specs.Layout.{Record, record_of}
use Rattle.catalog_page.specs.declared.layer_record.LayerRecord.{LayerRecord}
use Rattle.layer_pages.specs.Layers.{CanBeRoot}
use Rattle.tree_node.specs.declared.node.Root.{Root}
use Rattle.live_layers.specs.Catalog.{AreLayers, is_layer_record, with_tree}
use Rattle.live_layers.proofs.CatalogGood.{a_page, from_parts, good_parts}

refill_whole : {X : Type 0} (xs ws : List X) → length ws ≡ length xs → refill (length xs) xs ws ≡ ws
refill_whole xs ws same = grind (arith, common_steps)

pub noted : (items xs : List LayerRecord) (place : ℕ) (r : LayerRecord) (root : Root) (count : ℕ)
    (d : Record) → xs ≡ items → place < length (map record_of items)
    → map record_of
    (refill (length items) items
    (slice_set xs place
    (record (get_or xs place r) { level = root.level; root = root.page; count = count }))) ≡ slice_set
    (map record_of items) place (with_tree (get_or (map record_of items) place d) root count)
noted items xs place r root count d same lt =
    let within : place < length items = omega (arith, lt, length-map items record_of) in
    let put : LayerRecord =
    record (get_or items place r) { level = root.level; root = root.page; count = count } in
    ap (map record_of)
    ((λ i. refill (length items) items
    (slice_set (same i) place
    (record (get_or (same i) place r) { level = root.level; root = root.page; count = count })))
    ∙ refill_whole items (slice_set items place put) (length-set items place put))
    ∙ map-set record_of items place put
    ∙ ap (λ (x : Record). slice_set (map record_of items) place (with_tree x root count))
    (sym (get_or-map record_of items place r d within))

-- records of layers that may be, one of them with another tree
pub still_layers : (records new : List Record) (place : ℕ) (root : Root) (count : ℕ) (d : Record)
    → place < length records → CanBeRoot root
    → new ≡ slice_set records place (with_tree (get_or records place d) root count) → AreLayers records
    → AreLayers new
still_layers records new place root count d lt can is each =
    let r : Record = get_or records place d in
    let parts = good_parts (2 ^ 31) r (each place d lt) in
    let good =
    from_parts (2 ^ 31) (with_tree r root count)
    (record {
      layer = parts.layer;
      low = can.level;
      root = a_page (2 ^ 31) root.page can.page.0 can.page.1;
      ids_root = parts.ids_root;
    }) in
    subst AreLayers (sym is)
    (All-set (λ (x : Record). is_layer_record (2 ^ 31) x ≡ true) records place (with_tree r root count)
    good each)
