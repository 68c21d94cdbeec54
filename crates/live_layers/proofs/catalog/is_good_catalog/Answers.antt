-- The goals of `is_good_catalog` that are proved by hand.
use Rattle.std.proofs.Common.{◌∙◌, ◌&&◌, Bool, map, nat_le, sym, ap}
use Rattle.std.proofs.lemmas.List.Folds.{list_all-map}
use Rattle.catalog_page.specs.Layout.{record_of}
use Rattle.plain_table.specs.Table.{most_objects}
use Rattle.live_layers.specs.Catalog.{is_layer_record, names_ascend, objects_named}
use Rattle.live_layers.proofs.catalog.is_good_catalog.Goals as goal

pub returns-then-not-are_layer_records : goal.returns-then-not-are_layer_records
returns-then-not-are_layer_records c =
    ap (λ (b : Bool). b
    && (names_ascend (map record_of c.args.records.now)
    && nat_le (objects_named (map record_of c.args.records.now)) most_objects))
    (sym c.if-not-are_layer_records.true ∙ c.are_layer_records.ensures
    ∙ sym (list_all-map (is_layer_record c.args.next) record_of c.args.records.now))

pub returns-then-names_ascend : goal.returns-then-names_ascend
returns-then-names_ascend c =
    (λ j. (sym c.if-not-are_layer_records.false ∙ c.are_layer_records.ensures
    ∙ sym (list_all-map (is_layer_record c.args.next) record_of c.args.records.now)) j
    && ((sym c.if-names_ascend.true ∙ c.names_ascend.ensures) j && c.have_room.ensures j))
