-- The layer of the name is found or not.
use Rattle.std.proofs.Common.{◌∙◌, sym, ap}
use Rattle.std.specs.Prelude.{Option, is_some, unwrap_or}
use Rattle.catalog_page.specs.Layout.{Record}
use Rattle.live_layers.specs.Keeping.{records_in}
use Rattle.live_layers.specs.Refusals.{no_record}
use Rattle.live_layers.proofs.RefusalLemmas.{name_passes, no_record_named, not_a_name}
use Rattle.live_layers.proofs.ReplyLemmas.{bad_name, is_named, none_named}
use Rattle.live_layers.proofs.layers.Layers.named.Goals as goal

pub returns-then-not-is_layer_name-clause-unnamed : goal.returns-then-not-is_layer_name-clause-unnamed
returns-then-not-is_layer_name-clause-unnamed g c =
    λ t sound. bad_name t c.args.name.now (sym c.is_layer_name.ensures ∙ c.if-not-is_layer_name.true)

pub returns-in_default-clause-unnamed : goal.returns-in_default-clause-unnamed
returns-in_default-clause-unnamed g c =
    λ t sound. none_named t c.args.name.now c.in_default.field-0
    (sym c.is_layer_name.ensures ∙ c.if-not-is_layer_name.false) (c.in_default.ensures.belongs t sound)

pub returns-clause-named : goal.returns-clause-named
returns-clause-named g c =
    λ t sound. is_named t c.args.name.now c.in-Ok.place
    (sym c.is_layer_name.ensures ∙ c.if-not-is_layer_name.false) (c.in-Ok.ensures.found t sound)

pub returns-then-not-is_layer_name-clause-unrecorded : goal.returns-then-not-is_layer_name-clause-unrecorded
returns-then-not-is_layer_name-clause-unrecorded g c =
    not_a_name (records_in c.args.self.now) c.args.name.now
    (sym c.is_layer_name.ensures ∙ c.if-not-is_layer_name.true)

pub returns-in_default-clause-unrecorded : goal.returns-in_default-clause-unrecorded
returns-in_default-clause-unrecorded g c =
    no_record_named (records_in c.args.self.now) c.args.name.now
    (sym c.is_layer_name.ensures ∙ c.if-not-is_layer_name.false) c.in_default.ensures.unrecorded

pub returns-clause-recorded : goal.returns-clause-recorded
returns-clause-recorded g c = record {
  passes = name_passes (records_in c.args.self.now) c.args.name.now
      (sym c.is_layer_name.ensures ∙ c.if-not-is_layer_name.false)
      (ap is_some (c.in-Ok.ensures.recorded no_record));
  recorded = λ d. ap (λ (o : Option Record). unwrap_or o no_record) (c.in-Ok.ensures.recorded d);
}
