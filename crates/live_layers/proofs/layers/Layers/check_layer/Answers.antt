-- Each refusal is the table's, and none refuses the layer whose place is answered.
use Rattle.std.proofs.Common.{◌≡◌, ◌∙◌, length, ap, inl, sym, arith}
use Rattle.std.specs.Prelude.{is_some}
use Rattle.std.proofs.lemmas.List.{length-map}
use Rattle.catalog_page.specs.Layout.{record_of}
use Rattle.live_layers.specs.Keeping.{count_in, records_in}
use Rattle.live_layers.specs.Refusals.{no_record}
use Rattle.std.specs.FinMap.{len, len-entries}
use Rattle.page_cache.specs.Cache.{next_of, pages}
use Rattle.plain_table.proofs.StepLemmas.{create_exists, create_full, create_passes}
use Rattle.live_layers.proofs.AskLemmas.{named_there, not_there}
use Rattle.live_layers.proofs.CreateLemmas.{bad_dims, bad_fanout, bad_name}
use Rattle.live_layers.proofs.FindLemmas.{as_many}
use Rattle.live_layers.proofs.RefusalLemmas.{create_bad_dims, create_bad_fanout, create_bad_name}
use Rattle.live_layers.proofs.RefusalLemmas.{create_full as refuses_full, create_passes as passes_create}
use Rattle.live_layers.proofs.RefusalLemmas.{create_there}
use Rattle.live_layers.proofs.layers.Layers.check_layer.Goals as goal

pub returns-then-not-is_layer_name-clause-allowed : goal.returns-then-not-is_layer_name-clause-allowed
returns-then-not-is_layer_name-clause-allowed g c =
    λ t sound. bad_name t c.args.name.now c.args.dims c.args.fanout
    (sym c.is_layer_name.ensures ∙ c.if-not-is_layer_name.true)

pub returns-then-not-is_dims-clause-allowed : goal.returns-then-not-is_dims-clause-allowed
returns-then-not-is_dims-clause-allowed g c = λ t sound.
    bad_dims t c.args.name.now c.args.dims c.args.fanout
    (sym c.is_layer_name.ensures ∙ c.if-not-is_layer_name.false)
    (sym c.is_dims.ensures ∙ c.if-not-is_dims.true)

pub returns-then-not-is_fanout-clause-allowed : goal.returns-then-not-is_fanout-clause-allowed
returns-then-not-is_fanout-clause-allowed g c = λ t sound.
    bad_fanout t c.args.name.now c.args.dims c.args.fanout
    (sym c.is_layer_name.ensures ∙ c.if-not-is_layer_name.false)
    (sym c.is_dims.ensures ∙ c.if-not-is_dims.false) (sym c.is_fanout.ensures ∙ c.if-not-is_fanout.true)

pub returns-in_default-clause-allowed : goal.returns-in_default-clause-allowed
returns-in_default-clause-allowed g c = λ t sound.
    create_exists t c.args.name.now (sym c.is_layer_name.ensures ∙ c.if-not-is_layer_name.false) c.args.dims
    c.args.fanout (sym c.is_dims.ensures ∙ c.if-not-is_dims.false)
    (sym c.is_fanout.ensures ∙ c.if-not-is_fanout.false)
    (named_there t c.args.name.now c.in_default.field-0 (c.in_default.ensures.found t sound))

pub returns-then-len-ge-MOST_LAYERS-clause-allowed : goal.returns-then-len-ge-MOST_LAYERS-clause-allowed
returns-then-len-ge-MOST_LAYERS-clause-allowed g c = λ t sound.
    let old = c.args.self.now in
    let name = c.args.name.now in
    let belongs = c.in-Err.ensures.belongs t sound in
    let good = sym c.is_layer_name.ensures ∙ c.if-not-is_layer_name.false in
    let axes = sym c.is_dims.ensures ∙ c.if-not-is_dims.false in
    let sized = sym c.is_fanout.ensures ∙ c.if-not-is_fanout.false in
    let absent = not_there t name c.in-Err.place belongs in
    let count : len t ≡ length old.records.items = len-entries t
    ∙ as_many (pages old.cache) (next_of old.cache) old.records.items t sound.holds in
    create_full t name good c.args.dims c.args.fanout axes sized absent
    (omega (arith, c.if-len-ge-MOST_LAYERS.true, c.len.ensures.value, count))

pub returns-clause-allowed : goal.returns-clause-allowed
returns-clause-allowed g c = λ t sound.
    let old = c.args.self.now in
    let name = c.args.name.now in
    let belongs = c.in-Err.ensures.belongs t sound in
    let good = sym c.is_layer_name.ensures ∙ c.if-not-is_layer_name.false in
    let axes = sym c.is_dims.ensures ∙ c.if-not-is_dims.false in
    let sized = sym c.is_fanout.ensures ∙ c.if-not-is_fanout.false in
    let absent = not_there t name c.in-Err.place belongs in
    let count : len t ≡ length old.records.items = len-entries t
    ∙ as_many (pages old.cache) (next_of old.cache) old.records.items t sound.holds in
    create_passes t name good c.args.dims c.args.fanout axes sized absent
    (omega (arith, c.if-len-ge-MOST_LAYERS.false, c.len.ensures.value, count))

pub returns-then-not-is_layer_name-clause-in_turn : goal.returns-then-not-is_layer_name-clause-in_turn
returns-then-not-is_layer_name-clause-in_turn g c =
    inl (create_bad_name (records_in c.args.self.now) (count_in c.args.self.now) c.args.name.now c.args.dims
    c.args.fanout (sym c.is_layer_name.ensures ∙ c.if-not-is_layer_name.true))

pub returns-then-not-is_dims-clause-in_turn : goal.returns-then-not-is_dims-clause-in_turn
returns-then-not-is_dims-clause-in_turn g c =
    inl (create_bad_dims (records_in c.args.self.now) (count_in c.args.self.now) c.args.name.now c.args.dims
    c.args.fanout (sym c.is_layer_name.ensures ∙ c.if-not-is_layer_name.false)
    (sym c.is_dims.ensures ∙ c.if-not-is_dims.true))

pub returns-then-not-is_fanout-clause-in_turn : goal.returns-then-not-is_fanout-clause-in_turn
returns-then-not-is_fanout-clause-in_turn g c =
    inl (create_bad_fanout (records_in c.args.self.now) (count_in c.args.self.now) c.args.name.now c.args.dims
    c.args.fanout (sym c.is_layer_name.ensures ∙ c.if-not-is_layer_name.false)
    (sym c.is_dims.ensures ∙ c.if-not-is_dims.false)
    (sym c.is_fanout.ensures ∙ c.if-not-is_fanout.true))

pub returns-in_default-clause-in_turn : goal.returns-in_default-clause-in_turn
returns-in_default-clause-in_turn g c =
    inl (create_there (records_in c.args.self.now) (count_in c.args.self.now) c.args.name.now c.args.dims
    c.args.fanout (sym c.is_layer_name.ensures ∙ c.if-not-is_layer_name.false)
    (sym c.is_dims.ensures ∙ c.if-not-is_dims.false)
    (sym c.is_fanout.ensures ∙ c.if-not-is_fanout.false)
    (ap is_some (c.in_default.ensures.recorded no_record)))

pub returns-then-len-ge-MOST_LAYERS-clause-in_turn : goal.returns-then-len-ge-MOST_LAYERS-clause-in_turn
returns-then-len-ge-MOST_LAYERS-clause-in_turn g c =
    inl (refuses_full (records_in c.args.self.now) (count_in c.args.self.now) c.args.name.now c.args.dims
    c.args.fanout (sym c.is_layer_name.ensures ∙ c.if-not-is_layer_name.false)
    (sym c.is_dims.ensures ∙ c.if-not-is_dims.false)
    (sym c.is_fanout.ensures ∙ c.if-not-is_fanout.false) (ap is_some c.in-Err.ensures.unrecorded)
    (omega (
      arith,
      c.if-len-ge-MOST_LAYERS.true,
      c.len.ensures.value,
      length-map c.args.self.now.records.items record_of,
    )))

pub returns-clause-in_turn : goal.returns-clause-in_turn
returns-clause-in_turn g c =
    passes_create (records_in c.args.self.now) (count_in c.args.self.now) c.args.name.now c.args.dims
    c.args.fanout (sym c.is_layer_name.ensures ∙ c.if-not-is_layer_name.false)
    (sym c.is_dims.ensures ∙ c.if-not-is_dims.false)
    (sym c.is_fanout.ensures ∙ c.if-not-is_fanout.false) (ap is_some c.in-Err.ensures.unrecorded)
    (omega (
      arith,
      c.if-len-ge-MOST_LAYERS.false,
      c.len.ensures.value,
      length-map c.args.self.now.records.items record_of,
    ))
