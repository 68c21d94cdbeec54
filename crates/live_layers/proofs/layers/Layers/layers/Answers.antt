-- The lines of all records are those of the layers.
use Rattle.std.proofs.Common.{◌≡◌, ◌∙◌, List, map, ap}
use Rattle.std.proofs.lemmas.List.{take_all}
use Rattle.catalog_page.specs.Layout.{record_of, records_of}
use Rattle.catalog_page.specs.declared.layer_record.LayerRecord.{LayerRecord}
use Rattle.page_cache.specs.Cache.{next_of, pages}
use Rattle.plain_table.specs.Answers.{line_of_layer}
use Rattle.plain_table.specs.Step.Answer.{Listed}
use Rattle.live_layers.specs.Listing.{record_line}
use Rattle.live_layers.proofs.ListingLemmas.{all_listed}
use Rattle.live_layers.proofs.layers.Layers.layers.Goals as goal

pub returns : goal.returns
returns g c = record {
  answered = λ t sound.
      let kept = c.args.self.now in
      let records = c.as_slice-record-items.result.now in
      let shown : map line_of_layer c.loop-record.all.items ≡ map record_line (map record_of records) =
      c.loop-record.invariant.lines
      ∙ ap (λ (rs : List LayerRecord). map record_line (map record_of rs))
      (take_all c.loop-record.record-index records c.loop-record-test.false) in
      let same : map record_line (map record_of records) ≡ map record_line (records_of kept.records) =
      ap (λ (rs : List LayerRecord). map record_line (map record_of rs))
      c.as_slice-record-items.ensures.value in
      ap Listed
      (shown ∙ same
      ∙ all_listed (pages kept.cache) (next_of kept.cache) (records_of kept.records) t sound.holds);
}
