-- The record is still that of a layer that may be.
use Rattle.catalog_page.specs.Layout.{record_of, records_of}
use Rattle.live_layers.proofs.FindLemmas.{no_record}
use Rattle.live_layers.proofs.NoteLemmas.{still_layers}
use Rattle.live_layers.proofs.layers.Layers.note.Goals as goal

pub invariant_of-self : goal.invariant_of-self
invariant_of-self g c =
    let d = record_of no_record in
    record {
      are_layers =
          still_layers (records_of c.args.self.now.records) (records_of c.note_tree.new.records) c.args.place
          c.args.root c.args.count d c.requires.within c.requires.root (c.note_tree.ensures d)
          c.args.self.now.are_layers;
    }
