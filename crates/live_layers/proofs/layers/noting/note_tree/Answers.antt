-- The record is written in its place.
use Rattle.live_layers.proofs.NoteLemmas.{noted}
use Rattle.live_layers.proofs.layers.noting.note_tree.Goals as goal

pub returns : goal.returns
returns c =
    λ d. noted c.args.records.now.items c.deref_mut.result.now c.args.place c.index-deref_mut-place.result
    c.args.root c.args.count d c.deref_mut.ensures.value c.requires.within
