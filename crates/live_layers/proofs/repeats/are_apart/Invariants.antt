-- What holds at each turn of the loop over the entries.
use Rattle.std.proofs.Common.{map}
use Rattle.tree_node.specs.declared.node.Entry.{Entry}
use Rattle.live_layers.proofs.RepeatLemmas.{Apart, Marked}
use Rattle.live_layers.proofs.repeats.are_apart.Given as goal

-- the identifiers so far have a mark each, and are all different
abbrev pub invariant-entries : goal.invariant-entries
invariant-entries g l = record {
  marked : Marked (map (λ (e : Entry g.row.D). e.reference) l.entries) l.least l.marks.items l.place;
  apart : Apart (map (λ (e : Entry g.row.D). e.reference) l.entries) l.place;
}
