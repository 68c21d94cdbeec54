-- The goal of `keeps_entries` that is proved by hand.
use Rattle.std.proofs.Common.{◌∙◌, ap}
use Rattle.std.specs.Prelude.{not}
use Rattle.node_bytes.proofs.BoxTests.{same_box}
use Rattle.reinsert.proofs.AboveLemmas.{nothing_beside}
use Rattle.reinsert.proofs.place.keeps_entries.Goals as goal

pub returns-then-is_none : goal.returns-then-is_none
returns-then-is_none g c =
    λ same. (
      nothing_beside _ (c.is_none.ensures ∙ ap not c.if-is_none.true),
      (same_box _ _ c.eq.result c.eq.ensures).0 same,
    )
