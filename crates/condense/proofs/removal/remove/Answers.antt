-- The goals of `remove` that are proved by hand.
use Rattle.condense.proofs.RoomLemmas.{no_room_removes}
use Rattle.condense.proofs.removal.remove.Goals as goal

pub returns-in_err-kept : goal.returns-in_err-kept
returns-in_err-kept g c =
    no_room_removes c.args.cache.now c.in_err-kept.field-0.0 c.from_residual.result c.from_residual.ensures.1
    c.in_err-kept.ensures
