-- The goals of `insert_at` that are proved by hand.
use Rattle.reinsert.proofs.RoomLemmas.{no_room_inserts}
use Rattle.reinsert.proofs.insert.insert_at.Goals as goal

pub returns-in_err-waiting : goal.returns-in_err-waiting
returns-in_err-waiting g c =
    no_room_inserts c.args.cache.now c.in_err-waiting.field-0.0 c.from_residual.result c.from_residual.ensures.1
    c.in_err-waiting.ensures
