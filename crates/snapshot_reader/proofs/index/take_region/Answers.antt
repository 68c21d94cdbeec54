-- Room for the blocks of a region, one after the other.
use Rattle.std.proofs.Common.{◌+◌, arith}
use Rattle.committed_log.specs.Log.{index_blocks}
use Rattle.committed_log.specs.Room.{HasRoomFor}
use Rattle.snapshot_reader.proofs.Reading.{room_less}
use Rattle.snapshot_reader.proofs.index.take_region.Given as given
use Rattle.snapshot_reader.proofs.index.take_region.Goals as goal
use Rattle.snapshot_reader.proofs.index.take_region.Goals.{After-push_none}

-- for slots and index
room_so : (g : given.Over) (c : After-push_none g) → HasRoomFor (index_blocks c.args.n + c.args.n) c.push_none.new.slots
room_so g c =
    let n = c.args.n in
    c.push_none.ensures.room (index_blocks n + n)
    (room_less (index_blocks n + n + 2) c.region_blocks.result c.reserve.new.self
    (omega (arith, c.region_blocks.ensures)) c.in_ok-reserve.ensures.room)

pub push_homes-requires-clause-room : goal.push_homes-requires-clause-room
push_homes-requires-clause-room g c =
    let n = c.args.n in
    room_less n (index_blocks n + n) c.push_none.new.slots (omega arith)
    (room_so g (goal.at.push_homes-requires-clause-room g c).After-push_none)

pub push_none-requires-2 : goal.push_none-requires-2
push_none-requires-2 g c =
    let n = c.args.n in
    room_less c.div_ceil.result (index_blocks n) c.push_homes.new.slots (omega (arith, c.div_ceil.ensures))
    (c.in_ok-push_homes.ensures.room (index_blocks n)
    (room_so g (goal.at.push_none-requires-2 g c).After-push_none))
