-- One block more is listed.
use Rattle.std.proofs.Common.{subst, sym}
use Rattle.committed_log.specs.Room.{blocks_of}
use Rattle.logged_pair.specs.Compaction.{AreListed}
use Rattle.logged_pair.proofs.Newest.{list_start, list_step}
use Rattle.logged_pair.proofs.compaction.listed.Goals as goal

pub loop-i-init : goal.loop-i-init
loop-i-init g c =
    subst (AreListed (blocks_of c.args.slots.now) 0) (sym c.new-homes.ensures.items)
    (list_start (blocks_of c.args.slots.now))

pub loop-i-preserved : goal.loop-i-preserved
loop-i-preserved g c =
    list_step (blocks_of c.args.slots.now) c.loop-i.i c.loop-i.homes.items c.list.new.homes.items c.loop-i.invariant
    c.in_ok-list.ensures
