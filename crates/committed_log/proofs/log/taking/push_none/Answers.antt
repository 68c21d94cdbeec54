-- One block more is added.
use Rattle.std.proofs.Common.{◌++◌, ◌∷◌, [], ◌+◌, arith, replicate}
use Rattle.std.proofs.lemmas.List.{replicate_more}
use Rattle.committed_log.specs.Log.{no_home}
use Rattle.committed_log.proofs.Taking.{added_as, added_more, added_none, room_less, room_one}
use Rattle.committed_log.proofs.log.taking.push_none.Goals as goal

pub loop-k-init : goal.loop-k-init
loop-k-init g c = added_none c.args.slots.now

pub push-requires : goal.push-requires
push-requires g c =
    room_one (replicate c.loop-k._k no_home) c.loop-k._k c.args.count c.args.slots.now c.loop-k.slots
    c.loop-k.invariant c.loop-k-test.true c.requires

pub loop-k-preserved : goal.loop-k-preserved
loop-k-preserved g c =
    let k = c.loop-k._k in
    added_as (replicate k no_home ++ no_home ∷ []) (replicate (k + 1) no_home) (k + 1) c.args.slots.now
    c.push.new.self (replicate_more k no_home)
    (added_more (replicate k no_home) no_home k c.args.slots.now c.loop-k.slots c.push.new.self
    c.loop-k.invariant c.push.ensures.slots c.push.ensures.room)

pub returns-clause-room : goal.returns-clause-room
returns-clause-room g c = λ n r.
    c.loop-k.invariant.room n
    (room_less (n + c.loop-k._k) (n + c.args.count) c.args.slots.now (omega arith) r)
