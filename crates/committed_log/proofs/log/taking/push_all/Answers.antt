-- One slot more is added.
use Rattle.std.proofs.Common.{◌++◌, ◌∷◌, [], ◌+◌, arith, length, sym, take}
use Rattle.std.specs.Prelude.{slice_index}
use Rattle.std.proofs.lemmas.List.{take_more}
use Rattle.committed_log.proofs.Taking.{added_as, added_more, added_none, room_less, room_one}
use Rattle.committed_log.proofs.log.taking.push_all.Goals as goal

pub loop-k-init : goal.loop-k-init
loop-k-init g c = added_none c.args.slots.now

pub push-requires : goal.push-requires
push-requires g c =
    room_one (take c.loop-k.k c.args.homes.now) c.loop-k.k (length c.args.homes.now) c.args.slots.now
    c.loop-k.slots c.loop-k.invariant c.loop-k-test.true c.requires

pub loop-k-preserved : goal.loop-k-preserved
loop-k-preserved g c =
    let k = c.loop-k.k in let homes = c.args.homes.now in
    added_as (take k homes ++ slice_index homes k ∷ []) (take (k + 1) homes) (k + 1) c.args.slots.now
    c.push.new.self (sym (take_more homes k 0 c.loop-k-test.true))
    (added_more (take k homes) (slice_index homes k) k c.args.slots.now c.loop-k.slots c.push.new.self
    c.loop-k.invariant c.push.ensures.slots c.push.ensures.room)

pub returns-clause-room : goal.returns-clause-room
returns-clause-room g c = λ n r.
    c.loop-k.invariant.room n
    (room_less (n + c.loop-k.k) (n + length c.args.homes.now) c.args.slots.now (omega arith) r)
