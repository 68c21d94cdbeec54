-- One slot more is added.
use Rattle.std.proofs.Common.{◌+◌, arith, drop}
use Rattle.committed_log.specs.Room.{blocks_of}
use Rattle.snapshot_reader.proofs.Reading.{bad_home, homed_none, homed_one, longer_none, longer_one, room_less}
use Rattle.snapshot_reader.proofs.Reading.{room_one}
use Rattle.snapshot_reader.proofs.index.push_homes.Goals as goal

pub loop-k-init : goal.loop-k-init
loop-k-init g c = (
  longer_none c.args.slots.now,
  λ h. homed_none c.args.n c.args.limit c.zero_block-page.result (blocks_of c.args.slots.now)
      (drop c.args.start (g.J.BlockReader.shown c.args.journal.now)),
)

pub read_home-requires-clause-held : goal.read_home-requires-clause-held
read_home-requires-clause-held g c = λ h some. (c.loop-k.invariant.1 h).held some

pub push-requires : goal.push-requires
push-requires g c =
    room_one c.loop-k.k c.args.n c.args.slots.now c.loop-k.slots c.loop-k.invariant.0 c.loop-k-test.true
    c.requires.room

pub loop-k-preserved : goal.loop-k-preserved
loop-k-preserved g c =
    let k = c.loop-k.k in let home = c.in_ok-home.home in let inv = c.loop-k.invariant in (
      longer_one home k c.args.slots.now c.loop-k.slots c.push.new.self inv.0 c.push.ensures.slots
          c.push.ensures.room,
      λ h. homed_one c.args.n c.args.limit k home c.loop-k.page c.read_home.new.page
          (blocks_of c.args.slots.now) (blocks_of c.loop-k.slots) (blocks_of c.push.new.self)
          (drop c.args.start (g.J.BlockReader.shown c.args.journal.now)) (inv.1 h)
          (c.in_ok-home.ensures.home h) c.if-home-limit.false (c.in_ok-home.ensures.held h)
          c.push.ensures.slots,
    )

pub returns-then-home-limit-clause-malformed : goal.returns-then-home-limit-clause-malformed
returns-then-home-limit-clause-malformed g c = λ h e.
    bad_home c.args.n c.loop-k.k c.args.limit c.in_ok-home.home
    (drop c.args.start (g.J.BlockReader.shown c.args.journal.now)) c.loop-k-test.true c.if-home-limit.true
    (c.in_ok-home.ensures.home h)

pub returns-clause-room : goal.returns-clause-room
returns-clause-room g c = λ m r.
    c.loop-k.invariant.0.room m
    (room_less (m + c.loop-k.k) (m + c.args.n) c.args.slots.now
    (omega (arith, c.loop-k-test.false, c.loop-k.auto.k-end)) r)
