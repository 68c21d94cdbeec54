-- The flag decides, and the region is taken in.
use Rattle.std.proofs.Common.{◌≡◌, ◌∙◌, ℕ, List, length, subst, sym}
use Rattle.committed_log.specs.Committed as regions
use Rattle.committed_log.specs.Log.{region_of}
use Rattle.committed_log.specs.Room.{HasRoomFor}
use Rattle.logged_pair.specs.Standing.{commits_of, homes_of, log_of, pair_of, shown_of, IsHonest, KeepsTo}
use Rattle.logged_pair.proofs.Keeping.{keeps_on, keeps_still, shown_still}
use Rattle.logged_pair.specs.Snapshots.{KeepsSnapshots}
use Rattle.logged_pair.proofs.Snapped.{snapshots_still, snapshots_then}
use Rattle.logged_pair.proofs.pair.LoggedPair.decide.Given as given
use Rattle.logged_pair.proofs.pair.LoggedPair.decide.Goals as goal
use Rattle.logged_pair.proofs.pair.LoggedPair.decide.Goals.{After-reserve_region, After-say_committed}

honest_so : (g : given.Over) (c : After-reserve_region g) → IsHonest c.args.self.now
    → IsHonest c.reserve_region.new.self
honest_so g c h = subst g.P.DevicePair.honest (sym c.reserve_region.ensures.pair) h

reserved_so : (g : given.Over) (c : After-reserve_region g) → IsHonest c.args.self.now
    → KeepsTo (commits_of c.args.self.now) c.args.self.now c.reserve_region.new.self
reserved_so g c h =
    let r = c.reserve_region.new.self in
    keeps_still c.args.self.now r (g.met.P.DevicePair.few_blocks (pair_of r)).0 (honest_so g c h)
    c.reserve_region.ensures.still

said_so : (g : given.Over) (c : After-say_committed g) → IsHonest c.args.self.now
    → IsHonest c.reserve_region.new.self
    → KeepsTo (commits_of c.args.self.now) c.args.self.now c.reserve_region.new.self
    → KeepsTo (commits_of c.args.self.now) c.args.self.now c.say_committed.new.self
said_so g c h h2 k =
    keeps_on (commits_of c.args.self.now) c.args.self.now c.reserve_region.new.self c.say_committed.new.self k
    (c.say_committed.ensures.keeps h2)

shown_so : (g : given.Over) (c : After-say_committed g) → IsHonest c.reserve_region.new.self
    → shown_of c.say_committed.new.self ≡ shown_of c.args.self.now
shown_so g c h2 =
    c.say_committed.ensures.shown h2
    ∙ shown_still c.args.self.now c.reserve_region.new.self c.reserve_region.ensures.still

pub returns-in_err-reserve_region-clause-shown : goal.returns-in_err-reserve_region-clause-shown
returns-in_err-reserve_region-clause-shown g c = λ h.
    shown_still c.args.self.now c.reserve_region.new.self c.reserve_region.ensures.still

pub returns-in_err-reserve_region-clause-keeps : goal.returns-in_err-reserve_region-clause-keeps
returns-in_err-reserve_region-clause-keeps g c = λ h.
    reserved_so g (goal.at.returns-in_err-reserve_region-clause-keeps g c).After-reserve_region h

pub returns-in_err-say_committed-clause-shown : goal.returns-in_err-say_committed-clause-shown
returns-in_err-say_committed-clause-shown g c = λ h.
    shown_so g (goal.at.returns-in_err-say_committed-clause-shown g c).After-say_committed
    (honest_so g (goal.at.returns-in_err-say_committed-clause-shown g c).After-reserve_region h)

pub returns-in_err-say_committed-clause-keeps : goal.returns-in_err-say_committed-clause-keeps
returns-in_err-say_committed-clause-keeps g c = λ h.
    let first = (goal.at.returns-in_err-say_committed-clause-keeps g c).After-reserve_region in
    said_so g (goal.at.returns-in_err-say_committed-clause-keeps g c).After-say_committed h (honest_so g first h)
    (reserved_so g first h)

pub take_region-requires-clause-room : goal.take_region-requires-clause-room
take_region-requires-clause-room g c =
    let r = c.reserve_region.new.self in let m = c.say_committed.new.self in
    subst (λ (hs : List ℕ). HasRoomFor (length (region_of hs)) (regions.slots_of (log_of m)))
    (sym c.say_committed.ensures.slots.homes)
    (subst (HasRoomFor (length (region_of (homes_of r)))) (sym c.say_committed.ensures.index)
    c.in_ok-reserve_region.ensures.room)

pub take_region-requires-clause-said : goal.take_region-requires-clause-said
take_region-requires-clause-said g c = λ h2.
    c.in_ok-say_committed.ensures.said (c.say_committed.ensures.honest.1 h2)

pub take_region-requires-clause-synced : goal.take_region-requires-clause-synced
take_region-requires-clause-synced g c = λ h2.
    c.in_ok-say_committed.ensures.synced (c.say_committed.ensures.honest.1 h2)

pub returns-clause-durable : goal.returns-clause-durable
returns-clause-durable g c = λ h kept is.
    let h1 = honest_so g (goal.at.returns-clause-durable g c).After-reserve_region h in
    c.take_region.ensures.durable (c.say_committed.ensures.honest.0 h1) kept is
    ∙ shown_so g (goal.at.returns-clause-durable g c).After-say_committed h1

pub returns-clause-settled : goal.returns-clause-settled
returns-clause-settled g c = λ h.
    let h1 = honest_so g (goal.at.returns-clause-settled g c).After-reserve_region h in
    c.take_region.ensures.settled (c.say_committed.ensures.honest.0 h1)

pub returns-clause-shown : goal.returns-clause-shown
returns-clause-shown g c = λ h.
    let h1 = honest_so g (goal.at.returns-clause-shown g c).After-reserve_region h in
    c.take_region.ensures.shown (c.say_committed.ensures.honest.0 h1)
    ∙ shown_so g (goal.at.returns-clause-shown g c).After-say_committed h1

pub returns-clause-keeps : goal.returns-clause-keeps
returns-clause-keeps g c = λ h.
    let d = c.args.self.now in
    let first = (goal.at.returns-clause-keeps g c).After-reserve_region in
    let h1 = honest_so g first h in
    keeps_on (commits_of d) d c.say_committed.new.self c.take_region.new.self
    (said_so g (goal.at.returns-clause-keeps g c).After-say_committed h h1 (reserved_so g first h))
    (c.take_region.ensures.keeps (c.say_committed.ensures.honest.0 h1))

reserved_snaps : (g : given.Over) (c : After-reserve_region g)
    → KeepsSnapshots c.args.self.now c.reserve_region.new.self
reserved_snaps g c = snapshots_still c.args.self.now c.reserve_region.new.self c.reserve_region.ensures.still

said_snaps : (g : given.Over) (c : After-say_committed g) → IsHonest c.reserve_region.new.self
    → KeepsSnapshots c.args.self.now c.reserve_region.new.self
    → KeepsSnapshots c.args.self.now c.say_committed.new.self
said_snaps g c h2 x =
    snapshots_then c.args.self.now c.reserve_region.new.self c.say_committed.new.self x
    (c.say_committed.ensures.snapshots h2)

pub returns-in_err-reserve_region-clause-snapshots : goal.returns-in_err-reserve_region-clause-snapshots
returns-in_err-reserve_region-clause-snapshots g c = λ h.
    reserved_snaps g (goal.at.returns-in_err-reserve_region-clause-snapshots g c).After-reserve_region

pub returns-in_err-say_committed-clause-snapshots : goal.returns-in_err-say_committed-clause-snapshots
returns-in_err-say_committed-clause-snapshots g c = λ h.
    let first = (goal.at.returns-in_err-say_committed-clause-snapshots g c).After-reserve_region in
    said_snaps g (goal.at.returns-in_err-say_committed-clause-snapshots g c).After-say_committed
    (honest_so g first h) (reserved_snaps g first)

pub returns-clause-snapshots : goal.returns-clause-snapshots
returns-clause-snapshots g c = λ h.
    let first = (goal.at.returns-clause-snapshots g c).After-reserve_region in
    let h1 = honest_so g first h in
    snapshots_then c.args.self.now c.say_committed.new.self c.take_region.new.self
    (said_snaps g (goal.at.returns-clause-snapshots g c).After-say_committed h1 (reserved_snaps g first))
    (c.take_region.ensures.snapshots (c.say_committed.ensures.honest.0 h1))

pub returns-clause-new_snapshot : goal.returns-clause-new_snapshot
returns-clause-new_snapshot g c = λ h.
    c.take_region.ensures.new_snapshot
    (c.say_committed.ensures.honest.0
    (honest_so g (goal.at.returns-clause-new_snapshot g c).After-reserve_region h))
