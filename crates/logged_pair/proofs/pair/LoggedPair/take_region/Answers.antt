-- The region is taken in.
use Rattle.std.proofs.Common.{◌≡◌, ◌∙◌, ◌≤◌, ℕ, List, false, ap, arith, length, refl, subst, sym}
use Rattle.std.proofs.lemmas.List.{length-append}
use Rattle.block_device.specs.Device.{Blocks, block_at}
use Rattle.committed_log.specs.Committed as regions
use Rattle.committed_log.specs.Log.{overlaid, region_of, says}
use Rattle.committed_log.specs.Room.{HasRoomFor}
use Rattle.logged_pair.specs.CommitLaws.{few_seen, settled_of}
use Rattle.logged_pair.specs.Shown.{length-shown, shown_region}
use Rattle.logged_pair.specs.Stages.{IsRecorded, IsStanding, shown_through}
use Rattle.logged_pair.specs.Standing.{base_of, clearing_of, homes_of, journal_of, pair_of, shown_of}
use Rattle.logged_pair.specs.Standing.{IsHonest}
use Rattle.logged_pair.proofs.Advanced.{commits_taken, open_stands, taken_next, taken_region}
use Rattle.logged_pair.proofs.GivingUp.{bare_shown}
use Rattle.logged_pair.proofs.Keeping.{keeps_bare}
use Rattle.logged_pair.proofs.Stood.{deciding_reads, filling_all}
use Rattle.logged_pair.proofs.Snapped.{last_is, snaps_taken}
use Rattle.logged_pair.proofs.pair.LoggedPair.take_region.Given as given
use Rattle.logged_pair.proofs.pair.LoggedPair.take_region.Goals as goal
use Rattle.logged_pair.proofs.pair.LoggedPair.take_region.Goals.{After-base_blocks-self, After-homes}
use Rattle.logged_pair.proofs.pair.LoggedPair.take_region.Goals.{After-take_in}

recorded_so : (g : given.Over) (c : After-homes g) → IsHonest c.args.self.now
    → IsRecorded (homes_of c.args.self.now) (journal_of c.args.self.now)
recorded_so g c h =
    let d = c.args.self.now in
    deciding_reads d.deciding (clearing_of d) d.kept (homes_of d) (base_of d) (journal_of d)
    (regions.leaves_of d.log) c.requires.deciding (d.standing h)

pub take_in-requires-clause-room : goal.take_in-requires-clause-room
take_in-requires-clause-room g c =
    subst (λ (hs : List ℕ). HasRoomFor (length (region_of hs)) (regions.slots_of c.args.self.now.log))
    (sym c.homes.ensures) c.requires.room

pub take_in-requires-clause-region : goal.take_in-requires-clause-region
take_in-requires-clause-region g c = λ h.
    let d = c.args.self.now in
    taken_region (homes_of d) c.homes.result.now d.kept (length (base_of d)) (journal_of d) c.homes.ensures
    (d.standing h).kept_there (d.standing h).homes_below (c.requires.said h)
    (recorded_so g (goal.at.take_in-requires-clause-region g c).After-homes h)

next_so : (g : given.Over) (c : After-take_in g) → IsHonest c.args.self.now
    → (2 ≤ length (regions.behind_of c.take_in.new.self))
    × (says (block_at 0 (regions.behind_of c.take_in.new.self)) ≡ false)
next_so g c h =
    let d = c.args.self.now in
    taken_next (homes_of d) (journal_of d) (regions.behind_of c.take_in.new.self)
    (deciding_reads d.deciding (clearing_of d) d.kept (homes_of d) (base_of d) (journal_of d)
    (regions.leaves_of d.log) c.requires.deciding (d.standing h))
    (c.take_in.ensures.behind h)

seen_so : (g : given.Over) (c : After-take_in g) → IsHonest c.args.self.now
    → regions.seen_of c.take_in.new.self ≡ shown_of c.args.self.now
seen_so g c h =
    let d = c.args.self.now in
    c.take_in.ensures.seen h
    ∙ ap (λ (hs : List ℕ). overlaid (region_of hs) (journal_of d) (base_of d)) c.homes.ensures
    ∙ shown_region (homes_of d) (journal_of d) (base_of d)
    (omega (arith, few_seen d.log (g.met.P.DevicePair.few_blocks (pair_of d)).0))

-- what stands then
stands_so : (g : given.Over) (c : After-base_blocks-self g) → IsHonest c.args.self.now
    → IsStanding false (regions.clearing_of c.take_in.new.self) c.base_blocks-self.result
    c.clear.new.self.homes.items (regions.seen_of c.take_in.new.self) (regions.behind_of c.take_in.new.self)
    (regions.leaves_of c.take_in.new.self)
stands_so g c h =
    let d = c.args.self.now in let t = c.take_in.new.self in
    let next = taken_next (homes_of d) (journal_of d) (regions.behind_of t)
    (deciding_reads d.deciding (clearing_of d) d.kept (homes_of d) (base_of d) (journal_of d)
    (regions.leaves_of d.log) c.requires.deciding (d.standing h))
    (c.take_in.ensures.behind h) in
    open_stands (regions.clearing_of t) c.base_blocks-self.result c.clear.new.self.homes.items
    (regions.seen_of t) (regions.behind_of t) (regions.leaves_of t) c.take_in.ensures.settled
    c.clear.ensures c.base_blocks-self.ensures.is next.0 next.1 (c.take_in.ensures.durable h)

pub invariant_of-self : goal.invariant_of-self
invariant_of-self g c =
    record {
      standing = λ h2.
          stands_so g (goal.at.invariant_of-self g c).After-base_blocks-self
          (subst g.P.DevicePair.honest c.take_in.ensures.pair h2);
    }

bare_so : (g : given.Over) (c : After-base_blocks-self g)
    → shown_through c.clear.new.self.homes.items (regions.behind_of c.take_in.new.self)
    (regions.seen_of c.take_in.new.self)
    ≡ regions.seen_of c.take_in.new.self
bare_so g c =
    let t = c.take_in.new.self in
    bare_shown c.clear.new.self.homes.items (regions.seen_of t) (regions.behind_of t)
    (few_seen t (g.met.P.DevicePair.few_blocks (regions.pair_of t)).0) c.clear.ensures

pub returns-clause-durable : goal.returns-clause-durable
returns-clause-durable g c = λ h kept is.
    let t = c.take_in.new.self in
    filling_all false c.base_blocks-self.result c.clear.new.self.homes.items (regions.seen_of t)
    (regions.behind_of t) kept refl c.base_blocks-self.ensures.is is
    ∙ seen_so g (goal.at.returns-clause-durable g c).After-take_in h

pub returns-clause-settled : goal.returns-clause-settled
returns-clause-settled g c = λ h.
    let t = c.take_in.new.self in
    let last = (goal.at.returns-clause-settled g c).After-base_blocks-self in
    let next = next_so g (goal.at.returns-clause-settled g c).After-take_in h in
    settled_of t
    (shown_through c.clear.new.self.homes.items (regions.behind_of t) (regions.seen_of t))
    (g.met.P.DevicePair.few_blocks (regions.pair_of t)).0
    (subst g.P.DevicePair.honest (sym c.take_in.ensures.pair) h)
    (λ v j left. (c.take_in.ensures.durable h v j left).0 ∙ sym (bare_so g last))
    (λ v j left. ap (λ (b : Blocks). says (block_at 0 b)) (c.take_in.ensures.durable h v j left).1 ∙ next.1)

pub returns-clause-shown : goal.returns-clause-shown
returns-clause-shown g c = λ h.
    bare_so g (goal.at.returns-clause-shown g c).After-base_blocks-self
    ∙ seen_so g (goal.at.returns-clause-shown g c).After-take_in h

pub returns-clause-keeps : goal.returns-clause-keeps
returns-clause-keeps g c = λ h.
    let d = c.args.self.now in let t = c.take_in.new.self in
    keeps_bare d _ c.take_in.ensures.pair
    (commits_taken d.deciding d.kept c.base_blocks-self.result (homes_of d) c.clear.new.self.homes.items
    (base_of d) (regions.seen_of t) (journal_of d) (regions.behind_of t) c.requires.deciding
    c.base_blocks-self.ensures.is (seen_so g (goal.at.returns-clause-keeps g c).After-take_in h))

pub returns-clause-snapshots : goal.returns-clause-snapshots
returns-clause-snapshots g c = λ h.
    let d = c.args.self.now in let t = c.take_in.new.self in
    snaps_taken d.kept c.base_blocks-self.result d.log t
    (omega (
      arith,
      (d.standing h).kept_there,
      c.base_blocks-self.ensures.is,
      ap length (seen_so g (goal.at.returns-clause-snapshots g c).After-take_in h),
      length-shown (homes_of d) (journal_of d) (base_of d),
    ))
    c.take_in.ensures.pair c.take_in.ensures.settled
    (omega (
      arith,
      ap length c.take_in.ensures.homes,
      length-append (regions.homes_of d.log) (region_of c.homes.result.now),
    ))

pub returns-clause-new_snapshot : goal.returns-clause-new_snapshot
returns-clause-new_snapshot g c = λ h.
    let t = c.take_in.new.self in
    last_is false (regions.clearing_of t) c.base_blocks-self.result c.clear.new.self.homes.items t
    (g.met.P.DevicePair.few_blocks (regions.pair_of t)).0
    (subst g.P.DevicePair.honest (sym c.take_in.ensures.pair) h) c.take_in.ensures.settled c.clear.ensures
    c.base_blocks-self.ensures.is
    (stands_so g (goal.at.returns-clause-new_snapshot g c).After-base_blocks-self h)
