-- The home of one slot more is read.
use Rattle.std.proofs.Common.{◌≡◌, ◌∙◌, ◌+◌, ◌<◌, ◌≤◌, ℕ, List, ap, arith, subst, sym}
use Rattle.std.specs.Prelude.{◌/◌}
use Rattle.std.specs.List.{All}
use Rattle.block_device.specs.Device.{block_at}
use Rattle.committed_log.specs.Committed.{behind_of, IsHonest, IsStill}
use Rattle.committed_log.specs.Log.{home_in, slot_homes}
use Rattle.committed_log.proofs.Keeping.{behind_still}
use Rattle.committed_log.proofs.Opened.{bad_home}
use Rattle.committed_log.proofs.Reading.{HomesTo, homes_start, homes_step, still_then}
use Rattle.committed_log.proofs.log.CommittedLog.read_homes.Given as given
use Rattle.committed_log.proofs.log.CommittedLog.read_homes.Goals as goal
use Rattle.committed_log.proofs.log.CommittedLog.read_homes.Goals.{After-read_home}

pub loop-k-init : goal.loop-k-init
loop-k-init g c =
    let d = c.args.self.now in (
      subst (λ (l : List ℕ). HomesTo c.args.n c.base_blocks-limit.result 0 l c.zero_block-page.result d d)
          (sym c.in_ok-homes.ensures.none)
          (homes_start c.args.n c.base_blocks-limit.result c.zero_block-page.result d),
      c.in_ok-homes.ensures.room,
      c.base_blocks-limit.ensures.is,
    )

pub read_home-requires : goal.read_home-requires
read_home-requires g c =
    let d = c.args.self.now in let inv = c.loop-k.invariant.0 in
    record {
      held = λ h some.
          inv.held (inv.honest.1 h) some
          ∙ sym (ap (block_at (2 + c.args.n + c.loop-k.k / 1024))
          (behind_still d c.loop-k.self (inv.still (inv.honest.1 h))));
    }

still_so : (g : given.Over) (c : After-read_home g) → IsHonest c.args.self.now
    → IsStill c.args.self.now c.read_home.new.self
still_so g c h =
    let d = c.args.self.now in let inv = c.loop-k.invariant.0 in
    still_then d c.loop-k.self c.read_home.new.self
    (λ t a b le left. g.met.P.DevicePair.counts_now d.pair t a b h le left) (inv.still h)
    (c.read_home.ensures.still (inv.honest.0 h))

pub loop-k-preserved : goal.loop-k-preserved
loop-k-preserved g c =
    let d = c.args.self.now in let n = c.args.n in let limit = c.base_blocks-limit.result in
    let k = c.loop-k.k in let inv = c.loop-k.invariant in let e = c.read_home.ensures in (
      subst (λ (l : List ℕ). HomesTo n limit (k + 1) l c.read_home.new.page d c.read_home.new.self)
          (sym c.push_reserved.ensures.items)
          (homes_step n limit k c.in_ok-home.home c.loop-k.homes.items c.loop-k.page c.read_home.new.page
          d c.loop-k.self c.read_home.new.self inv.0 c.if-home-limit.false
          (λ t a b h le left. g.met.P.DevicePair.counts_now d.pair t a b h le left)
          c.in_ok-home.ensures.held c.in_ok-home.ensures.home e.still e.log e.honest),
      omega (arith, inv.1, c.push_reserved.ensures.capacity),
      inv.2,
    )

pub returns-then-home-limit-clause-malformed : goal.returns-then-home-limit-clause-malformed
returns-then-home-limit-clause-malformed g c = λ h e.
    let d = c.args.self.now in let n = c.args.n in let limit = c.base_blocks-limit.result in
    let k = c.loop-k.k in let inv = c.loop-k.invariant in
    let home : c.in_ok-home.home ≡ home_in n k (behind_of d) =
    c.in_ok-home.ensures.home (inv.0.honest.0 h)
    ∙ ap (home_in n k) (behind_still d c.loop-k.self (inv.0.still h)) in
    subst (λ (m : ℕ). ¬ All (λ x. x < m) (slot_homes n 0 n (behind_of d))) inv.2
    (bad_home n k limit (behind_of d) c.loop-k-test.true
    (subst (λ (x : ℕ). limit ≤ x) home c.if-home-limit.true))

pub returns-then-home-limit-clause-still : goal.returns-then-home-limit-clause-still
returns-then-home-limit-clause-still g c = λ h.
    still_so g (goal.at.returns-then-home-limit-clause-still g c).After-read_home h

pub returns-clause-homes : goal.returns-clause-homes
returns-clause-homes g c = λ h.
    let d = c.args.self.now in let inv = c.loop-k.invariant.0 in
    inv.are h
    ∙ ap (λ (k : ℕ). slot_homes c.args.n 0 k (behind_of d))
    (omega (arith, c.loop-k-test.false, c.loop-k.auto.k-end))

pub returns-clause-many : goal.returns-clause-many
returns-clause-many g c =
    omega (arith, c.loop-k.invariant.0.as_many, c.loop-k-test.false, c.loop-k.auto.k-end)

pub returns-clause-below : goal.returns-clause-below
returns-clause-below g c =
    subst (λ (m : ℕ). All (λ x. x < m) c.loop-k.homes.items) c.loop-k.invariant.2
    c.loop-k.invariant.0.below

pub returns-clause-still : goal.returns-clause-still
returns-clause-still g c = λ h. c.loop-k.invariant.0.still h
