-- Appended blocks are committed.
use Rattle.std.proofs.Common.{◌≡◌, ◌∙◌, ap, arith, inl, inr, length, sym}
use Rattle.block_device.specs.Device.{Blocks}
use Rattle.committed_log.specs.Committed as regions
use Rattle.logged_pair.specs.CommitLaws.{few_seen, settled_of}
use Rattle.logged_pair.specs.Stages.{CommitsIn, IsStanding, shown_through}
use Rattle.logged_pair.specs.Standing.{commits_of, shown_of}
use Rattle.logged_pair.proofs.Advanced.{appended}
use Rattle.logged_pair.proofs.GivingUp.{bare_shown}
use Rattle.logged_pair.proofs.Keeping.{keeps_call, keeps_now, keeps_old}
use Rattle.logged_pair.proofs.Stills.{log_behind, log_commits, log_leaves, log_seen, log_shown, log_stands, stays_of}
use Rattle.logged_pair.proofs.Stood.{filling, filling_all}
use Rattle.logged_pair.proofs.Snapped.{last_is, snaps_still}
use Rattle.logged_pair.proofs.pair.LoggedPair.commit_appended.Given as given
use Rattle.logged_pair.proofs.pair.LoggedPair.commit_appended.Goals as goal
use Rattle.logged_pair.proofs.pair.LoggedPair.commit_appended.Goals.{After-base_blocks-self}

-- the one commit then is what is read
one_so : (g : given.Over) (c : After-base_blocks-self g) → regions.IsHonest c.args.self.now.log
    → (kept : Blocks) → CommitsIn c.args.self.now.deciding c.base_blocks-self.result
    c.args.self.now.slots.homes.items (regions.seen_of c.sync_base.new.self)
    (regions.behind_of c.sync_base.new.self) kept
    → kept ≡ shown_of c.args.self.now
one_so g c h kept is =
    let d = c.args.self.now in let e = c.sync_base.new.self in
    filling_all d.deciding c.base_blocks-self.result d.slots.homes.items (regions.seen_of e)
    (regions.behind_of e) kept c.requires.filling c.base_blocks-self.ensures.is is
    ∙ log_seen d.log e (stays_of (c.sync_base.ensures.still h))
    ∙ sym (bare_shown d.slots.homes.items (regions.seen_of d.log) (regions.behind_of d.log)
    (few_seen d.log (g.met.P.DevicePair.few_blocks (regions.pair_of d.log)).0) c.requires.none)

pub invariant_of-self : goal.invariant_of-self
invariant_of-self g c =
    let d = c.args.self.now in let e = c.sync_base.new.self in
    record {
      standing = λ h2.
          let h = c.sync_base.ensures.honest.1 h2 in
          log_stands d.deciding d.kept d.slots.homes.items d.log e (stays_of (c.sync_base.ensures.still h)) (d.standing h);
    }

-- what stands once they are committed
stands_so : (g : given.Over) (c : After-base_blocks-self g) → regions.IsHonest c.args.self.now.log
    → ((v j : Blocks) → regions.leaves_of c.sync_base.new.self v j → v ≡ regions.seen_of c.args.self.now.log)
    → IsStanding c.args.self.now.deciding (regions.clearing_of c.sync_base.new.self) c.base_blocks-self.result
    c.args.self.now.slots.homes.items (regions.seen_of c.sync_base.new.self)
    (regions.behind_of c.sync_base.new.self) (regions.leaves_of c.sync_base.new.self)
stands_so g c h durable =
    let d = c.args.self.now in let e = c.sync_base.new.self in
    let still = stays_of (c.sync_base.ensures.still h) in
    appended d.deciding (regions.clearing_of d.log) (regions.clearing_of e) d.kept d.slots.homes.items
    (regions.seen_of d.log) (regions.seen_of e) (regions.behind_of d.log) (regions.behind_of e)
    (regions.leaves_of d.log) (regions.leaves_of e) c.requires.filling
    (c.sync_base.ensures.log.clearing ∙ c.requires.settled) (log_seen d.log e still)
    (log_behind d.log e still) (d.standing h) c.base_blocks-self.result c.base_blocks-self.ensures.is
    (log_leaves d.log e still) durable

pub invariant_of-self-2 : goal.invariant_of-self-2
invariant_of-self-2 g c =
    record {
      standing = λ h2.
          let h = c.sync_base.ensures.honest.1 h2 in
          stands_so g (goal.at.invariant_of-self-2 g c).After-base_blocks-self h (c.in_ok-sync_base.ensures.durable h);
    }

pub returns-in_err-sync_base-clause-shown : goal.returns-in_err-sync_base-clause-shown
returns-in_err-sync_base-clause-shown g c = λ h.
    let d = c.args.self.now in
    log_shown d.slots.homes.items d.log c.sync_base.new.self (stays_of (c.sync_base.ensures.still h))

pub returns-in_err-sync_base-clause-commits : goal.returns-in_err-sync_base-clause-commits
returns-in_err-sync_base-clause-commits g c = λ h kept is.
    let d = c.args.self.now in
    inl (log_commits d.deciding d.kept d.slots.homes.items d.log c.sync_base.new.self
    (stays_of (c.sync_base.ensures.still h)) kept is)

pub returns-in_err-sync_base-clause-keeps : goal.returns-in_err-sync_base-clause-keeps
returns-in_err-sync_base-clause-keeps g c = λ h.
    let d = c.args.self.now in let e = c.sync_base.new.self in
    keeps_old d _
    (keeps_call (commits_of d) d _ (g.met.P.DevicePair.few_blocks (regions.pair_of e)).0
    (c.sync_base.ensures.honest.0 h) (c.sync_base.ensures.still h).time
    (log_commits d.deciding d.kept d.slots.homes.items d.log e (stays_of (c.sync_base.ensures.still h))))

pub returns-clause-durable : goal.returns-clause-durable
returns-clause-durable g c = λ h kept is.
    one_so g (goal.at.returns-clause-durable g c).After-base_blocks-self h kept is

pub returns-clause-settled : goal.returns-clause-settled
returns-clause-settled g c = λ h.
    let d = c.args.self.now in let e = c.sync_base.new.self in let hs = d.slots.homes.items in
    let still = stays_of (c.sync_base.ensures.still h) in
    settled_of e (shown_through hs (regions.behind_of e) (regions.seen_of e))
    (g.met.P.DevicePair.few_blocks (regions.pair_of e)).0 (c.sync_base.ensures.honest.0 h)
    (λ v j left. c.in_ok-sync_base.ensures.durable h v j left ∙ sym (log_seen d.log e still)
    ∙ sym (bare_shown hs (regions.seen_of e) (regions.behind_of e)
    (few_seen e (g.met.P.DevicePair.few_blocks (regions.pair_of e)).0) c.requires.none))
    (λ v j left. (filling d.deciding (regions.clearing_of d.log) d.kept hs (regions.seen_of d.log)
    (regions.behind_of d.log) (regions.leaves_of d.log) c.requires.filling (d.standing h) v j
    (log_leaves d.log e still v j left)).unsaid)

pub returns-clause-shown : goal.returns-clause-shown
returns-clause-shown g c = λ h.
    let d = c.args.self.now in
    log_shown d.slots.homes.items d.log c.sync_base.new.self (stays_of (c.sync_base.ensures.still h))

pub returns-clause-commits : goal.returns-clause-commits
returns-clause-commits g c = λ h kept is.
    inr (one_so g (goal.at.returns-clause-commits g c).After-base_blocks-self h kept is)

pub returns-clause-keeps : goal.returns-clause-keeps
returns-clause-keeps g c = λ h.
    let d = c.args.self.now in let e = c.sync_base.new.self in
    keeps_now d _ (g.met.P.DevicePair.few_blocks (regions.pair_of e)).0 (c.sync_base.ensures.honest.0 h)
    (c.sync_base.ensures.still h).time

pub returns-in_err-sync_base-clause-snapshots : goal.returns-in_err-sync_base-clause-snapshots
returns-in_err-sync_base-clause-snapshots g c = λ h.
    let d = c.args.self.now in
    snaps_still d.kept d.kept d.log c.sync_base.new.self (omega arith) (stays_of (c.sync_base.ensures.still h))

pub returns-clause-snapshots : goal.returns-clause-snapshots
returns-clause-snapshots g c = λ h.
    let d = c.args.self.now in let e = c.sync_base.new.self in
    let still = stays_of (c.sync_base.ensures.still h) in
    snaps_still d.kept c.base_blocks-self.result d.log e
    (omega (
      arith,
      (d.standing h).kept_there,
      c.base_blocks-self.ensures.is,
      ap length (log_seen d.log e still),
    ))
    still

pub returns-clause-new_snapshot : goal.returns-clause-new_snapshot
returns-clause-new_snapshot g c = λ h.
    let d = c.args.self.now in let e = c.sync_base.new.self in
    last_is d.deciding (regions.clearing_of e) c.base_blocks-self.result d.slots.homes.items e
    (g.met.P.DevicePair.few_blocks (regions.pair_of e)).0 (c.sync_base.ensures.honest.0 h)
    (c.sync_base.ensures.log.clearing ∙ c.requires.settled) c.requires.none c.base_blocks-self.ensures.is
    (stands_so g (goal.at.returns-clause-new_snapshot g c).After-base_blocks-self h
    (c.in_ok-sync_base.ensures.durable h))
