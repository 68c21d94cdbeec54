-- Appended blocks are synced.
use Rattle.std.proofs.Common.{◌∙◌, ap, arith, length}
use Rattle.block_device.specs.Device.{BeginsOne}
use Rattle.committed_log.specs.Committed as regions
use Rattle.logged_pair.specs.Standing.{commits_of}
use Rattle.logged_pair.proofs.Advanced.{appended}
use Rattle.logged_pair.proofs.GivingUp.{appended_begins, commit_begins}
use Rattle.logged_pair.proofs.Keeping.{keeps_call, keeps_none, keeps_weaker}
use Rattle.logged_pair.proofs.Stills.{log_behind, log_commits, log_leaves, log_seen, log_shown, log_stands, stays_of}
use Rattle.logged_pair.proofs.Stood.{on_any}
use Rattle.logged_pair.proofs.Snapped.{snaps_none, snaps_still}
use Rattle.logged_pair.proofs.pair.LoggedPair.keep_appended.Goals as goal

-- there are none
pub returns-then-base_blocks-self-clause-keeps : goal.returns-then-base_blocks-self-clause-keeps
returns-then-base_blocks-self-clause-keeps g c = λ h.
    let d = c.args.self.now in
    keeps_weaker (commits_of d) (BeginsOne (commits_of d)) d d (commit_begins (commits_of d)) (keeps_none d)

pub invariant_of-self : goal.invariant_of-self
invariant_of-self g c =
    let d = c.args.self.now in let e = c.sync_base.new.self in
    record {
      standing = λ h2.
          let h = c.sync_base.ensures.honest.1 h2 in
          log_stands d.deciding d.kept d.slots.homes.items d.log e (stays_of (c.sync_base.ensures.still h)) (d.standing h);
    }

pub invariant_of-self-2 : goal.invariant_of-self-2
invariant_of-self-2 g c =
    let d = c.args.self.now in let e = c.sync_base.new.self in
    record {
      standing = λ h2.
          let h = c.sync_base.ensures.honest.1 h2 in
          let still = stays_of (c.sync_base.ensures.still h) in
          appended d.deciding (regions.clearing_of d.log) (regions.clearing_of e) d.kept d.slots.homes.items
          (regions.seen_of d.log) (regions.seen_of e) (regions.behind_of d.log) (regions.behind_of e)
          (regions.leaves_of d.log) (regions.leaves_of e) c.requires.filling
          (c.sync_base.ensures.log.clearing ∙ c.requires.settled) (log_seen d.log e still)
          (log_behind d.log e still) (d.standing h) c.base_blocks-self.result c.base_blocks-self.ensures.is
          (log_leaves d.log e still) (c.in_ok-sync_base.ensures.durable h);
    }

-- the sync was refused
pub returns-in_err-sync_base-clause-shown : goal.returns-in_err-sync_base-clause-shown
returns-in_err-sync_base-clause-shown g c = λ h.
    let d = c.args.self.now in
    log_shown d.slots.homes.items d.log c.sync_base.new.self (stays_of (c.sync_base.ensures.still h))

pub returns-in_err-sync_base-clause-keeps : goal.returns-in_err-sync_base-clause-keeps
returns-in_err-sync_base-clause-keeps g c = λ h.
    let d = c.args.self.now in let e = c.sync_base.new.self in
    keeps_weaker (commits_of d) (BeginsOne (commits_of d)) d _ (commit_begins (commits_of d))
    (keeps_call (commits_of d) d _ (g.met.P.DevicePair.few_blocks (regions.pair_of e)).0
    (c.sync_base.ensures.honest.0 h) (c.sync_base.ensures.still h).time
    (log_commits d.deciding d.kept d.slots.homes.items d.log e (stays_of (c.sync_base.ensures.still h))))

pub returns-in_err-sync_base-clause-no_more : goal.returns-in_err-sync_base-clause-no_more
returns-in_err-sync_base-clause-no_more g c = λ h.
    let d = c.args.self.now in let e = c.sync_base.new.self in
    on_any c.from_residual.result _
    (log_commits d.deciding d.kept d.slots.homes.items d.log e (stays_of (c.sync_base.ensures.still h)))

-- it was done
pub returns-clause-shown : goal.returns-clause-shown
returns-clause-shown g c = λ h.
    let d = c.args.self.now in
    log_shown d.slots.homes.items d.log c.sync_base.new.self (stays_of (c.sync_base.ensures.still h))

pub returns-clause-keeps : goal.returns-clause-keeps
returns-clause-keeps g c = λ h.
    let d = c.args.self.now in let e = c.sync_base.new.self in
    let still = stays_of (c.sync_base.ensures.still h) in
    keeps_call (BeginsOne (commits_of d)) d _ (g.met.P.DevicePair.few_blocks (regions.pair_of e)).0
    (c.sync_base.ensures.honest.0 h) still.time
    (appended_begins d.deciding d.kept c.base_blocks-self.result d.slots.homes.items (regions.seen_of d.log)
    (regions.seen_of e) (regions.behind_of d.log) (regions.behind_of e) c.requires.filling
    c.base_blocks-self.ensures.is (log_seen d.log e still) (d.standing h).kept_there)

pub returns-then-base_blocks-self-clause-snapshots : goal.returns-then-base_blocks-self-clause-snapshots
returns-then-base_blocks-self-clause-snapshots g c = λ h.
    snaps_none c.args.self.now.kept c.args.self.now.log

pub returns-in_err-sync_base-clause-snapshots : goal.returns-in_err-sync_base-clause-snapshots
returns-in_err-sync_base-clause-snapshots g c = λ h.
    let d = c.args.self.now in
    snaps_still d.kept d.kept d.log c.sync_base.new.self (omega arith) (stays_of (c.sync_base.ensures.still h))

pub returns-clause-snapshots : goal.returns-clause-snapshots
returns-clause-snapshots g c = λ h.
    let d = c.args.self.now in let e = c.sync_base.new.self in
    let still = stays_of (c.sync_base.ensures.still h) in
    snaps_still d.kept c.base_blocks-self.result d.log e
    (omega (
      arith,
      (d.standing h).kept_there,
      c.base_blocks-self.ensures.is,
      ap length (log_seen d.log e still),
    ))
    still
