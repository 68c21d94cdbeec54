-- A region that is recorded, and the base, are synced: its flag may decide then.
use Rattle.std.proofs.Common.{◌≡◌, ◌∙◌, false, refl, subst, sym}
use Rattle.committed_log.specs.Committed as regions
use Rattle.logged_pair.specs.Commits.{OrNew}
use Rattle.logged_pair.specs.Standing.{base_of, clearing_of, commits_of, deciding_of, homes_of, journal_of}
use Rattle.logged_pair.specs.Standing.{pair_of, shown_of, IsHonest, IsStill}
use Rattle.logged_pair.proofs.Advanced.{commits_prepared, prepared}
use Rattle.logged_pair.proofs.Calling.{still_then}
use Rattle.logged_pair.proofs.Keeping.{commits_still, keeps_call, keeps_still, keeps_weaker, or_both, or_more}
use Rattle.logged_pair.proofs.Keeping.{recorded_still, shown_still}
use Rattle.logged_pair.proofs.Stood.{on_any}
use Rattle.logged_pair.proofs.Snapped.{snapshots_still}
use Rattle.logged_pair.proofs.pair.LoggedPair.prepare.Given as given
use Rattle.logged_pair.proofs.pair.LoggedPair.prepare.Goals as goal
use Rattle.logged_pair.proofs.pair.LoggedPair.prepare.Goals.{After-reserve_region, After-sync_region}

honest_so : (g : given.Over) (c : After-reserve_region g) → IsHonest c.args.self.now
    → IsHonest c.reserve_region.new.self
honest_so g c h =
    subst g.P.DevicePair.honest
    (sym c.reserve_region.ensures.pair) h

still_so : (g : given.Over) (c : After-sync_region g) → IsHonest c.args.self.now
    → IsStill c.args.self.now c.sync_region.new.self
still_so g c h =
    let d = c.args.self.now in let r = c.reserve_region.new.self in
    still_then d r c.sync_region.new.self
    (λ t a b le left. g.met.P.DevicePair.counts_now (pair_of d) t a b h le left)
    c.reserve_region.ensures.still
    (c.sync_region.ensures.still
    (subst g.P.DevicePair.honest
    (sym c.reserve_region.ensures.pair) h))

pub returns-in_err-reserve_region-clause-shown : goal.returns-in_err-reserve_region-clause-shown
returns-in_err-reserve_region-clause-shown g c = λ h.
    shown_still c.args.self.now c.reserve_region.new.self c.reserve_region.ensures.still

pub returns-in_err-reserve_region-clause-keeps : goal.returns-in_err-reserve_region-clause-keeps
returns-in_err-reserve_region-clause-keeps g c = λ h.
    let d = c.args.self.now in let r = c.reserve_region.new.self in
    keeps_weaker (commits_of d) (OrNew (commits_of d) (shown_of d)) d r (or_more (commits_of d) (shown_of d))
    (keeps_still d r (g.met.P.DevicePair.few_blocks (pair_of r)).0
    (honest_so g (goal.at.returns-in_err-reserve_region-clause-keeps g c).After-reserve_region h)
    c.reserve_region.ensures.still)

pub returns-in_err-reserve_region-clause-refused : goal.returns-in_err-reserve_region-clause-refused
returns-in_err-reserve_region-clause-refused g c = λ h.
    let d = c.args.self.now in let r = c.reserve_region.new.self in
    on_any c.from_residual.result _
    (keeps_still d r (g.met.P.DevicePair.few_blocks (pair_of r)).0
    (honest_so g (goal.at.returns-in_err-reserve_region-clause-refused g c).After-reserve_region h)
    c.reserve_region.ensures.still)

pub returns-in_err-sync_region-clause-shown : goal.returns-in_err-sync_region-clause-shown
returns-in_err-sync_region-clause-shown g c = λ h.
    shown_still c.args.self.now c.sync_region.new.self
    (still_so g (goal.at.returns-in_err-sync_region-clause-shown g c).After-sync_region h)

pub returns-in_err-sync_region-clause-keeps : goal.returns-in_err-sync_region-clause-keeps
returns-in_err-sync_region-clause-keeps g c = λ h.
    let d = c.args.self.now in let e = c.sync_region.new.self in
    let first = (goal.at.returns-in_err-sync_region-clause-keeps g c).After-reserve_region in
    let at = (goal.at.returns-in_err-sync_region-clause-keeps g c).After-sync_region in
    keeps_weaker (commits_of d) (OrNew (commits_of d) (shown_of d)) d e (or_more (commits_of d) (shown_of d))
    (keeps_still d e (g.met.P.DevicePair.few_blocks (pair_of e)).0
    (c.sync_region.ensures.honest.0 (honest_so g first h)) (still_so g at h))

pub returns-in_err-sync_region-clause-refused : goal.returns-in_err-sync_region-clause-refused
returns-in_err-sync_region-clause-refused g c = λ h.
    let d = c.args.self.now in let e = c.sync_region.new.self in
    let first = (goal.at.returns-in_err-sync_region-clause-refused g c).After-reserve_region in
    let at = (goal.at.returns-in_err-sync_region-clause-refused g c).After-sync_region in
    on_any c.from_residual-in_err-sync_region.result _
    (keeps_still d e (g.met.P.DevicePair.few_blocks (pair_of e)).0
    (c.sync_region.ensures.honest.0 (honest_so g first h)) (still_so g at h))

filling_so : (g : given.Over) (c : After-sync_region g) → deciding_of c.sync_region.new.self ≡ false
filling_so g c =
    c.sync_region.ensures.slots.deciding ∙ c.reserve_region.ensures.still.slots.deciding ∙ c.requires.filling

pub invariant_of-self : goal.invariant_of-self
invariant_of-self g c =
    let d = c.args.self.now in let r = c.reserve_region.new.self in let e = c.sync_region.new.self in
    let at = (goal.at.invariant_of-self g c).After-sync_region in
    record {
      standing = λ h3.
          let h2 = c.sync_region.ensures.honest.1 h3 in
          let h = subst g.P.DevicePair.honest c.reserve_region.ensures.pair h2 in
          let durable = c.in_ok-sync_region.ensures.synced h2 in
          prepared e.deciding (clearing_of e) (clearing_of e) e.kept (homes_of e) (base_of e) (base_of e)
          (journal_of e) (journal_of e) (regions.leaves_of e.log) (regions.leaves_of e.log) (filling_so g at)
          (c.sync_region.ensures.slots.clearing ∙ c.reserve_region.ensures.still.slots.clearing
          ∙ c.requires.settled)
          refl refl (e.standing h3)
          (λ a b left. (durable a b left).0) (λ a b left. (durable a b left).1)
          (recorded_still d e (still_so g at h) (c.requires.recorded h));
    }

pub returns-clause-shown : goal.returns-clause-shown
returns-clause-shown g c = λ h.
    shown_still c.args.self.now c.sync_region.new.self
    (still_so g (goal.at.returns-clause-shown g c).After-sync_region h)

pub returns-clause-keeps : goal.returns-clause-keeps
returns-clause-keeps g c = λ h.
    let d = c.args.self.now in let e = c.sync_region.new.self in
    let first = (goal.at.returns-clause-keeps g c).After-reserve_region in
    let at = (goal.at.returns-clause-keeps g c).After-sync_region in
    let still = still_so g at h in
    keeps_call (OrNew (commits_of d) (shown_of d)) d _ (g.met.P.DevicePair.few_blocks (pair_of e)).0
    (c.sync_region.ensures.honest.0 (honest_so g first h)) still.log.time
    (λ kept is. or_both (commits_of d) (commits_of e) (shown_of d) (shown_of e) (commits_still d e still)
    (shown_still d e still) kept
    (commits_prepared e.deciding e.kept (homes_of e) (base_of e) (base_of e) (journal_of e) (journal_of e)
    (filling_so g at) refl refl kept is))

pub returns-in_err-reserve_region-clause-snapshots : goal.returns-in_err-reserve_region-clause-snapshots
returns-in_err-reserve_region-clause-snapshots g c = λ h.
    snapshots_still c.args.self.now c.reserve_region.new.self c.reserve_region.ensures.still

pub returns-in_err-sync_region-clause-snapshots : goal.returns-in_err-sync_region-clause-snapshots
returns-in_err-sync_region-clause-snapshots g c = λ h.
    snapshots_still c.args.self.now c.sync_region.new.self
    (still_so g (goal.at.returns-in_err-sync_region-clause-snapshots g c).After-sync_region h)

pub returns-clause-snapshots : goal.returns-clause-snapshots
returns-clause-snapshots g c = λ h.
    snapshots_still c.args.self.now c.sync_region.new.self
    (still_so g (goal.at.returns-clause-snapshots g c).After-sync_region h)
