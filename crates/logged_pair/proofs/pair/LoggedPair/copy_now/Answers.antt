-- The base is synced, and the log copied home.
use Rattle.std.proofs.Common.{◌≡◌, ◌∙◌, ℕ, ◌≤◌, ap, arith, length, sym, take}
use Rattle.block_device.specs.Device.{Blocks}
use Rattle.device_pair.specs.Pairs.{PairLeaves}
use Rattle.device_pair.specs.Runs.{pair_call, pair_then, pair_weaker}
use Rattle.committed_log.specs.Committed as regions
use Rattle.committed_log.specs.Home.{IsQuiet}
use Rattle.committed_log.specs.Log.{recovered}
use Rattle.logged_pair.specs.CommitLaws.{few_seen, settled_of}
use Rattle.logged_pair.specs.Standing.{commits_of}
use Rattle.logged_pair.specs.Stages.{IsFilling, IsStanding, shown_through}
use Rattle.logged_pair.proofs.Advanced.{quiet_stands}
use Rattle.logged_pair.proofs.GivingUp.{bare_shown}
use Rattle.logged_pair.proofs.Keeping.{keeps_call, keeps_seen}
use Rattle.logged_pair.proofs.Stills.{log_behind, log_commits, log_leaves, log_seen, log_shown, log_stands, stays_of}
use Rattle.logged_pair.proofs.Stood.{commits_filling, filling, on_any, on_either, on_err}
use Rattle.logged_pair.specs.Snapshots.{IsSnapshot, ShowsLastOf}
use Rattle.logged_pair.proofs.Snapped.{last_same, last_shows, last_stays, snaps_still}
use Rattle.logged_pair.proofs.pair.LoggedPair.copy_now.Given as given
use Rattle.logged_pair.proofs.pair.LoggedPair.copy_now.Goals as goal
use Rattle.logged_pair.proofs.pair.LoggedPair.copy_now.Goals.{After-copy_home, After-sync_base}

-- what a stop leaves once the base was synced
left_so : (g : given.Over) (c : After-sync_base g) → regions.IsHonest c.args.self.now.log
    → (v j : Blocks) → regions.leaves_of c.sync_base.new.self v j
    → IsFilling c.args.self.now.kept (regions.seen_of c.args.self.now.log) v j
left_so g c h v j left =
    let d = c.args.self.now in
    filling d.deciding (regions.clearing_of d.log) d.kept d.slots.homes.items (regions.seen_of d.log)
    (regions.behind_of d.log) (regions.leaves_of d.log) c.requires.filling (d.standing h) v j
    (log_leaves d.log c.sync_base.new.self (stays_of (c.sync_base.ensures.still h)) v j left)

pub invariant_of-self : goal.invariant_of-self
invariant_of-self g c =
    let d = c.args.self.now in let e = c.sync_base.new.self in
    record {
      standing = λ h2.
          let h = c.sync_base.ensures.honest.1 h2 in
          log_stands d.deciding d.kept d.slots.homes.items d.log e (stays_of (c.sync_base.ensures.still h)) (d.standing h);
    }

pub returns-in_err-sync_base-clause-shown : goal.returns-in_err-sync_base-clause-shown
returns-in_err-sync_base-clause-shown g c = λ h.
    let d = c.args.self.now in
    log_shown d.slots.homes.items d.log c.sync_base.new.self (stays_of (c.sync_base.ensures.still h))

pub returns-in_err-sync_base-clause-keeps : goal.returns-in_err-sync_base-clause-keeps
returns-in_err-sync_base-clause-keeps g c = λ h.
    let d = c.args.self.now in let e = c.sync_base.new.self in
    keeps_call (commits_of d) d _ (g.met.P.DevicePair.few_blocks (regions.pair_of e)).0
    (c.sync_base.ensures.honest.0 h) (c.sync_base.ensures.still h).time
    (log_commits d.deciding d.kept d.slots.homes.items d.log e (stays_of (c.sync_base.ensures.still h)))

pub copy_home-requires-clause-quiet : goal.copy_home-requires-clause-quiet
copy_home-requires-clause-quiet g c = λ h2.
    let d = c.args.self.now in let m = c.sync_base.new.self in
    let h = c.sync_base.ensures.honest.1 h2 in
    let at = (goal.at.copy_home-requires-clause-quiet g c).After-sync_base in
    record {
      base = λ v j left.
          c.in_ok-sync_base.ensures.durable h v j left ∙ sym (log_seen d.log m (stays_of (c.sync_base.ensures.still h)));
      unsaid = λ v j left. (left_so g at h v j left).unsaid;
      there = λ v j left. (left_so g at h v j left).there;
    }

same_so : (g : given.Over) (c : After-copy_home g) → regions.IsHonest c.args.self.now.log
    → regions.seen_of c.copy_home.new.self ≡ regions.seen_of c.args.self.now.log
same_so g c h =
    c.copy_home.ensures.seen (c.sync_base.ensures.honest.0 h)
    ∙ log_seen c.args.self.now.log c.sync_base.new.self (stays_of (c.sync_base.ensures.still h))

-- what stands once the log was copied home, or not
stands_so : (g : given.Over) (c : After-copy_home g) → regions.IsHonest c.args.self.now.log
    → IsStanding c.args.self.now.deciding (regions.clearing_of c.copy_home.new.self) c.args.self.now.kept
    c.args.self.now.slots.homes.items (regions.seen_of c.copy_home.new.self)
    (regions.behind_of c.copy_home.new.self) (regions.leaves_of c.copy_home.new.self)
stands_so g c h =
    let d = c.args.self.now in let m = c.sync_base.new.self in let e = c.copy_home.new.self in
    let h2 = c.sync_base.ensures.honest.0 h in
    let s = d.standing h in
    let quiet : IsQuiet e = c.copy_home.ensures.quiet h2 in
    let room : 2 ≤ length (regions.behind_of e) =
    omega (
      arith,
      s.room,
      ap length (log_behind d.log m (stays_of (c.sync_base.ensures.still h))),
      c.copy_home.ensures.room h2,
    ) in
    quiet_stands d.deciding (regions.clearing_of e) d.kept d.slots.homes.items (regions.seen_of d.log)
    (regions.seen_of e) (regions.behind_of e) (regions.leaves_of e) c.requires.filling
    (ap length c.requires.none) (same_so g c h) s.kept_there s.homes_below room quiet.base quiet.unsaid
    quiet.there

pub invariant_of-self-2 : goal.invariant_of-self-2
invariant_of-self-2 g c =
    record {
      standing = λ h3.
          stands_so g (goal.at.invariant_of-self-2 g c).After-copy_home
          (c.sync_base.ensures.honest.1 (c.copy_home.ensures.honest.1 h3));
    }

pub returns-clause-shown : goal.returns-clause-shown
returns-clause-shown g c = λ h.
    let d = c.args.self.now in let e = c.copy_home.new.self in
    let at = (goal.at.returns-clause-shown g c).After-copy_home in
    bare_shown d.slots.homes.items (regions.seen_of e) (regions.behind_of e)
    (few_seen e (g.met.P.DevicePair.few_blocks (regions.pair_of e)).0) c.requires.none
    ∙ same_so g at h
    ∙ sym (bare_shown d.slots.homes.items (regions.seen_of d.log) (regions.behind_of d.log)
    (few_seen d.log (g.met.P.DevicePair.few_blocks (regions.pair_of d.log)).0) c.requires.none)

pub returns-clause-keeps : goal.returns-clause-keeps
returns-clause-keeps g c = λ h.
    let p = g.P.DevicePair in
    let d = c.args.self.now in let m = c.sync_base.new.self in let e = c.copy_home.new.self in
    let after = (goal.at.returns-clause-keeps g c).After-copy_home in
    let at = (goal.at.returns-clause-keeps g c).After-sync_base in
    let h2 = c.sync_base.ensures.honest.0 h in
    let still = stays_of (c.sync_base.ensures.still h) in
    let all : PairLeaves p.moment p.left_since (regions.pair_of d.log) (regions.pair_of e)
    (λ a b. recovered a b ≡ regions.seen_of d.log) =
    pair_then p.moment p.left_since (regions.pair_of d.log) (regions.pair_of m) (regions.pair_of e) _
    (pair_call p.moment p.left_since (regions.pair_of d.log) (regions.pair_of m) _
    (p.may_leave (regions.pair_of m)) still.time
    (settled_of m (regions.seen_of d.log) (g.met.P.DevicePair.few_blocks (regions.pair_of m)).0 h2
    (c.in_ok-sync_base.ensures.durable h) (λ v j left. (left_so g at h v j left).unsaid)))
    (pair_weaker p.moment p.left_since (regions.pair_of m) (regions.pair_of e) _ _
    (λ a b is. is ∙ log_seen d.log m still) (c.copy_home.ensures.stops h2)) in
    keeps_seen d _ c.requires.filling (d.standing h).kept_there
    (commits_filling d.deciding d.deciding d.kept d.slots.homes.items d.slots.homes.items
    (regions.seen_of d.log) (regions.seen_of e) (regions.behind_of d.log) (regions.behind_of e)
    c.requires.filling c.requires.filling (ap (take d.kept) (same_so g after h))) all

-- the sync before the copies
synced_last : (g : given.Over) (c : After-sync_base g) → regions.IsHonest c.args.self.now.log → (p n : ℕ)
    → IsSnapshot 0 p n c.args.self.now.kept c.args.self.now.log
    → p ≡ length (regions.homes_of c.args.self.now.log)
    → PairLeaves g.P.DevicePair.moment g.P.DevicePair.left_since (regions.pair_of c.args.self.now.log)
    (regions.pair_of c.sync_base.new.self) (ShowsLastOf p n c.args.self.now.log)
synced_last g c h p n s all =
    let q = g.P.DevicePair in let d = c.args.self.now in let m = c.sync_base.new.self in
    let stay = snaps_still d.kept d.kept d.log m (omega arith) (stays_of (c.sync_base.ensures.still h)) 0 in
    pair_weaker q.moment q.left_since (regions.pair_of d.log) (regions.pair_of m) _ _
    (last_same p n d.kept d.log all h c.requires.settled s) (stay.stops p n s)

pub returns-in_err-sync_base-clause-last : goal.returns-in_err-sync_base-clause-last
returns-in_err-sync_base-clause-last g c = λ h p n s all.
    synced_last g (goal.at.returns-in_err-sync_base-clause-last g c).After-sync_base h p n s all

pub returns-clause-last : goal.returns-clause-last
returns-clause-last g c = λ h p n s all.
    let q = g.P.DevicePair in
    let d = c.args.self.now in let m = c.sync_base.new.self in let e = c.copy_home.new.self in
    let still = stays_of (c.sync_base.ensures.still h) in
    pair_then q.moment q.left_since (regions.pair_of d.log) (regions.pair_of m) (regions.pair_of e) _
    (synced_last g (goal.at.returns-clause-last g c).After-sync_base h p n s all)
    (pair_weaker q.moment q.left_since (regions.pair_of m) (regions.pair_of e) _ _
    (last_shows p n d.log m all still h c.requires.settled)
    (c.copy_home.ensures.last (c.sync_base.ensures.honest.0 h)))

pub returns-in_err-sync_base-clause-last_stays : goal.returns-in_err-sync_base-clause-last_stays
returns-in_err-sync_base-clause-last_stays g c = λ h.
    let d = c.args.self.now in let m = c.sync_base.new.self in
    let stay = snaps_still d.kept d.kept d.log m (omega arith) (stays_of (c.sync_base.ensures.still h)) 0 in
    on_any c.from_residual.result _
    (λ settled p n s all. (stay.there p n s, (stay.shown p n s).blocks))

pub returns-clause-last_stays : goal.returns-clause-last_stays
returns-clause-last_stays g c = λ h.
    let d = c.args.self.now in let m = c.sync_base.new.self in let e = c.copy_home.new.self in
    let at = (goal.at.returns-clause-last_stays g c).After-copy_home in
    let h2 = c.sync_base.ensures.honest.0 h in
    on_err c.copy_home.result _ _
    (λ (homes : regions.homes_of e ≡ regions.homes_of m).
    last_stays d.deciding (regions.clearing_of e) d.kept d.slots.homes.items d.log e
    (g.met.P.DevicePair.few_blocks (regions.pair_of e)).0 h (c.copy_home.ensures.honest.0 h2)
    (homes ∙ (stays_of (c.sync_base.ensures.still h)).homes) (same_so g at h) (stands_so g at h))
    c.copy_home.ensures.refused

pub returns-clause-durable : goal.returns-clause-durable
returns-clause-durable g c = λ h.
    let e = c.copy_home.new.self in let hs = c.args.self.now.slots.homes.items in
    let few = (g.met.P.DevicePair.few_blocks (regions.pair_of e)).0 in
    let h2 = c.sync_base.ensures.honest.0 h in
    let quiet : IsQuiet e = c.copy_home.ensures.quiet h2 in
    on_either c.copy_home.result _
    (settled_of e (shown_through hs (regions.behind_of e) (regions.seen_of e)) few (c.copy_home.ensures.honest.0 h2)
    (λ v j left. quiet.base v j left
    ∙ sym (bare_shown hs (regions.seen_of e) (regions.behind_of e) (few_seen e few) c.requires.none))
    quiet.unsaid)
