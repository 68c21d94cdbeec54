-- The flag of the region, written.
use Rattle.std.proofs.Common.{◌≡◌, ◌∙◌, ap, arith, take}
use Rattle.block_device.specs.Device.{block_at, written}
use Rattle.block_device.specs.Written.{block_at-written}
use Rattle.committed_log.specs.Committed as regions
use Rattle.logged_pair.specs.CommitLaws.{few_seen}
use Rattle.logged_pair.specs.Stages.{SameBehind}
use Rattle.logged_pair.specs.Standing.{commits_of}
use Rattle.logged_pair.proofs.Keeping.{keeps_call}
use Rattle.logged_pair.proofs.Stood.{behind_answer, commits_same, flag_put, flag_shown, on_ok}
use Rattle.logged_pair.proofs.Snapped.{snaps_journal}
use Rattle.logged_pair.proofs.pair.LoggedPair.put_flag.Given as given
use Rattle.logged_pair.proofs.pair.LoggedPair.put_flag.Goals as goal
use Rattle.logged_pair.proofs.pair.LoggedPair.put_flag.Goals.{After-write_behind}

behind_so : (g : given.Over) (c : After-write_behind g) → regions.IsHonest c.args.self.now.log
    → SameBehind (regions.behind_of c.write_behind.new.self) (regions.behind_of c.args.self.now.log)
behind_so g c h =
    behind_answer c.write_behind.result c.flag_page.result _ _
    (omega (arith, (c.args.self.now.standing h).room)) (c.write_behind.ensures.written h)
    (c.write_behind.ensures.torn h)

pub invariant_of-self : goal.invariant_of-self
invariant_of-self g c =
    let d = c.args.self.now in let e = c.write_behind.new.self in
    let at = (goal.at.invariant_of-self g c).After-write_behind in
    record {
      standing = λ h2.
          let h = c.write_behind.ensures.honest.1 h2 in
          flag_put d.deciding (regions.clearing_of d.log) (regions.clearing_of e) d.kept d.slots.homes.items
          (regions.seen_of d.log) (regions.seen_of e) (regions.behind_of d.log) (regions.behind_of e)
          (regions.leaves_of d.log) (regions.leaves_of e) c.requires.deciding
          (c.write_behind.ensures.log.clearing ∙ c.requires.settled) (c.write_behind.ensures.seen h)
          (behind_so g at h) (c.write_behind.ensures.stops h) (d.standing h);
    }

pub returns-clause-flag : goal.returns-clause-flag
returns-clause-flag g c = λ h.
    let d = c.args.self.now in let e = c.write_behind.new.self in
    on_ok c.write_behind.result _ _
    (λ (w : regions.behind_of e ≡ written 0 c.flag_page.result (regions.behind_of d.log)).
    ap (block_at 0) w ∙ block_at-written 0 c.flag_page.result (regions.behind_of d.log) (omega arith)
    ∙ c.flag_page.ensures)
    (c.write_behind.ensures.written h)

pub returns-clause-behind : goal.returns-clause-behind
returns-clause-behind g c = λ h. behind_so g (goal.at.returns-clause-behind g c).After-write_behind h

pub returns-clause-shown : goal.returns-clause-shown
returns-clause-shown g c = λ h.
    let d = c.args.self.now in let e = c.write_behind.new.self in
    flag_shown d.slots.homes.items (regions.seen_of d.log) (regions.seen_of e) (regions.behind_of d.log)
    (regions.behind_of e) (few_seen d.log (g.met.P.DevicePair.few_blocks (regions.pair_of d.log)).0)
    (c.write_behind.ensures.seen h) (behind_so g (goal.at.returns-clause-shown g c).After-write_behind h)

pub returns-clause-keeps : goal.returns-clause-keeps
returns-clause-keeps g c = λ h.
    let d = c.args.self.now in let e = c.write_behind.new.self in
    let at = (goal.at.returns-clause-keeps g c).After-write_behind in
    keeps_call (commits_of d) d _ (g.met.P.DevicePair.few_blocks (regions.pair_of e)).0
    (c.write_behind.ensures.honest.0 h) (c.write_behind.ensures.time h)
    (commits_same d.deciding d.kept d.slots.homes.items (regions.seen_of d.log) (regions.seen_of e)
    (regions.behind_of d.log) (regions.behind_of e) (ap (take d.kept) (c.write_behind.ensures.seen h))
    (flag_shown d.slots.homes.items (regions.seen_of d.log) (regions.seen_of e) (regions.behind_of d.log)
    (regions.behind_of e) (few_seen d.log (g.met.P.DevicePair.few_blocks (regions.pair_of d.log)).0)
    (c.write_behind.ensures.seen h) (behind_so g at h)))

pub returns-clause-snapshots : goal.returns-clause-snapshots
returns-clause-snapshots g c = λ h.
    let d = c.args.self.now in let e = c.write_behind.new.self in
    snaps_journal d.kept d.log e c.write_behind.ensures.log.homes c.write_behind.ensures.log.clearing
    (c.write_behind.ensures.base h) (c.write_behind.ensures.regions h) (c.write_behind.ensures.region_stops h)
    (c.write_behind.ensures.time h)
