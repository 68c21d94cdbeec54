-- A block of the base, behind those of the last commit.
use Rattle.std.proofs.Common.{◌≡◌, ◌∙◌, ◌<◌, ap, arith, drop, length, refl, subst, sym}
use Rattle.block_device.specs.Device.{Blocks, Torn, written}
use Rattle.committed_log.specs.Committed as regions
use Rattle.committed_log.specs.Log.{no_home, overlaid}
use Rattle.logged_pair.specs.CommitLaws.{few_seen}
use Rattle.logged_pair.specs.Shown.{behind_torn, shown_behind}
use Rattle.logged_pair.specs.Stages.{shown_through}
use Rattle.logged_pair.specs.Standing.{commits_of}
use Rattle.logged_pair.proofs.Keeping.{keeps_call}
use Rattle.logged_pair.proofs.Stood.{behind_put, commits_filling, on_err, on_ok, torn_first, torn_of}
use Rattle.committed_log.specs.Replay.{length-overlaid}
use Rattle.logged_pair.proofs.Snapped.{filled_there, snaps_base}
use Rattle.logged_pair.proofs.pair.LoggedPair.put_behind.Given as given
use Rattle.logged_pair.proofs.pair.LoggedPair.put_behind.Goals as goal
use Rattle.logged_pair.proofs.pair.LoggedPair.put_behind.Goals.{After-write_base}

torn_so : (g : given.Over) (c : After-write_base g) → regions.IsHonest c.args.self.now.log
    → Torn c.args.i (regions.seen_of c.args.self.now.log) (regions.seen_of c.write_base.new.self)
torn_so g c h =
    torn_of c.write_base.result c.args.i c.args.bytes.now _ _
    (record { size = c.told-bytes; bytes_fit = c.fits-bytes }) (c.write_base.ensures.written h)
    (c.write_base.ensures.torn h)

few_so : (g : given.Over) (c : After-write_base g) → length (regions.seen_of c.args.self.now.log) < no_home
few_so g c =
    let d = c.args.self.now in
    omega (arith, few_seen d.log (g.met.P.DevicePair.few_blocks (regions.pair_of d.log)).0)

pub invariant_of-self : goal.invariant_of-self
invariant_of-self g c =
    let d = c.args.self.now in let e = c.write_base.new.self in
    let at = (goal.at.invariant_of-self g c).After-write_base in
    record {
      standing = λ h2.
          let h = c.write_base.ensures.honest.1 h2 in
          behind_put d.deciding (regions.clearing_of d.log) (regions.clearing_of e) d.kept c.args.i
          d.slots.homes.items (regions.seen_of d.log) (regions.seen_of e) (regions.behind_of d.log)
          (regions.behind_of e) (regions.leaves_of d.log) (regions.leaves_of e) c.requires.filling
          (c.write_base.ensures.log.clearing ∙ c.requires.settled) (d.standing h) c.requires.behind
          (c.write_base.ensures.behind h) (torn_so g at h) (c.write_base.ensures.stops h);
    }

pub returns-clause-keeps : goal.returns-clause-keeps
returns-clause-keeps g c = λ h.
    let d = c.args.self.now in let e = c.write_base.new.self in
    let at = (goal.at.returns-clause-keeps g c).After-write_base in
    keeps_call (commits_of d) d _ (g.met.P.DevicePair.few_blocks (regions.pair_of e)).0
    (c.write_base.ensures.honest.0 h) (c.write_base.ensures.time h)
    (commits_filling d.deciding d.deciding d.kept d.slots.homes.items d.slots.homes.items
    (regions.seen_of d.log) (regions.seen_of e) (regions.behind_of d.log) (regions.behind_of e)
    c.requires.filling c.requires.filling
    (torn_first d.kept c.args.i _ _ c.requires.behind (d.standing h).kept_there (torn_so g at h)))

pub returns-clause-written : goal.returns-clause-written
returns-clause-written g c = λ h.
    let d = c.args.self.now in let e = c.write_base.new.self in let hs = d.slots.homes.items in
    let at = (goal.at.returns-clause-written g c).After-write_base in
    on_ok c.write_base.result _ _
    (λ (w : regions.seen_of e ≡ written c.args.i c.args.bytes.now (regions.seen_of d.log)).
    ap (λ (j : Blocks). shown_through hs j (regions.seen_of e)) (c.write_base.ensures.behind h)
    ∙ ap (shown_through hs (regions.behind_of d.log)) w
    ∙ shown_behind hs c.args.i d.kept c.args.bytes.now (regions.behind_of d.log) (regions.seen_of d.log)
    (few_so g at) (omega (arith, c.requires.small)) (d.standing h).homes_below c.requires.behind
    (d.standing h).kept_there)
    (c.write_base.ensures.written h)

pub returns-clause-torn : goal.returns-clause-torn
returns-clause-torn g c = λ h.
    let d = c.args.self.now in let e = c.write_base.new.self in let hs = d.slots.homes.items in
    let at = (goal.at.returns-clause-torn g c).After-write_base in
    on_err c.write_base.result _ _
    (λ (t : Torn c.args.i (regions.seen_of d.log) (regions.seen_of e)).
    subst
    (λ (j : Blocks). Torn c.args.i (shown_through hs (regions.behind_of d.log) (regions.seen_of d.log))
    (shown_through hs j (regions.seen_of e)))
    (sym (c.write_base.ensures.behind h))
    (behind_torn hs c.args.i d.kept (regions.behind_of d.log) (regions.seen_of d.log) (regions.seen_of e)
    (few_so g at) (omega (arith, c.requires.small)) (d.standing h).homes_below c.requires.behind
    (d.standing h).kept_there t))
    (c.write_base.ensures.torn h)

pub returns-clause-snapshots : goal.returns-clause-snapshots
returns-clause-snapshots g c = λ h.
    let d = c.args.self.now in let e = c.write_base.new.self in
    let hs = regions.homes_of d.log in
    snaps_base d.kept c.args.i d.log e c.requires.behind c.write_base.ensures.log.homes
    c.write_base.ensures.log.clearing (c.write_base.ensures.journal h) (c.write_base.ensures.base h)
    (c.write_base.ensures.base_stops h)
    (omega (
      arith,
      (d.standing h).kept_there,
      length-overlaid hs (regions.journal_of d.log) (regions.base_of d.log),
    ))
    (λ a b left. omega (
      arith,
      length-overlaid hs b a,
      filled_there d.deciding (regions.clearing_of d.log) d.kept d.slots.homes.items (regions.seen_of d.log)
          (regions.behind_of d.log) (regions.leaves_of d.log) c.requires.filling (d.standing h)
          (overlaid hs b a) (drop (length hs) b) (a, b, left, refl, refl),
    ))
    (c.write_base.ensures.time h)
