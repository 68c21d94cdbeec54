-- A block of the region, while it is filled.
use Rattle.std.proofs.Common.{◌∙◌, ap, arith, inl}
use Rattle.std.specs.Prelude.{take}
use Rattle.block_device.specs.Device.{Torn}
use Rattle.committed_log.specs.Committed as regions
use Rattle.logged_pair.specs.Standing.{commits_of}
use Rattle.logged_pair.proofs.Keeping.{keeps_call}
use Rattle.logged_pair.proofs.Stood.{commits_filling, journal_put, torn_of}
use Rattle.logged_pair.proofs.Snapped.{snaps_journal}
use Rattle.logged_pair.proofs.pair.LoggedPair.put_journal.Given as given
use Rattle.logged_pair.proofs.pair.LoggedPair.put_journal.Goals as goal
use Rattle.logged_pair.proofs.pair.LoggedPair.put_journal.Goals.{After-write_behind}

torn_so : (g : given.Over) (c : After-write_behind g) → regions.IsHonest c.args.self.now.log
    → Torn c.args.at (regions.behind_of c.args.self.now.log) (regions.behind_of c.write_behind.new.self)
torn_so g c h =
    torn_of c.write_behind.result c.args.at c.args.bytes.now _ _
    (record { size = c.told-bytes; bytes_fit = c.fits-bytes }) (c.write_behind.ensures.written h)
    (c.write_behind.ensures.torn h)

pub invariant_of-self : goal.invariant_of-self
invariant_of-self g c =
    let d = c.args.self.now in let e = c.write_behind.new.self in
    let at = (goal.at.invariant_of-self g c).After-write_behind in
    record {
      standing = λ h2.
          let h = c.write_behind.ensures.honest.1 h2 in
          journal_put d.deciding (regions.clearing_of d.log) (regions.clearing_of e) d.kept c.args.at
          d.slots.homes.items (regions.seen_of d.log) (regions.seen_of e) (regions.behind_of d.log)
          (regions.behind_of e) (regions.leaves_of d.log) (regions.leaves_of e) c.requires.filling
          (c.write_behind.ensures.log.clearing ∙ c.requires.settled) (d.standing h) c.requires.behind
          (c.write_behind.ensures.seen h) (torn_so g at h) (c.write_behind.ensures.stops h);
    }

pub returns-clause-torn : goal.returns-clause-torn
returns-clause-torn g c = λ h.
    let at = (goal.at.returns-clause-torn g c).After-write_behind in
    inl (torn_so g at h, omega arith)

pub returns-clause-keeps : goal.returns-clause-keeps
returns-clause-keeps g c = λ h.
    let d = c.args.self.now in let e = c.write_behind.new.self in
    keeps_call (commits_of d) d _ (g.met.P.DevicePair.few_blocks (regions.pair_of e)).0
    (c.write_behind.ensures.honest.0 h) (c.write_behind.ensures.time h)
    (commits_filling d.deciding d.deciding d.kept d.slots.homes.items d.slots.homes.items
    (regions.seen_of d.log) (regions.seen_of e) (regions.behind_of d.log) (regions.behind_of e)
    c.requires.filling c.requires.filling (ap (take d.kept) (c.write_behind.ensures.seen h)))

pub returns-clause-snapshots : goal.returns-clause-snapshots
returns-clause-snapshots g c = λ h.
    let d = c.args.self.now in let e = c.write_behind.new.self in
    snaps_journal d.kept d.log e c.write_behind.ensures.log.homes c.write_behind.ensures.log.clearing
    (c.write_behind.ensures.base h) (c.write_behind.ensures.regions h) (c.write_behind.ensures.region_stops h)
    (c.write_behind.ensures.time h)
