-- The slots are forgotten.
use Rattle.std.proofs.Common.{refl}
use Rattle.committed_log.specs.Committed as regions
use Rattle.logged_pair.specs.CommitLaws.{few_seen}
use Rattle.logged_pair.proofs.Advanced.{bare_stands}
use Rattle.logged_pair.proofs.GivingUp.{bare_begins, bare_commits, bare_one}
use Rattle.logged_pair.proofs.Keeping.{keeps_bare}
use Rattle.logged_pair.proofs.Snapped.{snaps_none}
use Rattle.logged_pair.proofs.pair.LoggedPair.forget_slots.Goals as goal

pub invariant_of-self : goal.invariant_of-self
invariant_of-self g c =
    let d = c.args.self.now in
    record {
      standing = λ h.
          bare_stands d.deciding (regions.clearing_of d.log) d.kept d.slots.homes.items
          c.clear.new.self.homes.items (regions.seen_of d.log) (regions.behind_of d.log)
          (regions.leaves_of d.log) c.requires.filling c.requires.settled c.clear.ensures (d.standing h);
    }

pub returns-clause-begins : goal.returns-clause-begins
returns-clause-begins g c = λ h.
    let d = c.args.self.now in
    bare_begins d.deciding d.kept d.slots.homes.items c.clear.new.self.homes.items (regions.seen_of d.log)
    (regions.behind_of d.log) (few_seen d.log (g.met.P.DevicePair.few_blocks (regions.pair_of d.log)).0)
    c.requires.filling c.clear.ensures (d.standing h).kept_there

pub returns-clause-one : goal.returns-clause-one
returns-clause-one g c = λ h k is.
    let d = c.args.self.now in
    bare_one d.deciding d.kept c.clear.new.self.homes.items (regions.seen_of d.log) (regions.behind_of d.log) k
    (few_seen d.log (g.met.P.DevicePair.few_blocks (regions.pair_of d.log)).0) c.requires.filling
    c.clear.ensures c.requires.kept is

pub returns-clause-keeps : goal.returns-clause-keeps
returns-clause-keeps g c = λ h.
    let d = c.args.self.now in
    keeps_bare d _ refl
    (bare_commits d.deciding d.kept d.slots.homes.items c.clear.new.self.homes.items (regions.seen_of d.log)
    (regions.behind_of d.log) c.requires.filling)

pub returns-clause-snapshots : goal.returns-clause-snapshots
returns-clause-snapshots g c = λ h.
    snaps_none c.args.self.now.kept c.args.self.now.log
