-- Nothing is open, and all is synced.
use Rattle.std.proofs.Common.{◌∙◌, false, refl}
use Rattle.committed_log.specs.Committed as regions
use Rattle.logged_pair.specs.CommitLaws.{few_seen}
use Rattle.logged_pair.specs.SnapshotLaws.{appended_there}
use Rattle.logged_pair.proofs.Advanced.{open_stands}
use Rattle.logged_pair.proofs.GivingUp.{bare_shown}
use Rattle.logged_pair.proofs.Stood.{filling_all}
use Rattle.logged_pair.proofs.pair.LoggedPair.open.Goals as goal

pub invariant_of-result : goal.invariant_of-result
invariant_of-result g c =
    let log = c.in_ok-log.log in let e = c.in_ok-log.ensures in
    record {
      standing = λ h2.
          let h = e.honest.1 h2 in
          open_stands (regions.clearing_of log) c.base_blocks-kept.result c.new.result.homes.items
          (regions.seen_of log) (regions.behind_of log) (regions.leaves_of log) e.settled c.new.ensures
          c.base_blocks-kept.ensures.is (e.room h) (e.unsaid h) (e.durable h);
    }

pub returns-clause-shown : goal.returns-clause-shown
returns-clause-shown g c = λ h.
    let log = c.in_ok-log.log in
    bare_shown c.new.result.homes.items (regions.seen_of log) (regions.behind_of log)
    (few_seen log (g.met.P.DevicePair.few_blocks (regions.pair_of log)).0) c.new.ensures
    ∙ c.in_ok-log.ensures.seen h

pub returns-clause-commits : goal.returns-clause-commits
returns-clause-commits g c = λ h kept is.
    let log = c.in_ok-log.log in
    filling_all false c.base_blocks-kept.result c.new.result.homes.items (regions.seen_of log)
    (regions.behind_of log) kept refl c.base_blocks-kept.ensures.is is
    ∙ c.in_ok-log.ensures.seen h

pub returns-clause-readers : goal.returns-clause-readers
returns-clause-readers g c = λ h p n there le ends few.
    let e = c.in_ok-log.ensures in let q = g.P.DevicePair in
    appended_there p n c.base_blocks-kept.result (q.base c.args.pair) (q.journal c.args.pair) c.in_ok-log.log
    (e.appends h) e.settled there le ends few
