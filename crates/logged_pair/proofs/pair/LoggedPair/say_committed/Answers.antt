-- The flag is written and synced.
use Rattle.std.proofs.Common.{◌≡◌, ◌∙◌, ap, arith, sym}
use Rattle.block_device.specs.Device.{Blocks, block_at}
use Rattle.committed_log.specs.Committed as regions
use Rattle.committed_log.specs.FlagLaws.{says-one}
use Rattle.committed_log.specs.Log.{says}
use Rattle.logged_pair.specs.Standing.{base_of, clearing_of, commits_of, homes_of, journal_of}
use Rattle.logged_pair.proofs.Keeping.{keeps_call, keeps_on}
use Rattle.logged_pair.proofs.Stills.{log_behind, log_commits, log_leaves, log_seen, log_shown, log_stands, stays_of}
use Rattle.logged_pair.proofs.Stood.{deciding_stop, on_either, on_ok}
use Rattle.logged_pair.proofs.Snapped.{snaps_still, snaps_then}
use Rattle.logged_pair.proofs.pair.LoggedPair.say_committed.Goals as goal

pub invariant_of-self : goal.invariant_of-self
invariant_of-self g c =
    let m = c.put_flag.new.self in let e = c.sync_journal.new.self in
    record {
      standing = λ h3.
          let h2 = c.sync_journal.ensures.honest.1 h3 in
          log_stands m.deciding m.kept m.slots.homes.items m.log e (stays_of (c.sync_journal.ensures.still h2))
          (m.standing h2);
    }

pub returns-clause-said : goal.returns-clause-said
returns-clause-said g c = λ h.
    let m = c.put_flag.new.self in let e = c.sync_journal.new.self in
    let h2 = c.put_flag.ensures.honest.0 h in
    on_either c.sync_journal.result _
    (ap (λ (b : Blocks). says (block_at 0 b)) (log_behind m.log e (stays_of (c.sync_journal.ensures.still h2)))
    ∙ ap says (c.in_ok-put_flag.ensures.flag h) ∙ says-one)

pub returns-clause-synced : goal.returns-clause-synced
returns-clause-synced g c = λ h.
    let m = c.put_flag.new.self in let e = c.sync_journal.new.self in
    let h2 = c.put_flag.ensures.honest.0 h in
    let still = stays_of (c.sync_journal.ensures.still h2) in
    on_ok c.sync_journal.result _ _
    (λ (all : (v j : Blocks) → regions.leaves_of e v j → j ≡ regions.behind_of m.log) v j left. (
      (deciding_stop m.deciding (clearing_of m) m.kept (homes_of m) (base_of m) (journal_of m)
          (regions.leaves_of m.log) (c.put_flag.ensures.slots.deciding ∙ c.requires.deciding) (m.standing h2)
          v j (log_leaves m.log e still v j left)).base_is
          ∙ sym (log_seen m.log e still),
      all v j left ∙ sym (log_behind m.log e still),
    ))
    (c.sync_journal.ensures.durable h2)

pub returns-clause-shown : goal.returns-clause-shown
returns-clause-shown g c = λ h.
    let m = c.put_flag.new.self in
    log_shown m.slots.homes.items m.log c.sync_journal.new.self
    (stays_of (c.sync_journal.ensures.still (c.put_flag.ensures.honest.0 h)))
    ∙ c.put_flag.ensures.shown h

pub returns-clause-keeps : goal.returns-clause-keeps
returns-clause-keeps g c = λ h.
    let d = c.args.self.now in let m = c.put_flag.new.self in let e = c.sync_journal.new.self in
    let h2 = c.put_flag.ensures.honest.0 h in
    keeps_on (commits_of d) d m _ (c.put_flag.ensures.keeps h)
    (keeps_call (commits_of m) m _ (g.met.P.DevicePair.few_blocks (regions.pair_of e)).0
    (c.sync_journal.ensures.honest.0 h2) (c.sync_journal.ensures.still h2).time
    (log_commits m.deciding m.kept m.slots.homes.items m.log e (stays_of (c.sync_journal.ensures.still h2))))

pub returns-clause-snapshots : goal.returns-clause-snapshots
returns-clause-snapshots g c = λ h s.
    let d = c.args.self.now in let m = c.put_flag.new.self in let e = c.sync_journal.new.self in
    snaps_then s d.kept m.kept m.kept d.log m.log e (c.put_flag.ensures.snapshots h s)
    (snaps_still m.kept m.kept m.log e (omega arith)
    (stays_of (c.sync_journal.ensures.still (c.put_flag.ensures.honest.0 h))) s)
