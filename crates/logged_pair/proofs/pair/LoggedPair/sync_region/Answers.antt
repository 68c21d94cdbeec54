-- The region and the base are synced.
use Rattle.std.proofs.Common.{◌≡◌, ◌∙◌, refl, sym}
use Rattle.block_device.specs.Device.{Blocks}
use Rattle.committed_log.specs.Committed as regions
use Rattle.logged_pair.specs.Standing.{LogStays}
use Rattle.logged_pair.proofs.Stills.{log_behind, log_leaves, log_seen, log_stands, log_then, stays_of}
use Rattle.logged_pair.proofs.Stood.{on_ok}
use Rattle.logged_pair.proofs.pair.LoggedPair.sync_region.Given as given
use Rattle.logged_pair.proofs.pair.LoggedPair.sync_region.Goals as goal
use Rattle.logged_pair.proofs.pair.LoggedPair.sync_region.Goals.{After-sync_base}

still_so : (g : given.Over) (c : After-sync_base g) → regions.IsHonest c.args.self.now.log
    → LogStays c.args.self.now.log c.sync_base.new.self
still_so g c h =
    log_then c.args.self.now.log c.sync_journal.new.self c.sync_base.new.self
    (λ t a b le left. g.met.P.DevicePair.counts_now (regions.pair_of c.args.self.now.log) t a b h le left)
    (stays_of (c.sync_journal.ensures.still h)) (stays_of (c.sync_base.ensures.still (c.sync_journal.ensures.honest.0 h)))

pub invariant_of-self : goal.invariant_of-self
invariant_of-self g c =
    let d = c.args.self.now in let e = c.sync_journal.new.self in
    record {
      standing = λ h2.
          let h = c.sync_journal.ensures.honest.1 h2 in
          log_stands d.deciding d.kept d.slots.homes.items d.log e (stays_of (c.sync_journal.ensures.still h))
          (d.standing h);
    }

pub invariant_of-self-2 : goal.invariant_of-self-2
invariant_of-self-2 g c =
    let d = c.args.self.now in let e = c.sync_base.new.self in
    let at = (goal.at.invariant_of-self-2 g c).After-sync_base in
    record {
      standing = λ h3.
          let h = c.sync_journal.ensures.honest.1 (c.sync_base.ensures.honest.1 h3) in
          log_stands d.deciding d.kept d.slots.homes.items d.log e (still_so g at h) (d.standing h);
    }

pub returns-in_err-sync_journal-clause-still : goal.returns-in_err-sync_journal-clause-still
returns-in_err-sync_journal-clause-still g c = λ h. record {
  slots = record { deciding = refl; clearing = c.sync_journal.ensures.log.clearing; kept = refl; homes = refl };
  log = stays_of (c.sync_journal.ensures.still h);
}

pub returns-clause-still : goal.returns-clause-still
returns-clause-still g c = λ h. record {
  slots = record {
    deciding = refl;
    clearing = c.sync_base.ensures.log.clearing ∙ c.sync_journal.ensures.log.clearing;
    kept = refl;
    homes = refl;
  };
  log = still_so g (goal.at.returns-clause-still g c).After-sync_base h;
}

pub returns-clause-synced : goal.returns-clause-synced
returns-clause-synced g c = λ h.
    let m = c.sync_journal.new.self in let e = c.sync_base.new.self in
    let h2 = c.sync_journal.ensures.honest.0 h in
    let still = stays_of (c.sync_base.ensures.still h2) in
    on_ok c.sync_base.result _ _
    (λ (all : (v j : Blocks) → regions.leaves_of e v j → v ≡ regions.seen_of m) v j left. (
      all v j left ∙ sym (log_seen m e still),
      c.in_ok-sync_journal.ensures.durable h v j (log_leaves m e still v j left)
          ∙ sym (log_behind c.args.self.now.log m (stays_of (c.sync_journal.ensures.still h)))
          ∙ sym (log_behind m e still),
    ))
    (c.sync_base.ensures.durable h2)
