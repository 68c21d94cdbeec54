-- A block is read from its slot, or through the regions that are committed.
use Rattle.std.proofs.Common.{◌≡◌, ◌∙◌, ◌<◌, ◌+◌, arith, length, refl, sym}
use Rattle.std.specs.List.{Contains}
use Rattle.block_device.specs.Device.{block_at}
use Rattle.committed_log.specs.Committed as regions
use Rattle.committed_log.specs.Found.{IsSlot}
use Rattle.logged_pair.specs.CommitLaws.{few_seen}
use Rattle.logged_pair.specs.Shown.{length-shown, shown_other, shown_reads}
use Rattle.logged_pair.specs.Standing.{base_of, homes_of, journal_of}
use Rattle.logged_pair.proofs.Stills.{log_stands, stays_of}
use Rattle.logged_pair.proofs.Stood.{on_ok}
use Rattle.logged_pair.proofs.Snapped.{snapshots_still, snaps_still}
use Rattle.logged_pair.proofs.pair.LoggedPair.read.Goals as goal

pub read_base-requires : goal.read_base-requires
read_base-requires g c = let d = c.args.self.now in
    omega (arith, c.requires, length-shown (homes_of d) (journal_of d) (base_of d))

pub invariant_of-self : goal.invariant_of-self
invariant_of-self g c =
    let d = c.args.self.now in let e = c.read_base.new.self in
    record {
      standing = λ h2.
          let h = c.read_base.ensures.honest.1 h2 in
          log_stands d.deciding d.kept d.slots.homes.items d.log e (stays_of (c.read_base.ensures.still h))
          (d.standing h);
    }

pub returns-in-Some-clause-bytes : goal.returns-in-Some-clause-bytes
returns-in-Some-clause-bytes g c = λ h.
    let d = c.args.self.now in
    let slot : IsSlot (homes_of d) c.args.i c.in-Some.k = c.in-Some.ensures.found in
    let there : c.args.i < length (base_of d) =
    omega (arith, c.requires, length-shown (homes_of d) (journal_of d) (base_of d)) in
    on_ok c.read_slot.result _ _
    (λ (e : c.read_slot.new.into ≡ block_at (2 + c.in-Some.k) (journal_of d)). e
    ∙ sym (shown_reads c.args.i c.in-Some.k (homes_of d) (journal_of d) (base_of d) slot there))
    (c.read_slot.ensures.bytes h)

pub returns-in-None-clause-bytes : goal.returns-in-None-clause-bytes
returns-in-None-clause-bytes g c = λ h.
    let d = c.args.self.now in
    let none : ¬ Contains (homes_of d) c.args.i = c.in-None.ensures.none refl in
    let few = few_seen d.log (g.met.P.DevicePair.few_blocks (regions.pair_of d.log)).0 in
    on_ok c.read_base.result _ _
    (λ (e : c.read_base.new.into ≡ block_at c.args.i (base_of d)). e
    ∙ sym (shown_other (homes_of d) (journal_of d) (base_of d) c.args.i none
    (omega (arith, c.requires, few, length-shown (homes_of d) (journal_of d) (base_of d)))))
    (c.read_base.ensures.bytes h)

pub returns-in-None-clause-still : goal.returns-in-None-clause-still
returns-in-None-clause-still g c = λ h. record {
  slots = record { deciding = refl; clearing = c.read_base.ensures.log.clearing; kept = refl; homes = refl };
  log = stays_of (c.read_base.ensures.still h);
}

pub returns-in-Some-clause-snapshots : goal.returns-in-Some-clause-snapshots
returns-in-Some-clause-snapshots g c = λ h.
    snapshots_still c.args.self.now c.read_slot.new.self (c.read_slot.ensures.still h)

pub returns-in-None-clause-snapshots : goal.returns-in-None-clause-snapshots
returns-in-None-clause-snapshots g c = λ h.
    let d = c.args.self.now in
    snaps_still d.kept d.kept d.log c.read_base.new.self (omega arith) (stays_of (c.read_base.ensures.still h))
