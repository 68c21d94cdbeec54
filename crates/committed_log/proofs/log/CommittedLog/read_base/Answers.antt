-- A block is read from its slot, or from the base.
use Rattle.std.proofs.Common.{◌≡◌, ◌∙◌, ◌<◌, arith, length, sym, refl}
use Rattle.std.specs.List.{Contains}
use Rattle.block_device.specs.Device.{block_at}
use Rattle.committed_log.specs.Found.{IsSlot}
use Rattle.committed_log.specs.Committed.{base_of, homes_of, journal_of}
use Rattle.committed_log.specs.Overlay.{overlay_reads}
use Rattle.committed_log.specs.Replay.{length-overlaid, overlaid_other}
use Rattle.committed_log.proofs.Stood.{on_ok}
use Rattle.committed_log.proofs.log.CommittedLog.read_base.Goals as goal

pub read_base-requires : goal.read_base-requires
read_base-requires g c = let d = c.args.self.now in
    omega (arith, c.requires, length-overlaid (homes_of d) (journal_of d) (base_of d))

pub returns-in-Some-clause-bytes : goal.returns-in-Some-clause-bytes
returns-in-Some-clause-bytes g c = λ h.
    let d = c.args.self.now in
    let slot : IsSlot (homes_of d) c.args.i c.in-Some.k = c.in-Some.ensures.found in
    let there : c.args.i < length (base_of d) =
    omega (arith, c.requires, length-overlaid (homes_of d) (journal_of d) (base_of d)) in
    on_ok c.read_slot.result _ _
    (λ (e : c.read_slot.new.into ≡ block_at c.in-Some.k (journal_of d)). e
    ∙ sym (overlay_reads c.args.i c.in-Some.k (homes_of d) (journal_of d) (base_of d) slot there))
    (c.read_slot.ensures.bytes h)

pub returns-in-None-clause-bytes : goal.returns-in-None-clause-bytes
returns-in-None-clause-bytes g c = λ h.
    let d = c.args.self.now in
    let none : ¬ Contains (homes_of d) c.args.i = c.in-None.ensures.none refl in
    on_ok c.read_base.result _ _
    (λ (e : c.read_base.new.into ≡ block_at c.args.i (base_of d)). e
    ∙ sym (overlaid_other (homes_of d) (journal_of d) (base_of d) c.args.i none))
    (c.read_base.ensures.bytes h)
