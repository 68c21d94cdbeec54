-- A block is read from its slot, or from the base.
use Rattle.std.proofs.Common.{◌≡◌, ◌∙◌, ◌<◌, arith, length, refl, sym}
use Rattle.std.proofs.lemmas.Result.{on_ok_weaker}
use Rattle.std.specs.List.{Contains}
use Rattle.block_device.specs.Device.{block_at}
use Rattle.committed_log.specs.Found.{IsSlot}
use Rattle.committed_log.specs.Overlay.{overlay_reads}
use Rattle.committed_log.specs.Replay.{length-overlaid, overlaid_other}
use Rattle.snapshot_reader.specs.Reader.{homes_of}
use Rattle.snapshot_reader.proofs.reader.calls.SnapshotReaderBlockReader.read.Goals as goal

pub read-requires-in-None : goal.read-requires-in-None
read-requires-in-None g c =
    let r = c.args.self.now in
    omega (
      arith,
      c.requires,
      length-overlaid (homes_of r) (g.J.BlockReader.shown r.journal) (g.B.BlockReader.shown r.base),
    )

pub returns-in-Some : goal.returns-in-Some
returns-in-Some g c =
    let r = c.args.self.now in let a = g.B.BlockReader.shown r.base in let b = g.J.BlockReader.shown r.journal in
    let slot : IsSlot (homes_of r) c.args.i c.in-Some.k = c.in-Some.ensures.found in
    let there : c.args.i < length a = omega (arith, c.requires, length-overlaid (homes_of r) b a) in
    record {
      bytes = λ h. on_ok_weaker c.read.result
          (λ (e : c.read.new.into ≡ block_at c.in-Some.k b). e
          ∙ sym (overlay_reads c.args.i c.in-Some.k (homes_of r) b a slot there))
          (c.read.ensures.bytes h.1);
    }

pub returns-in-None : goal.returns-in-None
returns-in-None g c =
    let r = c.args.self.now in let a = g.B.BlockReader.shown r.base in let b = g.J.BlockReader.shown r.journal in
    let none : ¬ Contains (homes_of r) c.args.i = c.in-None.ensures.none refl in
    record {
      bytes = λ h. on_ok_weaker c.read-in-None.result
          (λ (e : c.read-in-None.new.into ≡ block_at c.args.i a). e
          ∙ sym (overlaid_other (homes_of r) b a c.args.i none))
          (c.read-in-None.ensures.bytes h.0);
    }
