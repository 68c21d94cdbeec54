-- The mark that was written is there.
use Rattle.std.proofs.Common.{◌∙◌, sym, ap, subst}
use Rattle.block_device.specs.Device.{written}
use Rattle.marked_pair.specs.Mark.{IsMarked}
use Rattle.marked_pair.specs.MarkLaws.{marked_written}
use Rattle.marked_pair.specs.Pair.{disk_of}
use Rattle.marked_pair.proofs.pair.MarkedPair.put_mark.Goals as goal

pub note_mark-requires : goal.note_mark-requires
note_mark-requires g c = record {
  marked = λ h2.
      let h = c.put_gate.ensures.honest.1 h2 in
      let d = c.args.self.now in
      subst IsMarked
      (sym (c.in_ok-put_gate.ensures.written h ∙ ap (λ b. written 0 b (disk_of d)) c.gate_page.ensures))
      (marked_written (disk_of d));
}
