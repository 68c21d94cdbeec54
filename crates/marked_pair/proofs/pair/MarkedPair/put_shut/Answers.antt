-- A shut gate, as it is shown.
use Rattle.std.proofs.Common.{◌≡◌, ◌∙◌, sym, ap, subst, lit<}
use Rattle.block_device.specs.Device.{written}
use Rattle.page_file.specs.Layout.{gate_block}
use Rattle.marked_pair.specs.Mark.{unmarked}
use Rattle.marked_pair.specs.MarkLaws.{gate_reads, shown_marked, unmarked_marked}
use Rattle.marked_pair.specs.Pair.{disk_of}
use Rattle.marked_pair.proofs.Steps.{shown_gate_from}
use Rattle.marked_pair.proofs.pair.MarkedPair.put_shut.Goals as goal

pub returns-then-branch-clause-written : goal.returns-then-branch-clause-written
returns-then-branch-clause-written g c = λ h.
    let d = c.args.self.now in let p = g.P.DevicePair in
    let same = (c.has_mark.ensures.quiet h).base in
    ap (λ q. unmarked (p.base q)) c.note_mark.ensures.pair
    ∙ shown_marked (disk_of c.has_mark.new.self) (c.in_ok-has_mark.ensures.found h c.if-branch.true)
    ∙ ap (λ b. written 0 (gate_block 1) (unmarked b)) same

pub returns-clause-written : goal.returns-clause-written
returns-clause-written g c = λ h.
    shown_gate_from c.put_mark.result (gate_block 2) (gate_block 1) (disk_of c.args.self.now)
    (disk_of c.has_mark.new.self) (disk_of c.put_mark.new.self) (c.has_mark.ensures.quiet h).base
    (unmarked_marked (gate_block 2) (gate_reads 2 (lit< tt)))
    (c.put_mark.ensures.written (c.has_mark.ensures.honest.0 h))
