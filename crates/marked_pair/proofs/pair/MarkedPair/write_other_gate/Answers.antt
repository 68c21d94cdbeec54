-- Another gate, as it is shown.
use Rattle.marked_pair.specs.Pair.{disk_of}
use Rattle.marked_pair.proofs.Steps.{plain, shown_gate_from, shown_torn_from}
use Rattle.marked_pair.proofs.pair.MarkedPair.write_other_gate.Goals as goal

pub returns-clause-written : goal.returns-clause-written
returns-clause-written g c = λ h.
    let b = c.args.bytes.now in
    shown_gate_from c.put_gate.result b b (disk_of c.args.self.now) (disk_of c.has_mark.new.self)
    (disk_of c.put_gate.new.self) (c.has_mark.ensures.quiet h).base
    (plain c.reads_as.result b c.reads_as.ensures c.if-reads_as.false)
    (c.put_gate.ensures.written (c.has_mark.ensures.honest.0 h))

pub returns-clause-torn : goal.returns-clause-torn
returns-clause-torn g c = λ h.
    shown_torn_from c.put_gate.result 0 (disk_of c.args.self.now) (disk_of c.has_mark.new.self)
    (disk_of c.put_gate.new.self) (c.has_mark.ensures.quiet h).base
    (c.put_gate.ensures.torn (c.has_mark.ensures.honest.0 h))
