-- The gate, torn, as it is shown.
use Rattle.marked_pair.specs.Pair.{disk_of}
use Rattle.marked_pair.proofs.Steps.{shown_torn}
use Rattle.marked_pair.proofs.pair.MarkedPair.write_gate.Goals as goal

pub returns-then-eq-clause-torn : goal.returns-then-eq-clause-torn
returns-then-eq-clause-torn g c = λ h.
    shown_torn c.put_shut.result 0 (disk_of c.args.self.now) (disk_of c.put_shut.new.self)
    (c.put_shut.ensures.torn h)
