-- The base is shown with its own gate, unmarked.
use Rattle.std.proofs.Common.{◌∙◌, ap}
use Rattle.marked_pair.specs.Mark.{unmarked_gate}
use Rattle.snapshot_file.specs.GateLaws.{gated_unmarked, length-gated}
use Rattle.snapshot_file.proofs.unmarked.UnmarkedReader.over.Goals as goal

pub returns-clause-shown : goal.returns-clause-shown
returns-clause-shown g c = λ honest. gated_unmarked c.unmarked_page-gate.result (g.B.BlockReader.shown c.args.base)
    (λ some. c.unmarked_page-gate.ensures ∙ ap unmarked_gate (c.in_ok-read_gate.ensures honest some))

pub returns-clause-many : goal.returns-clause-many
returns-clause-many g c = length-gated c.unmarked_page-gate.result (g.B.BlockReader.shown c.args.base)
