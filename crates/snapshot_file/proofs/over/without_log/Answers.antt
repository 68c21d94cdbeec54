-- A base without the mark is shown as it is.
use Rattle.std.proofs.Common.{◌∙◌}
use Rattle.std.proofs.lemmas.Result.{IfOk-weaker}
use Rattle.marked_pair.specs.MarkLaws.{unmarked_same}
use Rattle.snapshot_file.proofs.over.without_log.Goals as goal

pub returns-clause-plain : goal.returns-clause-plain
returns-clause-plain g c = IfOk-weaker c.alone.result _ _
    (λ s e honest none. e ∙ c.in_ok-unmarked_base.ensures.shown honest
    ∙ unmarked_same (g.B.BlockReader.shown c.args.base) none)
    c.alone.ensures.shown
