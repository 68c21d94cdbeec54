-- A base that is read without a log has no mark, or a session that has not ended.
use Rattle.std.proofs.Common.{◌≡◌, subst, ⊎_elim}
use Rattle.std.proofs.lemmas.Result.{IfOk-weaker}
use Rattle.journaled_file.specs.Judged.{IsJudged}
use Rattle.journaled_file.specs.declared.judging.Found.TheVariants.{Fresh, Unended}
use Rattle.snapshot_file.specs.Beside.{beside}
use Rattle.snapshot_file.proofs.over.snapshot_over.Goals as goal

pub returns-in-Fresh-clause-shown : goal.returns-in-Fresh-clause-shown
returns-in-Fresh-clause-shown g c =
    let a = g.B.BlockReader.shown c.args.base in
    let e = beside g.J.BlockReader.shown c.args.journal in
    let found = c.in_ok-found_beside.field-0 in
    ⊎_elim
    (λ (is : found ≡ Fresh). IfOk-weaker c.without_log.result _ _
    (λ s plain honest there.
    let judged = subst (λ f. IsJudged f a e) is (c.in_ok-found_beside.ensures.judged honest there) in
    (Fresh, judged, plain honest judged.0))
    c.without_log.ensures.plain)
    (λ (is : found ≡ Unended). IfOk-weaker c.without_log.result _ _
    (λ s shown honest there.
    (Unended, subst (λ f. IsJudged f a e) is (c.in_ok-found_beside.ensures.judged honest there), shown honest))
    c.without_log.ensures.shown)
    c.in-Fresh.is
