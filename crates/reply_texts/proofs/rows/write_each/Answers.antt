-- The goals of `write_each` that are proved by hand.
use Rattle.std.proofs.Common.{arith}
use Rattle.std.proofs.lemmas.Result.{err_from_is_err_and}
use Rattle.reply_texts.proofs.WriteLemmas.{front_of_all}
use Rattle.reply_texts.proofs.rows.write_each.Goals as goal

pub returns-in_err-write : goal.returns-in_err-write
returns-in_err-write g c = let p = err_from_is_err_and c.from_residual.result c.from_residual.ensures.1 in
    rw p.1 (front_of_all g.T.Row.text _ _ _ c.args.rows.now c.loop-row.row-index _ c.row-item.result
    (omega arith) c.row-item.is c.loop-row.invariant c.in_err-write.ensures)
