-- The goals of `tell_refusal` that are proved by hand.
use Rattle.std.proofs.Common.{codes}
use Rattle.std.proofs.lemmas.Result.{err_from_is_err_and}
use Rattle.reply_texts.specs.Texts.{refusal_text}
use Rattle.reply_texts.proofs.WriteLemmas.{front_more}
use Rattle.reply_texts.proofs.replies.tell_refusal.Goals as goal

pub returns-in_err-put : goal.returns-in_err-put
returns-in_err-put g c = let p = err_from_is_err_and c.from_residual.result c.from_residual.ensures.1 in rw p.1 (front_more _ _ (codes "rstore: ") (refusal_text c.args.refusal) c.in_err-put.ensures)
