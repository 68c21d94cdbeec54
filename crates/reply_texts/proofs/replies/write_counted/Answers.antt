-- The goals of `write_counted` that are proved by hand.
use Rattle.std.proofs.lemmas.Result.{err_from_is_err_and}
use Rattle.reply_texts.specs.Texts.{count_text, number_text}
use Rattle.reply_texts.proofs.WriteLemmas.{front_more, writes_then}
use Rattle.reply_texts.proofs.replies.write_counted.Goals as goal

pub returns-in_err-write_count : goal.returns-in_err-write_count
returns-in_err-write_count g c = let p =
    err_from_is_err_and c.from_residual.result c.from_residual.ensures.1 in
    rw p.1 (front_more _ _ (count_text 1) (number_text c.args.count) c.in_err-write_count.ensures)

pub returns : goal.returns
returns g c =
    writes_then _ _ _ _ (count_text 1) (number_text c.args.count) c.in_ok-write_count.ensures
    c.write_number.ensures
