-- The goals of `tell_stop` that are proved by hand.
use Rattle.std.proofs.Common.{◌++◌, ◌∙◌, ap, codes, subst}
use Rattle.std.proofs.lemmas.Result.{err_from_is_err_and}
use Rattle.reply_texts.specs.Refused.{reason_of}
use Rattle.reply_texts.specs.Writing.{AppendsFront, Writes}
use Rattle.reply_texts.proofs.WriteLemmas.{front_more, stop_text, writes_then}
use Rattle.reply_texts.proofs.refused.tell_stop.Goals as goal

pub returns-in_err-write_part : goal.returns-in_err-write_part
returns-in_err-write_part g c =
    let p = err_from_is_err_and c.from_residual.result c.from_residual.ensures.1 in
    let text = stop_text c.args.stop.now c.push.new.self c.push_number.new.self c.push-2.new.self
    c.push_front.new.line c.push-3.new.self (c.push.ensures ∙ ap (λ t. t ++ codes "rstore: line ") c.new-line.ensures)
    c.push_number.ensures.text c.push-2.ensures c.push_front.ensures.text c.push-3.ensures in
    let before = g.E.Write.contents c.args.errors.now in
    let after = g.E.Write.contents c.write_part.new.writer in
    let it = c.args.stop.now in
    rw p.1 (subst (λ t. AppendsFront before after t) text
    (front_more before after c.push-3.new.self (reason_of it.refused.refusal it.line it.refused.front)
    c.in_err-write_part.ensures))

pub returns : goal.returns
returns g c =
    let text = stop_text c.args.stop.now c.push.new.self c.push_number.new.self c.push-2.new.self
    c.push_front.new.line c.push-3.new.self (c.push.ensures ∙ ap (λ t. t ++ codes "rstore: line ") c.new-line.ensures)
    c.push_number.ensures.text c.push-2.ensures c.push_front.ensures.text c.push-3.ensures in
    let it = c.args.stop.now in
    subst (λ t. Writes (g.E.Write.contents c.args.errors.now) (g.E.Write.contents c.tell_reason.new.errors)
    c.tell_reason.result t) text
    (writes_then _ _ _ c.tell_reason.result c.push-3.new.self
    (reason_of it.refused.refusal it.line it.refused.front) c.in_ok-write_part.ensures c.tell_reason.ensures)
