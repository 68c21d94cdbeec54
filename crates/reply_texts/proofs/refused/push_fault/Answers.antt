-- What is said of an entry line.
use Rattle.reply_texts.specs.Refused.{line_fault}
use Rattle.reply_texts.proofs.WriteLemmas.{entry_text}
use Rattle.reply_texts.proofs.refused.push_fault.Goals as goal

pub returns-in-Some-clause-text : goal.returns-in-Some-clause-text
returns-in-Some-clause-text c =
    entry_text c.args.line.now c.push.new.self c.push_number.new.self c.push-in-Some.new.self
    (line_fault c.args.front.now) c.args.number c.in-Some.place c.saturating_add.result
    c.args.front.now.bad_entry c.in-Some.is c.saturating_add.ensures c.push.ensures c.push_number.ensures.text
    c.push-in-Some.ensures
