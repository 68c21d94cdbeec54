-- The goals of `LineFront::of` that are proved by hand.
use Rattle.std.proofs.Common.{sym, arith}
use Rattle.std.proofs.lemmas.List.{length-take-le}
use Rattle.reply_texts.proofs.FrontLemmas.{front_cut, front_whole}
use Rattle.reply_texts.proofs.refused.LineFront.of.Goals as goal

pub slice_bounds-with-end : goal.slice_bounds-with-end
slice_bounds-with-end c = sym (length-take-le 60 c.args.line.now (omega (arith, c.if-line-gt-TOLD.true)))

pub with-requires : goal.with-requires
with-requires c =
    let long = length-take-le 60 c.args.line.now (omega (arith, c.if-line-gt-TOLD.true)) in omega (arith, long)

pub returns-then-line-gt-TOLD : goal.returns-then-line-gt-TOLD
returns-then-line-gt-TOLD c =
    front_cut c.args.line.now c.with.result c.if-line-gt-MAX_LINE.false c.if-line-gt-TOLD.true
    c.with.ensures.bytes c.with.ensures.is_cut c.with.ensures.bad_entry

pub returns : goal.returns
returns c =
    front_whole c.args.line.now c.with-2.result c.if-line-gt-TOLD.false c.with-2.ensures.bytes
    c.with-2.ensures.is_cut c.with-2.ensures.bad_entry
