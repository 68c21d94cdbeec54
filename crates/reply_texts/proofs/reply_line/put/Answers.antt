-- The goals of `put` that are proved by hand.
use Rattle.std.proofs.Common.{arith}
use Rattle.std.proofs.lemmas.List.{take_rest}
use Rattle.reply_texts.proofs.WriteLemmas.{appends_more, taken_more}
use Rattle.reply_texts.proofs.reply_line.put.Goals as goal

pub loop-done-preserved : goal.loop-done-preserved
loop-done-preserved g c = record {
  within = omega (arith, c.in_ok-count.ensures.bound);
  written =
      rw (← taken_more, ← take_rest c.args.text.now c.loop-done.done)
      (appends_more _ _ _ _ _ c.loop-done.invariant.written c.in_ok-count.ensures.bytes);
}
