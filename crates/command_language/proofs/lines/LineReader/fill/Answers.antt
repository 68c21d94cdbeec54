-- The goals of `LineReader::fill` that are proved by hand.
use Rattle.std.proofs.Common.{arith, inr, take, sym, ap, ◌∙◌, ◌++◌}
use Rattle.command_language.proofs.LineLemmas.{filled}
use Rattle.command_language.proofs.lines.LineReader.fill.Goals as goal

pub returns-clause-ok : goal.returns-clause-ok
returns-clause-ok g c =
    let mid = c.make_room.new.self in
    let new = c.read_once.new.buf in
    let n = c.in_ok-count.count in
    record {
      more = take n new;
      read = c.in_ok-count.ensures.bytes.0;
      so = (
        sym c.in_ok-count.ensures.bound.1,
        filled mid.buffer new _ mid.start mid.«end» n c.make_room.ensures.front (omega arith)
            c.in_ok-count.ensures.bound.0 ∙ ap (λ p. p ++ take n new) c.make_room.ensures.pending,
      );
    }

pub returns-then-self-eq-MOST_CALLS-clause-blamed : goal.returns-then-self-eq-MOST_CALLS-clause-blamed
returns-then-self-eq-MOST_CALLS-clause-blamed g c = λ before.
    inr (omega (arith, before, c.if-self-eq-MOST_CALLS.true))
