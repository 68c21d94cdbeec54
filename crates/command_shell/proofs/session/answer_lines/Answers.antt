-- The goals of `answer_lines` that are proved by hand.
use Rattle.std.proofs.Common.{◌∙◌, ℕ, List, [], true, false, inr, refl, sym, subst, arith, Err, ap}
use Rattle.layer_store.proofs.SessionLemmas.{steps_join}
use Rattle.layer_store.specs.Calls.{Calls, IsAsked}
use Rattle.layer_store.specs.declared.store.Store.{Store}
use Rattle.command_language.specs.Pending.{pending}
use Rattle.command_shell.specs.Serving.{ServesBy}
use Rattle.command_shell.specs.Strict.{Follows}
use Rattle.command_shell.specs.TextCommands.IsUnfinished.{in_line}
use Rattle.command_language.proofs.ReadLemmas.{reads_none}
use Rattle.command_shell.proofs.SessionLemmas.{serves_kept, serves_none, serves_so}
use Rattle.command_shell.proofs.StrictLemmas.{Goes, JoinsCalls, all_but_last, ends_as_step, goes_on_so}
use Rattle.command_shell.proofs.StrictLemmas.{step_follows}
use Rattle.command_shell.proofs.session.answer_lines.Goals as goal

-- calls in turn, and then further ones
joins : {D A : Type 0} {m : _} (old mid new : Store D A m)
    → JoinsCalls (Calls old mid) (Calls mid new) (Calls old new)
joins old mid new rs ss xs ys p q = steps_join IsAsked old mid new rs ss xs ys p q

pub loop-line-init : goal.loop-line-init
loop-line-init g c =
    let r = g.R.Read.remaining c.args.input.now in
    let w = g.W.Write.contents c.args.output.now in
    let So = Goes c.args.strict 0 (Calls c.args.store.now c.args.store.now) in (
      subst (λ (left : List ℕ). ServesBy So false true r r w w [] left) (sym c.new-lines.ensures.pending)
          (serves_none So (record { lawful = refl; none_refused = λ _. tt; count = refl }) false r r w [] []
          (reads_none r [])),
      omega (arith, c.new-lines.ensures.uncounted),
    )

pub returns-in_default-clause-runs : goal.returns-in_default-clause-runs
returns-in_default-clause-runs g c =
    let remaining = g.R.Read.remaining in
    let contents = g.W.Write.contents in
    let unread = pending c.loop-line.lines in
    inr (
      unread,
      in_line c.in_default.ensures.none,
      serves_so _ _ (λ text rs xs goes. (goes.lawful, λ strict. all_but_last xs (goes.none_refused strict)))
          false true (remaining c.args.input.now) (remaining c.loop-line.input)
          (contents c.args.output.now) (contents c.line_or_flush.new.output) [] unread
          (serves_kept _ false true (remaining c.args.input.now) (remaining c.loop-line.input)
          (contents c.args.output.now) (contents c.loop-line.output) (contents c.line_or_flush.new.output) []
          unread c.loop-line.invariant.0 c.line_or_flush.ensures.kept),
    )

pub returns-in-Err-clause-runs : goal.returns-in-Err-clause-runs
returns-in-Err-clause-runs g c =
    let remaining = g.R.Read.remaining in
    let contents = g.W.Write.contents in
    let unread = pending c.loop-line.lines in
    let old = c.args.store.now in
    let mid = c.loop-line.store in
    let new = c.step.new.store in
    rw c.in-Err.is at
    (step_follows (Calls old mid) (Calls mid new) (Calls old new) (joins old mid new) c.loop-line.taken
    (remaining c.args.input.now) (remaining c.loop-line.input) (remaining c.step.new.input)
    (contents c.args.output.now) (contents c.line_or_flush.new.output) (contents c.step.new.output) unread
    (pending c.step.new.lines) c.args.strict c.step.result c.follow.result c.follow.ensures
    (serves_kept (Goes c.args.strict c.loop-line.taken (Calls old mid)) false true
    (remaining c.args.input.now) (remaining c.loop-line.input)
    (contents c.args.output.now) (contents c.loop-line.output) (contents c.line_or_flush.new.output) [] unread
    c.loop-line.invariant.0 c.line_or_flush.ensures.kept)
    c.step.ensures.steps)

pub returns-in-Err-clause-blamed : goal.returns-in-Err-clause-blamed
returns-in-Err-clause-blamed g c = λ is.
    c.step.ensures.blamed c.loop-line.invariant.1
    (ends_as_step c.args.strict c.loop-line.taken c.step.result
    (subst (Follows c.args.strict c.loop-line.taken c.step.result) (c.in-Err.is ∙ ap Err is)
    c.follow.ensures))

pub loop-line-preserved : goal.loop-line-preserved
loop-line-preserved g c =
    let remaining = g.R.Read.remaining in
    let contents = g.W.Write.contents in
    let unread = pending c.loop-line.lines in
    let old = c.args.store.now in
    let mid = c.loop-line.store in
    let new = c.step.new.store in (
      rw c.in-Ok-follow.is at
          (step_follows (Calls old mid) (Calls mid new) (Calls old new) (joins old mid new)
          c.loop-line.taken
          (remaining c.args.input.now) (remaining c.loop-line.input) (remaining c.step.new.input)
          (contents c.args.output.now) (contents c.line_or_flush.new.output) (contents c.step.new.output) unread
          (pending c.step.new.lines) c.args.strict c.step.result c.follow.result c.follow.ensures
          (serves_kept (Goes c.args.strict c.loop-line.taken (Calls old mid)) false true
          (remaining c.args.input.now) (remaining c.loop-line.input)
          (contents c.args.output.now) (contents c.loop-line.output) (contents c.line_or_flush.new.output) []
          unread c.loop-line.invariant.0 c.line_or_flush.ensures.kept)
          c.step.ensures.steps),
      c.step.ensures.counted c.loop-line.invariant.1,
    )

pub loop-line-smaller : goal.loop-line-smaller
loop-line-smaller g c =
    goes_on_so c.args.strict c.loop-line.taken c.step.result c.in-Ok-follow.more _
    (subst (Follows c.args.strict c.loop-line.taken c.step.result) c.in-Ok-follow.is c.follow.ensures)
    c.step.ensures.fewer
