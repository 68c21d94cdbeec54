-- A run over a store, strict or not.
use Rattle.std.proofs.Common.{◌∙◌, ◌==◌, ap, inl, inr, sym}
use Rattle.std.proofs.lemmas.Bool.{true≢false}
use Rattle.layer_store.specs.Representation.{device_in}
use Rattle.command_line.proofs.RunLemmas.{closed_over, flushed_so, quiet_end, quiet_so, settled_over, status_is_small}
use Rattle.command_line.proofs.serving.run_store.Goals as goal

pub returns-then-strict-clause-status : goal.returns-then-strict-clause-status
returns-then-strict-clause-status g c =
    inr (
      status_is_small c.run_strictly_and_close-settled.result.outcome _ c.status_of_outcome.ensures,
      c.if-strict.true,
    )

pub returns-then-strict-clause-quiet : goal.returns-then-strict-clause-quiet
returns-then-strict-clause-quiet g c =
    let settled = c.run_strictly_and_close-settled in
    let settles = settled.ensures.settles in
    quiet_so settles.end settled.result.outcome _ _ _ c.status_of_outcome.ensures settles.told

pub returns-then-strict-clause-flushed : goal.returns-then-strict-clause-flushed
returns-then-strict-clause-flushed g c =
    let settled = c.run_strictly_and_close-settled in
    flushed_so settled.result.outcome _ _ c.status_of_outcome.ensures settled.ensures.flushed

pub returns-then-strict-clause-told : goal.returns-then-strict-clause-told
returns-then-strict-clause-told g c = λ lax. absurd (true≢false (sym c.if-strict.true ∙ lax))

pub returns-then-strict-clause-runs : goal.returns-then-strict-clause-runs
returns-then-strict-clause-runs g c =
    let settled = c.run_strictly_and_close-settled in
    rw c.if-strict.true
    (settled_over g.D.BlockDevice _ settled.result.outcome (device_in c.args.store) _ _ _ c.status_of_outcome.ensures
    settled.ensures.settles)

pub returns-clause-status : goal.returns-clause-status
returns-clause-status g c = inl c.status_of.ensures.most

pub returns-clause-quiet : goal.returns-clause-quiet
returns-clause-quiet g c =
    λ zero. quiet_end _ _ _ (sym c.status_of.ensures.is ∙ ap (λ n. n == 0) zero) c.run_and_close-ended.ensures.told

pub returns-clause-flushed : goal.returns-clause-flushed
returns-clause-flushed g c =
    λ zero. c.run_and_close-ended.ensures.flushed (sym c.status_of.ensures.is ∙ ap (λ n. n == 0) zero)

pub returns-clause-told : goal.returns-clause-told
returns-clause-told g c = λ lax. rw c.status_of.ensures.is c.run_and_close-ended.ensures.told

pub returns-clause-runs : goal.returns-clause-runs
returns-clause-runs g c =
    let ended = c.run_and_close-ended in
    rw c.if-strict.false
    (closed_over g.D.BlockDevice _ ended.result.went_well (device_in c.args.store) _ _ _ c.status_of.ensures.is
    ended.ensures.run ended.ensures.durable ended.ensures.checked)
