-- One zero more.
use Rattle.std.proofs.Common.{◌∙◌, ◌++◌, ◌∷◌, [], List, ℕ, ap, rules}
use Rattle.std.proofs.lemmas.List.{replicate_more}
use Rattle.committed_log.proofs.slots.calls.zeros.Goals as goal

pub loop-k-preserved : goal.loop-k-preserved
loop-k-preserved g c = (
  c.push_reserved.ensures.items ∙ ap (λ (l : List ℕ). l ++ 0 ∷ []) c.loop-k.invariant.0
      ∙ replicate_more _ 0,
  search rules,
  search rules,
)
