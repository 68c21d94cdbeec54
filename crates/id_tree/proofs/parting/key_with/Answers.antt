-- The keys come together until one is met, or one follows the other.
use Rattle.std.proofs.Common.{◌≡◌, ◌∙◌, ℕ, ◌+◌, length, ap, arith}
use Rattle.id_tree.specs.Halving.{under_key}
use Rattle.id_tree.proofs.HalvingLemmas.{one_key_more}
use Rattle.id_tree.proofs.parting.key_with.Goals as goal

pub returns : goal.returns
returns g c = record {
  parts = λ objects is single some more.
      let low = c.halves.invariant.low objects is some in
      let high = c.halves.invariant.high objects is single more in
      let next : c.halves.high ≡ c.halves.low + 1 =
      omega (arith, c.halves.invariant.some, c.halves-test.false) in
      let step = ap (λ (k : ℕ). length (under_key k objects)) next ∙ one_key_more c.halves.low objects in
      omega (arith, low, high, step, single c.halves.low);
}
