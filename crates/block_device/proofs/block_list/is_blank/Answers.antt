-- One byte more, and what the greatest of all tells.
use Rattle.std.proofs.Common.{◌≡◌, ℕ, ap, arith, get_or, ⊎_elim}
use Rattle.std.proofs.lemmas.Bool.{cases_eq, eq-eqb, eqb-true}
use Rattle.block_device.proofs.BlankLemmas.{a_zero, all_zeros}
use Rattle.block_device.proofs.block_list.is_blank.Goals as goal

pub bytes-preserved : goal.bytes-preserved
bytes-preserved c = (
  λ k within. ⊎_elim
      (λ (here : k ≡ c.bytes.at).
      omega (arith, c.max-greatest.ensures, ap (λ (j : ℕ). get_or c.args.bytes.now j 0) here))
      (λ (apart : ¬ (k ≡ c.bytes.at)).
      omega (arith, c.max-greatest.ensures, c.bytes.invariant.0 k (omega (arith, within, apart))))
      (cases_eq k c.bytes.at),
  λ blank_is. omega (
    arith,
    c.max-greatest.ensures,
    c.bytes.invariant.1 blank_is,
    a_zero c.args.bytes.now blank_is c.bytes.at c.bytes-test.true,
  ),
)

pub returns : goal.returns
returns c = (
  λ none. all_zeros c.args.bytes.now c.told-bytes
      (λ k below. omega (arith, eqb-true c.bytes.greatest 0 none, c.bytes.invariant.0 k (omega (arith, below, c.bytes-test.false)))),
  λ blank_is. eq-eqb c.bytes.greatest 0 (c.bytes.invariant.1 blank_is),
)
