-- No object is below zero, and at most one is at the greatest key.
use Rattle.std.proofs.Common.{ℕ, ◌+◌, ◌<◌, ◌≤◌, length, arith}
use Rattle.id_tree.specs.Halving.{under_key}
use Rattle.id_tree.proofs.HalvingLemmas.{none_below_zero}
use Rattle.id_tree.proofs.PartingLemmas.{most_below}
use Rattle.id_tree.proofs.parting.ends_with.Goals as goal

enough : (many n m : ℕ) → many < n → n ≤ m + 1 → many ≤ m
enough many n m lt le = omega arith

pub returns-clause-low : goal.returns-clause-low
returns-clause-low g c = λ objects is some. omega (arith, none_below_zero objects, some)

pub returns-clause-high : goal.returns-clause-high
returns-clause-high g c = λ objects is single more. enough c.args.many (length objects)
    (length (under_key 18446744073709551615 objects)) more
    (most_below g.row.D c.args.page.now objects c.fits-page is single)
