-- The bytes cleared so far, and the places that stay.
use Rattle.std.proofs.Common.{◌≡◌, ℕ, ◌<◌, ◌≤◌, length}
use Rattle.block_bytes.specs.Numbers.{IsApart, number_at}
use Rattle.box_bytes.specs.Corners.{Keeps}
use Rattle.id_page.proofs.head.clear_bytes.Given as goal

abbrev pub invariant-loop-k : goal.invariant-loop-k
invariant-loop-k l = record {
  size : length l.page ≡ 4096;
  from : l.fn.at ≤ l.k;
  cleared : (j : ℕ) → l.fn.at ≤ j → j < l.k → number_at 1 j l.page ≡ 0;
  others : Keeps (λ n from. IsApart n from l.fn.many l.fn.at) l.fn.page l.page;
}
