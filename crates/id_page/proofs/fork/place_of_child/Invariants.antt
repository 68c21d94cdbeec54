-- The place lies from low on and before high.
use Rattle.std.proofs.Common.{◌≡◌, ◌⊎◌, ◌-◌, ◌<◌, ◌≤◌}
use Rattle.block_bytes.specs.Numbers.{number_at}
use Rattle.id_page.specs.Fork.{link_at}
use Rattle.id_page.proofs.fork.place_of_child.Given as goal

abbrev pub invariant-halves : goal.invariant-halves
invariant-halves l = record {
  some : l.low < l.high;
  within : l.high ≤ number_at 2 2 l.page;
  from : (l.low ≡ 0) ⊎ ((link_at l.page l.low).0 ≤ l.id);
  upto : (l.high ≡ number_at 2 2 l.page) ⊎ (l.id < (link_at l.page l.high).0);
}

abbrev pub decreases-halves : goal.decreases-halves
decreases-halves l = l.high - l.low
