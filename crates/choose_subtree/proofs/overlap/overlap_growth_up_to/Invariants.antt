use Rattle.std.proofs.Common.{◌*◌, ◌^◌, ◌-◌, ◌≤◌, length}
use Rattle.node_bytes.specs.Views.{content_in}
use Rattle.choose_subtree.proofs.OverlapLaws.{GrewBy}
use Rattle.choose_subtree.proofs.overlap.overlap_growth_up_to.Given as goal

abbrev pub invariant-entries : goal.invariant-entries
invariant-entries g l = record {
  value : GrewBy g.row.D (content_in l.node).entries l.new l.k l.place l.sum;
  few : l.place ≤ length (content_in l.node).entries;
  bound : l.sum ≤ l.place * 2 ^ 96;
  small : l.sum ≤ l.limit;
}

abbrev pub decreases-entries : goal.decreases-entries
decreases-entries g l = 100 - l.place
