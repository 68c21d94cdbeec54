-- What holds at each turn of the loop of `count_of_run`.
use Rattle.std.proofs.Common.{◌-◌, ◌≤◌, All, length, take}
use Rattle.id_tree.specs.Runs.{IsFromTo}
use Rattle.id_tree.proofs.runs.count_of_run.Given as goal

-- those so far are counted
abbrev pub invariant-loop-count : goal.invariant-loop-count
invariant-loop-count g l = record {
  few : l.count ≤ l.most;
  within : l.count ≤ length l.objects;
  range : All (IsFromTo l.from l.upto) (take l.count l.objects);
}

abbrev pub decreases-loop-count : goal.decreases-loop-count
decreases-loop-count g l = length l.objects - l.count
