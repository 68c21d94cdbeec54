-- What holds at each turn of the loop of `run_of`.
use Rattle.std.proofs.Common.{◌≡◌, take}
use Rattle.id_chains.proofs.ManyLemmas.{AreOfClass}
use Rattle.id_chains.proofs.adding.run_of.Given as goal

-- the objects so far are taken, all of the chain
abbrev pub invariant-loop-object : goal.invariant-loop-object
invariant-loop-object g l = record {
  taken : l.entries.items ≡ take l.object-index l.objects;
  placed : AreOfClass l.class l.entries.items;
}
