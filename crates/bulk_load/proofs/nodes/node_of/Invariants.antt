-- What holds at each turn of the loop over the entries.
use Rattle.std.proofs.Common.{◌≡◌, take}
use Rattle.bulk_load.proofs.nodes.node_of.Given as goal

-- the entries so far are held
abbrev pub invariant-entries : goal.invariant-entries
invariant-entries g l = l.held.items ≡ take l.place l.entries
