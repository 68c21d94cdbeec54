use Rattle.std.proofs.Common.{take}
use Rattle.c_session.specs.Parts.{GetsAll}
use Rattle.c_session.proofs.session.parts.get_each.Given as goal

abbrev pub invariant-loop-k : goal.invariant-loop-k
invariant-loop-k g l = record {
  done : GetsAll l.fn.store l.store l.layer (take l.k l.near) l.objects.items;
}
