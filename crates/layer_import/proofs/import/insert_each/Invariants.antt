-- What holds at each turn of the loop of `insert_each`.
use Rattle.std.proofs.Common.{take}
use Rattle.layer_store.specs.Calls.{Calls}
use Rattle.layer_import.specs.Imports.{all_done, asked, insertions}
use Rattle.layer_import.proofs.import.insert_each.Given as goal

-- the objects so far are inserted
abbrev pub invariant-loop-object : goal.invariant-loop-object
invariant-loop-object g l = Calls l.fn.store l.store
    (asked (insertions l.layer (take l.object-index l.objects)))
    (all_done (insertions l.layer (take l.object-index l.objects)))
