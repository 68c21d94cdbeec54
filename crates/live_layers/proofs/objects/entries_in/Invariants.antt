-- the boxes so far, none of which is refused
use Rattle.std.proofs.Common.{◌≡◌, map, take, true}
use Rattle.id_words.specs.Objects.{pairs_in}
use Rattle.plain_table.specs.Loads.{are_ordered, given_object}
use Rattle.live_layers.proofs.objects.entries_in.Given as goal

abbrev pub invariant-loop-object : goal.invariant-loop-object
invariant-loop-object g l = (pairs_in l.entries.items ≡ map given_object (take l.object-index l.objects))
    × (are_ordered (take l.object-index l.objects) ≡ true)
