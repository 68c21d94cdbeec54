-- The objects so far are those of the first entries.
use Rattle.std.proofs.Common.{◌≡◌, take}
use Rattle.id_words.specs.Objects.{pairs_in}
use Rattle.id_words.proofs.objects.first_objects.Given as goal

abbrev pub invariant-entries : goal.invariant-entries
invariant-entries g l = l.objects.items ≡ pairs_in (take l.place l.entries)
