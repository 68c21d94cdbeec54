-- What holds at each turn of the loop of `coordinates`.
use Rattle.std.proofs.Common.{◌≡◌, length, ◌++◌, option_map}
use Rattle.command_language.specs.Numbers.{coordinates_of}
use Rattle.command_language.proofs.parse.coordinates.Given as goal

-- the coordinates so far, and then those of what is left
abbrev pub invariant-loop-word : goal.invariant-loop-word
invariant-loop-word l =
    option_map (λ cs. l.bounds.items ++ cs) (coordinates_of l.words) ≡ coordinates_of l.initial.words

abbrev pub decreases-loop-word : goal.decreases-loop-word
decreases-loop-word l = length l.words
