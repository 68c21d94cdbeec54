-- What holds at each turn of the loop of `tagged_coordinates`.
use Rattle.std.proofs.Common.{◌≡◌, length, ◌++◌, option_map}
use Rattle.command_language.specs.Numbers.{before_tag, coordinates_of, from_tag}
use Rattle.command_language.proofs.parse.tagged_coordinates.Given as goal

-- the coordinates so far, and then those of what is left before a tag; and what is left from the tag on
abbrev pub invariant-loop-word : goal.invariant-loop-word
invariant-loop-word l = record {
  before : option_map (λ cs. l.bounds.items ++ cs) (coordinates_of (before_tag l.words)) ≡ coordinates_of
      (before_tag l.initial.words);
  from : from_tag l.words ≡ from_tag l.initial.words;
}

abbrev pub decreases-loop-word : goal.decreases-loop-word
decreases-loop-word l = length l.words
