-- What holds at each turn of the loop of `fitting_number`.
use Rattle.command_language.proofs.NumberLemmas.{IsShortTo}
use Rattle.command_language.proofs.words.fitting_number.Given as goal

abbrev pub invariant-loop-byte : goal.invariant-loop-byte
invariant-loop-byte l = IsShortTo l.word l.byte-index l.value
