-- What holds at each turn of the loop of `number`.
use Rattle.command_language.proofs.NumberLemmas.{IsReadTo}
use Rattle.command_language.proofs.words.number.Given as goal

abbrev pub invariant-loop-byte : goal.invariant-loop-byte
invariant-loop-byte l = IsReadTo l.word l.byte-index l.value
