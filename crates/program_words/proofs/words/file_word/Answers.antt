-- A word without a name before it.
use Rattle.std.proofs.Common.{ap}
use Rattle.clap.specs.Walk.{Rule}
use Rattle.program_words.proofs.words.file_word.Goals as goal

pub returns-clause-rule : goal.returns-clause-rule
returns-clause-rule c =
    rw (c.help.ensures, c.value_name.ensures)
    (ap (λ (r : Rule). record r { value_names = 1 }) c.new.ensures.rule)

pub returns-clause-own : goal.returns-clause-own
returns-clause-own c = rw (c.help.ensures, c.value_name.ensures) c.new.ensures.optional.1
