-- A word with a number has the rule that `number_rule` says.
use Rattle.std.proofs.Common.{◌≡◌, ◌∙◌, ap, Some, [], ◌∷◌}
use Rattle.clap.specs.Walk.{Rule, rule_of}
use Rattle.clap.specs.Words.{new_rule}
use Rattle.clap.specs.declared.builder.value_parser.ValueParser.{ValueParser}
use Rattle.program_words.proofs.words.number.Goals as goal

pub returns-clause-rule : goal.returns-clause-rule
returns-clause-rule c =
    let name = c.args.name.now in
    let reads = c.args.parser in
    let given = c.value_parser.ensures.given in
    let parser : c.value_parser.result.value_parser ≡ Some reads = given.1
    ∙ ap (λ (q : ValueParser). Some q) given.2 in
    let parsed : c.value_parser.result ≡ record c.help.result { value_parser = Some reads } =
    c.value_parser.ensures.others ∙ ap (λ p. record c.help.result { value_parser = p }) parser in
    let helped : rule_of c.help.result ≡ record (new_rule name) { long = Some name; value_names = 1 } =
    rw (c.help.ensures, c.value_name.ensures, c.long.ensures)
    (ap (λ (r : Rule). record r { long = Some name; value_names = 1 }) c.new.ensures.rule) in
    rw (c.default_value.ensures, parsed)
    (ap (λ (r : Rule). record r { parser = Some reads; defaults = c.args.default.now ∷ [] }) helped)

pub returns-clause-own : goal.returns-clause-own
returns-clause-own c =
    let given = c.value_parser.ensures.given in
    let parsed = c.value_parser.ensures.others in
    rw (c.default_value.ensures, parsed, c.help.ensures, c.value_name.ensures, c.long.ensures)
    c.new.ensures.optional.1
