-- What `clap` finds in words that it takes is what they ask for.
use Rattle.std.proofs.Common.{◌≡◌, ◌∙◌, ap, rules, subst, sym}
use Rattle.clap.specs.Walk.{texts}
use Rattle.clap.specs.Words.{App, HasKind, app_of, fault_of, first_of, found_of, is_simple}
use Rattle.clap.specs.Words.{is_simple_and_free}
use Rattle.clap.specs.Words.{matches_of, one_of, rows_of}
use Rattle.clap.proofs.WalkLemmas.{first_value-rows, one_text-rows}
use Rattle.program_words.specs.Words.{program}
use Rattle.program_words.proofs.WordsLemmas.{said_so}
use Rattle.program_words.proofs.words.read_words.Goals as goal

pub returns-clause-refused : goal.returns-clause-refused
returns-clause-refused c =
    let is : app_of c.in_ok-command.field-0 ≡ program = c.in_ok-command.ensures in
    ap (λ (a : App). fault_of a (texts c.args.words.now)) (sym is)
    ∙ c.in_ok-matches.ensures.kinds (ap is_simple_and_free is)

pub returns-in_err-matches-clause-refused : goal.returns-in_err-matches-clause-refused
returns-in_err-matches-clause-refused c =
    let is : app_of c.in_ok-command.field-0 ≡ program = c.in_ok-command.ensures in
    let words = texts c.args.words.now in
    let kinds = subst (λ (a : App). HasKind (fault_of a words) c.in_err-matches.field-0.0) is
    (c.in_err-matches.ensures.kinds (ap is_simple_and_free is)) in
    search (rules, kinds)

pub returns-clause-asked : goal.returns-clause-asked
returns-clause-asked c =
    let is : app_of c.in_ok-command.field-0 ≡ program = c.in_ok-command.ensures in
    let words = texts c.args.words.now in
    let found = found_of c.in_ok-matches.matches in
    let rows : rows_of found ≡ matches_of program words =
    (c.in_ok-matches.ensures.matches (ap is_simple is)).0 ∙ ap (λ (a : App). matches_of a words) is in
    record {
      taken = ap (λ (a : App). fault_of a words) (sym is) ∙ c.in_ok-matches.ensures.kinds (ap is_simple_and_free is);
      said = said_so _ _ _ _ _ (λ name. one_text-rows found name ∙ ap (one_of name) rows)
          (λ name. first_value-rows found name ∙ ap (first_of name) rows) c.options_in.ensures;
    }
