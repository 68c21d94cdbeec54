-- No file is named, so that lines are answered in memory, or the words do not go together.
use Rattle.std.proofs.Common.{◌∙◌, None, ap, false, refl, sym, true}
use Rattle.std.specs.Prelude.{option_map}
use Rattle.program_words.specs.Asking.{asked_of}
use Rattle.program_words.proofs.KindLemmas.{kind_so}
use Rattle.program_words.proofs.kinds.kind_without_file.Goals as goal

pub returns-then-shows : goal.returns-then-shows
returns-then-shows c =
    sym (kind_so (asked_of c.args.options.now) true _ _ _ None (sym c.shows.ensures ∙ c.if-shows.true) refl
    (ap (option_map (λ f. f.now)) c.requires) refl refl)

pub returns-then-imports : goal.returns-then-imports
returns-then-imports c =
    sym (kind_so (asked_of c.args.options.now) false true _ _ None (sym c.shows.ensures ∙ c.if-shows.false)
    (sym c.imports.ensures ∙ c.if-imports.true) (ap (option_map (λ f. f.now)) c.requires) refl refl)

pub returns-then-options : goal.returns-then-options
returns-then-options c =
    sym (kind_so (asked_of c.args.options.now) false false true _ None (sym c.shows.ensures ∙ c.if-shows.false)
    (sym c.imports.ensures ∙ c.if-imports.false) (ap (option_map (λ f. f.now)) c.requires) c.if-options.true refl)

pub returns : goal.returns
returns c =
    sym (kind_so (asked_of c.args.options.now) false false false _ None (sym c.shows.ensures ∙ c.if-shows.false)
    (sym c.imports.ensures ∙ c.if-imports.false) (ap (option_map (λ f. f.now)) c.requires) c.if-options.false refl)
