-- A file is named, and the kind is told by what else is asked.
use Rattle.std.proofs.Common.{◌∙◌, Some, ap, false, refl, sym, true}
use Rattle.std.specs.Prelude.{option_map}
use Rattle.program_words.specs.Asking.{asked_of}
use Rattle.program_words.proofs.KindLemmas.{kind_so}
use Rattle.program_words.proofs.kinds.kind_of_run.Goals as goal

pub returns-then-shows : goal.returns-then-shows
returns-then-shows c =
    sym (kind_so (asked_of c.args.options.now) true _ _ _ (Some c.in-Some.path.now)
    (sym c.shows.ensures ∙ c.if-shows.true) refl (ap (option_map (λ f. f.now)) c.in-Some.is) refl refl)

pub returns-then-imports : goal.returns-then-imports
returns-then-imports c =
    sym (kind_so (asked_of c.args.options.now) false true _ _ (Some c.in-Some.path.now)
    (sym c.shows.ensures ∙ c.if-shows.false) (sym c.imports.ensures ∙ c.if-imports.true)
    (ap (option_map (λ f. f.now)) c.in-Some.is) refl refl)

pub returns-then-not-options : goal.returns-then-not-options
returns-then-not-options c =
    sym (kind_so (asked_of c.args.options.now) false false false _ (Some c.in-Some.path.now)
    (sym c.shows.ensures ∙ c.if-shows.false) (sym c.imports.ensures ∙ c.if-imports.false)
    (ap (option_map (λ f. f.now)) c.in-Some.is) c.if-not-options.true refl)

pub returns-then-options : goal.returns-then-options
returns-then-options c =
    sym (kind_so (asked_of c.args.options.now) false false true true (Some c.in-Some.path.now)
    (sym c.shows.ensures ∙ c.if-shows.false) (sym c.imports.ensures ∙ c.if-imports.false)
    (ap (option_map (λ f. f.now)) c.in-Some.is) c.if-not-options.false c.if-options.true)

pub returns : goal.returns
returns c =
    sym (kind_so (asked_of c.args.options.now) false false true false (Some c.in-Some.path.now)
    (sym c.shows.ensures ∙ c.if-shows.false) (sym c.imports.ensures ∙ c.if-imports.false)
    (ap (option_map (λ f. f.now)) c.in-Some.is) c.if-not-options.false c.if-options.false)
