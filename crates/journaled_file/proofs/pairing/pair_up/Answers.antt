-- From what a base and the journal that it had are paired to.
use Rattle.std.proofs.Common.{◌≡◌, inl, inr, refl, rules, ⊎_elim}
use Rattle.journaled_file.specs.declared.judging.Found.TheVariants.{Ended, Fresh}
use Rattle.journaled_file.proofs.pairing.pair_up.Goals as goal

pub returns-in_ok-pair-in-Own-clause-paired : goal.returns-in_ok-pair-in-Own-clause-paired
returns-in_ok-pair-in-Own-clause-paired g c = λ base source there. (
  g.J.BlockDevice.shown c.in_ok-journal.journal,
  search rules,
  inl (record {
    found = search rules;
    read = search rules;
    rewritten = search rules;
    marked = search rules;
    no_more = search rules;
  }),
)

pub returns-in_ok-renewed-in-Unended-clause-paired :
    goal.returns-in_ok-renewed-in-Unended-clause-paired
returns-in_ok-renewed-in-Unended-clause-paired g c = λ base source there. (
  g.J.BlockDevice.shown c.in_ok-journal.journal,
  search rules,
  inr (search rules, (refl, inr (inr (search rules, search rules, refl)))),
)

pub returns-in_ok-renewed-in-Fresh-clause-paired : goal.returns-in_ok-renewed-in-Fresh-clause-paired
returns-in_ok-renewed-in-Fresh-clause-paired g c = λ base source there. (
  g.J.BlockDevice.shown c.in_ok-journal.journal,
  search rules,
  inr (
    search rules,
    (
      refl,
      ⊎_elim
          (λ (is : c.in_ok-judge_and_finish.field-0 ≡ Fresh). inl (search rules, search rules, refl))
          (λ (is : c.in_ok-judge_and_finish.field-0 ≡ Ended). inr (inl (search rules, search rules, refl)))
          c.in-Fresh.is,
    ),
  ),
)
