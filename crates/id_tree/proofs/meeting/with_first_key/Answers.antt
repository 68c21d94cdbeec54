-- The first child gets the key, where there is one.
use Rattle.std.proofs.Common.{◌∙◌, ◌<◌, List, Some, length, sym, ap, arith}
use Rattle.id_page.specs.Fork.{Link, with_links}
use Rattle.id_page.proofs.ForkReading.{count_of_fork, some_link}
use Rattle.id_tree.proofs.MeetLemmas.{keyed_first, keyed_none}
use Rattle.id_tree.proofs.meeting.with_first_key.Goals as goal

pub returns-then-count-eq0-clause-keyed : goal.returns-then-count-eq0-clause-keyed
returns-then-count-eq0-clause-keyed c = λ dims content is.
    let none = keyed_none c.args.key content.links
    (sym (count_of_fork dims c.args.page.now content is) ∙ sym c.count_at-count.ensures.value
    ∙ c.if-count-eq0.true) in
    is ∙ ap (λ (ls : List Link). Some (with_links content ls)) (sym none)

pub returns-clause-keyed : goal.returns-clause-keyed
returns-clause-keyed c = λ dims content is.
    let some : 0 < length content.links =
    omega (
      arith,
      count_of_fork dims c.args.page.now content is,
      c.count_at-count.ensures.value,
      c.if-count-eq0.false,
    ) in
    c.set_key.ensures.replaced dims content some_link is some
    ∙ ap (λ (ls : List Link). Some (with_links content ls))
    (keyed_first c.args.key content.links some_link some)
