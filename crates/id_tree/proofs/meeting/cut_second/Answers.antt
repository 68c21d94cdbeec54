-- The children before the cut, behind those of the first page.
use Rattle.std.proofs.Common.{take, arith}
use Rattle.id_page.specs.Fork.{with_links}
use Rattle.id_page.proofs.ForkReading.{count_of_fork}
use Rattle.id_tree.proofs.meeting.cut_second.Goals as goal

pub returns-clause-key : goal.returns-clause-key
returns-clause-key c = λ dims more other is.
    let count = count_of_fork dims c.args.two.now more is in
    c.key_at-key.ensures.of_fork dims more other is (omega (arith, count, c.requires.within))

pub returns-clause-first : goal.returns-clause-first
returns-clause-first c = λ dims content more is two.
    c.append_links.ensures.appended dims content (with_links more (take c.args.many more.links)) is
    (c.fork_upto-upto.ensures.upto dims more two)
