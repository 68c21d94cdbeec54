-- The children from the cut on, and those of the second page behind them.
use Rattle.std.proofs.Common.{drop, arith}
use Rattle.id_page.proofs.ForkReading.{count_of_fork}
use Rattle.id_tree.proofs.meeting.cut_first.Goals as goal

pub returns-clause-key : goal.returns-clause-key
returns-clause-key c = λ dims content other is.
    let count = count_of_fork dims c.args.one.now content is in
    c.key_at-key.ensures.of_fork dims content other is (omega (arith, count, c.requires.within))

pub returns-clause-second : goal.returns-clause-second
returns-clause-second c = λ dims content more is two.
    c.append_links.ensures.appended dims
    (record { level = c.args.level; links = drop c.args.many content.links }) more
    (c.fork_beyond-second.ensures.beyond dims content is) two
