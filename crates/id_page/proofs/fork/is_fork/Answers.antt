-- A page with the head of a fork is one, and no other is.
use Rattle.std.proofs.Common.{◌≡◌, true}
use Rattle.id_page.proofs.ForkReading.{fork_if, fork_spells}
use Rattle.id_page.proofs.fork.is_fork.Goals as goal

pub returns-then-not-has_fork_head-clause-accepts : goal.returns-then-not-has_fork_head-clause-accepts
returns-then-not-has_fork_head-clause-accepts g c = λ content is ascending.
    let found : c.has_fork_head.result ≡ true = c.has_fork_head.ensures.1
    (fork_spells g.row.D c.args.page.now content is).head in absurd (cc)

pub returns-clause-fork : goal.returns-clause-fork
returns-clause-fork g c = λ holds. fork_if g.row.D c.args.page.now
    (c.has_fork_head.ensures.0 c.if-not-has_fork_head.false)

pub returns-clause-ascending : goal.returns-clause-ascending
returns-clause-ascending g c = λ holds content is. c.are_ascending.ensures.ascending g.row.D content is holds
