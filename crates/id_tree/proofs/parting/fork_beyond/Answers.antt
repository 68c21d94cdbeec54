-- An empty fork takes the children from the place on.
use Rattle.std.proofs.Common.{◌≡◌, ℕ, Some, [], subst}
use Rattle.id_page.specs.Fork.{ForkContent, fork_at}
use Rattle.id_tree.proofs.parting.fork_beyond.Goals as goal

pub returns-clause-beyond : goal.returns-clause-beyond
returns-clause-beyond c = λ dims content is.
    let none : ForkContent = record { level = c.args.level; links = [] } in
    let empty = subst (λ (d : ℕ). fork_at d c.start_fork.new.page ≡ Some none)
    (c.dims_at.ensures.of_fork dims content is) c.start_fork.ensures.empty in
    c.append_links.ensures.appended dims none content empty is

pub returns-clause-tidy : goal.returns-clause-tidy
returns-clause-tidy c = c.append_links.ensures.tidy c.start_fork.ensures.tidy
