-- All children of the second page are behind those of the first one.
use Rattle.id_page.specs.Fork.{with_links}
use Rattle.id_tree.specs.Joining.{with_key}
use Rattle.id_tree.proofs.meeting.joined_fork.Goals as goal

pub returns-clause-all : goal.returns-clause-all
returns-clause-all c = λ dims content more one two. c.append_links.ensures.appended dims content
    (with_links more (with_key c.args.key more.links)) one
    (c.with_first_key-behind.ensures.keyed dims more two)
