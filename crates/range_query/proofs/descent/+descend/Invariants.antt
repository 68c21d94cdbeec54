-- What holds at each turn of the loop of `descend`, and how deep it goes.
use Rattle.box_math.specs.Queries.{admits, seeks}
use Rattle.range_query.proofs.DescentLemmas.{Progress}
use Rattle.range_query.proofs.descent.+descend.Given as goal

-- each call below is for a lower level
abbrev pub decreases-descend : goal.decreases-descend
decreases-descend g l = l.root.level

-- what is sought below the children so far is found
abbrev pub invariant-loop-page : goal.invariant-loop-page
invariant-loop-page g l =
    Progress g.row.D (admits l.fn.query) (seeks l.fn.query) l.fn.tag l.fn.cache l.cache
    l.fn.root.level l.page-items l.page-index l.fn.rows.items l.rows.items
