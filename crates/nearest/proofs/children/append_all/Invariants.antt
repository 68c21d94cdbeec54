-- What holds at each turn of the loop of `append_all`.
use Rattle.box_math.specs.Measures.{point_dist2_of}
use Rattle.node_bytes.specs.Views.{content_in}
use Rattle.nearest.proofs.ChildLemmas.{Appending}
use Rattle.nearest.proofs.children.append_all.Given as goal

abbrev pub invariant-children : goal.invariant-children
invariant-children g l =
    Appending (λ b. point_dist2_of g.row.D b l.point) l.level l.k l.best (content_in l.view).entries l.place
    l.fn.fresh.items l.fresh.items
