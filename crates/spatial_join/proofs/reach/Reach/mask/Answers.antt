-- The goals of `Reach::mask` that are proved by hand.
use Rattle.std.proofs.Common.{rules, subst}
use Rattle.box_math.specs.Bounds.{Bounds, meets_test}
use Rattle.tree_node.specs.Nodes.{items_of}
use Rattle.spatial_join.specs.Masks.{Tells}
use Rattle.spatial_join.proofs.MaskLemmas.{near_where_they_meet}
use Rattle.spatial_join.proofs.reach.Reach.mask.Goals as goal

pub returns-then-self-eq0 : goal.returns-then-self-eq0
returns-then-self-eq0 g c =
    near_where_they_meet g.row.D c.args.bounds.now c.mask.result c.args.self.limit
    (items_of c.args.columns.now.node.now.entries.items) c.if-self-eq0.true c.mask.ensures

pub nearer-requires : goal.nearer-requires
nearer-requires g c = (
  search rules,
  (
    search rules,
    subst (λ (w : Bounds). Tells (meets_test g.row.D w) c.mask-named.result
        (items_of c.args.columns.now.node.now.entries.items)) c.widened.ensures.value c.mask-named.ensures,
  ),
)
