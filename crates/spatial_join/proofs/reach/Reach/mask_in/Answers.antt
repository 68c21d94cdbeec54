-- The goals of `Reach::mask_in` that are proved by hand.
use Rattle.std.proofs.Common.{rules, subst}
use Rattle.box_math.specs.Bounds.{Bounds, meets_test}
use Rattle.node_bytes.specs.Views.{content_in}
use Rattle.spatial_join.specs.Masks.{Tells}
use Rattle.spatial_join.proofs.LeafJoin.{tells_viewed}
use Rattle.spatial_join.proofs.MaskLemmas.{near_where_they_meet}
use Rattle.spatial_join.proofs.reach.Reach.mask_in.Goals as goal

pub returns-then-self-eq0 : goal.returns-then-self-eq0
returns-then-self-eq0 g c =
    let items = (content_in c.args.node.now).entries in
    near_where_they_meet g.row.D c.args.bounds.now c.mask.result c.args.self.limit items
    c.if-self-eq0.true
    (tells_viewed g.row.D c.args.bounds.now c.mask.result items c.mask.ensures.met c.mask.ensures.none)

pub nearer_in-requires : goal.nearer_in-requires
nearer_in-requires g c =
    let items = (content_in c.args.node.now).entries in (
      search rules,
      (
        search rules,
        (
          c.requires.few,
          (
            c.requires.boxes,
            subst (λ (w : Bounds). Tells (meets_test g.row.D w) c.mask-named.result items)
                c.widened.ensures.value
                (tells_viewed g.row.D c.widened.result c.mask-named.result items
                c.mask-named.ensures.met c.mask-named.ensures.none),
          ),
        ),
      ),
    )
