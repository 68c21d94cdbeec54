-- A page with the head and a box in each place is a leaf, and no other is.
use Rattle.std.proofs.Common.{◌≡◌, true, arith, refl, rules}
use Rattle.std.proofs.lemmas.Grind.{common_steps}
use Rattle.id_page.proofs.LeafReading.{leaf_if, no_leaf, no_object, none_is_none}
use Rattle.box_math.specs.Bounds.{IsDims}
use Rattle.id_page.proofs.ObjectPlaces.{dims_there}
use Rattle.id_page.proofs.leaf.is_leaf.Goals as goal

pub returns-then-not-has_leaf_head : goal.returns-then-not-has_leaf_head
returns-then-not-has_leaf_head g c = (
  λ h. absurd (cc),
  λ some. absurd
      (none_is_none g.row.D c.args.page.now
      (no_leaf g.row.D c.args.page.now
      (λ head. let found : c.has_leaf_head.result ≡ true = c.has_leaf_head.ensures.1 head in cc)) some),
)

pub returns-then-is_none : goal.returns-then-is_none
returns-then-is_none g c = (
  λ h. absurd (cc),
  λ some. absurd (none_is_none g.row.D c.args.page.now
      (no_object g.row.D c.loop-place.place c.args.page.now (omega arith)
      (λ is. let there = c.object_at.ensures.some.1 is in grind (arith, common_steps))) some),
)

pub returns : goal.returns
returns g c = (
  λ h. leaf_if g.row.D c.args.page.now (c.has_leaf_head.ensures.0 c.if-not-has_leaf_head.false)
      (λ k lt. c.loop-place.invariant k (omega (arith, lt))),
  λ some. refl,
)

pub object_at-requires : goal.object_at-requires
object_at-requires g c =
    let few = (c.has_leaf_head.ensures.0 c.if-not-has_leaf_head.false).few in
    let dims : IsDims g.row.D = dims_there g.row.D c.loop-place.place (omega (arith, few)) in search rules
