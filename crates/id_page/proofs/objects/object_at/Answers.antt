-- The object is that of the place, and each object of a leaf has a box.
use Rattle.std.proofs.Common.{◌≡◌, ◌+◌, ◌*◌, ℕ, false, true, arith, refl, ◌∙◌, ap, rules}
use Rattle.block_bytes.specs.Numbers.{number_at}
use Rattle.box_bytes.specs.Corners.{box_at}
use Rattle.bucket_page.proofs.Places.{object_is, ordered_at, tag_in-tagged}
use Rattle.id_page.proofs.LeafReading.{box_of_leaf, some_of_leaf}
use Rattle.box_math.specs.Bounds.{IsDims}
use Rattle.id_page.proofs.ObjectPlaces.{dims_there}
use Rattle.id_page.proofs.objects.object_at.Goals as goal

pub returns-in-Some-clause-value : goal.returns-in-Some-clause-value
returns-in-Some-clause-value g c =
    let page = c.args.page.now in
    let at = c.object_place-at.ensures.value in
    object_is g.row.D 7 c.args.place page c.read_u64.result c.in-Some.bounds c.read_u32.result
    (c.read_u64.ensures ∙ ap (λ (p : ℕ). number_at 8 p page) at)
    (c.in-Some.ensures.value ∙ ap (λ (p : ℕ). box_at g.row.D page (p + 8) (p + 8 + 4 * g.row.D) 4) at)
    (c.read_u32.ensures ∙ ap (λ (p : ℕ). number_at 4 (p + 8 + 8 * g.row.D) page) at
    ∙ tag_in-tagged 7 _ page (λ e. absurd (omega (arith, e))))

pub returns-in-Some-clause-some : goal.returns-in-Some-clause-some
returns-in-Some-clause-some g c = (
  λ h. (ordered_at g.row.D 7 c.args.place c.object_place-at.result c.args.page.now
      c.object_place-at.ensures.value).0 (c.in-Some.ensures.some.0 refl),
  λ is. refl,
)

pub returns-in-Some-clause-of_leaf : goal.returns-in-Some-clause-of_leaf
returns-in-Some-clause-of_leaf g c = λ objects other is lt.
    some_of_leaf g.row.D c.args.page.now objects c.args.place other
    (c.read_u64.result, (c.in-Some.bounds, c.read_u32.result)) is lt (returns-in-Some-clause-value g c)

pub returns-in-None-clause-some : goal.returns-in-None-clause-some
returns-in-None-clause-some g c = (
  λ h. absurd (cc),
  λ is. c.in-None.ensures.some.1
      ((ordered_at g.row.D 7 c.args.place c.object_place-at.result c.args.page.now
      c.object_place-at.ensures.value).1 is),
)

pub returns-in-None-clause-of_leaf : goal.returns-in-None-clause-of_leaf
returns-in-None-clause-of_leaf g c = λ objects other is lt.
    let never : false ≡ true = (returns-in-None-clause-some g c).1
    (box_of_leaf g.row.D c.args.page.now objects c.args.place is lt) in absurd (cc)

pub read_box-requires : goal.read_box-requires
read_box-requires g c =
    let dims : IsDims g.row.D = dims_there g.row.D c.args.place c.requires.within in search rules
