-- The object is that of the place, and each object of a bucket has a box.
use Rattle.std.proofs.Common.{◌≡◌, ◌+◌, ◌*◌, ℕ, false, true, refl, ◌∙◌, ap}
use Rattle.block_bytes.specs.Numbers.{number_at}
use Rattle.box_bytes.specs.Corners.{box_at}
use Rattle.bucket_page.specs.Layout.{entry_place, size_in, tag_in}
use Rattle.bucket_page.proofs.Places.{object_is, ordered_at}
use Rattle.bucket_page.proofs.Reading.{some_of_bucket, box_of_bucket}
use Rattle.bucket_page.proofs.entries.entry_at.Goals as goal

pub returns-in-Some-clause-value : goal.returns-in-Some-clause-value
returns-in-Some-clause-value g c =
    let page = c.args.page.now in
    let kind = number_at 1 0 page in
    let at : c.place_of-at.result ≡ entry_place (size_in g.row.D page) c.args.place
    = c.place_of-at.ensures.value
    ∙ ap (λ (size : ℕ). entry_place size c.args.place) c.size_of.ensures.value in
    object_is g.row.D kind c.args.place page c.read_u64.result c.in-Some.bounds c.tag_at.result
    (c.read_u64.ensures ∙ ap (λ (p : ℕ). number_at 8 p page) at)
    (c.in-Some.ensures.value ∙ ap (λ (p : ℕ). box_at g.row.D page (p + 8) (p + 8 + 4 * g.row.D) 4) at)
    (c.tag_at.ensures ∙ ap (λ (p : ℕ). tag_in kind (p + 8 + 8 * g.row.D) page) at)

pub returns-in-Some-clause-some : goal.returns-in-Some-clause-some
returns-in-Some-clause-some g c =
    let page = c.args.page.now in
    let at : c.place_of-at.result ≡ entry_place (size_in g.row.D page) c.args.place
    = c.place_of-at.ensures.value
    ∙ ap (λ (size : ℕ). entry_place size c.args.place) c.size_of.ensures.value in (
      λ h. (ordered_at g.row.D (number_at 1 0 page) c.args.place c.place_of-at.result page at).0
          (c.in-Some.ensures.some.0 refl),
      λ is. refl,
    )

pub returns-in-Some-clause-of_bucket : goal.returns-in-Some-clause-of_bucket
returns-in-Some-clause-of_bucket g c = λ bucket other is lt.
    some_of_bucket g.row.D c.args.page.now bucket c.args.place other
    (c.read_u64.result, (c.in-Some.bounds, c.tag_at.result)) is lt (returns-in-Some-clause-value g c)

pub returns-in-None-clause-some : goal.returns-in-None-clause-some
returns-in-None-clause-some g c =
    let page = c.args.page.now in
    let at : c.place_of-at.result ≡ entry_place (size_in g.row.D page) c.args.place
    = c.place_of-at.ensures.value
    ∙ ap (λ (size : ℕ). entry_place size c.args.place) c.size_of.ensures.value in (
      λ h. absurd (cc),
      λ is. c.in-None.ensures.some.1
          ((ordered_at g.row.D (number_at 1 0 page) c.args.place c.place_of-at.result page at).1 is),
    )

pub returns-in-None-clause-of_bucket : goal.returns-in-None-clause-of_bucket
returns-in-None-clause-of_bucket g c = λ bucket other is lt.
    let never : false ≡ true =
    (returns-in-None-clause-some g c).1
    (box_of_bucket g.row.D c.args.page.now bucket c.args.place is lt) in absurd (cc)
