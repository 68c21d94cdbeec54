-- The identifiers are the same, and what is kept is compared.
use Rattle.std.proofs.Common.{◌≡◌, ◌∙◌, ℕ, ap}
use Rattle.box_math.specs.Objects.{Object}
use Rattle.bucket_page.specs.Layout.{Entry}
use Rattle.layer_pages.proofs.checking.is_same.Goals as goal

same_object : (x y : Entry) → x.0 ≡ y.0 → x.1 ≡ y.1 → x ≡ y
same_object x y id kept = ap (λ (i : ℕ). (i, x.1)) id ∙ ap (λ (k : Object). (y.0, k)) kept

pub returns-then-object-other-clause-equal : goal.returns-then-object-other-clause-equal
returns-then-object-other-clause-equal g c =
    let same = c.is_same_kept.ensures in (
      λ equal. same_object c.args.object.now c.args.other.now c.if-object-other.true (same.0 equal),
      λ all. same.1 (ap (λ (o : Entry). o.1) all),
    )
