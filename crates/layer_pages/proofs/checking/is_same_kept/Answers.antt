-- The tags are the same, and the boxes are compared.
use Rattle.std.proofs.Common.{◌≡◌, ◌∙◌, ℕ, ap}
use Rattle.box_math.specs.Bounds.{Bounds}
use Rattle.box_math.specs.Objects.{Object, bounds_of, tag_of}
use Rattle.node_bytes.proofs.BoxTests.{same_box}
use Rattle.layer_pages.proofs.checking.is_same_kept.Goals as goal

all_same : (x y : Object) → tag_of x ≡ tag_of y → bounds_of x ≡ bounds_of y → x ≡ y
all_same x y tag bounds = ap (λ (b : Bounds). (b, tag_of x)) bounds ∙ ap (λ (t : ℕ). (bounds_of y, t)) tag

pub returns-then-kept-other : goal.returns-then-kept-other
returns-then-kept-other g c =
    let same = same_box c.args.kept.now.0 c.args.other.now.0 c.eq.result c.eq.ensures in (
      λ equal. all_same c.args.kept.now c.args.other.now c.if-kept-other.true (same.0 equal),
      λ all. same.1 (ap (λ (o : Object). bounds_of o) all),
    )
