-- One object more is the same.
use Rattle.std.proofs.Common.{◌≡◌, ◌∙◌, ◌+◌, ◌<◌, List, [], ◌∷◌, ◌++◌, All, length, refl, take, sym, ap}
use Rattle.std.proofs.Common.{subst, arith}
use Rattle.std.proofs.lemmas.List.{take_more}
use Rattle.std.proofs.lemmas.List.Elements.{All-push}
use Rattle.box_math.specs.Bounds.{IsBox}
use Rattle.box_math.specs.Objects.{bounds_of}
use Rattle.bucket_page.specs.Layout.{Entry}
use Rattle.layer_pages.proofs.checking.are_equal.Goals as goal

pub loop-place-preserved : goal.loop-place-preserved
loop-place-preserved g c =
    let held = c.args.held.now in
    let listed = c.args.listed.now in
    let here = c.loop-place.place in
    let x = c.index-held-place.result in
    let y = c.index-listed-place.result in
    let P : Entry → Type 0 = λ o. IsBox g.row.D (bounds_of o.1) in
    let within : here < length held = c.loop-place-test.true in
    let beside : here < length listed = omega (arith, within, c.if-held-listed.false) in
    let more : take (here + 1) held ≡ take here held ++ x ∷ [] = take_more held here x within
    ∙ ap (λ (o : Entry). take here held ++ o ∷ []) (sym c.index-held-place.is) in
    let other : take (here + 1) listed ≡ take here listed ++ y ∷ [] = take_more listed here y beside
    ∙ ap (λ (o : Entry). take here listed ++ o ∷ []) (sym c.index-listed-place.is) in
    let same : x ≡ y = c.if-not-is_same.ensures.equal.0 refl in (
      more ∙ ap (λ (os : List Entry). os ++ x ∷ []) c.loop-place.invariant.0
          ∙ ap (λ (o : Entry). take here listed ++ o ∷ []) same ∙ sym other,
      subst (λ (os : List Entry). All P os) (sym more)
          (All-push P (take here held) x c.loop-place.invariant.1 c.is_same.ensures.is_box),
    )
