-- One block of the index more is added.
use Rattle.std.proofs.Common.{◌∙◌, [], ◌∷◌, ◌++◌, ap, refl}
use Rattle.std.proofs.lemmas.List.{append_assoc}
use Rattle.block_device.specs.Device.{Blocks}
use Rattle.logged_pair.specs.WritesLaws.{writes_then}
use Rattle.logged_pair.proofs.Newest.{index_step}
use Rattle.logged_pair.proofs.compaction.put_index.Goals as goal

pub loop-j-preserved : goal.loop-j-preserved
loop-j-preserved g c =
    let p = g.P.DevicePair in
    let inv = c.loop-j.invariant in let e = c.append.ensures in let start = c.args.pair.now in (
      (λ h. e.honest.0 (inv.0.0 h), λ h. inv.0.1 (e.honest.1 h)),
      λ h. writes_then p start c.loop-j.pair c.append.new.pair (inv.1 h) (e.writes (inv.0.0 h)),
      λ h.
          let was = inv.2 h in
          let page = c.index_page.result in (
            was.0 ++ page ∷ [],
            c.in_ok-append.ensures.added (inv.0.0 h) ∙ ap (λ (b : Blocks). b ++ page ∷ []) was.1
                ∙ append_assoc (p.journal start) was.0 (page ∷ []),
            index_step c.args.homes.now c.loop-j.j _ was.0 page refl c.index_page.ensures was.2,
          ),
      inv.3,
    )
