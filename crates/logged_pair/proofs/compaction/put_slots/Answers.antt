-- One slot more is added.
use Rattle.std.proofs.Common.{◌∙◌, [], ◌∷◌, ◌++◌, ap, drop, refl, subst}
use Rattle.std.specs.Prelude.{slice_index}
use Rattle.std.proofs.lemmas.List.{append_assoc}
use Rattle.block_device.specs.Device.{Blocks}
use Rattle.committed_log.specs.Room.{blocks_of}
use Rattle.logged_pair.specs.Compaction.{IsNewest}
use Rattle.logged_pair.specs.WritesLaws.{writes_then}
use Rattle.logged_pair.proofs.Newest.{newest_step}
use Rattle.logged_pair.proofs.compaction.put_slots.Goals as goal

pub loop-k-preserved : goal.loop-k-preserved
loop-k-preserved g c =
    let j = g.J.BlockDevice in let p = g.P.DevicePair in
    let inv = c.loop-k.invariant in let e = c.put_slot.ensures in
    let first = c.args.from.now in let start = c.args.pair.now in (
      (λ h. e.from_honest.0 (inv.0.0 h), λ h. inv.0.1 (e.from_honest.1 h)),
      λ h. e.from (inv.0.0 h) ∙ inv.1 h,
      (λ h. e.honest.0 (inv.2.0 h), λ h. inv.2.1 (e.honest.1 h)),
      λ h. writes_then p start c.loop-k.pair c.put_slot.new.pair (inv.3 h) (e.writes (inv.2.0 h)),
      λ h.
          let was = inv.4 h in
          let one = c.in_ok-put_slot.ensures.added (inv.2.0 h) in (
            was.0 ++ one.0 ∷ [],
            one.1 ∙ ap (λ (b : Blocks). b ++ one.0 ∷ []) was.1 ∙ append_assoc (p.journal start) was.0 (one.0 ∷ []),
            λ jh. newest_step (blocks_of c.args.slots.now) (drop c.args.front (j.shown first)) c.args.homes.now
                c.loop-k.k (slice_index c.args.homes.now c.loop-k.k) was.0 one.0 refl (was.2 jh)
                (subst (λ (b : Blocks). IsNewest (blocks_of c.args.slots.now) (drop c.args.front b)
                (slice_index c.args.homes.now c.loop-k.k) one.0)
                (inv.1 jh) (one.2 (inv.0.0 jh))),
          ),
      inv.5,
      inv.6,
    )
