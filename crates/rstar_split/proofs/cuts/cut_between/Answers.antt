use Rattle.rstar_split.proofs.CutLaws.{order_key-is}
use Rattle.rstar_split.proofs.cuts.cut_between.Goals as goal

pub returns-clause-key : goal.returns-clause-key
returns-clause-key g c =
    λ items order f b.
    order_key-is g.row.D items order c.args.bound c.args.size c.args.front.now c.args.back.now _ _ _ f b
    c.overlap.ensures.value c.volume.ensures.value c.volume-2.ensures.value
