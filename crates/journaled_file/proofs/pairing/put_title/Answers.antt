-- A stop before the title was made left a journal without blocks.
use Rattle.std.proofs.Common.{arith}
use Rattle.journaled_file.proofs.Anew.{begun_on}
use Rattle.titled_pair.specs.Calls.{LeavesItsBase}
use Rattle.journaled_file.proofs.pairing.put_title.Goals as goal

pub returns-clause-anew : goal.returns-clause-anew
returns-clause-anew g c = λ h.
    let p = g.P.DevicePair in
    let w = g.met.P.DevicePair in
    let d = c.args.pair.now in
    begun_on p.base p.journal p.moment p.left_since d c.make_title.new.pair (LeavesItsBase (p.may_leave d))
    (c.make_title.ensures.stops h) c.requires.none
    (w.counts_now d (p.moment d) (p.base d) (p.journal d) h (omega arith) (w.shown_counts d h))
