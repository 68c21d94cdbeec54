-- Memory for the region is taken.
use Rattle.std.proofs.Common.{refl, subst}
use Rattle.logged_pair.proofs.Stills.{log_same, log_stands}
use Rattle.logged_pair.proofs.pair.LoggedPair.reserve_region.Goals as goal

pub invariant_of-self : goal.invariant_of-self
invariant_of-self g c =
    let d = c.args.self.now in let e = c.reserve.new.self in
    record {
      standing = λ h2.
          log_stands d.deciding d.kept d.slots.homes.items d.log e
          (log_same d.log e c.reserve.ensures.pair c.reserve.ensures.homes c.reserve.ensures.clearing)
          (d.standing (subst g.P.DevicePair.honest c.reserve.ensures.pair h2));
    }

pub returns-clause-still : goal.returns-clause-still
returns-clause-still g c =
    let d = c.args.self.now in let e = c.reserve.new.self in
    record {
      slots = record { deciding = refl; clearing = c.reserve.ensures.clearing; kept = refl; homes = refl };
      log = log_same d.log e c.reserve.ensures.pair c.reserve.ensures.homes c.reserve.ensures.clearing;
    }
