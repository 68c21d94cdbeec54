-- A slot is read.
use Rattle.std.proofs.Common.{refl}
use Rattle.logged_pair.proofs.Keeping.{still_none}
use Rattle.logged_pair.proofs.Stills.{log_stands, stays_of}
use Rattle.logged_pair.proofs.pair.LoggedPair.read_slot.Goals as goal

pub returns-then-at-behind_blocks-clause-still : goal.returns-then-at-behind_blocks-clause-still
returns-then-at-behind_blocks-clause-still g c = λ h. still_none c.args.self.now

pub invariant_of-self : goal.invariant_of-self
invariant_of-self g c =
    let d = c.args.self.now in let e = c.read_behind.new.self in
    record {
      standing = λ h2.
          let h = c.read_behind.ensures.honest.1 h2 in
          log_stands d.deciding d.kept d.slots.homes.items d.log e (stays_of (c.read_behind.ensures.still h))
          (d.standing h);
    }

pub returns-clause-still : goal.returns-clause-still
returns-clause-still g c = λ h. record {
  slots = record { deciding = refl; clearing = c.read_behind.ensures.log.clearing; kept = refl; homes = refl };
  log = stays_of (c.read_behind.ensures.still h);
}
