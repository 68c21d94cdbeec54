-- What is read of the first two blocks says it.
use Rattle.std.proofs.Common.{length, ap, arith}
use Rattle.logged_pair.specs.Standing.{pair_of, shown_of, IsHonest, IsStill}
use Rattle.logged_pair.proofs.Calling.{few_refused, still_then}
use Rattle.logged_pair.proofs.Keeping.{shown_still}
use Rattle.logged_pair.proofs.pair.LoggedPair.is_taken.Given as given
use Rattle.logged_pair.proofs.pair.LoggedPair.is_taken.Goals as goal
use Rattle.logged_pair.proofs.pair.LoggedPair.is_taken.Goals.{After-read_where_there-2}

-- two reads
still_so : (g : given.Over) (c : After-read_where_there-2 g) → IsHonest c.args.self.now
    → IsStill c.args.self.now c.read_where_there-2.new.self
still_so g c h =
    still_then c.args.self.now c.read_where_there.new.self c.read_where_there-2.new.self
    (λ t a b le left. g.met.P.DevicePair.counts_now (pair_of c.args.self.now) t a b h le left)
    (c.read_where_there.ensures.still h)
    (c.read_where_there-2.ensures.still (c.read_where_there.ensures.honest.0 h))

pub returns-in_err-read_where_there-2-clause-still : goal.returns-in_err-read_where_there-2-clause-still
returns-in_err-read_where_there-2-clause-still g c = λ h.
    still_so g (goal.at.returns-in_err-read_where_there-2-clause-still g c).After-read_where_there-2 h

pub returns-then-not-branch-2-clause-still : goal.returns-then-not-branch-2-clause-still
returns-then-not-branch-2-clause-still g c = λ h.
    still_so g (goal.at.returns-then-not-branch-2-clause-still g c).After-read_where_there-2 h

pub returns-clause-still : goal.returns-clause-still
returns-clause-still g c = λ h. still_so g (goal.at.returns-clause-still g c).After-read_where_there-2 h

pub returns-then-not-branch-clause-is : goal.returns-then-not-branch-clause-is
returns-then-not-branch-clause-is g c =
    λ h. few_refused (shown_of c.args.self.now) (c.in_ok-read_where_there.ensures.none h c.if-not-branch.true)

pub returns-then-not-branch-2-clause-is : goal.returns-then-not-branch-2-clause-is
returns-then-not-branch-2-clause-is g c = λ h.
    let d = c.args.self.now in let e = c.read_where_there.new.self in
    let same = shown_still d e (c.read_where_there.ensures.still h) in
    few_refused (shown_of d)
    (omega (
      arith,
      ap length same,
      c.in_ok-read_where_there-2.ensures.none (c.read_where_there.ensures.honest.0 h)
          c.if-not-branch-2.true,
    ))
