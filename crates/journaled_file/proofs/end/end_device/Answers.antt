-- The base that is read without its journal.
use Rattle.std.proofs.Common.{subst, sym}
use Rattle.std.specs.Prelude.{◌↔◌, IfSome}
use Rattle.block_device.specs.Device.{BeginsOne}
use Rattle.journaled_device.specs.Journaled.{inner_of}
use Rattle.logged_pair.specs.Standing.{commits_of, IsHonest}
use Rattle.marked_pair.specs.Mark.{unmarked}
use Rattle.journaled_file.specs.EndingLaws.{shut_shown}
use Rattle.journaled_file.proofs.end.end_device.Goals as goal

pub returns-then-branch-clause-home : goal.returns-then-branch-clause-home
returns-then-branch-clause-home g c = λ h.
    let p = g.P.DevicePair in let d = c.args.device in
    let begins = subst (λ (o : _). IfSome o (λ parts. IsHonest (inner_of d) → BeginsOne (commits_of (inner_of d))
    (unmarked (p.base parts.0)))) c.in-Some.is c.in_ok-pair.ensures.begins h in
    let honest = subst (λ (o : _). IfSome o (λ parts. IsHonest (inner_of d) ↔ p.honest parts.0)) c.in-Some.is
    c.in_ok-pair.ensures.honest in
    let done = c.in_ok-end_session.ensures in
    subst (BeginsOne (commits_of (inner_of d)))
    (sym (shut_shown (p.base c.in-Some.pair) (p.base c.end_session.new.pair)
    (λ marked. done.shut (honest.0 h) marked c.if-branch.true) (done.plain (honest.0 h)))) begins
