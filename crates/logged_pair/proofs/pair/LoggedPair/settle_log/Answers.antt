-- A log that is begun anew.
use Rattle.std.proofs.Common.{◌≡◌, ◌∙◌, ◌≤◌, [], ap, arith, length, sym, take}
use Rattle.std.proofs.lemmas.List.{nil_from_length}
use Rattle.committed_log.specs.Committed as regions
use Rattle.committed_log.specs.Home.{IsQuiet}
use Rattle.logged_pair.specs.CommitLaws.{few_seen}
use Rattle.logged_pair.proofs.Advanced.{quiet_stands}
use Rattle.logged_pair.proofs.GivingUp.{bare_shown}
use Rattle.logged_pair.proofs.Keeping.{keeps_seen}
use Rattle.logged_pair.proofs.Stood.{commits_filling}
use Rattle.logged_pair.proofs.pair.LoggedPair.settle_log.Goals as goal

pub invariant_of-self : goal.invariant_of-self
invariant_of-self g c =
    let d = c.args.self.now in let e = c.settle.new.self in
    record {
      standing = λ h2.
          let h = c.settle.ensures.honest.1 h2 in
          let s = d.standing h in
          let clear = s.clear c.requires.clearing in
          let quiet : IsQuiet e = c.settle.ensures.quiet h c.requires.clearing in
          let room : 2 ≤ length (regions.behind_of e) = omega (arith, s.room, c.settle.ensures.room h) in
          quiet_stands d.deciding (regions.clearing_of e) d.kept d.slots.homes.items (regions.seen_of d.log)
          (regions.seen_of e) (regions.behind_of e) (regions.leaves_of e) clear.0 clear.1
          (c.settle.ensures.seen h) s.kept_there s.homes_below room quiet.base quiet.unsaid quiet.there;
    }

pub returns-clause-shown : goal.returns-clause-shown
returns-clause-shown g c = λ h.
    let d = c.args.self.now in let e = c.settle.new.self in let hs = d.slots.homes.items in
    let none : hs ≡ [] = nil_from_length hs ((d.standing h).clear c.requires.clearing).1 in
    bare_shown hs (regions.seen_of e) (regions.behind_of e)
    (few_seen e (g.met.P.DevicePair.few_blocks (regions.pair_of e)).0) none
    ∙ c.settle.ensures.seen h
    ∙ sym (bare_shown hs (regions.seen_of d.log) (regions.behind_of d.log)
    (few_seen d.log (g.met.P.DevicePair.few_blocks (regions.pair_of d.log)).0) none)

pub returns-clause-keeps : goal.returns-clause-keeps
returns-clause-keeps g c = λ h.
    let d = c.args.self.now in let e = c.settle.new.self in
    let s = d.standing h in
    let clear = s.clear c.requires.clearing in
    keeps_seen d _ clear.0 s.kept_there
    (commits_filling d.deciding d.deciding d.kept d.slots.homes.items d.slots.homes.items
    (regions.seen_of d.log) (regions.seen_of e) (regions.behind_of d.log) (regions.behind_of e) clear.0 clear.0
    (ap (take d.kept) (c.settle.ensures.seen h)))
    (c.settle.ensures.stops h c.requires.clearing)
