-- The goals of `PageFile::shut` that are proved by hand.
use Rattle.std.proofs.Common.{◌≡◌, refl, rules, sym, subst}
use Rattle.page_file.specs.declared.gate.Gate.TheVariants.{Shut}
use Rattle.page_file.specs.Layout.{IsShutGate}
use Rattle.page_file.specs.Frames.{map_kept_aside, shut_lies}
use Rattle.page_file.specs.Reading.{shut_gate}
use Rattle.page_file.proofs.Moments.{aside_while_closed}
use Rattle.page_file.proofs.file.PageFile.shut.Goals as goal

pub returns-in_err-write_gate-clause-map : goal.returns-in_err-write_gate-clause-map
returns-in_err-write_gate-clause-map g c =
    map_kept_aside _ _ refl c.write_gate.ensures.honest c.write_gate.ensures.same

pub invariant_of-self-2-clause-shut_reads : goal.invariant_of-self-2-clause-shut_reads
invariant_of-self-2-clause-shut_reads g c =
    λ h2 _. subst IsShutGate (sym (c.in_ok-write_gate.ensures.gate (c.write_gate.ensures.honest.1 h2)))
    shut_gate

pub returns-clause-map : goal.returns-clause-map
returns-clause-map g c = map_kept_aside _ _ refl c.write_gate.ensures.honest c.write_gate.ensures.same

pub returns-then-eq-clause-lies : goal.returns-then-eq-clause-lies
returns-then-eq-clause-lies g c = λ h. let shut : c.args.self.now.gate ≡ Shut = search rules in
    shut_lies _ h shut

pub returns-clause-lies : goal.returns-clause-lies
returns-clause-lies g c = λ h. shut_lies _ (c.write_gate.ensures.honest.0 h) refl

pub returns-in_err-write_gate-clause-stops : goal.returns-in_err-write_gate-clause-stops
returns-in_err-write_gate-clause-stops g c =
    λ h. aside_while_closed c.args.self.now c.write_gate.new.device h c.requires
    (c.write_gate.ensures.stops h)

pub returns-clause-stops : goal.returns-clause-stops
returns-clause-stops g c =
    λ h. aside_while_closed c.args.self.now c.write_gate.new.device h c.requires
    (c.write_gate.ensures.stops h)
