-- Block 0 has a slot, which is copied, or none.
use Rattle.std.proofs.Common.{ℕ, Option, subst}
use Rattle.std.specs.Prelude.{IfSome}
use Rattle.committed_log.specs.Committed.{homes_of}
use Rattle.committed_log.specs.Found.{IsSlot}
use Rattle.committed_log.specs.Home.{WritesOnly}
use Rattle.committed_log.proofs.log.CommittedLog.copy_first.Goals as goal

pub returns-in-Some-clause-only : goal.returns-in-Some-clause-only
returns-in-Some-clause-only g c = λ h.
    let d = c.args.self.now in
    let slot : IsSlot (homes_of d) 0 c.in-Some.k =
    subst (λ (r : Option ℕ). IfSome r (λ m. IsSlot (homes_of d) 0 m)) c.in-Some.is c.slot_of.ensures.found in
    subst (λ (i : ℕ). WritesOnly i d c.copy_slot.new.self) slot.home (c.copy_slot.ensures.only h)
