-- The goals of `PageFile::free_pages` that are proved by hand.
use Rattle.std.proofs.Common.{◌≡◌, ◌⊎◌, ℕ, arith, inl, inr, ⊎_elim}
use Rattle.page_file.specs.Breaks.{a_sound_chain_breaks_nowhere}
use Rattle.page_file.specs.Fault.{IsOfDevice}
use Rattle.page_file.specs.File.{blocks_of, header_of}
use Rattle.page_file.specs.Pages.{BreaksAt}
use Rattle.page_file.specs.declared.fault.Fault.TheVariants as fault
use Rattle.page_file.proofs.Results.{is_handed_on}
use Rattle.page_file.proofs.Walk.{breaks_here, not_walked, walked_all, walked_on}
use Rattle.page_file.specs.Laws.{the_gate_is_kept_in_turn}
use Rattle.page_file.proofs.file.PageFile.free_pages.Goals as goal

pub loop-left-init : goal.loop-left-init
loop-left-init g c = not_walked c.args.self.now _ c.new-found.ensures.items

pub loop-left-preserved : goal.loop-left-preserved
loop-left-preserved g c =
    walked_on c.loop-left.invariant c.read_link.new.self c.in_ok-link.link _
    (omega (arith, c.loop-left-test.true)) c.read_link.ensures.gate c.read_link.ensures.map
    c.read_link.ensures.header c.read_link.ensures.blocks
    c.in_ok-link.ensures.cause.ok c.in_ok-link.ensures.there c.in_ok-link.ensures.link
    c.in_ok-push.ensures.items

pub returns-clause-pages : goal.returns-clause-pages
returns-clause-pages g c = λ h. (walked_all c.loop-left.invariant (omega (arith, c.loop-left-test.false)) h).0

pub returns-clause-sound : goal.returns-clause-sound
returns-clause-sound g c =
    λ h. record {
      honest = h;
      free = (walked_all c.loop-left.invariant (omega (arith, c.loop-left-test.false)) h).1;
    }

pub returns-in_err-link-clause-faults : goal.returns-in_err-link-clause-faults
returns-in_err-link-clause-faults g c = λ map.
    let here = c.loop-left.invariant in let f = c.in_err-link.field-0.0 in
    is_handed_on c.from_residual.result f IsOfDevice c.from_residual.ensures.1
    (⊎_elim (λ (device : IsOfDevice f). device)
    (λ broken. absurd (a_sound_chain_breaks_nowhere _ _ _ map.free
    (breaks_here here map.honest (omega (arith, c.loop-left-test.true)) broken.1)))
    (c.in_err-link.ensures.damaged (here.gate.honest.0 map.honest)))

pub returns-in_err-link-clause-damaged : goal.returns-in_err-link-clause-damaged
returns-in_err-link-clause-damaged g c = λ h.
    let here = c.loop-left.invariant in let f = c.in_err-link.field-0.0 in let file = c.args.self.now in
    is_handed_on c.from_residual.result f
    (λ x. IsOfDevice x ⊎ ((n : ℕ) × (x ≡ fault.Damaged n) × BreaksAt (blocks_of file) (header_of file) n))
    c.from_residual.ensures.1
    (⊎_elim (λ (device : IsOfDevice f). inl device)
    (λ broken. inr (_, broken.0, breaks_here here h (omega (arith, c.loop-left-test.true)) broken.1))
    (c.in_err-link.ensures.damaged (here.gate.honest.0 h)))

pub returns-in_err-push-clause-gate : goal.returns-in_err-push-clause-gate
returns-in_err-push-clause-gate g c =
    the_gate_is_kept_in_turn c.args.self.now c.loop-left.self c.read_link.new.self c.loop-left.invariant.gate
    c.read_link.ensures.gate
