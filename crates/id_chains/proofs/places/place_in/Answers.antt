-- The goals of `place_in` that are proved by hand.
use Rattle.std.proofs.Common.{◌≡◌, ◌⊎◌, ℕ, None, inr, subst, arith}
use Rattle.page_file.specs.Fault.{IsOfDevice}
use Rattle.page_file.specs.declared.fault.Fault.TheVariants as fault
use Rattle.page_cache.specs.Cache.{given}
use Rattle.page_cache.specs.Calls.{asks_and_refuses, asks_in_turn, no_call_asks}
use Rattle.node_page.proofs.DamageLemmas.{damaged_read}
use Rattle.node_page.proofs.NodeLemmas.{at_error}
use Rattle.id_chains.specs.Pages.{IsFoundAt}
use Rattle.id_chains.specs.Walks.{MeetsAlong}
use Rattle.id_chains.proofs.MeetLemmas.{meets_here}
use Rattle.id_chains.proofs.PlaceLemmas.{begins_here, found_place, goes_past, named_before, not_ended}
use Rattle.id_chains.proofs.PlaceLemmas.{not_so_long, searches, there_now}
use Rattle.id_chains.proofs.places.place_in.Goals as goal

pub loop-walked-init : goal.loop-walked-init
loop-walked-init g c =
    searches g.row.D c.args.id c.args.directory c.args.first c.args.cache.now (no_call_asks c.args.cache.now)

pub returns-then-number-eq0-clause-there : goal.returns-then-number-eq0-clause-there
returns-then-number-eq0-clause-there g c =
    λ h chain stands short has. absurd
    (not_ended c.loop-walked.invariant h chain stands has c.if-number-eq0.true)

pub returns-then-number-eq0-clause-damage : goal.returns-then-number-eq0-clause-damage
returns-then-number-eq0-clause-damage g c =
    λ h n (damaged : fault.Damaged c.loop-walked.before ≡ fault.Damaged n).
    let is : c.loop-walked.before ≡ n = cc in
    subst (λ (k : ℕ). (k ≡ c.args.directory) ⊎ MeetsAlong g.row.D (given c.args.cache.now) c.args.first k) is
    (c.loop-walked.invariant.met h)

pub returns-in_err-found-clause-there : goal.returns-in_err-found-clause-there
returns-in_err-found-clause-there g c = λ h chain stands short has.
    let so_far = c.loop-walked.invariant in
    let some = c.if-number-eq0.false in
    at_error c.from_residual.result c.in_err-found.field-0.0 IsOfDevice c.from_residual.ensures.1
    (c.in_err-found.ensures.there (so_far.asks.gate.honest.0 h)
    (begins_here so_far some h chain stands).content (there_now so_far some h chain stands))

pub returns-in_err-found-clause-damage : goal.returns-in_err-found-clause-damage
returns-in_err-found-clause-damage g c = λ h.
    let so_far = c.loop-walked.invariant in
    let m = given c.args.cache.now in
    at_error c.from_residual.result c.in_err-found.field-0.0 _
    c.from_residual.ensures.1
    (λ n damaged. inr
    (meets_here g.row.D m c.args.first c.loop-walked.number n c.if-number-eq0.false (so_far.along h)
    (damaged_read c.in_err-found.field-0.0 c.loop-walked.number n
    (c.in_err-found.ensures.damage (so_far.asks.gate.honest.0 h)) damaged)))

pub returns-in-Some-clause-asks : goal.returns-in-Some-clause-asks
returns-in-Some-clause-asks g c =
    asks_in_turn c.args.cache.now c.loop-walked.cache c.place_at.new.cache None c.loop-walked.invariant.asks
    c.in_ok-found.ensures.asks

pub returns-in-Some-clause-found : goal.returns-in-Some-clause-found
returns-in-Some-clause-found g c = λ h chain stands.
    found_place c.loop-walked.invariant c.in-Some.place c.if-number-eq0.false
    (λ honest content there. subst (IsFoundAt c.args.id content.entries) c.in-Some.is
    (c.in_ok-found.ensures.found honest content there).0) h chain stands

pub returns-in-Some-clause-met : goal.returns-in-Some-clause-met
returns-in-Some-clause-met g c = λ h.
    let so_far = c.loop-walked.invariant in
    let next = c.in_ok-found.next in
    ((next, named_before so_far next h c.in_ok-found.ensures.names), so_far.along h)

pub loop-walked-preserved : goal.loop-walked-preserved
loop-walked-preserved g c =
    goes_past c.loop-walked.invariant c.in_ok-found.found c.in_ok-found.next c.place_at.new.cache
    c.if-number-eq0.false c.in_default.is c.in_ok-found.ensures.asks c.in_ok-found.ensures.found
    c.in_ok-found.ensures.names

pub returns-clause-there : goal.returns-clause-there
returns-clause-there g c = λ h chain stands short has.
    absurd (not_so_long c.loop-walked.invariant h chain stands
    (omega (arith, short, c.loop-walked-test.false, c.next_number-walked-end.ensures)) has)

pub returns-clause-damage : goal.returns-clause-damage
returns-clause-damage g c = λ h n (damaged : fault.Damaged c.loop-walked.before ≡ fault.Damaged n).
    let is : c.loop-walked.before ≡ n = cc in
    subst (λ (k : ℕ). (k ≡ c.args.directory) ⊎ MeetsAlong g.row.D (given c.args.cache.now) c.args.first k) is
    (c.loop-walked.invariant.met h)

pub returns-in_err-found-clause-asks : goal.returns-in_err-found-clause-asks
returns-in_err-found-clause-asks g c =
    asks_and_refuses c.args.cache.now c.loop-walked.cache c.place_at.new.cache c.in_err-found.field-0.0
    c.from_residual.result c.from_residual.ensures.1
    c.loop-walked.invariant.asks c.in_err-found.ensures.asks
