-- The goals of `get` that are proved by hand.
use Rattle.std.proofs.Common.{None, ◌≡◌, ◌≤◌, ◌∙◌, inl, subst, sym, arith}
use Rattle.page_file.specs.Fault.{IsOfDevice}
use Rattle.page_file.specs.declared.fault.Fault.TheVariants as fault
use Rattle.page_cache.specs.Cache.{given, next_of}
use Rattle.page_cache.specs.Calls.{asks_and_refuses, asks_in_turn}
use Rattle.node_page.proofs.DamageLemmas.{damaged_read}
use Rattle.node_page.proofs.NodeLemmas.{at_error}
use Rattle.id_chains.specs.Table.{class_of}
use Rattle.id_chains.specs.Walks.{MeetsInChain}
use Rattle.id_chains.proofs.GetLemmas.{begins, ends_with, ends_without, goes_on, here_is, meets}
use Rattle.id_chains.proofs.GetLemmas.{never_as_long, there_now}
use Rattle.id_chains.proofs.search.get.Goals as goal

pub loop-walked-init : goal.loop-walked-init
loop-walked-init g c =
    begins g.row.D c.args.id c.args.directory c.class_of.result c.in_ok-number.number c.args.cache.now
    c.read_link.new.cache c.in_ok-number.ensures.asks c.class_of.ensures.value c.in_ok-number.ensures.link
    c.in_ok-number.ensures.names

pub returns-then-number-eq0-clause-found : goal.returns-then-number-eq0-clause-found
returns-then-number-eq0-clause-found g c =
    λ h t at stands. ends_without c.loop-walked.invariant c.if-number-eq0.true h t at stands

pub returns-in_err-kept-clause-stands : goal.returns-in_err-kept-clause-stands
returns-in_err-kept-clause-stands g c = λ h t at stands.
    let so_far = c.loop-walked.invariant in
    at_error c.from_residual-in_err-kept.result c.in_err-kept.field-0.0 IsOfDevice
    c.from_residual-in_err-kept.ensures.1
    (c.in_err-kept.ensures.there (so_far.asks.gate.honest.0 h)
    (here_is so_far c.if-number-eq0.false h t at stands).content
    (there_now so_far c.if-number-eq0.false h t at stands))

pub returns-in_err-kept-clause-asks : goal.returns-in_err-kept-clause-asks
returns-in_err-kept-clause-asks g c =
    asks_and_refuses c.args.cache.now c.loop-walked.cache c.look.new.cache c.in_err-kept.field-0.0
    c.from_residual-in_err-kept.result c.from_residual-in_err-kept.ensures.1
    c.loop-walked.invariant.asks c.in_err-kept.ensures.asks

pub returns-then-is_some-clause-asks : goal.returns-then-is_some-clause-asks
returns-then-is_some-clause-asks g c =
    asks_in_turn c.args.cache.now c.loop-walked.cache c.look.new.cache None c.loop-walked.invariant.asks
    c.in_ok-kept.ensures.asks

pub returns-then-is_some-clause-found : goal.returns-then-is_some-clause-found
returns-then-is_some-clause-found g c = λ h t at stands.
    ends_with c.loop-walked.invariant c.in_ok-kept.kept c.if-number-eq0.false
    (sym c.is_some.ensures ∙ c.if-is_some.true)
    (λ honest content is. (c.in_ok-kept.ensures.found honest content is).0) h t at stands

pub loop-walked-preserved : goal.loop-walked-preserved
loop-walked-preserved g c =
    goes_on c.loop-walked.invariant c.in_ok-kept.kept c.in_ok-kept.next c.look.new.cache
    c.if-number-eq0.false (sym c.is_some.ensures ∙ c.if-is_some.false)
    c.in_ok-kept.ensures.asks c.in_ok-kept.ensures.found c.in_ok-kept.ensures.names

pub returns-clause-stands : goal.returns-clause-stands
returns-clause-stands g c = λ h t at stands.
    let many : next_of c.args.cache.now ≤ c.loop-walked.walked =
    omega (
      arith,
      c.loop-walked-test.false,
      c.next_number-walked-end.ensures,
      c.read_link.ensures.asks.map.next,
    ) in
    absurd (never_as_long c.loop-walked.invariant many h t at stands)

pub returns-in_err-number-clause-damage : goal.returns-in_err-number-clause-damage
returns-in_err-number-clause-damage g c = λ h.
    at_error c.from_residual.result c.in_err-number.field-0.0 _
    c.from_residual.ensures.1
    (λ n damaged. inl
    (damaged_read c.in_err-number.field-0.0 c.args.directory n (c.in_err-number.ensures.damage h) damaged))

pub returns-in_err-kept-clause-damage : goal.returns-in_err-kept-clause-damage
returns-in_err-kept-clause-damage g c = λ h.
    let so_far = c.loop-walked.invariant in
    at_error c.from_residual-in_err-kept.result c.in_err-kept.field-0.0 _
    c.from_residual-in_err-kept.ensures.1
    (λ n damaged. meets so_far c.if-number-eq0.false h n
    (damaged_read c.in_err-kept.field-0.0 c.loop-walked.number n
    (c.in_err-kept.ensures.damage (so_far.asks.gate.honest.0 h)) damaged))

pub returns-clause-damage : goal.returns-clause-damage
returns-clause-damage g c = λ h n (damaged : fault.Damaged c.loop-walked.before ≡ fault.Damaged n).
    let is : c.loop-walked.before ≡ n = cc in
    subst (MeetsInChain g.row.D (given c.args.cache.now) c.args.directory (class_of c.args.id)) is
    (c.loop-walked.invariant.met h)
