-- The goals of `add_chain` that are proved by hand: a bucket more, and one that cannot come next.
use Rattle.std.proofs.Common.{◌≡◌, ◌∙◌, ◌<◌, ◌++◌, ◌∷◌, [], ℕ, None, true, nat_lt, ap, arith, refl, sym}
use Rattle.std.proofs.lemmas.Bool.Decides.{nat_tests}
use Rattle.page_file.specs.Fault.{IsOfDevice}
use Rattle.page_file.specs.declared.fault.Fault.TheVariants as fault
use Rattle.page_cache.specs.Cache.{given, next_of}
use Rattle.page_cache.specs.Calls.{asks_and_refuses, asks_in_turn, no_call_asks}
use Rattle.page_cache.specs.Laws.{numbers_are_few}
use Rattle.node_page.proofs.DamageLemmas.{damaged_read}
use Rattle.node_page.proofs.NodeLemmas.{at_error}
use Rattle.id_chains.specs.Table.{bucket_in}
use Rattle.id_chains.proofs.CheckLemmas.{never_so_long, next_is, not_ended, prefix_all, prefix_more}
use Rattle.id_chains.proofs.CheckLemmas.{prefix_none}
use Rattle.id_chains.proofs.CheckedLemmas.{adds_on, was_given_out}
use Rattle.id_chains.proofs.DamageLemmas.{comes_here, leads_on}
use Rattle.id_chains.proofs.check.add_chain.Goals as goal

must_be : (walked : ℕ) → 0 < walked → nat_lt 0 walked ≡ true
must_be walked some = grind (arith, nat_tests)

is_later : (walked : ℕ) → nat_lt 0 walked ≡ true → 0 < walked
is_later walked later = grind (arith, nat_tests)

pub loop-walked-init : goal.loop-walked-init
loop-walked-init g c = record {
  asks = no_call_asks c.args.cache.now;
  found = λ h. prefix_none g.row.D (given c.args.cache.now) c.args.class c.args.first c.args.pairs.now.items
      c.args.visits.now.pages.items c.new-seen.result c.new-seen.ensures.empty;
  leads = λ h. ([], refl);
  numbers = refl;
  looks = omega arith;
}

pub returns-then-number-eq0-clause-found : goal.returns-then-number-eq0-clause-found
returns-then-number-eq0-clause-found g c = λ h.
    let l = c.loop-walked in
    prefix_all g.row.D (given c.args.cache.now) c.args.class c.args.first c.args.pairs.now.items
    c.args.visits.now.pages.items l.walked l.number l.pairs.items l.visits.pages.items l.seen
    (l.invariant.found h) c.if-number-eq0.true

pub loop-walked-preserved : goal.loop-walked-preserved
loop-walked-preserved g c =
    let l = c.loop-walked in
    let inv = l.invariant in
    let old = c.args.cache.now in
    let added = c.in_ok-number.ensures in
    let there =
    adds_on g.row.D (given l.cache) (given old) c.args.class l.number c.in_ok-number.number
    (nat_lt 0 l.walked) l.pairs.items c.add_bucket.new.pairs.items l.visits.pages.items
    c.add_bucket.new.visits.pages.items l.seen c.add_bucket.new.seen in
    record {
      asks = asks_in_turn old l.cache c.add_bucket.new.cache None inv.asks added.asks;
      found = λ h. prefix_more g.row.D (given old) c.args.class c.args.first c.args.pairs.now.items
          c.args.visits.now.pages.items l.walked l.number l.pairs.items l.visits.pages.items l.seen
          (inv.found h)
          c.in_ok-number.number (nat_lt 0 l.walked) c.add_bucket.new.pairs.items
          c.add_bucket.new.visits.pages.items c.add_bucket.new.seen (must_be l.walked)
          (there (λ n. sym (inv.asks.map.given_stay h n)) (added.found (inv.asks.gate.honest.0 h)));
      leads = λ h.
          let so_far = inv.leads h in
          let a = there (λ n. sym (inv.asks.map.given_stay h n)) (added.found (inv.asks.gate.honest.0 h)) in
          let next = c.in_ok-number.number in (
            so_far.0 ++ next ∷ [],
            leads_on g.row.D (given old) c.args.first so_far.0 l.number next
                (record { next = next; entries = a.entries }) so_far.1 a.there refl,
          );
      numbers = added.numbers ∙ inv.numbers;
      looks = omega (arith, inv.looks, added.looks);
    }

pub returns-in_err-number-clause-asks : goal.returns-in_err-number-clause-asks
returns-in_err-number-clause-asks g c =
    asks_and_refuses c.args.cache.now c.loop-walked.cache c.add_bucket.new.cache c.in_err-number.field-0.0
    c.from_residual.result c.from_residual.ensures.1 c.loop-walked.invariant.asks c.in_err-number.ensures.asks

pub returns-in_err-number-clause-stands : goal.returns-in_err-number-clause-stands
returns-in_err-number-clause-stands g c = λ h chain stands filled once.
    let l = c.loop-walked in
    let inv = l.invariant in
    let next =
    next_is g.row.D (given c.args.cache.now) c.args.class c.args.first c.args.pairs.now.items
    c.args.visits.now.pages.items l.walked l.number l.pairs.items l.visits.pages.items l.seen
    (inv.found h)
    (nat_lt 0 l.walked) chain (is_later l.walked) c.if-number-eq0.false stands filled once in
    at_error c.from_residual.result c.in_err-number.field-0.0 IsOfDevice c.from_residual.ensures.1
    (c.in_err-number.ensures.stands (inv.asks.gate.honest.0 h) next.content
    (ap (bucket_in g.row.D) (inv.asks.map.given_stay h l.number) ∙ next.there) next.follows)

pub returns-clause-stands : goal.returns-clause-stands
returns-clause-stands g c = λ h chain stands filled once.
    let l = c.loop-walked in
    absurd (never_so_long g.row.D (given c.args.cache.now) c.args.class c.args.first c.args.pairs.now.items
    c.args.visits.now.pages.items l.walked l.number l.pairs.items l.visits.pages.items l.seen
    (l.invariant.found h)
    (next_of c.args.cache.now) chain
    (omega (arith, c.loop-walked-test.false, c.next_number-walked-end.ensures))
    (omega (arith, numbers_are_few c.args.cache.now)) (was_given_out c.args.cache.now) stands once)

pub returns-in_err-number-clause-damage : goal.returns-in_err-number-clause-damage
returns-in_err-number-clause-damage g c = λ h.
    let l = c.loop-walked in
    let m = given c.args.cache.now in
    at_error c.from_residual.result c.in_err-number.field-0.0
    _ c.from_residual.ensures.1
    (λ n damaged. comes_here g.row.D m c.args.first l.number n c.if-number-eq0.false (l.invariant.leads h)
    (damaged_read c.in_err-number.field-0.0 l.number n
    (c.in_err-number.ensures.damage (l.invariant.asks.gate.honest.0 h)) damaged))

pub returns-clause-damage : goal.returns-clause-damage
returns-clause-damage g c = λ h n (damaged : fault.Damaged c.loop-walked.number ≡ fault.Damaged n).
    let l = c.loop-walked in
    let m = given c.args.cache.now in
    let some =
    not_ended g.row.D m c.args.class c.args.first c.args.pairs.now.items c.args.visits.now.pages.items
    l.walked l.number l.pairs.items l.visits.pages.items l.seen (l.invariant.found h)
    (next_of c.args.cache.now) (omega (arith, c.loop-walked-test.false, c.next_number-walked-end.ensures))
    (omega (arith, numbers_are_few c.args.cache.now)) (was_given_out c.args.cache.now)
    l.visits.marked.once in
    comes_here g.row.D m c.args.first l.number n some (l.invariant.leads h) (cc)
