-- The goals of `free_chain` that are proved by hand.
use Rattle.std.proofs.Common.{◌≡◌, ◌<◌, arith, subst}
use Rattle.page_file.specs.Fault.{IsOfDevice}
use Rattle.page_file.specs.declared.fault.Fault.TheVariants as fault
use Rattle.page_cache.specs.Cache.{given, pages}
use Rattle.page_cache.specs.Calls.{changes_and_refuses, no_call_changes}
use Rattle.page_cache.specs.Laws.{numbers_are_few}
use Rattle.node_page.proofs.DamageLemmas.{damaged_read}
use Rattle.node_page.proofs.NodeLemmas.{at_error}
use Rattle.id_chains.specs.Walks.{MeetsAlong}
use Rattle.id_chains.proofs.BucketLemmas.{page_of_bucket}
use Rattle.id_chains.proofs.FreeLemmas.{all_freed, bucket_left, freeing_begins, freeing_meets, frees_on}
use Rattle.id_chains.proofs.FreeLemmas.{never_so_long, there_left}
use Rattle.id_chains.proofs.freeing.free_chain.Goals as goal

pub loop-freed-init : goal.loop-freed-init
loop-freed-init g c = freeing_begins g.row.D c.args.first c.args.cache.now (no_call_changes c.args.cache.now)

pub returns-then-number-eq0-clause-freed : goal.returns-then-number-eq0-clause-freed
returns-then-number-eq0-clause-freed g c =
    λ map chain stands once. all_freed c.loop-freed.invariant c.if-number-eq0.true map chain stands once

pub loop-freed-preserved : goal.loop-freed-preserved
loop-freed-preserved g c =
    frees_on c.loop-freed.invariant c.in_ok-number.number c.free_bucket.new.cache c.if-number-eq0.false
    c.in_ok-number.ensures.changes c.in_ok-number.ensures.next c.in_ok-number.ensures.grows
    c.in_ok-number.ensures.following c.in_ok-number.ensures.gone c.in_ok-number.ensures.others
    c.in_ok-number.ensures.sound c.in_ok-number.ensures.names c.in_ok-number.ensures.kept

pub returns-clause-faults : goal.returns-clause-faults
returns-clause-faults g c =
    λ map chain stands once short. absurd
    (never_so_long c.loop-freed.invariant
    (omega (arith, c.loop-freed-test.false, c.next_number-freed-end.ensures)) map chain stands once short)

pub returns-in_err-number-clause-sound : goal.returns-in_err-number-clause-sound
returns-in_err-number-clause-sound g c = λ map chain stands once.
    let so_far = c.loop-freed.invariant in
    let some = c.if-number-eq0.false in
    let b = bucket_left so_far some map chain stands once in
    c.in_err-number.ensures.sound (so_far.left map chain stands once).map
    (page_of_bucket g.row.D (pages c.loop-freed.cache c.loop-freed.number) b.content
    (there_left so_far some map chain stands once))

pub returns-in_err-number-clause-faults : goal.returns-in_err-number-clause-faults
returns-in_err-number-clause-faults g c = λ map chain stands once short.
    let so_far = c.loop-freed.invariant in
    let some = c.if-number-eq0.false in
    let b = bucket_left so_far some map chain stands once in
    at_error c.from_residual.result c.in_err-number.field-0.0 IsOfDevice c.from_residual.ensures.1
    (c.in_err-number.ensures.faults (so_far.left map chain stands once).map b.content
    (there_left so_far some map chain stands once) b.low)

pub returns-in_err-number-clause-changes : goal.returns-in_err-number-clause-changes
returns-in_err-number-clause-changes g c =
    changes_and_refuses c.args.cache.now c.loop-freed.cache c.free_bucket.new.cache c.in_err-number.field-0.0
    c.from_residual.result c.from_residual.ensures.1 c.loop-freed.invariant.changes
    c.in_err-number.ensures.changes

pub returns-then-number-eq0-clause-kept : goal.returns-then-number-eq0-clause-kept
returns-then-number-eq0-clause-kept g c = λ map. c.loop-freed.invariant.kept map

pub returns-in_err-number-clause-damage : goal.returns-in_err-number-clause-damage
returns-in_err-number-clause-damage g c = λ map.
    let so_far = c.loop-freed.invariant in
    at_error c.from_residual.result c.in_err-number.field-0.0 _
    c.from_residual.ensures.1
    (λ n damaged. freeing_meets so_far c.if-number-eq0.false map n
    (damaged_read c.in_err-number.field-0.0 c.loop-freed.number n
    (c.in_err-number.ensures.damage (so_far.kept map).0) damaged))

pub returns-clause-damage : goal.returns-clause-damage
returns-clause-damage g c = λ map n (damaged : fault.Damaged c.loop-freed.before ≡ fault.Damaged n).
    let is : c.loop-freed.before ≡ n = cc in
    let some : 0 < c.loop-freed.freed =
    omega (
      arith,
      c.loop-freed-test.false,
      c.next_number-freed-end.ensures,
      numbers_are_few c.args.cache.now,
    ) in
    subst (MeetsAlong g.row.D (given c.args.cache.now) c.args.first) is (c.loop-freed.invariant.met map some)
