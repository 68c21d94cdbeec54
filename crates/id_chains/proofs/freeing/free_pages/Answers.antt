-- The goals of `free_pages` that are proved by hand.
use Rattle.std.proofs.Common.{◌≡◌, ◌<◌, ◌⊎◌, ℕ, false, arith, inl, inr, subst, sym, ⊎_elim}
use Rattle.page_file.specs.Fault.{IsOfDevice}
use Rattle.page_file.specs.declared.fault.Fault.TheVariants as fault
use Rattle.page_cache.specs.Cache.{IsLive, IsPageMap, given, next_of, pages, touched_of}
use Rattle.node_page.proofs.DamageLemmas.{damaged_read}
use Rattle.node_page.proofs.NodeLemmas.{at_error}
use Rattle.id_chains.specs.Table.{ChainStands, chain_at}
use Rattle.id_chains.specs.Walks.{MeetsAlong, NamesNoMore}
use Rattle.id_chains.proofs.FreeLemmas.{all_are_freed, all_begins, chain_left, chain_once, chain_short_now}
use Rattle.id_chains.proofs.FreeLemmas.{frees_all_on}
use Rattle.id_words.proofs.WriteLemmas.{freed_refused, not_both, untouched_refused}
use Rattle.id_chains.proofs.MeetLemmas.{meets_so}
use Rattle.page_cache.specs.Calls.{changes_and_refuses}
use Rattle.id_chains.proofs.freeing.free_pages.Goals as goal

pub loop-class-init : goal.loop-class-init
loop-class-init g c =
    all_begins g.row.D c.args.directory c.args.cache.now c.free.new.self c.args.bytes.now
    c.in_ok-free.ensures.changes c.in_ok-free.ensures.next c.in_ok-free.ensures.grows
    (λ map live. c.in_ok-free.ensures.freed map.honest live)
    (λ map live. c.in_ok-free.ensures.others map.honest live) c.in_ok-free.ensures.sound
    c.in_ok-free.ensures.given_others
    c.in_ok-free.ensures.touched

pub returns-in_err-free_chain-clause-sound : goal.returns-in_err-free_chain-clause-sound
returns-in_err-free_chain-clause-sound g c = λ map t at stands there.
    let so_far = c.loop-class.invariant in
    let small : c.loop-class.class < 1000 = omega (arith, c.loop-class-test.true) in
    let chain = chain_at t c.loop-class.class in
    let begins =
    subst (λ n. ChainStands g.row.D (pages c.loop-class.cache) n chain) (sym c.link_of.ensures)
    (chain_left so_far small map t at stands there) in
    c.in_err-free_chain.ensures.sound (so_far.left map t at stands there).map chain begins
    (chain_once so_far small t stands)

pub returns-in_err-free_chain-clause-faults : goal.returns-in_err-free_chain-clause-faults
returns-in_err-free_chain-clause-faults g c = λ map t at stands there.
    let so_far = c.loop-class.invariant in
    let small : c.loop-class.class < 1000 = omega (arith, c.loop-class-test.true) in
    let chain = chain_at t c.loop-class.class in
    let begins =
    subst (λ n. ChainStands g.row.D (pages c.loop-class.cache) n chain) (sym c.link_of.ensures)
    (chain_left so_far small map t at stands there) in
    at_error c.from_residual-in_err-free_chain.result c.in_err-free_chain.field-0.0 IsOfDevice
    c.from_residual-in_err-free_chain.ensures.1
    (c.in_err-free_chain.ensures.faults (so_far.left map t at stands there).map chain begins
    (chain_once so_far small t stands) (chain_short_now so_far small t stands))

pub loop-class-preserved : goal.loop-class-preserved
loop-class-preserved g c =
    let small : c.loop-class.class < 1000 = omega (arith, c.loop-class-test.true) in
    frees_all_on c.loop-class.invariant small c.link_of.result c.free_chain.new.cache c.link_of.ensures
    c.in_ok-free_chain.ensures.changes c.in_ok-free_chain.ensures.next c.in_ok-free_chain.ensures.grows
    c.in_ok-free_chain.ensures.sound c.in_ok-free_chain.ensures.freed c.in_ok-free_chain.ensures.kept

pub returns-clause-sound : goal.returns-clause-sound
returns-clause-sound g c = λ map t at stands there. (c.loop-class.invariant.left map t at stands there).map

pub returns-clause-freed : goal.returns-clause-freed
returns-clause-freed g c = λ map t at stands there.
    let all : c.loop-class.class ≡ 1000 = omega (arith, c.loop-class-test.false) in
    all_are_freed g.row.D c.args.directory c.args.cache.now c.loop-class.cache c.args.bytes.now
    c.loop-class.class all c.loop-class.invariant map t at stands there

pub returns-in_err-free_chain-clause-changes : goal.returns-in_err-free_chain-clause-changes
returns-in_err-free_chain-clause-changes g c =
    changes_and_refuses c.args.cache.now c.loop-class.cache c.free_chain.new.cache
    c.in_err-free_chain.field-0.0 c.from_residual-in_err-free_chain.result
    c.from_residual-in_err-free_chain.ensures.1
    c.loop-class.invariant.changes c.in_err-free_chain.ensures.changes

pub returns-in_err-free-clause-damage : goal.returns-in_err-free-clause-damage
returns-in_err-free-clause-damage g c = λ h either.
    let old = c.args.cache.now in
    let new = c.free.new.self in
    let f = c.in_err-free.field-0.0 in
    let d = c.args.directory in
    let refused : IsOfDevice f ⊎ (f ≡ fault.Damaged d) = ⊎_elim
    (λ (map : IsPageMap old × IsLive old d).
    freed_refused d (next_of old) f (c.in_err-free.ensures.faults map.0 map.1)
    (λ out. let is = (c.in_err-free.ensures.outside out).0 in cc))
    (λ (none : touched_of new ≡ false).
    untouched_refused d (next_of old) f (λ low below. c.in_err-free.ensures.untouched low below none)
    (λ out. let is = (c.in_err-free.ensures.outside out).0 in cc))
    either in
    at_error c.from_residual.result f _
    c.from_residual.ensures.1
    (λ n damaged. inl (damaged_read f d n refused damaged))

pub returns-in_err-free_chain-clause-damage : goal.returns-in_err-free_chain-clause-damage
returns-in_err-free_chain-clause-damage g c = λ h either.
    let old = c.args.cache.now in
    let now = c.loop-class.cache in
    let new = c.free_chain.new.cache in
    let so_far = c.loop-class.invariant in
    let kept : IsPageMap now × NamesNoMore g.row.D (given old) (given now) = ⊎_elim
    (λ (map : IsPageMap old × IsLive old c.args.directory). so_far.kept map.0 map.1)
    (λ (none : touched_of new ≡ false). absurd (not_both (touched_of new)
    (c.in_err-free_chain.ensures.changes.touched so_far.touched) none))
    either in
    at_error c.from_residual-in_err-free_chain.result c.in_err-free_chain.field-0.0 _
    c.from_residual-in_err-free_chain.ensures.1
    (λ n damaged. inr (
      c.loop-class.class,
      omega (arith, c.loop-class-test.true),
      subst (λ (first : ℕ). MeetsAlong g.row.D (given old) first n) c.link_of.ensures
          (meets_so g.row.D (given old) (given now) c.link_of.result n kept.1
          (c.in_err-free_chain.ensures.damage kept.0 n damaged)),
    ))
