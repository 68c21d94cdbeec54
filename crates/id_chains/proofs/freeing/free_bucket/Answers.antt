-- The goals of `free_bucket` that are proved by hand: the page is read before it is freed.
use Rattle.std.proofs.Common.{IsSome, None, subst, sym}
use Rattle.page_cache.specs.Cache.{given, next_of}
use Rattle.page_cache.specs.Calls.{asks_changes, changes_and_refuses}
use Rattle.node_page.proofs.NodeLemmas.{at_error}
use Rattle.id_words.proofs.WriteLemmas.{freed_refused}
use Rattle.id_chains.proofs.MeetLemmas.{freed_names_no_more, named_live, no_more_in_turn}
use Rattle.id_chains.proofs.MeetLemmas.{same_names}
use Rattle.id_chains.proofs.freeing.free_bucket.Goals as goal

pub returns-in_err-free-clause-changes : goal.returns-in_err-free-clause-changes
returns-in_err-free-clause-changes g c =
    changes_and_refuses c.args.cache.now c.next_after.new.cache c.free.new.self c.in_err-free.field-0.0
    c.from_residual-in_err-free.result c.from_residual-in_err-free.ensures.1
    (asks_changes c.args.cache.now c.next_after.new.cache None c.in_ok-next.ensures.asks)
    c.in_err-free.ensures.changes

pub returns-in_err-next-clause-damage : goal.returns-in_err-next-clause-damage
returns-in_err-next-clause-damage g c = λ map.
    at_error c.from_residual.result c.in_err-next.field-0.0
    _ c.from_residual.ensures.1
    (c.in_err-next.ensures.damage map.honest)

pub returns-in_err-free-clause-damage : goal.returns-in_err-free-clause-damage
returns-in_err-free-clause-damage g c = λ map.
    let n = c.args.number in
    let asks = c.in_ok-next.ensures.asks in
    let names = c.in_ok-next.ensures.names map.honest in
    let live =
    subst IsSome (sym (asks.map.pages_stay map.honest n))
    (named_live g.row.D c.args.cache.now n c.in_ok-next.next map names) in
    let f = c.in_err-free.field-0.0 in
    at_error c.from_residual-in_err-free.result f _
    c.from_residual-in_err-free.ensures.1
    (freed_refused n (next_of c.next_after.new.cache) f
    (c.in_err-free.ensures.faults (asks.map.sound.0 map) live)
    (λ out. let is = (c.in_err-free.ensures.outside out).0 in cc))

pub returns-clause-kept : goal.returns-clause-kept
returns-clause-kept g c = λ map.
    let D = g.row.D in
    let n = c.args.number in
    let old = c.args.cache.now in
    let mid = c.next_after.new.cache in
    let new = c.free.new.self in
    let asks = c.in_ok-next.ensures.asks in
    let names = c.in_ok-next.ensures.names map.honest in
    let live =
    subst IsSome (sym (asks.map.pages_stay map.honest n)) (named_live D old n c.in_ok-next.next map names) in
    let map_mid = asks.map.sound.0 map in
    let map_new = c.in_ok-free.ensures.sound map_mid live in
    let same = same_names D (given old) (given mid) (λ k. asks.map.given_stay map.honest k) in (
      map_new,
      no_more_in_turn D (given old) (given mid) (given new) same
          (freed_names_no_more D mid new n map_new (c.in_ok-free.ensures.freed map_mid.honest live)
          (c.in_ok-free.ensures.given_others map_mid.honest)),
    )
