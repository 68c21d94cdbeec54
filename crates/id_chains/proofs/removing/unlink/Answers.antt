-- The goals of `unlink` that are proved by hand.
use Rattle.std.proofs.Common.{◌≡◌, ◌∙◌, ◌⊎◌, ℕ, IsSome, sym, subst}
use Rattle.page_file.specs.Fault.{IsOfDevice}
use Rattle.page_file.specs.declared.fault.Fault.TheVariants as fault
use Rattle.page_cache.specs.Cache.{next_of, pages}
use Rattle.node_page.proofs.NodeLemmas.{at_error, on_ok}
use Rattle.id_chains.specs.Pages.{SetsLink}
use Rattle.id_chains.proofs.BucketLemmas.{if_err, is_there}
use Rattle.id_words.proofs.WriteLemmas.{free_refused, or_first, or_second, stays_live}
use Rattle.id_chains.proofs.removing.unlink.Goals as goal

pub returns-clause-unlinked : goal.returns-clause-unlinked
returns-clause-unlinked g c = λ map live differ links there content only next.
    let d = c.args.directory in
    let first = c.args.first in
    let live_d = is_there (pages c.args.cache.now d) links there in
    let map1 = c.write_link.ensures.sound map live_d in
    let others1 = c.write_link.ensures.others map.honest live_d in
    let live1 = subst IsSome (sym (others1 first (λ e. differ (sym e)))) live in
    let others2 = c.free.ensures.others map1.honest live1 in
    let written = c.in_ok-write_link.ensures.written map.honest links there in
    on_ok c.free.result
    (λ gone. record {
      only = only;
      gone = gone;
      after = written.0;
      there = others2 d differ ∙ written.1;
      link = subst (λ (n : ℕ). SetsLink c.args.class n links written.0) next written.2;
      others = λ k off_first off_d. others2 k off_first ∙ others1 k off_d;
    })
    (c.free.ensures.freed map1.honest live1)

pub returns-in_err-write_link-clause-damage : goal.returns-in_err-write_link-clause-damage
returns-in_err-write_link-clause-damage g c = λ map live live_d.
    let f = c.in_err-write_link.field-0.0 in
    at_error c.from_residual.result f
    (λ e. IsOfDevice e ⊎ ((e ≡ fault.Damaged c.args.first) ⊎ (e ≡ fault.Damaged c.args.directory)))
    c.from_residual.ensures.1
    (or_first f c.args.first c.args.directory (c.in_err-write_link.ensures.damage map.honest))

pub returns-clause-damage : goal.returns-clause-damage
returns-clause-damage g c = λ map live live_d.
    let d = c.args.directory in
    let first = c.args.first in
    let map1 = c.write_link.ensures.sound map live_d in
    let live1 =
    stays_live (pages c.args.cache.now) (pages c.write_link.new.cache) d first
    (c.write_link.ensures.live map.honest live_d) (c.write_link.ensures.others map.honest live_d) live in
    if_err c.free.result (λ f. IsOfDevice f ⊎ (f ≡ fault.Damaged first))
    (λ f. IsOfDevice f ⊎ ((f ≡ fault.Damaged first) ⊎ (f ≡ fault.Damaged d)))
    (λ f either. or_second f first d either)
    (free_refused c.free.result first (next_of c.write_link.new.cache) (c.free.ensures.faults map1 live1)
    (λ out. (c.free.ensures.outside out).0))
