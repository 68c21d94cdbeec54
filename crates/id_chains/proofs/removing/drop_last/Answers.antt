-- The goals of `drop_last` that are proved by hand: the first page has an object less, or was unlinked.
use Rattle.std.proofs.Common.{◌≡◌, ◌∙◌, ◌⊎◌, ap, inl, inr, subst, sym}
use Rattle.bucket_page.specs.Layout.{bucket_at}
use Rattle.page_file.specs.Fault.{IsOfDevice}
use Rattle.page_file.specs.declared.fault.Fault.TheVariants as fault
use Rattle.page_cache.specs.Cache.{next_of, pages}
use Rattle.page_cache.specs.Laws.{a_live_page_is_given}
use Rattle.node_page.proofs.NodeLemmas.{at_error, on_ok, page_refused}
use Rattle.id_chains.specs.Table.{bucket_in}
use Rattle.id_chains.specs.Tidy.{IsTidyPage}
use Rattle.id_chains.proofs.BucketLemmas.{bytes_of_bucket, page_of_bucket}
use Rattle.id_words.proofs.WriteLemmas.{or_second, stays_live}
use Rattle.id_chains.proofs.TidyLemmas.{page_keeps}
use Rattle.id_chains.proofs.removing.drop_last.Goals as goal

pub returns-in-Some-clause-less : goal.returns-in-Some-clause-less
returns-in-Some-clause-less g c = λ map differ links there content is.
    let D = g.row.D in
    let old = c.args.cache.now in
    let first = c.args.first in
    let was = bytes_of_bucket D (pages old first) content is in
    let live = page_of_bucket D (pages old first) content is in
    let did = c.in_ok-emptied.ensures.edited map.honest was.0 (a_live_page_is_given old first was.0 was.1) in
    let only = did.3.met.only c.in-Some.next c.in-Some.is content (ap (bucket_at D) did.3.shows ∙ was.2) in
    let others = c.in_ok-emptied.ensures.others map.honest live in
    on_ok c.unlink.result
    (λ u. inr (record {
      only = u.only;
      gone = u.gone;
      after = u.after;
      there = u.there;
      link = u.link;
      others = λ k off_first off_d. u.others k off_first off_d ∙ others k off_first;
    }))
    (c.unlink.ensures.unlinked (c.in_ok-emptied.ensures.sound map live)
    (c.in_ok-emptied.ensures.live map.honest live) differ links (others c.args.directory differ ∙ there)
    content only.0 only.1)

pub returns-in-None-clause-less : goal.returns-in-None-clause-less
returns-in-None-clause-less g c = λ map differ links there content is.
    let D = g.row.D in
    let old = c.args.cache.now in
    let first = c.args.first in
    let was = bytes_of_bucket D (pages old first) content is in
    let live = page_of_bucket D (pages old first) content is in
    let did = c.in_ok-emptied.ensures.edited map.honest was.0 (a_live_page_is_given old first was.0 was.1) in
    let less = did.3.met.popped c.in-None.is content (ap (bucket_at D) did.3.shows ∙ was.2) in
    inl (record {
      more = less.0;
      bucket = ap (bucket_in D) (did.2 live) ∙ ap (bucket_at D) (sym did.3.leaves) ∙ less.1;
      others = c.in_ok-emptied.ensures.others map.honest live;
      tidy = page_keeps D (pages old) (pages c.edit.new.self) first was.0 did.0 was.1 (did.2 live)
          (c.in_ok-emptied.ensures.others map.honest live)
          (λ tidy. subst (IsTidyPage D) did.3.leaves
          (did.3.met.tidy content (ap (bucket_at D) did.3.shows ∙ was.2)
          (subst (IsTidyPage D) (sym did.3.shows) tidy)));
    })

pub returns-in_err-emptied-clause-damage : goal.returns-in_err-emptied-clause-damage
returns-in_err-emptied-clause-damage g c = λ map live live_d.
    let f = c.in_err-emptied.field-0.0 in
    let first = c.args.first in
    at_error c.from_residual.result f
    (λ e. IsOfDevice e ⊎ ((e ≡ fault.Damaged first) ⊎ (e ≡ fault.Damaged c.args.directory)))
    c.from_residual.ensures.1
    (or_second f first c.args.directory
    (page_refused first (next_of c.args.cache.now) f (c.in_err-emptied.ensures.faults map.honest)
    (λ outside. let is = (c.in_err-emptied.ensures.outside outside).0 in cc)))

pub returns-in-Some-clause-damage : goal.returns-in-Some-clause-damage
returns-in-Some-clause-damage g c = λ map live live_d.
    let live1 = c.in_ok-emptied.ensures.live map.honest live in
    c.unlink.ensures.damage (c.in_ok-emptied.ensures.sound map live) live1
    (stays_live (pages c.args.cache.now) (pages c.edit.new.self) c.args.first c.args.directory live1
    (c.in_ok-emptied.ensures.others map.honest live) live_d)
