-- The goals of `write_link` that are proved by hand.
use Rattle.std.proofs.Common.{List, ℕ, subst}
use Rattle.page_cache.specs.Cache.{next_of, touched_of}
use Rattle.page_cache.specs.Laws.{a_live_page_is_given}
use Rattle.id_chains.specs.Pages.{SetsLink}
use Rattle.id_chains.proofs.BucketLemmas.{is_there}
use Rattle.id_words.proofs.WriteLemmas.{touched_by, write_refused}
use Rattle.id_words.proofs.Results.{ok_of}
use Rattle.id_chains.proofs.directory.write_link.Goals as goal

pub returns-clause-written : goal.returns-clause-written
returns-clause-written g c = λ h page there.
    let old = c.args.cache.now in
    ok_of c.edit.result (c.edit.ensures.edited h page (a_live_page_is_given old c.args.directory page there))
    (λ answer did.
    let set =
    subst (λ (p : List ℕ). SetsLink c.args.class c.args.first p did.0) did.3.shows
    (subst (λ (p : List ℕ). SetsLink c.args.class c.args.first did.3.shown.now p) did.3.leaves
    did.3.met) in
    (did.0, did.2 (is_there _ page there), set))

pub returns-clause-damage : goal.returns-clause-damage
returns-clause-damage g c = λ h.
    write_refused c.edit.result c.args.directory (next_of c.args.cache.now) (c.edit.ensures.faults h)
    (λ out. (c.edit.ensures.outside out).0)

pub returns-clause-touched : goal.returns-clause-touched
returns-clause-touched g c =
    touched_by c.edit.result (touched_of c.args.cache.now) (touched_of c.edit.new.self)
    c.edit.ensures.in_memory.touched
