-- The goals of `PageCache::evict` that are proved by hand.
use Rattle.std.proofs.Common.{◌∙◌, is_some, ap, sym}
use Rattle.page_cache.proofs.Lookups.{lookup-last}
use Rattle.page_cache.proofs.Results.{on_ok_map}
use Rattle.page_cache.proofs.Uses.{last_removed}
use Rattle.page_cache.proofs.cache.PageCache.evict.Goals as goal

pub returns-clause-gone : goal.returns-clause-gone
returns-clause-gone g c =
    let es = c.args.self.now.frames.entries in let n = c.in-Some.last.now in
    let some = ap is_some (lookup-last n _ es c.len-count.ensures.valid.0 c.in-Some.ensures) in
    on_ok_map c.release.result (c.release.ensures.entries some)
    (λ removed. removed ∙ last_removed n _ es c.len-count.ensures.valid.0 (sym c.in-Some.ensures))
