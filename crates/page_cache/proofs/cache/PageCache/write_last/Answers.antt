-- The goals of `PageCache::write_last` that are proved by hand.
use Rattle.std.proofs.Common.{◌∙◌}
use Rattle.page_cache.proofs.Lookups.{lookup-last}
use Rattle.page_cache.proofs.Results.{on_ok_map}
use Rattle.page_cache.proofs.Turned.{turned_round}
use Rattle.page_cache.proofs.cache.PageCache.write_last.Goals as goal

pub returns-clause-turned : goal.returns-clause-turned
returns-clause-turned g c =
    let es = c.args.self.now.frames.entries in let n = c.in-Some.last.now in
    let apart = c.len-count.ensures.valid.0 in
    let here = lookup-last n c.in-Some._frame.now es apart c.in-Some.ensures in
    on_ok_map c.write_held.result
    (c.write_held.ensures.entries c.in-Some._frame.now (c.promote.ensures.same.frames n ∙ here))
    (λ written. (
      n,
      written.0,
      written.1.changed,
      turned_round n es c.write_held.new.self.frames.entries
          c.in-Some._frame.now written.0 c.promote.new.self.frames.entries apart c.in-Some.ensures c.promote.ensures.entries
          written.2,
    ))
