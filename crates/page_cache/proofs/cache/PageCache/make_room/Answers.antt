-- The goals of `PageCache::make_room` that are proved by hand.
use Rattle.std.proofs.Common.{arith}
use Rattle.page_cache.proofs.Results.{on_ok_map}
use Rattle.page_cache.proofs.Uses.{room_made}
use Rattle.page_cache.proofs.cache.PageCache.make_room.Goals as goal

pub returns-clause-held : goal.returns-clause-held
returns-clause-held g c =
    let cache = c.args.self.now in
    on_ok_map c.evict.result c.evict.ensures.gone
    (λ is. room_made cache.frames.cap cache.frames.entries c.evict.new.self.frames.entries
    (omega (arith, c.if-len-get.false, c.get.ensures.value, c.cap.ensures, c.len.ensures.len))
    c.len.ensures.valid.1 is)
