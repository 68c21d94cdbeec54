-- The goals of `PageCache::over` that are proved by hand.
use Rattle.std.proofs.Common.{ℕ, None, false, ap, refl, rules}
use Rattle.page_cache.specs.Frames.{changed_pages}
use Rattle.page_cache.specs.declared.cache.PageCache.{PageCache}
use Rattle.page_cache.proofs.Behind.{given_below, lies_below, map_below, pages_below}
use Rattle.page_cache.proofs.cache.PageCache.over.Goals as goal

pub returns-in-Ok : goal.returns-in-Ok
returns-in-Ok g c =
    let cache : PageCache _ _ _ =
    record {
      file = c.args.file;
      frames = c.in-Ok.frames;
      spare = None;
      looks = 0;
      touched = false;
      within = c.result-1.given.0;
      true_to = c.result-1.given.1.0;
      behind_the_gate = c.result-1.given.1.1.0;
      counted = c.result-1.given.1.1.1.0;
    } in
    let none = λ (k : ℕ). ap (λ d. changed_pages d.entries k) c.in-Ok.ensures in
    record {
      device = refl;
      gate = refl;
      version = refl;
      next = refl;
      pages = pages_below cache none;
      given = given_below cache none;
      sound = map_below cache none;
      lies = lies_below cache none;
      holds_none = search rules;
      capacity = search rules;
      looks = refl;
      refused = tt;
    }
