-- The goals of `PageCache::open_gate` that are proved by hand.
use Rattle.std.proofs.Common.{◌≡◌, refl}
use Rattle.page_file.specs.declared.gate.Gate.TheVariants.{Open}
use Rattle.page_cache.specs.Cache.{gate_of}
use Rattle.page_cache.proofs.Behind.{blocks_opened, free_opened, map_opened}
use Rattle.page_cache.proofs.cache.PageCache.open_gate.Goals as goal

pub returns : goal.returns
returns g c =
    let old = c.args.self.now in let begun = c.begin_change.ensures in
    let was_open = λ (was : gate_of old ≡ Open). (begun.was_open was).0 in
    record {
      opened = begun.open;
      was_open = begun.was_open;
      frames = refl;
      looks = refl;
      touched = refl;
      map = map_opened old _ was_open refl begun.map;
      free = free_opened old c.begin_change.new.self was_open begun.free;
      header = begun.header;
      blocks = blocks_opened old c.begin_change.new.self begun.header begun.honest.0 begun.blocks;
      honest = begun.honest;
      faults = begun.faults;
      cause = begun.cause;
    }
