-- What a call leaves that found no memory of its own.
use Rattle.std.proofs.Common.{Some, refl, arith}
use Rattle.page_file.specs.declared.fault.Fault.TheVariants as fault
use Rattle.page_cache.specs.Calls.{AsksUntil, ChangesUntil, asks_changes}
use Rattle.page_cache.specs.Laws.{no_call_keeps_the_gate, no_call_keeps_the_map}
use Rattle.page_cache.specs.declared.cache.PageCache.{PageCache}

module _ {D A : Type 0} {m : _} where
  pub no_memory_asks : (cache : PageCache D A m) → AsksUntil cache cache (Some fault.Memory)
  no_memory_asks cache = record {
    gate = no_call_keeps_the_gate cache;
    map = no_call_keeps_the_map cache;
    capacity = refl;
    looks = omega arith;
    touched = refl;
    faults = refl;
  }

  pub no_memory_changes : (cache : PageCache D A m) → ChangesUntil cache cache (Some fault.Memory)
  no_memory_changes cache = asks_changes cache cache (Some fault.Memory) (no_memory_asks cache)
