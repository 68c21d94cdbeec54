-- The gate stays open.
use Rattle.std.proofs.Common.{◌≡◌}
use Rattle.page_file.specs.declared.gate.Gate.TheVariants.{Open}
use Rattle.page_cache.specs.Cache.{gate_of}
use Rattle.test_caches.proofs.cache_of.Given as goal

abbrev pub invariant-loop-page : goal.invariant-loop-page
invariant-loop-page g l = gate_of l.cache ≡ Open
