-- Why a change of pages broke off, and whether it had touched one (our rule, docs/FORMAT.md, "Trees of pages").
use Rattle.std.specs.Prelude.{Option, None, Some, false, Result, Ok, Err}
use Rattle.page_file.specs.declared.fault.Fault.{Fault}
use Rattle.page_cache.specs.Cache.{touched_of}
use Rattle.page_cache.specs.declared.cache.PageCache.{PageCache}
use Rattle.live_layers.specs.declared.broken.Broken.{Broken}

-- broken off by the fault before the cache was asked to change a page
abbrev pub before : Fault → Broken
before f = record { cause = f; touched = false }

-- broken off by the fault; the cache tells whether a page was touched
abbrev pub told_by : {D A : Type 0} {m : _} → PageCache D A m → Fault → Broken
told_by cache f = record { cause = f; touched = touched_of cache }

-- the fault that broke a change off, None where it was made
abbrev pub cause_in : {T : Type 0} → Result T Broken → Option Fault
cause_in (Ok _) = None
cause_in (Err b) = Some b.cause
