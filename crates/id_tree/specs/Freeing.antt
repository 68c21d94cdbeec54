-- Pages given up, one word a step.
use Rattle.std.specs.Prelude.{IfErr, OnOk, Result}
use Rattle.page_file.specs.Fault.{IsOfDevice}
use Rattle.page_file.specs.declared.fault.Fault.{Fault}
use Rattle.page_cache.specs.Cache.{IsPageMap, pages}
use Rattle.page_cache.specs.declared.cache.PageCache.{PageCache}
use Rattle.node_page.specs.Parts.{Moves, Part, no_page}

-- The map is sound after it, without these pages, or it was refused by the device or for want of memory.
pub record Frees {B A : Type 0} {m : _} (old new : PageCache B A m) (result : Result (Unit {0}) Fault)
    (part : Part) : Type 0 where
  pub sound : IsPageMap new
  pub freed : OnOk result (Moves (pages old) (pages new) part no_page)
  pub faults : IfErr result IsOfDevice
