-- What a step of a change makes of a sound map, one word a step.
use Rattle.std.specs.Prelude.{ℕ, IfErr, IfOk, OnOk, Result}
use Rattle.page_file.specs.Fault.{IsOfDevice}
use Rattle.page_file.specs.declared.fault.Fault.{Fault}
use Rattle.page_cache.specs.Cache.{IsPageMap, pages}
use Rattle.page_cache.specs.declared.cache.PageCache.{PageCache}
use Rattle.id_tree.specs.Tidy.{KeepsTidy}

-- This was found, or not, for want of memory or by the device.
pub record Finds {T : Type 0} (result : Result T Fault) (Found : T → Type 0) : Type 0 where
  pub found : IfOk result Found
  pub faults : IfErr result IsOfDevice

-- The map is sound after it. It made this, and kept the pages tidy, or it was refused so.
pub record Works {B A : Type 0} {m : _} {T : Type 0} (dims : ℕ) (old new : PageCache B A m)
    (result : Result T Fault) (Made : T → Type 0) (Refused : Fault → Type 0) : Type 0 where
  pub sound : IsPageMap new
  pub tidy : OnOk result (KeepsTidy dims (pages old) (pages new))
  pub made : IfOk result Made
  pub faults : IfErr result Refused
