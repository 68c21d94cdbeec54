-- What stops leave of a closing of live layers.
use Rattle.std.specs.Prelude.{◌≡◌, List, ◌∷◌, Result}
use Rattle.block_device.specs.Device.{LeavesOnly}
use Rattle.page_cache.specs.Cache.{KeepsGate, blocks_of, device_of, gate_of}
use Rattle.page_file.specs.declared.gate.Gate.TheVariants.{Shut}
use Rattle.plain_table.specs.Table.{Table}
use Rattle.live_layers.specs.Changes.{IsBegun}
use Rattle.live_layers.specs.Image.{IsImage, IsRefusedOrImageOf}
use Rattle.live_layers.specs.Keeping.{IsSettled, RestLeavesOneOf}
use Rattle.live_layers.specs.declared.layers.Layers.{Layers}
use Rattle.live_layers.specs.declared.unmade.Unmade.{Unmade}

-- A stop leaves what one at rest left, or an image of the table. Where the table was closed, though it could
-- not be read again, the gate is shut over its image; and one that was settled is only read.
pub record ClosingLeaves {D A : Type 0} {m : _} (old new : Layers D A m) (t : Table)
    (result : Result (Unit {0}) Unmade) : Type 0 where
  pub stops : (ts : List Table) → RestLeavesOneOf old.cache ts
      → LeavesOnly m.moment m.left_since m.recovery (device_of old.cache) (device_of new.cache)
      (IsRefusedOrImageOf (t ∷ ts))
  pub rests : (ts : List Table) → RestLeavesOneOf old.cache ts → RestLeavesOneOf new.cache (t ∷ ts)
  pub closed : IsBegun result → (gate_of new.cache ≡ Shut) × IsImage (blocks_of new.cache) t
  pub quiet : IsSettled old → KeepsGate old.cache new.cache
