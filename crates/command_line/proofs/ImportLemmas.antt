-- A store that was made or opened, and into which objects were put.
use Rattle.std.proofs.Common.{◌≡◌, ◌⊎◌, ℕ, List, inl, inr, subst, sym}
use Rattle.block_device.specs.Device.{Blocks, LeavesOnly}
use Rattle.block_device.specs.Moments.{leaves_then, leaves_weaker}
use Rattle.block_device.specs.declared.device.BlockDevice as device
use Rattle.live_layers.specs.Image.{IsRefusedOrImageOf}
use Rattle.plain_table.specs.Table.{Table}
use Rattle.command_line.specs.Importing.{ImportsInto, IsUnopened, PutsInto}
use Rattle.command_line.specs.declared.serving.Served.{Served}

-- what was put into a store that was made or opened
pub imports_into : {D : Type 0} (m : device.Ghosts D) (S : D → Table → Type 0) (P : Blocks → Type 0)
    (t : Table) (layer : List ℕ) (fanout : ℕ) (device opened : D) (left : Served D)
    → S opened t
    → LeavesOnly m.moment m.left_since m.recovery device opened P
    → PutsInto m (m.moment opened) t layer fanout opened left → ImportsInto m S P t layer fanout device left
imports_into m S P t layer fanout device opened left store opening puts =
    let Tables : Blocks → Type 0 = IsRefusedOrImageOf puts.imported.tables in
    let Either : Blocks → Type 0 = λ c. P c ⊎ Tables c in
    record {
      opened = opened;
      store = store;
      opening = opening;
      puts = puts;
      whole =
          leaves_then m.moment m.left_since m.recovery device opened left.device Either
          (leaves_weaker m.moment m.left_since m.recovery device opened P Either (λ c p. inl p) opening)
          (leaves_weaker m.moment m.left_since m.recovery opened left.device Tables Either (λ c q. inr q)
          puts.imported.stops);
    }

-- what a refused start says of its device is said of what is left
pub unopened : {D : Type 0} (m : device.Ghosts D) (P : Blocks → Type 0) (device d : D) (left : Served D)
    → left.status ≡ 1 → left.device ≡ d → LeavesOnly m.moment m.left_since m.recovery device d P
    → IsUnopened m P device left
unopened m P device d left failed same stops = record {
  failed = failed;
  stops = subst (λ (x : _). LeavesOnly m.moment m.left_since m.recovery device x P) (sym same) stops;
}
