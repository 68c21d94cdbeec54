-- What refuses the opening of a store. Our rule, docs/COMMANDS.md and docs/FORMAT.md, "Opening".
use Rattle.std.specs.Prelude.{ℕ, ◌≡◌, Bool, ◌&&◌, nat_le}
use Rattle.block_device.specs.Device.{Blocks}
use Rattle.live_layers.specs.Faults.{as_refusal}
use Rattle.live_layers.specs.Image.{OpeningRefusesUpTo}
use Rattle.page_file.specs.declared.fault.Fault.{Fault}
use Rattle.page_file.specs.declared.header.Version.{Version}
use Rattle.plain_table.specs.declared.refusal.Refusal.{Refusal}

-- a cache holds 8 to 4096 pages
abbrev pub is_cache : ℕ → Bool
is_cache pages = nat_le 8 pages && nat_le pages 4096

-- opening where no version above `newest` is read refuses the blocks for what they are
abbrev pub OpeningRefusesAs : Version → Blocks → Refusal → Type 0
OpeningRefusesAs newest blocks r = (f : Fault) × (r ≡ as_refusal f) × OpeningRefusesUpTo newest blocks f
