-- What a start or a closing is refused by.
use Rattle.std.specs.Prelude.{◌≡◌, ◌⊎◌}
use Rattle.plain_table.specs.declared.refusal.Refusal.{Refusal}
use Rattle.plain_table.specs.declared.refusal.Refusal.TheVariants as refusal

-- want of memory, or a device that failed
abbrev pub IsMemoryOrDevice : Refusal → Type 0
IsMemoryOrDevice r = (r ≡ refusal.Memory) ⊎ (r ≡ refusal.Device)
