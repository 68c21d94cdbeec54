-- A device over a reader as its contracts see it.
use Rattle.std.specs.Prelude.{◌≡◌, ◌≤◌, ◌+◌, ℕ, length}
use Rattle.std.specs.List.{All}
use Rattle.std.proofs.Common.{arith, subst, sym}
use Rattle.block_device.specs.Device.{Blocks, IsBlock}
use Rattle.read_only_device.specs.declared.device.ReadOnlyDevice.{ReadOnlyDevice}

-- its reader
abbrev pub reader_of : {R : Type 0} {m : _} → ReadOnlyDevice R m → R
reader_of d = d.reader.now

-- how many of its calls failed, up to the greatest u64
abbrev pub refusals_of : {R : Type 0} {m : _} → ReadOnlyDevice R m → ℕ
refusals_of d = d.faults

-- what a stop leaves is what is read
pub one_longer : (c blocks : Blocks) → c ≡ blocks → length c ≤ length blocks + 1
one_longer c blocks is = subst (λ (b : Blocks). length b ≤ length blocks + 1) (sym is) (omega arith)

pub left_is_whole : (c blocks : Blocks) → c ≡ blocks → All IsBlock blocks → All IsBlock c
left_is_whole c blocks is whole = subst (All IsBlock) (sym is) whole
