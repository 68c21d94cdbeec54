-- Blocks of zeros at the end of a list of blocks.
use Rattle.std.specs.Prelude.{ℕ, List, ◌++◌, replicate}
use Rattle.block_device.specs.Device.{Blocks}

-- a block of zeros
abbrev pub blank : List ℕ
blank = replicate 4096 0

-- blocks, and so many blocks of zeros behind them
abbrev pub with_blanks : Blocks → ℕ → Blocks
with_blanks written count = written ++ replicate count blank
