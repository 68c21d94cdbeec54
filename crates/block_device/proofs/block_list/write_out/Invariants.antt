-- The blocks stay while more of them are written.
use Rattle.std.proofs.Common.{◌≡◌, ◌+◌, vec_capacity, vec_len}
use Rattle.block_device.specs.Blank.{with_blanks}
use Rattle.block_device.proofs.block_list.write_out.Given as goal

abbrev pub invariant-blocks-2 : goal.invariant-blocks-2
invariant-blocks-2 g l = (with_blanks l.written.items l.blanks ≡ with_blanks l.fn.written.items l.fn.blanks)
    × (vec_len l.written ≡ l._place)
    × (vec_len l.written + l.blanks ≡ vec_len l.fn.written + l.fn.blanks)
    × (vec_capacity l.written ≡ vec_capacity l.fn.written)
