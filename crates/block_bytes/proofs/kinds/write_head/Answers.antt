-- Three numbers in a page of zeros.
use Rattle.std.proofs.Common.{arith}
use Rattle.block_bytes.proofs.HeadWritten.{head_written, head_rest}
use Rattle.block_bytes.proofs.kinds.write_head.Goals as goal

pub returns-clause-head : goal.returns-clause-head
returns-clause-head c =
    rw (c.write_u16.ensures, c.write_u8-2.ensures, c.write_u8.ensures, c.zero_block.ensures)
    (head_written c.args.kind c.args.dims c.args.count (omega arith) (omega arith) (omega arith))

pub returns-clause-rest : goal.returns-clause-rest
returns-clause-rest c =
    rw (c.write_u16.ensures, c.write_u8-2.ensures, c.write_u8.ensures, c.zero_block.ensures)
    (head_rest c.args.kind c.args.dims c.args.count (omega arith) (omega arith) (omega arith))
