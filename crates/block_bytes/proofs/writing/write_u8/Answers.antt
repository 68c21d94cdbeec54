-- The bytes from the place are the number's, and the others stay.
use Rattle.std.proofs.Common.{arith}
use Rattle.block_bytes.proofs.Back.{write_byte}
use Rattle.block_bytes.proofs.writing.write_u8.Goals as goal

pub returns : goal.returns
returns c = write_byte c.args.at c.args.x c.args.block.now (omega (arith, c.told-block)) (omega arith)
