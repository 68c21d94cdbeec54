-- A byte is a number of one byte.
use Rattle.block_bytes.specs.Laws.{byte_at}
use Rattle.block_bytes.proofs.reading.read_u8.Goals as goal

pub returns : goal.returns
returns c = byte_at c.args.at c.args.block.now
