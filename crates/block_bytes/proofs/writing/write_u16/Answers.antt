-- The bytes from the place are the number's, and the others stay.
use Rattle.block_bytes.proofs.Back.{put_back}
use Rattle.block_bytes.proofs.writing.write_u16.Goals as goal

pub returns : goal.returns
returns c =
    put_back 2 c.args.at c.args.x c.args.block.now c.write_u16.new.buf c.told-block c.write_u16.ensures
