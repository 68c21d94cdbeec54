-- What is read after a write.
use Rattle.block_device.specs.Written.{block_at-written, block_at-written_other}
use Rattle.block_device.proofs.laws.a_write_is_read_back.Goals as goal

pub returns-clause-there : goal.returns-clause-there
returns-clause-there c = block_at-written

pub returns-clause-elsewhere : goal.returns-clause-elsewhere
returns-clause-elsewhere c = block_at-written_other
