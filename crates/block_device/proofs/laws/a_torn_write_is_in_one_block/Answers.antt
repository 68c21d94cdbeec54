-- What a write that is cut short leaves as it was.
use Rattle.block_device.specs.Written.{torn_other, torn_length}
use Rattle.block_device.proofs.laws.a_torn_write_is_in_one_block.Goals as goal

pub returns-clause-elsewhere : goal.returns-clause-elsewhere
returns-clause-elsewhere c = torn_other

pub returns-clause-length : goal.returns-clause-length
returns-clause-length c = torn_length
