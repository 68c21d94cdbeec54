-- The goal of `write_directory` that is proved by hand.
use Rattle.std.proofs.Common.{arith}
use Rattle.id_chains.proofs.DirectoryLemmas.{directory_is_new}
use Rattle.id_chains.proofs.directory.write_directory.Goals as goal

pub returns : goal.returns
returns g c =
    rw (c.write_u8-2.ensures, c.write_u8.ensures, c.zero_block.ensures)
    (directory_is_new g.row.D (omega (arith, c.requires)))
