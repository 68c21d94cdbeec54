-- The goal of `set_link` that is proved by hand.
use Rattle.std.proofs.Common.{arith}
use Rattle.id_chains.proofs.DirectoryLemmas.{link_is_set}
use Rattle.id_chains.proofs.directory.set_link.Goals as goal

pub returns : goal.returns
returns c =
    rw c.write_u32.ensures
    (link_is_set c.args.class c.args.first c.args.page.now c.told-page c.requires.class
    (omega (arith, c.ranges.first)))
