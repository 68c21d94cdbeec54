-- A block in memory, written.
use Rattle.std.proofs.Common.{◌∙◌, ap, slice_set}
use Rattle.block_device.specs.Written.{set_written}
use Rattle.unwritten_pair.specs.Pair.{behind_of}
use Rattle.unwritten_pair.proofs.pair.UnwrittenPair.put_there.Goals as goal

pub returns-clause-written : goal.returns-clause-written
returns-clause-written g c =
    let old = behind_of c.args.self.now in
    ap (λ v. slice_set v.items c.args.at c.args.bytes.now) c.remember.ensures.behind
    ∙ set_written c.args.at c.args.bytes.now old c.requires.there
