-- The home in its index block.
use Rattle.std.proofs.Common.{◌∙◌, ◌*◌, ap}
use Rattle.std.specs.Prelude.{◌%◌}
use Rattle.block_bytes.specs.Numbers.{number_at}
use Rattle.committed_log.specs.Log.{home_in}
use Rattle.snapshot_reader.proofs.index.read_home.Goals as goal

pub returns-clause-home : goal.returns-clause-home
unfolding home_in
returns-clause-home g c = λ h.
    c.read_u32.ensures ∙ ap (number_at 4 (4 * (c.args.k % 1024))) (c.in_ok-turn_index.ensures h)
