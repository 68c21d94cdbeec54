-- The level is written after the head.
use Rattle.std.proofs.Common.{arith}
use Rattle.node_bytes.proofs.HeadWritten.{head_written, head_rest}
use Rattle.node_bytes.proofs.head.write_head.Goals as goal

pub returns-clause-head : goal.returns-clause-head
returns-clause-head g c =
    rw c.write_u8.ensures
    (head_written g.row.D c.args.level c.args.count c.write_head.new.page c.write_head.array_long
    (omega arith) c.write_head.ensures.head)

pub returns-clause-rest : goal.returns-clause-rest
returns-clause-rest g c =
    λ k behind. rw c.write_u8.ensures
    (head_rest c.args.level k c.write_head.new.page c.write_head.array_long c.write_head.ensures.rest behind)
