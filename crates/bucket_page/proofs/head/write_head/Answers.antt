-- The next page is written after the head.
use Rattle.std.proofs.Common.{arith}
use Rattle.bucket_page.proofs.HeadWritten.{head_written, head_rest}
use Rattle.bucket_page.proofs.head.write_head.Goals as goal

pub returns-clause-head : goal.returns-clause-head
returns-clause-head g c =
    rw c.write_u32.ensures
    (head_written g.row.D c.args.count c.args.next c.write_head.new.page c.write_head.array_long
    (omega arith) c.write_head.ensures.head)

pub returns-clause-rest : goal.returns-clause-rest
returns-clause-rest g c =
    λ k behind. rw c.write_u32.ensures
    (head_rest c.args.next k c.write_head.new.page c.write_head.array_long c.write_head.ensures.rest behind)
