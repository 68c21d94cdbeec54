-- A page of zeros but for its head has no children.
use Rattle.std.proofs.Common.{arith}
use Rattle.id_page.proofs.ForkEdits.{empty_tidy, fork_empty, no_count}
use Rattle.id_page.proofs.fork_edits.start_fork.Goals as goal

pub returns-clause-empty : goal.returns-clause-empty
returns-clause-empty c = rw c.write_u8.ensures
    (fork_empty c.args.dims c.args.level c.write_head.new.page c.write_head.array_long (omega arith)
    c.write_head.ensures.head c.requires.high)

pub returns-clause-count : goal.returns-clause-count
returns-clause-count c = rw c.write_u8.ensures
    (no_count c.args.dims c.args.level c.write_head.new.page c.write_head.array_long (omega arith)
    c.write_head.ensures.head)

pub returns-clause-tidy : goal.returns-clause-tidy
returns-clause-tidy c = rw c.write_u8.ensures
    (empty_tidy c.args.dims c.args.level c.write_head.new.page c.write_head.array_long (omega arith)
    c.write_head.ensures.rest)
