-- The columns closed so far.
use Rattle.std.proofs.Common.{◌≡◌, length}
use Rattle.node_bytes.specs.Taken.{AreClosed}
use Rattle.node_bytes.proofs.closing.close_columns.Given as goal

abbrev pub invariant-loop-column : goal.invariant-loop-column
invariant-loop-column g l = record {
  size : length l.page ≡ 4096;
  closed : AreClosed l.column l.fn.place l.fn.count l.fn.page l.page;
}
