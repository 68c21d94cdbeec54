-- Each column is closed after those before it.
use Rattle.std.proofs.Common.{rules}
use Rattle.node_bytes.proofs.ClosedLemmas.{columns_more, columns_none}
use Rattle.node_bytes.proofs.closing.close_columns.Goals as goal

pub loop-column-init : goal.loop-column-init
loop-column-init g c = record {
  size = search rules;
  closed = columns_none c.args.place c.args.count c.args.page.now;
}

pub loop-column-preserved : goal.loop-column-preserved
loop-column-preserved g c = record {
  size = c.close_row.array_long;
  closed = columns_more c.loop-column.column c.args.place c.args.count c.args.page.now c.loop-column.page
      c.close_row.new.page c.requires.within c.requires.few c.loop-column.invariant.closed c.close_row.ensures;
}
