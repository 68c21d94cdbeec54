-- The columns are those of the entries in the page.
use Rattle.node_bytes.proofs.ColumnLemmas.{low_columns, high_columns}
use Rattle.node_bytes.proofs.view.NodeView.columns.Goals as goal

pub returns-clause-lows : goal.returns-clause-lows
returns-clause-lows g c =
    low_columns g.row.D c.args.self.now.count c.args.self.now.page.now c.read_columns-lows.result
    c.read_columns-lows.ensures.read c.read_columns-lows.ensures.zeros

pub returns-clause-highs : goal.returns-clause-highs
returns-clause-highs g c =
    high_columns g.row.D c.args.self.now.count c.args.self.now.page.now c.read_columns-highs.result
    c.read_columns-highs.ensures.read c.read_columns-highs.ensures.zeros
