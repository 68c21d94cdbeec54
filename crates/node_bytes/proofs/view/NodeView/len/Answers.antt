-- A node has an entry in each place.
use Rattle.std.proofs.Common.{sym}
use Rattle.block_bytes.specs.PlaceLaws.{length-first_places}
use Rattle.node_bytes.specs.Layout.{item_at}
use Rattle.node_bytes.proofs.view.NodeView.len.Goals as goal

pub returns-clause-count : goal.returns-clause-count
returns-clause-count g c =
    sym (length-first_places (item_at g.row.D c.args.self.now.page.now) c.args.self.now.count)

pub returns-clause-few : goal.returns-clause-few
returns-clause-few g c = c.args.self.now.laid_out.few
