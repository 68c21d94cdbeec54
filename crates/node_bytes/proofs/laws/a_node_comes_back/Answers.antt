-- What is encoded is spelled, and what is spelled is decoded.
use Rattle.tree_node.specs.Nodes.{content_of}
use Rattle.node_bytes.specs.Layout.{node_at}
use Rattle.node_bytes.proofs.Reading.{comes_back}
use Rattle.node_bytes.proofs.laws.a_node_comes_back.Goals as goal

pub returns : goal.returns
returns g c =
    comes_back c.decode.result (content_of c.args.node.now) (node_at g.row.D c.encode.new.page)
    c.encode.ensures.spelled c.decode.ensures.spelled c.decode.ensures.none
