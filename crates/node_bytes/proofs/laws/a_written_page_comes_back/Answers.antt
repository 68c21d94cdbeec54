-- The page that is encoded is one of the same node, and a node has one.
use Rattle.std.proofs.Common.{◌≡◌, ◌∙◌, Some, ap, subst, sym}
use Rattle.tree_node.specs.Nodes.{content_of}
use Rattle.node_bytes.specs.Layout.{IsPageOfNode}
use Rattle.node_bytes.proofs.TidyLemmas.{same_page}
use Rattle.node_bytes.proofs.laws.a_written_page_comes_back.Goals as goal

pub returns-clause-same : goal.returns-clause-same
returns-clause-same g c = λ content level is.
    ap Some
    (same_page g.row.D c.encode.new.page c.args.page.now (content_of c.in_ok-node.node) content
    c.see_bytes.ensures c.fits-page (c.encode.array_long ∙ sym c.told-page) c.in_ok-node.ensures.spelled
    c.encode.ensures.is_page is)

pub returns-clause-encoded : goal.returns-clause-encoded
returns-clause-encoded g c = λ content level is.
    let both : Some (content_of c.in_ok-node.node) ≡ Some content = sym c.in_ok-node.ensures.spelled ∙ is in
    let same : content_of c.in_ok-node.node ≡ content = cc in
    subst (IsPageOfNode g.row.D c.encode.new.page) same c.encode.ensures.is_page
