-- The page that is filled spells the node.
use Rattle.std.proofs.Common.{◌∙◌, Some, ap, subst, sym}
use Rattle.page_cache.specs.Cache.{pages}
use Rattle.page_cache.specs.Laws.{a_live_page_was_given_out}
use Rattle.tree_node.specs.Nodes.{content_of}
use Rattle.node_bytes.specs.Layout.{IsPageOfNode, node_at}
use Rattle.node_page.proofs.NodeLemmas.{node_of_page, on_ok}
use Rattle.node_bytes.proofs.TidyLemmas.{at_page}
use Rattle.node_page.proofs.nodes.write_node.Goals as goal

pub returns-clause-written : goal.returns-clause-written
returns-clause-written g c = λ h live.
    let D = g.row.D in
    on_ok c.refill.result
    (λ did. node_of_page D (pages c.refill.new.self c.args.page) did.1 (Some (content_of c.args.node.now))
    (did.3 live) (ap (node_at D) (sym did.4.leaves) ∙ did.4.met.0))
    (c.refill.ensures.filled h)

pub returns-clause-is_page : goal.returns-clause-is_page
returns-clause-is_page g c = λ h live.
    let D = g.row.D in let node = content_of c.args.node.now in
    on_ok c.refill.result
    (λ did. at_page D (pages c.refill.new.self c.args.page) did.1 node (did.3 live)
    (subst (λ bytes. IsPageOfNode D bytes node) did.4.leaves did.4.met.1))
    (c.refill.ensures.filled h)

pub returns-clause-faults : goal.returns-clause-faults
returns-clause-faults g c = λ h live.
    let out = a_live_page_was_given_out c.args.cache.now c.args.page live in
    c.refill.ensures.faults h out.0 out.1
