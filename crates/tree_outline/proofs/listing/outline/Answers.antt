-- What was listed of the pages given out is the outline of the tree in the live pages.
use Rattle.std.proofs.Common.{◌∙◌, ◌++◌, List, ap}
use Rattle.page_file.specs.Fault.{IsOfDevice}
use Rattle.node_page.proofs.GivenLemmas.{live_tree_is_given}
use Rattle.node_page.proofs.NodeLemmas.{at_error}
use Rattle.tree_outline.specs.Outlines.{outline_at}
use Rattle.tree_outline.specs.declared.node.NodeOutline.{NodeOutline}
use Rattle.tree_outline.proofs.WalkLemmas.{same_place}
use Rattle.tree_outline.proofs.listing.outline.Goals as goal

pub returns-in_err-add_nodes-clause-stands : goal.returns-in_err-add_nodes-clause-stands
returns-in_err-add_nodes-clause-stands g c = λ h t page level stands.
    at_error c.from_residual.result c.in_err-add_nodes.field-0.0 IsOfDevice c.from_residual.ensures.1
    (c.in_err-add_nodes.ensures.stands h t.row
    (live_tree_is_given g.row.D c.args.cache.now t c.args.root.page c.args.root.level page level stands))

pub returns-clause-rows : goal.returns-clause-rows
returns-clause-rows g c = λ h t page level stands.
    let there =
    live_tree_is_given g.row.D c.args.cache.now t c.args.root.page c.args.root.level page level stands in
    let all = outline_at {D = g.row.D} c.args.root.page c.args.root.level t.row in
    c.in_ok-add_nodes.ensures.rows h t.row there
    ∙ ap (λ (xs : List (NodeOutline g.row.D)). xs ++ all) c.new-rows.ensures.items
    ∙ same_place g.row.D t c.args.root.page c.args.root.level page level

pub returns-clause-looks : goal.returns-clause-looks
returns-clause-looks g c = λ h t page level stands.
    c.in_ok-add_nodes.ensures.looks h t.row
    (live_tree_is_given g.row.D c.args.cache.now t c.args.root.page c.args.root.level page level stands)
