-- The goals of `open_root` that are proved by hand.
use Rattle.std.proofs.Common.{rules, ◌∙◌, Option, ap, sym, refl, arith}
use Rattle.box_math.specs.Bounds.{Bounds}
use Rattle.page_file.specs.Fault.{IsOfDevice}
use Rattle.page_cache.specs.Cache.{given, pages}
use Rattle.tree_node.specs.Nodes.{content_of}
use Rattle.tree_node.specs.Trees.{row_items}
use Rattle.node_page.specs.Standing.{PageMap}
use Rattle.node_page.proofs.DamageLemmas.{comes_on}
use Rattle.node_page.proofs.LeafLemmas.{entries_there}
use Rattle.node_page.proofs.NodeLemmas.{at_error}
use Rattle.node_page.proofs.StandingLemmas.{page_of_node}
use Rattle.spatial_join.specs.Opening.{lone}
use Rattle.spatial_join.proofs.DamageLemmas.{below_lone}
use Rattle.spatial_join.proofs.OpeningLemmas.{level_above, level_here, lone_has_pages, root_above, root_here}
use Rattle.spatial_join.proofs.opening.open_root.Goals as goal

pub returns-in_err-node-clause-stands : goal.returns-in_err-node-clause-stands
returns-in_err-node-clause-stands g c = λ h row at.
    at_error c.from_residual.result c.in_err-node.field-0.0 IsOfDevice c.from_residual.ensures.1
    (c.in_err-node.ensures.there h (record { level = c.args.root.level; entries = row_items row }) at.node
    refl)

pub returns-then-other-root-clause-level : goal.returns-then-other-root-clause-level
returns-then-other-root-clause-level g c = c.in_ok-node.ensures.level
    ∙ level_here c.args.root.level c.args.other c.if-other-root.true

pub returns-then-other-root-clause-entries : goal.returns-then-other-root-clause-entries
returns-then-other-root-clause-entries g c = λ h row at.
    let m : PageMap = pages c.args.cache.now in
    let there = c.in_ok-node.ensures.node h (page_of_node g.row.D (m c.args.root.page) _ at.node) in
    ap row_items (root_here g.row.D c.args.root.level c.args.other c.args.root.page row c.if-other-root.true)
    ∙ entries_there g.row.D m c.args.root.page c.args.root.level row (content_of c.in_ok-node.node) at there

pub returns-clause-level : goal.returns-clause-level
returns-clause-level g c = c.above.ensures.level
    ∙ level_above c.args.root.level c.args.other (omega (arith, c.if-other-root.false))

pub returns-clause-entries : goal.returns-clause-entries
returns-clause-entries g c = λ h row at.
    let m : PageMap = pages c.args.cache.now in
    let there = c.in_ok-node.ensures.node h (page_of_node g.row.D (m c.args.root.page) _ at.node) in
    let same =
    entries_there g.row.D m c.args.root.page c.args.root.level row (content_of c.in_ok-node.node) at
    there in
    root_above g.row.D c.args.root.level c.args.other c.args.root.page row
    (content_of c.in_ok-node.node).entries (omega (arith, c.if-other-root.false)) same
    ∙ ap (λ (o : Option Bounds). lone o c.args.root.page) (sym c.node_box.ensures)
    ∙ sym c.above.ensures.entries

pub returns-clause-few : goal.returns-clause-few
returns-clause-few g c = omega (arith, c.above.ensures.few)

pub returns-clause-references : goal.returns-clause-references
returns-clause-references g c =
    lone_has_pages (content_of c.above.result) c.node_box.result c.args.root.page (search rules)
    (search rules)

pub returns-then-other-root-clause-walks : goal.returns-then-other-root-clause-walks
returns-then-other-root-clause-walks g c = λ h n below.
    comes_on g.row.D (given c.args.cache.now) c.args.root.page (content_of c.in_ok-node.node) n
    (c.in_ok-node.ensures.given_node h) below

pub returns-clause-walks : goal.returns-clause-walks
returns-clause-walks g c = λ h n below.
    below_lone g.row.D (given c.args.cache.now) (content_of c.above.result) c.node_box.result
    c.args.root.page n c.above.ensures.entries below

pub returns-in_err-node-clause-faults : goal.returns-in_err-node-clause-faults
returns-in_err-node-clause-faults g c = λ h.
    at_error c.from_residual.result c.in_err-node.field-0.0
    _ c.from_residual.ensures.1
    (c.in_err-node.ensures.faults h)
