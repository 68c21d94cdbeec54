-- The goals of `look_at_children` that are proved by hand.
use Rattle.std.proofs.Common.{ℕ, All, map, arith, subst}
use Rattle.box_math.specs.Bounds.{Bounds}
use Rattle.box_math.specs.Measures.{point_dist2_of}
use Rattle.node_page.specs.Checked.{Names}
use Rattle.node_bytes.specs.Views.{content_in}
use Rattle.node_page.proofs.NodeLemmas.{on_ok}
use Rattle.nearest.specs.Candidates.{Appends, candidate_at}
use Rattle.nearest.proofs.ChildLemmas.{kept_so, less_appended}
use Rattle.nearest.proofs.DamageLemmas.{children_are_named}
use Rattle.nearest.proofs.search.look_at_children.Goals as goal

pub returns-clause-work : goal.returns-clause-work
returns-clause-work g c =
    let far : Bounds → ℕ = λ b. point_dist2_of g.row.D b c.args.point.now in
    let items = (content_in c.in_ok-view.view).entries in
    on_ok c.append_children.result
    (λ (a : Appends c.args.k c.args.best.now (map (candidate_at far c.args.node.level) items)
    c.args.fresh.now.items c.append_children.new.fresh.items).
    less_appended far c.args.node.level c.args.k c.args.best.now items
    c.args.fresh.now.items c.append_children.new.fresh.items c.requires.above
    c.in_ok-view.ensures.spellable.few a)
    c.append_children.ensures.appended

pub returns-clause-named : goal.returns-clause-named
returns-clause-named g c = λ h.
    let far : Bounds → ℕ = λ b. point_dist2_of g.row.D b c.args.point.now in
    let content = content_in c.in_ok-view.view in
    let level = c.in_ok-view.ensures.level in
    on_ok c.append_children.result
    (λ (a : Appends c.args.k c.args.best.now (map (candidate_at far c.args.node.level) content.entries)
    c.args.fresh.now.items c.append_children.new.fresh.items). (
      content,
      c.in_ok-view.ensures.given_node h,
      a.kept,
      a.is,
      kept_so a (λ child. Names content child.page)
          (subst (λ (l : ℕ). All (λ child. Names content child.page)
          (map (candidate_at far l) content.entries)) level
          (children_are_named far content (omega (arith, level, c.requires.above)))),
    ))
    c.append_children.ensures.appended
