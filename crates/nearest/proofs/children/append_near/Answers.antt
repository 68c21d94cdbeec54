-- The goals of `append_near` that are proved by hand.
use Rattle.std.proofs.Common.{◌≡◌, ℕ, ◌+◌, ◌++◌, ◌∷◌, [], ◌<◌, length, arith, subst}
use Rattle.box_math.specs.Bounds.{Bounds}
use Rattle.box_math.specs.Measures.{point_dist2_of}
use Rattle.tree_node.specs.Nodes.{item_of}
use Rattle.node_bytes.specs.Views.{content_in}
use Rattle.nearest.specs.declared.candidate.Candidate.{Candidate}
use Rattle.nearest.proofs.ChildLemmas.{all_appended, appended_to, child_in, none_appended, one_appended}
use Rattle.nearest.proofs.children.append_near.Goals as goal

pub children-init : goal.children-init
children-init g c =
    let far : Bounds → ℕ = λ b. point_dist2_of g.row.D b c.args.point.now in
    let items = (content_in c.args.view.now).entries in
    appended_to far c.args.level c.args.k c.args.best.now items c.args.fresh.now.items
    c.args.fresh.now.items c.near_mask-mask.result 0 c.next_set-place.result c.near_mask-mask.ensures
    c.next_set-place.ensures.within c.next_set-place.ensures.unset
    (none_appended far c.args.level c.args.k c.args.best.now items c.args.fresh.now.items)

pub children-preserved : goal.children-preserved
children-preserved g c =
    let far : Bounds → ℕ = λ b. point_dist2_of g.row.D b c.args.point.now in
    let items = (content_in c.args.view.now).entries in
    let within : c.children.place < length items =
    omega (arith, c.children-test.true, c.len-count.ensures.count) in
    let child =
    child_in far c.args.level items c.children.place c.point_dist2.result (item_of c.entry-entry.result)
    within c.entry-entry.ensures c.point_dist2.ensures.value c.child_of.result c.child_of.ensures in
    appended_to far c.args.level c.args.k c.args.best.now items c.args.fresh.now.items
    c.push.new.self.items c.near_mask-mask.result (c.children.place + 1)
    c.next_set-place-in-children.result c.near_mask-mask.ensures
    c.next_set-place-in-children.ensures.within c.next_set-place-in-children.ensures.unset
    (one_appended c.children.invariant c.push.new.self.items within
    (subst (λ (x : Candidate). c.push.new.self.items ≡ c.children.fresh.items ++ x ∷ []) child
    c.in_ok-push.ensures.items))

pub returns-clause-appended : goal.returns-clause-appended
returns-clause-appended g c =
    all_appended c.children.invariant (omega (arith, c.children-test.false, c.len-count.ensures.count))
