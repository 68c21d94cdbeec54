-- The goals of `append_all` that are proved by hand.
use Rattle.std.proofs.Common.{◌≡◌, ℕ, ◌++◌, ◌∷◌, [], ◌<◌, length, arith, subst}
use Rattle.box_math.specs.Bounds.{Bounds}
use Rattle.box_math.specs.Measures.{point_dist2_of}
use Rattle.tree_node.specs.Nodes.{item_of}
use Rattle.node_bytes.specs.Views.{content_in}
use Rattle.nearest.specs.declared.candidate.Candidate.{Candidate}
use Rattle.nearest.specs.Candidates.{Past}
use Rattle.nearest.proofs.ChildLemmas.{all_appended, child_at, none_appended, one_appended, one_left}
use Rattle.nearest.proofs.children.append_all.Goals as goal

pub children-init : goal.children-init
children-init g c =
    none_appended (λ b. point_dist2_of g.row.D b c.args.point.now) c.args.level c.args.k c.args.best.now
    (content_in c.args.view.now).entries c.args.fresh.now.items

pub children-preserved-then-are_nearer : goal.children-preserved-then-are_nearer
children-preserved-then-are_nearer g c =
    let within : c.children.place < length (content_in c.args.view.now).entries =
    omega (arith, c.children-test.true, c.len-place-end.ensures.count) in
    one_left c.children.invariant within
    (subst (λ (d : ℕ). Past d c.args.k c.args.best.now) c.at-distance.ensures
    (c.are_nearer.ensures.0 c.if-are_nearer.true))

pub children-preserved : goal.children-preserved
children-preserved g c =
    let far : Bounds → ℕ = λ b. point_dist2_of g.row.D b c.args.point.now in
    let items = (content_in c.args.view.now).entries in
    let within : c.children.place < length items =
    omega (arith, c.children-test.true, c.len-place-end.ensures.count) in
    let child =
    child_at far c.args.level items c.children.place c.at-distance.result (item_of c.entry.result) within
    c.entry.ensures c.at-distance.ensures c.child_of.result c.child_of.ensures in
    one_appended c.children.invariant c.push.new.self.items within
    (subst (λ (x : Candidate). c.push.new.self.items ≡ c.children.fresh.items ++ x ∷ []) child
    c.in_ok-push.ensures.items)

pub returns-clause-appended : goal.returns-clause-appended
returns-clause-appended g c =
    all_appended c.children.invariant (omega (arith, c.children-test.false, c.len-place-end.ensures.count))
