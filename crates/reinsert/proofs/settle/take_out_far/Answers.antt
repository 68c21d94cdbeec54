-- The goals of `take_out_far` that are proved by hand.
use Rattle.std.proofs.Common.{rules, ◌∙◌, List, map, refl, ap, subst, arith}
use Rattle.tree_node.specs.Boxes.{least_box}
use Rattle.tree_node.specs.Nodes.{item_of}
use Rattle.tree_node.specs.declared.node.Entry.{Entry}
use Rattle.reinsert.specs.Far.{IsDividedFar}
use Rattle.reinsert.proofs.SettledLemmas.{All-part, far_settled, spellable_of}
use Rattle.node_page.proofs.NodeLemmas.{at_error}
use Rattle.reinsert.proofs.FaultLemmas.{one_more}
use Rattle.node_page.specs.Faults.{IsChangeFault}
use Rattle.reinsert.proofs.settle.take_out_far.Goals as goal

pub wait_again-requires : goal.wait_again-requires
wait_again-requires g c = (
  search rules,
  (
    search rules,
    (
      search rules,
      (
        c.requires.level,
        (
          c.requires.first,
          (
            omega (arith, c.farthest-near.ensures.counts, c.far_count.ensures.few),
            All-part c.args.node.now.level c.args.node.now.entries.items c.farthest-near.result.1.items _
                c.farthest-near.ensures.divided.far_is c.requires.refers,
          ),
        ),
      ),
    ),
  ),
)

pub write_node-requires : goal.write_node-requires
write_node-requires g c = (
  search rules,
  spellable_of c.args.node.now.level c.farthest-near.result.0.items
      (omega (
        arith,
        c.farthest-near.ensures.counts,
        c.far_count.ensures.few,
        c.requires.many,
        c.args.fanout.within,
      ))
      (omega (arith, c.farthest-near.ensures.counts, c.requires.many, c.far_count.ensures.few))
      (All-part c.args.node.now.level c.args.node.now.entries.items c.farthest-near.result.0.items _
      c.farthest-near.ensures.divided.near_is c.requires.refers),
)

pub returns-clause-settled : goal.returns-clause-settled
returns-clause-settled g c = λ h top below branches are can. (
  c.write_node.ensures.sound h can.live,
  far_settled c.args.fanout.most top c.args.node.now.level c.args.waiting.now.called branches
      c.args.node.now.entries.items _ _ c.args.page _ _ _ _ are can
      c.farthest-near.result.0.items c.farthest-near.result.1.items
      (subst (λ p. IsDividedFar g.row.D p c.args.node.now.entries.items c.farthest-near.result.0.items
      c.farthest-near.result.1.items) c.far_count.ensures.value c.farthest-near.ensures.divided)
      c.requires.many below c.requires.first
      (c.least-bounds.ensures
      ∙ ap (λ (es : List (Entry g.row.D)). least_box g.row.D (map item_of es)) c.as_slice.ensures.value)
      refl
      c.wait_again.ensures.waits c.wait_again.ensures.called
      (c.in_ok-write_node.ensures.written h.honest can.live) (c.write_node.ensures.others h.honest can.live),
)

pub returns-in_err-write_node-clause-other_faults : goal.returns-in_err-write_node-clause-other_faults
returns-in_err-write_node-clause-other_faults g c =
    at_error c.from_residual.result c.in_err-write_node.field-0.0 (IsChangeFault c.write_node.new.cache)
    c.from_residual.ensures.1
    (one_more _ _ _ c.in_err-write_node.ensures.other_faults)
