-- The goals of `write_fitting` that are proved by hand.
use Rattle.std.proofs.Common.{rules, ◌∙◌, List, map, refl, ap, inl}
use Rattle.tree_node.specs.Boxes.{least_box}
use Rattle.tree_node.specs.Nodes.{item_of}
use Rattle.tree_node.specs.declared.node.Entry.{Entry}
use Rattle.reinsert.proofs.SettledLemmas.{fits_settled, spellable_of}
use Rattle.node_page.proofs.NodeLemmas.{at_error}
use Rattle.reinsert.proofs.FaultLemmas.{one_more}
use Rattle.node_page.specs.Faults.{IsChangeFault, IsNoDamage}
use Rattle.reinsert.proofs.settle.write_fitting.Goals as goal

pub write_node-requires : goal.write_node-requires
write_node-requires g c = (
  search rules,
  spellable_of c.args.node.now.level c.args.node.now.entries.items c.requires.few c.requires.some
      c.requires.refers,
)

pub returns-clause-settled : goal.returns-clause-settled
returns-clause-settled g c = λ h most top called waits few branches are can. (
  c.write_node.ensures.sound h can.live,
  fits_settled most top c.args.node.now.level called branches c.args.node.now.entries.items _ _ c.args.page _
      _ _ _ are can few
      (c.least-bounds.ensures
      ∙ ap (λ (es : List (Entry g.row.D)). least_box g.row.D (map item_of es)) c.as_slice.ensures.value)
      refl refl refl
      (c.in_ok-write_node.ensures.written h.honest can.live) (c.write_node.ensures.others h.honest can.live),
)

pub returns-in_err-write_node-clause-faults : goal.returns-in_err-write_node-clause-faults
returns-in_err-write_node-clause-faults g c =
    λ h live. at_error c.from_residual.result c.in_err-write_node.field-0.0
    (IsNoDamage c.write_node.new.cache) c.from_residual.ensures.1
    (inl (c.in_err-write_node.ensures.faults h.honest live))

pub returns-in_err-write_node-clause-other_faults : goal.returns-in_err-write_node-clause-other_faults
returns-in_err-write_node-clause-other_faults g c =
    at_error c.from_residual.result c.in_err-write_node.field-0.0 (IsChangeFault c.write_node.new.cache)
    c.from_residual.ensures.1
    (one_more _ _ _ c.in_err-write_node.ensures.other_faults)
