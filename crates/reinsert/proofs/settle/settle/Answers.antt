-- The goals of `settle` that are proved by hand.
use Rattle.std.proofs.Common.{rules, ◌≡◌, ◌∙◌, ◌+◌, ◌<◌, true, sym, arith}
use Rattle.arrayvec.specs.ArrayVec.{array_vec_len}
use Rattle.tree_node.specs.declared.node.Entry.{Entry}
use Rattle.node_bytes.specs.Layout.{IsOfLevel}
use Rattle.reinsert.specs.Called.{is_called}
use Rattle.reinsert.proofs.SettledLemmas.{none_refers}
use Rattle.reinsert.proofs.settle.settle.Goals as goal
use Rattle.reinsert.proofs.settle.settle.Goals.{else-node-limits-via-then-node-limits+else-not-is_called}
use Rattle.reinsert.proofs.settle.settle.Goals.{else-node-limits-via-else-node-limits}

pub returns-then-len-entries : goal.returns-then-len-entries
returns-then-len-entries g c = record {
  changes = c.write_fitting.ensures.changes;
  grows = search rules;
  measure = search rules;
  beside = none_refers c.write_fitting.result
      (λ (e : Entry g.row.D). IsOfLevel (c.args.node.now.level + 1) e.reference e.tag)
      c.write_fitting.ensures.alone;
  settled = λ h branches are can.
      c.write_fitting.ensures.settled h c.args.limits.fanout.most c.args.limits.top c.args.waiting.now.called
      c.args.waiting.now.waits.items (omega (
        arith,
        c.if-len-entries.true,
        c.len.ensures.value,
        c.entries.ensures,
      )) branches are
      can;
  sound = c.write_fitting.ensures.sound;
  faults = c.write_fitting.ensures.faults;
  other_faults = c.write_fitting.ensures.other_faults;
}

pub returns-then-not-is_called : goal.returns-then-not-is_called
returns-then-not-is_called g c = record {
  changes = c.take_out_far.ensures.changes;
  grows = search rules;
  measure = c.take_out_far.ensures.measure;
  beside = none_refers c.take_out_far.result
      (λ (e : Entry g.row.D). IsOfLevel (c.args.node.now.level + 1) e.reference e.tag)
      c.take_out_far.ensures.alone;
  settled = λ h branches are can. c.take_out_far.ensures.settled h c.args.limits.top c.if-node-limits.true
      branches are can;
  sound = c.take_out_far.ensures.sound;
  faults = c.take_out_far.ensures.faults;
  other_faults = c.take_out_far.ensures.other_faults;
}

pub take_out_far-requires : goal.take_out_far-requires
take_out_far-requires g c =
    let many : array_vec_len c.args.node.now.entries ≡ c.args.limits.fanout.most + 1 =
    omega (arith, c.if-len-entries.false, c.len.ensures.value, c.entries.ensures, c.requires.few) in
    let first = sym c.is_called.ensures ∙ c.if-not-is_called.true in (
      search rules,
      (
        search,
        (
          search rules,
          (omega (arith, c.if-node-limits.true, c.requires.top), (many, (c.requires.refers, first))),
        ),
      ),
    )

pub split_off-requires : goal.split_off-requires
split_off-requires g c =
    let many : array_vec_len c.args.node.now.entries ≡ c.args.limits.fanout.most + 1 =
    omega (arith, c.if-len-entries.false, c.len.ensures.value, c.entries.ensures, c.requires.few) in (
      search rules,
      (
        search,
        (search rules, (omega (arith, c.requires.top), (many, c.requires.refers))),
      ),
    )

pub returns : goal.returns
returns g c = record {
  changes = c.split_off.ensures.changes;
  grows = c.split_off.ensures.grows;
  measure = c.split_off.ensures.measure;
  beside = c.split_off.ensures.beside;
  settled = λ h branches are can.
      let held : c.args.node.now.level < c.args.limits.top
      → is_called c.args.waiting.now.called c.args.node.now.level ≡ true = elim c.else-node-limits.branch [
        | else-node-limits-via-then-node-limits+else-not-is_called w ↦ λ _. sym w.if-not-is_called.ensures
        | else-node-limits-via-else-node-limits w ↦ λ below. absurd
            (omega (arith, below, w.if-node-limits.false))
      ] in
      c.split_off.ensures.settled h c.args.limits.top held branches are can;
  sound = c.split_off.ensures.sound;
  faults = c.split_off.ensures.faults;
  other_faults = c.split_off.ensures.other_faults;
}
