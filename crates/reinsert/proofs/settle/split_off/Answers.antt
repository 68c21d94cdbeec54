-- The goals of `split_off` that are proved by hand.
use Rattle.std.proofs.Common.{rules, ◌≡◌, ◌∙◌, List, map, refl, ap, arith}
use Rattle.tree_node.specs.Boxes.{least_box}
use Rattle.tree_node.specs.Nodes.{Item, item_of}
use Rattle.tree_node.specs.declared.node.Entry.{Entry}
use Rattle.reinsert.proofs.SettledLemmas.{All-part, spellable_of, split_settled}
use Rattle.node_page.proofs.NodeLemmas.{at_error}
use Rattle.node_page.specs.Faults.{IsChangeFault}
use Rattle.reinsert.proofs.settle.split_off.Goals as goal

pub write_both-requires : goal.write_both-requires
write_both-requires g c = (
  search rules,
  (
    spellable_of c.args.node.now.level c.split-first.result.0.items
        (omega (arith, c.split-first.ensures.whole, c.split-first.ensures.full, c.args.fanout.within))
        (omega (arith, c.split-first.ensures.full))
        (All-part c.args.node.now.level c.args.node.now.entries.items c.split-first.result.0.items _
        c.split-first.ensures.divided.first_is c.requires.refers),
    spellable_of c.args.node.now.level c.split-first.result.1.items
        (omega (arith, c.split-first.ensures.whole, c.split-first.ensures.full, c.args.fanout.within))
        (omega (arith, c.split-first.ensures.full))
        (All-part c.args.node.now.level c.args.node.now.entries.items c.split-first.result.1.items _
        c.split-first.ensures.divided.second_is c.requires.refers),
  ),
)

pub returns-clause-settled : goal.returns-clause-settled
returns-clause-settled g c = λ h top held branches are can.
    let first = c.split-first.result.0.items in
    let second = c.split-first.result.1.items in
    let other : c.least-other.result ≡ least_box g.row.D (map item_of second) =
    c.least-other.ensures
    ∙ ap (λ (es : List (Entry g.row.D)). least_box g.row.D (map item_of es)) c.as_slice-2.ensures.value in
    let item : ◌≡◌ {A = Item} (record { bounds = c.least-other.result; reference = c.from.result; tag = 0 })
    (record {
      bounds = least_box g.row.D (map item_of second);
      reference = c.in_ok-number.number;
      tag = 0;
    }) =
    ap (λ b. let i : Item = record { bounds = b; reference = c.from.result; tag = 0 } in i) other
    ∙ ap (λ r. let i : Item =
    record { bounds = least_box g.row.D (map item_of second); reference = r; tag = 0 } in i)
    c.from.ensures in
    let written = c.in_ok-number.ensures.written h can.live in (
      written.0,
      split_settled c.args.fanout.most top c.args.node.now.level c.args.waiting.now.called branches
          c.args.node.now.entries.items _ _ c.args.page _ _ _ _ are can
          c.in_ok-number.number
          (record { bounds = c.least-other.result; reference = c.from.result; tag = 0 }) first second
          c.split-first.ensures.divided
          c.requires.many held
          (c.least-bounds.ensures
          ∙ ap (λ (es : List (Entry g.row.D)). least_box g.row.D (map item_of es))
          c.as_slice.ensures.value) refl item
          c.call.ensures.waits c.call.ensures.called written.1,
    )

pub returns-in_err-number-clause-other_faults : goal.returns-in_err-number-clause-other_faults
returns-in_err-number-clause-other_faults g c =
    at_error c.from_residual.result c.in_err-number.field-0.0 (IsChangeFault c.write_both.new.cache)
    c.from_residual.ensures.1
    c.in_err-number.ensures.other_faults

pub returns-clause-sound : goal.returns-clause-sound
returns-clause-sound g c = λ h live. (c.in_ok-number.ensures.written h live).0
