-- Entries that do not meet the box are passed over, and the others are looked at.
use Rattle.std.proofs.Common.{◌≡◌, ◌∙◌, ◌<◌, ◌≤◌, ℕ, List, length, ap, sym, subst, arith}
use Rattle.std.proofs.lemmas.Bool.{true≢false}
use Rattle.std.proofs.lemmas.List.{get_or_default}
use Rattle.box_math.specs.Bounds.{Within}
use Rattle.tree_node.specs.Boxes.{box_at, no_item}
use Rattle.tree_node.specs.Nodes.{Item, item_of}
use Rattle.node_bytes.specs.Views.{content_in}
use Rattle.choose_subtree.proofs.MaskLaws.{unset_holds_not}
use Rattle.condense.proofs.HoldLemmas.{up_to}
use Rattle.condense.proofs.look.next_enclosing.Goals as goal

pub entries-init : goal.entries-init
entries-init g c = (
  c.next_set-place.ensures.within,
  λ k below low lt.
      unset_holds_not g.row.D (content_in c.args.node.now).entries c.args.bounds.now c.mask-mask.result k
      c.low.ensures.is_box c.mask-mask.ensures.met (c.next_set-place.ensures.unset k low below) lt,
)

pub entries-preserved : goal.entries-preserved
entries-preserved g c =
    let D = g.row.D in
    let items : List Item = (content_in c.args.node.now).entries in
    let bounds = c.args.bounds.now in
    let place = c.entries.place in
    let x = c.entry.result in
    let box : place < length items
    → x.bounds ≡ box_at items place =
    λ within. ap (λ (y : Item). y.bounds)
    (c.entry.ensures ∙ get_or_default items place (item_of x) no_item within) in (
      omega (arith, c.entries.invariant.0, c.next_set-place-in-entries.ensures.within),
      up_to (λ (k : ℕ). c.args.from ≤ k → k < length items → ¬ Within D bounds (box_at items k)) place
          c.next_set-place-in-entries.result c.entries.invariant.1
          (λ low within inside. let encloses =
          c.encloses.ensures.encloses.1 (subst (Within D bounds) (sym (box within)) inside) in
          absurd (true≢false (sym encloses ∙ c.if-encloses.false)))
          (λ k up below low lt. unset_holds_not D items bounds c.mask-mask.result k c.low.ensures.is_box
          c.mask-mask.ensures.met (c.next_set-place-in-entries.ensures.unset k up below) lt),
    )

pub returns-clause-none : goal.returns-clause-none
returns-clause-none g c = λ k low below lt. c.entries.invariant.1 k below low lt

pub returns-then-encloses-clause-none : goal.returns-then-encloses-clause-none
returns-then-encloses-clause-none g c = λ k low below lt. c.entries.invariant.1 k below low lt

pub returns-clause-encloses : goal.returns-clause-encloses
returns-clause-encloses g c = λ within. absurd (omega (arith, within, c.entries-test.false, c.len.ensures.count))

pub returns-then-encloses-clause-encloses : goal.returns-then-encloses-clause-encloses
returns-then-encloses-clause-encloses g c = λ within.
    let items : List Item = (content_in c.args.node.now).entries in
    let box = ap (λ (y : Item). y.bounds)
    (c.entry.ensures ∙ get_or_default items c.entries.place (item_of c.entry.result) no_item within) in
    subst (Within g.row.D c.args.bounds.now) box (c.encloses.ensures.encloses.0 c.if-encloses.true)
