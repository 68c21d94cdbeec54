-- Entries that do not meet the box are passed over, and the others are looked at.
use Rattle.std.proofs.Common.{◌≡◌, ◌+◌, ◌<◌, ◌∙◌, List, length, ap, subst, sym, arith, rules}
use Rattle.box_math.specs.Bounds.{Within}
use Rattle.box_math.specs.Measures.{volume_of}
use Rattle.tree_node.specs.Boxes.{box_at}
use Rattle.tree_node.specs.Nodes.{Item}
use Rattle.node_bytes.specs.Views.{content_in}
use Rattle.choose_subtree.proofs.HolderSteps.{IsLeastHolder, holder_passes, holder_takes, least_is_chosen}
use Rattle.choose_subtree.proofs.MaskLaws.{unset_holds_not}
use Rattle.choose_subtree.proofs.holder.least_holder.Goals as goal
use Rattle.choose_subtree.proofs.holder.least_holder.Goals.{then-encloses, else-encloses}

pub entries-init : goal.entries-init
entries-init g c = λ j below lt inside.
    unset_holds_not g.row.D (content_in c.args.node.now).entries c.args.new.now c.mask-near.result j
    c.low.ensures.is_box c.mask-near.ensures.met (c.next_of-place.ensures.unset j (omega arith) below)
    lt inside

pub entries-preserved : goal.entries-preserved
entries-preserved g c =
    let D = g.row.D in
    let items : List Item = (content_in c.args.node.now).entries in
    let new = c.args.new.now in
    let place = c.entries.place in
    let held = c.box_in-held.result in
    let within : place < length items = omega (arith, c.entries-test.true, c.len.ensures.count) in
    let box : held ≡ box_at items place = c.box_in-held.ensures.value in
    holder_passes D items new (place + 1) c.next_of-place-in-entries.result c.if-encloses.least
    c.next_of-place-in-entries.ensures.within
    (λ j up below lt inside. unset_holds_not D items new c.mask-near.result j c.low.ensures.is_box
    c.mask-near.ensures.met (c.next_of-place-in-entries.ensures.unset j up below) lt inside)
    (elim c.if-encloses.branch [
      | then-encloses w ↦
          let inside : Within D new (box_at items place) =
          subst (Within D new) box (c.encloses.ensures.encloses.0 w.if-encloses.true) in
          let area = w.volume-area.ensures.value ∙ ap (volume_of D) box in
          subst (IsLeastHolder D items new (place + 1)) (sym w.least-is)
          (holder_takes D items new place c.entries.least w.volume-area.result w.lesser.result within
          inside area w.lesser.ensures.alone w.lesser.ensures.both c.entries.invariant)
      | else-encloses w ↦
          subst (IsLeastHolder D items new (place + 1)) (sym w.least-is)
          (holder_passes D items new place (place + 1) c.entries.least (omega arith)
          (λ j up below lt inside.
          let is : j ≡ place = omega (arith, up, below) in
          let holds : Within D new held =
          subst (Within D new) (ap (box_at items) is ∙ sym box) inside in
          let test = c.encloses.ensures.encloses.1 holds in
          absurd (cc)) c.entries.invariant)
    ])

pub returns-in-Some-clause-within : goal.returns-in-Some-clause-within
returns-in-Some-clause-within g c =
    let items : List Item = (content_in c.args.node.now).entries in
    (subst (IsLeastHolder g.row.D items c.args.new.now c.entries.place) c.in-Some.is c.entries.invariant).within

pub returns-in-Some-clause-chosen : goal.returns-in-Some-clause-chosen
returns-in-Some-clause-chosen g c =
    let items : List Item = (content_in c.args.node.now).entries in
    least_is_chosen g.row.D c.args.node.now.level items c.args.new.now c.entries.place c.in-Some.holder
    (omega (arith, c.entries-test.false, c.len.ensures.count)) c.requires.boxes
    (c.all_grow.ensures (search rules))
    (subst (IsLeastHolder g.row.D items c.args.new.now c.entries.place) c.in-Some.is c.entries.invariant)
