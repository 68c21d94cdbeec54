-- The goals of the descent that are proved by hand.
use Rattle.std.proofs.Common.{◌≡◌, ◌∙◌, ◌+◌, ◌-◌, ◌<◌, None, [], ap, inl, inr, length, refl, sym}
use Rattle.std.proofs.Common.{⊎_elim, arith, rules}
use Rattle.std.specs.Int.{w128}
use Rattle.std.proofs.lemmas.List.{length-map}
use Rattle.box_math.specs.Measures.{near_test}
use Rattle.page_file.specs.Fault.{IsOfDevice}
use Rattle.page_file.specs.declared.fault.Fault.TheVariants as fault
use Rattle.page_cache.specs.Cache.{given, pages}
use Rattle.page_cache.specs.Calls.{AsksUntil, asks_and_refuses, asks_in_turn, no_call_asks}
use Rattle.tree_node.specs.Nodes.{content_of, item_of}
use Rattle.node_page.specs.Checked.{ComesBelow, ComesTo}
use Rattle.node_page.proofs.DamageLemmas.{comes_below_so, comes_to_child, damaged_read}
use Rattle.node_page.proofs.LeafLemmas.{below_first}
use Rattle.node_page.proofs.NodeLemmas.{at_error}
use Rattle.spatial_join.proofs.DamageLemmas.{names_here}
use Rattle.spatial_join.proofs.DescentLemmas.{all_added, all_looked, all_passed, asks_and_runs_out, begins}
use Rattle.spatial_join.proofs.DescentLemmas.{beside_begins, both_above, end_added, end_looked, entry_added}
use Rattle.spatial_join.proofs.DescentLemmas.{entry_here, here_alone, leaf_beside, leaves_joined, next_reached, nothing_near}
use Rattle.spatial_join.proofs.DescentLemmas.{object_added, opened_first, opened_second, page_fits}
use Rattle.spatial_join.proofs.DescentLemmas.{right_here, second_stands, went_below}
use Rattle.spatial_join.proofs.MaskLemmas.{near_here, none_set, place_within, some_before}
use Rattle.spatial_join.proofs.OpeningLemmas.{leaves_together, levels_fall}
use Rattle.spatial_join.proofs.pairs.+descent.Goals as goal
use Rattle.spatial_join.proofs.pairs.+descent.Goals.{add_pairs-then-left-eq0+in_ok-push_pairs}
use Rattle.spatial_join.proofs.pairs.+descent.Goals.{add_pairs-else-left-eq0+in_ok-add_pairs_of_entry}

-- ---- the entries of the left node

pub add_pairs-loop-entry-init : goal.add_pairs-loop-entry-init
add_pairs-loop-entry-init g t c =
    begins g.row.D c.args.reach.limit c.args.cache.now (content_of c.args.left.now)
    (content_of c.args.right.now) c.args.pairs.now.items

pub add_pairs-returns-in_err-push_pairs-clause-asks : goal.add_pairs-returns-in_err-push_pairs-clause-asks
add_pairs-returns-in_err-push_pairs-clause-asks g t c =
    asks_and_runs_out c.args.cache.now c.loop-entry.cache c.in_err-push_pairs.field-0.0
    c.from_residual.result c.from_residual.ensures.1 c.in_err-push_pairs.ensures.memory
    c.loop-entry.invariant.asks

pub add_pairs-add_pairs_of_entry-requires : goal.add_pairs-add_pairs_of_entry-requires
add_pairs-add_pairs_of_entry-requires g t c κs within =
    let above : 0 < c.args.left.now.level = omega (arith, c.if-left-eq0.false) in
    let fits =
    page_fits c.args.left.now.entries.items c.as_slice-entry-items.result.now c.loop-entry.entry-index
    c.entry-item.result (c.requires.left_pages above) c.as_slice-entry-items.ensures.value
    (omega (arith, c.loop-entry-test.true)) c.entry-item.is in
    let same = c.columns_of-columns.ensures in (
      omega (arith, c.decreases, ap (λ n. n.level) same),
      (
        search rules,
        (
          within.0,
          (
            within.1.0,
            (
              within.1.1,
              (
                search rules,
                (
                  search rules,
                  (
                    above,
                    (
                      rw same
                          (both_above c.args.left.now.level c.args.right.now.level c.requires.leaves above),
                      (fits, rw same c.requires.right_pages),
                    ),
                  ),
                ),
              ),
            ),
          ),
        ),
      ),
    )

pub add_pairs-returns-in_err-add_pairs_of_entry-clause-asks : goal.add_pairs-returns-in_err-add_pairs_of_entry-clause-asks
add_pairs-returns-in_err-add_pairs_of_entry-clause-asks g t c =
    asks_and_refuses c.args.cache.now c.loop-entry.cache c.add_pairs_of_entry.new.cache
    c.in_err-add_pairs_of_entry.field-0.0 c.from_residual-in_err-add_pairs_of_entry.result
    c.from_residual-in_err-add_pairs_of_entry.ensures.1 c.loop-entry.invariant.asks
    c.in_err-add_pairs_of_entry.ensures.asks

pub add_pairs-returns-in_err-add_pairs_of_entry-clause-stands : goal.add_pairs-returns-in_err-add_pairs_of_entry-clause-stands
add_pairs-returns-in_err-add_pairs_of_entry-clause-stands g t c = λ h s r first second.
    let one = here_alone c.loop-entry.entry-index c.loop-entry.invariant (item_of c.entry-item.result) _
    (λ s same. entry_here s c.as_slice-entry-items.result.now c.args.left.now.entries.items
    c.loop-entry.entry-index c.entry-item.result same c.as_slice-entry-items.ensures.value
    (omega (arith, c.loop-entry-test.true)) c.entry-item.is)
    h s first in
    let other = right_here c.loop-entry.entry-index c.loop-entry.invariant (item_of c.entry-item.result) _
    (λ s same. entry_here s c.as_slice-entry-items.result.now c.args.left.now.entries.items
    c.loop-entry.entry-index c.entry-item.result same c.as_slice-entry-items.ensures.value
    (omega (arith, c.loop-entry-test.true)) c.entry-item.is)
    h r second in
    at_error c.from_residual-in_err-add_pairs_of_entry.result c.in_err-add_pairs_of_entry.field-0.0
    IsOfDevice c.from_residual-in_err-add_pairs_of_entry.ensures.1
    (c.in_err-add_pairs_of_entry.ensures.stands (c.loop-entry.invariant.asks.gate.honest.0 h) _ _ one
    (rw (sym c.columns_of-columns.ensures) at other))

pub add_pairs-loop-entry-preserved : goal.add_pairs-loop-entry-preserved
add_pairs-loop-entry-preserved g t c =
    elim c.if-left-eq0.branch [
      | add_pairs-then-left-eq0+in_ok-push_pairs w ↦ rw (w.cache-is, w.pairs-is)
          (object_added c.loop-entry.entry-index c.loop-entry.invariant (item_of c.entry-item.result) _
          (λ s same. entry_here s c.as_slice-entry-items.result.now c.args.left.now.entries.items
          c.loop-entry.entry-index c.entry-item.result same c.as_slice-entry-items.ensures.value
          (omega (arith, c.loop-entry-test.true)) c.entry-item.is)
          w.if-left-eq0.true (c.requires.leaves.0 w.if-left-eq0.true) w.push_pairs.new.pairs.items
          (rw (sym c.columns_of-columns.ensures) w.in_ok-push_pairs.ensures.pairs))
      | add_pairs-else-left-eq0+in_ok-add_pairs_of_entry w ↦ rw (w.cache-is, w.pairs-is)
          (entry_added c.loop-entry.entry-index c.loop-entry.invariant (item_of c.entry-item.result) _
          (λ s same. entry_here s c.as_slice-entry-items.result.now c.args.left.now.entries.items
          c.loop-entry.entry-index c.entry-item.result same c.as_slice-entry-items.ensures.value
          (omega (arith, c.loop-entry-test.true)) c.entry-item.is)
          w.add_pairs_of_entry.new.cache w.add_pairs_of_entry.new.pairs.items
          w.in_ok-add_pairs_of_entry.ensures.asks
          (λ h s r first second e e'. w.in_ok-add_pairs_of_entry.ensures.pairs h s r first
          (rw c.columns_of-columns.ensures second) e e')
          (λ h s r first second. w.in_ok-add_pairs_of_entry.ensures.looks h s r first
          (rw c.columns_of-columns.ensures second)))
    ]

pub add_pairs-returns-clause-asks : goal.add_pairs-returns-clause-asks
add_pairs-returns-clause-asks g t c = c.loop-entry.invariant.asks

pub add_pairs-returns-clause-pairs : goal.add_pairs-returns-clause-pairs
add_pairs-returns-clause-pairs g t c =
    λ h s r first second e e'. all_added c.loop-entry.entry-index c.loop-entry.invariant
    (all_passed c.as_slice-entry-items.result.now c.args.left.now.entries.items c.loop-entry.entry-index
    c.as_slice-entry-items.ensures.value c.loop-entry-test.false) h s r first second e e'

pub add_pairs-returns-clause-looks : goal.add_pairs-returns-clause-looks
add_pairs-returns-clause-looks g t c =
    λ h s r first second. all_looked c.loop-entry.entry-index c.loop-entry.invariant h s r first second

-- ---- the entries of the right node beside one of the left

pub add_pairs_of_entry-returns-then-mask-eq0-clause-pairs : goal.add_pairs_of_entry-returns-then-mask-eq0-clause-pairs
add_pairs_of_entry-returns-then-mask-eq0-clause-pairs g t c = λ h s r first second e e'.
    nothing_near c.args.reach.limit c.args.cache.now c.args.level (item_of c.args.entry.now)
    (content_of c.args.right.now.node.now) c.args.pairs.now.items c.mask-mask.result c.mask-mask.ensures
    (none_set c.mask-mask.result c.if-mask-eq0.true) h s r first second e e'

pub add_pairs_of_entry-other-init : goal.add_pairs_of_entry-other-init
add_pairs_of_entry-other-init g t c =
    (beside_begins c.in_ok-first.ensures.asks c.in_ok-first.ensures.looks refl, omega arith)

pub add_pairs_of_entry-next_place-requires : goal.add_pairs_of_entry-next_place-requires
add_pairs_of_entry-next_place-requires g t c = omega (arith, c.other.invariant.1, c.args.right.now.few)

pub add_pairs_of_entry-returns-in_err-second-clause-asks : goal.add_pairs_of_entry-returns-in_err-second-clause-asks
add_pairs_of_entry-returns-in_err-second-clause-asks g t c =
    asks_and_refuses c.args.cache.now c.other.cache c.open-in-Some.new.cache c.in_err-second.field-0.0
    c.from_residual-in_err-second.result c.from_residual-in_err-second.ensures.1 c.other.invariant.0.asks
    c.in_err-second.ensures.asks

pub add_pairs_of_entry-returns-in_err-second-clause-stands : goal.add_pairs_of_entry-returns-in_err-second-clause-stands
add_pairs_of_entry-returns-in_err-second-clause-stands g t c = λ h s r first second.
    let set = c.in-Some.ensures.set.2 in
    let within =
    place_within c.deref.result.now c.args.right.now.node.now.entries.items c.in-Some.place c.mask-mask.result
    c.mask-mask.ensures set c.deref.ensures.0 in
    let reached =
    next_reached c.other.from c.mask-mask.result c.other.invariant.0 c.mask-mask.ensures c.in-Some.place
    c.in-Some.ensures.set.0 (omega (arith, c.mask-mask.ensures.within c.in-Some.place set))
    c.in-Some.ensures.first in
    let b = second_stands c.in-Some.place reached (item_of c.index-deref-place.result) _
    (λ r same. entry_here r c.deref.result.now c.args.right.now.node.now.entries.items c.in-Some.place
    c.index-deref-place.result same c.deref.ensures.0 within c.index-deref-place.is)
    c.requires.above c.requires.right_above c.other.cache (no_call_asks c.other.cache) h r second in
    at_error c.from_residual-in_err-second.result c.in_err-second.field-0.0 IsOfDevice
    c.from_residual-in_err-second.ensures.1
    (c.in_err-second.ensures.stands (c.other.invariant.0.asks.gate.honest.0 h) b.0 b.1)

pub add_pairs_of_entry-returns-in_err-first-clause-stands : goal.add_pairs_of_entry-returns-in_err-first-clause-stands
add_pairs_of_entry-returns-in_err-first-clause-stands g t c = λ h s r first second.
    let b =
    below_first g.row.D (pages c.args.cache.now) c.args.level s (item_of c.args.entry.now) [] first.items
    c.requires.above first.below in
    at_error c.from_residual.result c.in_err-first.field-0.0 IsOfDevice c.from_residual.ensures.1
    (c.in_err-first.ensures.stands h b.0 b.1)

pub add_pairs_of_entry-overflow_cast-beside : goal.add_pairs_of_entry-overflow_cast-beside
add_pairs_of_entry-overflow_cast-beside g t c =
    let within =
    place_within c.deref.result.now c.args.right.now.node.now.entries.items c.in-Some.place c.mask-mask.result
    c.mask-mask.ensures c.in-Some.ensures.set.2 c.deref.ensures.0 in
    record {
      fits = page_fits c.args.right.now.node.now.entries.items c.deref.result.now c.in-Some.place
          c.index-deref-place.result (c.requires.right_pages c.requires.right_above) c.deref.ensures.0 within
          c.index-deref-place.is;
    }

-- ---- the leaves below two entries

pub add_pairs_of_entry-returns-in_err-add_leaf_pairs-clause-asks : goal.add_pairs_of_entry-returns-in_err-add_leaf_pairs-clause-asks
add_pairs_of_entry-returns-in_err-add_leaf_pairs-clause-asks g t c =
    asks_and_refuses c.args.cache.now c.other.cache c.add_leaf_pairs.new.cache
    c.in_err-add_leaf_pairs.field-0.0 c.from_residual-in_err-add_leaf_pairs.result
    c.from_residual-in_err-add_leaf_pairs.ensures.1 c.other.invariant.0.asks
    c.in_err-add_leaf_pairs.ensures.asks

pub add_pairs_of_entry-returns-in_err-add_leaf_pairs-clause-stands : goal.add_pairs_of_entry-returns-in_err-add_leaf_pairs-clause-stands
add_pairs_of_entry-returns-in_err-add_leaf_pairs-clause-stands g t c = λ h s r first second.
    let set = c.in-Some.ensures.set.2 in
    let within =
    place_within c.deref.result.now c.args.right.now.node.now.entries.items c.in-Some.place c.mask-mask.result
    c.mask-mask.ensures set c.deref.ensures.0 in
    let reached =
    next_reached c.other.from c.mask-mask.result c.other.invariant.0 c.mask-mask.ensures c.in-Some.place
    c.in-Some.ensures.set.0 (omega (arith, c.mask-mask.ensures.within c.in-Some.place set))
    c.in-Some.ensures.first in
    let b = leaf_beside c.in-Some.place reached (item_of c.index-deref-place.result) _
    (λ r same. entry_here r c.deref.result.now c.args.right.now.node.now.entries.items c.in-Some.place
    c.index-deref-place.result same c.deref.ensures.0 within c.index-deref-place.is)
    c.requires.above c.requires.right_above (content_of c.in_ok-first.first) c.in_ok-first.ensures.level
    c.if-first-eq0.true (λ h row at. c.in_ok-first.ensures.entries h row at) h r second in
    at_error c.from_residual-in_err-add_leaf_pairs.result c.in_err-add_leaf_pairs.field-0.0 IsOfDevice
    c.from_residual-in_err-add_leaf_pairs.ensures.1
    (c.in_err-add_leaf_pairs.ensures.there (c.other.invariant.0.asks.gate.honest.0 h) b.0 b.1 b.2)

pub add_pairs_of_entry-returns-in_err-add_leaf_pairs-clause-damage : goal.add_pairs_of_entry-returns-in_err-add_leaf_pairs-clause-damage
add_pairs_of_entry-returns-in_err-add_leaf_pairs-clause-damage g t c = λ h.
    let right = c.args.right.now.node.now in
    let other = c.index-deref-place.result in
    let within =
    place_within c.deref.result.now right.entries.items c.in-Some.place c.mask-mask.result
    c.mask-mask.ensures c.in-Some.ensures.set.2 c.deref.ensures.0 in
    let names =
    names_here (content_of right) c.deref.result.now right.entries.items c.in-Some.place other refl
    c.deref.ensures.0 c.requires.right_above within c.index-deref-place.is in
    at_error c.from_residual-in_err-add_leaf_pairs.result c.in_err-add_leaf_pairs.field-0.0 _
    c.from_residual-in_err-add_leaf_pairs.ensures.1
    (λ n damaged. inr
    (comes_to_child g.row.D (given c.args.cache.now) (content_of right) other.reference n names
    (damaged_read c.in_err-add_leaf_pairs.field-0.0 other.reference n
    (c.in_err-add_leaf_pairs.ensures.faults (c.other.invariant.0.asks.gate.honest.0 h)) damaged)))

pub add_pairs_of_entry-other-preserved-then-first-eq0 : goal.add_pairs_of_entry-other-preserved-then-first-eq0
add_pairs_of_entry-other-preserved-then-first-eq0 g t c =
    let right = c.args.right.now.node.now in
    let set = c.in-Some.ensures.set.2 in
    let within =
    place_within c.deref.result.now right.entries.items c.in-Some.place c.mask-mask.result
    c.mask-mask.ensures set c.deref.ensures.0 in
    let reached =
    next_reached c.other.from c.mask-mask.result c.other.invariant.0 c.mask-mask.ensures c.in-Some.place
    c.in-Some.ensures.set.0 (omega (arith, c.mask-mask.ensures.within c.in-Some.place set))
    c.in-Some.ensures.first in (
      leaves_joined c.in-Some.place reached (item_of c.index-deref-place.result) _
          (λ r same. entry_here r c.deref.result.now right.entries.items c.in-Some.place
          c.index-deref-place.result same c.deref.ensures.0 within c.index-deref-place.is)
          c.requires.above c.requires.right_above (content_of c.in_ok-first.first)
          c.in_ok-first.ensures.level c.if-first-eq0.true
          (λ h row at. c.in_ok-first.ensures.entries h row at)
          (near_here (near_test g.row.D c.args.reach.limit (item_of c.args.entry.now).bounds)
          c.deref.result.now right.entries.items c.in-Some.place c.mask-mask.result
          c.index-deref-place.result c.mask-mask.ensures set c.deref.ensures.0 c.index-deref-place.is)
          (omega arith) c.add_leaf_pairs.new.cache c.add_leaf_pairs.new.pairs.items
          c.in_ok-add_leaf_pairs.ensures.asks c.in_ok-add_leaf_pairs.ensures.looks
          (λ h content there leaf all. rw (sym c.columns_of-columns.ensures)
          (c.in_ok-add_leaf_pairs.ensures.pairs h content there leaf all)),
      omega (arith, within, ap length c.deref.ensures.0),
    )

pub add_pairs_of_entry-add_pairs-requires : goal.add_pairs_of_entry-add_pairs-requires
add_pairs_of_entry-add_pairs-requires g t c κs within =
    let right = c.args.right.now.node.now in
    let level = c.in_ok-first.ensures.level in
    let level' = c.in_ok-second.ensures.level in
    let fall : c.in_ok-first.first.level + c.in_ok-second.second.level < c.args.level + right.level =
    omega (
      arith,
      level,
      level',
      levels_fall c.args.level right.level c.requires.above c.requires.right_above,
    ) in
    let together = leaves_together (c.args.level - 1) (right.level - 1) in
    let leaves : c.in_ok-first.first.level ≡ 0
    → c.in_ok-second.second.level ≡ 0 = λ h. level' ∙ together.0 (sym level ∙ h) in
    let leaves' : c.in_ok-second.second.level ≡ 0
    → c.in_ok-first.first.level ≡ 0 = λ h. level ∙ together.1 (sym level' ∙ h) in (
      omega (arith, c.decreases, fall),
      (
        search rules,
        (
          within.0,
          (
            within.1.0,
            (
              within.1.1,
              (
                search rules,
                (
                  (leaves, leaves'),
                  (
                    c.in_ok-first.ensures.references,
                    (c.in_ok-second.ensures.references, c.in_ok-second.ensures.few),
                  ),
                ),
              ),
            ),
          ),
        ),
      ),
    )

pub add_pairs_of_entry-other-smaller : goal.add_pairs_of_entry-other-smaller
add_pairs_of_entry-other-smaller g t c = omega (arith, c.in-Some.ensures.set.0, c.in-Some.ensures.set.1)

pub add_pairs_of_entry-other-preserved : goal.add_pairs_of_entry-other-preserved
add_pairs_of_entry-other-preserved g t c =
    let right = c.args.right.now.node.now in
    let set = c.in-Some.ensures.set.2 in
    let within =
    place_within c.deref.result.now right.entries.items c.in-Some.place c.mask-mask.result
    c.mask-mask.ensures set c.deref.ensures.0 in
    let reached =
    next_reached c.other.from c.mask-mask.result c.other.invariant.0 c.mask-mask.ensures c.in-Some.place
    c.in-Some.ensures.set.0 (omega (arith, c.mask-mask.ensures.within c.in-Some.place set))
    c.in-Some.ensures.first in (
      went_below c.in-Some.place reached (item_of c.index-deref-place.result) _
          (λ r same. entry_here r c.deref.result.now right.entries.items c.in-Some.place
          c.index-deref-place.result same c.deref.ensures.0 within c.index-deref-place.is)
          c.requires.above c.requires.right_above c.open-in-Some.new.cache c.in_ok-second.ensures.asks
          (content_of c.in_ok-first.first) (content_of c.in_ok-second.second) c.in_ok-first.ensures.level
          c.in_ok-second.ensures.level
          (λ h row at. c.in_ok-first.ensures.entries h row at)
          (λ h row at. c.in_ok-second.ensures.entries h row at)
          (near_here (near_test g.row.D c.args.reach.limit (item_of c.args.entry.now).bounds)
          c.deref.result.now right.entries.items c.in-Some.place c.mask-mask.result
          c.index-deref-place.result c.mask-mask.ensures set c.deref.ensures.0 c.index-deref-place.is)
          (omega arith) c.add_pairs.new.cache c.add_pairs.new.pairs.items c.in_ok-add_pairs.ensures.asks
          c.in_ok-second.ensures.looks
          (λ h s r first second e e'. c.in_ok-add_pairs.ensures.pairs h s r first second e e')
          (λ h s r first second. c.in_ok-add_pairs.ensures.looks h s r first second),
      omega (arith, within, ap length c.deref.ensures.0),
    )

pub add_pairs_of_entry-returns-in_err-add_pairs-clause-asks : goal.add_pairs_of_entry-returns-in_err-add_pairs-clause-asks
add_pairs_of_entry-returns-in_err-add_pairs-clause-asks g t c =
    let asked : AsksUntil c.args.cache.now c.open-in-Some.new.cache None =
    asks_in_turn c.args.cache.now c.other.cache c.open-in-Some.new.cache None c.other.invariant.0.asks
    c.in_ok-second.ensures.asks in
    asks_and_refuses c.args.cache.now c.open-in-Some.new.cache c.add_pairs.new.cache
    c.in_err-add_pairs.field-0.0 c.from_residual-in_err-add_pairs.result
    c.from_residual-in_err-add_pairs.ensures.1 asked c.in_err-add_pairs.ensures.asks

pub add_pairs_of_entry-returns-in_err-add_pairs-clause-stands : goal.add_pairs_of_entry-returns-in_err-add_pairs-clause-stands
add_pairs_of_entry-returns-in_err-add_pairs-clause-stands g t c = λ h s r first second.
    let right = c.args.right.now.node.now in
    let set = c.in-Some.ensures.set.2 in
    let within =
    place_within c.deref.result.now right.entries.items c.in-Some.place c.mask-mask.result
    c.mask-mask.ensures set c.deref.ensures.0 in
    let reached =
    next_reached c.other.from c.mask-mask.result c.other.invariant.0 c.mask-mask.ensures c.in-Some.place
    c.in-Some.ensures.set.0 (omega (arith, c.mask-mask.ensures.within c.in-Some.place set))
    c.in-Some.ensures.first in
    let one = opened_first c.in-Some.place reached (item_of c.index-deref-place.result) _
    (λ r same. entry_here r c.deref.result.now right.entries.items c.in-Some.place
    c.index-deref-place.result same c.deref.ensures.0 within c.index-deref-place.is)
    c.requires.above c.requires.right_above c.open-in-Some.new.cache c.in_ok-second.ensures.asks
    (content_of c.in_ok-first.first) (content_of c.in_ok-second.second) c.in_ok-first.ensures.level
    c.in_ok-second.ensures.level
    (λ h row at. c.in_ok-first.ensures.entries h row at)
    (λ h row at. c.in_ok-second.ensures.entries h row at) h s first in
    let other = opened_second c.in-Some.place reached (item_of c.index-deref-place.result) _
    (λ r same. entry_here r c.deref.result.now right.entries.items c.in-Some.place
    c.index-deref-place.result same c.deref.ensures.0 within c.index-deref-place.is)
    c.requires.above c.requires.right_above c.open-in-Some.new.cache c.in_ok-second.ensures.asks
    (content_of c.in_ok-first.first) (content_of c.in_ok-second.second) c.in_ok-first.ensures.level
    c.in_ok-second.ensures.level
    (λ h row at. c.in_ok-first.ensures.entries h row at)
    (λ h row at. c.in_ok-second.ensures.entries h row at) h r second in
    at_error c.from_residual-in_err-add_pairs.result c.in_err-add_pairs.field-0.0 IsOfDevice
    c.from_residual-in_err-add_pairs.ensures.1
    (c.in_err-add_pairs.ensures.stands
    (c.in_ok-second.ensures.asks.gate.honest.0 (c.other.invariant.0.asks.gate.honest.0 h)) _ _ one other)

pub add_pairs_of_entry-returns-clause-asks : goal.add_pairs_of_entry-returns-clause-asks
add_pairs_of_entry-returns-clause-asks g t c = c.other.invariant.0.asks

pub add_pairs_of_entry-returns-clause-pairs : goal.add_pairs_of_entry-returns-clause-pairs
add_pairs_of_entry-returns-clause-pairs g t c = λ h s r first second e e'.
    end_added c.other.from c.mask-mask.result c.other.invariant.0 c.mask-mask.ensures
    (omega (arith, c.other.invariant.1, length-map c.args.right.now.node.now.entries.items item_of))
    c.in_default.ensures.none h s r first second e e'

pub add_pairs_of_entry-returns-clause-looks : goal.add_pairs_of_entry-returns-clause-looks
add_pairs_of_entry-returns-clause-looks g t c = λ h s r first second.
    end_looked c.other.from c.mask-mask.result c.other.invariant.0 c.mask-mask.ensures
    (some_before w128 c.mask-mask.result c.other.from c.mask-mask.type_inv c.if-mask-eq0.false
    c.in_default.ensures.none) h s r first second

pub add_pairs_of_entry-returns-then-mask-eq0-clause-asks : goal.add_pairs_of_entry-returns-then-mask-eq0-clause-asks
add_pairs_of_entry-returns-then-mask-eq0-clause-asks g k c = no_call_asks c.args.cache.now

-- ---- the page that is damaged

pub add_pairs-returns-in_err-push_pairs-clause-damage : goal.add_pairs-returns-in_err-push_pairs-clause-damage
add_pairs-returns-in_err-push_pairs-clause-damage g t c = λ h.
    at_error c.from_residual.result c.in_err-push_pairs.field-0.0 _
    c.from_residual.ensures.1
    (λ n (damaged : c.in_err-push_pairs.field-0.0 ≡ fault.Damaged n).
    let memory = c.in_err-push_pairs.ensures.memory in absurd (cc))

pub add_pairs-returns-in_err-add_pairs_of_entry-clause-damage : goal.add_pairs-returns-in_err-add_pairs_of_entry-clause-damage
add_pairs-returns-in_err-add_pairs_of_entry-clause-damage g t c = λ h.
    let old = given c.args.cache.now in
    let now = given c.loop-entry.cache in
    let left = content_of c.args.left.now in
    let right = content_of c.args.right.now in
    let asks = c.loop-entry.invariant.asks in
    let names =
    names_here left c.as_slice-entry-items.result.now c.args.left.now.entries.items c.loop-entry.entry-index
    c.entry-item.result refl c.as_slice-entry-items.ensures.value (omega (arith, c.if-left-eq0.false))
    (omega (arith, c.loop-entry-test.true)) c.entry-item.is in
    at_error c.from_residual-in_err-add_pairs_of_entry.result c.in_err-add_pairs_of_entry.field-0.0 _
    c.from_residual-in_err-add_pairs_of_entry.ensures.1
    (λ n damaged. ⊎_elim
    (λ (walk : ComesTo g.row.D now c.entry-item.result.reference n). inl
    (comes_below_so g.row.D old now left n (λ k. asks.map.given_stay h k)
    (c.entry-item.result.reference, names, walk)))
    (λ (walk : ComesBelow g.row.D now right n). inr
    (comes_below_so g.row.D old now right n (λ k. asks.map.given_stay h k) walk))
    (rw (sym c.columns_of-columns.ensures)
    (c.in_err-add_pairs_of_entry.ensures.damage (asks.gate.honest.0 h) n damaged)))

pub add_pairs_of_entry-returns-in_err-first-clause-damage : goal.add_pairs_of_entry-returns-in_err-first-clause-damage
add_pairs_of_entry-returns-in_err-first-clause-damage g t c = λ h.
    at_error c.from_residual.result c.in_err-first.field-0.0 _
    c.from_residual.ensures.1
    (λ n damaged. inl (
      [],
      damaged_read c.in_err-first.field-0.0 c.args.entry.now.reference n
          (c.in_err-first.ensures.faults h) damaged,
    ))

pub add_pairs_of_entry-returns-in_err-second-clause-damage : goal.add_pairs_of_entry-returns-in_err-second-clause-damage
add_pairs_of_entry-returns-in_err-second-clause-damage g t c = λ h.
    let right = c.args.right.now.node.now in
    let other = c.index-deref-place.result in
    let within =
    place_within c.deref.result.now right.entries.items c.in-Some.place c.mask-mask.result
    c.mask-mask.ensures c.in-Some.ensures.set.2 c.deref.ensures.0 in
    let names =
    names_here (content_of right) c.deref.result.now right.entries.items c.in-Some.place other refl
    c.deref.ensures.0 c.requires.right_above within c.index-deref-place.is in
    at_error c.from_residual-in_err-second.result c.in_err-second.field-0.0 _
    c.from_residual-in_err-second.ensures.1
    (λ n damaged. inr
    (comes_to_child g.row.D (given c.args.cache.now) (content_of right) other.reference n names
    (damaged_read c.in_err-second.field-0.0 other.reference n
    (c.in_err-second.ensures.faults (c.other.invariant.0.asks.gate.honest.0 h)) damaged)))

pub add_pairs_of_entry-returns-in_err-add_pairs-clause-damage : goal.add_pairs_of_entry-returns-in_err-add_pairs-clause-damage
add_pairs_of_entry-returns-in_err-add_pairs-clause-damage g t c = λ h.
    let right = c.args.right.now.node.now in
    let other = c.index-deref-place.result in
    let within =
    place_within c.deref.result.now right.entries.items c.in-Some.place c.mask-mask.result
    c.mask-mask.ensures c.in-Some.ensures.set.2 c.deref.ensures.0 in
    let names =
    names_here (content_of right) c.deref.result.now right.entries.items c.in-Some.place other refl
    c.deref.ensures.0 c.requires.right_above within c.index-deref-place.is in
    let old = given c.args.cache.now in
    let now = given c.other.cache in
    let two = given c.open-in-Some.new.cache in
    let first = content_of c.in_ok-first.first in
    let second = content_of c.in_ok-second.second in
    let asks = c.other.invariant.0.asks in
    let honest = asks.gate.honest.0 h in
    let asked : AsksUntil c.args.cache.now c.open-in-Some.new.cache None =
    asks_in_turn c.args.cache.now c.other.cache c.open-in-Some.new.cache None asks
    c.in_ok-second.ensures.asks in
    at_error c.from_residual-in_err-add_pairs.result c.in_err-add_pairs.field-0.0 _
    c.from_residual-in_err-add_pairs.ensures.1
    (λ n damaged. ⊎_elim
    (λ (walk : ComesBelow g.row.D two first n). inl
    (c.in_ok-first.ensures.walks h n
    (comes_below_so g.row.D old two first n (λ k. asked.map.given_stay h k) walk)))
    (λ (walk : ComesBelow g.row.D two second n). inr
    (comes_below_so g.row.D old now (content_of right) n (λ k. asks.map.given_stay h k) (
      other.reference,
      names,
      c.in_ok-second.ensures.walks honest n
          (comes_below_so g.row.D now two second n
          (λ k. c.in_ok-second.ensures.asks.map.given_stay honest k) walk),
    )))
    (c.in_err-add_pairs.ensures.damage (asked.gate.honest.0 h) n damaged))
