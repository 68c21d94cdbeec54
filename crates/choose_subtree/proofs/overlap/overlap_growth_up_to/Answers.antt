use Rattle.std.proofs.Common.{ℕ, ◌+◌, arith, refl, rules}
use Rattle.box_math.proofs.BoxLaws.{join_of-encloses}
use Rattle.tree_node.specs.Boxes.{no_item}
use Rattle.node_bytes.specs.Views.{content_in}
use Rattle.choose_subtree.proofs.OverlapLaws.{GrewBy, overlap_more, overlap_more-same, overlap_growth-is}
use Rattle.choose_subtree.proofs.OverlapLaws.{overlap_growth-le, overlap_growth-part}
use Rattle.choose_subtree.proofs.MaskLaws.{passes}
use Rattle.choose_subtree.proofs.overlap.overlap_growth_up_to.Goals as goal
use Rattle.choose_subtree.proofs.overlap.overlap_growth_up_to.Goals.{then-place-k+else-limit-sum, else-place-k}

pub overlap_gain-requires : goal.overlap_gain-requires
overlap_gain-requires g c = (
  search rules,
  (
    c.args.node.now.dims,
    rw c.join-after.ensures.value (join_of-encloses g.row.D c.box_in-before.result c.args.new.now).0,
  ),
)

pub returns-then-limit-overlap_gain-clause-large : goal.returns-then-limit-overlap_gain-clause-large
returns-then-limit-overlap_gain-clause-large g c _ =
    let part =
    overlap_growth-part g.row.D (content_in c.args.node.now).entries c.args.new.now c.args.k c.args.other
    c.overlap_gain.result _ _ _ c.box_in-before.ensures.value c.join-after.ensures.value
    c.box_in.ensures.value (omega arith) c.requires.other (λ j l. c.requires.boxes j no_item l)
    c.requires.within c.overlap_gain.ensures.value in
    omega (arith, part)

pub overlap_gain-sum-requires : goal.overlap_gain-sum-requires
overlap_gain-sum-requires g c = (
  search rules,
  (
    c.args.node.now.dims,
    rw c.join-after.ensures.value (join_of-encloses g.row.D c.box_in-before.result c.args.new.now).0,
  ),
)

pub entries-init : goal.entries-init
entries-init g c = record {
  value = passes g.row.D (content_in c.args.node.now).entries c.args.new.now c.args.k 0
      c.next_of-place.result 0 c.box_in-before.result c.join-after.result c.mask-near.result
      c.box_in-before.ensures.value c.join-after.ensures.value c.box_in-before.ensures.is_box
      c.requires.boxes c.next_of-place.ensures.within (omega (arith, c.next_of-place.ensures.few, c.len.ensures.count))
      c.mask-near.ensures.met c.next_of-place.ensures.unset refl;
  few = omega (arith, c.next_of-place.ensures.few, c.len.ensures.count);
  bound = omega arith;
  small = omega arith;
}

pub returns-then-limit-sum-clause-large : goal.returns-then-limit-sum-clause-large
returns-then-limit-sum-clause-large g c _ =
    let e = (content_in c.args.node.now).entries in
    let k = c.args.k in
    let i = c.entries.place in
    let sums =
    overlap_more g.row.D e c.args.new.now k i c.entries.sum c.overlap_gain-sum.result _ _ _
    c.box_in-before.ensures.value c.join-after.ensures.value c.box_in-then-place-k.ensures.value
    (omega arith) c.entries.invariant.value c.overlap_gain-sum.ensures.value in
    let most =
    overlap_growth-le g.row.D e c.args.new.now k (i + 1) (c.entries.sum + c.overlap_gain-sum.result)
    (omega (arith, c.entries-test.true, c.len.ensures.count)) (λ j l. c.requires.boxes j no_item l)
    c.requires.within sums in
    omega (arith, most)

pub entries-preserved : goal.entries-preserved
entries-preserved g c =
    let e = (content_in c.args.node.now).entries in
    let k = c.args.k in
    let i = c.entries.place in
    let on : (s : ℕ) → GrewBy g.row.D e c.args.new.now k (i + 1) s
    → GrewBy g.row.D e c.args.new.now k c.next_of-place-in-entries.result s = λ s h.
    passes g.row.D e c.args.new.now k (i + 1) c.next_of-place-in-entries.result s c.box_in-before.result
    c.join-after.result c.mask-near.result c.box_in-before.ensures.value c.join-after.ensures.value
    c.box_in-before.ensures.is_box c.requires.boxes c.next_of-place-in-entries.ensures.within
    (omega (arith, c.next_of-place-in-entries.ensures.few, c.len.ensures.count)) c.mask-near.ensures.met
    c.next_of-place-in-entries.ensures.unset h in
    elim c.if-place-k.branch [
      | then-place-k+else-limit-sum w ↦ record {
        value = rw w.sum-is (on _
            (overlap_more g.row.D e c.args.new.now k i c.entries.sum w.overlap_gain-sum.result _ _ _
            c.box_in-before.ensures.value c.join-after.ensures.value w.box_in-then-place-k.ensures.value
            (omega arith) c.entries.invariant.value w.overlap_gain-sum.ensures.value));
        few = omega (arith, c.next_of-place-in-entries.ensures.few, c.len.ensures.count);
        bound = omega (arith, c.next_of-place-in-entries.ensures.within);
        small = omega arith;
      }
      | else-place-k w ↦ record {
        value = rw w.sum-is (on _
            (overlap_more-same g.row.D e c.args.new.now k i c.entries.sum (omega arith)
            c.entries.invariant.value));
        few = omega (arith, c.next_of-place-in-entries.ensures.few, c.len.ensures.count);
        bound = omega (arith, c.next_of-place-in-entries.ensures.within);
        small = omega arith;
      }
    ]

pub returns-clause-value : goal.returns-clause-value
returns-clause-value g c =
    overlap_growth-is g.row.D (content_in c.args.node.now).entries c.args.new.now c.args.k c.entries.place
    c.entries.sum (omega (arith, c.entries-test.false, c.entries.invariant.few, c.len.ensures.count))
    c.entries.invariant.value
