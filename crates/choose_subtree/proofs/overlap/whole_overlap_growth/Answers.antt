use Rattle.std.proofs.Common.{ℕ, ◌+◌, arith, refl, rules}
use Rattle.box_math.proofs.BoxLaws.{join_of-encloses}
use Rattle.node_bytes.specs.Views.{content_in}
use Rattle.choose_subtree.proofs.OverlapLaws.{GrewBy, overlap_more, overlap_more-same, overlap_growth-is}
use Rattle.choose_subtree.proofs.OverlapLaws.{overlap_growth-none}
use Rattle.choose_subtree.proofs.MaskLaws.{passes}
use Rattle.choose_subtree.proofs.overlap.whole_overlap_growth.Goals as goal
use Rattle.choose_subtree.proofs.overlap.whole_overlap_growth.Goals.{then-place-k, else-place-k}

pub overlap_gain-sum-requires : goal.overlap_gain-sum-requires
overlap_gain-sum-requires g c = (
  search rules,
  (
    c.args.node.now.dims,
    rw c.join-after.ensures.value (join_of-encloses g.row.D c.box_in-before.result c.args.new.now).0,
  ),
)

pub entries-init : goal.entries-init
entries-init g c = record {
  value = passes g.row.D (content_in c.args.node.now).entries c.args.new.now c.args.k 0
      c.next_of-place.result 0 c.box_in-before.result c.join-after.result c.mask-near.result
      c.box_in-before.ensures.value c.join-after.ensures.value c.box_in-before.ensures.is_box
      c.requires.boxes c.next_of-place.ensures.within (omega (arith, c.next_of-place.ensures.few, c.len.ensures.count))
      c.mask-near.ensures.met c.next_of-place.ensures.unset refl;
  few = omega (arith, c.next_of-place.ensures.few, c.len.ensures.count);
  bound = omega arith;
}

pub entries-preserved : goal.entries-preserved
entries-preserved g c =
    let e = (content_in c.args.node.now).entries in
    let k = c.args.k in
    let i = c.entries.place in
    let on : (s : ℕ) → GrewBy g.row.D e c.args.new.now k (i + 1) s
    → GrewBy g.row.D e c.args.new.now k c.next_of-place-in-entries.result s = λ s h.
    passes g.row.D e c.args.new.now k (i + 1) c.next_of-place-in-entries.result s c.box_in-before.result
    c.join-after.result c.mask-near.result c.box_in-before.ensures.value c.join-after.ensures.value
    c.box_in-before.ensures.is_box c.requires.boxes c.next_of-place-in-entries.ensures.within
    (omega (arith, c.next_of-place-in-entries.ensures.few, c.len.ensures.count)) c.mask-near.ensures.met
    c.next_of-place-in-entries.ensures.unset h in
    elim c.if-place-k.branch [
      | then-place-k w ↦ record {
        value = rw w.sum-is (on _
            (overlap_more g.row.D e c.args.new.now k i c.entries.sum w.overlap_gain-sum.result _ _ _
            c.box_in-before.ensures.value c.join-after.ensures.value w.box_in.ensures.value (omega arith)
            c.entries.invariant.value w.overlap_gain-sum.ensures.value));
        few = omega (arith, c.next_of-place-in-entries.ensures.few, c.len.ensures.count);
        bound = omega (arith, c.next_of-place-in-entries.ensures.within);
      }
      | else-place-k w ↦ record {
        value = rw w.sum-is (on _
            (overlap_more-same g.row.D e c.args.new.now k i c.entries.sum (omega arith)
            c.entries.invariant.value));
        few = omega (arith, c.next_of-place-in-entries.ensures.few, c.len.ensures.count);
        bound = omega (arith, c.next_of-place-in-entries.ensures.within);
      }
    ]

pub returns : goal.returns
returns g c =
    overlap_growth-is g.row.D (content_in c.args.node.now).entries c.args.new.now c.args.k c.entries.place
    c.entries.sum (omega (arith, c.entries-test.false, c.entries.invariant.few, c.len.ensures.count))
    c.entries.invariant.value

pub returns-then-encloses : goal.returns-then-encloses
returns-then-encloses g c =
    overlap_growth-none g.row.D (content_in c.args.node.now).entries c.args.new.now c.args.k
    c.box_in-before.result c.box_in-before.ensures.value c.box_in-before.ensures.is_box
    (c.encloses.ensures.encloses.0 c.if-encloses.true)
