use Rattle.std.proofs.Common.{rules, refl, ◌≡◌, ℕ, ◌+◌, ◌<◌, List, length, arith, subst, sym, ap}
use Rattle.tree_node.specs.Keys.{AtMost}
use Rattle.tree_node.proofs.KeyLemmas.{AtMost-itself, AtMost-other, AtMost-trans}
use Rattle.node_bytes.specs.Views.{content_in}
use Rattle.choose_subtree.specs.declared.key.Key.{Key}
use Rattle.choose_subtree.specs.Choice.{overlap_growth, area_key, numbers_with, numbers_of}
use Rattle.choose_subtree.proofs.ChoiceLaws.{IsBest, best_of_none, best_keeps, best_takes, numbers_of-is}
use Rattle.choose_subtree.proofs.ChoiceLaws.{first_least-of_best, first_least-of_zero}
use Rattle.choose_subtree.proofs.choice.least_overlap.Goals as goal
use Rattle.choose_subtree.proofs.choice.least_overlap.Goals.{in-Some+then-not-at_most}
use Rattle.choose_subtree.proofs.choice.least_overlap.Goals.{in-Some+else-not-at_most, in_default}

pub returns-then-overlap-eq0 : goal.returns-then-overlap-eq0
returns-then-overlap-eq0 g c =
    let e = (content_in c.args.node.now).entries in
    let count = length (content_in c.args.node.now).entries in
    first_least-of_zero (overlap_growth g.row.D e c.args.new.now) (area_key g.row.D e c.args.new.now) count
    c.least_area-first.result c.least_area-first.ensures
    (omega (arith, c.whole_overlap_growth-overlap.ensures))

pub loop-k-init : goal.loop-k-init
loop-k-init g c =
    let e = (content_in c.args.node.now).entries in
    let count = length (content_in c.args.node.now).entries in
    let f = c.least_area-first.result in
    let key : ℕ
    → List ℕ = λ k. numbers_with (overlap_growth g.row.D e c.args.new.now k) g.row.D e c.args.new.now k in
    let b = c.key_of-best.result in
    let is : numbers_of b ≡ key f =
    numbers_of-is g.row.D e c.args.new.now f _ _ _ c.whole_overlap_growth-overlap.ensures
    c.key_of-best.ensures in (
      subst (IsBest key count 0 (numbers_of b)) (sym (ap (λ (x : Key). x.position) c.key_of-best.ensures))
          (best_of_none key count (numbers_of b) f c.least_area-first.ensures.within is),
      subst (AtMost (numbers_of b)) is (AtMost-itself (numbers_of b)),
    )

pub loop-k-preserved-then-k-first : goal.loop-k-preserved-then-k-first
loop-k-preserved-then-k-first g c =
    let e = (content_in c.args.node.now).entries in
    let key : ℕ
    → List ℕ = λ k. numbers_with (overlap_growth g.row.D e c.args.new.now k) g.row.D e c.args.new.now k in
    let b = c.loop-k.best in
    let i = c.loop-k.invariant in (
      best_keeps key (length (content_in c.args.node.now).entries) c.loop-k.k (numbers_of b) b.position i.0
          (subst (λ k. AtMost (numbers_of b) (key k)) (sym c.if-k-first.true) i.1),
      i.1,
    )

pub loop-k-preserved : goal.loop-k-preserved
loop-k-preserved g c =
    let e = (content_in c.args.node.now).entries in
    let count = length (content_in c.args.node.now).entries in
    let new = c.args.new.now in
    let key : ℕ → List ℕ = λ k. numbers_with (overlap_growth g.row.D e new k) g.row.D e new k in
    let k = c.loop-k.k in
    let f = c.least_area-first.result in
    let b = c.loop-k.best in
    let i = c.loop-k.invariant in
    let turn : Key
    → Type 0 = λ x. IsBest key count (k + 1) (numbers_of x) x.position × AtMost (numbers_of x) (key f) in
    elim c.match-overlap_growth_up_to.branch [
      | in-Some+then-not-at_most w ↦
          let is : numbers_of w.key_of-key.result ≡ key k =
          numbers_of-is g.row.D e new k _ _ _ w.in-Some.ensures.value w.key_of-key.ensures in
          let fails : AtMost (numbers_of b) (numbers_of w.key_of-key.result)
          → ⊥ = λ h. let t = w.at_most.ensures.1 h in search rules in
          let taken : IsBest key count (k + 1) (numbers_of w.key_of-key.result) k =
          best_takes key count k (numbers_of b) b.position (numbers_of w.key_of-key.result) i.0
          (omega (arith, c.loop-k-test.true, c.len-k-end.ensures.count)) is refl fails in
          let less = AtMost-other (numbers_of b) (numbers_of w.key_of-key.result) refl fails in
          subst turn (sym w.best-is) (
            subst (IsBest key count (k + 1) (numbers_of w.key_of-key.result))
                (sym (ap (λ (x : Key). x.position) w.key_of-key.ensures)) taken,
            AtMost-trans (numbers_of w.key_of-key.result) (numbers_of b) (key f) less i.1,
          )
      | in-Some+else-not-at_most w ↦
          let is : numbers_of w.key_of-key.result ≡ key k =
          numbers_of-is g.row.D e new k _ _ _ w.in-Some.ensures.value w.key_of-key.ensures in
          subst turn (sym w.best-is) (
            best_keeps key count k (numbers_of b) b.position i.0
                (subst (AtMost (numbers_of b)) is (w.at_most.ensures.0 (search rules))),
            i.1,
          )
      | in_default w ↦
          let past : b.overlap < overlap_growth g.row.D e new k = w.in_default.ensures.large (search rules) in
          subst turn (sym w.best-is) (
            best_keeps key count k (numbers_of b) b.position i.0 (omega arith, λ s. absurd (omega arith)),
            i.1,
          )
    ]

pub returns : goal.returns
returns g c =
    first_least-of_best g.row.D (content_in c.args.node.now).entries c.args.new.now (length (content_in c.args.node.now).entries)
    c.loop-k.k _ _ (omega arith) c.loop-k.invariant.0
