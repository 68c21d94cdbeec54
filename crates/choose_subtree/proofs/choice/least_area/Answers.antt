use Rattle.std.proofs.Common.{rules, refl, ◌≡◌, ◌+◌, length, arith, subst, sym, ap}
use Rattle.tree_node.specs.Keys.{AtMost}
use Rattle.node_bytes.specs.Views.{content_in}
use Rattle.choose_subtree.specs.declared.key.Key.{Key}
use Rattle.choose_subtree.specs.Choice.{numbers_with, numbers_of}
use Rattle.choose_subtree.proofs.ChoiceLaws.{IsBest, best_of_one, best_keeps, best_takes}
use Rattle.choose_subtree.proofs.ChoiceLaws.{first_least-of_best_area, grows_less}
use Rattle.choose_subtree.proofs.choice.least_area.Goals as goal
use Rattle.choose_subtree.proofs.choice.least_area.Goals.{then-not-at_most, else-not-at_most}

pub loop-k-init : goal.loop-k-init
loop-k-init g c =
    best_of_one (numbers_with 0 g.row.D (content_in c.args.node.now).entries c.args.new.now)
    (length (content_in c.args.node.now).entries) _ _ c.requires.some (ap (λ (x : Key). x.position) c.key_of-best.ensures)
    (ap numbers_of c.key_of-best.ensures)

pub loop-k-preserved-then-best-from : goal.loop-k-preserved-then-best-from
loop-k-preserved-then-best-from g c =
    let items = (content_in c.args.node.now).entries in
    let new = c.args.new.now in
    let k = c.loop-k.k in
    let best = c.loop-k.best in
    let least = c.loop-k.invariant in
    best_keeps (numbers_with 0 g.row.D items new) (length items) k (numbers_of best) best.position least
    (grows_less best.overlap best.growth best.area best.position g.row.D items new k best.position least.is
    (omega (
      arith,
      c.if-best-from.true,
      c.from.ensures,
      c.growths_at_least-growths.ensures k (omega (arith, c.loop-k-test.true, c.len-k-end.ensures.count)),
    )))

pub loop-k-preserved : goal.loop-k-preserved
loop-k-preserved g c =
    let e = (content_in c.args.node.now).entries in
    let key = numbers_with 0 g.row.D e c.args.new.now in
    let k = c.loop-k.k in
    let b = c.loop-k.best in
    let i = c.loop-k.invariant in
    let turn : Key → Type 0 = λ x. IsBest key (length e) (k + 1) (numbers_of x) x.position in
    let is : numbers_of c.key_of-key.result ≡ key k = ap numbers_of c.key_of-key.ensures in
    elim c.if-not-at_most.branch [
      | then-not-at_most w ↦
          let taken : IsBest key (length e) (k + 1) (numbers_of c.key_of-key.result) k =
          best_takes key (length e) k (numbers_of b) b.position (numbers_of c.key_of-key.result) i
          (omega (arith, c.loop-k-test.true, c.len-k-end.ensures.count)) is refl (λ h. let t = c.at_most.ensures.1 h in search rules) in
          subst turn (sym w.best-is)
          (subst (IsBest key (length e) (k + 1) (numbers_of c.key_of-key.result))
          (sym (ap (λ (x : Key). x.position) c.key_of-key.ensures)) taken)
      | else-not-at_most w ↦ subst turn (sym w.best-is)
          (best_keeps key (length e) k (numbers_of b) b.position i
          (subst (AtMost (numbers_of b)) is (c.at_most.ensures.0 (search rules))))
    ]

pub returns : goal.returns
returns g c =
    first_least-of_best_area g.row.D (content_in c.args.node.now).entries c.args.new.now (length (content_in c.args.node.now).entries)
    c.loop-k.k _ _ (omega arith) c.loop-k.invariant
