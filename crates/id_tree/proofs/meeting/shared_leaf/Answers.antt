-- Both halves have more than a leaf has to have.
use Rattle.std.proofs.Common.{◌≡◌, ◌<◌, ◌≤◌, ◌+◌, ◌/◌, ◌++◌, length, arith}
use Rattle.id_page.specs.Leaf.{most_objects}
use Rattle.id_tree.specs.Halving.{under_key}
use Rattle.id_page.proofs.ObjectPlaces.{few_objects}
use Rattle.id_tree.proofs.ShareLemmas.{leaf_balanced, leaf_halves, leaf_roomy, leaf_shared}
use Rattle.id_tree.proofs.meeting.shared_leaf.Goals as goal

pub overflow_add-many : goal.overflow_add-many
overflow_add-many g c =
    omega (
      arith,
      c.count_at.ensures.value,
      c.count_at-2.ensures.value,
      c.requires.few_one,
      c.requires.few_two,
      few_objects g.row.D,
    )

pub returns-clause-cuts : goal.returns-clause-cuts
returns-clause-cuts g c = λ edge xs ys one two single less from.
    let D = g.row.D in
    let key = c.middle_key-middle.result in
    let a = c.count_at.result in
    let b = c.count_at-2.result in
    let a_is = c.count_at.ensures.of_leaf D xs one in
    let b_is = c.count_at-2.ensures.of_leaf D ys two in
    let few_a : a ≤ most_objects D = omega (arith, c.count_at.ensures.value, c.requires.few_one) in
    let few_b : b ≤ most_objects D = omega (arith, c.count_at-2.ensures.value, c.requires.few_two) in
    let many : most_objects D < a + b =
    omega (arith, c.count_at.ensures.value, c.count_at-2.ensures.value, c.requires.many) in
    let middle : length (under_key key (xs ++ ys)) ≡ (a + b) / 2 =
    c.middle_key-middle.ensures xs ys one two single less from (omega (arith, many))
    (omega (arith, many, a_is, b_is)) in
    let h = leaf_halves D xs ys key a b few_a few_b many a_is b_is middle in
    let under = c.both_under.ensures.under xs ys one two h.first_few in
    let beyond = c.both_from.ensures.from xs ys one two h.second_few in
    leaf_shared D xs ys key a b few_a few_b many a_is b_is middle edge c.both_under.result c.both_from.result
    under beyond

pub returns-clause-balanced : goal.returns-clause-balanced
returns-clause-balanced g c = λ xs ys one two single less from.
    let D = g.row.D in
    let key = c.middle_key-middle.result in
    let a = c.count_at.result in
    let b = c.count_at-2.result in
    let a_is = c.count_at.ensures.of_leaf D xs one in
    let b_is = c.count_at-2.ensures.of_leaf D ys two in
    let few_a : a ≤ most_objects D = omega (arith, c.count_at.ensures.value, c.requires.few_one) in
    let few_b : b ≤ most_objects D = omega (arith, c.count_at-2.ensures.value, c.requires.few_two) in
    let many : most_objects D < a + b =
    omega (arith, c.count_at.ensures.value, c.count_at-2.ensures.value, c.requires.many) in
    let middle : length (under_key key (xs ++ ys)) ≡ (a + b) / 2 =
    c.middle_key-middle.ensures xs ys one two single less from (omega (arith, many))
    (omega (arith, many, a_is, b_is)) in
    let h = leaf_halves D xs ys key a b few_a few_b many a_is b_is middle in
    let under = c.both_under.ensures.under xs ys one two h.first_few in
    let beyond = c.both_from.ensures.from xs ys one two h.second_few in
    leaf_balanced D xs ys key a b few_a few_b many a_is b_is middle c.both_under.result c.both_from.result
    under beyond

pub returns-clause-roomy : goal.returns-clause-roomy
returns-clause-roomy g c = λ xs ys one two single less from few.
    let D = g.row.D in
    let key = c.middle_key-middle.result in
    let a = c.count_at.result in
    let b = c.count_at-2.result in
    let a_is = c.count_at.ensures.of_leaf D xs one in
    let b_is = c.count_at-2.ensures.of_leaf D ys two in
    let few_a : a ≤ most_objects D = omega (arith, c.count_at.ensures.value, c.requires.few_one) in
    let few_b : b ≤ most_objects D = omega (arith, c.count_at-2.ensures.value, c.requires.few_two) in
    let many : most_objects D < a + b =
    omega (arith, c.count_at.ensures.value, c.count_at-2.ensures.value, c.requires.many) in
    let middle : length (under_key key (xs ++ ys)) ≡ (a + b) / 2 =
    c.middle_key-middle.ensures xs ys one two single less from (omega (arith, many))
    (omega (arith, many, a_is, b_is)) in
    let h = leaf_halves D xs ys key a b few_a few_b many a_is b_is middle in
    let under = c.both_under.ensures.under xs ys one two h.first_few in
    let beyond = c.both_from.ensures.from xs ys one two h.second_few in
    leaf_roomy D xs ys key a b few_a few_b many a_is b_is middle c.both_under.result c.both_from.result
    under beyond few
