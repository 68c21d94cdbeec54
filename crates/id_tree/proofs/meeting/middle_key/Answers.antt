-- The middle is in the first leaf, in the second one, or between both.
use Rattle.std.proofs.Common.{◌∙◌, ◌<◌, length, arith}
use Rattle.id_words.proofs.ObjectLemmas.{times-append}
use Rattle.id_tree.proofs.ShareLemmas.{middle_between, middle_first, middle_second}
use Rattle.id_tree.proofs.meeting.middle_key.Goals as goal

pub returns-then-many-count : goal.returns-then-many-count
returns-then-many-count g c = λ xs ys one two single less from some fewer.
    let few : c.args.many < length xs =
    omega (arith, c.count_at-count.ensures.of_leaf g.row.D xs one, c.if-many-count.true) in
    middle_first c.args.key xs ys less from c.key_with.result c.args.many few
    (c.key_with.ensures.parts xs one (λ q. omega (arith, single q, times-append q xs ys)) some few)

pub returns-then-many-count-2 : goal.returns-then-many-count-2
returns-then-many-count-2 g c = λ xs ys one two single less from some fewer.
    let count = c.count_at-count.ensures.of_leaf g.row.D xs one in
    let more : length xs < c.args.many = omega (arith, count, c.if-many-count-2.true) in
    let parts = c.key_with-then-many-count-2.ensures.parts ys two
    (λ q. omega (arith, single q, times-append q xs ys)) (omega (arith, count, more))
    (omega (arith, count, more, fewer)) in
    middle_second c.args.key xs ys less from c.key_with-then-many-count-2.result c.args.many more
    (omega (arith, parts, count))

pub returns : goal.returns
returns g c = λ xs ys one two single less from some fewer.
    let count = c.count_at-count.ensures.of_leaf g.row.D xs one in
    middle_between c.args.key xs ys less from ∙ omega
    (arith, count, c.if-many-count.false, c.if-many-count-2.false)
