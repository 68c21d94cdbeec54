-- Those of the first page from the key on, and then those of the second one.
use Rattle.std.proofs.Common.{◌∙◌, List, Some, [], length, sym, ap, arith, length-append}
use Rattle.bucket_page.specs.Layout.{Entry}
use Rattle.id_tree.specs.Halving.{from_key}
use Rattle.id_tree.proofs.PartingLemmas.{from-append, leaf_like}
use Rattle.id_tree.proofs.meeting.both_from.Goals as goal

pub returns-clause-from : goal.returns-clause-from
returns-clause-from g c = λ xs ys one two room.
    let key = c.args.key in
    let sum = from-append key xs ys in
    let long = length-append (from_key key xs) (from_key key ys) in
    let empty = leaf_like g.row.D c.dims_at.result c.args.one.now c.start_leaf.new.page xs one
    (c.dims_at.ensures.of_leaf g.row.D xs one) c.start_leaf.ensures.empty in
    let first = c.append_from.ensures.appended [] xs empty one
    (omega (arith, room, ap length sum, long)) in
    c.append_from-2.ensures.appended (from_key key xs) ys first two (omega (arith, room, ap length sum, long))
    ∙ ap (λ (zs : List Entry). Some zs) (sym sum)

pub returns-clause-tidy : goal.returns-clause-tidy
returns-clause-tidy g c =
    c.append_from-2.ensures.tidy (c.append_from.ensures.tidy (c.start_leaf.ensures.tidy g.row.D))
