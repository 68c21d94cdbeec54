-- Those of the first page that are below the key, and then those of the second one.
use Rattle.std.proofs.Common.{◌∙◌, List, Some, [], length, sym, ap, arith, length-append}
use Rattle.bucket_page.specs.Layout.{Entry}
use Rattle.id_tree.specs.Halving.{under_key}
use Rattle.id_tree.proofs.PartingLemmas.{under-append, leaf_like}
use Rattle.id_tree.proofs.meeting.both_under.Goals as goal

pub returns-clause-under : goal.returns-clause-under
returns-clause-under g c = λ xs ys one two room.
    let key = c.args.key in
    let sum = under-append key xs ys in
    let long = length-append (under_key key xs) (under_key key ys) in
    let empty = leaf_like g.row.D c.dims_at.result c.args.one.now c.start_leaf.new.page xs one
    (c.dims_at.ensures.of_leaf g.row.D xs one) c.start_leaf.ensures.empty in
    let first = c.append_under.ensures.appended [] xs empty one
    (omega (arith, room, ap length sum, long)) in
    c.append_under-2.ensures.appended (under_key key xs) ys first two
    (omega (arith, room, ap length sum, long)) ∙ ap (λ (zs : List Entry). Some zs) (sym sum)

pub returns-clause-tidy : goal.returns-clause-tidy
returns-clause-tidy g c =
    c.append_under-2.ensures.tidy (c.append_under.ensures.tidy (c.start_leaf.ensures.tidy g.row.D))
