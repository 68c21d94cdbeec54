-- The page is that with the object after the others.
use Rattle.std.proofs.Common.{◌∙◌, ◌+◌, ap, arith, sym}
use Rattle.id_page.proofs.LeafEdits.{leaf_pushed}
use Rattle.id_page.proofs.ObjectPlaces.{few_objects, object_stands}
use Rattle.id_page.proofs.Rows.{edits_counted, tidy_grown}
use Rattle.id_page.specs.Leaf.{object_size}
use Rattle.id_page.proofs.leaf.push_object.Goals as goal

pub overflow_cast-count : goal.overflow_cast-count
overflow_cast-count g c = omega (arith, few_objects g.row.D)

pub overflow_add-count : goal.overflow_add-count
overflow_add-count g c = omega (arith, few_objects g.row.D)

pub returns-clause-count : goal.returns-clause-count
returns-clause-count g c =
    let n = c.count_at-count.result in
    rw c.write_u16.ensures
    ((edits_counted (object_size g.row.D) n (n + 1) c.args.page.now c.write_object.new.page
    c.write_object.array_long (omega (arith, few_objects g.row.D)) c.write_object.ensures.others).counted
    ∙ ap (λ k. k + 1) c.count_at-count.ensures.value)

pub returns-clause-pushed : goal.returns-clause-pushed
returns-clause-pushed g c = λ objects is.
    let n = c.count_at-count.result in
    rw c.write_u16.ensures
    (leaf_pushed g.row.D n c.args.page.now _ objects c.args.object.now is c.count_at-count.ensures.value
    (omega arith)
    (edits_counted (object_size g.row.D) n (n + 1) c.args.page.now c.write_object.new.page
    c.write_object.array_long (omega (arith, few_objects g.row.D)) c.write_object.ensures.others)
    (object_stands g.row.D n (n + 1) c.write_object.new.page c.write_object.array_long
    ∙ c.write_object.ensures.written) c.write_object.ensures.is_box)

pub returns-clause-tidy : goal.returns-clause-tidy
returns-clause-tidy g c = λ before.
    let n = c.count_at-count.result in
    rw c.write_u16.ensures (tidy_grown 4 (object_size g.row.D) n n (n + 1) c.args.page.now _ (omega arith)
    (edits_counted (object_size g.row.D) n (n + 1) c.args.page.now c.write_object.new.page
    c.write_object.array_long (omega (arith, few_objects g.row.D)) c.write_object.ensures.others)
    (sym c.count_at-count.ensures.value) (omega arith) (omega arith) before)
