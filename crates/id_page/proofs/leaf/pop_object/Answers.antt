-- The page is that without the last object, whose bytes are cleared.
use Rattle.std.proofs.Common.{◌∙◌, ◌+◌, ◌-◌, ap, arith}
use Rattle.id_page.proofs.LeafEdits.{leaf_popped}
use Rattle.id_page.proofs.ObjectPlaces.{cleared_bytes, cleared_keeps, few_objects}
use Rattle.id_page.proofs.Rows.{edits_counted, tidy_shrunk}
use Rattle.id_page.specs.Leaf.{object_size}
use Rattle.id_page.proofs.leaf.pop_object.Goals as goal

pub overflow_cast-last : goal.overflow_cast-last
overflow_cast-last g c = omega (arith, few_objects g.row.D)

pub returns-clause-count : goal.returns-clause-count
returns-clause-count g c =
    let last = c.count_at-last.result - 1 in
    rw c.write_u16.ensures
    (ap (λ k. k + 1)
    (edits_counted (object_size g.row.D) last last c.args.page.now c.clear_bytes.new.page
    c.clear_bytes.array_long (omega (arith, few_objects g.row.D))
    (cleared_keeps g.row.D last c.object_place.result c.args.page.now c.clear_bytes.new.page
    c.object_place.ensures.value c.clear_bytes.ensures.others)).counted
    ∙ omega (arith, c.count_at-last.ensures.value))

pub returns-clause-popped : goal.returns-clause-popped
returns-clause-popped g c = λ objects is.
    let last = c.count_at-last.result - 1 in
    rw c.write_u16.ensures
    (leaf_popped g.row.D last c.args.page.now _ objects is (omega (arith, c.count_at-last.ensures.value))
    (edits_counted (object_size g.row.D) last last c.args.page.now c.clear_bytes.new.page
    c.clear_bytes.array_long (omega (arith, few_objects g.row.D))
    (cleared_keeps g.row.D last c.object_place.result c.args.page.now c.clear_bytes.new.page
    c.object_place.ensures.value c.clear_bytes.ensures.others)))

pub returns-clause-tidy : goal.returns-clause-tidy
returns-clause-tidy g c = λ before.
    let last = c.count_at-last.result - 1 in
    rw c.write_u16.ensures (tidy_shrunk 4 (object_size g.row.D) last c.args.page.now _ (omega arith)
    (edits_counted (object_size g.row.D) last last c.args.page.now c.clear_bytes.new.page
    c.clear_bytes.array_long (omega (arith, few_objects g.row.D))
    (cleared_keeps g.row.D last c.object_place.result c.args.page.now c.clear_bytes.new.page
    c.object_place.ensures.value c.clear_bytes.ensures.others))
    (omega (arith, c.count_at-last.ensures.value))
    (cleared_bytes g.row.D last c.object_place.result last c.clear_bytes.new.page c.clear_bytes.array_long
    c.object_place.ensures.value (λ k le lt. c.clear_bytes.ensures.cleared k le (omega (arith, lt))))
    before)
