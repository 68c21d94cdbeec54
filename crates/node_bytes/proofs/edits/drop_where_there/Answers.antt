-- A page that has no such entry, or none beside it, or more than it can have, spells no node with both.
use Rattle.std.proofs.Common.{◌≡◌, ℕ, ◌<◌, ◌≤◌, List, Some, arith, length}
use Rattle.block_bytes.specs.Numbers.{number_at}
use Rattle.tree_node.specs.Nodes.{NodeContent}
use Rattle.node_bytes.specs.Layout.{node_at}
use Rattle.node_bytes.proofs.Reading.{node_of_test, size_of, spells, test_of_node}
use Rattle.node_bytes.proofs.edits.drop_where_there.Goals as goal
use Rattle.node_bytes.proofs.edits.drop_where_there.Goals.{Joined-then-not-is_dims, then-not-is_dims-via-then-not-is_dims}
use Rattle.node_bytes.proofs.edits.drop_where_there.Goals.{then-not-is_dims-via-else-not-is_dims+then-place-count}
use Rattle.node_bytes.proofs.edits.drop_where_there.Goals.{then-not-is_dims-via-else-not-is_dims+else-place-count+then-count-eq1}

has_place : (dims place : ℕ) (page : List ℕ) (c : NodeContent) → node_at dims page ≡ Some c
    → place < length c.entries → 1 < length c.entries
    → (place < number_at 2 2 page) × (1 < number_at 2 2 page) × (number_at 2 2 page ≤ 100)
has_place dims place page c is within more =
    let size = size_of dims page c (spells dims page c is) in
    (omega (arith, size, within), omega (arith, size, more), (spells dims page c is).head.few)

none_taken : (g : _) (c : Joined-then-not-is_dims g) (content : NodeContent)
    → node_at g.row.D c.args.page.now ≡ Some content → c.args.place < length content.entries
    → 1 < length content.entries → ⊥
none_taken g c content is within more =
    let has = has_place g.row.D c.args.place c.args.page.now content is within more in
    elim c.then-not-is_dims.branch [
      | then-not-is_dims-via-else-not-is_dims+then-place-count w ↦
          omega (arith, has.0, w.if-place-count.true, c.count_at-count.ensures)
      | then-not-is_dims-via-else-not-is_dims+else-place-count+then-count-eq1 w ↦
          omega (arith, has.1, w.if-count-eq1.true, c.count_at-count.ensures)
      | then-not-is_dims-via-then-not-is_dims w ↦
          let axes = c.is_dims.ensures.1 (spells g.row.D c.args.page.now content is).head.axes in cc
    ]

pub returns-then-not-is_dims-clause-taken : goal.returns-then-not-is_dims-clause-taken
returns-then-not-is_dims-clause-taken g c = λ content is within more.
    absurd (none_taken g c content is within more)

pub returns-then-not-is_dims-clause-is_page : goal.returns-then-not-is_dims-clause-is_page
returns-then-not-is_dims-clause-is_page g c = λ tidy content is within more.
    absurd (none_taken g c content is within more)

pub returns-else-count-le100-clause-taken : goal.returns-else-count-le100-clause-taken
returns-else-count-le100-clause-taken g c = λ content is within more.
    let has = has_place g.row.D c.args.place c.args.page.now content is within more in
    absurd (omega (arith, has.2, c.if-count-le100.false, c.count_at-count.ensures))

pub returns-else-count-le100-clause-is_page : goal.returns-else-count-le100-clause-is_page
returns-else-count-le100-clause-is_page g c = λ tidy content is within more.
    let has = has_place g.row.D c.args.place c.args.page.now content is within more in
    absurd (omega (arith, has.2, c.if-count-le100.false, c.count_at-count.ensures))

pub returns-then-count-le100-clause-stays : goal.returns-then-count-le100-clause-stays
returns-then-count-le100-clause-stays g c = λ test.
    let page = c.args.page.now in
    let is = node_of_test g.row.D page test in
    let size = size_of g.row.D page _ (spells g.row.D page _ is) in
    test_of_node g.row.D c.drop_entry.new.page _
    (c.drop_entry.ensures.taken _ is (omega (
      arith,
      size,
      c.if-place-count.false,
      c.if-count-eq1.false,
      c.count_at-count.ensures,
    )))
