-- A page that is full spells no node with room, and one of another level none that the entry may stand in.
use Rattle.std.proofs.Common.{◌≡◌, ◌∙◌, ℕ, ◌<◌, ◌≤◌, List, Some, arith, length, subst, sym}
use Rattle.block_bytes.specs.Numbers.{number_at}
use Rattle.tree_node.specs.Nodes.{NodeContent, item_of}
use Rattle.node_bytes.specs.Layout.{IsOfLevel, node_at, pushed}
use Rattle.node_bytes.proofs.Reading.{node_of_test, size_of, spells, test_of_node}
use Rattle.node_bytes.proofs.TidyLemmas.{page_of_node}
use Rattle.node_bytes.proofs.edits.push_where_room.Goals as goal
use Rattle.node_bytes.proofs.edits.push_where_room.Goals.{Joined-else-is_dims, else-is_dims-via-else-is_dims}
use Rattle.node_bytes.proofs.edits.push_where_room.Goals.{else-is_dims-via-then-is_dims+else-count_at-lt100}
use Rattle.node_bytes.proofs.edits.push_where_room.Goals.{else-is_dims-via-then-is_dims+then-count_at-lt100+else-is_of_level}

full : (dims : ℕ) (page : List ℕ) (c : NodeContent) → 100 ≤ number_at 2 2 page → node_at dims page ≡ Some c
    → length c.entries < 100 → ⊥
full dims page c many is few = omega (arith, size_of dims page c (spells dims page c is), few, many)

-- no entry is pushed only where there is no room, or the entry is of another level
none_pushed : (g : _) (c : Joined-else-is_dims g) (content : NodeContent)
    → node_at g.row.D c.args.page.now ≡ Some content → length content.entries < 100
    → IsOfLevel content.level c.args.entry.now.reference c.args.entry.now.tag → ⊥
none_pushed g c content is few refers =
    let page = c.args.page.now in
    elim c.else-is_dims.branch [
      | else-is_dims-via-then-is_dims+then-count_at-lt100+else-is_of_level w ↦
          let level = (spells g.row.D page content is).head.level_is in
          let of_level = w.is_of_level.ensures.1
          (subst (λ l. IsOfLevel l c.args.entry.now.reference c.args.entry.now.tag)
          (sym (w.read_u8.ensures ∙ level)) refers) in cc
      | else-is_dims-via-then-is_dims+else-count_at-lt100 w ↦
          full g.row.D page content (omega (arith, w.if-count_at-lt100.false, w.count_at.ensures)) is few
      | else-is_dims-via-else-is_dims w ↦
          let axes = c.is_dims.ensures.1 (spells g.row.D page content is).head.axes in cc
    ]

pub returns-else-is_dims-clause-pushed : goal.returns-else-is_dims-clause-pushed
returns-else-is_dims-clause-pushed g c = λ content is few refers.
    absurd (none_pushed g c content is few refers)

pub returns-else-is_dims-clause-is_page : goal.returns-else-is_dims-clause-is_page
returns-else-is_dims-clause-is_page g c = λ tidy content is few refers.
    absurd (none_pushed g c content is few refers)

pub returns-then-is_of_level-clause-is_page : goal.returns-then-is_of_level-clause-is_page
returns-then-is_of_level-clause-is_page g c = λ tidy content is few refers.
    page_of_node g.row.D c.push_entry.new.page (pushed content (item_of c.args.entry.now))
    (c.push_entry.ensures.pushed content is refers) (c.push_entry.ensures.kind content is)
    (c.push_entry.ensures.tidy tidy)

pub returns-then-is_of_level-clause-stays : goal.returns-then-is_of_level-clause-stays
returns-then-is_of_level-clause-stays g c = λ test.
    let page = c.args.page.now in
    let is = node_of_test g.row.D page test in
    let refers = subst (λ l. IsOfLevel l c.args.entry.now.reference c.args.entry.now.tag) c.read_u8.ensures
    (c.is_of_level.ensures.0 c.if-is_of_level.true) in
    test_of_node g.row.D c.push_entry.new.page _ (c.push_entry.ensures.pushed _ is refers)
