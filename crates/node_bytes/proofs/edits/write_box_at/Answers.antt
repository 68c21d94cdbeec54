-- The page is that with the other box in its place; a page that has no such entry spells no node with it.
use Rattle.std.proofs.Common.{◌≡◌, ◌∙◌, ◌<◌, arith, false, length, refl, Some}
use Rattle.tree_node.specs.Nodes.{NodeContent}
use Rattle.node_bytes.specs.Enlarged.{with_box_at}
use Rattle.node_bytes.specs.Layout.{node_at}
use Rattle.node_bytes.proofs.BoxedLemmas.{spells_boxed, tidy_boxed}
use Rattle.node_bytes.proofs.Places.{head_clear}
use Rattle.node_bytes.proofs.Reading.{node_of_test, size_of, spells, test_of_node}
use Rattle.node_bytes.proofs.TidyLemmas.{page_of_node}
use Rattle.node_bytes.proofs.edits.write_box_at.Goals as goal
use Rattle.node_bytes.proofs.edits.write_box_at.Goals.{Joined-else-is_dims, else-is_dims-via-else-is_dims}
use Rattle.node_bytes.proofs.edits.write_box_at.Goals.{else-is_dims-via-then-is_dims+else-place-lt100}
use Rattle.node_bytes.proofs.edits.write_box_at.Goals.{else-is_dims-via-then-is_dims+then-place-lt100+else-place-count_at}

pub returns-then-place-count_at : goal.returns-then-place-count_at
returns-then-place-count_at g c =
    let D = g.row.D in
    let place = c.args.place in
    let b = c.args.bounds.now in
    let mid = c.add_tags.new.page in
    let new = c.write_box.new.block in
    let others = c.write_box.ensures.others in
    let spelled : (content : NodeContent) → node_at D c.args.page.now ≡ Some content
    → place < length content.entries → node_at D new ≡ Some (with_box_at content place b) = λ content is within.
    spells_boxed D place mid new b others content (c.add_tags.ensures.same content is) within
    c.write_box.ensures.written c.write_box.ensures.is_box in
    record {
      spelled = spelled;
      is_page = λ tidy content is within.
          let here = spells D mid content (c.add_tags.ensures.same content is) in
          page_of_node D new (with_box_at content place b) (spelled content is within)
          (others 1 0 (head_clear D false place 1 0 (omega arith)).bounds ∙ c.add_tags.ensures.kind content is)
          (tidy_boxed D place mid new b others (omega (arith, size_of D mid content here, within))
          (c.add_tags.ensures.tidy tidy));
      stays = λ test.
          let is = node_of_test D c.args.page.now test in
          let size = size_of D c.args.page.now _ (spells D c.args.page.now _ is) in
          test_of_node D new _
          (spelled _ is (omega (arith, size, c.if-place-count_at.true, c.count_at.ensures)));
      absent = λ none. absurd (omega (arith, none, c.if-place-count_at.true, c.count_at.ensures));
    }

none_there : (g : _) (c : Joined-else-is_dims g) (content : NodeContent)
    → node_at g.row.D c.args.page.now ≡ Some content → c.args.place < length content.entries → ⊥
none_there g c content is within =
    let here = spells g.row.D c.args.page.now content is in
    let size = size_of g.row.D c.args.page.now content here in
    elim c.else-is_dims.branch [
      | else-is_dims-via-then-is_dims+then-place-lt100+else-place-count_at w ↦
          omega (arith, size, within, w.if-place-count_at.false, w.count_at.ensures)
      | else-is_dims-via-then-is_dims+else-place-lt100 w ↦
          omega (arith, size, within, here.head.few, w.if-place-lt100.false)
      | else-is_dims-via-else-is_dims w ↦ let axes = c.is_dims.ensures.1 here.head.axes in cc
    ]

pub returns-else-is_dims : goal.returns-else-is_dims
returns-else-is_dims g c = record {
  spelled = λ content is within. absurd (none_there g c content is within);
  is_page = λ tidy content is within. absurd (none_there g c content is within);
  stays = λ test. test;
  absent = λ none. refl;
}
