-- The page is that with the entry after the others.
use Rattle.std.proofs.Common.{◌≡◌, ◌∙◌, ◌+◌, false, ap, arith, inl, sym}
use Rattle.block_bytes.specs.Laws.{number_at-put_other}
use Rattle.block_bytes.specs.Numbers.{number_at}
use Rattle.tree_node.specs.Nodes.{item_of}
use Rattle.node_bytes.proofs.Editing.{entry_pushed, untagged_entry}
use Rattle.node_bytes.proofs.Places.{head_clear}
use Rattle.node_bytes.proofs.TidyLemmas.{tidy_pushed}
use Rattle.node_bytes.proofs.edits.push_entry.Goals as goal

pub returns-clause-pushed : goal.returns-clause-pushed
returns-clause-pushed g c = λ content is refers.
    let start = c.add_tags.new.page in
    let spelled = c.add_tags.ensures.same content is in
    let untagged : c.is_tagged-tagged.result ≡ false
    → c.args.entry.now.tag ≡ 0 =
    λ none. untagged_entry g.row.D start content c.args.entry.now.reference c.args.entry.now.tag spelled
    (c.add_tags.ensures.kind content is) refers (sym c.is_tagged-tagged.ensures ∙ none) in
    rw c.write_u16.ensures
    (entry_pushed g.row.D c.is_tagged-tagged.result c.count_at-count.result start c.write_entry.new.page
    (item_of c.args.entry.now) content spelled c.count_at-count.ensures
    c.write_entry.array_long (omega arith) (c.write_entry.ensures.written untagged)
    c.write_entry.ensures.is_box (λ above. ((refers above).0, (refers above).1))
    c.write_entry.ensures.others)

pub returns-clause-kind : goal.returns-clause-kind
returns-clause-kind g c = λ content is.
    let place = c.count_at-count.result in
    ap (number_at 1 0) c.write_u16.ensures
    ∙ number_at-put_other 1 0 2 2 (place + 1) c.write_entry.new.page (omega (arith, c.write_entry.array_long))
    (inl (omega arith))
    ∙ c.write_entry.ensures.others 1 0
    (head_clear g.row.D c.is_tagged-tagged.result place 1 0 (omega arith))
    ∙ c.add_tags.ensures.kind content is

pub returns-clause-tidy : goal.returns-clause-tidy
returns-clause-tidy g c = λ tidy.
    rw c.write_u16.ensures
    (tidy_pushed g.row.D c.is_tagged-tagged.result c.count_at-count.result c.add_tags.new.page
    c.write_entry.new.page c.is_tagged-tagged.ensures c.count_at-count.ensures c.write_entry.array_long
    (omega arith) c.write_entry.ensures.others (c.add_tags.ensures.tidy tidy))
