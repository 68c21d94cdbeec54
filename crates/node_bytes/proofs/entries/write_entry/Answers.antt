-- The box stays where the reference is written after it, both where the tag is, and nothing outside the entry
-- changes.
use Rattle.std.proofs.Common.{◌∙◌, ℕ, ap, arith, sym}
use Rattle.tree_node.specs.Nodes.{Item}
use Rattle.node_bytes.proofs.Places.{entry_keeps, item_with_tag, item_without_tag, tagged_keeps}
use Rattle.node_bytes.proofs.entries.write_entry.Goals as goal

pub returns-then-tagged-clause-written : goal.returns-then-tagged-clause-written
returns-then-tagged-clause-written g c = λ none.
    item_with_tag g.row.D c.args.tagged c.args.place c.args.entry.now.reference c.args.page.now
    c.write_box.new.block c.write_u64.new.block c.args.entry.now.bounds c.requires.dims.1
    c.requires.within
    c.write_box.array_long c.write_u64.ensures c.write_box.ensures.others (omega arith)
    c.write_box.ensures.written c.args.entry.now.tag c.write_u32.new.block c.write_u64.array_long
    c.write_u32.ensures c.if-tagged.true
    c.requires.tagged (omega arith)

pub returns-then-tagged-clause-others : goal.returns-then-tagged-clause-others
returns-then-tagged-clause-others g c =
    tagged_keeps g.row.D c.args.tagged c.args.place c.args.entry.now.reference c.args.page.now
    c.write_box.new.block c.write_u64.new.block c.args.entry.now.bounds c.requires.dims.1
    c.requires.within
    c.write_box.array_long c.write_u64.ensures c.write_box.ensures.others (omega arith)
    c.write_box.ensures.written c.args.entry.now.tag c.write_u32.new.block c.write_u64.array_long
    c.write_u32.ensures c.if-tagged.true

pub returns-else-tagged-clause-written : goal.returns-else-tagged-clause-written
returns-else-tagged-clause-written g c = λ none.
    item_without_tag g.row.D c.args.tagged c.args.place c.args.entry.now.reference c.args.page.now
    c.write_box.new.block c.write_u64.new.block c.args.entry.now.bounds c.requires.dims.1
    c.requires.within
    c.write_box.array_long c.write_u64.ensures c.write_box.ensures.others (omega arith)
    c.write_box.ensures.written c.requires.tagged c.if-tagged.false
    ∙ ap (λ (t : ℕ). let x : Item =
    record { bounds = c.args.entry.now.bounds; reference = c.args.entry.now.reference; tag = t } in x)
    (sym (none c.if-tagged.false))

pub returns-else-tagged-clause-others : goal.returns-else-tagged-clause-others
returns-else-tagged-clause-others g c =
    entry_keeps g.row.D c.args.tagged c.args.place c.args.entry.now.reference c.args.page.now
    c.write_box.new.block c.write_u64.new.block c.args.entry.now.bounds c.requires.dims.1
    c.requires.within
    c.write_box.array_long c.write_u64.ensures c.write_box.ensures.others
