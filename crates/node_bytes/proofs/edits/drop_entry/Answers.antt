-- The page is that without the entry.
use Rattle.std.proofs.Common.{◌∙◌, ◌-◌, arith}
use Rattle.node_bytes.proofs.TakenLemmas.{kind_stays, spells_taken, tidy_taken}
use Rattle.node_bytes.proofs.edits.drop_entry.Goals as goal

pub returns-clause-taken : goal.returns-clause-taken
returns-clause-taken g c = λ content is more.
    let count = c.count_at-count.result in
    let start = c.add_tags.new.page in
    rw c.write_u16.ensures
    (spells_taken g.row.D c.is_tagged-tagged.result c.args.place count (count - 1) start
    c.close_entry.new.page c.close_entry.array_long c.count_at-count.ensures (omega arith) (omega arith)
    (omega arith) c.close_entry.ensures content (c.add_tags.ensures.same content is) more)

pub returns-clause-kind : goal.returns-clause-kind
returns-clause-kind g c = λ content is.
    let count = c.count_at-count.result in
    let start = c.add_tags.new.page in
    rw c.write_u16.ensures
    (kind_stays g.row.D c.is_tagged-tagged.result c.args.place count (count - 1) start
    c.close_entry.new.page c.close_entry.array_long c.count_at-count.ensures (omega arith) (omega arith)
    (omega arith) c.close_entry.ensures ∙ c.add_tags.ensures.kind content is)

pub returns-clause-tidy : goal.returns-clause-tidy
returns-clause-tidy g c = λ tidy.
    let count = c.count_at-count.result in
    let start = c.add_tags.new.page in
    rw c.write_u16.ensures
    (tidy_taken g.row.D c.is_tagged-tagged.result c.args.place count (count - 1) start
    c.close_entry.new.page c.close_entry.array_long c.count_at-count.ensures (omega arith) (omega arith)
    (omega arith) c.close_entry.ensures c.is_tagged-tagged.ensures (c.add_tags.ensures.tidy tidy))
