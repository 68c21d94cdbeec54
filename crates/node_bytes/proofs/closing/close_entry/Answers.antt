-- The columns are closed, then the references, and then the tags where the page has them.
use Rattle.std.proofs.Common.{refl}
use Rattle.node_bytes.proofs.ClosedEntries.{taken_out}
use Rattle.node_bytes.proofs.closing.close_entry.Goals as goal

pub returns-then-tagged : goal.returns-then-tagged
returns-then-tagged g c =
    taken_out g.row.D c.args.tagged c.args.place c.args.count c.args.page.now c.close_columns.new.page
    c.close_row.new.page c.close_row-then-tagged.new.page c.requires.within c.requires.few
    c.close_columns.ensures c.close_row.ensures (λ has. c.close_row-then-tagged.ensures)
    (λ none. let is = c.if-tagged.true in absurd (cc)) c.requires.tagged

pub returns-else-tagged : goal.returns-else-tagged
returns-else-tagged g c =
    taken_out g.row.D c.args.tagged c.args.place c.args.count c.args.page.now c.close_columns.new.page
    c.close_row.new.page c.close_row.new.page c.requires.within c.requires.few
    c.close_columns.ensures c.close_row.ensures (λ has. let is = c.if-tagged.false in absurd (cc)) (λ none. refl)
    c.requires.tagged
