-- The page is that with the child after the others.
use Rattle.std.proofs.Common.{◌∙◌, ◌+◌, ap, arith, sym}
use Rattle.id_page.proofs.ForkEdits.{fork_pushed}
use Rattle.id_page.proofs.LinkPlaces.{link_stands}
use Rattle.id_page.proofs.Rows.{edits_counted, tidy_grown}
use Rattle.id_page.proofs.fork_edits.push_link.Goals as goal

pub returns-clause-count : goal.returns-clause-count
returns-clause-count c =
    let n = c.count_at-count.result in
    rw c.write_u16.ensures
    ((edits_counted 12 n (n + 1) c.args.page.now c.write_link.new.page c.write_link.array_long
    (omega arith) c.write_link.ensures.others).counted ∙ ap (λ k. k + 1) c.count_at-count.ensures.value)

pub returns-clause-pushed : goal.returns-clause-pushed
returns-clause-pushed c = λ dims content is.
    let n = c.count_at-count.result in
    rw c.write_u16.ensures
    (fork_pushed dims n c.args.page.now _ content (c.args.key, c.args.child) is
    c.count_at-count.ensures.value (omega arith)
    (edits_counted 12 n (n + 1) c.args.page.now c.write_link.new.page c.write_link.array_long (omega arith)
    c.write_link.ensures.others)
    (link_stands n (n + 1) c.write_link.new.page c.write_link.array_long ∙ c.write_link.ensures.written))

pub returns-clause-tidy : goal.returns-clause-tidy
returns-clause-tidy c = λ before.
    let n = c.count_at-count.result in
    rw c.write_u16.ensures (tidy_grown 5 12 n n (n + 1) c.args.page.now _ (omega arith)
    (edits_counted 12 n (n + 1) c.args.page.now c.write_link.new.page c.write_link.array_long (omega arith)
    c.write_link.ensures.others)
    (sym c.count_at-count.ensures.value) (omega arith) (omega arith) before)
