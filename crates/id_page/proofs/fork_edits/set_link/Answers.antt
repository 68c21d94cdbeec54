-- The page is that with the child in the place.
use Rattle.std.proofs.Common.{arith, refl}
use Rattle.block_bytes.specs.Numbers.{number_at}
use Rattle.id_page.proofs.ForkEdits.{fork_replaced}
use Rattle.id_page.proofs.Rows.{edits_kept, tidy_grown}
use Rattle.id_page.proofs.fork_edits.set_link.Goals as goal

pub returns-clause-count : goal.returns-clause-count
returns-clause-count c =
    (edits_kept 12 c.args.place c.args.page.now c.write_link.new.page c.write_link.ensures.others).counted

pub returns-clause-replaced : goal.returns-clause-replaced
returns-clause-replaced c = λ dims content is within.
    fork_replaced dims c.args.place c.args.page.now c.write_link.new.page content (c.args.key, c.args.child)
    is within
    (edits_kept 12 c.args.place c.args.page.now c.write_link.new.page c.write_link.ensures.others)
    c.write_link.ensures.written

pub returns-clause-tidy : goal.returns-clause-tidy
returns-clause-tidy c = λ within before.
    let n = number_at 2 2 c.args.page.now in
    tidy_grown 5 12 c.args.place n n c.args.page.now c.write_link.new.page (omega arith)
    (edits_kept 12 c.args.place c.args.page.now c.write_link.new.page c.write_link.ensures.others) refl
    (omega arith) within before
