-- The page is that with the object in the place.
use Rattle.std.proofs.Common.{◌∙◌, ap, arith}
use Rattle.block_bytes.specs.Numbers.{number_at}
use Rattle.bucket_page.specs.Layout.{entry_size}
use Rattle.bucket_page.proofs.Writing.{head_clear}
use Rattle.bucket_page.proofs.Editing.{entry_replaced, tidy_replaced}
use Rattle.bucket_page.proofs.edits.set_entry.Goals as goal

pub returns-clause-replaced : goal.returns-clause-replaced
returns-clause-replaced g c = λ content is within.
    entry_replaced g.row.D c.args.place c.renew.new.page c.write_entry.new.page c.args.entry.now content
    (c.renew.ensures.same ∙ is) (c.renew.ensures.kind content is) within
    c.write_entry.ensures.written c.write_entry.ensures.is_box c.write_entry.ensures.others

pub returns-clause-count : goal.returns-clause-count
returns-clause-count g c =
    c.write_entry.ensures.others 2 2 (head_clear (entry_size g.row.D 7) c.args.place 2 2 (omega arith))
    ∙ c.renew.ensures.count

pub returns-clause-kind : goal.returns-clause-kind
returns-clause-kind g c =
    λ content is. c.write_entry.ensures.others 1 0
    (head_clear (entry_size g.row.D 7) c.args.place 1 0 (omega arith)) ∙ c.renew.ensures.kind content is

pub returns-clause-others : goal.returns-clause-others
returns-clause-others g c = λ written n at clear. c.write_entry.ensures.others n at clear
    ∙ ap (number_at n at) (c.renew.ensures.unchanged written)

pub returns-clause-tidy : goal.returns-clause-tidy
returns-clause-tidy g c = λ content is within before.
    tidy_replaced g.row.D c.args.place c.renew.new.page c.write_entry.new.page content
    (c.renew.ensures.same ∙ is) (c.renew.ensures.kind content is) within
    c.write_entry.ensures.others (c.renew.ensures.tidy content is before)
