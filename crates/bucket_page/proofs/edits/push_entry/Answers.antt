-- The page is that with the object after the others.
use Rattle.std.proofs.Common.{◌≡◌, ◌∙◌, ◌+◌, ℕ, ap, arith, subst, sym}
use Rattle.block_bytes.specs.Numbers.{number_at}
use Rattle.bucket_page.specs.Layout.{IsClearOfEntry, entry_size}
use Rattle.bucket_page.proofs.Editing.{edited_kind, edited_rest, entry_pushed, tidy_pushed}
use Rattle.bucket_page.proofs.edits.push_entry.Goals as goal

pub returns-clause-pushed : goal.returns-clause-pushed
returns-clause-pushed g c = λ content is.
    rw c.write_u16.ensures
    (entry_pushed g.row.D c.count_at-count.result c.renew.new.page c.write_entry.new.page
    c.args.entry.now content (c.renew.ensures.same ∙ is) (c.renew.ensures.kind content is)
    c.count_at-count.ensures.value
    c.write_entry.array_long (omega arith) c.write_entry.ensures.written c.write_entry.ensures.is_box
    c.write_entry.ensures.others)

pub returns-clause-kind : goal.returns-clause-kind
returns-clause-kind g c = λ content is.
    rw c.write_u16.ensures
    (edited_kind (entry_size g.row.D 7) c.count_at-count.result (c.count_at-count.result + 1)
    c.renew.new.page c.write_entry.new.page c.write_entry.array_long c.write_entry.ensures.others
    (c.renew.ensures.kind content is))

pub returns-clause-rest : goal.returns-clause-rest
returns-clause-rest g c = λ written k above clear.
    let count : c.count_at-count.result ≡ number_at 2 2 c.args.page.now = c.count_at-count.ensures.value
    ∙ c.renew.ensures.count in
    let at = subst (λ (place : ℕ). IsClearOfEntry (entry_size g.row.D 7) place 1 k) (sym count) clear in
    rw c.write_u16.ensures
    (edited_rest (entry_size g.row.D 7) c.count_at-count.result (c.count_at-count.result + 1) k
    c.renew.new.page c.write_entry.new.page c.write_entry.array_long c.write_entry.ensures.others above
    at)
    ∙ ap (number_at 1 k) (c.renew.ensures.unchanged written)

pub returns-clause-tidy : goal.returns-clause-tidy
returns-clause-tidy g c = λ content is before.
    rw c.write_u16.ensures
    (tidy_pushed g.row.D c.count_at-count.result c.renew.new.page c.write_entry.new.page
    (c.renew.ensures.kind content is) c.count_at-count.ensures.value
    c.write_entry.array_long (omega arith) c.write_entry.ensures.others
    (c.renew.ensures.tidy content is before))
