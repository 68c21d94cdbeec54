-- The page is that without the last object, whose bytes are cleared.
use Rattle.std.proofs.Common.{◌≡◌, ◌∙◌, ◌+◌, ◌-◌, ◌<◌, ◌≤◌, ℕ, ap, arith, subst, sym}
use Rattle.block_bytes.specs.Numbers.{number_at}
use Rattle.bucket_page.specs.Layout.{IsClearOfEntry, entry_place, entry_size}
use Rattle.bucket_page.proofs.Editing.{edited_byte, edited_kind, edited_rest, entry_popped, tidy_popped}
use Rattle.bucket_page.proofs.edits.pop_entry.Goals as goal

pub returns-clause-popped : goal.returns-clause-popped
returns-clause-popped g c = λ content is.
    rw c.write_u16.ensures
    (entry_popped g.row.D c.count_at-count.result c.renew.new.page c.clear_entry.new.page content
    (c.renew.ensures.same ∙ is) (c.renew.ensures.kind content is) c.count_at-count.ensures.value
    c.clear_entry.array_long (omega arith) (omega arith) c.clear_entry.ensures.others)

pub returns-clause-kind : goal.returns-clause-kind
returns-clause-kind g c = λ content is.
    rw c.write_u16.ensures
    (edited_kind (entry_size g.row.D 7) (c.count_at-count.result - 1) (c.count_at-count.result - 1)
    c.renew.new.page c.clear_entry.new.page c.clear_entry.array_long c.clear_entry.ensures.others
    (c.renew.ensures.kind content is))

pub returns-clause-cleared : goal.returns-clause-cleared
returns-clause-cleared g c = λ written k le lt.
    let entry = entry_size g.row.D 7 in
    let count : number_at 2 2 c.args.page.now ≡ c.count_at-count.result =
    sym (c.count_at-count.ensures.value ∙ c.renew.ensures.count) in
    let more : c.count_at-count.result ≡ c.count_at-count.result - 1 + 1 = omega arith in
    let from : entry_place entry (c.count_at-count.result - 1) ≤ k =
    subst (λ (n : ℕ). entry_place entry (n - 1) ≤ k) count le in
    let below : k < entry_place entry (c.count_at-count.result - 1 + 1) =
    subst (λ (n : ℕ). k < entry_place entry n) (count ∙ more) lt in
    rw c.write_u16.ensures
    (edited_byte entry (c.count_at-count.result - 1) (c.count_at-count.result - 1) k
    c.clear_entry.new.page c.clear_entry.array_long from ∙ c.clear_entry.ensures.cleared k from below)

pub returns-clause-rest : goal.returns-clause-rest
returns-clause-rest g c = λ written k above clear.
    let count : number_at 2 2 c.args.page.now ≡ c.count_at-count.result =
    sym (c.count_at-count.ensures.value ∙ c.renew.ensures.count) in
    let at = subst (λ (n : ℕ). IsClearOfEntry (entry_size g.row.D 7) (n - 1) 1 k) count clear in
    rw c.write_u16.ensures
    (edited_rest (entry_size g.row.D 7) (c.count_at-count.result - 1) (c.count_at-count.result - 1) k
    c.renew.new.page c.clear_entry.new.page c.clear_entry.array_long c.clear_entry.ensures.others above
    at)
    ∙ ap (number_at 1 k) (c.renew.ensures.unchanged written)

pub returns-clause-tidy : goal.returns-clause-tidy
returns-clause-tidy g c = λ content is before.
    rw c.write_u16.ensures
    (tidy_popped g.row.D c.count_at-count.result c.renew.new.page c.clear_entry.new.page
    (c.renew.ensures.kind content is) c.count_at-count.ensures.value
    c.clear_entry.array_long (omega arith) (omega arith) c.clear_entry.ensures.others
    c.clear_entry.ensures.cleared (c.renew.ensures.tidy content is before))
