-- The page is that without the last child, whose bytes are cleared.
use Rattle.std.proofs.Common.{◌∙◌, ◌+◌, ◌-◌, ap, arith}
use Rattle.id_page.proofs.ForkEdits.{fork_popped}
use Rattle.id_page.proofs.LinkPlaces.{cleared_links, link_cleared}
use Rattle.id_page.proofs.Rows.{edits_counted, tidy_shrunk}
use Rattle.id_page.proofs.fork_edits.pop_link.Goals as goal

pub returns-clause-count : goal.returns-clause-count
returns-clause-count c =
    let last = c.count_at-last.result - 1 in
    rw c.write_u16.ensures
    (ap (λ k. k + 1)
    (edits_counted 12 last last c.args.page.now c.clear_bytes.new.page c.clear_bytes.array_long
    (omega arith)
    (link_cleared last c.link_place.result c.args.page.now c.clear_bytes.new.page c.link_place.ensures.value
    c.clear_bytes.ensures.others)).counted
    ∙ omega (arith, c.count_at-last.ensures.value))

pub returns-clause-popped : goal.returns-clause-popped
returns-clause-popped c = λ dims content is.
    let last = c.count_at-last.result - 1 in
    rw c.write_u16.ensures
    (fork_popped dims last c.args.page.now _ content is (omega (arith, c.count_at-last.ensures.value))
    (edits_counted 12 last last c.args.page.now c.clear_bytes.new.page c.clear_bytes.array_long (omega arith)
    (link_cleared last c.link_place.result c.args.page.now c.clear_bytes.new.page c.link_place.ensures.value
    c.clear_bytes.ensures.others)))

pub returns-clause-tidy : goal.returns-clause-tidy
returns-clause-tidy c = λ before.
    let last = c.count_at-last.result - 1 in
    rw c.write_u16.ensures (tidy_shrunk 5 12 last c.args.page.now _ (omega arith)
    (edits_counted 12 last last c.args.page.now c.clear_bytes.new.page c.clear_bytes.array_long (omega arith)
    (link_cleared last c.link_place.result c.args.page.now c.clear_bytes.new.page c.link_place.ensures.value
    c.clear_bytes.ensures.others))
    (omega (arith, c.count_at-last.ensures.value))
    (cleared_links last c.link_place.result last c.clear_bytes.new.page c.clear_bytes.array_long
    c.link_place.ensures.value c.clear_bytes.ensures.cleared) before)
