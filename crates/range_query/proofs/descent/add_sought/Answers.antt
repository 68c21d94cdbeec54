-- The goals of `add_sought` that are proved by hand.
use Rattle.std.proofs.Common.{◌≡◌, ◌∙◌, ◌+◌, ◌++◌, ap, sym, subst, map, arith, rules, refl}
use Rattle.page_file.specs.declared.fault.Fault.TheVariants as fault
use Rattle.page_cache.specs.Cache.{pages}
use Rattle.tree_node.specs.Nodes.{item_of}
use Rattle.node_page.specs.Standing.{PageMap}
use Rattle.node_bytes.specs.Views.{content_in}
use Rattle.node_page.proofs.StandingLemmas.{page_of_node, same_content}
use Rattle.range_query.specs.Entries.{object_of, wanted, wanted_entries}
use Rattle.box_math.specs.Queries.{seeks}
use Rattle.range_query.proofs.EntryLemmas.{all_taken, one_passed, none_taken, one_taken, sought_to}
use Rattle.range_query.proofs.EndLemmas.{asks_and_refuses_memory}
use Rattle.range_query.proofs.descent.add_sought.Goals as goal

pub entries-init : goal.entries-init
entries-init g c =
    sought_to c.args.query.now c.args.tag c.reach.result c.mask-mask.result 0 c.next_set-place.result
    c.reach.ensures c.in_ok-leaf.ensures.boxes c.mask-mask.ensures.met c.next_set-place.ensures.within
    c.next_set-place.ensures.unset
    (none_taken object_of (wanted (seeks c.args.query.now) c.args.tag)
    (content_in c.in_ok-leaf.leaf).entries c.args.rows.now.items)

pub entries-preserved-then-not-is_wanted : goal.entries-preserved-then-not-is_wanted
entries-preserved-then-not-is_wanted g c =
    sought_to c.args.query.now c.args.tag c.reach.result c.mask-mask.result (c.entries.place + 1)
    c.next_set-place-in-entries.result c.reach.ensures c.in_ok-leaf.ensures.boxes c.mask-mask.ensures.met
    c.next_set-place-in-entries.ensures.within c.next_set-place-in-entries.ensures.unset
    (one_passed c.entries.invariant (item_of c.entry-entry.result)
    (omega (arith, c.entries-test.true, c.len-count.ensures.count)) c.entry-entry.ensures
    (sym c.is_wanted.ensures ∙ c.if-not-is_wanted.true))

pub entries-preserved : goal.entries-preserved
entries-preserved g c =
    sought_to c.args.query.now c.args.tag c.reach.result c.mask-mask.result (c.entries.place + 1)
    c.next_set-place-in-entries.result c.reach.ensures c.in_ok-leaf.ensures.boxes c.mask-mask.ensures.met
    c.next_set-place-in-entries.ensures.within c.next_set-place-in-entries.ensures.unset
    (one_taken c.entries.invariant (item_of c.entry-entry.result)
    (omega (arith, c.entries-test.true, c.len-count.ensures.count)) c.entry-entry.ensures
    (sym c.is_wanted.ensures ∙ c.if-not-is_wanted.false) c.push.new.self.items c.in_ok-push.ensures.items)

pub returns-in_err-push-clause-asks : goal.returns-in_err-push-clause-asks
returns-in_err-push-clause-asks g c =
    asks_and_refuses_memory c.args.cache.now c.view_node.follows.lender-at-none fault.Memory
    c.from_residual-in_err-push.result c.from_residual-in_err-push.ensures.1 refl (search rules)

pub returns-clause-rows : goal.returns-clause-rows
returns-clause-rows g c = λ h content there level.
    let m : PageMap = pages c.args.cache.now in
    let live = page_of_node g.row.D (m c.args.page) content there in
    let same =
    ap (λ x. x.entries)
    (same_content g.row.D m c.args.page (content_in c.in_ok-leaf.leaf) content
    (c.in_ok-leaf.ensures.node h live) there) in
    subst (λ items. c.entries.rows.items ≡ c.args.rows.now.items
    ++ map object_of (wanted_entries (seeks c.args.query.now) c.args.tag items)) same
    (all_taken c.entries.invariant (omega (arith, c.entries-test.false, c.len-count.ensures.count)))
