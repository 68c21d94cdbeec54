-- The goals of `find_children` that are proved by hand.
use Rattle.std.proofs.Common.{◌≡◌, ◌∙◌, ◌+◌, ap, sym, subst, map, arith, length, []}
use Rattle.page_cache.specs.Cache.{pages}
use Rattle.tree_node.specs.Nodes.{Item, item_of}
use Rattle.node_page.specs.Standing.{PageMap}
use Rattle.node_bytes.specs.Views.{content_in}
use Rattle.node_page.proofs.StandingLemmas.{page_of_node, same_content}
use Rattle.range_query.specs.Entries.{passing_entries, reference_of}
use Rattle.box_math.specs.Queries.{admits}
use Rattle.range_query.proofs.EntryLemmas.{Taken, admitted_to, all_taken, none_taken, one_passed, one_taken}
use Rattle.range_query.proofs.DamageLemmas.{taken_are_named}
use Rattle.range_query.proofs.descent.find_children.Goals as goal

pub entries-init : goal.entries-init
entries-init g c = (
  admitted_to c.args.query.now c.reach.result c.mask-mask.result 0 c.next_set-place.result c.reach.ensures
      c.in_ok-node.ensures.boxes c.mask-mask.ensures.met c.next_set-place.ensures.within
      c.next_set-place.ensures.unset
      (subst (λ xs. Taken reference_of (λ (item : Item). admits c.args.query.now item.bounds)
      (content_in c.in_ok-node.node).entries 0 [] xs) (sym c.clear.ensures)
      (none_taken reference_of (λ (item : Item). admits c.args.query.now item.bounds)
      (content_in c.in_ok-node.node).entries [])),
  omega (arith, ap length c.clear.ensures),
)

pub entries-preserved-then-not-admits : goal.entries-preserved-then-not-admits
entries-preserved-then-not-admits g c = (
  admitted_to c.args.query.now c.reach.result c.mask-mask.result (c.entries.place + 1)
      c.next_set-place-in-entries.result c.reach.ensures c.in_ok-node.ensures.boxes c.mask-mask.ensures.met
      c.next_set-place-in-entries.ensures.within c.next_set-place-in-entries.ensures.unset
      (one_passed c.entries.invariant.0 (item_of c.entry-entry.result)
      (omega (arith, c.entries-test.true, c.len-count.ensures.count)) c.entry-entry.ensures
      (sym c.admits.ensures ∙ c.if-not-admits.true)),
  omega (arith, c.entries.invariant.1, c.next_set-place-in-entries.ensures.within),
)

pub entries-preserved : goal.entries-preserved
entries-preserved g c = (
  admitted_to c.args.query.now c.reach.result c.mask-mask.result (c.entries.place + 1)
      c.next_set-place-in-entries.result c.reach.ensures c.in_ok-node.ensures.boxes c.mask-mask.ensures.met
      c.next_set-place-in-entries.ensures.within c.next_set-place-in-entries.ensures.unset
      (one_taken c.entries.invariant.0 (item_of c.entry-entry.result)
      (omega (arith, c.entries-test.true, c.len-count.ensures.count)) c.entry-entry.ensures
      (sym c.admits.ensures ∙ c.if-not-admits.false) c.push.new.self.items c.push.ensures.items),
  omega (arith, c.entries.invariant.1, c.push.ensures.len, c.next_set-place-in-entries.ensures.within),
)

pub returns-clause-children : goal.returns-clause-children
returns-clause-children g c = λ h content there level.
    let m : PageMap = pages c.args.cache.now in
    let live = page_of_node g.row.D (m c.args.root.page) content there in
    let same =
    ap (λ x. x.entries)
    (same_content g.row.D m c.args.root.page (content_in c.in_ok-node.node) content
    (c.in_ok-node.ensures.node h live) there) in
    subst (λ items. c.entries.children.items ≡ map reference_of
    (passing_entries (admits c.args.query.now) items)) same
    (all_taken c.entries.invariant.0 (omega (arith, c.entries-test.false, c.len-count.ensures.count)))

pub returns-clause-named : goal.returns-clause-named
returns-clause-named g c = λ h.
    let content = content_in c.in_ok-node.node in (
      content,
      c.in_ok-node.ensures.given_node h,
      taken_are_named (admits c.args.query.now) content c.entries.children.items
          (omega (arith, c.requires.above, c.in_ok-node.ensures.level))
          (all_taken c.entries.invariant.0 (omega (arith, c.entries-test.false, c.len-count.ensures.count))),
    )
