-- The goals of `free_tree` that are proved by hand.
use Rattle.std.proofs.Common.{None, ◌≡◌, ⊎_elim, inl, inr, ◌+◌, ◌<◌, ◌≤◌, [], length, arith}
use Rattle.std.proofs.Common.{false, IfErr}
use Rattle.std.proofs.lemmas.List.{length-map}
use Rattle.page_file.specs.Fault.{IsOfDevice}
use Rattle.page_cache.specs.Cache.{IsPageMap, given, next_of, pages, touched_of}
use Rattle.page_cache.specs.Calls.{asks_changes, changes_and_refuses}
use Rattle.page_cache.specs.Calls.{changes_in_turn, fault_in}
use Rattle.tree_node.specs.Boxes.{no_item}
use Rattle.tree_node.specs.Nodes.{content_of, item_of}
use Rattle.node_page.proofs.DamageLemmas.{damaged_read}
use Rattle.node_page.proofs.GivenLemmas.{given_node_is_live}
use Rattle.node_page.proofs.NodeLemmas.{at_error, if_error}
use Rattle.node_page.proofs.PartLemmas.{none_or_some}
use Rattle.node_page.proofs.StandingLemmas.{page_of_node}
use Rattle.condense.specs.Taken.{tree_at}
use Rattle.condense.proofs.DamageLemmas.{child_named, comes_before, free_refused, given_before}
use Rattle.condense.proofs.DamageLemmas.{gone_adds_none, others_keep, same_adds_none, same_keeps}
use Rattle.condense.proofs.FreeLemmas.{children_freed, freed_none, freed_root}
use Rattle.condense.proofs.FreeLemmas.{is_root, moves_at, next_child, on_ok}
use Rattle.condense.proofs.FreeLemmas.{root_live, stands_there}
use Rattle.condense.proofs.free.+free_tree.Goals as goal

pub children-init : goal.children-init
children-init g t c = (
  asks_changes c.args.cache.now c.read_node.new.cache None c.in_ok-node.ensures.asks,
  omega (arith, c.in_ok-node.ensures.asks.map.next, c.in_ok-node.ensures.asks.map.free_count),
  λ h row stands. (
    c.in_ok-node.ensures.asks.map.sound.0 h,
    freed_none (pages c.args.cache.now) (pages c.read_node.new.cache) row
        (c.in_ok-node.ensures.asks.map.pages_stay h.honest),
  ),
  λ h. let same = c.in_ok-node.ensures.asks.map.pages_stay h.honest in (
    c.in_ok-node.ensures.asks.map.sound.0 h,
    same_adds_none g.row.D (pages c.args.cache.now) (pages c.read_node.new.cache) same,
    same_keeps g.row.D c.args.root.level (pages c.args.cache.now) (pages c.read_node.new.cache) same,
  ),
)

pub children-preserved : goal.children-preserved
children-preserved g t c = (
  changes_in_turn c.args.cache.now c.children.cache c.free_tree.new.cache None c.children.invariant.0
      c.in_ok-free_tree.ensures.changes,
  omega (arith, c.children.invariant.1, c.in_ok-free_tree.ensures.grows),
  λ h row stands.
      let so_far = c.children.invariant.2 h row stands in
      let below = c.child_of-below.result in
      let next =
      next_child g.row.D (pages c.args.cache.now) (pages c.children.cache) c.args.root row
      c.in_ok-node.node.level c.child_count-at-end.result c.children.at c.in_ok-node.node.entries.items
      stands
      (c.in_ok-node.ensures.node h.honest) c.in_ok-node.ensures.level c.child_count-at-end.ensures.leaf
      c.child_count-at-end.ensures.above so_far.1 (omega (arith, c.children-test.true))
      c.child_of-below.result c.child_of-below.ensures.page c.child_of-below.ensures.level in (
        c.in_ok-free_tree.ensures.sound so_far.0 (tree_at below next.row) (is_root below next.row)
            next.stands,
        next.goes (pages c.free_tree.new.cache)
            (c.in_ok-free_tree.ensures.freed so_far.0 (tree_at below next.row) (is_root below next.row)
            next.stands),
      ),
  λ h. let so_far = c.children.invariant.3 h in
      let next = c.in_ok-free_tree.ensures.nodes so_far.0 in
      let above : 0 < c.in_ok-node.node.level = ⊎_elim
      (λ (none : c.in_ok-node.node.level ≡ 0).
      absurd (omega (arith, c.child_count-at-end.ensures.leaf none, c.children-test.true)))
      (λ (some : 0 < c.in_ok-node.node.level). some) (none_or_some c.in_ok-node.node.level) in (
        next.0,
        λ n x there. so_far.1 n x (next.1 n x there),
        λ n x there high. next.2 n x (so_far.2 n x there high)
            (omega (arith, high, above, c.child_of-below.ensures.level, c.in_ok-node.ensures.level)),
      ),
)

pub returns-in_err-free_tree-clause-changes : goal.returns-in_err-free_tree-clause-changes
returns-in_err-free_tree-clause-changes g t c =
    changes_and_refuses c.args.cache.now c.children.cache c.free_tree.new.cache
    c.in_err-free_tree.field-0.0 c.from_residual-in_err-free_tree.result
    c.from_residual-in_err-free_tree.ensures.1 c.children.invariant.0 c.in_err-free_tree.ensures.changes

pub returns-in_err-free_tree-clause-sound : goal.returns-in_err-free_tree-clause-sound
returns-in_err-free_tree-clause-sound g t c = λ h whole at standing.
    let stands = stands_there g.row.D (pages c.args.cache.now) c.args.root whole at standing in
    let so_far = c.children.invariant.2 h whole.row stands in
    let below = c.child_of-below.result in
    let next =
    next_child g.row.D (pages c.args.cache.now) (pages c.children.cache) c.args.root whole.row
    c.in_ok-node.node.level c.child_count-at-end.result c.children.at c.in_ok-node.node.entries.items
    stands
    (c.in_ok-node.ensures.node h.honest) c.in_ok-node.ensures.level c.child_count-at-end.ensures.leaf
    c.child_count-at-end.ensures.above so_far.1 (omega (arith, c.children-test.true))
    c.child_of-below.result c.child_of-below.ensures.page c.child_of-below.ensures.level in
    c.in_err-free_tree.ensures.sound so_far.0 (tree_at below next.row) (is_root below next.row) next.stands

pub returns-in_err-free_tree-clause-faults : goal.returns-in_err-free_tree-clause-faults
returns-in_err-free_tree-clause-faults g t c = λ h whole at standing low.
    let stands = stands_there g.row.D (pages c.args.cache.now) c.args.root whole at standing in
    let so_far = c.children.invariant.2 h whole.row stands in
    let below = c.child_of-below.result in
    let next =
    next_child g.row.D (pages c.args.cache.now) (pages c.children.cache) c.args.root whole.row
    c.in_ok-node.node.level c.child_count-at-end.result c.children.at c.in_ok-node.node.entries.items
    stands
    (c.in_ok-node.ensures.node h.honest) c.in_ok-node.ensures.level c.child_count-at-end.ensures.leaf
    c.child_count-at-end.ensures.above so_far.1 (omega (arith, c.children-test.true))
    c.child_of-below.result c.child_of-below.ensures.page c.child_of-below.ensures.level in
    at_error c.from_residual-in_err-free_tree.result c.in_err-free_tree.field-0.0 IsOfDevice
    c.from_residual-in_err-free_tree.ensures.1
    (c.in_err-free_tree.ensures.faults so_far.0 (tree_at below next.row) (is_root below next.row) next.stands
    c.child_of-below.ensures.low)

pub returns-clause-changes : goal.returns-clause-changes
returns-clause-changes g t c =
    changes_in_turn c.args.cache.now c.children.cache c.free.new.self (fault_in c.free.result)
    c.children.invariant.0 c.free.ensures.changes

pub returns-clause-freed : goal.returns-clause-freed
returns-clause-freed g t c = λ h whole at standing.
    let stands = stands_there g.row.D (pages c.args.cache.now) c.args.root whole at standing in
    let so_far = c.children.invariant.2 h whole.row stands in
    let gone =
    children_freed g.row.D (pages c.args.cache.now) (pages c.children.cache) c.args.root whole.row
    c.in_ok-node.node.level c.child_count-at-end.result c.children.at c.in_ok-node.node.entries.items
    stands
    (c.in_ok-node.ensures.node h.honest) c.in_ok-node.ensures.level c.child_count-at-end.ensures.leaf
    c.child_count-at-end.ensures.above so_far.1 (omega (arith, c.children-test.false)) in
    let live =
    root_live g.row.D (pages c.args.cache.now) (pages c.children.cache) c.args.root.page
    c.args.root.level whole.row stands gone in
    on_ok c.free.result (pages c.free.new.self c.args.root.page ≡ None) _
    (c.free.ensures.freed so_far.0.honest live) (λ freed.
    moves_at c.args.root whole at (pages c.args.cache.now) (pages c.free.new.self)
    (freed_root g.row.D (pages c.args.cache.now) (pages c.children.cache) c.args.root.page c.args.root.level
    whole.row stands gone (pages c.free.new.self) freed (c.free.ensures.others so_far.0.honest live)))

pub returns-clause-sound : goal.returns-clause-sound
returns-clause-sound g t c = λ h whole at standing.
    let stands = stands_there g.row.D (pages c.args.cache.now) c.args.root whole at standing in
    let so_far = c.children.invariant.2 h whole.row stands in
    let gone =
    children_freed g.row.D (pages c.args.cache.now) (pages c.children.cache) c.args.root whole.row
    c.in_ok-node.node.level c.child_count-at-end.result c.children.at c.in_ok-node.node.entries.items
    stands
    (c.in_ok-node.ensures.node h.honest) c.in_ok-node.ensures.level c.child_count-at-end.ensures.leaf
    c.child_count-at-end.ensures.above so_far.1 (omega (arith, c.children-test.false)) in
    let live =
    root_live g.row.D (pages c.args.cache.now) (pages c.children.cache) c.args.root.page
    c.args.root.level whole.row stands gone in
    c.free.ensures.sound so_far.0 live

pub returns-clause-faults : goal.returns-clause-faults
returns-clause-faults g t c = λ h whole at standing low.
    let stands = stands_there g.row.D (pages c.args.cache.now) c.args.root whole at standing in
    let so_far = c.children.invariant.2 h whole.row stands in
    let gone =
    children_freed g.row.D (pages c.args.cache.now) (pages c.children.cache) c.args.root whole.row
    c.in_ok-node.node.level c.child_count-at-end.result c.children.at c.in_ok-node.node.entries.items
    stands
    (c.in_ok-node.ensures.node h.honest) c.in_ok-node.ensures.level c.child_count-at-end.ensures.leaf
    c.child_count-at-end.ensures.above so_far.1 (omega (arith, c.children-test.false)) in
    let live =
    root_live g.row.D (pages c.args.cache.now) (pages c.children.cache) c.args.root.page
    c.args.root.level whole.row stands gone in
    c.free.ensures.faults so_far.0 live (λ two. absurd (omega (arith, two, low)))

-- ---- in any pages

pub returns-in_err-node-clause-damage : goal.returns-in_err-node-clause-damage
returns-in_err-node-clause-damage g t c = λ h either.
    at_error c.from_residual.result c.in_err-node.field-0.0 _
    c.from_residual.ensures.1
    (λ n damaged. (
      [],
      damaged_read c.in_err-node.field-0.0 c.args.root.page n (c.in_err-node.ensures.faults h) damaged,
    ))

pub returns-in_err-free_tree-clause-damage : goal.returns-in_err-free_tree-clause-damage
returns-in_err-free_tree-clause-damage g t c = λ h either.
    let D = g.row.D in
    let old = c.args.cache.now in
    let mid = c.children.cache in
    let new = c.free_tree.new.cache in
    let content = content_of c.in_ok-node.node in
    let so_far = c.children.invariant.0 in
    let above : 0 < c.in_ok-node.node.level = ⊎_elim
    (λ (none : c.in_ok-node.node.level ≡ 0).
    absurd (omega (arith, c.child_count-at-end.ensures.leaf none, c.children-test.true)))
    (λ (some : 0 < c.in_ok-node.node.level). some) (none_or_some c.in_ok-node.node.level) in
    let within : c.children.at < length content.entries =
    omega (
      arith,
      c.children-test.true,
      c.child_count-at-end.ensures.above above,
      length-map c.in_ok-node.node.entries.items (item_of {D = D}),
    ) in
    let named = child_named content c.children.at c.child_of-below.result.page above within
    (c.child_of-below.ensures.page no_item) in
    let fewer = given_before D old mid new h so_far.untouched c.in_err-free_tree.ensures.changes.touched
    (λ map. let now = c.children.invariant.3 map in (now.0, now.1)) either in
    let below = ⊎_elim
    (λ (map : IsPageMap old). inl (c.children.invariant.3 map).0)
    (λ (none : touched_of new ≡ false). inr none) either in
    at_error c.from_residual-in_err-free_tree.result c.in_err-free_tree.field-0.0 _
    c.from_residual-in_err-free_tree.ensures.1
    (λ n damaged. comes_before D (given old) (given mid) c.args.root.page content
    c.child_of-below.result.page n (c.in_ok-node.ensures.given_node h) named fewer
    (c.in_err-free_tree.ensures.damage (so_far.honest.0 h) below n damaged))

pub returns-clause-nodes : goal.returns-clause-nodes
returns-clause-nodes g t c = λ h.
    let D = g.row.D in
    let old = c.args.cache.now in
    let mid = c.children.cache in
    let new = c.free.new.self in
    let page = c.args.root.page in
    let content = content_of c.in_ok-node.node in
    let so_far = c.children.invariant.3 h in
    let there = so_far.2 page content
    (given_node_is_live D old page content h (c.in_ok-node.ensures.given_node h.honest))
    (omega (arith, c.in_ok-node.ensures.level)) in
    let live = page_of_node D (pages mid page) content there in
    let others = c.free.ensures.others so_far.0.honest live in
    on_ok c.free.result (pages new page ≡ None) _
    (c.free.ensures.freed so_far.0.honest live) (λ gone. (
      c.free.ensures.sound so_far.0 live,
      λ n x is. so_far.1 n x
          (gone_adds_none D (pages mid) (pages new) page others gone n x is),
      λ n x is high. others_keep D (pages mid) (pages new) page others (c.args.root.level + 1) content there
          (omega (arith, c.in_ok-node.ensures.level)) n x (so_far.2 n x is (omega (arith, high))) high,
    ))

pub returns-clause-damage : goal.returns-clause-damage
returns-clause-damage g t c = λ h either.
    let D = g.row.D in
    let old = c.args.cache.now in
    let mid = c.children.cache in
    let new = c.free.new.self in
    let page = c.args.root.page in
    let content = content_of c.in_ok-node.node in
    let inside : 3 ≤ page → page < next_of mid → IfErr c.free.result IsOfDevice = λ low below. ⊎_elim
    (λ (map : IsPageMap old). let so_far = c.children.invariant.3 map in
    let there = so_far.2 page content
    (given_node_is_live D old page content map (c.in_ok-node.ensures.given_node map.honest))
    (omega (arith, c.in_ok-node.ensures.level)) in
    c.free.ensures.faults so_far.0 (page_of_node D (pages mid page) content there)
    (λ two. absurd (omega (arith, two, low))))
    (λ (none : touched_of new ≡ false). c.free.ensures.untouched low below none)
    either in
    if_error c.free.result _ _
    (λ f is n damaged. ([], damaged_read f page n is damaged))
    (free_refused c.free.result page (next_of mid) (λ out. (c.free.ensures.outside out).0) inside)
