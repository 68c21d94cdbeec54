-- The goals of `check_tree` that are proved by hand.
use Rattle.std.proofs.Common.{◌≡◌, ◌∙◌, ◌++◌, ◌∷◌, [], ℕ, List, None, Vec, ap, inl, refl, subst, sym, ⊎_elim}
use Rattle.std.proofs.Common.{arith}
use Rattle.std.proofs.lemmas.List.{length-map}
use Rattle.block_device.specs.Device.{one_more}
use Rattle.page_file.specs.Fault.{IsOfDevice}
use Rattle.page_file.specs.declared.fault.Fault.TheVariants as fault
use Rattle.page_cache.specs.Cache.{given, looks_of}
use Rattle.page_cache.specs.Calls.{asks_and_refuses, asks_in_turn, no_call_asks}
use Rattle.page_cache.specs.Laws.{numbers_are_few}
use Rattle.tree_node.specs.Nodes.{content_of, item_of}
use Rattle.node_page.specs.Checked.{IsCheckedTree}
use Rattle.node_page.specs.Standing.{RowStands}
use Rattle.node_page.specs.Visits.{times_in}
use Rattle.node_page.proofs.CheckLemmas.{adds_on, checked_live, quiet_visit, refuses_quietly, root_count}
use Rattle.node_page.proofs.CheckLemmas.{root_visited, tree_checked}
use Rattle.node_page.proofs.DamageLemmas.{comes_below_so, comes_on, damaged_read, damaged_visit}
use Rattle.node_page.proofs.GivenLemmas.{live_tree_is_given, node_was_given_out}
use Rattle.node_page.proofs.LeafLemmas.{entries_there}
use Rattle.node_page.proofs.NodeLemmas.{at_error}
use Rattle.node_page.proofs.StandingLemmas.{row_stays}
use Rattle.node_page.proofs.check.check_tree.Goals as goal

pub returns-in_err-visit-clause-asks : goal.returns-in_err-visit-clause-asks
returns-in_err-visit-clause-asks g c =
    refuses_quietly c.args.cache.now c.args.cache.now c.in_err-visit.field-0.0
    c.from_residual-in_err-visit.result c.from_residual-in_err-visit.ensures.1
    (no_call_asks c.args.cache.now) (quiet_visit c.in_err-visit.field-0.0 _ c.in_err-visit.ensures.faults)

pub returns-in_err-visit-clause-stands : goal.returns-in_err-visit-clause-stands
returns-in_err-visit-clause-stands g c = λ h t page level stands shape.
    let at =
    live_tree_is_given g.row.D c.args.cache.now t c.args.root.page c.args.root.level page level stands in
    let out = node_was_given_out g.row.D c.args.cache.now c.args.root.page _ at.node in
    let none : times_in c.args.root.page c.in_ok-visits.visits.pages.items ≡ 0 =
    ap (times_in c.args.root.page) c.in_ok-visits.ensures.none in
    at_error c.from_residual-in_err-visit.result c.in_err-visit.field-0.0 IsOfDevice
    c.from_residual-in_err-visit.ensures.1
    (inl (c.in_err-visit.ensures.first none
    (omega (arith, out.1, c.in_ok-visits.ensures.marks, c.next_number.ensures))))

pub returns-in_err-node-clause-looks : goal.returns-in_err-node-clause-looks
returns-in_err-node-clause-looks g c =
    ⊎_elim
    (λ (same : looks_of c.read_node.new.cache ≡ looks_of c.args.cache.now). omega (arith, same))
    (λ (one : looks_of c.read_node.new.cache ≡ one_more (looks_of c.args.cache.now)). omega
    (arith, one, numbers_are_few c.args.cache.now))
    c.in_err-node.ensures.refused_looks

pub returns-in_err-node-clause-stands : goal.returns-in_err-node-clause-stands
returns-in_err-node-clause-stands g c = λ h t page level stands shape.
    let at =
    live_tree_is_given g.row.D c.args.cache.now t c.args.root.page c.args.root.level page level stands in
    at_error c.from_residual-in_err-node.result c.in_err-node.field-0.0 IsOfDevice
    c.from_residual-in_err-node.ensures.1 (c.in_err-node.ensures.given_there h _ at.node refl)

pub returns-then-not-is_root_count-clause-stands : goal.returns-then-not-is_root_count-clause-stands
returns-then-not-is_root_count-clause-stands g c = λ h t page level stands shape.
    let at =
    live_tree_is_given g.row.D c.args.cache.now t c.args.root.page c.args.root.level page level stands in
    let count =
    root_count g.row.D c.args.fanout (given c.args.cache.now) t c.args.root.page c.args.root.level
    (content_of c.in_ok-node.node) level at shape (c.in_ok-node.ensures.given_node h) in
    let many = length-map c.in_ok-node.node.entries.items item_of in
    let good =
    c.is_root_count.ensures.1 (
      omega (arith, many, c.len.ensures.value, count.0),
      λ above. omega (arith, many, c.len.ensures.value, count.1 above),
    ) in
    absurd (cc)

pub returns-in_err-add_below-clause-asks : goal.returns-in_err-add_below-clause-asks
returns-in_err-add_below-clause-asks g c =
    asks_and_refuses c.args.cache.now c.read_node.new.cache c.add_below.new.cache
    c.in_err-add_below.field-0.0 c.from_residual-in_err-add_below.result
    c.from_residual-in_err-add_below.ensures.1 c.in_ok-node.ensures.asks c.in_err-add_below.ensures.asks

pub returns-in_err-add_below-clause-stands : goal.returns-in_err-add_below-clause-stands
returns-in_err-add_below-clause-stands g c = λ h t page level stands shape.
    let old = c.args.cache.now in
    let a = c.in_ok-node.ensures.asks in
    let at = live_tree_is_given g.row.D old t c.args.root.page c.args.root.level page level stands in
    let items =
    entries_there g.row.D (given old) c.args.root.page c.args.root.level t.row
    (content_of c.in_ok-node.node) at (c.in_ok-node.ensures.given_node h) in
    let below =
    subst (λ (l : ℕ). RowStands g.row.D (given old) l t.row) (sym c.in_ok-node.ensures.level) at.below in
    let list = c.in_ok-visit.ensures.added
    ∙ ap (λ (xs : List ℕ). xs ++ c.args.root.page ∷ []) c.in_ok-visits.ensures.none in
    at_error c.from_residual-in_err-add_below.result c.in_err-add_below.field-0.0 IsOfDevice
    c.from_residual-in_err-add_below.ensures.1
    (c.in_err-add_below.ensures.stands (a.gate.honest.0 h) t.row items
    (row_stays g.row.D (given old) (given c.read_node.new.cache) c.in_ok-node.node.level t.row
    (λ n some. a.map.given_stay h n) below) shape.below
    (root_visited t c.args.root.page c.visit.new.self.pages.items page list stands.distinct))

pub returns-clause-asks : goal.returns-clause-asks
returns-clause-asks g c =
    asks_in_turn c.args.cache.now c.read_node.new.cache c.add_below.new.cache None c.in_ok-node.ensures.asks
    c.in_ok-add_below.ensures.asks

pub returns-clause-given_tree : goal.returns-clause-given_tree
returns-clause-given_tree g c = λ h.
    let old = c.args.cache.now in
    let a = c.in_ok-node.ensures.asks in
    let list = c.in_ok-visit.ensures.added
    ∙ ap (λ (xs : List ℕ). xs ++ c.args.root.page ∷ []) c.in_ok-visits.ensures.none in
    let counts = c.is_root_count.ensures.0 c.if-not-is_root_count.false in
    let many = length-map c.in_ok-node.node.entries.items item_of in
    let checked =
    tree_checked g.row.D c.args.fanout (given old) c.args.root.page c.args.root.level
    (content_of c.in_ok-node.node) c.new-pairs.result.items c.add_below.new.pairs.items
    c.visit.new.self.pages.items
    c.add_below.new.visits.pages.items (c.in_ok-node.ensures.given_node h) c.in_ok-node.ensures.level (
      omega (arith, many, c.len.ensures.value, counts.0),
      λ above. omega (arith, many, c.len.ensures.value, counts.1 above),
    ) c.new-pairs.ensures.items list
    c.add_below.new.visits.marked.once
    (adds_on g.row.D c.args.fanout (given c.read_node.new.cache) (given old) (content_of c.in_ok-node.node)
    c.new-pairs.result.items c.add_below.new.pairs.items c.visit.new.self.pages.items
    c.add_below.new.visits.pages.items
    (λ n. sym (a.map.given_stay h n)) (c.in_ok-add_below.ensures.found (a.gate.honest.0 h))) in
    subst (λ (v : Vec ℕ g.row.H.Denot). IsCheckedTree g.row.D c.args.fanout (given old) c.args.root.page
    c.args.root.level c.add_below.new.pairs.items v.items) (sym c.into_pages-pages.ensures) checked

pub returns-clause-tree : goal.returns-clause-tree
returns-clause-tree g c =
    λ sound. checked_live g.row.D c.args.fanout c.args.cache.now c.args.root.page c.args.root.level
    c.add_below.new.pairs.items c.into_pages-pages.result.items sound
    (returns-clause-given_tree g c sound.honest)

pub returns-in_err-visit-clause-damage : goal.returns-in_err-visit-clause-damage
returns-in_err-visit-clause-damage g c = λ h.
    at_error c.from_residual-in_err-visit.result c.in_err-visit.field-0.0 _
    c.from_residual-in_err-visit.ensures.1
    (λ n damaged.
    ([], damaged_visit c.in_err-visit.field-0.0 c.args.root.page n c.in_err-visit.ensures.faults damaged))

pub returns-in_err-node-clause-damage : goal.returns-in_err-node-clause-damage
returns-in_err-node-clause-damage g c = λ h.
    at_error c.from_residual-in_err-node.result c.in_err-node.field-0.0 _
    c.from_residual-in_err-node.ensures.1
    (λ n damaged. (
      [],
      damaged_read c.in_err-node.field-0.0 c.args.root.page n (c.in_err-node.ensures.faults h)
          damaged,
    ))

pub returns-then-not-is_root_count-clause-damage : goal.returns-then-not-is_root_count-clause-damage
returns-then-not-is_root_count-clause-damage g c =
    λ h n (damaged : fault.Damaged c.args.root.page ≡ fault.Damaged n). ([], cc)

pub returns-in_err-add_below-clause-damage : goal.returns-in_err-add_below-clause-damage
returns-in_err-add_below-clause-damage g c = λ h.
    let old = c.args.cache.now in
    let a = c.in_ok-node.ensures.asks in
    at_error c.from_residual-in_err-add_below.result c.in_err-add_below.field-0.0 _
    c.from_residual-in_err-add_below.ensures.1
    (λ n damaged. comes_on g.row.D (given old) c.args.root.page (content_of c.in_ok-node.node) n
    (c.in_ok-node.ensures.given_node h)
    (comes_below_so g.row.D (given old) (given c.read_node.new.cache) (content_of c.in_ok-node.node) n
    (λ k. a.map.given_stay h k) (c.in_err-add_below.ensures.damage (a.gate.honest.0 h) n damaged)))
