-- The root is one of a table, and what is below it was found.
use Rattle.std.proofs.Common.{◌≡◌, ◌∙◌, ◌<◌, ◌++◌, ◌∷◌, [], ℕ, List, None, Vec, ap, arith, inl}
use Rattle.std.proofs.Common.{length, subst, sym, true}
use Rattle.block_bytes.specs.Numbers.{number_at}
use Rattle.bucket_page.specs.Layout.{Entry}
use Rattle.page_file.specs.Fault.{IsOfDevice}
use Rattle.page_file.specs.declared.fault.Fault.TheVariants as fault
use Rattle.page_cache.specs.Cache.{given}
use Rattle.page_cache.specs.Calls.{asks_and_refuses, asks_in_turn, no_call_asks}
use Rattle.node_page.specs.Checked.{named_pages}
use Rattle.node_page.proofs.CheckLemmas.{quiet_visit, refuses_quietly}
use Rattle.node_page.proofs.DamageLemmas.{damaged_read, damaged_visit}
use Rattle.node_page.proofs.NodeLemmas.{at_error}
use Rattle.id_page.specs.Fork.{ForkContent}
use Rattle.id_words.proofs.SeenLemmas.{none_seen, seen_once}
use Rattle.id_tree.specs.Checked.{AddsNode, FindsRoot, IsCheckedTable}
use Rattle.id_tree.specs.Tree.{links_of}
use Rattle.id_tree.proofs.CheckLemmas.{may_on, node_on}
use Rattle.id_tree.proofs.CheckedLemmas.{empty_checked, may_add_root, table_checked}
use Rattle.id_tree.proofs.GivenLemmas.{checked_live, comes_here, comes_so, live_table, node_given_out}
use Rattle.id_tree.proofs.NodeLemmas.{fork_bytes}
use Rattle.id_tree.proofs.check.check_table.Goals as goal

pub returns-in_err-come_to-clause-asks : goal.returns-in_err-come_to-clause-asks
returns-in_err-come_to-clause-asks g c =
    refuses_quietly c.args.cache.now c.args.cache.now c.in_err-come_to.field-0.0
    c.from_residual-in_err-come_to.result c.from_residual-in_err-come_to.ensures.1
    (no_call_asks c.args.cache.now)
    (quiet_visit c.in_err-come_to.field-0.0 _ c.in_err-come_to.ensures.faults)

pub returns-in_err-come_to-clause-stands : goal.returns-in_err-come_to-clause-stands
returns-in_err-come_to-clause-stands g c = λ h t at stands.
    let there = live_table g.row.D c.args.cache.now t stands in
    let out = node_given_out g.row.D c.args.cache.now t.page t.level t.row there.root in
    let low : 2 < c.args.root = subst (λ (n : ℕ). 2 < n) at stands.low in
    let none = ap (λ (list : List ℕ). named_pages list c.args.root) c.in_ok-visits.ensures.none in
    let within : c.args.root < length c.in_ok-visits.visits.marks.items =
    omega (arith, at, out.1, c.in_ok-visits.ensures.marks, c.next_number.ensures) in
    at_error c.from_residual-in_err-come_to.result c.in_err-come_to.field-0.0 IsOfDevice
    c.from_residual-in_err-come_to.ensures.1 (inl (c.in_err-come_to.ensures.first low none within))

pub returns-in_err-bytes-clause-stands : goal.returns-in_err-bytes-clause-stands
returns-in_err-bytes-clause-stands g c = λ h t at stands.
    let there = live_table g.row.D c.args.cache.now t stands in
    let out = node_given_out g.row.D c.args.cache.now t.page t.level t.row there.root in
    at_error c.from_residual-in_err-bytes.result c.in_err-bytes.field-0.0 IsOfDevice
    c.from_residual-in_err-bytes.ensures.1
    (c.in_err-bytes.ensures.there h (omega (arith, at, out.0)) (omega (arith, at, out.1)))

pub returns-then-not-is_root-clause-stands : goal.returns-then-not-is_root-clause-stands
returns-then-not-is_root-clause-stands g c = λ h t at stands.
    let m = given c.args.cache.now in
    let there = live_table g.row.D c.args.cache.now t stands in
    let content : ForkContent = record { level = t.level; links = links_of t.row } in
    let is = fork_bytes g.row.D (m t.page) c.in_ok-bytes.bytes content
    (ap m at ∙ c.in_ok-bytes.ensures.bytes h) (there.root.fork there.high) in
    let yes = c.is_root.ensures.accepts content is there.bounded there.wide in
    absurd (cc)

pub returns-then-count-eq0-clause-given_table : goal.returns-then-count-eq0-clause-given_table
returns-then-count-eq0-clause-given_table g c = λ h.
    let D = g.row.D in
    let m = given c.args.cache.now in
    let root = c.args.root in
    let list = c.in_ok-come_to.ensures.added ∙ ap (λ (xs : List ℕ). xs ++ root ∷ [])
    c.in_ok-visits.ensures.none in
    let f = subst (λ n. FindsRoot D (number_at 1 4 c.in_ok-bytes.bytes) n c.in_ok-bytes.bytes)
    (sym c.count_at-count.ensures.value ∙ c.if-count-eq0.true)
    (c.is_root.ensures.root c.if-not-is_root.false) in
    let checked = empty_checked D m root c.in_ok-bytes.bytes (number_at 1 4 c.in_ok-bytes.bytes)
    c.come_to.new.visits.pages.items c.in_ok-come_to.ensures.low (c.in_ok-bytes.ensures.bytes h) f list in
    subst (λ (es : List Entry). IsCheckedTable D m root es c.into_pages-pages.result.items)
    (sym c.new-pairs.ensures.items)
    (subst (λ (v : Vec ℕ g.row.H.Denot). IsCheckedTable D m root [] v.items) (sym c.into_pages-pages.ensures)
    checked)

pub returns-then-count-eq0-clause-table : goal.returns-then-count-eq0-clause-table
returns-then-count-eq0-clause-table g c = λ sound.
    checked_live g.row.D c.args.cache.now c.args.root c.new-pairs.result.items c.into_pages-pages.result.items
    sound (returns-then-count-eq0-clause-given_table g c sound.honest)

pub returns-in_err-add_below-clause-asks : goal.returns-in_err-add_below-clause-asks
returns-in_err-add_below-clause-asks g c =
    asks_and_refuses c.args.cache.now c.copy_given.new.cache c.add_below.new.cache
    c.in_err-add_below.field-0.0 c.from_residual-in_err-add_below.result
    c.from_residual-in_err-add_below.ensures.1 c.in_ok-bytes.ensures.asks c.in_err-add_below.ensures.asks

pub returns-in_err-add_below-clause-stands : goal.returns-in_err-add_below-clause-stands
returns-in_err-add_below-clause-stands g c = λ h t at stands.
    let D = g.row.D in
    let m = given c.args.cache.now in
    let root = c.args.root in
    let a = c.in_ok-bytes.ensures.asks in
    let there = live_table D c.args.cache.now t stands in
    let content : ForkContent = record { level = t.level; links = links_of t.row } in
    let is = fork_bytes D (m t.page) c.in_ok-bytes.bytes content (ap m at ∙ c.in_ok-bytes.ensures.bytes h)
    (there.root.fork there.high) in
    let level = c.level_at.ensures.of_fork D content is in
    let count = c.count_at-count.ensures.of_fork D content is in
    let list = c.in_ok-come_to.ensures.added ∙ ap (λ (xs : List ℕ). xs ++ root ∷ [])
    c.in_ok-visits.ensures.none in
    let may = may_add_root D m t root c.level_at.result c.come_to.new.visits.pages.items
    c.new-seen.result there at (sym level) (omega (arith, count, c.if-count-eq0.false)) list
    (λ id. none_seen c.new-seen.result id c.new-seen.ensures.empty) in
    at_error c.from_residual-in_err-add_below.result c.in_err-add_below.field-0.0 IsOfDevice
    c.from_residual-in_err-add_below.ensures.1
    (c.in_err-add_below.ensures.stands (a.gate.honest.0 h)
    (a.map.given_stay h root ∙ c.in_ok-bytes.ensures.bytes h) t.row
    (may_on D m (given c.copy_given.new.cache) root c.level_at.result true 0 18446744073709551615 t.row
    c.come_to.new.visits.pages.items c.new-seen.result (λ n. a.map.given_stay h n) may))

pub returns-clause-asks : goal.returns-clause-asks
returns-clause-asks g c = asks_in_turn c.args.cache.now c.copy_given.new.cache c.add_below.new.cache None
    c.in_ok-bytes.ensures.asks c.in_ok-add_below.ensures.asks

pub returns-clause-given_table : goal.returns-clause-given_table
returns-clause-given_table g c = λ h.
    let D = g.row.D in
    let m = given c.args.cache.now in
    let root = c.args.root in
    let a = c.in_ok-bytes.ensures.asks in
    let f = c.is_root.ensures.root c.if-not-is_root.false in
    let list = c.in_ok-come_to.ensures.added ∙ ap (λ (xs : List ℕ). xs ++ root ∷ [])
    c.in_ok-visits.ensures.none in
    let found = c.in_ok-add_below.ensures.found (a.gate.honest.0 h)
    (a.map.given_stay h root ∙ c.in_ok-bytes.ensures.bytes h) in
    let node = node_on D m (given c.copy_given.new.cache) root c.level_at.result true 0
    18446744073709551615 c.new-pairs.result.items c.add_below.new.pairs.items
    c.come_to.new.visits.pages.items c.add_below.new.visits.pages.items c.new-seen.result
    c.add_below.new.seen (λ n. a.map.given_stay h n) found in
    let node1 =
    subst (λ l. AddsNode D m root l true 0 18446744073709551615 [] c.add_below.new.pairs.items
    c.come_to.new.visits.pages.items c.add_below.new.visits.pages.items c.new-seen.result
    c.add_below.new.seen) c.level_at.ensures.value
    (subst (λ (es : List Entry). AddsNode D m root c.level_at.result true 0 18446744073709551615 es
    c.add_below.new.pairs.items c.come_to.new.visits.pages.items c.add_below.new.visits.pages.items
    c.new-seen.result c.add_below.new.seen)
    c.new-pairs.ensures.items node) in
    let checked = table_checked D m root c.in_ok-bytes.bytes (number_at 1 4 c.in_ok-bytes.bytes)
    (number_at 2 2 c.in_ok-bytes.bytes) c.add_below.new.pairs.items c.come_to.new.visits.pages.items
    c.add_below.new.visits.pages.items c.new-seen.result
    c.add_below.new.seen (c.in_ok-bytes.ensures.bytes h) f list c.add_below.new.visits.marked.once
    (λ id. none_seen c.new-seen.result id c.new-seen.ensures.empty) (seen_once c.add_below.new.seen)
    node1 in
    subst (λ (v : Vec ℕ g.row.H.Denot). IsCheckedTable D m root c.add_below.new.pairs.items v.items)
    (sym c.into_pages-pages-2.ensures) checked

pub returns-clause-table : goal.returns-clause-table
returns-clause-table g c = λ sound.
    checked_live g.row.D c.args.cache.now c.args.root c.add_below.new.pairs.items
    c.into_pages-pages-2.result.items sound (returns-clause-given_table g c sound.honest)

-- ---- what is damaged

pub returns-in_err-come_to-clause-damage : goal.returns-in_err-come_to-clause-damage
returns-in_err-come_to-clause-damage g c = λ h.
    at_error c.from_residual-in_err-come_to.result c.in_err-come_to.field-0.0 _
    c.from_residual-in_err-come_to.ensures.1
    (λ n damaged. comes_here g.row.D (given c.args.cache.now) c.args.root n
    (damaged_visit c.in_err-come_to.field-0.0 c.args.root n c.in_err-come_to.ensures.faults damaged))

pub returns-in_err-bytes-clause-damage : goal.returns-in_err-bytes-clause-damage
returns-in_err-bytes-clause-damage g c = λ h.
    at_error c.from_residual-in_err-bytes.result c.in_err-bytes.field-0.0 _
    c.from_residual-in_err-bytes.ensures.1
    (λ n damaged. comes_here g.row.D (given c.args.cache.now) c.args.root n
    (damaged_read c.in_err-bytes.field-0.0 c.args.root n (c.in_err-bytes.ensures.damage h) damaged))

pub returns-then-not-is_root-clause-damage : goal.returns-then-not-is_root-clause-damage
returns-then-not-is_root-clause-damage g c = λ h n (damaged : fault.Damaged c.args.root ≡ fault.Damaged n).
    comes_here g.row.D (given c.args.cache.now) c.args.root n (cc)

pub returns-in_err-add_below-clause-damage : goal.returns-in_err-add_below-clause-damage
returns-in_err-add_below-clause-damage g c = λ h.
    let a = c.in_ok-bytes.ensures.asks in
    at_error c.from_residual-in_err-add_below.result c.in_err-add_below.field-0.0 _
    c.from_residual-in_err-add_below.ensures.1
    (λ n damaged. comes_so g.row.D (given c.args.cache.now) (given c.copy_given.new.cache) c.args.root n
    (λ k. a.map.given_stay h k)
    (c.in_err-add_below.ensures.damage (a.gate.honest.0 h)
    (a.map.given_stay h c.args.root ∙ c.in_ok-bytes.ensures.bytes h) n damaged))
