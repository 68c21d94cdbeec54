-- The goals of `descend` that are proved by hand.
use Rattle.std.proofs.Common.{◌≡◌, ◌∙◌, ◌⊎◌, ℕ, ◌+◌, ◌<◌, ◌++◌, List, [], All, ap, sym, subst, arith, refl}
use Rattle.box_math.specs.Objects.{Object}
use Rattle.page_file.specs.Fault.{IsOfDevice}
use Rattle.page_file.specs.declared.fault.Fault.TheVariants as fault
use Rattle.page_cache.specs.Cache.{given, looks_of, pages}
use Rattle.page_cache.specs.Calls.{asks_and_refuses}
use Rattle.tree_node.specs.Searches.{counted}
use Rattle.node_page.specs.Checked.{ComesTo, Names}
use Rattle.node_page.specs.Standing.{PageMap}
use Rattle.node_page.proofs.DamageLemmas.{damaged_read}
use Rattle.node_page.proofs.NodeLemmas.{at_error, if_error, on_ok}
use Rattle.box_math.specs.Queries.{admits, seeks}
use Rattle.range_query.proofs.DamageLemmas.{comes_by_child}
use Rattle.range_query.proofs.DescentLemmas.{all_found, all_looked, children_found, children_looked}
use Rattle.range_query.proofs.DescentLemmas.{children_named, children_of, children_stand, leaf_found}
use Rattle.range_query.proofs.DescentLemmas.{leaf_looked, stands_here, went_into}
use Rattle.range_query.proofs.descent.+descend.Goals as goal

pub returns-then-root-eq0-clause-rows : goal.returns-then-root-eq0-clause-rows
returns-then-root-eq0-clause-rows g t c = λ h row at.
    let leaf =
    leaf_found g.row.D (pages c.args.cache.now) c.args.root.level (admits c.args.query.now)
    (seeks c.args.query.now) c.args.tag row c.if-root-eq0.true at.below in
    on_ok c.add_sought.result
    (λ added. added ∙ ap (λ (xs : List (ℕ × Object)). c.args.rows.now.items ++ xs) leaf)
    (c.add_sought.ensures.rows h _ at.node c.if-root-eq0.true)

pub returns-then-root-eq0-clause-looks : goal.returns-then-root-eq0-clause-looks
returns-then-root-eq0-clause-looks g t c = λ h row at.
    let none =
    leaf_looked g.row.D (pages c.args.cache.now) c.args.root.level (admits c.args.query.now) row
    c.if-root-eq0.true at.below in
    on_ok c.add_sought.result (λ looked. looked ∙ (omega (arith, none))) c.add_sought.ensures.looks

pub returns-in_err-descend-clause-asks : goal.returns-in_err-descend-clause-asks
returns-in_err-descend-clause-asks g t c =
    asks_and_refuses c.args.cache.now c.loop-page.cache c.descend.new.cache c.in_err-descend.field-0.0
    c.from_residual-in_err-descend.result c.from_residual-in_err-descend.ensures.1 c.loop-page.invariant.asks
    c.in_err-descend.ensures.asks

pub returns-in_err-descend-clause-stands : goal.returns-in_err-descend-clause-stands
returns-in_err-descend-clause-stands g t c = λ h row at.
    let m : PageMap = pages c.args.cache.now in
    let guard = admits c.args.query.now in
    let above : 0 < c.args.root.level = omega (arith, c.if-root-eq0.false) in
    let named = children_named g.row.D m c.args.root.level guard row above at.below
    ∙ sym (c.in_ok-find_children.ensures.children h _ at.node refl)
    ∙ sym c.as_slice-page-items.ensures.value in
    let here =
    stands_here c.loop-page.invariant _ (omega (arith, c.loop-page-test.true)) refl h
    (children_of guard row) named (children_stand g.row.D m c.args.root.level guard row at.below) in
    at_error c.from_residual-in_err-descend.result c.in_err-descend.field-0.0 IsOfDevice
    c.from_residual-in_err-descend.ensures.1
    (c.in_err-descend.ensures.stands (c.loop-page.invariant.asks.gate.honest.0 h) here.0 here.1)

pub loop-page-preserved : goal.loop-page-preserved
loop-page-preserved g t c =
    went_into c.loop-page.invariant _ (omega (arith, c.loop-page-test.true)) refl c.descend.new.cache
    c.descend.new.rows.items c.in_ok-descend.ensures.asks
    (λ h row at. c.in_ok-descend.ensures.rows h row at)
    (λ h row at. c.in_ok-descend.ensures.looks h row at)

pub returns-clause-rows : goal.returns-clause-rows
returns-clause-rows g t c = λ h row at.
    let m : PageMap = pages c.args.cache.now in
    let guard = admits c.args.query.now in
    let test = seeks c.args.query.now in
    let above : 0 < c.args.root.level = omega (arith, c.if-root-eq0.false) in
    let named = children_named g.row.D m c.args.root.level guard row above at.below
    ∙ sym (c.in_ok-find_children.ensures.children h _ at.node refl)
    ∙ sym c.as_slice-page-items.ensures.value in
    all_found c.loop-page.invariant (omega (arith, c.loop-page-test.false)) h (children_of guard row) named
    (children_stand g.row.D m c.args.root.level guard row at.below)
    ∙ ap (λ (xs : List (ℕ × Object)). c.args.rows.now.items ++ xs)
    (children_found g.row.D m c.args.root.level guard test c.args.tag row above at.below)

pub returns-clause-looks : goal.returns-clause-looks
returns-clause-looks g t c = λ h row at.
    let m : PageMap = pages c.args.cache.now in
    let guard = admits c.args.query.now in
    let above : 0 < c.args.root.level = omega (arith, c.if-root-eq0.false) in
    let named = children_named g.row.D m c.args.root.level guard row above at.below
    ∙ sym (c.in_ok-find_children.ensures.children h _ at.node refl)
    ∙ sym c.as_slice-page-items.ensures.value in
    all_looked c.loop-page.invariant (omega (arith, c.loop-page-test.false)) h (children_of guard row) named
    (children_stand g.row.D m c.args.root.level guard row at.below)
    ∙ ap (λ (n : ℕ). counted (looks_of c.args.cache.now) (1 + n)) (children_looked guard row)

pub returns-then-root-eq0-clause-damage : goal.returns-then-root-eq0-clause-damage
returns-then-root-eq0-clause-damage g t c = λ h.
    if_error c.add_sought.result
    (λ f. IsOfDevice f ⊎ (f ≡ fault.Damaged c.args.root.page))
    (λ f. (n : ℕ) → f ≡ fault.Damaged n → ComesTo g.row.D (given c.args.cache.now) c.args.root.page n)
    (λ f is n damaged. ([], damaged_read f c.args.root.page n is damaged))
    (c.add_sought.ensures.faults h)

pub returns-in_err-find_children-clause-damage : goal.returns-in_err-find_children-clause-damage
returns-in_err-find_children-clause-damage g t c = λ h.
    at_error c.from_residual.result c.in_err-find_children.field-0.0
    (λ f. (n : ℕ) → f ≡ fault.Damaged n → ComesTo g.row.D (given c.args.cache.now) c.args.root.page n)
    c.from_residual.ensures.1
    (λ n damaged. (
      [],
      damaged_read c.in_err-find_children.field-0.0 c.args.root.page n (c.in_err-find_children.ensures.faults h)
          damaged,
    ))

pub returns-in_err-descend-clause-damage : goal.returns-in_err-descend-clause-damage
returns-in_err-descend-clause-damage g t c = λ h.
    let asks = c.loop-page.invariant.asks in
    let node = c.in_ok-find_children.ensures.named h in
    let named = subst (λ (ns : List ℕ). All (Names node.0) ns) (sym c.as_slice-page-items.ensures.value)
    node.2 in
    at_error c.from_residual-in_err-descend.result c.in_err-descend.field-0.0
    (λ f. (n : ℕ) → f ≡ fault.Damaged n → ComesTo g.row.D (given c.args.cache.now) c.args.root.page n)
    c.from_residual-in_err-descend.ensures.1
    (λ n damaged. comes_by_child g.row.D (given c.args.cache.now) (given c.loop-page.cache) c.args.root.page
    node.0 _ c.loop-page.page-index n node.1 named (omega (arith, c.loop-page-test.true))
    (λ k. asks.map.given_stay h k) (c.in_err-descend.ensures.damage (asks.gate.honest.0 h) n damaged))
