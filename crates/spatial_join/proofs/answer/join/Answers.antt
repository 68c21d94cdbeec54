-- The goals of `join` that are proved by hand.
use Rattle.std.proofs.Common.{None, ℕ, [], ap, arith, inl, inr, subst, ⊎_elim}
use Rattle.page_file.specs.Fault.{IsOfDevice}
use Rattle.page_cache.specs.Calls.{AsksUntil, asks_and_refuses, asks_in_turn}
use Rattle.page_cache.specs.Cache.{given, pages}
use Rattle.tree_node.specs.Nodes.{content_of}
use Rattle.tree_node.specs.Joins.{admitted_pairs}
use Rattle.node_page.specs.Checked.{ComesBelow}
use Rattle.node_page.proofs.DamageLemmas.{comes_below_so, damaged_read}
use Rattle.node_page.proofs.NodeLemmas.{at_error}
use Rattle.spatial_join.specs.Opening.{opened_root}
use Rattle.spatial_join.specs.Pairs.{GainsPairs}
use Rattle.spatial_join.proofs.DamageLemmas.{comes_to_so}
use Rattle.spatial_join.proofs.DescentLemmas.{still_stands}
use Rattle.spatial_join.proofs.RootLemmas.{answers, roots_admitted, roots_opened, tree_at}
use Rattle.spatial_join.proofs.answer.join.Goals as goal

pub returns-in_err-right-clause-asks : goal.returns-in_err-right-clause-asks
returns-in_err-right-clause-asks g c =
    asks_and_refuses c.args.cache.now c.open_root.new.cache c.open_root-2.new.cache c.in_err-right.field-0.0
    c.from_residual-in_err-right.result c.from_residual-in_err-right.ensures.1 c.in_ok-left.ensures.asks
    c.in_err-right.ensures.asks

pub returns-in_err-right-clause-stands : goal.returns-in_err-right-clause-stands
returns-in_err-right-clause-stands g c = λ h s t most other_most is is'.
    at_error c.from_residual-in_err-right.result c.in_err-right.field-0.0 IsOfDevice
    c.from_residual-in_err-right.ensures.1
    (c.in_err-right.ensures.stands (c.in_ok-left.ensures.asks.gate.honest.0 h) t.row
    (still_stands c.args.cache.now c.open_root.new.cache c.args.b.page c.args.b.level t.row
    c.in_ok-left.ensures.asks h (tree_at g.row.D other_most (pages c.args.cache.now) c.args.b t is')))

pub returns-in_err-add_pairs-clause-asks : goal.returns-in_err-add_pairs-clause-asks
returns-in_err-add_pairs-clause-asks g c =
    let both : AsksUntil c.args.cache.now c.open_root-2.new.cache None =
    asks_in_turn c.args.cache.now c.open_root.new.cache c.open_root-2.new.cache None
    c.in_ok-left.ensures.asks c.in_ok-right.ensures.asks in
    asks_and_refuses c.args.cache.now c.open_root-2.new.cache c.add_pairs.new.cache
    c.in_err-add_pairs.field-0.0 c.from_residual-in_err-add_pairs.result
    c.from_residual-in_err-add_pairs.ensures.1 both c.in_err-add_pairs.ensures.asks

pub returns-in_err-add_pairs-clause-stands : goal.returns-in_err-add_pairs-clause-stands
returns-in_err-add_pairs-clause-stands g c = λ h s t most other_most is is'.
    let opened =
    roots_opened g.row.D most other_most c.args.cache.now c.open_root.new.cache c.open_root-2.new.cache
    c.args.a c.args.b s t (content_of c.in_ok-left.left) (content_of c.in_ok-right.right) h
    c.in_ok-left.ensures.asks c.in_ok-right.ensures.asks is is'
    c.in_ok-left.ensures.level (λ h row at. c.in_ok-left.ensures.entries h row at)
    c.in_ok-right.ensures.level (λ h row at. c.in_ok-right.ensures.entries h row at) in
    at_error c.from_residual-in_err-add_pairs.result c.in_err-add_pairs.field-0.0 IsOfDevice
    c.from_residual-in_err-add_pairs.ensures.1
    (c.in_err-add_pairs.ensures.stands opened.honest _ _ opened.left_row opened.right_row)

pub returns-clause-asks : goal.returns-clause-asks
returns-clause-asks g c =
    let both : AsksUntil c.args.cache.now c.open_root-2.new.cache None =
    asks_in_turn c.args.cache.now c.open_root.new.cache c.open_root-2.new.cache None
    c.in_ok-left.ensures.asks c.in_ok-right.ensures.asks in
    asks_in_turn c.args.cache.now c.open_root-2.new.cache c.add_pairs.new.cache None both
    c.in_ok-add_pairs.ensures.asks

pub returns-clause-pairs : goal.returns-clause-pairs
returns-clause-pairs g c = λ h s t most other_most is is'.
    let opened =
    roots_opened g.row.D most other_most c.args.cache.now c.open_root.new.cache c.open_root-2.new.cache
    c.args.a c.args.b s t (content_of c.in_ok-left.left) (content_of c.in_ok-right.right) h
    c.in_ok-left.ensures.asks c.in_ok-right.ensures.asks is is'
    c.in_ok-left.ensures.level (λ h row at. c.in_ok-left.ensures.entries h row at)
    c.in_ok-right.ensures.level (λ h row at. c.in_ok-right.ensures.entries h row at) in
    let adds =
    c.in_ok-add_pairs.ensures.pairs opened.honest _ _ opened.left_row opened.right_row
    opened.left_encloses opened.right_encloses in
    let adds_within =
    subst (λ (l : ℕ). GainsPairs g.row.D l
    (opened_root g.row.D c.args.a.level c.args.b.level c.args.a.page s.row)
    (opened_root g.row.D c.args.b.level c.args.a.level c.args.b.page t.row) c.new-pairs.result.items
    c.add_pairs.new.pairs.items) c.of.ensures adds in
    answers g.row.D c.args.within s t c.args.a.level c.args.b.level c.args.a.page c.args.b.page
    c.new-pairs.result.items c.add_pairs.new.pairs.items c.sort_unstable.new.self.items
    c.new-pairs.ensures.items adds_within c.sort_unstable.ensures.permutation
    c.sort_unstable.ensures.sorted

pub returns-clause-looks : goal.returns-clause-looks
returns-clause-looks g c = λ h s t most other_most is is'.
    let opened =
    roots_opened g.row.D most other_most c.args.cache.now c.open_root.new.cache c.open_root-2.new.cache
    c.args.a c.args.b s t (content_of c.in_ok-left.left) (content_of c.in_ok-right.right) h
    c.in_ok-left.ensures.asks c.in_ok-right.ensures.asks is is'
    c.in_ok-left.ensures.level (λ h row at. c.in_ok-left.ensures.entries h row at)
    c.in_ok-right.ensures.level (λ h row at. c.in_ok-right.ensures.entries h row at) in
    let looked = c.in_ok-add_pairs.ensures.looks opened.honest _ _ opened.left_row opened.right_row in
    omega (
      arith,
      looked,
      c.in_ok-left.ensures.looks,
      c.in_ok-right.ensures.looks,
      ap (λ (l : ℕ). admitted_pairs g.row.D l s t) c.of.ensures,
      roots_admitted g.row.D c.of.result.limit c.args.a.level c.args.b.level c.args.a.page c.args.b.page s
          t,
    )

pub returns-in_err-left-clause-damage : goal.returns-in_err-left-clause-damage
returns-in_err-left-clause-damage g c = λ h.
    at_error c.from_residual.result c.in_err-left.field-0.0 _
    c.from_residual.ensures.1
    (λ n damaged. inl (
      [],
      damaged_read c.in_err-left.field-0.0 c.args.a.page n
          (c.in_err-left.ensures.faults h) damaged,
    ))

pub returns-in_err-right-clause-damage : goal.returns-in_err-right-clause-damage
returns-in_err-right-clause-damage g c = λ h.
    at_error c.from_residual-in_err-right.result c.in_err-right.field-0.0 _
    c.from_residual-in_err-right.ensures.1
    (λ n damaged. inr (
      [],
      damaged_read c.in_err-right.field-0.0 c.args.b.page n
          (c.in_err-right.ensures.faults (c.in_ok-left.ensures.asks.gate.honest.0 h)) damaged,
    ))

pub returns-in_err-add_pairs-clause-damage : goal.returns-in_err-add_pairs-clause-damage
returns-in_err-add_pairs-clause-damage g c = λ h.
    let old = given c.args.cache.now in
    let one = given c.open_root.new.cache in
    let two = given c.open_root-2.new.cache in
    let left = content_of c.in_ok-left.left in
    let right = content_of c.in_ok-right.right in
    let asks = c.in_ok-left.ensures.asks in
    let honest = asks.gate.honest.0 h in
    let both : AsksUntil c.args.cache.now c.open_root-2.new.cache None =
    asks_in_turn c.args.cache.now c.open_root.new.cache c.open_root-2.new.cache None
    asks c.in_ok-right.ensures.asks in
    at_error c.from_residual-in_err-add_pairs.result c.in_err-add_pairs.field-0.0 _
    c.from_residual-in_err-add_pairs.ensures.1
    (λ n damaged. ⊎_elim
    (λ (walk : ComesBelow g.row.D two left n). inl
    (c.in_ok-left.ensures.walks h n
    (comes_below_so g.row.D old two left n (λ k. both.map.given_stay h k) walk)))
    (λ (walk : ComesBelow g.row.D two right n). inr
    (comes_to_so g.row.D old one c.args.b.page n (λ k. asks.map.given_stay h k)
    (c.in_ok-right.ensures.walks honest n
    (comes_below_so g.row.D one two right n
    (λ k. c.in_ok-right.ensures.asks.map.given_stay honest k) walk))))
    (c.in_err-add_pairs.ensures.damage (both.gate.honest.0 h) n damaged))
