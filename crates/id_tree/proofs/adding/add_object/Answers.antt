-- The root takes the object as its count and its level tell.
use Rattle.id_page.specs.Fork.{ForkContent}
use Rattle.id_tree.proofs.WorksLemmas.{works_from, works_refused}
use Rattle.std.proofs.Common.{inl, arith, ◌≡◌, ⊎_elim, inr}
use Rattle.page_cache.specs.Cache.{pages, given}
use Rattle.page_cache.specs.Calls.{no_call_asks, asks_and_changes, asks_and_gives_up}
use Rattle.node_page.proofs.NodeLemmas.{at_error}
use Rattle.id_tree.specs.Tree.{links_of}
use Rattle.id_tree.proofs.AddLemmas.{grow_root, sets_root, started_root}
use Rattle.id_tree.proofs.RootLemmas.{absent_of, root_fork, root_live, sets_from, tree_same}
use Rattle.page_file.specs.declared.fault.Fault.TheVariants as fault
use Rattle.id_words.specs.Damage.{MayBreakAt}
use Rattle.id_tree.proofs.DamageLemmas.{breaks_kept, comes_at, damaged_is, said_before}
use Rattle.id_tree.proofs.GivenLemmas.{comes_here}
use Rattle.id_tree.proofs.ResultLemmas.{if_err}
use Rattle.id_tree.proofs.adding.add_object.Goals as goal

pub returns-in_err-way-clause-changes : goal.returns-in_err-way-clause-changes
returns-in_err-way-clause-changes g c =
    asks_and_gives_up c.args.cache.now c.args.cache.now c.step.new.cache c.in_err-way.field-0.0
    c.from_residual.result c.from_residual.ensures.1 (no_call_asks c.args.cache.now)
    c.in_err-way.ensures.asks

pub returns-then-way-eq0-clause-changes : goal.returns-then-way-eq0-clause-changes
returns-then-way-eq0-clause-changes g c = asks_and_changes c.args.cache.now c.step.new.cache c.start.new.cache
    c.start.result c.in_ok-way.ensures.asks c.start.ensures.changes

pub returns-then-way-lt-MOST_CHILDREN-clause-changes : goal.returns-then-way-lt-MOST_CHILDREN-clause-changes
returns-then-way-lt-MOST_CHILDREN-clause-changes g c =
    asks_and_changes c.args.cache.now c.step.new.cache c.add_below.new.cache c.add_below.result
    c.in_ok-way.ensures.asks c.add_below.ensures.changes

pub returns-clause-changes : goal.returns-clause-changes
returns-clause-changes g c = asks_and_changes c.args.cache.now c.step.new.cache c.add_deeper.new.cache
    c.add_deeper.result c.in_ok-way.ensures.asks c.add_deeper.ensures.changes

pub returns-in_err-way-clause-damage : goal.returns-in_err-way-clause-damage
returns-in_err-way-clause-damage g c = λ h none.
    at_error c.from_residual.result c.in_err-way.field-0.0 _
    c.from_residual.ensures.1 (λ n damaged.
    inl (comes_at g.row.D (given c.args.cache.now) c.args.root n c.in_err-way.field-0.0
    (c.in_err-way.ensures.damage h) damaged))

pub returns-then-way-eq0-clause-damage : goal.returns-then-way-eq0-clause-damage
returns-then-way-eq0-clause-damage g c = λ h none.
    let asks = c.in_ok-way.ensures.asks in
    if_err c.start.result _ _
    (λ f breaks n damaged. inr
    (breaks_kept c.args.cache.now c.step.new.cache n asks.map h (breaks n damaged)))
    (c.start.ensures.damage (asks.gate.honest.0 h) none)

pub returns-then-way-gt-MOST_LEVELS-clause-damage : goal.returns-then-way-gt-MOST_LEVELS-clause-damage
returns-then-way-gt-MOST_LEVELS-clause-damage g c =
    λ h none n (damaged : fault.Damaged c.args.root ≡ fault.Damaged n).
    inl (comes_here g.row.D (given c.args.cache.now) c.args.root n (damaged_is c.args.root n damaged))

pub returns-then-way-lt-MOST_CHILDREN-clause-damage : goal.returns-then-way-lt-MOST_CHILDREN-clause-damage
returns-then-way-lt-MOST_CHILDREN-clause-damage g c = λ h none.
    let asks = c.in_ok-way.ensures.asks in
    if_err c.add_below.result _ _
    (λ f either n damaged. said_before g.row.D c.args.cache.now c.step.new.cache c.args.root n asks.map h
    (either n damaged))
    (c.add_below.ensures.damage (asks.gate.honest.0 h) none)

pub returns-clause-damage : goal.returns-clause-damage
returns-clause-damage g c = λ h none.
    let asks = c.in_ok-way.ensures.asks in
    if_err c.add_deeper.result _ _
    (λ f either n damaged. ⊎_elim
    (λ (is : n ≡ c.args.root). inl (comes_here g.row.D (given c.args.cache.now) c.args.root n is))
    (λ (breaks : MayBreakAt c.step.new.cache n). inr
    (breaks_kept c.args.cache.now c.step.new.cache n asks.map h breaks))
    (either n damaged)) (c.add_deeper.ensures.damage (asks.gate.honest.0 h) none)

pub returns-in_err-way-clause-takes : goal.returns-in_err-way-clause-takes
returns-in_err-way-clause-takes g c = λ map t at stands.
    works_refused c.in_err-way.field-0.0 c.from_residual.ensures.1 (c.in_err-way.ensures.asks.map.sound.0 map)
    (inl (c.in_err-way.ensures.there map.honest (record { level = t.level; links = links_of t.row })
    (root_fork g.row.D (pages c.args.cache.now) c.args.root t at stands)))

pub returns-then-way-eq0-clause-takes : goal.returns-then-way-eq0-clause-takes
returns-then-way-eq0-clause-takes g c = λ map t at stands.
    let D = g.row.D in
    let root = c.args.root in
    let old = pages c.args.cache.now in
    let mid = pages c.step.new.cache in
    let id = c.args.object.now.0 in
    let kept = c.args.object.now.1 in
    let way = c.in_ok-way.way in
    let asks = c.in_ok-way.ensures.asks in
    let same = asks.map.pages_stay map.honest in
    let map1 = asks.map.sound.0 map in
    let tree = tree_same D old mid t same stands in
    let content : ForkContent = record { level = t.level; links = links_of t.row } in
    let fork = root_fork D old root t at stands in
    let count = c.in_ok-way.ensures.count map.honest content fork in
    let new = pages c.start.new.cache in
    works_from (c.start.ensures.starts map1 (root_live D mid t root at tree)) same
    (λ u w absent. sets_from D old mid new t id kept same
    (started_root D mid new t root id kept at tree (omega (arith, count, c.if-way-eq0.true)) w))
    (λ f why. why)

pub returns-then-way-gt-MOST_LEVELS-clause-takes : goal.returns-then-way-gt-MOST_LEVELS-clause-takes
returns-then-way-gt-MOST_LEVELS-clause-takes g c = λ map t at stands.
    let level = c.in_ok-way.ensures.level map.honest (record { level = t.level; links = links_of t.row })
    (root_fork g.row.D (pages c.args.cache.now) c.args.root t at stands) in
    absurd (omega (arith, level, stands.bounded, c.if-way-gt-MOST_LEVELS.true))

pub returns-then-way-lt-MOST_CHILDREN-clause-takes : goal.returns-then-way-lt-MOST_CHILDREN-clause-takes
returns-then-way-lt-MOST_CHILDREN-clause-takes g c = λ map t at stands.
    let D = g.row.D in
    let root = c.args.root in
    let old = pages c.args.cache.now in
    let mid = pages c.step.new.cache in
    let id = c.args.object.now.0 in
    let kept = c.args.object.now.1 in
    let way = c.in_ok-way.way in
    let asks = c.in_ok-way.ensures.asks in
    let same = asks.map.pages_stay map.honest in
    let map1 = asks.map.sound.0 map in
    let tree = tree_same D old mid t same stands in
    let content : ForkContent = record { level = t.level; links = links_of t.row } in
    let fork = root_fork D old root t at stands in
    let level = c.in_ok-way.ensures.level map.honest content fork in
    let count = c.in_ok-way.ensures.count map.honest content fork in
    let new = pages c.add_below.new.cache in
    works_from (c.add_below.ensures.takes map1 t.row
    (grow_root D mid t root way.level at level tree (omega (arith, count, c.if-way-eq0.false))
    (omega (arith, count, c.if-way-lt-MOST_CHILDREN.true)))) same
    (λ u b absent. let gone = absent_of t id absent in sets_from D old mid new t id kept same
    (sets_root D mid new t root way.level id kept at level tree gone (b gone)))
    (λ f why. why)

pub returns-clause-takes : goal.returns-clause-takes
returns-clause-takes g c = λ map t at stands.
    let D = g.row.D in
    let root = c.args.root in
    let old = pages c.args.cache.now in
    let mid = pages c.step.new.cache in
    let id = c.args.object.now.0 in
    let kept = c.args.object.now.1 in
    let way = c.in_ok-way.way in
    let asks = c.in_ok-way.ensures.asks in
    let same = asks.map.pages_stay map.honest in
    let map1 = asks.map.sound.0 map in
    let tree = tree_same D old mid t same stands in
    let content : ForkContent = record { level = t.level; links = links_of t.row } in
    let fork = root_fork D old root t at stands in
    let level = c.in_ok-way.ensures.level map.honest content fork in
    let count = c.in_ok-way.ensures.count map.honest content fork in
    works_from (c.add_deeper.ensures.takes map1 t at (record {
      stands = tree;
      level_is = level;
      full = omega (arith, count, c.if-way-lt-MOST_CHILDREN.false);
    })) same
    (λ u set absent. sets_from D old mid (pages c.add_deeper.new.cache) t id kept same (set absent))
    (λ f why. why)
