-- The root has two children or more, or one leaf.
use Rattle.id_tree.proofs.WorksLemmas.{works_from, works_refused}
use Rattle.std.proofs.Common.{◌∙◌, sym, true, arith, ◌≡◌, refl}
use Rattle.page_cache.specs.Cache.{pages, given}
use Rattle.page_cache.specs.Calls.{asks_and_changes, asks_and_gives_up, no_call_asks}
use Rattle.node_page.proofs.NodeLemmas.{at_error}
use Rattle.id_page.specs.Fork.{ForkContent}
use Rattle.id_tree.specs.Joining.{IsAmong}
use Rattle.id_tree.specs.Tree.{links_of}
use Rattle.id_tree.proofs.RemoveLemmas.{level_one, only_leaf, removes_from, some_root_links}
use Rattle.id_tree.proofs.RootLemmas.{root_fork, root_stands, tree_same}
use Rattle.id_tree.proofs.SeekLemmas.{keys_ascend, no_route}
use Rattle.page_file.specs.declared.fault.Fault.TheVariants as fault
use Rattle.id_tree.specs.Checked.{NamesChild}
use Rattle.id_tree.proofs.ResultLemmas.{if_err}
use Rattle.id_tree.proofs.DamageLemmas.{comes_at, comes_down, comes_to_one, damaged_is, named_some}
use Rattle.id_tree.proofs.GivenLemmas.{comes_here, comes_so}
use Rattle.id_tree.proofs.removing.remove_from_root.Goals as goal

pub returns-in_err-way-clause-changes : goal.returns-in_err-way-clause-changes
returns-in_err-way-clause-changes g c =
    asks_and_gives_up c.args.cache.now c.args.cache.now c.step.new.cache c.in_err-way.field-0.0
    c.from_residual.result c.from_residual.ensures.1 (no_call_asks c.args.cache.now)
    c.in_err-way.ensures.asks

pub returns-then-way-gt1-clause-changes : goal.returns-then-way-gt1-clause-changes
returns-then-way-gt1-clause-changes g c = asks_and_changes c.args.cache.now c.step.new.cache
    c.remove_among.new.cache c.remove_among.result c.in_ok-way.ensures.asks c.remove_among.ensures.changes

pub returns-clause-changes : goal.returns-clause-changes
returns-clause-changes g c = asks_and_changes c.args.cache.now c.step.new.cache c.remove_only.new.cache
    c.remove_only.result c.in_ok-way.ensures.asks c.remove_only.ensures.changes

pub returns-in_err-way-clause-damage : goal.returns-in_err-way-clause-damage
returns-in_err-way-clause-damage g c = λ h none.
    at_error c.from_residual.result c.in_err-way.field-0.0 _
    c.from_residual.ensures.1 (λ n damaged.
    comes_at g.row.D (given c.args.cache.now) c.args.root n c.in_err-way.field-0.0
    (c.in_err-way.ensures.damage h) damaged)

pub returns-then-way-gt1-clause-damage : goal.returns-then-way-gt1-clause-damage
returns-then-way-gt1-clause-damage g c = λ h none.
    let asks = c.in_ok-way.ensures.asks in
    if_err c.remove_among.result _ _
    (λ f comes n damaged. comes_so g.row.D (given c.args.cache.now) (given c.step.new.cache) c.args.root n
    (asks.map.given_stay h) (comes n damaged)) (c.remove_among.ensures.damage (asks.gate.honest.0 h) none)

pub returns-then-way-ne1-clause-damage : goal.returns-then-way-ne1-clause-damage
returns-then-way-ne1-clause-damage g c = λ h none n (damaged : fault.Damaged c.args.root ≡ fault.Damaged n).
    comes_here g.row.D (given c.args.cache.now) c.args.root n (damaged_is c.args.root n damaged)

pub returns-in_default-clause-damage : goal.returns-in_default-clause-damage
returns-in_default-clause-damage g c = λ h none n (damaged : fault.Damaged c.args.root ≡ fault.Damaged n).
    comes_here g.row.D (given c.args.cache.now) c.args.root n (damaged_is c.args.root n damaged)

pub returns-clause-damage : goal.returns-clause-damage
returns-clause-damage g c = λ h none.
    let D = g.row.D in
    let m = given c.args.cache.now in
    let root = c.args.root in
    let leaf = c.in-Some.leaf in
    let names = named_some (NamesChild D m root) c.in_ok-way.way.child leaf c.in-Some.is
    (c.in_ok-way.ensures.names h) in
    if_err c.remove_only.result _ _
    (λ f either n damaged. comes_to_one D m root leaf root n
    (comes_down D m root leaf leaf names (comes_here D m leaf leaf refl)) (comes_here D m root root refl)
    (either n damaged))
    (c.remove_only.ensures.damage (c.in_ok-way.ensures.asks.gate.honest.0 h) none)

pub returns-in_err-way-clause-removes : goal.returns-in_err-way-clause-removes
returns-in_err-way-clause-removes g c = λ map t at stands.
    works_refused c.in_err-way.field-0.0 c.from_residual.ensures.1 (c.in_err-way.ensures.asks.map.sound.0 map)
    (λ there. c.in_err-way.ensures.there map.honest (record { level = t.level; links = links_of t.row })
    (root_fork g.row.D (pages c.args.cache.now) c.args.root t at stands))

pub returns-then-way-gt1-clause-removes : goal.returns-then-way-gt1-clause-removes
returns-then-way-gt1-clause-removes g c = λ map t at stands.
    let D = g.row.D in
    let root = c.args.root in
    let old = pages c.args.cache.now in
    let mid = pages c.step.new.cache in
    let way = c.in_ok-way.way in
    let asks = c.in_ok-way.ensures.asks in
    let same = asks.map.pages_stay map.honest in
    let fork = root_fork D old root t at stands in
    let content : ForkContent = record { level = t.level; links = links_of t.row } in
    let level = c.in_ok-way.ensures.level map.honest content fork in
    let count = c.in_ok-way.ensures.count map.honest content fork in
    let tree = tree_same D old mid t same stands in
    let among : IsAmong D mid t way.level = record
    { stands = tree; level_is = level; wide = omega (arith, count, c.if-way-gt1.true) } in
    works_from (c.remove_among.ensures.removes (asks.map.sound.0 map) t at among) same
    (λ u. removes_from D old mid (pages c.remove_among.new.cache) t c.args.id same) (λ f why. why)

pub returns-then-way-ne1-clause-removes : goal.returns-then-way-ne1-clause-removes
returns-then-way-ne1-clause-removes g c = λ map t at stands.
    let D = g.row.D in
    let root = c.args.root in
    let old = pages c.args.cache.now in
    let mid = pages c.step.new.cache in
    let way = c.in_ok-way.way in
    let asks = c.in_ok-way.ensures.asks in
    let same = asks.map.pages_stay map.honest in
    let fork = root_fork D old root t at stands in
    let content : ForkContent = record { level = t.level; links = links_of t.row } in
    let level = c.in_ok-way.ensures.level map.honest content fork in
    let count = c.in_ok-way.ensures.count map.honest content fork in
    record {
      sound = asks.map.sound.0 map;
      tidy = tt;
      made = tt;
      faults = λ there. absurd (c.if-way-ne1.true
          (level ∙ level_one D old t stands (omega (arith, count, c.if-way-gt1.false))));
    }

pub returns-in_default-clause-removes : goal.returns-in_default-clause-removes
returns-in_default-clause-removes g c = λ map t at stands.
    let D = g.row.D in
    let root = c.args.root in
    let old = pages c.args.cache.now in
    let mid = pages c.step.new.cache in
    let way = c.in_ok-way.way in
    let asks = c.in_ok-way.ensures.asks in
    let same = asks.map.pages_stay map.honest in
    let fork = root_fork D old root t at stands in
    let content : ForkContent = record { level = t.level; links = links_of t.row } in
    let ascend = keys_ascend D old t.page t.level true t.row stands.high (root_stands D old t stands) in
    let named = c.in_ok-way.ensures.child map.honest content fork ascend in
    let none = no_route c.args.id (links_of t.row) (sym c.in_default.is ∙ named) in
    record {
      sound = asks.map.sound.0 map;
      tidy = tt;
      made = tt;
      faults = λ there. let some = some_root_links D old t c.args.id stands there in
          absurd (omega (arith, none, some));
    }

pub returns-clause-removes : goal.returns-clause-removes
returns-clause-removes g c = λ map t at stands.
    let D = g.row.D in
    let root = c.args.root in
    let old = pages c.args.cache.now in
    let mid = pages c.step.new.cache in
    let way = c.in_ok-way.way in
    let asks = c.in_ok-way.ensures.asks in
    let same = asks.map.pages_stay map.honest in
    let fork = root_fork D old root t at stands in
    let content : ForkContent = record { level = t.level; links = links_of t.row } in
    let count = c.in_ok-way.ensures.count map.honest content fork in
    let tree = tree_same D old mid t same stands in
    let ascend = keys_ascend D old t.page t.level true t.row stands.high (root_stands D old t stands) in
    let named = c.in_ok-way.ensures.child map.honest content fork ascend in
    let only = only_leaf D mid t c.args.id way.child c.in-Some.leaf tree
    (omega (arith, count, c.if-way-gt1.false)) named c.in-Some.is in
    works_from (c.remove_only.ensures.removes (asks.map.sound.0 map) t at only) same
    (λ u. removes_from D old mid (pages c.remove_only.new.cache) t c.args.id same) (λ f why. why)
