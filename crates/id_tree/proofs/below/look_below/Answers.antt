-- The child that the page names is the one on the way.
use Rattle.std.proofs.Common.{◌∙◌, ◌-◌, sym, arith, ◌≡◌, subst}
use Rattle.page_file.specs.Fault.{IsOfDevice}
use Rattle.page_cache.specs.Cache.{pages, given}
use Rattle.node_page.proofs.NodeLemmas.{at_error}
use Rattle.id_tree.specs.Tree.{links_of}
use Rattle.id_tree.proofs.NodeLemmas.{node_stays}
use Rattle.id_tree.proofs.SeekLemmas.{keys_ascend, no_route}
use Rattle.id_tree.proofs.WayLemmas.{child_stands, last_here, way_of}
use Rattle.page_file.specs.declared.fault.Fault.TheVariants as fault
use Rattle.id_tree.specs.Checked.{NamesChild, SpellsFork}
use Rattle.id_tree.proofs.DamageLemmas.{comes_at, comes_down, damaged_is, named_some}
use Rattle.id_tree.proofs.GivenLemmas.{comes_here}
use Rattle.id_tree.proofs.below.look_below.Goals as goal

pub returns-in_default-clause-there : goal.returns-in_default-clause-there
returns-in_default-clause-there g c = λ h row s some.
    let old = pages c.args.cache.now in
    let high = c.requires.high in
    let route = c.in_ok-way.ensures.child h (record { level = c.args.level; links = links_of row })
    (s.node.fork high) (keys_ascend g.row.D old c.args.page c.args.level c.args.edge row high s) in
    let none = no_route c.args.id (links_of row) (sym c.in_default.is ∙ route) in
    absurd (omega (arith, none, some))

pub returns-in_err-room-clause-there : goal.returns-in_err-room-clause-there
returns-in_err-room-clause-there g c = λ h row s some.
    let D = g.row.D in
    let old = pages c.args.cache.now in
    let high = c.requires.high in
    let asks = c.in_ok-way.ensures.asks in
    let route = c.in_ok-way.ensures.child h (record { level = c.args.level; links = links_of row })
    (s.node.fork high) (keys_ascend D old c.args.page c.args.level c.args.edge row high s) in
    let way = way_of D old c.args.page c.args.level c.args.edge row c.args.id c.in-Some.child high s
    (sym c.in-Some.is ∙ route) in
    let node =
    (child_stands D old c.args.page c.args.level c.args.edge c.args.id c.in-Some.child row high s
    way).node in
    at_error c.from_residual-in_err-room.result c.in_err-room.field-0.0 IsOfDevice
    c.from_residual-in_err-room.ensures.1
    (c.in_err-room.ensures.there (asks.gate.honest.0 h) way.below
    (node_stays D old (pages c.step.new.cache) c.in-Some.child (c.args.level - 1) way.below
    (asks.map.pages_stay h c.in-Some.child) node))

pub returns-clause-found : goal.returns-clause-found
returns-clause-found g c = λ h row s.
    let D = g.row.D in
    let old = pages c.args.cache.now in
    let high = c.requires.high in
    let asks = c.in_ok-way.ensures.asks in
    let fork = s.node.fork high in
    let ascend = keys_ascend D old c.args.page c.args.level c.args.edge row high s in
    let route = c.in_ok-way.ensures.child h (record { level = c.args.level; links = links_of row }) fork
    ascend in
    let place = c.in_ok-way.ensures.place h (record { level = c.args.level; links = links_of row }) fork
    ascend in
    let count = c.in_ok-way.ensures.count h (record { level = c.args.level; links = links_of row }) fork in
    let way = way_of D old c.args.page c.args.level c.args.edge row c.args.id c.in-Some.child high s
    (sym c.in-Some.is ∙ route) in
    let below =
    (child_stands D old c.args.page c.args.level c.args.edge c.args.id c.in-Some.child row high s
    way).node in
    let node = node_stays D old (pages c.step.new.cache) c.in-Some.child (c.args.level - 1) way.below
    (asks.map.pages_stay h c.in-Some.child) below in
    record {
      way = way;
      place_is = place;
      last_is = c.is_last.ensures ∙ last_here D old c.args.page c.args.level c.args.edge c.args.id
          c.in-Some.child row high s way c.in_ok-way.way.place c.in_ok-way.way.count place count;
      has_room = c.in_ok-room.ensures.room (asks.gate.honest.0 h) way.below node;
      is_full = c.in_ok-room.ensures.full (asks.gate.honest.0 h) way.below node;
    }

pub returns-in_err-way-clause-damage : goal.returns-in_err-way-clause-damage
returns-in_err-way-clause-damage g c = λ h.
    at_error c.from_residual.result c.in_err-way.field-0.0 _
    c.from_residual.ensures.1 (λ n damaged.
    comes_at g.row.D (given c.args.cache.now) c.args.page n c.in_err-way.field-0.0
    (c.in_err-way.ensures.damage h) damaged)

pub returns-then-way-level-clause-damage : goal.returns-then-way-level-clause-damage
returns-then-way-level-clause-damage g c = λ h n (damaged : fault.Damaged c.args.page ≡ fault.Damaged n).
    comes_here g.row.D (given c.args.cache.now) c.args.page n (damaged_is c.args.page n damaged)

pub returns-in_default-clause-damage : goal.returns-in_default-clause-damage
returns-in_default-clause-damage g c = λ h n (damaged : fault.Damaged c.args.page ≡ fault.Damaged n).
    comes_here g.row.D (given c.args.cache.now) c.args.page n (damaged_is c.args.page n damaged)

pub returns-in_err-room-clause-damage : goal.returns-in_err-room-clause-damage
returns-in_err-room-clause-damage g c = λ h.
    let names = named_some (NamesChild g.row.D (given c.args.cache.now) c.args.page) c.in_ok-way.way.child
    c.in-Some.child c.in-Some.is
    (c.in_ok-way.ensures.names h) in
    let asks = c.in_ok-way.ensures.asks in
    at_error c.from_residual-in_err-room.result c.in_err-room.field-0.0 _
    c.from_residual-in_err-room.ensures.1 (λ n damaged.
    comes_down g.row.D (given c.args.cache.now) c.args.page c.in-Some.child n names
    (comes_at g.row.D (given c.args.cache.now) c.in-Some.child n c.in_err-room.field-0.0
    (c.in_err-room.ensures.damage (asks.gate.honest.0 h)) damaged))

pub returns-clause-names : goal.returns-clause-names
returns-clause-names g c = λ h.
    named_some (NamesChild g.row.D (given c.args.cache.now) c.args.page) c.in_ok-way.way.child c.in-Some.child
    c.in-Some.is
    (c.in_ok-way.ensures.names h)

pub returns-clause-fork : goal.returns-clause-fork
returns-clause-fork g c = λ h.
    let way = c.in_ok-way.way in
    let level : way.level ≡ c.args.level = omega (arith, c.if-way-level.false) in (
      way.count,
      subst (λ l. SpellsFork g.row.D (given c.args.cache.now) c.args.page l way.count) level
          (c.in_ok-way.ensures.fork h),
    )
