-- The leaf that was found takes the object, or a walk down from the root finds where it comes.
use Rattle.std.proofs.Common.{inl, refl}
use Rattle.box_math.specs.Objects.{Object}
use Rattle.page_file.specs.Fault.{IsOfDevice}
use Rattle.page_cache.specs.Cache.{pages}
use Rattle.page_cache.specs.Calls.{asks_and_changes}
use Rattle.node_page.specs.Faults.{IsNoDamage}
use Rattle.node_page.proofs.NodeLemmas.{at_error, on_ok}
use Rattle.id_tree.specs.Tree.{objects_in}
use Rattle.id_tree.proofs.DamageLemmas.{said_before}
use Rattle.id_tree.proofs.NodeLemmas.{node_there}
use Rattle.id_tree.proofs.PlaceLemmas.{last_in, leads_there, sets_pushed}
use Rattle.id_tree.proofs.ResultLemmas.{if_err}
use Rattle.id_tree.proofs.RootLemmas.{absent_of, sets_from, tree_same}
use Rattle.id_tree.proofs.TidyLemmas.{tidy_from}
use Rattle.id_tree.proofs.adding.add.Goals as goal

pub returns-in_err-has_room-clause-faults : goal.returns-in_err-has_room-clause-faults
returns-in_err-has_room-clause-faults g c = λ map t at stands found.
    let leaf = c.args.at.leaf in
    let leads = leads_there t c.args.id leaf c.args.at.place found c.if-at-eq0.false in
    let last = last_in g.row.D (pages c.args.cache.now) t c.args.id leaf leads.last stands leads.way in
    at_error c.from_residual.result c.in_err-has_room.field-0.0 (IsNoDamage c.has_room.new.cache)
    c.from_residual.ensures.1
    (inl (c.in_err-has_room.ensures.there map.honest leads.last last.stands.node))

pub returns-then-branch-clause-changes : goal.returns-then-branch-clause-changes
returns-then-branch-clause-changes g c = asks_and_changes c.args.cache.now c.has_room.new.cache
    c.push.new.cache c.push.result c.in_ok-has_room.ensures.asks c.push.ensures.changes

pub returns-then-branch-clause-sound : goal.returns-then-branch-clause-sound
returns-then-branch-clause-sound g c = λ map t at stands found.
    let D = g.row.D in
    let leaf = c.args.at.leaf in
    let mid = pages c.has_room.new.cache in
    let asks = c.in_ok-has_room.ensures.asks in
    let tree = tree_same D (pages c.args.cache.now) mid t (asks.map.pages_stay map.honest) stands in
    let leads = leads_there t c.args.id leaf c.args.at.place found c.if-at-eq0.false in
    let last = last_in D mid t c.args.id leaf leads.last tree leads.way in
    c.push.ensures.sound (asks.map.sound.0 map) (node_there D mid leaf 0 leads.last last.stands.node)

pub returns-then-branch-clause-tidy : goal.returns-then-branch-clause-tidy
returns-then-branch-clause-tidy g c = λ map t at stands found.
    let D = g.row.D in
    let id = c.args.id in
    let leaf = c.args.at.leaf in
    let old = pages c.args.cache.now in
    let mid = pages c.has_room.new.cache in
    let asks = c.in_ok-has_room.ensures.asks in
    let same = asks.map.pages_stay map.honest in
    let tree = tree_same D old mid t same stands in
    let leads = leads_there t id leaf c.args.at.place found c.if-at-eq0.false in
    let before = last_in D old t id leaf leads.last stands leads.way in
    let last = last_in D mid t id leaf leads.last tree leads.way in
    let room = c.in_ok-has_room.ensures.room map.honest leads.last before.stands.node c.if-branch.true in
    tidy_from c.push.result D old mid (pages c.push.new.cache) same
    (c.push.ensures.tidy (asks.gate.honest.0 map.honest) (objects_in leads.last)
    (last.stands.node.leaf refl) (room.leaf refl))

pub returns-then-branch-clause-added : goal.returns-then-branch-clause-added
returns-then-branch-clause-added g c = λ map t at stands found absent.
    let D = g.row.D in
    let id = c.args.id in
    let leaf = c.args.at.leaf in
    let kept : Object = (c.args.bounds.now, c.args.tag) in
    let old = pages c.args.cache.now in
    let mid = pages c.has_room.new.cache in
    let new = pages c.push.new.cache in
    let asks = c.in_ok-has_room.ensures.asks in
    let same = asks.map.pages_stay map.honest in
    let honest = asks.gate.honest.0 map.honest in
    let tree = tree_same D old mid t same stands in
    let leads = leads_there t id leaf c.args.at.place found c.if-at-eq0.false in
    let before = last_in D old t id leaf leads.last stands leads.way in
    let last = last_in D mid t id leaf leads.last tree leads.way in
    let live = node_there D mid leaf 0 leads.last last.stands.node in
    let room = c.in_ok-has_room.ensures.room map.honest leads.last before.stands.node c.if-branch.true in
    on_ok c.push.result
    (λ there. sets_from D old mid new t id kept same
    (sets_pushed D mid new t id leaf kept tree (absent_of t id absent) leads
    (c.push.ensures.others honest live) there))
    (c.push.ensures.written honest (objects_in leads.last) (last.stands.node.leaf refl) (room.leaf refl))

pub returns-then-branch-clause-faults : goal.returns-then-branch-clause-faults
returns-then-branch-clause-faults g c = λ map t at stands found.
    let D = g.row.D in
    let leaf = c.args.at.leaf in
    let mid = pages c.has_room.new.cache in
    let asks = c.in_ok-has_room.ensures.asks in
    let tree = tree_same D (pages c.args.cache.now) mid t (asks.map.pages_stay map.honest) stands in
    let leads = leads_there t c.args.id leaf c.args.at.place found c.if-at-eq0.false in
    let last = last_in D mid t c.args.id leaf leads.last tree leads.way in
    if_err c.push.result IsOfDevice (IsNoDamage c.push.new.cache) (λ f is. inl is)
    (c.push.ensures.faults (asks.gate.honest.0 map.honest)
    (node_there D mid leaf 0 leads.last last.stands.node))

pub returns-clause-changes : goal.returns-clause-changes
returns-clause-changes g c = asks_and_changes c.args.cache.now c.has_room.new.cache c.add_object-2.new.cache
    c.add_object-2.result c.in_ok-has_room.ensures.asks c.add_object-2.ensures.changes

pub returns-clause-damage : goal.returns-clause-damage
returns-clause-damage g c = λ h met none.
    let D = g.row.D in
    let old = c.args.cache.now in
    let mid = c.has_room.new.cache in
    let asks = c.in_ok-has_room.ensures.asks in
    if_err c.add_object-2.result _ _
    (λ f either n damaged. said_before D old mid c.args.root n asks.map h (either n damaged))
    (c.add_object-2.ensures.damage (asks.gate.honest.0 h) none)

pub returns-then-at-eq0-clause-sound : goal.returns-then-at-eq0-clause-sound
returns-then-at-eq0-clause-sound g c = λ map t at stands found.
    (c.add_object.ensures.takes map t at stands).sound

pub returns-then-at-eq0-clause-tidy : goal.returns-then-at-eq0-clause-tidy
returns-then-at-eq0-clause-tidy g c = λ map t at stands found.
    (c.add_object.ensures.takes map t at stands).tidy

pub returns-then-at-eq0-clause-added : goal.returns-then-at-eq0-clause-added
returns-then-at-eq0-clause-added g c = λ map t at stands found absent.
    on_ok c.add_object.result (λ set. set absent) (c.add_object.ensures.takes map t at stands).made

pub returns-then-at-eq0-clause-faults : goal.returns-then-at-eq0-clause-faults
returns-then-at-eq0-clause-faults g c = λ map t at stands found.
    (c.add_object.ensures.takes map t at stands).faults

pub returns-clause-sound : goal.returns-clause-sound
returns-clause-sound g c = λ map t at stands found.
    let D = g.row.D in
    let old = pages c.args.cache.now in
    let mid = pages c.has_room.new.cache in
    let asks = c.in_ok-has_room.ensures.asks in
    let same = asks.map.pages_stay map.honest in
    let w = c.add_object-2.ensures.takes (asks.map.sound.0 map) t at (tree_same D old mid t same stands) in
    w.sound

pub returns-clause-tidy : goal.returns-clause-tidy
returns-clause-tidy g c = λ map t at stands found.
    let D = g.row.D in
    let old = pages c.args.cache.now in
    let mid = pages c.has_room.new.cache in
    let asks = c.in_ok-has_room.ensures.asks in
    let same = asks.map.pages_stay map.honest in
    let w = c.add_object-2.ensures.takes (asks.map.sound.0 map) t at (tree_same D old mid t same stands) in
    tidy_from c.add_object-2.result D old mid (pages c.add_object-2.new.cache) same w.tidy

pub returns-clause-added : goal.returns-clause-added
returns-clause-added g c = λ map t at stands found absent.
    let D = g.row.D in
    let old = pages c.args.cache.now in
    let mid = pages c.has_room.new.cache in
    let asks = c.in_ok-has_room.ensures.asks in
    let same = asks.map.pages_stay map.honest in
    let w = c.add_object-2.ensures.takes (asks.map.sound.0 map) t at (tree_same D old mid t same stands) in
    on_ok c.add_object-2.result (λ set. sets_from D old mid (pages c.add_object-2.new.cache) t c.args.id
    (c.args.bounds.now, c.args.tag) same (set absent)) w.made

pub returns-clause-faults : goal.returns-clause-faults
returns-clause-faults g c = λ map t at stands found.
    let D = g.row.D in
    let old = pages c.args.cache.now in
    let mid = pages c.has_room.new.cache in
    let asks = c.in_ok-has_room.ensures.asks in
    let same = asks.map.pages_stay map.honest in
    let w = c.add_object-2.ensures.takes (asks.map.sound.0 map) t at (tree_same D old mid t same stands) in
    w.faults
