-- The object in the place that was found is taken, or a walk down from the root takes it.
use Rattle.id_tree.proofs.RemoveLemmas.{has_object, removes_from}
use Rattle.std.proofs.Common.{refl}
use Rattle.page_file.specs.Fault.{IsOfDevice}
use Rattle.page_cache.specs.Cache.{pages, given}
use Rattle.page_cache.specs.Calls.{asks_and_changes}
use Rattle.node_page.proofs.NodeLemmas.{at_error, on_ok}
use Rattle.id_tree.specs.Tree.{objects_in}
use Rattle.id_tree.proofs.GivenLemmas.{comes_so}
use Rattle.id_tree.proofs.NodeLemmas.{node_there}
use Rattle.id_tree.proofs.PartingLemmas.{some_object}
use Rattle.id_tree.proofs.PlaceLemmas.{kept_at, last_in, leads_there, removes_taken}
use Rattle.id_tree.proofs.ResultLemmas.{if_err}
use Rattle.id_tree.proofs.RootLemmas.{tree_same}
use Rattle.id_tree.proofs.TidyLemmas.{tidy_from}
use Rattle.id_tree.proofs.removing.remove.Goals as goal

pub returns-in_err-is_ample-clause-faults : goal.returns-in_err-is_ample-clause-faults
returns-in_err-is_ample-clause-faults g c = λ map t at stands found there.
    let leaf = c.args.at.leaf in
    let below = (kept_at t c.args.id leaf c.args.at.place found there).below in
    let last = last_in g.row.D (pages c.args.cache.now) t c.args.id leaf below.last stands below.way in
    at_error c.from_residual.result c.in_err-is_ample.field-0.0 IsOfDevice c.from_residual.ensures.1
    (c.in_err-is_ample.ensures.there map.honest below.last last.stands.node)

pub returns-then-branch-clause-changes : goal.returns-then-branch-clause-changes
returns-then-branch-clause-changes g c = asks_and_changes c.args.cache.now c.is_ample.new.cache
    c.take_at.new.cache c.take_at.result c.in_ok-is_ample.ensures.asks c.take_at.ensures.changes

pub returns-then-branch-clause-sound : goal.returns-then-branch-clause-sound
returns-then-branch-clause-sound g c = λ map t at stands found.
    let D = g.row.D in
    let leaf = c.args.at.leaf in
    let mid = pages c.is_ample.new.cache in
    let asks = c.in_ok-is_ample.ensures.asks in
    let tree = tree_same D (pages c.args.cache.now) mid t (asks.map.pages_stay map.honest) stands in
    let leads = leads_there t c.args.id leaf c.args.at.place found c.if-at-eq0.false in
    let last = last_in D mid t c.args.id leaf leads.last tree leads.way in
    c.take_at.ensures.sound (asks.map.sound.0 map) (node_there D mid leaf 0 leads.last last.stands.node)

pub returns-then-branch-clause-tidy : goal.returns-then-branch-clause-tidy
returns-then-branch-clause-tidy g c = λ map t at stands found there.
    let D = g.row.D in
    let leaf = c.args.at.leaf in
    let old = pages c.args.cache.now in
    let mid = pages c.is_ample.new.cache in
    let asks = c.in_ok-is_ample.ensures.asks in
    let same = asks.map.pages_stay map.honest in
    let tree = tree_same D old mid t same stands in
    let below = (kept_at t c.args.id leaf c.args.at.place found there).below in
    let last = last_in D mid t c.args.id leaf below.last tree below.way in
    tidy_from c.take_at.result D old mid (pages c.take_at.new.cache) same
    (c.take_at.ensures.tidy (asks.gate.honest.0 map.honest) (objects_in below.last)
    (last.stands.node.leaf refl) below.has.within)

pub returns-then-branch-clause-removed : goal.returns-then-branch-clause-removed
returns-then-branch-clause-removed g c = λ map t at stands found there.
    let D = g.row.D in
    let id = c.args.id in
    let leaf = c.args.at.leaf in
    let place = c.args.at.place in
    let old = pages c.args.cache.now in
    let mid = pages c.is_ample.new.cache in
    let new = pages c.take_at.new.cache in
    let asks = c.in_ok-is_ample.ensures.asks in
    let same = asks.map.pages_stay map.honest in
    let honest = asks.gate.honest.0 map.honest in
    let tree = tree_same D old mid t same stands in
    let k = kept_at t id leaf place found there in
    let row = k.below.last in
    let before = last_in D old t id leaf row stands k.below.way in
    let last = last_in D mid t id leaf row tree k.below.way in
    let live = node_there D mid leaf 0 row last.stands.node in
    on_ok c.take_at.result
    (λ is. removes_from D old mid new t id same
    (removes_taken D mid new t id leaf place tree k
    (λ edge. c.in_ok-is_ample.ensures.ample map.honest edge row before.stands.node c.if-branch.true)
    (c.take_at.ensures.others honest live) is))
    (c.take_at.ensures.taken honest (objects_in row) some_object (last.stands.node.leaf refl)
    k.below.has.within)

pub returns-then-branch-clause-faults : goal.returns-then-branch-clause-faults
returns-then-branch-clause-faults g c = λ map t at stands found there.
    let D = g.row.D in
    let leaf = c.args.at.leaf in
    let mid = pages c.is_ample.new.cache in
    let asks = c.in_ok-is_ample.ensures.asks in
    let tree = tree_same D (pages c.args.cache.now) mid t (asks.map.pages_stay map.honest) stands in
    let below = (kept_at t c.args.id leaf c.args.at.place found there).below in
    let last = last_in D mid t c.args.id leaf below.last tree below.way in
    c.take_at.ensures.faults (asks.gate.honest.0 map.honest)
    (node_there D mid leaf 0 below.last last.stands.node)

pub returns-clause-changes : goal.returns-clause-changes
returns-clause-changes g c = asks_and_changes c.args.cache.now c.is_ample.new.cache
    c.remove_from_root-2.new.cache c.remove_from_root-2.result c.in_ok-is_ample.ensures.asks
    c.remove_from_root-2.ensures.changes

pub returns-clause-damage : goal.returns-clause-damage
returns-clause-damage g c = λ h met none.
    let asks = c.in_ok-is_ample.ensures.asks in
    if_err c.remove_from_root-2.result _ _
    (λ f comes n damaged. comes_so g.row.D (given c.args.cache.now) (given c.is_ample.new.cache) c.args.root n
    (asks.map.given_stay h) (comes n damaged))
    (c.remove_from_root-2.ensures.damage (asks.gate.honest.0 h) none)

pub returns-then-at-eq0-clause-sound : goal.returns-then-at-eq0-clause-sound
returns-then-at-eq0-clause-sound g c = λ map t at stands found.
    (c.remove_from_root.ensures.removes map t at stands).sound

pub returns-then-at-eq0-clause-tidy : goal.returns-then-at-eq0-clause-tidy
returns-then-at-eq0-clause-tidy g c = λ map t at stands found there.
    (c.remove_from_root.ensures.removes map t at stands).tidy

pub returns-then-at-eq0-clause-removed : goal.returns-then-at-eq0-clause-removed
returns-then-at-eq0-clause-removed g c = λ map t at stands found there.
    (c.remove_from_root.ensures.removes map t at stands).made

pub returns-then-at-eq0-clause-faults : goal.returns-then-at-eq0-clause-faults
returns-then-at-eq0-clause-faults g c = λ map t at stands found there.
    if_err c.remove_from_root.result _ IsOfDevice (λ f why. why (has_object t c.args.id there))
    (c.remove_from_root.ensures.removes map t at stands).faults

pub returns-clause-sound : goal.returns-clause-sound
returns-clause-sound g c = λ map t at stands found.
    let D = g.row.D in
    let old = pages c.args.cache.now in
    let mid = pages c.is_ample.new.cache in
    let asks = c.in_ok-is_ample.ensures.asks in
    let same = asks.map.pages_stay map.honest in
    (c.remove_from_root-2.ensures.removes (asks.map.sound.0 map) t at (tree_same D old mid t same stands)).sound

pub returns-clause-tidy : goal.returns-clause-tidy
returns-clause-tidy g c = λ map t at stands found there.
    let D = g.row.D in
    let old = pages c.args.cache.now in
    let mid = pages c.is_ample.new.cache in
    let asks = c.in_ok-is_ample.ensures.asks in
    let same = asks.map.pages_stay map.honest in
    tidy_from c.remove_from_root-2.result D old mid (pages c.remove_from_root-2.new.cache) same
    (c.remove_from_root-2.ensures.removes (asks.map.sound.0 map) t at (tree_same D old mid t same stands)).tidy

pub returns-clause-removed : goal.returns-clause-removed
returns-clause-removed g c = λ map t at stands found there.
    let D = g.row.D in
    let old = pages c.args.cache.now in
    let mid = pages c.is_ample.new.cache in
    let asks = c.in_ok-is_ample.ensures.asks in
    let same = asks.map.pages_stay map.honest in
    on_ok c.remove_from_root-2.result
    (removes_from D old mid (pages c.remove_from_root-2.new.cache) t c.args.id same)
    (c.remove_from_root-2.ensures.removes (asks.map.sound.0 map) t at (tree_same D old mid t same stands)).made

pub returns-clause-faults : goal.returns-clause-faults
returns-clause-faults g c = λ map t at stands found there.
    let D = g.row.D in
    let old = pages c.args.cache.now in
    let mid = pages c.is_ample.new.cache in
    let asks = c.in_ok-is_ample.ensures.asks in
    let same = asks.map.pages_stay map.honest in
    if_err c.remove_from_root-2.result _ IsOfDevice (λ f why. why (has_object t c.args.id there))
    (c.remove_from_root-2.ensures.removes (asks.map.sound.0 map) t at
    (tree_same D old mid t same stands)).faults
