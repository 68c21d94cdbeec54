-- The object in the place that was found is put anew.
use Rattle.std.proofs.Common.{ℕ, refl, subst}
use Rattle.page_cache.specs.Cache.{pages}
use Rattle.node_page.proofs.NodeLemmas.{on_ok}
use Rattle.id_tree.specs.Changes.{Sets}
use Rattle.id_tree.specs.Tree.{objects_in}
use Rattle.id_tree.proofs.NodeLemmas.{node_there}
use Rattle.id_tree.proofs.PlaceLemmas.{few_in, kept_at, kept_low, last_in, leads_there}
use Rattle.id_tree.proofs.PutLemmas.{sets_put}
use Rattle.id_tree.proofs.updating.update.Goals as goal

pub returns-then-at-eq0-clause-faults : goal.returns-then-at-eq0-clause-faults
returns-then-at-eq0-clause-faults g c = λ map t at stands found there.
    absurd (kept_low g.row.D (pages c.args.cache.now) t c.args.id c.args.at.leaf c.args.at.place stands
    (kept_at t c.args.id c.args.at.leaf c.args.at.place found there) c.if-at-eq0.true)

pub returns-clause-sound : goal.returns-clause-sound
returns-clause-sound g c = λ map t at stands found.
    let leaf = c.args.at.leaf in
    let old = pages c.args.cache.now in
    let leads = leads_there t c.args.id leaf c.args.at.place found c.if-at-eq0.false in
    let last = last_in g.row.D old t c.args.id leaf leads.last stands leads.way in
    c.move_at.ensures.sound map (node_there g.row.D old leaf 0 leads.last last.stands.node)

pub returns-clause-tidy : goal.returns-clause-tidy
returns-clause-tidy g c = λ map t at stands found there.
    let leaf = c.args.at.leaf in
    let below = (kept_at t c.args.id leaf c.args.at.place found there).below in
    let last = last_in g.row.D (pages c.args.cache.now) t c.args.id leaf below.last stands below.way in
    c.move_at.ensures.tidy map.honest (objects_in below.last) (last.stands.node.leaf refl) below.has.within

pub returns-clause-updated : goal.returns-clause-updated
returns-clause-updated g c = λ map t at stands found kept is tag.
    let D = g.row.D in
    let id = c.args.id in
    let leaf = c.args.at.leaf in
    let place = c.args.at.place in
    let bounds = c.args.bounds.now in
    let old = pages c.args.cache.now in
    let new = pages c.move_at.new.cache in
    let below = found.there kept is in
    let last = last_in D old t id leaf below.last stands below.way in
    let live = node_there D old leaf 0 below.last last.stands.node in
    on_ok c.move_at.result (λ there.
    subst (λ (n : ℕ). Sets D old new t id (bounds, n)) tag
    (sets_put D old new t id leaf place kept (bounds, c.args.tag) stands below
    (c.move_at.ensures.others map.honest live) there (few_in D old t id leaf below.last stands last id)))
    (c.move_at.ensures.written map.honest (objects_in below.last) (last.stands.node.leaf refl)
    below.has.within)

pub returns-clause-faults : goal.returns-clause-faults
returns-clause-faults g c = λ map t at stands found there.
    let leaf = c.args.at.leaf in
    let old = pages c.args.cache.now in
    let below = (kept_at t c.args.id leaf c.args.at.place found there).below in
    let last = last_in g.row.D old t c.args.id leaf below.last stands below.way in
    c.move_at.ensures.faults map.honest (node_there g.row.D old leaf 0 below.last last.stands.node)
