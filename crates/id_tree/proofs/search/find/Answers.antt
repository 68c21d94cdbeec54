-- The leaf to which the way leads, and what a search finds there.
use Rattle.std.proofs.Common.{◌≡◌, ℕ, Option, refl, sym, subst, inl, inr}
use Rattle.page_cache.specs.Cache.{pages, given}
use Rattle.page_cache.specs.Calls.{asks_in_turn, fault_in}
use Rattle.node_page.proofs.DamageLemmas.{damaged_read}
use Rattle.id_words.proofs.Results.{if_both}
use Rattle.id_tree.specs.Checked.{ComesDown, ComesInTree}
use Rattle.id_tree.specs.Rows.{IsLeafPlace, IsSoughtIn, LeadsBelow}
use Rattle.id_tree.specs.Tree.{objects_in}
use Rattle.id_tree.proofs.DamageLemmas.{named_some, reached}
use Rattle.id_tree.proofs.PlaceLemmas.{is_last, nowhere_at, nowhere_is, sought_at, sought_is}
use Rattle.id_tree.proofs.ResultLemmas.{if_ok, if_err}
use Rattle.id_tree.proofs.RootLemmas.{tree_same}
use Rattle.id_tree.proofs.search.find.Goals as goal

pub returns-in-Some-clause-asks : goal.returns-in-Some-clause-asks
returns-in-Some-clause-asks g c = asks_in_turn c.args.cache.now c.leaf_below.new.cache c.seek_in.new.cache
    (fault_in c.seek_in.result) c.in_ok-leaf.ensures.asks c.seek_in.ensures.asks

pub returns-in-Some-clause-found : goal.returns-in-Some-clause-found
returns-in-Some-clause-found g c = λ h t at stands.
    let D = g.row.D in
    let root = c.args.root in
    let id = c.args.id in
    let leaf = c.in-Some.leaf in
    let mid = pages c.leaf_below.new.cache in
    let asks = c.in_ok-leaf.ensures.asks in
    let tree = tree_same D (pages c.args.cache.now) mid t (asks.map.pages_stay h) stands in
    let leads = subst (LeadsBelow root t.level id t.row) c.in-Some.is
    (c.in_ok-leaf.ensures.found h t at stands) in
    let last = is_last D mid t root id leaf leads.0 at tree leads.1 in
    if_ok c.seek_in.result _ _
    (λ sought is. sought_is D mid t root id leaf leads.0 at tree leads.1 sought.at.place sought.kept is)
    (c.seek_in.ensures.found (asks.gate.honest.0 h) (objects_in leads.0) (last.stands.node.leaf refl))

pub returns-in-Some-clause-place : goal.returns-in-Some-clause-place
returns-in-Some-clause-place g c = λ h t at stands.
    let D = g.row.D in
    let root = c.args.root in
    let id = c.args.id in
    let leaf = c.in-Some.leaf in
    let mid = pages c.leaf_below.new.cache in
    let asks = c.in_ok-leaf.ensures.asks in
    let tree = tree_same D (pages c.args.cache.now) mid t (asks.map.pages_stay h) stands in
    let leads = subst (LeadsBelow root t.level id t.row) c.in-Some.is
    (c.in_ok-leaf.ensures.found h t at stands) in
    let last = is_last D mid t root id leaf leads.0 at tree leads.1 in
    if_both c.seek_in.result (λ sought. IsSoughtIn id (objects_in leads.0) sought.at.place sought.kept)
    (λ sought. sought.at.leaf ≡ leaf) (λ sought. IsLeafPlace t id sought.at.leaf sought.at.place)
    (c.seek_in.ensures.found (asks.gate.honest.0 h) (objects_in leads.0) (last.stands.node.leaf refl))
    c.seek_in.ensures.here
    (λ sought is here. subst (λ (n : ℕ). IsLeafPlace t id n sought.at.place) (sym here)
    (sought_at D mid t root id leaf leads.0 at tree leads.1 sought.at.place sought.kept is))

pub returns-in-Some-clause-stands : goal.returns-in-Some-clause-stands
returns-in-Some-clause-stands g c = λ h t at stands.
    let D = g.row.D in
    let root = c.args.root in
    let id = c.args.id in
    let mid = pages c.leaf_below.new.cache in
    let asks = c.in_ok-leaf.ensures.asks in
    let tree = tree_same D (pages c.args.cache.now) mid t (asks.map.pages_stay h) stands in
    let leads = subst (LeadsBelow root t.level id t.row) c.in-Some.is
    (c.in_ok-leaf.ensures.found h t at stands) in
    let last = is_last D mid t root id c.in-Some.leaf leads.0 at tree leads.1 in
    c.seek_in.ensures.there (asks.gate.honest.0 h) (objects_in leads.0) (last.stands.node.leaf refl)

pub returns-in-Some-clause-comes : goal.returns-in-Some-clause-comes
returns-in-Some-clause-comes g c = λ h.
    let D = g.row.D in
    let m = given c.args.cache.now in
    let root = c.args.root in
    let leaf = c.in-Some.leaf in
    let comes = named_some (ComesInTree D m root) c.in_ok-leaf.field-0 leaf c.in-Some.is
    (c.in_ok-leaf.ensures.comes h) in
    if_ok c.seek_in.result _ _
    (λ sought is. inr (subst (ComesInTree D m root) (sym is) comes)) c.seek_in.ensures.here

pub returns-in-Some-clause-damage : goal.returns-in-Some-clause-damage
returns-in-Some-clause-damage g c = λ h.
    let D = g.row.D in
    let m = given c.args.cache.now in
    let root = c.args.root in
    let leaf = c.in-Some.leaf in
    let comes = named_some (ComesInTree D m root) c.in_ok-leaf.field-0 leaf c.in-Some.is
    (c.in_ok-leaf.ensures.comes h) in
    if_err c.seek_in.result _ _
    (λ f either n damaged. subst (ComesInTree D m root) (sym (damaged_read f leaf n either damaged)) comes)
    (c.seek_in.ensures.damage (c.in_ok-leaf.ensures.asks.gate.honest.0 h))

pub returns-in-None-clause-found : goal.returns-in-None-clause-found
returns-in-None-clause-found g c = λ h t at stands.
    nowhere_is t c.args.id
    (subst (LeadsBelow c.args.root t.level c.args.id t.row) c.in-None.is
    (c.in_ok-leaf.ensures.found h t at stands))

pub returns-in-None-clause-place : goal.returns-in-None-clause-place
returns-in-None-clause-place g c = λ h t at stands.
    nowhere_at t c.args.id 0
    (subst (LeadsBelow c.args.root t.level c.args.id t.row) c.in-None.is
    (c.in_ok-leaf.ensures.found h t at stands))

-- ---- how the leaf was reached

pub returns-in-Some-clause-reached : goal.returns-in-Some-clause-reached
returns-in-Some-clause-reached g c = λ h.
    let D = g.row.D in
    let old = given c.args.cache.now in
    let mid = given c.leaf_below.new.cache in
    let root = c.args.root in
    let leaf = c.in-Some.leaf in
    let asks = c.in_ok-leaf.ensures.asks in
    let down = subst (λ (o : Option ℕ). (level : ℕ) × ComesDown D old root level o) c.in-Some.is
    (c.in_ok-leaf.ensures.down h) in
    reached c.seek_in.result D old mid root leaf (asks.map.given_stay h) down c.seek_in.ensures.here
    (c.seek_in.ensures.leaf (asks.gate.honest.0 h))

pub returns-in-None-clause-reached : goal.returns-in-None-clause-reached
returns-in-None-clause-reached g c = λ h.
    let down = subst (λ (o : Option ℕ). (level : ℕ) × ComesDown g.row.D (given c.args.cache.now) c.args.root level o)
    c.in-None.is (c.in_ok-leaf.ensures.down h) in
    (down.0, inl (refl, down.1))
