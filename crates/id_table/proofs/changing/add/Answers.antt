-- An object is added to a table of its kind.
use Rattle.std.proofs.Common.{◌≡◌, IfErr, OnOk, false, arith, refl, subst}
use Rattle.std.specs.FinMap as map
use Rattle.page_cache.specs.Cache.{IsPageMap, given, pages}
use Rattle.page_cache.specs.Calls.{no_call_asks}
use Rattle.node_page.specs.Faults.{IsNoDamage}
use Rattle.node_page.proofs.NodeLemmas.{if_error}
use Rattle.id_chains.specs.Table.{class_of}
use Rattle.id_table.specs.Changes.{KeepsTidy, Sets}
use Rattle.id_table.specs.Checked.{MeetsSpot}
use Rattle.id_table.specs.Table.{kind_of, objects_of}
use Rattle.id_table.proofs.StepLemmas.{at_chain, at_leaf, begun_or_broken, chains_set, in_some_chain}
use Rattle.id_table.proofs.StepLemmas.{met_in_tree, met_or_broken, on_ok, tree_set}
use Rattle.id_table.proofs.changing.add.Goals as goal

pub returns-in-InChain-clause-sound : goal.returns-in-InChain-clause-sound
returns-in-InChain-clause-sound g c = λ sound t at s spot.
    at_chain g.row.D c.args.page (pages c.args.cache.now)
    (λ t. IsPageMap c.add.new.cache)
    c.args.id c.args.spot t at s spot c.in-InChain.is
    (λ ch there stands. c.add.ensures.sound sound ch there stands)

pub returns-in-InChain-clause-added : goal.returns-in-InChain-clause-added
returns-in-InChain-clause-added g c = λ sound t at s spot absent.
    at_chain g.row.D c.args.page (pages c.args.cache.now)
    (λ t. map.contains_key (objects_of t) c.args.id ≡ false
    → OnOk c.add.result (Sets g.row.D (pages c.args.cache.now) (pages c.add.new.cache) t c.args.id (c.args.bounds.now, c.args.tag)))
    c.args.id c.args.spot t at s spot c.in-InChain.is
    (λ ch there stands absent. on_ok c.add.result
    (chains_set g.row.D (pages c.args.cache.now) (pages c.args.cache.now) (pages c.add.new.cache) refl ch c.args.id
    (c.args.bounds.now, c.args.tag)) (c.add.ensures.added sound ch there stands absent)) absent

pub returns-in-InChain-clause-faults : goal.returns-in-InChain-clause-faults
returns-in-InChain-clause-faults g c = λ sound t at s spot.
    at_chain g.row.D c.args.page (pages c.args.cache.now)
    (λ t. IfErr c.add.result (IsNoDamage c.add.new.cache))
    c.args.id c.args.spot t at s spot c.in-InChain.is
    (λ ch there stands. c.add.ensures.faults sound ch there stands)

pub returns-in-InChain-clause-tidy : goal.returns-in-InChain-clause-tidy
returns-in-InChain-clause-tidy g c = λ sound t at s spot.
    at_chain g.row.D c.args.page (pages c.args.cache.now)
    (λ t. OnOk c.add.result (KeepsTidy g.row.D (kind_of t) (pages c.args.cache.now) (pages c.add.new.cache)))
    c.args.id c.args.spot t at s spot c.in-InChain.is
    (λ ch there stands. c.add.ensures.tidy sound ch there stands)

pub returns-in-InChain-clause-damage : goal.returns-in-InChain-clause-damage
returns-in-InChain-clause-damage g c = λ h meets quiet.
    if_error c.add.result _ _
    (λ f met n is. begun_or_broken g.row.D c.args.page c.args.cache.now c.args.cache.now (no_call_asks c.args.cache.now) h n
    (in_some_chain g.row.D c.args.page (class_of c.args.id) (given c.args.cache.now) n (omega arith) (met n is)))
    (c.add.ensures.damage h)

pub returns-in-InLeaf-clause-sound : goal.returns-in-InLeaf-clause-sound
returns-in-InLeaf-clause-sound g c = λ sound t at s spot.
    at_leaf g.row.D c.args.page (pages c.args.cache.now)
    (λ t. IsPageMap c.add-in-InLeaf.new.cache)
    c.args.id c.args.spot t at s spot c.in-InLeaf.at c.in-InLeaf.is
    (λ ch there stands at. c.add-in-InLeaf.ensures.sound sound ch there stands at)

pub returns-in-InLeaf-clause-added : goal.returns-in-InLeaf-clause-added
returns-in-InLeaf-clause-added g c = λ sound t at s spot absent.
    at_leaf g.row.D c.args.page (pages c.args.cache.now)
    (λ t. map.contains_key (objects_of t) c.args.id ≡ false
    → OnOk c.add-in-InLeaf.result (Sets g.row.D (pages c.args.cache.now) (pages c.add-in-InLeaf.new.cache) t c.args.id (c.args.bounds.now, c.args.tag)))
    c.args.id c.args.spot t at s spot c.in-InLeaf.at c.in-InLeaf.is
    (λ ch there stands at absent. on_ok c.add-in-InLeaf.result
    (tree_set g.row.D (pages c.args.cache.now) (pages c.args.cache.now) (pages c.add-in-InLeaf.new.cache) refl ch c.args.id
    (c.args.bounds.now, c.args.tag)) (c.add-in-InLeaf.ensures.added sound ch there stands at absent)) absent

pub returns-in-InLeaf-clause-faults : goal.returns-in-InLeaf-clause-faults
returns-in-InLeaf-clause-faults g c = λ sound t at s spot.
    at_leaf g.row.D c.args.page (pages c.args.cache.now)
    (λ t. IfErr c.add-in-InLeaf.result (IsNoDamage c.add-in-InLeaf.new.cache))
    c.args.id c.args.spot t at s spot c.in-InLeaf.at c.in-InLeaf.is
    (λ ch there stands at. c.add-in-InLeaf.ensures.faults sound ch there stands at)

pub returns-in-InLeaf-clause-tidy : goal.returns-in-InLeaf-clause-tidy
returns-in-InLeaf-clause-tidy g c = λ sound t at s spot.
    at_leaf g.row.D c.args.page (pages c.args.cache.now)
    (λ t. OnOk c.add-in-InLeaf.result (KeepsTidy g.row.D (kind_of t) (pages c.args.cache.now) (pages c.add-in-InLeaf.new.cache)))
    c.args.id c.args.spot t at s spot c.in-InLeaf.at c.in-InLeaf.is
    (λ ch there stands at. c.add-in-InLeaf.ensures.tidy sound ch there stands at)

pub returns-in-InLeaf-clause-damage : goal.returns-in-InLeaf-clause-damage
returns-in-InLeaf-clause-damage g c = λ h meets quiet.
    if_error c.add-in-InLeaf.result _ _
    (λ f met n is. met_or_broken g.row.D c.args.page c.args.cache.now c.args.cache.now (no_call_asks c.args.cache.now) h n
    (met_in_tree g.row.D c.args.page (given c.args.cache.now) (given c.args.cache.now) n refl) (met n is))
    (c.add-in-InLeaf.ensures.damage h
    (subst (MeetsSpot g.row.D (given c.args.cache.now) c.args.page) c.in-InLeaf.is meets) quiet)
