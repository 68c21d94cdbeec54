-- An object is removed from a table of its kind.
use Rattle.std.proofs.Common.{◌≡◌, IfErr, OnOk, true, arith, inr, refl, subst}
use Rattle.std.specs.FinMap as map
use Rattle.page_file.specs.Fault.{IsOfDevice}
use Rattle.page_cache.specs.Cache.{IsPageMap, given, pages}
use Rattle.node_page.proofs.NodeLemmas.{if_error}
use Rattle.id_chains.specs.Table.{class_of}
use Rattle.id_table.specs.Changes.{KeepsTidy, Removes}
use Rattle.id_table.specs.Checked.{MeetsSpot}
use Rattle.id_table.specs.Table.{kind_of, objects_of}
use Rattle.id_table.proofs.StepLemmas.{at_chain, at_leaf, chains_less, met_in_chain, met_in_tree, on_ok, tree_less}
use Rattle.id_table.proofs.changing.remove.Goals as goal

pub returns-in-InChain-clause-sound : goal.returns-in-InChain-clause-sound
returns-in-InChain-clause-sound g c = λ sound t at s spot.
    at_chain g.row.D c.args.page (pages c.args.cache.now)
    (λ t. IsPageMap c.remove.new.cache)
    c.args.id c.args.spot t at s spot c.in-InChain.is
    (λ ch there stands. c.remove.ensures.sound sound ch there stands)

pub returns-in-InChain-clause-removed : goal.returns-in-InChain-clause-removed
returns-in-InChain-clause-removed g c = λ sound t at s spot has.
    at_chain g.row.D c.args.page (pages c.args.cache.now)
    (λ t. map.contains_key (objects_of t) c.args.id ≡ true
    → OnOk c.remove.result (Removes g.row.D (pages c.args.cache.now) (pages c.remove.new.cache) t c.args.id))
    c.args.id c.args.spot t at s spot c.in-InChain.is
    (λ ch there stands has. on_ok c.remove.result
    (chains_less g.row.D (pages c.args.cache.now) (pages c.args.cache.now) (pages c.remove.new.cache) refl ch c.args.id)
    (c.remove.ensures.removed sound ch there stands has)) has

pub returns-in-InChain-clause-faults : goal.returns-in-InChain-clause-faults
returns-in-InChain-clause-faults g c = λ sound t at s spot has.
    at_chain g.row.D c.args.page (pages c.args.cache.now)
    (λ t. map.contains_key (objects_of t) c.args.id ≡ true → IfErr c.remove.result IsOfDevice)
    c.args.id c.args.spot t at s spot c.in-InChain.is
    (λ ch there stands has. c.remove.ensures.faults sound ch there stands has) has

pub returns-in-InChain-clause-tidy : goal.returns-in-InChain-clause-tidy
returns-in-InChain-clause-tidy g c = λ sound t at s spot has.
    at_chain g.row.D c.args.page (pages c.args.cache.now)
    (λ t. map.contains_key (objects_of t) c.args.id ≡ true
    → OnOk c.remove.result (KeepsTidy g.row.D (kind_of t) (pages c.args.cache.now) (pages c.remove.new.cache)))
    c.args.id c.args.spot t at s spot c.in-InChain.is
    (λ ch there stands has. c.remove.ensures.tidy sound ch there stands) has

pub returns-in-InChain-clause-damage : goal.returns-in-InChain-clause-damage
returns-in-InChain-clause-damage g c = λ h meets quiet.
    if_error c.remove.result _ _
    (λ f met n is. met_in_chain g.row.D c.args.page (class_of c.args.id) (given c.args.cache.now) (given c.args.cache.now) n refl
    (omega arith) (met n is))
    (c.remove.ensures.damage h (inr quiet))

pub returns-in-InLeaf-clause-sound : goal.returns-in-InLeaf-clause-sound
returns-in-InLeaf-clause-sound g c = λ sound t at s spot.
    at_leaf g.row.D c.args.page (pages c.args.cache.now)
    (λ t. IsPageMap c.remove-in-InLeaf.new.cache)
    c.args.id c.args.spot t at s spot c.in-InLeaf.at c.in-InLeaf.is
    (λ ch there stands at. c.remove-in-InLeaf.ensures.sound sound ch there stands at)

pub returns-in-InLeaf-clause-removed : goal.returns-in-InLeaf-clause-removed
returns-in-InLeaf-clause-removed g c = λ sound t at s spot has.
    at_leaf g.row.D c.args.page (pages c.args.cache.now)
    (λ t. map.contains_key (objects_of t) c.args.id ≡ true
    → OnOk c.remove-in-InLeaf.result (Removes g.row.D (pages c.args.cache.now) (pages c.remove-in-InLeaf.new.cache) t c.args.id))
    c.args.id c.args.spot t at s spot c.in-InLeaf.at c.in-InLeaf.is
    (λ ch there stands at has. on_ok c.remove-in-InLeaf.result
    (tree_less g.row.D (pages c.args.cache.now) (pages c.args.cache.now) (pages c.remove-in-InLeaf.new.cache) refl ch c.args.id)
    (c.remove-in-InLeaf.ensures.removed sound ch there stands at has)) has

pub returns-in-InLeaf-clause-faults : goal.returns-in-InLeaf-clause-faults
returns-in-InLeaf-clause-faults g c = λ sound t at s spot has.
    at_leaf g.row.D c.args.page (pages c.args.cache.now)
    (λ t. map.contains_key (objects_of t) c.args.id ≡ true → IfErr c.remove-in-InLeaf.result IsOfDevice)
    c.args.id c.args.spot t at s spot c.in-InLeaf.at c.in-InLeaf.is
    (λ ch there stands at has. c.remove-in-InLeaf.ensures.faults sound ch there stands at has) has

pub returns-in-InLeaf-clause-tidy : goal.returns-in-InLeaf-clause-tidy
returns-in-InLeaf-clause-tidy g c = λ sound t at s spot has.
    at_leaf g.row.D c.args.page (pages c.args.cache.now)
    (λ t. map.contains_key (objects_of t) c.args.id ≡ true
    → OnOk c.remove-in-InLeaf.result (KeepsTidy g.row.D (kind_of t) (pages c.args.cache.now) (pages c.remove-in-InLeaf.new.cache)))
    c.args.id c.args.spot t at s spot c.in-InLeaf.at c.in-InLeaf.is
    (λ ch there stands at has. c.remove-in-InLeaf.ensures.tidy sound ch there stands at has) has

pub returns-in-InLeaf-clause-damage : goal.returns-in-InLeaf-clause-damage
returns-in-InLeaf-clause-damage g c = λ h meets quiet.
    if_error c.remove-in-InLeaf.result _ _
    (λ f met n is. met_in_tree g.row.D c.args.page (given c.args.cache.now) (given c.args.cache.now) n refl (met n is))
    (c.remove-in-InLeaf.ensures.damage h
    (subst (MeetsSpot g.row.D (given c.args.cache.now) c.args.page) c.in-InLeaf.is meets) quiet)
