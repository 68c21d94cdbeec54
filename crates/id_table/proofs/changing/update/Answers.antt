-- An object of a table of its kind gets another box.
use Rattle.std.proofs.Common.{◌≡◌, IfErr, OnOk, Some, true, arith, refl, subst}
use Rattle.std.specs.FinMap as map
use Rattle.box_math.specs.Objects.{Object, tag_of}
use Rattle.page_file.specs.Fault.{IsOfDevice}
use Rattle.page_cache.specs.Cache.{IsPageMap, given, pages}
use Rattle.node_page.proofs.NodeLemmas.{if_error}
use Rattle.id_words.specs.Objects.{with_box}
use Rattle.id_chains.specs.Table.{class_of}
use Rattle.id_table.specs.Changes.{KeepsTidy, Sets}
use Rattle.id_table.specs.Checked.{MeetsSpot}
use Rattle.id_table.specs.Table.{kind_of, objects_of}
use Rattle.id_table.proofs.StepLemmas.{at_chain, at_leaf, chains_set, met_in_chain, met_in_tree, on_ok, tree_set}
use Rattle.id_table.proofs.changing.update.Goals as goal

pub returns-in-InChain-clause-sound : goal.returns-in-InChain-clause-sound
returns-in-InChain-clause-sound g c = λ sound t at s spot.
    at_chain g.row.D c.args.page (pages c.args.cache.now)
    (λ t. IsPageMap c.update.new.cache)
    c.args.id c.args.spot t at s spot c.in-InChain.is
    (λ ch there stands. c.update.ensures.sound sound ch there stands)

pub returns-in-InChain-clause-updated : goal.returns-in-InChain-clause-updated
returns-in-InChain-clause-updated g c = λ sound t at s spot kept is tag.
    at_chain g.row.D c.args.page (pages c.args.cache.now)
    (λ t. (kept : Object) → map.get (objects_of t) c.args.id ≡ Some kept → c.args.tag ≡ tag_of kept
    → OnOk c.update.result (Sets g.row.D (pages c.args.cache.now) (pages c.update.new.cache) t c.args.id (with_box kept c.args.bounds.now)))
    c.args.id c.args.spot t at s spot c.in-InChain.is
    (λ ch there stands kept is tag. on_ok c.update.result
    (chains_set g.row.D (pages c.args.cache.now) (pages c.args.cache.now) (pages c.update.new.cache) refl ch c.args.id
    (with_box kept c.args.bounds.now)) (c.update.ensures.updated sound ch there stands kept is)) kept is tag

pub returns-in-InChain-clause-faults : goal.returns-in-InChain-clause-faults
returns-in-InChain-clause-faults g c = λ sound t at s spot has.
    at_chain g.row.D c.args.page (pages c.args.cache.now)
    (λ t. map.contains_key (objects_of t) c.args.id ≡ true → IfErr c.update.result IsOfDevice)
    c.args.id c.args.spot t at s spot c.in-InChain.is
    (λ ch there stands has. c.update.ensures.faults sound ch there stands has) has

pub returns-in-InChain-clause-tidy : goal.returns-in-InChain-clause-tidy
returns-in-InChain-clause-tidy g c = λ sound t at s spot has.
    at_chain g.row.D c.args.page (pages c.args.cache.now)
    (λ t. map.contains_key (objects_of t) c.args.id ≡ true
    → OnOk c.update.result (KeepsTidy g.row.D (kind_of t) (pages c.args.cache.now) (pages c.update.new.cache)))
    c.args.id c.args.spot t at s spot c.in-InChain.is
    (λ ch there stands has. c.update.ensures.tidy sound ch there stands) has

pub returns-in-InChain-clause-damage : goal.returns-in-InChain-clause-damage
returns-in-InChain-clause-damage g c = λ h meets.
    if_error c.update.result _ _
    (λ f met n is. met_in_chain g.row.D c.args.page (class_of c.args.id) (given c.args.cache.now) (given c.args.cache.now) n refl
    (omega arith) (met n is))
    (c.update.ensures.damage h)

pub returns-in-InLeaf-clause-sound : goal.returns-in-InLeaf-clause-sound
returns-in-InLeaf-clause-sound g c = λ sound t at s spot.
    at_leaf g.row.D c.args.page (pages c.args.cache.now)
    (λ t. IsPageMap c.update-in-InLeaf.new.cache)
    c.args.id c.args.spot t at s spot c.in-InLeaf.at c.in-InLeaf.is
    (λ ch there stands at. c.update-in-InLeaf.ensures.sound sound ch there stands at)

pub returns-in-InLeaf-clause-updated : goal.returns-in-InLeaf-clause-updated
returns-in-InLeaf-clause-updated g c = λ sound t at s spot kept is tag.
    at_leaf g.row.D c.args.page (pages c.args.cache.now)
    (λ t. (kept : Object) → map.get (objects_of t) c.args.id ≡ Some kept → c.args.tag ≡ tag_of kept
    → OnOk c.update-in-InLeaf.result (Sets g.row.D (pages c.args.cache.now) (pages c.update-in-InLeaf.new.cache) t c.args.id (with_box kept c.args.bounds.now)))
    c.args.id c.args.spot t at s spot c.in-InLeaf.at c.in-InLeaf.is
    (λ ch there stands at kept is tag. on_ok c.update-in-InLeaf.result
    (tree_set g.row.D (pages c.args.cache.now) (pages c.args.cache.now) (pages c.update-in-InLeaf.new.cache) refl ch c.args.id
    (with_box kept c.args.bounds.now)) (c.update-in-InLeaf.ensures.updated sound ch there stands at kept is tag)) kept is tag

pub returns-in-InLeaf-clause-faults : goal.returns-in-InLeaf-clause-faults
returns-in-InLeaf-clause-faults g c = λ sound t at s spot has.
    at_leaf g.row.D c.args.page (pages c.args.cache.now)
    (λ t. map.contains_key (objects_of t) c.args.id ≡ true → IfErr c.update-in-InLeaf.result IsOfDevice)
    c.args.id c.args.spot t at s spot c.in-InLeaf.at c.in-InLeaf.is
    (λ ch there stands at has. c.update-in-InLeaf.ensures.faults sound ch there stands at has) has

pub returns-in-InLeaf-clause-tidy : goal.returns-in-InLeaf-clause-tidy
returns-in-InLeaf-clause-tidy g c = λ sound t at s spot has.
    at_leaf g.row.D c.args.page (pages c.args.cache.now)
    (λ t. map.contains_key (objects_of t) c.args.id ≡ true
    → OnOk c.update-in-InLeaf.result (KeepsTidy g.row.D (kind_of t) (pages c.args.cache.now) (pages c.update-in-InLeaf.new.cache)))
    c.args.id c.args.spot t at s spot c.in-InLeaf.at c.in-InLeaf.is
    (λ ch there stands at has. c.update-in-InLeaf.ensures.tidy sound ch there stands at has) has

pub returns-in-InLeaf-clause-damage : goal.returns-in-InLeaf-clause-damage
returns-in-InLeaf-clause-damage g c = λ h meets.
    if_error c.update-in-InLeaf.result _ _
    (λ f met n is. met_in_tree g.row.D c.args.page (given c.args.cache.now) (given c.args.cache.now) n refl (met n is))
    (c.update-in-InLeaf.ensures.damage h
    (subst (MeetsSpot g.row.D (given c.args.cache.now) c.args.page) c.in-InLeaf.is meets))
