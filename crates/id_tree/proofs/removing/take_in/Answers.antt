-- The object that was found in the leaf is taken.
use Rattle.id_tree.proofs.ResultLemmas.{if_err}
use Rattle.id_tree.proofs.WorksLemmas.{works_refused}
use Rattle.std.proofs.Common.{refl, subst}
use Rattle.page_cache.specs.Cache.{pages}
use Rattle.page_file.specs.Fault.{IsOfDevice}
use Rattle.node_page.proofs.NodeLemmas.{at_error, on_ok}
use Rattle.id_tree.specs.Rows.{IsFoundAt}
use Rattle.id_tree.specs.Steps.Step.{drops}
use Rattle.id_tree.specs.Tree.{objects_in}
use Rattle.id_tree.proofs.AddLemmas.{becomes_from}
use Rattle.id_tree.proofs.NodeLemmas.{node_there}
use Rattle.id_tree.proofs.PartingLemmas.{some_object}
use Rattle.id_tree.proofs.RemoveLemmas.{leaf_shrinks, shrink_same}
use Rattle.id_tree.proofs.TidyLemmas.{tidy_from}
use Rattle.id_tree.proofs.removing.take_in.Goals as goal

pub returns-in_err-found-clause-damage : goal.returns-in_err-found-clause-damage
returns-in_err-found-clause-damage g c = λ h.
    at_error c.from_residual.result c.in_err-found.field-0.0
    _ c.from_residual.ensures.1
    (c.in_err-found.ensures.damage h)

pub returns-clause-damage : goal.returns-clause-damage
returns-clause-damage g c = λ h. c.take_at.ensures.damage (c.in_ok-found.ensures.asks.gate.honest.0 h)

pub returns-clause-touched : goal.returns-clause-touched
returns-clause-touched g c = c.take_at.ensures.touched

pub returns-in_err-found-clause-removes : goal.returns-in_err-found-clause-removes
returns-in_err-found-clause-removes g c = λ map row may.
    works_refused c.in_err-found.field-0.0 c.from_residual.ensures.1
    (c.in_err-found.ensures.asks.map.sound.0 map)
    (λ there. c.in_err-found.ensures.there map.honest (objects_in row) (may.stands.node.leaf refl))

pub returns-in_default-clause-removes : goal.returns-in_default-clause-removes
returns-in_default-clause-removes g c = λ map row may. record {
  sound = c.in_ok-found.ensures.asks.map.sound.0 map;
  tidy = tt;
  made = tt;
  faults = λ there. absurd (there
      (subst (IsFoundAt c.args.id (objects_in row)) c.in_default.is
      (c.in_ok-found.ensures.found map.honest (objects_in row) (may.stands.node.leaf refl))));
}

pub returns-clause-removes : goal.returns-clause-removes
returns-clause-removes g c = λ map row may.
    let D = g.row.D in
    let page = c.args.page in
    let id = c.args.id in
    let edge = c.args.edge in
    let old = pages c.args.cache.now in
    let mid = pages c.look.new.cache in
    let new = pages c.take_at.new.cache in
    let asks = c.in_ok-found.ensures.asks in
    let same = asks.map.pages_stay map.honest in
    let honest = asks.gate.honest.0 map.honest in
    let may1 = shrink_same D old mid page 0 edge row same may in
    let found = subst (IsFoundAt id (objects_in row)) c.in-Some.is
    (c.in_ok-found.ensures.found map.honest (objects_in row) (may.stands.node.leaf refl)) in
    let live = node_there D mid page 0 row may1.stands.node in
    let leaf = may1.stands.node.leaf refl in
    record {
      sound = c.take_at.ensures.sound (asks.map.sound.0 map) live;
      tidy = tidy_from c.take_at.result D old mid new same
          (c.take_at.ensures.tidy honest (objects_in row) leaf found.within);
      made = on_ok c.take_at.result (λ is. becomes_from D old mid new page 0 edge row id drops same
          (leaf_shrinks D mid new page edge row id c.in-Some.object.0 c.in-Some.object.1 may1 found
          (c.take_at.ensures.others honest live) is))
          (c.take_at.ensures.taken honest (objects_in row) some_object leaf found.within);
      faults = if_err c.take_at.result IsOfDevice _ (λ f why there. why) (c.take_at.ensures.faults honest live);
    }
