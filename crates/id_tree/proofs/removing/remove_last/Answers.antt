-- The root is one without children, and the leaf is freed.
use Rattle.id_tree.proofs.WorksLemmas.{works_from, works_refused}
use Rattle.std.proofs.Common.{refl, subst, [], ◌≡◌, inl, inr}
use Rattle.page_cache.specs.Cache.{pages}
use Rattle.node_page.proofs.NodeLemmas.{at_error}
use Rattle.id_tree.specs.Rows.{IsFoundAt}
use Rattle.id_tree.specs.Tree.{objects_in}
use Rattle.id_tree.proofs.RemoveLemmas.{has_only, leaf_stands, may_free_only, only_same, removes_from}
use Rattle.id_tree.proofs.RemoveLemmas.{only_has, has_found, removes_last}
use Rattle.id_tree.proofs.TidyLemmas.{fork_node}
use Rattle.page_file.specs.declared.fault.Fault.TheVariants as fault
use Rattle.node_page.proofs.DamageLemmas.{damaged_read}
use Rattle.id_tree.proofs.DamageLemmas.{damaged_is}
use Rattle.id_tree.proofs.ResultLemmas.{if_err}
use Rattle.id_tree.proofs.removing.remove_last.Goals as goal

pub returns-in_err-found-clause-damage : goal.returns-in_err-found-clause-damage
returns-in_err-found-clause-damage g c = λ h none.
    at_error c.from_residual.result c.in_err-found.field-0.0
    _ c.from_residual.ensures.1
    (λ n damaged. inl
    (damaged_read c.in_err-found.field-0.0 c.args.leaf n (c.in_err-found.ensures.damage h) damaged))

pub returns-in_default-clause-damage : goal.returns-in_default-clause-damage
returns-in_default-clause-damage g c = λ h none n (damaged : fault.Damaged c.args.leaf ≡ fault.Damaged n). inl
    (damaged_is c.args.leaf n damaged)

pub returns-clause-damage : goal.returns-clause-damage
returns-clause-damage g c = λ h none.
    if_err c.put_and_free.result _ _
    (λ f either n damaged. inr (damaged_read f c.args.root n either damaged))
    (c.put_and_free.ensures.damage (c.in_ok-found.ensures.asks.gate.honest.0 h) none)

pub returns-in_err-found-clause-removes : goal.returns-in_err-found-clause-removes
returns-in_err-found-clause-removes g c = λ map t at only few.
    works_refused c.in_err-found.field-0.0 c.from_residual.ensures.1
    (c.in_err-found.ensures.asks.map.sound.0 map)
    (λ there. c.in_err-found.ensures.there map.honest (objects_in only.below)
    ((leaf_stands g.row.D (pages c.args.cache.now) t c.args.root c.args.leaf c.args.id at only).node.leaf
    refl))

pub returns-in_default-clause-removes : goal.returns-in_default-clause-removes
returns-in_default-clause-removes g c = λ map t at only few.
    let old = pages c.args.cache.now in
    let stands = leaf_stands g.row.D old t c.args.root c.args.leaf c.args.id at only in
    record {
      sound = c.in_ok-found.ensures.asks.map.sound.0 map;
      tidy = tt;
      made = tt;
      faults = λ there. absurd (has_only g.row.D old t c.args.root c.args.leaf c.args.id at only there
          (subst (IsFoundAt c.args.id (objects_in only.below)) c.in_default.is
          (c.in_ok-found.ensures.found map.honest (objects_in only.below) (stands.node.leaf refl))));
    }

pub returns-clause-removes : goal.returns-clause-removes
returns-clause-removes g c = λ map t at only few.
    let D = g.row.D in
    let root = c.args.root in
    let leaf = c.args.leaf in
    let id = c.args.id in
    let old = pages c.args.cache.now in
    let mid = pages c.look.new.cache in
    let new = pages c.put_and_free.new.cache in
    let asks = c.in_ok-found.ensures.asks in
    let same = asks.map.pages_stay map.honest in
    let one = only_same D old mid t leaf same only in
    let stands = leaf_stands D old t root leaf id at only in
    let found = subst (IsFoundAt id (objects_in only.below)) c.in-Some.is
    (c.in_ok-found.ensures.found map.honest (objects_in only.below) (stands.node.leaf refl)) in
    let there = only_has D old t root leaf id at only (has_found id only.below _ _ found) in
    let empty = c.no_child.result in
    works_from (c.put_and_free.ensures.puts (asks.map.sound.0 map)
    (may_free_only D mid t root leaf id at one) D (λ tidy. fork_node D empty (record { level = 1; links = [] })
    c.no_child.ensures.spelled c.no_child.ensures.tidy)) same
    (λ u puts. removes_from D old mid new t id same
    (removes_last D mid t root leaf id at one new empty c.no_child.ensures.spelled puts there few))
    (λ f why there. why)
