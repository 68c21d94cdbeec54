-- The leaf of the object is the only child.
use Rattle.id_tree.proofs.WorksLemmas.{works_handed}
use Rattle.id_tree.proofs.TidyLemmas.{leaf_node}
use Rattle.std.proofs.Common.{◌∷◌, []}
use Rattle.node_page.proofs.NodeLemmas.{at_error}
use Rattle.id_tree.proofs.rooting.start.Goals as goal

pub returns-in_err-name_new-clause-damage : goal.returns-in_err-name_new-clause-damage
returns-in_err-name_new-clause-damage g c = λ h none.
    at_error c.from_residual.result c.in_err-name_new.field-0.0 _
    c.from_residual.ensures.1 (c.in_err-name_new.ensures.damage h none)

pub returns-in_err-name_new-clause-starts : goal.returns-in_err-name_new-clause-starts
returns-in_err-name_new-clause-starts g c = λ map live.
    works_handed (c.in_err-name_new.ensures.names map live
    (λ tidy. leaf_node g.row.D c.leaf_of-leaf.result (c.args.object.now ∷ []) c.leaf_of-leaf.ensures.spelled
    c.leaf_of-leaf.ensures.tidy))
    c.from_residual.ensures.1 (λ why. why)

pub returns-clause-starts : goal.returns-clause-starts
returns-clause-starts g c = λ map live.
    let w = c.in_ok-name_new.ensures.names map live
    (λ tidy. leaf_node g.row.D c.leaf_of-leaf.result (c.args.object.now ∷ []) c.leaf_of-leaf.ensures.spelled
    c.leaf_of-leaf.ensures.tidy) in
    record {
      sound = w.sound;
      tidy = w.tidy;
      made = record {
        number = c.in_ok-name_new.field-0;
        bytes = c.leaf_of-leaf.result;
        named = w.made;
        leaf = c.leaf_of-leaf.ensures.spelled;
      };
      faults = tt;
    }
