-- The object that was found in the leaf.
use Rattle.std.proofs.Common.{subst}
use Rattle.id_tree.specs.Rows.{IsFoundAt}
use Rattle.id_tree.proofs.search.seek_in.Goals as goal

pub returns-in-Ok-Some-clause-found : goal.returns-in-Ok-Some-clause-found
returns-in-Ok-Some-clause-found g c = λ h objects is.
    subst (IsFoundAt c.args.id objects) c.in-Ok-Some.field-0-is (c.in-Ok-Some.ensures.found h objects is)
