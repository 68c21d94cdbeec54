-- What the closure left of the bytes is what the edit did.
use Rattle.std.proofs.Common.{subst}
use Rattle.node_bytes.specs.Enlarged.{IsBoxed}
use Rattle.node_page.proofs.ReadLemmas.{edits_as}
use Rattle.node_page.proofs.enlarging.edit_box.Goals as goal

pub returns : goal.returns
returns g c =
    let D = g.row.D in
    let place = c.args.place in
    let b = c.args.bounds.now in
    edits_as c.args.page _ (λ was answer now. IsBoxed D place b was now) c.args.cache.now c.edit_node.new.self
    c.edit_node.result
    (λ was now answer ran. subst (λ bytes. IsBoxed D place b bytes now) ran.shows
    (subst (λ bytes. IsBoxed D place b ran.shown.now bytes) ran.leaves ran.met))
    c.edit_node.ensures
