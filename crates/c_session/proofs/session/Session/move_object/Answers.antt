use Rattle.c_session.proofs.Steps.{changed_with}
use Rattle.std.proofs.Common.{sym, ◌∙◌}
use Rattle.c_session.proofs.session.Session.move_object.Goals as goal

pub returns-in-Some-store : goal.returns-in-Some-store
returns-in-Some-store g c =
    changed_with c.args.self.now _ c.move_object.new.self _ _ _ c.move_object.result c.number_of.new.detail
    c.number_of.result (sym c.raw_box.ensures ∙ c.in-Some.is) c.in-Some-store.is c.if-self.false
    c.move_object.ensures.changes c.number_of.ensures.detail c.number_of.ensures.number
