-- The journal has all slots of the view.
use Rattle.std.proofs.Common.{◌∙◌, ◌≤◌, length, subst, sym}
use Rattle.block_device.specs.Device.{Blocks}
use Rattle.committed_log.specs.Room.{blocks_of}
use Rattle.titled_pair.specs.Title.{untitled}
use Rattle.journaled_file.proofs.looking.look_at_commit.Given as given
use Rattle.journaled_file.proofs.looking.look_at_commit.Goals as goal
use Rattle.journaled_file.proofs.looking.look_at_commit.Goals.{After-opens_over}

fits : (g : given.Over) (c : After-opens_over g) → g.P.DevicePair.honest c.args.pair
    → length (blocks_of c.in_ok-pair.slots) ≤ length (untitled (g.P.DevicePair.journal c.gate_of.new.pair))
fits g c h =
    subst (λ (b : Blocks). length (blocks_of c.in_ok-pair.slots) ≤ length (untitled b))
    (sym (c.gate_of.ensures.journal (c.in_ok-pair.ensures.honest h))) (c.in_ok-pair.ensures.there h)

pub returns-clause-base : goal.returns-clause-base
returns-clause-base g c = λ h.
    let at = (goal.at.returns-clause-base g c).After-opens_over in
    let h1 = c.in_ok-pair.ensures.honest h in
    c.in_ok-opens.ensures.base (c.gate_of.ensures.honest.0 h1) (fits g at h) ∙ c.gate_of.ensures.base h1
    ∙ c.in_ok-pair.ensures.base h

pub returns-clause-journal : goal.returns-clause-journal
returns-clause-journal g c = λ h.
    let at = (goal.at.returns-clause-journal g c).After-opens_over in
    let h1 = c.in_ok-pair.ensures.honest h in
    c.in_ok-opens.ensures.journal (c.gate_of.ensures.honest.0 h1) (fits g at h) ∙ c.gate_of.ensures.journal h1
    ∙ c.in_ok-pair.ensures.journal h

pub returns-clause-honest : goal.returns-clause-honest
returns-clause-honest g c = λ h.
    let at = (goal.at.returns-clause-honest g c).After-opens_over in
    c.in_ok-opens.ensures.honest (c.gate_of.ensures.honest.0 (c.in_ok-pair.ensures.honest h)) (fits g at h)
