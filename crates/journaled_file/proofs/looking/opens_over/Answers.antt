-- Both files come back as they were, since a view of them commits them and takes nothing.
use Rattle.std.proofs.Common.{◌≡◌, ◌∙◌, ap, rules}
use Rattle.journaled_file.specs.Viewed.{HasSlots, IsHonest}
use Rattle.journaled_file.specs.ViewedLaws.{both_stay}
use Rattle.journaled_file.proofs.looking.opens_over.Given as given
use Rattle.journaled_file.proofs.looking.opens_over.Goals as goal
use Rattle.journaled_file.proofs.looking.opens_over.Goals.{After-into_pair}

stay : (g : given.Over) (c : After-into_pair g) → g.P.DevicePair.honest c.args.pair
    → HasSlots c.args.view (g.P.DevicePair.journal c.args.pair)
    → (g.P.DevicePair.base c.in_ok-opens.device.pair ≡ g.P.DevicePair.base c.of.result.pair)
    × (g.P.DevicePair.journal c.in_ok-opens.device.pair ≡ g.P.DevicePair.journal c.of.result.pair)
stay g c h slots =
    let p = g.P.DevicePair in let d = c.of.result in let e = c.in_ok-opens.device in
    let honest : IsHonest d = search rules in
    both_stay (p.base d.pair) (p.journal d.pair) (p.base e.pair) (p.journal e.pair)
    (c.in_ok-opens.ensures.commits honest)

pub returns-clause-base : goal.returns-clause-base
returns-clause-base g c = λ h slots.
    let p = g.P.DevicePair in
    ap p.base c.into_pair.ensures ∙ (stay g (goal.at.returns-clause-base g c).After-into_pair h slots).0
    ∙ ap p.base c.of.ensures.pair

pub returns-clause-journal : goal.returns-clause-journal
returns-clause-journal g c = λ h slots.
    let p = g.P.DevicePair in
    ap p.journal c.into_pair.ensures ∙ (stay g (goal.at.returns-clause-journal g c).After-into_pair h slots).1
    ∙ ap p.journal c.of.ensures.pair
