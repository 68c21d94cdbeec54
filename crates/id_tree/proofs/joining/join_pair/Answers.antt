-- What both have fits into one page, or it does not.
use Rattle.id_tree.proofs.WorksLemmas.{works_from, works_refused}
use Rattle.node_page.proofs.NodeLemmas.{at_error}
use Rattle.id_tree.proofs.JoinLemmas.{join_same, one_node, spare_from, two_node}
use Rattle.id_tree.proofs.joining.join_pair.Goals as goal

pub returns-in_err-fit-clause-damage : goal.returns-in_err-fit-clause-damage
returns-in_err-fit-clause-damage g c = λ h none.
    at_error c.from_residual.result c.in_err-fit.field-0.0 _
    c.from_residual.ensures.1 (c.in_err-fit.ensures.damage h)

pub returns-then-fit-clause-damage : goal.returns-then-fit-clause-damage
returns-then-fit-clause-damage g c = λ h none. c.make_one.ensures.damage
    (c.in_ok-fit.ensures.asks.gate.honest.0 h) none

pub returns-clause-damage : goal.returns-clause-damage
returns-clause-damage g c = λ h none. c.share.ensures.damage (c.in_ok-fit.ensures.asks.gate.honest.0 h) none

pub returns-then-fit-clause-touched : goal.returns-then-fit-clause-touched
returns-then-fit-clause-touched g c = c.make_one.ensures.touched

pub returns-clause-touched : goal.returns-clause-touched
returns-clause-touched g c = c.share.ensures.touched

pub returns-in_err-fit-clause-joins : goal.returns-in_err-fit-clause-joins
returns-in_err-fit-clause-joins g c = λ map edge row may.
    works_refused c.in_err-fit.field-0.0 c.from_residual.ensures.1 (c.in_err-fit.ensures.asks.map.sound.0 map)
    (c.in_err-fit.ensures.fits map.honest may.pair.at.one may.pair.at.two (one_node may) (two_node may)).faults

pub returns-then-fit-clause-joins : goal.returns-then-fit-clause-joins
returns-then-fit-clause-joins g c = λ map edge row may.
    let asks = c.in_ok-fit.ensures.asks in
    let same = asks.map.pages_stay map.honest in
    let fits = c.in_ok-fit.ensures.fits map.honest may.pair.at.one may.pair.at.two (one_node may) (two_node may) in
    works_from (c.make_one.ensures.joins (asks.map.sound.0 map) c.args.id edge row (join_same may same)
    (fits.found.0 c.if-fit.true))
    same (λ r made. spare_from made same) (λ f why. why)

pub returns-clause-joins : goal.returns-clause-joins
returns-clause-joins g c = λ map edge row may.
    let asks = c.in_ok-fit.ensures.asks in
    let same = asks.map.pages_stay map.honest in
    let fits = c.in_ok-fit.ensures.fits map.honest may.pair.at.one may.pair.at.two (one_node may) (two_node may) in
    works_from (c.share.ensures.shares (asks.map.sound.0 map) edge row (join_same may same)
    (fits.found.1 c.if-fit.false))
    same (λ r out. spare_from out.spare same) (λ f why. why)
