-- One place is left, between a key that is not greater and one that is.
use Rattle.std.proofs.Common.{◌≡◌, ◌∙◌, ◌+◌, Some, ap, arith, length, ◌<◌}
use Rattle.std.proofs.lemmas.List.{get_or_default}
use Rattle.id_page.specs.Fork.{Link}
use Rattle.id_page.proofs.ForkReading.{count_of_fork, from_key, some_link, upto_key}
use Rattle.id_page.proofs.Ways.{child_found, place_found}
use Rattle.id_page.proofs.fork.place_of_child.Goals as goal

pub returns-clause-place : goal.returns-clause-place
returns-clause-place c = λ dims content is ascending.
    let last = c.halves.invariant in
    let low = c.halves.low in
    let high = c.halves.high in
    let page = c.args.page.now in
    let one : high ≡ low + 1 = omega (arith, last.some) in
    place_found c.args.id content.links ascending low
    (omega (arith, last.within, one, count_of_fork dims page content is))
    (from_key dims page content is c.args.id low high one last.within last.from)
    (upto_key dims page content is c.args.id low high one last.within last.upto)

pub returns-clause-route : goal.returns-clause-route
returns-clause-route c = λ dims content other is ascending.
    let last = c.halves.invariant in
    let low = c.halves.low in
    let high = c.halves.high in
    let page = c.args.page.now in
    let one : high ≡ low + 1 = omega (arith, last.some) in
    let within : low < length content.links = omega
    (arith, last.within, one, count_of_fork dims page content is) in
    child_found c.args.id content.links ascending low within
    (from_key dims page content is c.args.id low high one last.within last.from)
    (upto_key dims page content is c.args.id low high one last.within last.upto)
    ∙ ap (λ (x : Link). Some x.1) (get_or_default content.links low some_link other within)
