-- Where a key is not above the one before it, they do not ascend, and else they do.
use Rattle.std.proofs.Common.{◌-◌, ◌<◌, arith, length}
use Rattle.id_page.proofs.ForkReading.{count_of_fork, key_of_fork, some_link}
use Rattle.id_page.proofs.Order.{all_ascend}
use Rattle.id_page.proofs.fork.are_ascending.Goals as goal

pub returns-then-key_at-clause-accepts : goal.returns-then-key_at-clause-accepts
returns-then-key_at-clause-accepts c = λ dims content is ascending.
    let place = c.loop-place.place in
    let long = count_of_fork dims c.args.page.now content is in
    let within : place < length content.links = omega (arith, long) in
    let less = ascending (place - 1) place some_link (omega arith) (omega arith) within in
    absurd (omega (
      arith,
      less,
      c.key_at.ensures.of_fork dims content some_link is within,
      c.key_at-in-loop-place.ensures.of_fork dims content some_link is (omega (arith, within)),
    ))

pub returns-clause-ascending : goal.returns-clause-ascending
returns-clause-ascending c = λ dims content is holds.
    let page = c.args.page.now in
    let long = count_of_fork dims page content is in
    all_ascend content.links (λ k two within.
    omega (
      arith,
      c.loop-place.invariant k two (omega (arith, long, within)),
      key_of_fork dims page content
          (k - 1) some_link is (omega (arith, within)),
      key_of_fork dims page content k some_link is within,
    ))
