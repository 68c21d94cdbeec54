-- The head and the counts are those of such a fork.
use Rattle.std.proofs.Common.{◌∙◌, sym, refl, arith}
use Rattle.block_bytes.specs.Numbers.{number_at}
use Rattle.block_bytes.specs.PlaceLaws.{length-first_places}
use Rattle.block_bytes.specs.Places.{first_places}
use Rattle.id_page.specs.Fork.{ForkContent, link_at}
use Rattle.id_page.proofs.ForkReading.{fork_spelled, fork_spells}
use Rattle.id_tree.proofs.check.is_fork_of.Goals as goal

pub returns-then-not-has_fork_head-clause-accepts : goal.returns-then-not-has_fork_head-clause-accepts
returns-then-not-has_fork_head-clause-accepts g c = λ links is some large.
    let yes =
    c.has_fork_head.ensures.1
    (fork_spells g.row.D c.args.page.now (record { level = c.args.level; links = links }) is).head in
    absurd (cc)

pub returns-clause-fork : goal.returns-clause-fork
returns-clause-fork g c = λ yes.
    let page = c.args.page.now in
    let count = number_at 2 2 page in
    let links = first_places (link_at page) count in
    let content : ForkContent = record { level = c.args.level; links = links } in
    let head = c.has_fork_head.ensures.0 c.if-not-has_fork_head.false in
    let long = length-first_places (link_at page) count in
    let some = c.are_enough.ensures.some yes in
    record {
      links = links;
      is = fork_spelled g.row.D page content
          (record {
            head = head;
            level_is = sym c.level_at-height.ensures.value
                ∙ c.if-height-level.false;
            links_are = refl;
          });
      some = omega (arith, some, long, c.count_at.ensures.value);
      large = λ off. let large = c.are_enough.ensures.large yes off in
          omega (arith, large, long, c.count_at.ensures.value);
    }

pub returns-clause-accepts : goal.returns-clause-accepts
returns-clause-accepts g c = λ links is some large.
    let count = c.count_at.ensures.of_fork g.row.D (record { level = c.args.level; links = links }) is in
    c.are_enough.ensures.accepts (omega (arith, count, some))
    (λ off. let many = large off in omega (arith, count, many))
