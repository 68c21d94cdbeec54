-- The head and the counts are those of a root.
use Rattle.std.proofs.Common.{sym, refl, arith}
use Rattle.block_bytes.specs.Numbers.{number_at}
use Rattle.block_bytes.specs.PlaceLaws.{length-first_places}
use Rattle.block_bytes.specs.Places.{first_places}
use Rattle.id_page.specs.Fork.{ForkContent, link_at}
use Rattle.id_page.proofs.ForkReading.{fork_spelled, fork_spells}
use Rattle.id_tree.proofs.check.is_root.Goals as goal

pub returns-then-not-has_fork_head-clause-accepts : goal.returns-then-not-has_fork_head-clause-accepts
returns-then-not-has_fork_head-clause-accepts g c = λ content is bounded wide.
    let yes = c.has_fork_head.ensures.1 (fork_spells g.row.D c.args.page.now content is).head in
    absurd (cc)

pub returns-then-level-eq1-clause-root : goal.returns-then-level-eq1-clause-root
returns-then-level-eq1-clause-root g c = λ yes.
    let page = c.args.page.now in
    let count = number_at 2 2 page in
    let content : ForkContent =
    record { level = number_at 1 4 page; links = first_places (link_at page) count } in
    let head = c.has_fork_head.ensures.0 c.if-not-has_fork_head.false in
    record {
      links = first_places (link_at page) count;
      is = fork_spelled g.row.D page content (record { head = head; level_is = refl; links_are = refl });
      count_is = sym (length-first_places (link_at page) count);
      high = omega (arith, head.high);
      bounded = omega (arith, c.level_at-level.ensures.value, c.if-level-gt-MOST_LEVELS.false);
      wide = λ two. absurd (omega (arith, two, c.level_at-level.ensures.value, c.if-level-eq1.true));
    }

pub returns-clause-root : goal.returns-clause-root
returns-clause-root g c = λ yes.
    let page = c.args.page.now in
    let count = number_at 2 2 page in
    let content : ForkContent =
    record { level = number_at 1 4 page; links = first_places (link_at page) count } in
    let head = c.has_fork_head.ensures.0 c.if-not-has_fork_head.false in
    record {
      links = first_places (link_at page) count;
      is = fork_spelled g.row.D page content (record { head = head; level_is = refl; links_are = refl });
      count_is = sym (length-first_places (link_at page) count);
      high = omega (arith, head.high);
      bounded = omega (arith, c.level_at-level.ensures.value, c.if-level-gt-MOST_LEVELS.false);
      wide = λ two. omega (arith, c.count_at-count.ensures.value, c.if-count-lt2.false);
    }
