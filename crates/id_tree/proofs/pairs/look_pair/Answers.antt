-- The pages and the key in the fork are those of two children next to one another.
use Rattle.std.proofs.Common.{◌∙◌, ap, arith, ◌+◌, ◌<◌, length, sym}
use Rattle.page_file.specs.Fault.{IsOfDevice}
use Rattle.page_cache.specs.Cache.{pages, given}
use Rattle.node_page.proofs.NodeLemmas.{at_error}
use Rattle.id_page.specs.Fork.{ForkContent, Link}
use Rattle.id_page.proofs.ForkReading.{count_of_fork, fork_spells, some_link}
use Rattle.id_tree.specs.Tree.{links_of}
use Rattle.id_tree.proofs.NodeLemmas.{fork_bytes, node_there}
use Rattle.id_tree.proofs.PairLemmas.{first_link, is_pair, pair_in, pair_last, pair_long, second_link}
use Rattle.id_tree.proofs.pairs.look_pair.Goals as goal

pub returns-in_err-fork-clause-there : goal.returns-in_err-fork-clause-there
returns-in_err-fork-clause-there g c = λ h level id child place row may beside.
    at_error c.from_residual.result c.in_err-fork.field-0.0 IsOfDevice c.from_residual.ensures.1
    (c.in_err-fork.ensures.there h
    (node_there g.row.D (pages c.args.cache.now) c.args.page level row may.stands.node))

pub returns-then-count-gt-MOST_CHILDREN-clause-there : goal.returns-then-count-gt-MOST_CHILDREN-clause-there
returns-then-count-gt-MOST_CHILDREN-clause-there g c = λ h level id child place row may beside.
    let old = pages c.args.cache.now in
    let content : ForkContent = record { level = level; links = links_of row } in
    let is = fork_bytes g.row.D (old c.args.page) c.in_ok-fork.fork content
    (c.in_ok-fork.ensures.bytes h (node_there g.row.D old c.args.page level row may.stands.node))
    (may.stands.node.fork may.high) in
    absurd (omega (
      arith,
      (fork_spells g.row.D c.in_ok-fork.fork content is).head.few,
      c.count_at-count.ensures.value,
      c.if-count-gt-MOST_CHILDREN.true,
    ))

pub returns-then-count-lt2-clause-there : goal.returns-then-count-lt2-clause-there
returns-then-count-lt2-clause-there g c = λ h level id child place row may beside.
    let old = pages c.args.cache.now in
    let content : ForkContent = record { level = level; links = links_of row } in
    let is = fork_bytes g.row.D (old c.args.page) c.in_ok-fork.fork content
    (c.in_ok-fork.ensures.bytes h (node_there g.row.D old c.args.page level row may.stands.node))
    (may.stands.node.fork may.high) in
    absurd (omega (
      arith,
      count_of_fork g.row.D c.in_ok-fork.fork content is,
      may.wide,
      c.count_at-count.ensures.value,
      c.if-count-lt2.true,
    ))

pub returns-then-left-count-clause-there : goal.returns-then-left-count-clause-there
returns-then-left-count-clause-there g c = λ h level id child place row may beside.
    let old = pages c.args.cache.now in
    let content : ForkContent = record { level = level; links = links_of row } in
    let is = fork_bytes g.row.D (old c.args.page) c.in_ok-fork.fork content
    (c.in_ok-fork.ensures.bytes h (node_there g.row.D old c.args.page level row may.stands.node))
    (may.stands.node.fork may.high) in
    absurd (omega (
      arith,
      count_of_fork g.row.D c.in_ok-fork.fork content is,
      beside.within,
      c.count_at-count.ensures.value,
      c.if-left-count.true,
    ))

pub returns-clause-pair : goal.returns-clause-pair
returns-clause-pair g c = λ h level id child place row may beside.
    let D = g.row.D in
    let edge = c.args.edge in
    let old = pages c.args.cache.now in
    let fork = c.in_ok-fork.fork in
    let left = c.args.left in
    let content : ForkContent = record { level = level; links = links_of row } in
    let is = fork_bytes D (old c.args.page) fork content
    (c.in_ok-fork.ensures.bytes h (node_there D old c.args.page level row may.stands.node))
    (may.stands.node.fork may.high) in
    let pair = pair_in D old c.args.page level edge row id child place left may beside in
    let long = pair_long D old c.args.page level edge row id pair.first pair.second may.high may.stands
    pair.at in
    let first = first_link D old c.args.page level edge row id pair.first pair.second may.high may.stands
    pair.at left some_link pair.left_is in
    let second = second_link D old c.args.page level edge row id pair.first pair.second may.high may.stands
    pair.at left some_link pair.left_is in
    let count = c.count_at-count.ensures.value ∙ count_of_fork D fork content is in
    is_pair D level edge row id fork left c.page_at-first.result c.page_at-second.result c.key_at-key.result
    c.is_last-last.result pair is
    (c.page_at-first.ensures.of_fork D content some_link is (omega (arith, long, pair.left_is))
    ∙ ap (λ (l : Link). l.1) first)
    (c.page_at-second.ensures.of_fork D content some_link is (omega (arith, long, pair.left_is))
    ∙ ap (λ (l : Link). l.1) second)
    (c.key_at-key.ensures.of_fork D content some_link is (omega (arith, long, pair.left_is))
    ∙ ap (λ (l : Link). l.0) second)
    (c.is_last-last.ensures ∙ pair_last D old c.args.page level edge row id pair.first pair.second may.high
    may.stands pair.at left c.count_at-count.result pair.left_is count)

pub returns-in_err-fork-clause-damage : goal.returns-in_err-fork-clause-damage
returns-in_err-fork-clause-damage g c = λ h.
    at_error c.from_residual.result c.in_err-fork.field-0.0
    _ c.from_residual.ensures.1
    (c.in_err-fork.ensures.damage h)

pub returns-clause-names : goal.returns-clause-names
returns-clause-names g c = λ h content there.
    let D = g.row.D in
    let is = fork_bytes D (given c.args.cache.now c.args.page) c.in_ok-fork.fork content
    (c.in_ok-fork.ensures.given_bytes h) there in
    let left = c.args.left in
    let count = c.count_at-count.ensures.of_fork D content is in
    let within : left + 1 < length content.links =
    omega (arith, count, c.if-count-lt2.false, c.if-left-count.false) in (
      (
        left,
        omega (arith, within),
        λ other. sym
            (c.page_at-first.ensures.of_fork D content other is (omega (arith, within))),
      ),
      (left + 1, within, λ other. sym (c.page_at-second.ensures.of_fork D content other is within)),
    )
