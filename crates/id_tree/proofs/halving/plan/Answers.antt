-- The node that the page spells is the one that is cut.
use Rattle.std.proofs.Common.{◌∙◌, ◌<◌, refl, sym, arith}
use Rattle.page_file.specs.Fault.{IsOfDevice}
use Rattle.page_cache.specs.Cache.{pages}
use Rattle.node_page.proofs.NodeLemmas.{at_error}
use Rattle.id_tree.specs.Tree.{links_of, objects_in}
use Rattle.id_tree.proofs.CutLemmas.{cut_of_leaf, fork_cut, fork_full, leaf_full, sizes}
use Rattle.id_page.proofs.LeafReading.{leaf_spells}
use Rattle.id_tree.proofs.NodeLemmas.{node_there}
use Rattle.id_tree.proofs.TidyLemmas.{bytes_tidy, fork_node, leaf_node, tidy_fork}
use Rattle.id_page.specs.Fork.{ForkContent}
use Rattle.std.specs.Prelude.{take, drop}
use Rattle.id_tree.specs.Halving.{from_key, under_key}
use Rattle.id_tree.proofs.halving.plan.Goals as goal

pub returns-in_err-bytes-clause-there : goal.returns-in_err-bytes-clause-there
returns-in_err-bytes-clause-there g c = λ h row may.
    at_error c.from_residual.result c.in_err-bytes.field-0.0 IsOfDevice c.from_residual.ensures.1
    (c.in_err-bytes.ensures.there h
    (node_there g.row.D (pages c.args.cache.now) c.args.page c.args.level row may.stands.node))

pub returns-then-count-eq0-clause-there : goal.returns-then-count-eq0-clause-there
returns-then-count-eq0-clause-there g c = λ h row may.
    let D = g.row.D in
    let old = pages c.args.cache.now in
    let there = c.in_ok-bytes.ensures.bytes h (node_there D old c.args.page c.args.level row may.stands.node)
    in
    let full = leaf_full D old c.args.page c.args.level c.args.edge row c.in_ok-bytes.bytes
    c.if-level-eq0.true may there in
    let size = sizes D (leaf_spells D c.in_ok-bytes.bytes (objects_in row) full.0).head.axes in
    absurd (omega (arith, c.if-count-eq0.true, c.count_at-count.ensures.value, full.1, size.half))

pub returns-then-count-objects_that_fit-clause-there : goal.returns-then-count-objects_that_fit-clause-there
returns-then-count-objects_that_fit-clause-there g c = λ h row may.
    let old = pages c.args.cache.now in
    let there =
    c.in_ok-bytes.ensures.bytes h (node_there g.row.D old c.args.page c.args.level row may.stands.node) in
    let full = leaf_full g.row.D old c.args.page c.args.level c.args.edge row c.in_ok-bytes.bytes
    c.if-level-eq0.true may there in
    absurd (c.if-count-objects_that_fit.true
    (c.count_at-count.ensures.value ∙ full.1 ∙ sym c.objects_that_fit.ensures))

pub returns-then-level-eq0-clause-cuts : goal.returns-then-level-eq0-clause-cuts
returns-then-level-eq0-clause-cuts g c = λ h row may.
    let old = pages c.args.cache.now in
    let there =
    c.in_ok-bytes.ensures.bytes h (node_there g.row.D old c.args.page c.args.level row may.stands.node) in
    let full = leaf_full g.row.D old c.args.page c.args.level c.args.edge row c.in_ok-bytes.bytes
    c.if-level-eq0.true may there in
    cut_of_leaf g.row.D old c.args.level c.args.edge row c.cut_leaf.result.key c.cut_leaf.result.first
    c.cut_leaf.result.second c.if-level-eq0.true may.stands.below
    (c.cut_leaf.ensures.cuts (objects_in row) full.0 may.single)

pub returns-then-count-ne-MOST_CHILDREN-clause-there : goal.returns-then-count-ne-MOST_CHILDREN-clause-there
returns-then-count-ne-MOST_CHILDREN-clause-there g c = λ h row may.
    let old = pages c.args.cache.now in
    let high : 0 < c.args.level = omega (arith, c.if-level-eq0.false) in
    let there =
    c.in_ok-bytes.ensures.bytes h (node_there g.row.D old c.args.page c.args.level row may.stands.node) in
    let full = fork_full g.row.D old c.args.page c.args.level c.args.edge row c.in_ok-bytes.bytes high may
    there in
    absurd (c.if-count-ne-MOST_CHILDREN.true (c.count_at-count.ensures.value ∙ full.1))

pub returns-clause-cuts : goal.returns-clause-cuts
returns-clause-cuts g c = λ h row may.
    let old = pages c.args.cache.now in
    let high : 0 < c.args.level = omega (arith, c.if-level-eq0.false) in
    let there =
    c.in_ok-bytes.ensures.bytes h (node_there g.row.D old c.args.page c.args.level row may.stands.node) in
    let full = fork_full g.row.D old c.args.page c.args.level c.args.edge row c.in_ok-bytes.bytes high may
    there in
    fork_cut g.row.D old c.args.level c.args.edge row c.cut_fork.result.key c.cut_fork.result.first
    c.cut_fork.result.second high may.stands.below may.stands.parted may.stands.filled
    (c.cut_fork.ensures.cuts g.row.D (record { level = c.args.level; links = links_of row }) full.0 refl)

pub returns-then-level-eq0-clause-tidy : goal.returns-then-level-eq0-clause-tidy
returns-then-level-eq0-clause-tidy g c = λ h row may.
    let D = g.row.D in
    let old = pages c.args.cache.now in
    let there = c.in_ok-bytes.ensures.bytes h (node_there D old c.args.page c.args.level row may.stands.node)
    in
    let full = leaf_full D old c.args.page c.args.level c.args.edge row c.in_ok-bytes.bytes
    c.if-level-eq0.true may there in
    let cuts = c.cut_leaf.ensures.cuts (objects_in row) full.0 may.single in
    let cut = c.cut_leaf.result in
    record {
      first = λ tidy. leaf_node D cut.first (under_key cut.key (objects_in row)) cuts.under
          c.cut_leaf.ensures.tidy_first;
      second = λ tidy. leaf_node D cut.second (from_key cut.key (objects_in row)) cuts.from
          c.cut_leaf.ensures.tidy_second;
    }

pub returns-clause-tidy : goal.returns-clause-tidy
returns-clause-tidy g c = λ h row may.
    let D = g.row.D in
    let old = pages c.args.cache.now in
    let high : 0 < c.args.level = omega (arith, c.if-level-eq0.false) in
    let there = c.in_ok-bytes.ensures.bytes h (node_there D old c.args.page c.args.level row may.stands.node)
    in
    let full = fork_full D old c.args.page c.args.level c.args.edge row c.in_ok-bytes.bytes high may there in
    let content : ForkContent = record { level = c.args.level; links = links_of row } in
    let cuts = c.cut_fork.ensures.cuts g.row.D content full.0 refl in
    let cut = c.cut_fork.result in
    record {
      first = λ tidy. fork_node D cut.first
          (record { level = c.args.level; links = take cuts.many (links_of row) }) cuts.upto
          (c.cut_fork.ensures.tidy_first (tidy_fork D c.in_ok-bytes.bytes content full.0
          (bytes_tidy D old c.args.page c.in_ok-bytes.bytes there tidy)));
      second = λ tidy. fork_node D cut.second
          (record { level = c.args.level; links = drop cuts.many (links_of row) })
          cuts.beyond c.cut_fork.ensures.tidy_second;
    }

pub returns-in_err-bytes-clause-damage : goal.returns-in_err-bytes-clause-damage
returns-in_err-bytes-clause-damage g c = λ h.
    at_error c.from_residual.result c.in_err-bytes.field-0.0 _
    c.from_residual.ensures.1 (c.in_err-bytes.ensures.damage h)
