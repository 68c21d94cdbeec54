-- The goals of `PageCache::node_page` that are proved by hand.
use Rattle.std.proofs.Common.{rules, refl}
use Rattle.page_cache.proofs.Reading.{lent, not_lent, spells_none}
use Rattle.page_cache.proofs.cache.PageCache.node_page.Goals as goal

pub returns-in_err-look : goal.returns-in_err-look
returns-in_err-look g c = (
  (
    refl,
    λ k. tt,
    not_lent _ _ _ c.in_err-look.field-0.0 c.from_residual.result c.from_residual.ensures.1
        c.in_err-look.ensures.looked_at c.in_err-look.ensures.faults,
  ),
  record {
    read_at = tt;
    bytes = search rules;
    given_bytes = search rules;
    spells = search rules;
    held = search rules;
    outside = search rules;
    there = search rules;
    faults = search rules;
    other_faults = search rules;
  },
)

pub returns-then-not-is_node : goal.returns-then-not-is_node
returns-then-not-is_node g c = (
  (
    refl,
    λ k. tt,
    spells_none _ _ _ _ _ c.in_ok-look.ensures.looked_at c.is_node.ensures.kept c.is_node.ensures.file
        c.is_node.ensures.held,
  ),
  record {
    read_at = tt;
    bytes = search rules;
    given_bytes = search rules;
    spells = search rules;
    held = search rules;
    outside = search rules;
    there = search rules;
    faults = search rules;
    other_faults = search rules;
  },
)

pub returns : goal.returns
returns g c = (
  (
    refl,
    λ k. tt,
    lent _ _ _ _ _ c.in_ok-look.ensures.looked_at c.is_node.ensures.kept c.is_node.ensures.file _
        (c.is_node.ensures.holds c.args.n) c.is_node.ensures.held,
  ),
  record {
    read_at = tt;
    bytes = search rules;
    given_bytes = search rules;
    spells = search rules;
    held = search rules;
    outside = search rules;
    there = search rules;
    faults = search rules;
    other_faults = search rules;
  },
)
