-- Byte 0 of its first page tells the kind of a table.
use Rattle.std.proofs.Common.{rules}
use Rattle.page_cache.specs.Cache.{pages}
use Rattle.id_table.proofs.KindLemmas.{is_chained, is_tree, page_live}
use Rattle.id_table.proofs.kind.kind_at.Goals as goal

pub returns-else-read_u8-eq-FORK_KIND-clause-kind : goal.returns-else-read_u8-eq-FORK_KIND-clause-kind
returns-else-read_u8-eq-FORK_KIND-clause-kind g c = λ h t at s.
    is_chained g.row.D (pages c.args.cache.now) t c.args.page c.in_ok-bytes.bytes.now at s
    (c.in_ok-bytes.ensures.bytes h (page_live g.row.D (pages c.args.cache.now) t c.args.page at s))
    (λ fork. search rules)

pub returns-then-read_u8-eq-FORK_KIND-clause-kind : goal.returns-then-read_u8-eq-FORK_KIND-clause-kind
returns-then-read_u8-eq-FORK_KIND-clause-kind g c = λ h t at s.
    is_tree g.row.D (pages c.args.cache.now) t c.args.page c.in_ok-bytes.bytes.now at s
    (c.in_ok-bytes.ensures.bytes h (page_live g.row.D (pages c.args.cache.now) t c.args.page at s))
    (search rules)
