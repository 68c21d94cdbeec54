-- A page of format 1 has its tags cleared, and then its kind changed.
use Rattle.std.proofs.Common.{◌∙◌, ap, arith, inr, subst, sym}
use Rattle.block_bytes.specs.Kinds.{node_kind}
use Rattle.block_bytes.specs.Laws.{number_at-put, number_at-put_other}
use Rattle.block_bytes.specs.Numbers.{number_at}
use Rattle.node_bytes.specs.Layout.{IsTidy, node_at}
use Rattle.node_bytes.proofs.Editing.{kind_of, tags_added}
use Rattle.node_bytes.proofs.TidyLemmas.{tidy_tagged}
use Rattle.node_bytes.proofs.tags.add_tags.Goals as goal

pub returns-then-read_u8-eq-UNTAGGED_NODE_KIND-clause-same : goal.returns-then-read_u8-eq-UNTAGGED_NODE_KIND-clause-same
returns-then-read_u8-eq-UNTAGGED_NODE_KIND-clause-same g c = λ content is.
    ap (node_at g.row.D) c.write_u8.ensures
    ∙ tags_added g.row.D c.args.page.now c.clear_tags.new.page content c.clear_tags.array_long (omega arith)
    c.clear_tags.ensures.cleared c.clear_tags.ensures.others is

pub returns-then-read_u8-eq-UNTAGGED_NODE_KIND-clause-kind : goal.returns-then-read_u8-eq-UNTAGGED_NODE_KIND-clause-kind
returns-then-read_u8-eq-UNTAGGED_NODE_KIND-clause-kind g c = λ content is.
    ap (number_at 1 0) c.write_u8.ensures
    ∙ number_at-put 1 0 node_kind c.clear_tags.new.page (omega (arith, c.clear_tags.array_long))
    (omega arith)

pub returns-then-read_u8-eq-UNTAGGED_NODE_KIND-clause-count : goal.returns-then-read_u8-eq-UNTAGGED_NODE_KIND-clause-count
returns-then-read_u8-eq-UNTAGGED_NODE_KIND-clause-count g c =
    ap (number_at 2 2) c.write_u8.ensures
    ∙ number_at-put_other 2 2 1 0 node_kind c.clear_tags.new.page
    (omega (arith, c.clear_tags.array_long)) (inr (omega arith))
    ∙ c.clear_tags.ensures.others 2 2 (omega arith)

pub returns-else-read_u8-eq-UNTAGGED_NODE_KIND-clause-kind : goal.returns-else-read_u8-eq-UNTAGGED_NODE_KIND-clause-kind
returns-else-read_u8-eq-UNTAGGED_NODE_KIND-clause-kind g c =
    λ content is. kind_of g.row.D c.args.page.now content is
    (λ old. omega (arith, c.if-read_u8-eq-UNTAGGED_NODE_KIND.false, c.read_u8.ensures, old))

pub returns-then-read_u8-eq-UNTAGGED_NODE_KIND-clause-tidy : goal.returns-then-read_u8-eq-UNTAGGED_NODE_KIND-clause-tidy
returns-then-read_u8-eq-UNTAGGED_NODE_KIND-clause-tidy g c = λ tidy.
    subst (IsTidy g.row.D) (sym c.write_u8.ensures)
    (tidy_tagged g.row.D c.args.page.now c.clear_tags.new.page c.clear_tags.array_long (omega arith)
    (number_at-put_other 2 2 1 0 node_kind c.clear_tags.new.page
    (omega (arith, c.clear_tags.array_long)) (inr (omega arith))
    ∙ c.clear_tags.ensures.others 2 2 (omega arith))
    c.clear_tags.ensures.zeros tidy)
