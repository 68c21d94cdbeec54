-- The goals of `header_page` that are proved by hand.
use Rattle.std.proofs.Common.{◌∙◌, ap, sym, subst, arith, rules}
use Rattle.page_file.specs.Layout.{header_block, header_version, IsHeader}
use Rattle.page_file.specs.Reading.{header_reads, version_written}
use Rattle.page_file.proofs.layout.header_page.Goals as goal

pub returns-clause-is : goal.returns-clause-is
unfolding header_block
returns-clause-is c = search rules

pub returns-clause-reads : goal.returns-clause-reads
returns-clause-reads c =
    subst (IsHeader c.args.header.now) (sym (returns-clause-is c))
    (header_reads c.args.header.now (omega arith) (omega arith) (omega arith))

pub returns-clause-version : goal.returns-clause-version
returns-clause-version c = ap header_version (returns-clause-is c) ∙ version_written c.args.header.now
