-- The length and the bytes written so far, and nothing else.
use Rattle.catalog_page.proofs.Writing.{NameWritten}
use Rattle.catalog_page.proofs.names.write_name.Given as goal

abbrev pub invariant-loop-k : goal.invariant-loop-k
invariant-loop-k l = NameWritten l.k l.at l.name.items l.fn.page l.page
