-- The records written so far, and nothing else.
use Rattle.std.proofs.Common.{map}
use Rattle.catalog_page.specs.Layout.{record_of}
use Rattle.catalog_page.proofs.Writing.{Written}
use Rattle.catalog_page.proofs.page.encode.Given as goal

abbrev pub invariant-loop-place : goal.invariant-loop-place
invariant-loop-place l = Written (map record_of l.layers.items) l.place l.page
