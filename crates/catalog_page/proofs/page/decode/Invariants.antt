-- The records read so far.
use Rattle.std.proofs.Common.{◌≡◌, All, length, map}
use Rattle.catalog_page.specs.Layout.{HasName, record_of, first_records}
use Rattle.catalog_page.proofs.page.decode.Given as goal

abbrev pub invariant-loop-place : goal.invariant-loop-place
invariant-loop-place l = record {
  read : map record_of l.layers.items ≡ first_records l.page l.place;
  many : length l.layers.items ≡ l.place;
  named : All HasName (first_records l.page l.place);
}
