-- The bytes read so far.
use Rattle.std.proofs.Common.{◌≡◌, ◌+◌, length}
use Rattle.catalog_page.specs.Layout.{bytes_at}
use Rattle.catalog_page.proofs.names.read_name.Given as goal

abbrev pub invariant-loop-k : goal.invariant-loop-k
invariant-loop-k l =
    record { read : l.name.items ≡ bytes_at l.k (l.at + 1) l.page; many : length l.name.items ≡ l.k }
