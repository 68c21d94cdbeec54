-- What holds at each turn of the loop.
use Rattle.std.proofs.Common.{◌≡◌, map, take}
use Rattle.catalog_page.specs.Layout.{record_of}
use Rattle.live_layers.proofs.layers.checking.spelled.are_same.Given as goal

-- the records are the same so far
abbrev pub invariant-loop-place : goal.invariant-loop-place
invariant-loop-place l = map record_of (take l.place l.records) ≡ map record_of (take l.place l.others)
