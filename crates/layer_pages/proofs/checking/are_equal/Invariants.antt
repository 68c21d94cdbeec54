-- What holds at each turn of the loop.
use Rattle.std.proofs.Common.{◌≡◌, All, take}
use Rattle.box_math.specs.Bounds.{IsBox}
use Rattle.box_math.specs.Objects.{bounds_of}
use Rattle.layer_pages.proofs.checking.are_equal.Given as goal

-- the lists are the same so far, and their boxes are boxes
abbrev pub invariant-loop-place : goal.invariant-loop-place
invariant-loop-place g l = (take l.place l.held ≡ take l.place l.listed)
    × All (λ object. IsBox g.row.D (bounds_of object.1)) (take l.place l.held)
