-- What holds at each turn of the loop of `kept_on`.
use Rattle.std.proofs.Common.{◌≡◌, Some, drop}
use Rattle.bucket_page.specs.Layout.{BucketContent, bucket_at}
use Rattle.id_words.specs.Objects.{kept_in}
use Rattle.id_chains.proofs.bucket.kept_on.Given as goal

-- none of the objects so far has the identifier
abbrev pub invariant-loop-place : goal.invariant-loop-place
invariant-loop-place g l = (c : BucketContent) → bucket_at g.row.D l.page ≡ Some c
    → kept_in l.id c.entries ≡ kept_in l.id (drop l.place c.entries)
