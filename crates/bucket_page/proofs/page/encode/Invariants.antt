-- The objects written so far, and nothing else.
use Rattle.bucket_page.proofs.Writing.{Written}
use Rattle.bucket_page.proofs.page.encode.Given as goal

abbrev pub invariant-loop-place : goal.invariant-loop-place
invariant-loop-place g l = Written g.row.D l.bucket.next l.bucket.entries.items l.place l.page
