-- What holds at each turn of the loop of `find_children`, and that it ends.
use Rattle.std.proofs.Common.{[], ◌-◌, ◌≤◌, length}
use Rattle.node_bytes.specs.Views.{content_in}
use Rattle.range_query.specs.Entries.{reference_of}
use Rattle.box_math.specs.Queries.{admits}
use Rattle.range_query.proofs.EntryLemmas.{Taken}
use Rattle.range_query.proofs.descent.find_children.Given as goal

-- the pages of the entries so far that are admitted are taken, and they are no more than these
abbrev pub invariant-entries : goal.invariant-entries
invariant-entries g l =
    Taken reference_of (λ item. admits l.fn.query item.bounds) (content_in l.node).entries l.place []
    l.children.items × (length l.children.items ≤ l.place)

abbrev pub decreases-entries : goal.decreases-entries
decreases-entries g l = 256 - l.place
