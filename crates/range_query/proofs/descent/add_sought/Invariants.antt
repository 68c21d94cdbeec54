-- What holds at each turn of the loop of `add_sought`, and that it ends.
use Rattle.std.proofs.Common.{◌-◌}
use Rattle.node_bytes.specs.Views.{content_in}
use Rattle.range_query.specs.Entries.{object_of, wanted}
use Rattle.box_math.specs.Queries.{seeks}
use Rattle.range_query.proofs.EntryLemmas.{Taken}
use Rattle.range_query.proofs.descent.add_sought.Given as goal

-- the objects so far that are sought are appended
abbrev pub invariant-entries : goal.invariant-entries
invariant-entries g l =
    Taken object_of (wanted (seeks l.fn.query) l.fn.tag) (content_in l.leaf).entries l.place
    l.fn.rows.items l.rows.items

abbrev pub decreases-entries : goal.decreases-entries
decreases-entries g l = 256 - l.place
