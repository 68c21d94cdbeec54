-- The first j index blocks are written.
use Rattle.std.proofs.Common.{◌≡◌, false, length}
use Rattle.logged_pair.specs.Standing.{clearing_of, deciding_of, homes_of}
use Rattle.logged_pair.proofs.Indexing.{IndexedTo}
use Rattle.logged_pair.proofs.pair.LoggedPair.put_index.Given as goal

abbrev pub invariant-loop-j : goal.invariant-loop-j
invariant-loop-j g l = IndexedTo l.j l.fn.self l.self × (l.count ≡ length (homes_of l.fn.self))
    × (deciding_of l.self ≡ false) × (clearing_of l.self ≡ false)
