-- What holds at each turn of the loop of `nearest_place`.
use Rattle.std.proofs.Common.{◌≡◌, ◌<◌, ◌≤◌, ℕ, length, get_or}
use Rattle.nearest.specs.declared.candidate.Candidate.{Candidate}
use Rattle.nearest.proofs.search.nearest_place.Given as goal

-- none of those so far is nearer than the one in the place
abbrev pub invariant-loop-other : goal.invariant-loop-other
invariant-loop-other l = record {
  within : l.place < length l.candidates;
  least : (d : Candidate) → l.least ≡ (get_or l.candidates l.place d).distance;
  nearest : (i : ℕ) (d : Candidate) → i < l.other
      → (get_or l.candidates l.place d).distance ≤ (get_or l.candidates i d).distance;
}
