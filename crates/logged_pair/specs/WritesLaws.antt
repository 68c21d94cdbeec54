-- Lemmas on calls that write the journal alone: none, one, and two in turn.
use Rattle.std.proofs.Common.{◌≡◌, ◌∙◌, ℕ, refl}
use Rattle.block_device.specs.Device.{Torn}
use Rattle.device_pair.specs.Pairs.{JournalFollows, PairElapses, PairsNoMore}
use Rattle.device_pair.specs.Runs.{pair_call, pair_started, pair_then, pair_weaker}
use Rattle.device_pair.specs.declared.pair.DevicePair as pair
use Rattle.logged_pair.specs.Compaction.{LeavesItsBase, WritesJournal}

module _ {P : Type 0} (m : pair.Ghosts P) where
  pub writes_none : (p : P) → WritesJournal m p p
  writes_none p = record {
    base = refl;
    now = λ a b left. (b, left);
    stops = pair_started m.moment m.left_since p (LeavesItsBase (m.may_leave p));
  }

  pub writes_one : (at : ℕ) (old new : P) → m.base new ≡ m.base old
      → JournalFollows (Torn at) (m.may_leave old) (m.may_leave new)
      → PairElapses (m.moment old) (m.moment new) (m.left_since old) (m.left_since new) (m.may_leave new)
      → WritesJournal m old new
  writes_one at old new same follows time = record {
    base = same;
    now = λ a b left. ((follows a b left).0, (follows a b left).1);
    stops = pair_call m.moment m.left_since old new (LeavesItsBase (m.may_leave old)) (m.may_leave new) time
        (λ a b left. ((follows a b left).0, (follows a b left).1));
  }

  pub writes_synced : (old new : P) → m.base new ≡ m.base old → PairsNoMore (m.may_leave old) (m.may_leave new)
      → PairElapses (m.moment old) (m.moment new) (m.left_since old) (m.left_since new) (m.may_leave new)
      → WritesJournal m old new
  writes_synced old new same more time = record {
    base = same;
    now = λ a b left. (b, more a b left);
    stops = pair_call m.moment m.left_since old new (LeavesItsBase (m.may_leave old)) (m.may_leave new) time
        (λ a b left. (b, more a b left));
  }

  pub writes_then : (old mid new : P) → WritesJournal m old mid → WritesJournal m mid new
      → WritesJournal m old new
  writes_then old mid new x y = record {
    base = y.base ∙ x.base;
    now = λ a b left. x.now a (y.now a b left).0 (y.now a b left).1;
    stops = pair_then m.moment m.left_since old mid new (LeavesItsBase (m.may_leave old)) x.stops
        (pair_weaker m.moment m.left_since mid new (LeavesItsBase (m.may_leave mid))
        (LeavesItsBase (m.may_leave old)) (λ a b p. x.now a p.0 p.1) y.stops);
  }
