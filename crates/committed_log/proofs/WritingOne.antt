-- Of the base one block is written, or none: in one call, and in calls in turn.
use Rattle.std.proofs.Common.{◌≡◌, ◌∙◌, ℕ, ◌<◌, false, length, refl, ap, arith, ◌^◌, ◌≤◌}
use Rattle.std.specs.List.{Contains}
use Rattle.block_device.specs.Device.{Blocks, Torn, block_at}
use Rattle.block_device.specs.Written.{torn_other}
use Rattle.device_pair.specs.Pairs.{BaseFollows, PairElapses}
use Rattle.device_pair.specs.Runs.{pair_call, pair_started, pair_then, pair_weaker}
use Rattle.committed_log.specs.Committed.{base_of, clearing_of, homes_of, IsHonest, IsStill}
use Rattle.committed_log.specs.Home.{LeftBut, SameBut, WritesOnly}
use Rattle.committed_log.specs.Torn.{torn_size}
use Rattle.committed_log.specs.declared.log.CommittedLog.{CommittedLog}
use Rattle.committed_log.proofs.Homing.{at_home}
use Rattle.committed_log.proofs.Stood.{kept_stop}

pub but_none : (i : ℕ) (a : Blocks) → SameBut i a a
but_none i a = record { as_many = refl; others = λ k apart. refl }

pub but_then : (i : ℕ) (a b c : Blocks) → SameBut i a b → SameBut i b c → SameBut i a c
but_then i a b c x y = record {
  as_many = y.as_many ∙ x.as_many;
  others = λ k apart. y.others k apart ∙ x.others k apart;
}

pub but_torn : (i : ℕ) (a b : Blocks) → i < length a → Torn i a b → SameBut i a b
but_torn i a b lt torn = record {
  as_many = torn_size i a b lt torn;
  others = λ k apart. torn_other i k a b torn (omega (arith, lt)) apart;
}

module _ {P A : Type 0} {m : _} where
  -- no call
  pub only_none : (i : ℕ) (c : CommittedLog P A m) → WritesOnly i c c
  only_none i c = record {
    base = but_none i (base_of c);
    left = λ a b left. (a, left, but_none i a);
    stops = pair_started m.moment m.left_since c.pair _;
  }

  -- nothing was written
  pub only_still : (i : ℕ) (old new : CommittedLog P A m) → IsStill old new → WritesOnly i old new
  only_still i old new s = record {
    base = record { as_many = ap length s.base; others = λ k apart. ap (block_at k) s.base };
    left = λ a b left. (a, s.now a b left, but_none i a);
    stops =
        pair_call m.moment m.left_since old.pair new.pair _ (m.may_leave new.pair) s.time
        (λ a b left. (a, s.now a b left, but_none i a));
  }

  -- calls in turn
  pub only_then : (i : ℕ) (old mid new : CommittedLog P A m) → WritesOnly i old mid → WritesOnly i mid new
      → WritesOnly i old new
  only_then i old mid new x y = record {
    base = but_then i (base_of old) (base_of mid) (base_of new) x.base y.base;
    left = λ a b left. back a b (y.left a b left);
    stops =
        pair_then m.moment m.left_since old.pair mid.pair new.pair _ x.stops
        (pair_weaker m.moment m.left_since mid.pair new.pair _ _ back y.stops);
  }
    where
      back : (a b : Blocks) → LeftBut i (m.may_leave mid.pair) a b → LeftBut i (m.may_leave old.pair) a b
      back a b from =
          let was = x.left from.0 b from.1 in
          (was.0, was.1, but_then i was.0 from.0 a was.2 from.2)

  -- one block was written that has a slot
  pub only_written : (i : ℕ) (old new : CommittedLog P A m) → IsHonest old → clearing_of old ≡ false
      → Contains (homes_of old) i → i < length (base_of old) → length (base_of old) ≤ 2 ^ 31
      → Torn i (base_of old) (base_of new)
      → BaseFollows (Torn i) (m.may_leave old.pair) (m.may_leave new.pair)
      → PairElapses (m.moment old.pair) (m.moment new.pair) (m.left_since old.pair) (m.left_since new.pair)
      (m.may_leave new.pair) → WritesOnly i old new
  only_written i old new h settled one lt few torn follows time = record {
    base = but_torn i (base_of old) (base_of new) lt torn;
    left = from;
    stops = pair_call m.moment m.left_since old.pair new.pair _ (m.may_leave new.pair) time from;
  }
    where
      from : (a b : Blocks) → m.may_leave new.pair a b → LeftBut i (m.may_leave old.pair) a b
      from a b left =
          let was = follows a b left in
          let there : i < length was.0 =
          at_home (homes_of old) (length (base_of old)) (length was.0) i
          (kept_stop old.clearing (homes_of old) (base_of old) (m.journal old.pair) (m.may_leave old.pair) settled
          (old.standing h) was.0 b was.1).homes one lt few in
          (was.0, was.1, but_torn i was.0 a there was.2)
