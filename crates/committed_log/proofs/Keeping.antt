-- What one call, and runs in turn, keep to.
use Rattle.std.proofs.Common.{◌≡◌, ◌∙◌, ◌^◌, ◌≤◌, ℕ, List, length, drop, refl, sym, ap, subst}
use Rattle.block_device.specs.Device.{Blocks}
use Rattle.device_pair.specs.Pairs.{PairElapses, PairLeaves, PairsNoMore}
use Rattle.device_pair.specs.Runs.{pair_call, pair_then, pair_weaker}
use Rattle.committed_log.specs.Committed.{base_of, behind_of, homes_of, journal_of, leaves_of, pair_of}
use Rattle.committed_log.specs.Committed.{seen_of, IsHonest, IsStill}
use Rattle.committed_log.specs.Home.{FirstShow, IsQuiet}
use Rattle.committed_log.specs.Log.{overlaid, recovered}
use Rattle.committed_log.specs.Regions.{recovered_unsaid}
use Rattle.committed_log.specs.declared.log.CommittedLog.{CommittedLog}
use Rattle.committed_log.proofs.Recovering.{first_stands, recovery_stands}

-- base, journal and regions are the same, and a stop leaves nothing else
pub record SameRead {P A : Type 0} {m : _} (old new : CommittedLog P A m) : Type 0 where
  pub homes : homes_of new ≡ homes_of old
  pub base : base_of new ≡ base_of old
  pub journal : journal_of new ≡ journal_of old
  pub now : PairsNoMore (m.may_leave old.pair) (m.may_leave new.pair)

pub first_shows : (homes homes' : List ℕ) (seen seen' : Blocks) → homes ≡ homes' → seen ≡ seen' → (a b : Blocks)
    → FirstShow homes seen a b → FirstShow homes' seen' a b
first_shows homes homes' seen seen' e is a b x =
    subst (λ (l : List ℕ). FirstShow l seen' a b) e (x.0 ∙ is, x.1 ∙ is)

module _ {P A : Type 0} {m : _} where
  pub same_still : (old new : CommittedLog P A m) → IsStill old new → SameRead old new
  same_still old new s = record { homes = s.log.homes; base = s.base; journal = s.journal; now = s.now }

  -- the same pair
  pub same_pair : (old new : CommittedLog P A m) → pair_of new ≡ pair_of old → homes_of new ≡ homes_of old
      → SameRead old new
  same_pair old new pair homes = record {
    homes = homes;
    base = ap m.base pair;
    journal = ap m.journal pair;
    now = λ a b left. subst (λ (d : P). m.may_leave d a b) pair left;
  }

  pub seen_same : (old new : CommittedLog P A m) → SameRead old new → seen_of new ≡ seen_of old
  seen_same old new s =
      ap (λ (hs : List ℕ). overlaid hs (journal_of new) (base_of new)) s.homes
      ∙ ap (λ (j : Blocks). overlaid (homes_of old) j (base_of new)) s.journal
      ∙ ap (overlaid (homes_of old) (journal_of old)) s.base

  pub behind_same : (old new : CommittedLog P A m) → SameRead old new → behind_of new ≡ behind_of old
  behind_same old new s =
      ap (λ (hs : List ℕ). drop (length hs) (journal_of new)) s.homes
      ∙ ap (drop (length (homes_of old))) s.journal

  pub leaves_same : (old new : CommittedLog P A m) → SameRead old new → (v j : Blocks) → leaves_of new v j
      → leaves_of old v j
  leaves_same old new s v j l = (
    l.0,
    l.1,
    s.now l.0 l.1 l.2,
    l.3 ∙ ap (λ (hs : List ℕ). overlaid hs l.1 l.0) s.homes,
    l.4 ∙ ap (λ (hs : List ℕ). drop (length hs) l.1) s.homes,
  )

  -- what a stop leaves is recovered to what it makes of what is read
  pub law_of : (c : CommittedLog P A m) → length (base_of c) ≤ 2 ^ 31 → IsHonest c → (a b : Blocks)
      → m.may_leave c.pair a b
      → recovered a b ≡ recovered (overlaid (homes_of c) b a) (drop (length (homes_of c)) b)
  law_of c few h a b left =
      recovery_stands c.clearing (homes_of c) (base_of c) (journal_of c) a b (m.may_leave c.pair) few
      (c.standing h) left

  -- one call, after which what a stop leaves is recovered to these blocks
  pub leaves_call : (old : P) (new : CommittedLog P A m) (blocks : Blocks) → length (base_of new) ≤ 2 ^ 31
      → IsHonest new
      → PairElapses (m.moment old) (m.moment new.pair) (m.left_since old) (m.left_since new.pair)
      (m.may_leave new.pair)
      → ((v j : Blocks) → leaves_of new v j → recovered v j ≡ blocks)
      → PairLeaves m.moment m.left_since old new.pair (λ a b. recovered a b ≡ blocks)
  leaves_call old new blocks few h time back =
      pair_call m.moment m.left_since old new.pair (λ a b. recovered a b ≡ blocks) (m.may_leave new.pair) time
      (λ a b left. law_of new few h a b left
      ∙ back (overlaid (homes_of new) b a) (drop (length (homes_of new)) b) (a, b, left, refl, refl))

  -- a run after which the same is read
  pub leaves_then : (old mid new : CommittedLog P A m) → seen_of mid ≡ seen_of old
      → PairLeaves m.moment m.left_since old.pair mid.pair (λ a b. recovered a b ≡ seen_of old)
      → PairLeaves m.moment m.left_since mid.pair new.pair (λ a b. recovered a b ≡ seen_of mid)
      → PairLeaves m.moment m.left_since old.pair new.pair (λ a b. recovered a b ≡ seen_of old)
  leaves_then old mid new seen x y =
      pair_then m.moment m.left_since old.pair mid.pair new.pair (λ a b. recovered a b ≡ seen_of old) x
      (pair_weaker m.moment m.left_since mid.pair new.pair (λ a b. recovered a b ≡ seen_of mid)
      (λ a b. recovered a b ≡ seen_of old) (λ a b e. e ∙ seen) y)

  -- the same as who has read all of the regions sees it
  pub last_then : (old mid new : CommittedLog P A m) → seen_of mid ≡ seen_of old → homes_of mid ≡ homes_of old
      → PairLeaves m.moment m.left_since old.pair mid.pair (FirstShow (homes_of old) (seen_of old))
      → PairLeaves m.moment m.left_since mid.pair new.pair (FirstShow (homes_of mid) (seen_of mid))
      → PairLeaves m.moment m.left_since old.pair new.pair (FirstShow (homes_of old) (seen_of old))
  last_then old mid new seen homes x y =
      pair_then m.moment m.left_since old.pair mid.pair new.pair _ x
      (pair_weaker m.moment m.left_since mid.pair new.pair (FirstShow (homes_of mid) (seen_of mid)) _
      (first_shows (homes_of mid) (homes_of old) (seen_of mid) (seen_of old) homes seen) y)

  -- ---- where nothing was written

  pub seen_still : (old new : CommittedLog P A m) → IsStill old new → seen_of new ≡ seen_of old
  seen_still old new s = seen_same old new (same_still old new s)

  pub behind_still : (old new : CommittedLog P A m) → IsStill old new → behind_of new ≡ behind_of old
  behind_still old new s = behind_same old new (same_still old new s)

  pub leaves_still : (old new : CommittedLog P A m) → IsStill old new → (v j : Blocks) → leaves_of new v j
      → leaves_of old v j
  leaves_still old new s = leaves_same old new (same_still old new s)

  pub quiet_on : (old new : CommittedLog P A m) → IsStill old new → IsQuiet old → IsQuiet new
  quiet_on old new s q = record {
    base = λ v j l. q.base v j (leaves_still old new s v j l) ∙ sym (seen_still old new s);
    unsaid = λ v j l. q.unsaid v j (leaves_still old new s v j l);
    there = λ v j l. q.there v j (leaves_still old new s v j l);
  }

  pub still_leaves : (old new : CommittedLog P A m) → length (base_of new) ≤ 2 ^ 31 → IsHonest new
      → IsStill old new → IsQuiet old
      → PairLeaves m.moment m.left_since old.pair new.pair (λ a b. recovered a b ≡ seen_of old)
  still_leaves old new few h s q =
      leaves_call old.pair new (seen_of old) few h s.time (λ v j l.
      let was : leaves_of old v j = leaves_still old new s v j l in
      recovered_unsaid v j (q.unsaid v j was) ∙ q.base v j was)

  pub still_last : (old new : CommittedLog P A m) → length (base_of new) ≤ 2 ^ 31 → IsHonest new
      → IsStill old new → IsQuiet old
      → PairLeaves m.moment m.left_since old.pair new.pair (FirstShow (homes_of old) (seen_of old))
  still_last old new few h s q =
      pair_call m.moment m.left_since old.pair new.pair _ (m.may_leave new.pair) s.time (λ a b left.
      let is : overlaid (homes_of new) b a ≡ seen_of old =
      q.base _ _ (leaves_still old new s _ _ (a, b, left, refl, refl)) in
      first_shows (homes_of new) (homes_of old) (seen_of old) (seen_of old) s.log.homes refl a b (
        first_stands new.clearing (homes_of new) (base_of new) (journal_of new) a b (m.may_leave new.pair) few
            (new.standing h) left
            ∙ is,
        is,
      ))
