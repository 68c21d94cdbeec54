-- Laws of a pair that was taken over: what stands of it is a fact, and stays where nothing is written.
use Rattle.std.proofs.Common.{◌≡◌, ◌∙◌, ℕ, List, arith, refl, sym, ⊎_elim}
use Rattle.std.proofs.Props.{props}
use Rattle.std.specs.List.{All}
use Rattle.block_device.specs.Device.{Blocks, IsBlock}
use Rattle.device_pair.specs.Memory.{AreLeft}
use Rattle.device_pair.specs.Pairs.{PairElapses, PairsNoMore}
use Rattle.unwritten_pair.specs.Taken.{IsAsTaken, IsAsTakenOf}

-- facts, which a ghost field may hold
block_is_fact : (bytes : List ℕ) → IsProp (IsBlock bytes)
block_is_fact bytes = hlevel props

pub whole_is_fact : (blocks : Blocks) → IsProp (All IsBlock blocks)
whole_is_fact blocks = hlevel (props, block_is_fact)

pub left_is_fact : (base journal : Blocks) (may_leave : Blocks → Blocks → Type 0)
    → IsProp (AreLeft base journal may_leave)
left_is_fact base journal may_leave = hlevel props

module _ {P : Type 0} (base journal : P → Blocks) (moment : P → ℕ)
    (left_since : P → ℕ → Blocks → Blocks → Type 0) where
  one_is_fact : (p now : P) → IsProp (IsAsTaken base journal moment left_since p now)
  one_is_fact p now = hlevel props

  pub taken_is_fact : (first : List (P × ℕ)) (now : P)
      → IsProp (IsAsTakenOf base journal moment left_since first now)
  taken_is_fact first now = hlevel (props, one_is_fact)

  module _ (may_leave : P → Blocks → Blocks → Type 0) where
    -- a pair that is synced is taken over
    pub taken_first : (p : P) → AreLeft (base p) (journal p) (may_leave p)
        → ((a b : Blocks) → left_since p (moment p) a b → may_leave p a b)
        → IsAsTaken base journal moment left_since p p
    taken_first p synced only = record {
      same_base = refl;
      same_journal = refl;
      later = omega arith;
      since = λ a b left. synced a b (only a b left);
    }

    module _ (old new : P) (on_base : base new ≡ base old) (on_journal : journal new ≡ journal old)
        (no_more : PairsNoMore (may_leave old) (may_leave new))
        (synced : AreLeft (base old) (journal old) (may_leave old)) where
      -- after a call that writes nothing a stop leaves what is read
      pub left_still : AreLeft (base new) (journal new) (may_leave new)
      left_still a b left =
          let is = synced a b (no_more a b left) in (is.0 ∙ sym on_base, is.1 ∙ sym on_journal)

      -- and all is as it was taken over
      pub taken_still : (p : P) → IsAsTaken base journal moment left_since p old
          → PairElapses (moment old) (moment new) (left_since old) (left_since new) (may_leave new)
          → IsAsTaken base journal moment left_since p new
      taken_still p was time = record {
        same_base = on_base ∙ was.same_base;
        same_journal = on_journal ∙ was.same_journal;
        later = omega (arith, was.later, time.later);
        since =
            λ a b left. ⊎_elim (λ (past : left_since old (moment p) a b). was.since a b past)
            (λ (now : may_leave new a b).
            let is = synced a b (no_more a b now) in (is.0 ∙ was.same_base, is.1 ∙ was.same_journal))
            (time.nothing_else (moment p) a b was.later left);
      }
