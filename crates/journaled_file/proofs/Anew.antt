-- A journal that is made or written anew: what stood before, and what its blocks are then.
use Rattle.std.proofs.Common.{◌≡◌, ◌∙◌, ◌≤◌, ℕ, List, [], ◌∷◌, ◌++◌, drop, length, refl, sym, ap, subst, arith, true}
use Rattle.block_device.specs.Device.{Blocks, block_at, written}
use Rattle.committed_log.specs.Log.{says}
use Rattle.device_pair.specs.Pairs.{PairLeaves}
use Rattle.journaled_file.specs.Paired.{HasBegunEmpty, IsAnew}
use Rattle.titled_pair.specs.Title.{untitled}

-- what a run of calls began with, over a journal without blocks
module _ {P : Type 0} (base journal : P → Blocks) (moment : P → ℕ)
    (left_since : P → ℕ → Blocks → Blocks → Type 0) where
  none_left : (a e : Blocks) (t : ℕ) (since : ℕ → Blocks → Blocks → Type 0) → length e ≡ 0 → since t a e
      → since t a []
  none_left a [] t since none left = left
  none_left a (x ∷ e) t since none left = absurd (omega (arith, none))

  pub begun_on : (old new : P) (Q : Blocks → Blocks → Type 0) → PairLeaves moment left_since old new Q
      → length (journal old) ≡ 0 → left_since old (moment old) (base old) (journal old)
      → HasBegunEmpty (moment new) (left_since new)
  begun_on old new Q leaves none left = record {
    moment = moment old;
    past = leaves.later;
    base = base old;
    left = leaves.keeps (moment old) (base old) [] (omega arith)
        (none_left (base old) (journal old) (moment old) (left_since old) none left);
  }

pub untitled_is : (e : Blocks) → untitled e ≡ drop 2 e
untitled_is [] = refl
untitled_is (t ∷ []) = refl
untitled_is (t ∷ u ∷ e) = refl

-- two blocks written where there was none
pub two_written : (t u : List ℕ) (e : Blocks) → length e ≡ 0 → written 1 u (written 0 t e) ≡ t ∷ u ∷ []
two_written t u [] none = refl
two_written t u (x ∷ e) none = absurd (omega (arith, none))

-- and a region behind them
pub anew_is : (t u : List ℕ) (two new log : Blocks) → two ≡ t ∷ u ∷ [] → new ≡ two ++ log
    → says (block_at 0 log) ≡ true → 4 ≤ length log → IsAnew t u new
anew_is t u two new log is then said room =
    subst (IsAnew t u) (sym (then ∙ ap (λ (b : Blocks). b ++ log) is)) (record {
      title_is = refl;
      end_is = refl;
      room = omega (arith, room);
      complete = said;
    })
