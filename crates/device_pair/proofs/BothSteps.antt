-- What a call of one of two devices makes of what a stop of both might have left.
use Rattle.std.proofs.Common.{◌≡◌, List, ◌∷◌, length, inl, inr, ⊎_elim, arith}
use Rattle.block_device.specs.Device.{Blocks}
use Rattle.device_pair.specs.Pairs.{PairElapses}
use Rattle.device_pair.specs.Both.{Both, BothSince}

module _ {A B : Type 0} (base : A → Blocks → Type 0) (journal : B → Blocks → Type 0) where
  -- a call of either
  pub both_elapse : (x x' : A) (y y' : B) (ps ps' : List (A × B)) → ps' ≡ (x, y) ∷ ps
      → PairElapses (length ps) (length ps') (BothSince base journal x y ps)
      (BothSince base journal x' y' ps') (Both base journal x' y')
  both_elapse x x' y y' ps ps' e =
      rw e record {
        later = omega arith;
        nothing_else = λ t a b le left. ⊎_elim (λ now. inr now) (λ past. inl past.1) left;
        keeps = λ t a b le left. inr (le, left);
      }
