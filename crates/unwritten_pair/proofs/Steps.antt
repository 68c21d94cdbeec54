-- What a call makes of a journal some of which is in memory, and of what a stop might have left.
use Rattle.std.proofs.Common.{◌≡◌, ◌∙◌, ◌≤◌, ◌-◌, ◌++◌, ℕ, zero, suc, List, [], ◌∷◌, length}
use Rattle.std.proofs.Common.{refl, sym, ap, arith, inl, inr, ⊎_elim, subst}
use Rattle.std.specs.Prelude.{Result, Ok, Err, OnErr, OnOk, Vec}
use Rattle.block_device.specs.Device.{Blocks, IsBlock, Torn, written}
use Rattle.block_device.specs.Written.{push_written}
use Rattle.block_device.specs.declared.device.DeviceError.{DeviceError}
use Rattle.device_pair.specs.Both.{Both, BothSince}
use Rattle.device_pair.specs.Pairs.{JournalFollows, PairElapses}
use Rattle.unwritten_pair.specs.Held.{HasBase, HasJournal}

-- a block in memory is one of the journal
written_held : (i : ℕ) (bytes : List ℕ) (own behind : Blocks) → length own ≤ i
    → own ++ written (i - length own) bytes behind ≡ written i bytes (own ++ behind)
written_held i bytes [] behind le = ap (λ (k : ℕ). written k bytes behind) (all i)
  where
    all : (i : ℕ) → i - 0 ≡ i
    all i = omega arith
written_held zero bytes (b ∷ own) behind le = absurd (omega arith)
written_held (suc i) bytes (b ∷ own) behind le = ap (λ (k : ℕ). b ∷ own ++ written k bytes behind) (less i)
    ∙ ap (λ (l : Blocks). b ∷ l) (written_held i bytes own behind (omega arith))
  where
    less : (i : ℕ) → suc i - suc (length own) ≡ i - length own
    less i = omega arith

-- a block is appended
pub put_behind : (r : Result (Unit {0}) DeviceError) (i : ℕ) (bytes : List ℕ) (old new : Blocks)
    → length old ≤ i → OnOk r (new ≡ old ++ bytes ∷ []) → OnOk r (new ≡ written i bytes old)
put_behind (Ok u) i bytes old new le ok = ok ∙ push_written i bytes old le
put_behind (Err u) i bytes old new le ok = tt

-- a write of a block in memory, by a call that leaves the pair's own journal of n blocks
module _ (i n : ℕ) (bytes : List ℕ) (own own' old new : Blocks) (is : n ≡ length own) (le : n ≤ i)
    (same : own' ≡ own) where
  put_here : new ≡ written (i - n) bytes old → own' ++ new ≡ written i bytes (own ++ old)
  put_here e = ap (λ (l : Blocks). l ++ new) same ∙ ap (λ (l : Blocks). own ++ l) e
      ∙ ap (λ (k : ℕ). own ++ written (i - k) bytes old) is
      ∙ written_held i bytes own old (omega (arith, is, le))

  pub put_written : (r : Result (Unit {0}) DeviceError) → OnOk r (new ≡ written (i - n) bytes old)
      → OnOk r (own' ++ new ≡ written i bytes (own ++ old))
  put_written (Ok u) ok = put_here ok
  put_written (Err u) ok = tt

  torn : (r : Result (Unit {0}) DeviceError) → IsBlock bytes → OnOk r (new ≡ written (i - n) bytes old)
      → OnErr r (new ≡ old) → Torn i (own ++ old) (own' ++ new)
  torn (Ok u) block ok err = inr (bytes, block, put_here ok)
  torn (Err u) block ok err =
      inl (ap (λ (l : Blocks). l ++ new) same ∙ ap (λ (l : Blocks). own ++ l) err)

  pub put_follows : (r : Result (Unit {0}) DeviceError) (base base' : Blocks) → base' ≡ base → IsBlock bytes
      → OnOk r (new ≡ written (i - n) bytes old) → OnErr r (new ≡ old)
      → JournalFollows (Torn i) (λ a b. (a ≡ base) × (b ≡ own ++ old))
      (λ a b. (a ≡ base') × (b ≡ own' ++ new))
  put_follows r base base' on_base block ok err a b left = (
    own ++ old,
    (left.0 ∙ on_base, refl),
    subst (Torn i (own ++ old)) (sym left.1) (torn r block ok err),
  )

-- A call that writes nothing is none.
module _ {P A : Type 0} (base own : Blocks) where
  since_same : (x x' : P) (v v' : Vec (List ℕ) A) (ps : List (P × Vec (List ℕ) A)) (t : ℕ) (a b : Blocks)
      → v'.items ≡ v.items → BothSince (HasBase base) (HasJournal own) x v ps t a b
      → BothSince (HasBase base) (HasJournal own) x' v' ps t a b
  since_same x x' v v' [] t a b e left = (left.0, left.1 ∙ sym (ap (λ (l : Blocks). own ++ l) e))
  since_same x x' v v' (p ∷ ps) t a b e left = ⊎_elim
      (λ now. inl (now.0, now.1 ∙ sym (ap (λ (l : Blocks). own ++ l) e)))
      (λ past. inr past)
      left

  same_elapses : (x x' : P) (v v' : Vec (List ℕ) A) (ps : List (P × Vec (List ℕ) A)) → v'.items ≡ v.items
      → PairElapses (length ps) (length ps) (BothSince (HasBase base) (HasJournal own) x v ps)
      (BothSince (HasBase base) (HasJournal own) x' v' ps) (Both (HasBase base) (HasJournal own) x' v')
  same_elapses x x' v v' ps e = record {
    later = omega arith;
    nothing_else = λ t a b le left. inl (since_same x' x v' v ps t a b (sym e) left);
    keeps = λ t a b le left. since_same x x' v v' ps t a b e left;
  }

pub still_elapses : {P A : Type 0} (base base' own own' : Blocks) (x x' : P) (v v' : Vec (List ℕ) A)
    (ps ps' : List (P × Vec (List ℕ) A)) → base' ≡ base → own' ≡ own → v'.items ≡ v.items → ps' ≡ ps
    → PairElapses (length ps) (length ps') (BothSince (HasBase base) (HasJournal own) x v ps)
    (BothSince (HasBase base') (HasJournal own') x' v' ps') (Both (HasBase base') (HasJournal own') x' v')
still_elapses base base' own own' x x' v v' ps ps' on_base on_own on_behind on_past =
    rw (on_base, on_own, on_past) (same_elapses base own x x' v v' ps on_behind)
