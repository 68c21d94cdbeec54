-- Lemmas on what a run of calls of a device leaves: its beginning, one call more, a weaker fact, and
-- two runs in turn.
use Rattle.std.proofs.Common.{ℕ, ◌≤◌, inl, inr, ⊎_elim, arith}
use Rattle.block_device.specs.Device.{BeginsOne, Blocks, Brings, Elapses, LeavesOnly, OrTaken, Recovery}
use Rattle.block_device.specs.Device.{no_recovery}

-- a commit of a weaker fact
taken_weaker : {D : Type 0} (recovery : Recovery D) (old : D) (P Q : Blocks → Type 0)
    → ((c : Blocks) → P c → Q c) → (k : Blocks) → OrTaken recovery old P k → OrTaken recovery old Q k
taken_weaker recovery old P Q implies k = ⊎_elim (λ was. inl was) (λ new. inr (new.0, implies k new.1))

begins_weaker : (P Q : Blocks → Type 0) → ((k : Blocks) → P k → Q k) → (c : Blocks) → BeginsOne P c
    → BeginsOne Q c
begins_weaker P Q implies c one = (one.0, implies one.0 one.1, one.2)

module _ {D : Type 0} (moment : D → ℕ) (recovery : Recovery D) where
  -- no call
  pub brings_started : (old : D) (P : Blocks → Type 0) → Brings moment recovery old old P
  brings_started old P = record { commits = λ k was. inl was; found = λ t c le was. inl was }

  pub brings_weaker : (old new : D) (P Q : Blocks → Type 0) → ((c : Blocks) → P c → Q c)
      → Brings moment recovery old new P → Brings moment recovery old new Q
  brings_weaker old new P Q implies b = record {
    commits = λ k is. taken_weaker recovery old P Q implies k (b.commits k is);
    found = λ t c le is. ⊎_elim (λ was. inl was)
        (λ one. inr
        (begins_weaker (OrTaken recovery old P) (OrTaken recovery old Q)
        (taken_weaker recovery old P Q implies) c one)) (b.found t c le is);
  }

  -- a commit that was taken in either of two runs
  taken_then : (old mid new : D) (P : Blocks → Type 0) → Brings moment recovery old mid P → (k : Blocks)
      → OrTaken recovery mid P k → OrTaken recovery old P k
  taken_then old mid new P a k = ⊎_elim (λ was. a.commits k was) (λ taken. inr taken)

  pub brings_then : (old mid new : D) (P : Blocks → Type 0) → moment old ≤ moment mid
      → Brings moment recovery old mid P → Brings moment recovery mid new P → Brings moment recovery old new P
  brings_then old mid new P later a b = record {
    commits = λ k is. taken_then old mid new P a k (b.commits k is);
    found = λ t c le is. ⊎_elim (λ was. a.found t c le was)
        (λ one. inr
        (begins_weaker (OrTaken recovery mid P) (OrTaken recovery old P) (taken_then old mid new P a) c
        one))
        (b.found t c (omega (arith, le, later)) is);
  }

-- of a device without commits
pub brings_nothing : {D : Type 0} (moment : D → ℕ) (old new : D) (P : Blocks → Type 0)
    → Brings moment no_recovery old new P
brings_nothing moment old new P = record { commits = λ k is. absurd is; found = λ t c le is. absurd is }

module _ {D : Type 0} (moment : D → ℕ) (left_since : D → ℕ → Blocks → Type 0) (recovery : Recovery D) where
  -- before the first call
  pub started : (old : D) (P : Blocks → Type 0) → ((c : Blocks) → left_since old (moment old) c → P c)
      → LeavesOnly moment left_since recovery old old P
  started old P here =
      record {
        later = omega arith;
        each = here;
        before = λ t c le left. inl left;
        brings = brings_started moment recovery old P;
      }

  -- one call more, after which a stop leaves what has P
  pub goes_on : (old mid new : D) (P may_leave : Blocks → Type 0)
      → LeavesOnly moment left_since recovery old mid P
      → Elapses (moment mid) (moment new) (left_since mid) (left_since new) may_leave
      → Brings moment recovery mid new may_leave → ((c : Blocks) → may_leave c → P c)
      → LeavesOnly moment left_since recovery old new P
  goes_on old mid new P may_leave so_far time brings here = record {
    later = omega (arith, so_far.later, time.later);
    each = λ c left. ⊎_elim (so_far.each c) (here c) (time.nothing_else (moment old) c so_far.later left);
    before =
        λ t c le left. ⊎_elim (so_far.before t c le) (λ now. inr (here c now))
        (time.nothing_else t c (omega (arith, le, so_far.later)) left);
    brings =
        brings_then moment recovery old mid new P so_far.later so_far.brings
        (brings_weaker moment recovery mid new may_leave P here brings);
  }

  -- of a weaker fact
  pub leaves_weaker : (old new : D) (P Q : Blocks → Type 0) → ((c : Blocks) → P c → Q c)
      → LeavesOnly moment left_since recovery old new P → LeavesOnly moment left_since recovery old new Q
  leaves_weaker old new P Q implies l = record {
    later = l.later;
    each = λ c left. implies c (l.each c left);
    before = λ t c le left. ⊎_elim (λ was. inl was) (λ p. inr (implies c p)) (l.before t c le left);
    brings = brings_weaker moment recovery old new P Q implies l.brings;
  }

  -- one run after the other
  pub leaves_then : (old mid new : D) (P : Blocks → Type 0) → LeavesOnly moment left_since recovery old mid P
      → LeavesOnly moment left_since recovery mid new P → LeavesOnly moment left_since recovery old new P
  leaves_then old mid new P a b = record {
    later = omega (arith, a.later, b.later);
    each = λ c left. ⊎_elim (a.each c) (λ p. p) (b.before (moment old) c a.later left);
    before =
        λ t c le left. ⊎_elim (a.before t c le) (λ p. inr p) (b.before t c (omega (arith, le, a.later)) left);
    brings = brings_then moment recovery old mid new P a.later a.brings b.brings;
  }
