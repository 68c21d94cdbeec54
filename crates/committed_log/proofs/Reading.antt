-- The regions of a log read one after the other, and what a stop leaves meanwhile.
use Rattle.std.proofs.Common.{◌≡◌, ◌∙◌, ◌⊎◌, ◌↔◌, ◌^◌, ℕ, suc, ◌+◌, ◌<◌, ◌≤◌, Bool, true, false, List, [], ◌∷◌}
use Rattle.std.proofs.Common.{◌++◌, length, refl, sym, ap, subst, arith, inl, inr, ⊎_elim}
use Rattle.std.specs.Prelude.{◌/◌, ◌%◌}
use Rattle.std.specs.List.{All}
use Rattle.std.proofs.lemmas.List.{length_push}
use Rattle.std.proofs.lemmas.List.Elements.{All-push}
use Rattle.block_device.specs.Device.{Blocks, block_at}
use Rattle.device_pair.specs.Pairs.{PairLeaves}
use Rattle.device_pair.specs.Runs.{pair_then, pair_weaker}
use Rattle.device_pair.specs.declared.pair.DevicePair.{Ghosts}
use Rattle.committed_log.specs.Appending.{AppendsOnly}
use Rattle.committed_log.specs.Committed.{base_of, behind_of, clearing_of, homes_of, journal_of}
use Rattle.committed_log.specs.Committed.{seen_of, IsDurable, IsHonest, IsStill, SameLog}
use Rattle.committed_log.specs.Log.{home_in, recovered, says, slot_homes}
use Rattle.committed_log.specs.Opening.{IsBroken, IsMalformed}
use Rattle.committed_log.specs.Regions.{recovered_unsaid}
use Rattle.committed_log.specs.Stops.{IsStanding}
use Rattle.committed_log.specs.declared.log.CommittedLog.{CommittedLog}
use Rattle.committed_log.proofs.Appending.{appends_then}
use Rattle.committed_log.proofs.Keeping.{SameRead, behind_same, behind_still, law_of, leaves_call, leaves_same}
use Rattle.committed_log.proofs.Keeping.{leaves_still, seen_same}
use Rattle.committed_log.proofs.Opened.{homes_push, malformed_behind}

module _ {P A : Type 0} {m : _} where
  -- ---- calls that write nothing

  pub still_none : (d : CommittedLog P A m) → IsStill d d
  still_none d = record {
    log = record { homes = refl; slots = refl; clearing = refl };
    base = refl;
    journal = refl;
    now = λ a b left. left;
    time = record {
      later = omega arith;
      nothing_else = λ t a b le left. inl left;
      keeps = λ t a b le left. left;
    };
  }

  -- two such: what a stop between them left, one before them might have left
  pub still_then : (old mid new : CommittedLog P A m)
      → ((t : ℕ) (a b : Blocks) → t ≤ m.moment old.pair → m.may_leave old.pair a b
      → m.left_since old.pair t a b) → IsStill old mid → IsStill mid new → IsStill old new
  still_then old mid new counts x y = record {
    log = record {
      homes = y.log.homes ∙ x.log.homes;
      slots = y.log.slots ∙ x.log.slots;
      clearing = y.log.clearing ∙ x.log.clearing;
    };
    base = y.base ∙ x.base;
    journal = y.journal ∙ x.journal;
    now = λ a b left. x.now a b (y.now a b left);
    time = record {
      later = omega (arith, x.time.later, y.time.later);
      nothing_else = λ t a b le left. ⊎_elim
          (λ past. ⊎_elim (λ was. inl was) (λ here. inl (counts t a b le (x.now a b here)))
          (x.time.nothing_else t a b le past))
          (λ here. inr here)
          (y.time.nothing_else t a b (omega (arith, le, x.time.later)) left);
      keeps = λ t a b le left. y.time.keeps t a b (omega (arith, le, x.time.later))
          (x.time.keeps t a b le left);
    };
  }

  pub log_then : (old mid new : CommittedLog P A m) → SameLog old mid → SameLog mid new → SameLog old new
  log_then old mid new x y = record {
    homes = y.homes ∙ x.homes;
    slots = y.slots ∙ x.slots;
    clearing = y.clearing ∙ x.clearing;
  }

  pub durable_on : (old new : CommittedLog P A m) → SameRead old new → IsDurable old → IsDurable new
  durable_on old new s is v j l =
      let was = is v j (leaves_same old new s v j l) in
      (was.0 ∙ sym (seen_same old new s), was.1 ∙ sym (behind_same old new s))

  -- ---- what is recovered

  pub reads_back : (c : CommittedLog P A m) → length (base_of c) ≤ 2 ^ 31 → IsHonest c
      → m.may_leave c.pair (base_of c) (journal_of c)
      → recovered (base_of c) (journal_of c) ≡ recovered (seen_of c) (behind_of c)
  reads_back c few h shown = law_of c few h (base_of c) (journal_of c) shown

  -- a call that writes nothing
  pub still_recovers : (old new : CommittedLog P A m) → length (base_of new) ≤ 2 ^ 31 → IsHonest new
      → IsStill old new → IsDurable old
      → PairLeaves m.moment m.left_since old.pair new.pair
      (λ a b. recovered a b ≡ recovered (seen_of old) (behind_of old))
  still_recovers old new few h s is =
      leaves_call old.pair new (recovered (seen_of old) (behind_of old)) few h s.time (λ v j l.
      let was = is v j (leaves_still old new s v j l) in
      ap (λ (x : Blocks). recovered x j) was.0 ∙ ap (recovered (seen_of old)) was.1)

-- ---- runs in turn

module _ {D : Type 0} (moment : D → ℕ) (left_since : D → ℕ → Blocks → Blocks → Type 0) where
  pub back_then : (old mid new : D) (x y : Blocks) → y ≡ x
      → PairLeaves moment left_since old mid (λ a b. recovered a b ≡ x)
      → PairLeaves moment left_since mid new (λ a b. recovered a b ≡ y)
      → PairLeaves moment left_since old new (λ a b. recovered a b ≡ x)
  back_then old mid new x y e first next =
      pair_then moment left_since old mid new (λ a b. recovered a b ≡ x) first
      (pair_weaker moment left_since mid new (λ a b. recovered a b ≡ y) (λ a b. recovered a b ≡ x)
      (λ a b is. is ∙ e) next)

  pub back_as : (old new : D) (x y : Blocks) → y ≡ x
      → PairLeaves moment left_since old new (λ a b. recovered a b ≡ y)
      → PairLeaves moment left_since old new (λ a b. recovered a b ≡ x)
  back_as old new x y e run =
      pair_weaker moment left_since old new (λ a b. recovered a b ≡ y) (λ a b. recovered a b ≡ x)
      (λ a b is. is ∙ e) run

-- ---- the homes of a region, read one after the other

-- The homes of the first k slots of n are read, each below a limit, and nothing was written. The page holds
-- the index block of the next one, where it is not the first of its block.
pub record HomesTo {P A : Type 0} {m : _} (n limit k : ℕ) (homes page : List ℕ)
    (old new : CommittedLog P A m) : Type 0 where
  pub as_many : length homes ≡ k
  pub below : All (λ h. h < limit) homes
  pub are : IsHonest old → homes ≡ slot_homes n 0 k (behind_of old)
  pub held : IsHonest old → 0 < k % 1024 → page ≡ block_at (2 + n + k / 1024) (behind_of old)
  pub still : IsHonest old → IsStill old new
  pub log : SameLog old new
  pub honest : IsHonest old ↔ IsHonest new

pub homes_start : {P A : Type 0} {m : _} (n limit : ℕ) (page : List ℕ) (d : CommittedLog P A m)
    → HomesTo n limit 0 [] page d d
homes_start n limit page d = record {
  as_many = refl;
  below = λ k x lt. absurd (omega (arith, lt));
  are = λ h. refl;
  held = λ h some. absurd (omega (arith, some));
  still = λ h. still_none d;
  log = record { homes = refl; slots = refl; clearing = refl };
  honest = (λ h. h, λ h. h);
}

pub homes_step : {P A : Type 0} {m : _} (n limit k home : ℕ) (homes page page' : List ℕ)
    (old mid new : CommittedLog P A m) → HomesTo n limit k homes page old mid → home < limit
    → ((t : ℕ) (a b : Blocks) → IsHonest old → t ≤ m.moment old.pair → m.may_leave old.pair a b
    → m.left_since old.pair t a b)
    → (IsHonest mid → page' ≡ block_at (2 + n + k / 1024) (behind_of mid))
    → (IsHonest mid → home ≡ home_in n k (behind_of mid))
    → (IsHonest mid → IsStill mid new) → SameLog mid new → (IsHonest mid ↔ IsHonest new)
    → HomesTo n limit (k + 1) (homes ++ home ∷ []) page' old new
homes_step n limit k home homes page page' old mid new c lt counts held home_is still log honest = record {
  as_many = length_push homes home ∙ ap (λ (i : ℕ). i + 1) c.as_many;
  below = All-push (λ h. h < limit) homes home c.below lt;
  are = λ h.
      ap (λ (l : List ℕ). l ++ home ∷ []) (c.are h)
      ∙ ap (λ (i : ℕ). slot_homes n 0 k (behind_of old) ++ i ∷ [])
      (home_is (c.honest.0 h) ∙ ap (home_in n k) (behind_still old mid (c.still h)))
      ∙ homes_push n 0 k k (behind_of old) (omega arith)
      ∙ ap (λ (i : ℕ). slot_homes n 0 i (behind_of old)) (next k);
  held = λ h some.
      held (c.honest.0 h) ∙ ap (block_at (2 + n + k / 1024)) (behind_still old mid (c.still h))
      ∙ ap (λ (i : ℕ). block_at (2 + n + i) (behind_of old)) (same k some);
  still = λ h. still_then old mid new (λ t a b le left. counts t a b h le left) (c.still h)
      (still (c.honest.0 h));
  log = log_then old mid new c.log log;
  honest = (λ h. honest.0 (c.honest.0 h), λ h. c.honest.1 (honest.1 h));
}
  where
    next : (k : ℕ) → suc k ≡ k + 1
    next k = omega arith

    same : (k : ℕ) → 0 < (k + 1) % 1024 → k / 1024 ≡ (k + 1) / 1024
    same k some = omega (arith, some)

-- ---- the regions, taken in one after the other

-- Some regions were taken in, and what is recovered stays.
pub record TakenTo {P A : Type 0} {m : _} (old new : CommittedLog P A m) : Type 0 where
  pub settled : clearing_of new ≡ false
  pub honest : IsHonest old ↔ IsHonest new
  pub durable : IsHonest new → IsDurable new
  pub base : IsHonest old → base_of new ≡ base_of old
  pub seen : IsHonest old
      → recovered (seen_of new) (behind_of new) ≡ recovered (seen_of old) (behind_of old)
  pub journal : IsHonest old → (journal_of new ≡ journal_of old) ⊎ (says (block_at 0 (behind_of new)) ≡ false)
  pub stops : IsHonest old
      → PairLeaves m.moment m.left_since old.pair new.pair
      (λ a b. recovered a b ≡ recovered (base_of old) (journal_of old))
  pub appends : IsHonest old → AppendsOnly old new

-- where a flag was added, no region is behind the others
pub journal_on : (old mid new behind behind' : Blocks) → (mid ≡ old) ⊎ (says (block_at 0 behind) ≡ false)
    → says (block_at 0 behind) ≡ true → (new ≡ mid) ⊎ (says (block_at 0 behind') ≡ false)
    → (new ≡ old) ⊎ (says (block_at 0 behind') ≡ false)
journal_on old mid new behind behind' was said is = ⊎_elim
    (λ (same : mid ≡ old). ⊎_elim (λ (e : new ≡ mid). inl (e ∙ same)) (λ unsaid. inr unsaid) is)
    (λ (unsaid : says (block_at 0 behind) ≡ false).
    let never : true ≡ false = sym said ∙ unsaid in absurd (cc))
    was

-- the region behind those that were taken in is broken
pub taken_malformed : {P A : Type 0} {m : _} (old mid : CommittedLog P A m) → TakenTo old mid → IsHonest old
    → IsBroken (base_of mid) (behind_of mid) → IsMalformed (base_of old) (journal_of old)
taken_malformed {m = m} old mid c h broken = ⊎_elim
    (λ (same : journal_of mid ≡ journal_of old).
    let ml : Blocks → Blocks → Type 0 = m.may_leave mid.pair in
    let s : IsStanding false (homes_of mid) (base_of mid) (journal_of mid) ml =
    subst (λ (t : Bool). IsStanding t (homes_of mid) (base_of mid) (journal_of mid) ml) c.settled
    (mid.standing (c.honest.0 h)) in
    subst (λ (b : Blocks). IsMalformed b (journal_of old)) (c.base h)
    (subst (IsMalformed (base_of mid)) same
    (malformed_behind (homes_of mid) (base_of mid) (journal_of mid) s.regions s.reads broken)))
    (λ (unsaid : says (block_at 0 (behind_of mid)) ≡ false).
    let never : true ≡ false = sym broken.0 ∙ unsaid in absurd (cc))
    (c.journal h)

-- no region is behind them: all is read
pub taken_end : {P A : Type 0} {m : _} (old mid : CommittedLog P A m) → TakenTo old mid → IsHonest old
    → says (block_at 0 (behind_of mid)) ≡ false → seen_of mid ≡ recovered (seen_of old) (behind_of old)
taken_end old mid c h unsaid =
    sym (recovered_unsaid (seen_of mid) (behind_of mid) unsaid) ∙ c.seen h

module _ {P A : Type 0} {m : Ghosts P} (few : (d : P) → length (m.base d) ≤ 2 ^ 31)
    (shown : (d : P) → m.honest d → m.may_leave d (m.base d) (m.journal d)) where
  pub back_of : (c : CommittedLog P A m) → IsHonest c
      → recovered (base_of c) (journal_of c) ≡ recovered (seen_of c) (behind_of c)
  back_of c h = reads_back c (few c.pair) h (shown c.pair h)

  -- a call behind them
  pub taken_stops : (old mid : CommittedLog P A m) (new : P) → TakenTo old mid → IsHonest old
      → PairLeaves m.moment m.left_since mid.pair new
      (λ a b. recovered a b ≡ recovered (base_of mid) (journal_of mid))
      → PairLeaves m.moment m.left_since old.pair new
      (λ a b. recovered a b ≡ recovered (base_of old) (journal_of old))
  taken_stops old mid new c h run =
      back_then m.moment m.left_since old.pair mid.pair new (recovered (base_of old) (journal_of old))
      (recovered (base_of mid) (journal_of mid))
      (back_of mid (c.honest.0 h) ∙ c.seen h ∙ sym (back_of old h)) (c.stops h) run

  -- one region more, or none
  pub taken_more : (old mid new : CommittedLog P A m) → TakenTo old mid → clearing_of new ≡ false
      → (IsHonest mid ↔ IsHonest new) → (IsHonest mid → IsDurable new)
      → (IsHonest mid → base_of new ≡ base_of mid)
      → (IsHonest mid
      → recovered (seen_of new) (behind_of new) ≡ recovered (seen_of mid) (behind_of mid))
      → (IsHonest mid
      → PairLeaves m.moment m.left_since mid.pair new.pair
      (λ a b. recovered a b ≡ recovered (base_of mid) (journal_of mid)))
      → (IsHonest old
      → (journal_of new ≡ journal_of old) ⊎ (says (block_at 0 (behind_of new)) ≡ false))
      → (IsHonest mid → AppendsOnly mid new)
      → TakenTo old new
  taken_more old mid new c settled honest durable base seen stops journal appends = record {
    settled = settled;
    honest = (λ h. honest.0 (c.honest.0 h), λ h. c.honest.1 (honest.1 h));
    durable = λ h. durable (honest.1 h);
    base = λ h. base (c.honest.0 h) ∙ c.base h;
    seen = λ h. seen (c.honest.0 h) ∙ c.seen h;
    journal = journal;
    stops = λ h. taken_stops old mid new.pair c h (stops (c.honest.0 h));
    appends = λ h. appends_then old mid new (c.appends h) (appends (c.honest.0 h));
  }

  -- a call that leaves what is read, where no region is behind them
  pub taken_last : (old mid : CommittedLog P A m) (new : P) → TakenTo old mid → IsHonest old
      → says (block_at 0 (behind_of mid)) ≡ false
      → PairLeaves m.moment m.left_since mid.pair new (λ a b. recovered a b ≡ seen_of mid)
      → PairLeaves m.moment m.left_since old.pair new
      (λ a b. recovered a b ≡ recovered (base_of old) (journal_of old))
  taken_last old mid new c h unsaid run =
      back_then m.moment m.left_since old.pair mid.pair new (recovered (base_of old) (journal_of old))
      (seen_of mid) (taken_end old mid c h unsaid ∙ sym (back_of old h)) (c.stops h) run
