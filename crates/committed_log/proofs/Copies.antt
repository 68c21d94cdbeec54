-- The newest slot of each block copied home, one after the other.
use Rattle.std.proofs.Common.{◌≡◌, ◌∙◌, ◌⊎◌, ◌↔◌, ℕ, zero, suc, ◌+◌, ◌<◌, ◌≤◌, List, [], ◌∷◌, length, get_or}
use Rattle.std.proofs.Common.{sym, ap, subst, arith, inl, inr, ⊎_elim}
use Rattle.std.specs.List.{Contains}
use Rattle.std.proofs.lemmas.Bool.{cases_eq, cases_lt}
use Rattle.std.proofs.lemmas.List.{get_or_default}
use Rattle.block_device.specs.Device.{Blocks, block_at, written}
use Rattle.block_device.specs.Written.{block_at-written, block_at-written_other, length-written_within}
use Rattle.device_pair.specs.Pairs.{PairLeaves}
use Rattle.committed_log.specs.Committed.{base_of, homes_of, journal_of, seen_of}
use Rattle.committed_log.specs.Committed.{IsHonest, SameLog}
use Rattle.committed_log.specs.Found.{IsSlot}
use Rattle.committed_log.specs.Home.{FirstShow, IsCopied, IsQuiet}
use Rattle.committed_log.specs.Log.{overlaid, recovered}
use Rattle.committed_log.specs.Overlay.{overlay_reads}
use Rattle.committed_log.specs.Replay.{later_only, length-overlaid, overlaid_other, same_blocks}
use Rattle.committed_log.specs.declared.log.CommittedLog.{CommittedLog}
use Rattle.committed_log.proofs.Keeping.{last_then, leaves_then}

-- ---- the newest slot of a block

pub one_slot : (homes : List ℕ) (i m k : ℕ) → IsSlot homes i m → IsSlot homes i k → m ≡ k
one_slot homes i m k x y = ⊎_elim
    (λ (lt : m < k). absurd (x.last k lt y.there y.home))
    (λ (le : k ≤ m). ⊎_elim
    (λ (lt : k < m). absurd (y.last m lt x.there x.home))
    (λ (le' : m ≤ k). omega (arith, le, le'))
    (cases_lt k m))
    (cases_lt m k)

-- there is one, or the block has no slot
pub find_slot : (homes : List ℕ) (i : ℕ) → ((m : ℕ) × IsSlot homes i m) ⊎ ¬ Contains homes i
find_slot [] i = inr (λ one. omega (arith, one.1))
find_slot (h ∷ hs) i = ⊎_elim
    (λ (found : (m : ℕ) × IsSlot hs i m). inl (
      suc found.0,
      record {
        there = omega (arith, found.1.there);
        home = found.1.home;
        last = later (suc found.0) (λ k gt lt. found.1.last k (omega (arith, gt)) lt);
      },
    ))
    (λ (none : ¬ Contains hs i). ⊎_elim
    (λ (here : i ≡ h). inl (
      0,
      record {
        there = omega arith;
        home = sym here;
        last = later 0 (λ k gt lt e. none (k, lt, get_any hs k i lt e));
      },
    ))
    (λ (apart : ¬ (i ≡ h)). inr (later_only i h hs apart none))
    (cases_eq i h))
    (find_slot hs i)
  where
    get_any : (l : List ℕ) (k i : ℕ) → k < length l → get_or l k 0 ≡ i → get_or l k i ≡ i
    get_any l k i lt e = get_or_default l k i 0 lt ∙ e

    later : (m : ℕ) → ((k : ℕ) → m < suc k → k < length hs → ¬ (get_or hs k 0 ≡ i))
        → (k : ℕ) → m < k → k < length (h ∷ hs) → ¬ (get_or (h ∷ hs) k 0 ≡ i)
    later m each zero gt lt = absurd (omega (arith, gt))
    later m each (suc k) gt lt = each k gt (omega (arith, lt))

-- ---- the copies so far

-- the newest slots among the first k are home, and all other blocks are as they were
pub record HomeTo (k : ℕ) (homes : List ℕ) (journal old new : Blocks) : Type 0 where
  pub home : (i m : ℕ) → i < length old → m < k → IsSlot homes i m → block_at i new ≡ block_at m journal
  pub others : (i : ℕ) → ((m : ℕ) → m < k → ¬ IsSlot homes i m) → block_at i new ≡ block_at i old
  pub as_many : length new ≡ length old

home_step : (k : ℕ) (homes : List ℕ) (journal old mid new : Blocks) → HomeTo k homes journal old mid
    → ((i : ℕ) → i < length mid → IsSlot homes i k → block_at i new ≡ block_at k journal)
    → ((i : ℕ) → ¬ IsSlot homes i k → block_at i new ≡ block_at i mid) → length new ≡ length mid
    → HomeTo (k + 1) homes journal old new
home_step k homes journal old mid new c home others as_many = record {
  home = λ i m lt less slot. ⊎_elim
      (λ (here : m ≡ k).
      home i (omega (arith, lt, c.as_many)) (subst (IsSlot homes i) here slot)
      ∙ ap (λ (n : ℕ). block_at n journal) (sym here))
      (λ (apart : ¬ (m ≡ k)).
      others i (λ other. apart (one_slot homes i m k slot other))
      ∙ c.home i m lt (before m less apart) slot)
      (cases_eq m k);
  others = λ i none.
      others i (none k (omega arith)) ∙ c.others i (λ m less. none m (omega (arith, less)));
  as_many = as_many ∙ c.as_many;
}
  where
    before : (m : ℕ) → m < k + 1 → ¬ (m ≡ k) → m < k
    before m less ne =
        ⊎_elim (λ (l : m < k). l) (λ (ge : k ≤ m). absurd (ne (omega (arith, ge, less)))) (cases_lt m k)

-- all are home
home_end : (k : ℕ) (homes : List ℕ) (journal old new : Blocks) → length homes ≤ k
    → HomeTo k homes journal old new → new ≡ overlaid homes journal old
home_end k homes journal old new le c =
    same_blocks new (overlaid homes journal old)
    (c.as_many ∙ sym (length-overlaid homes journal old)) (λ i lt.
    let there : i < length old = omega (arith, lt, c.as_many) in
    ⊎_elim
    (λ (found : (m : ℕ) × IsSlot homes i m).
    c.home i found.0 there (omega (arith, found.1.there, le)) found.1
    ∙ sym (overlay_reads i found.0 homes journal old found.1 there))
    (λ (none : ¬ Contains homes i).
    c.others i (λ m less slot. none (
      m,
      slot.there,
      get_or_default homes m i 0 slot.there ∙ slot.home,
    ))
    ∙ sym (overlaid_other homes journal old i none))
    (find_slot homes i))

pub record CopiedTo {P A : Type 0} {m : _} (k : ℕ) (old new : CommittedLog P A m) : Type 0 where
  pub log : SameLog old new
  pub honest : IsHonest old ↔ IsHonest new
  pub faults : m.faults new.pair ≡ m.faults old.pair
  pub journal : IsHonest old → journal_of new ≡ journal_of old
  pub home : IsHonest old → HomeTo k (homes_of old) (journal_of old) (base_of old) (base_of new)
  pub seen : IsHonest old → seen_of new ≡ seen_of old
  pub quiet : IsHonest old → IsQuiet new
  pub stops : IsHonest old
      → PairLeaves m.moment m.left_since old.pair new.pair (λ a b. recovered a b ≡ seen_of old)
  pub last : IsHonest old
      → PairLeaves m.moment m.left_since old.pair new.pair (FirstShow (homes_of old) (seen_of old))

pub copies_step : {P A : Type 0} {m : _} (k : ℕ) (old mid new : CommittedLog P A m) → CopiedTo k old mid
    → SameLog mid new → (IsHonest mid ↔ IsHonest new) → m.faults new.pair ≡ m.faults mid.pair
    → (IsHonest mid → journal_of new ≡ journal_of mid) → (IsHonest mid → IsCopied k mid new)
    → (IsHonest mid → seen_of new ≡ seen_of mid) → (IsHonest mid → IsQuiet new)
    → (IsHonest mid
    → PairLeaves m.moment m.left_since mid.pair new.pair (λ a b. recovered a b ≡ seen_of mid))
    → (IsHonest mid
    → PairLeaves m.moment m.left_since mid.pair new.pair (FirstShow (homes_of mid) (seen_of mid)))
    → CopiedTo (k + 1) old new
copies_step k old mid new c log honest faults journal copied seen quiet stops last = record {
  log = record {
    homes = log.homes ∙ c.log.homes;
    slots = log.slots ∙ c.log.slots;
    clearing = log.clearing ∙ c.log.clearing;
  };
  honest = (λ h. honest.0 (c.honest.0 h), λ h. c.honest.1 (honest.1 h));
  faults = faults ∙ c.faults;
  journal = λ h. journal (c.honest.0 h) ∙ c.journal h;
  home = λ h.
      let is : IsCopied k mid new = copied (c.honest.0 h) in
      home_step k (homes_of old) (journal_of old) (base_of old) (base_of mid) (base_of new) (c.home h)
      (λ i lt slot. is.home i lt (subst (λ (l : List ℕ). IsSlot l i k) (sym c.log.homes) slot)
      ∙ ap (block_at k) (c.journal h))
      (λ i none. is.others i (λ slot. none (subst (λ (l : List ℕ). IsSlot l i k) c.log.homes slot)))
      is.as_many;
  seen = λ h. seen (c.honest.0 h) ∙ c.seen h;
  quiet = λ h. quiet (c.honest.0 h);
  stops = λ h. leaves_then old mid new (c.seen h) (c.stops h) (stops (c.honest.0 h));
  last = λ h. last_then old mid new (c.seen h) c.log.homes (c.last h) (last (c.honest.0 h));
}

pub copies_end : {P A : Type 0} {m : _} (k : ℕ) (old new : CommittedLog P A m) → length (homes_of old) ≤ k
    → CopiedTo k old new → IsHonest old → base_of new ≡ seen_of old
copies_end k old new le c h =
    home_end k (homes_of old) (journal_of old) (base_of old) (base_of new) le (c.home h)

-- a block written where its newest slot is slot k
pub copied_now : {P A : Type 0} {m : _} (k h : ℕ) (bytes : List ℕ) (old new : CommittedLog P A m)
    → IsSlot (homes_of old) h k → h < length (base_of old) → bytes ≡ block_at k (journal_of old)
    → base_of new ≡ written h bytes (base_of old) → IsCopied k old new
copied_now k h bytes old new slot lt is w = record {
  home = λ i less other.
      ap (λ (n : ℕ). block_at n (base_of new)) (sym other.home ∙ slot.home) ∙ ap (block_at h) w
      ∙ block_at-written h bytes (base_of old) (omega (arith, lt)) ∙ is;
  others = λ i none.
      ap (block_at i) w
      ∙ block_at-written_other h i bytes (base_of old) (omega (arith, lt))
      (λ e. none (subst (λ (n : ℕ). IsSlot (homes_of old) n k) (sym e) slot));
  as_many = ap length w ∙ length-written_within h bytes (base_of old) lt;
}
