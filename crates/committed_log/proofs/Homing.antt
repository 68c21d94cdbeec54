-- The slots copied home, and the first flag cleared: what stands then, and what a stop leaves.
use Rattle.std.proofs.Common.{◌≡◌, ◌∙◌, ℕ, ◌^◌, ◌<◌, ◌≤◌, Bool, true, false, List, [], length, drop, take}
use Rattle.std.proofs.Common.{Ok, Err, OnOk, OnErr, refl, sym, ap, subst, arith, ⊎_elim}
use Rattle.std.specs.List.{All, Contains}
use Rattle.std.proofs.lemmas.Bool.{cases_lt}
use Rattle.std.proofs.lemmas.List.{get_or-drop, get_or-take, length-drop}
use Rattle.block_device.specs.Device.{Blocks, Torn, block_at, written}
use Rattle.block_device.specs.Written.{block_at-written_other, length-written_within}
use Rattle.block_device.specs.Written.{torn_other}
use Rattle.device_pair.specs.Pairs.{BaseFollows, JournalFollows, PairsNoMore}
use Rattle.committed_log.specs.FlagLaws.{says-none}
use Rattle.committed_log.specs.Home.{FirstShow}
use Rattle.committed_log.specs.Log.{flag_block, homes_in, no_home, overlaid, recovered, says}
use Rattle.committed_log.specs.Overlay.{overlay_aside, overlay_home}
use Rattle.committed_log.specs.Regions.{flagged_aside, homes_nil, recovered_unsaid}
use Rattle.committed_log.specs.Stops.{AreWholeBelow, IsClearing, IsHome, IsKept, IsStanding, flagged}
use Rattle.committed_log.specs.Torn.{torn_size}
use Rattle.committed_log.specs.Whole.{whole_none}
use Rattle.committed_log.proofs.Recovering.{first_stands, recovery_stands}
use Rattle.committed_log.proofs.Stood.{Answer, Leaves, first_home, overlay_left, still_stands}

abbrev Outcomes : Type 1
Outcomes = Blocks → Blocks → Type 0

-- The base is synced, as it is read through these regions, and no region behind them is committed.
pub record Quiet (homes : List ℕ) (seen : Blocks) (ml : Outcomes) : Type 0 where
  pub base : (v j : Blocks) → Leaves homes ml v j → v ≡ seen
  pub unsaid : (v j : Blocks) → Leaves homes ml v j → says (block_at 0 j) ≡ false
  pub there : (v j : Blocks) → Leaves homes ml v j → 0 < length j

-- what is recovered then is what is read
pub quiet_recovers : (clearing : Bool) (homes : List ℕ) (base journal seen : Blocks) (ml : Outcomes)
    → length base ≤ 2 ^ 31 → IsStanding clearing homes base journal ml → Quiet homes seen ml
    → (a b : Blocks) → ml a b → recovered a b ≡ seen
quiet_recovers clearing homes base journal seen ml few s q a b left =
    let v : Blocks = overlaid homes b a in let j : Blocks = drop (length homes) b in
    recovery_stands clearing homes base journal a b ml few s left
    ∙ recovered_unsaid v j (q.unsaid v j (a, b, left, refl, refl))
    ∙ q.base v j (a, b, left, refl, refl)

-- also by who has read the regions alone
pub quiet_first : (clearing : Bool) (homes : List ℕ) (base journal seen : Blocks) (ml : Outcomes)
    → length base ≤ 2 ^ 31 → IsStanding clearing homes base journal ml → Quiet homes seen ml
    → (a b : Blocks) → ml a b → FirstShow homes seen a b
quiet_first clearing homes base journal seen ml few s q a b left =
    let is : overlaid homes b a ≡ seen =
    q.base (overlaid homes b a) (drop (length homes) b) (a, b, left, refl, refl) in
    (first_stands clearing homes base journal a b ml few s left ∙ is, is)

pub quiet_still : (homes : List ℕ) (seen : Blocks) (ml ml' : Outcomes) → PairsNoMore ml ml'
    → Quiet homes seen ml → Quiet homes seen ml'
quiet_still homes seen ml ml' more q = record {
  base = λ v j l. q.base v j (l.0, l.1, more l.0 l.1 l.2, l.3, l.4);
  unsaid = λ v j l. q.unsaid v j (l.0, l.1, more l.0 l.1 l.2, l.3, l.4);
  there = λ v j l. q.there v j (l.0, l.1, more l.0 l.1 l.2, l.3, l.4);
}

-- ---- the first flag cleared

pub true_stands : (clearing : Bool) (homes : List ℕ) (base journal : Blocks) (ml : Outcomes)
    → clearing ≡ true → IsStanding clearing homes base journal ml → IsStanding true homes base journal ml
true_stands clearing homes base journal ml e s =
    subst (λ (t : Bool). IsStanding t homes base journal ml) e s

behind_says : (homes : List ℕ) (base journal a b : Blocks) → IsClearing homes base journal a b
    → says (block_at 0 (drop (length homes) b)) ≡ false
behind_says homes base journal a b stop =
    ap says (get_or-drop (length homes) b 0 [] ∙ ap (λ (n : ℕ). block_at n b) (omega arith)) ∙ stop.unsaid

pub clearing_quiet : (homes : List ℕ) (base journal : Blocks) (ml : Outcomes) → length base ≤ 2 ^ 31
    → IsStanding true homes base journal ml → Quiet homes (overlaid homes journal base) ml
clearing_quiet homes base journal ml few s = record {
  base = λ v j l.
      let stop : IsClearing homes base journal l.0 l.1 = s.stops l.0 l.1 l.2 in
      l.3 ∙ ap (overlaid homes l.1) stop.base_is
      ∙ overlay_left true homes base journal l.0 l.1 base s.regions (omega (arith, few)) stop;
  unsaid = λ v j l.
      ap (λ (x : Blocks). says (block_at 0 x)) l.4
      ∙ behind_says homes base journal l.0 l.1 (s.stops l.0 l.1 l.2);
  there = λ v j l.
      let stop : IsClearing homes base journal l.0 l.1 = s.stops l.0 l.1 l.2 in
      omega (arith, ap length l.4, length-drop (length homes) l.1, stop.there);
}

-- all slots are home, and the base is synced
pub clearing_stands : (clearing : Bool) (homes : List ℕ) (base journal : Blocks) (ml : Outcomes)
    → 0 < length homes → clearing ≡ false → base ≡ overlaid homes journal base
    → ((a b : Blocks) → ml a b → a ≡ base) → Quiet homes (overlaid homes journal base) ml
    → IsStanding clearing homes base journal ml → IsStanding true homes base journal ml
clearing_stands clearing homes base journal ml some settled home is q stands =
    let s : IsStanding false homes base journal ml =
    subst (λ (t : Bool). IsStanding t homes base journal ml) settled stands in
    record {
      there = s.there;
      regions = s.regions;
      homes = s.homes;
      whole = s.whole;
      reads = (some, sym home);
      stops = λ a b left.
          let was : IsKept homes journal a b = s.stops a b left in
          let v : Blocks = overlaid homes b a in let j : Blocks = drop (length homes) b in
          record {
            base_is = is a b left;
            there = was.there;
            same = λ k gt lt.
                sym (get_or-take (length homes) b k [] lt)
                ∙ ap (block_at k) was.regions
                ∙ get_or-take (length homes) journal k [] lt;
            unsaid = ap says (ap (λ (n : ℕ). block_at n b) (omega arith)
                ∙ sym (get_or-drop (length homes) b 0 []))
                ∙ q.unsaid v j (a, b, left, refl, refl);
          };
    }

pub seen_equal : (homes : List ℕ) (base base' journal journal' : Blocks) → base' ≡ base
    → journal' ≡ journal → overlaid homes journal' base' ≡ overlaid homes journal base
seen_equal homes base base' journal journal' b j =
    ap (λ (x : Blocks). overlaid homes x base') j ∙ ap (overlaid homes journal) b

-- the sync after which the first flag may be cleared
pub copied_stands : (clearing : Bool) (homes : List ℕ) (base base' journal journal' : Blocks)
    (ml ml' : Outcomes) → 0 < length homes → clearing ≡ false → base' ≡ base → journal' ≡ journal
    → PairsNoMore ml ml' → ((a b : Blocks) → ml' a b → a ≡ base) → base ≡ overlaid homes journal base
    → Quiet homes (overlaid homes journal base) ml → IsStanding clearing homes base journal ml
    → IsStanding true homes base' journal' ml'
copied_stands clearing homes base base' journal journal' ml ml' some settled b j more is home q s =
    subst (λ (x : Blocks). IsStanding true homes x journal' ml') (sym b)
    (subst (λ (x : Blocks). IsStanding true homes base x ml') (sym j)
    (clearing_stands clearing homes base journal ml' some settled home is
    (quiet_still homes (overlaid homes journal base) ml ml' more q)
    (still_stands clearing homes base base journal journal ml ml' refl refl more s)))

-- the same blocks, block 0 aside
pub record SameAside (new old : Blocks) : Type 0 where
  pub as_many : length new ≡ length old
  pub same : (k : ℕ) → 0 < k → block_at k new ≡ block_at k old

torn_aside : (old new : Blocks) → 0 < length old → Torn 0 old new → SameAside new old
torn_aside old new some torn = record {
  as_many = torn_size 0 old new some torn;
  same = λ k gt. torn_other 0 k old new torn (omega arith) (λ e. omega (arith, e, gt));
}

-- where block 0 was written, cut short or not
pub aside_answer : (r : Answer) (bytes : List ℕ) (old new : Blocks) → 0 < length old
    → OnOk r (new ≡ written 0 bytes old) → OnErr r (Torn 0 old new) → SameAside new old
aside_answer (Ok u) bytes old new some w t = record {
  as_many = ap length w ∙ length-written_within 0 bytes old some;
  same = λ k gt. ap (block_at k) w
      ∙ block_at-written_other 0 k bytes old (omega arith) (λ e. omega (arith, e, gt));
}
aside_answer (Err e) bytes old new some w t = torn_aside old new some t

module _ (homes : List ℕ) (base base' journal journal' : Blocks) (ml ml' : Outcomes)
    (same : base' ≡ base) (aside : SameAside journal' journal)
    (few : length base ≤ 2 ^ 31) (s : IsStanding true homes base journal ml) where
  pub flag_seen : overlaid homes journal' base' ≡ overlaid homes journal base
  flag_seen = ap (overlaid homes journal') same
      ∙ overlay_aside homes journal journal' base (first_home homes journal s.regions) (omega (arith, few))
      (λ k gt lt. aside.same k gt)

  flag_first : flagged (take (length homes) journal') ≡ flagged (take (length homes) journal)
  flag_first =
      flagged_aside (length homes) journal journal' (omega (arith, s.there))
      (omega (arith, aside.as_many, s.there)) (λ k gt lt. aside.same k gt)

  pub flag_stands : JournalFollows (Torn 0) ml ml' → IsStanding true homes base' journal' ml'
  flag_stands follows =
      subst (λ (x : Blocks). IsStanding true homes x journal' ml') (sym same) (record {
        there = omega (arith, aside.as_many, s.there);
        regions = ap homes_in flag_first ∙ s.regions;
        homes = s.homes;
        whole = subst (AreWholeBelow no_home) (sym flag_first) s.whole;
        reads = (
          s.reads.0,
          overlay_aside homes journal journal' base (first_home homes journal s.regions)
              (omega (arith, few)) (λ k gt lt. aside.same k gt) ∙ s.reads.1,
        );
        stops = λ a b left.
            let from = follows a b left in
            let was : IsClearing homes base journal a from.0 = s.stops a from.0 from.1 in
            let then : SameAside b from.0 = torn_aside from.0 b (omega (arith, was.there)) from.2 in
            record {
              base_is = was.base_is;
              there = omega (arith, then.as_many, was.there);
              same = λ k gt lt. then.same k gt ∙ was.same k gt lt ∙ sym (aside.same k gt);
              unsaid = ap says (then.same (length homes) s.reads.0) ∙ was.unsaid;
            };
      })

-- ---- the log begun anew

module _ (homes homes' : List ℕ) (base base' journal journal' : Blocks) (ml ml' : Outcomes)
    (none : homes' ≡ []) (same : base' ≡ base) (same' : journal' ≡ journal) (more : PairsNoMore ml ml')
    (s : IsStanding true homes base journal ml) where
  pub anew_stands : IsStanding false homes' base' journal' ml'
  anew_stands =
      subst (λ (l : List ℕ). IsStanding false l base' journal' ml') (sym none) (record {
        there = omega (arith, ap length same', s.there);
        regions = homes_nil;
        homes = λ k d lt. absurd (omega (arith, lt));
        whole = whole_none no_home;
        reads = λ some. absurd (omega (arith, some));
        stops = λ a b left.
            let was : IsClearing homes base journal a b = s.stops a b (more a b left) in
            record {
              there = omega (arith, was.there);
              regions = refl;
              homes = λ k d lt. absurd (omega (arith, lt));
            };
      })

  pub anew_quiet : ((a b : Blocks) → ml' a b → b ≡ journal) → block_at 0 journal ≡ flag_block 0
      → Quiet homes' (overlaid homes' journal' base') ml'
  anew_quiet is flag =
      subst (λ (l : List ℕ). Quiet l (overlaid l journal' base') ml') (sym none) (record {
        base = λ v j l. l.3 ∙ (s.stops l.0 l.1 (more l.0 l.1 l.2)).base_is ∙ sym same;
        unsaid = λ v j l. ap (λ (x : Blocks). says (block_at 0 x)) (l.4 ∙ is l.0 l.1 l.2) ∙ ap says flag
            ∙ says-none;
        there = λ v j l. omega (arith, ap length (l.4 ∙ is l.0 l.1 l.2), s.there);
      })

-- ---- a slot copied home

pub at_home : (homes : List ℕ) (n m h : ℕ) → All (IsHome m) homes → Contains homes h → h < n → n ≤ 2 ^ 31
    → h < m
at_home homes n m h are one lt few = ⊎_elim
    (λ (less : h < m). less)
    (λ (past : m ≤ h). absurd
    (omega (arith, lt, few, are one.0 h one.1 (λ less. omega (arith, past, less, one.2)), one.2)))
    (cases_lt h m)

module _ (clearing : Bool) (homes : List ℕ) (h : ℕ) (base base' journal journal' : Blocks)
    (ml ml' : Outcomes) (settled : clearing ≡ false) (one : Contains homes h) (lt : h < length base)
    (few : length base ≤ 2 ^ 31) (same : journal' ≡ journal)
    (s : IsStanding clearing homes base journal ml) where
  pub home_seen : Torn h base base' → overlaid homes journal' base' ≡ overlaid homes journal base
  home_seen torn =
      ap (λ (j : Blocks). overlaid homes j base') same ∙ overlay_home homes h journal base base' one lt torn

  pub home_quiet : BaseFollows (Torn h) ml ml' → Quiet homes (overlaid homes journal base) ml
      → Quiet homes (overlaid homes journal base) ml'
  home_quiet follows q = record {
    base = λ v j l.
        let from = follows l.0 l.1 l.2 in
        let was : IsKept homes journal from.0 l.1 =
        (subst (λ (t : Bool). IsStanding t homes base journal ml) settled s).stops from.0 l.1 from.1 in
        l.3
        ∙ overlay_home homes h l.1 from.0 l.0 one
        (at_home homes (length base) (length from.0) h was.homes one lt few) from.2
        ∙ q.base (overlaid homes l.1 from.0) j (from.0, l.1, from.1, refl, l.4);
    unsaid = λ v j l.
        let from = follows l.0 l.1 l.2 in
        q.unsaid (overlaid homes l.1 from.0) j (from.0, l.1, from.1, refl, l.4);
    there = λ v j l.
        let from = follows l.0 l.1 l.2 in
        q.there (overlaid homes l.1 from.0) j (from.0, l.1, from.1, refl, l.4);
  }

-- ---- the blocks behind the regions

pub drop_longer : (homes homes' : List ℕ) (journal journal' : Blocks) → length homes' ≤ length homes
    → length journal ≤ length journal'
    → length (drop (length homes) journal) ≤ length (drop (length homes') journal')
drop_longer homes homes' journal journal' le more =
    omega (arith, length-drop (length homes) journal, length-drop (length homes') journal', le, more)
