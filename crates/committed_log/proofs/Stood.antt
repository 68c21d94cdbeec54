-- What stands through each call, and what is read then.
use Rattle.std.proofs.Common.{◌≡◌, ◌∙◌, ℕ, ◌+◌, ◌<◌, ◌≤◌, Bool, true, false, List, length, take, drop}
use Rattle.std.proofs.Common.{Result, Ok, Err, OnOk, OnErr, refl, sym, ap, subst, arith, inr}
use Rattle.std.specs.Prelude.{slice_index}
use Rattle.std.specs.List.{All, Contains}
use Rattle.block_device.specs.Device.{Blocks, IsBlock, Torn, written}
use Rattle.block_device.specs.declared.device.DeviceError.{DeviceError}
use Rattle.device_pair.specs.Pairs.{BaseFollows, JournalFollows, PairsNoMore}
use Rattle.committed_log.specs.Log.{homes_in, no_home, overlaid, says}
use Rattle.committed_log.specs.Overlay.{overlay_aside, overlay_first, overlay_torn, overlay_written}
use Rattle.committed_log.specs.Regions.{first_none}
use Rattle.committed_log.specs.Stops.{AreWholeBelow, IsHome, IsKept, IsStanding, StopIn, flagged}
use Rattle.committed_log.specs.Torn.{drop_torn, drop_written, take_torn, torn_before, torn_longer}

abbrev Outcomes : Type 1
Outcomes = Blocks → Blocks → Type 0

abbrev pub Answer : Type 0
Answer = Result (Unit {0}) DeviceError

-- of an answer
pub on_ok : (r : Answer) (P Q : Type 0) → (P → Q) → OnOk r P → OnOk r Q
on_ok (Ok u) P Q f p = f p
on_ok (Err e) P Q f p = p

pub on_err : (r : Answer) (P Q : Type 0) → (P → Q) → OnErr r P → OnErr r Q
on_err (Ok u) P Q f p = p
on_err (Err e) P Q f p = f p

pub on_any : (r : Answer) (P : Type 0) → P → OnErr r P
on_any (Ok u) P p = tt
on_any (Err e) P p = p

-- a write that answered, Ok or not, has torn its block at most
pub torn_of : (r : Answer) (i : ℕ) (bytes : List ℕ) (old new : Blocks) → IsBlock bytes
    → OnOk r (new ≡ written i bytes old) → OnErr r (Torn i old new) → Torn i old new
torn_of (Ok u) i bytes old new is w t = inr (bytes, is, w)
torn_of (Err e) i bytes old new is w t = t

-- what a stop leaves, as it is read through regions of these homes
abbrev pub Leaves : List ℕ → Outcomes → Blocks → Blocks → Type 0
Leaves homes ml v j = (a : Blocks) × (b : Blocks) × ml a b × (v ≡ overlaid homes b a)
    × (j ≡ drop (length homes) b)

pub home_more : (n m : ℕ) (homes : List ℕ) → n ≤ m → All (IsHome n) homes → All (IsHome m) homes
home_more n m homes le all k d lt apart = all k d lt (λ less. apart (omega (arith, less, le)))

-- ---- what a stop leaves is read through the regions as they are read

-- the first home of regions is none
pub first_home : (homes : List ℕ) (journal : Blocks)
    → homes_in (flagged (take (length homes) journal)) ≡ homes → 0 < length homes
    → slice_index homes 0 ≡ no_home
first_home homes journal regions some =
    first_none (flagged (take (length homes) journal)) homes regions some

pub overlay_left : (clearing : Bool) (homes : List ℕ) (base journal a b x : Blocks)
    → homes_in (flagged (take (length homes) journal)) ≡ homes → length x ≤ no_home
    → StopIn clearing homes base journal a b → overlaid homes b x ≡ overlaid homes journal x
overlay_left false homes base journal a b x regions few stop = overlay_first homes journal b x stop.regions
overlay_left true homes base journal a b x regions few stop =
    overlay_aside homes journal b x (first_home homes journal regions) few stop.same

-- while no flag is cleared
pub kept_stop : (clearing : Bool) (homes : List ℕ) (base journal : Blocks) (ml : Outcomes) → clearing ≡ false
    → IsStanding clearing homes base journal ml → (a b : Blocks) → ml a b → IsKept homes journal a b
kept_stop clearing homes base journal ml settled s a b left =
    subst (λ (t : Bool). StopIn t homes base journal a b) settled (s.stops a b left)

-- ---- a call that writes nothing

pub still_stands : (clearing : Bool) (homes : List ℕ) (base base' journal journal' : Blocks)
    (ml ml' : Outcomes) → base' ≡ base → journal' ≡ journal → PairsNoMore ml ml'
    → IsStanding clearing homes base journal ml → IsStanding clearing homes base' journal' ml'
still_stands clearing homes base base' journal journal' ml ml' b j more s =
    subst (λ (x : Blocks). IsStanding clearing homes x journal' ml') (sym b)
    (subst (λ (x : Blocks). IsStanding clearing homes base x ml') (sym j) (record {
      there = s.there;
      regions = s.regions;
      homes = s.homes;
      whole = s.whole;
      reads = s.reads;
      stops = λ x y left. s.stops x y (more x y left);
    }))

-- ---- a sync

pub base_durable : (clearing : Bool) (homes : List ℕ) (base journal : Blocks) (ml ml' : Outcomes)
    → length base ≤ no_home → ((a b : Blocks) → ml' a b → a ≡ base) → PairsNoMore ml ml'
    → IsStanding clearing homes base journal ml
    → (v j : Blocks) → Leaves homes ml' v j → v ≡ overlaid homes journal base
base_durable clearing homes base journal ml ml' few is more s v j l =
    l.3 ∙ ap (overlaid homes l.1) (is l.0 l.1 l.2)
    ∙ overlay_left clearing homes base journal l.0 l.1 base s.regions few
    (s.stops l.0 l.1 (more l.0 l.1 l.2))

-- ---- a write of the base, where no first flag is being cleared

module _ (clearing : Bool) (homes : List ℕ) (i : ℕ) (base base' journal journal' : Blocks)
    (ml ml' : Outcomes) (settled : clearing ≡ false) where
  pub base_stands : journal' ≡ journal → Torn i base base' → BaseFollows (Torn i) ml ml'
      → IsStanding clearing homes base journal ml → IsStanding clearing homes base' journal' ml'
  base_stands same torn follows stands =
      let s : IsStanding false homes base journal ml =
      subst (λ (t : Bool). IsStanding t homes base journal ml) settled stands in
      subst (λ (t : Bool). IsStanding t homes base' journal' ml') (sym settled)
      (subst (λ (x : Blocks). IsStanding false homes base' x ml') (sym same) (record {
        there = s.there;
        regions = s.regions;
        homes = home_more (length base) (length base') homes (torn_longer i base base' torn) s.homes;
        whole = s.whole;
        reads = s.reads;
        stops = λ a b left.
            let from = follows a b left in
            let was : IsKept homes journal from.0 b = s.stops from.0 b from.1 in
            record {
              there = was.there;
              regions = was.regions;
              homes = home_more (length from.0) (length a) homes (torn_longer i from.0 a from.2) was.homes;
            };
      }))

  pub base_leaves : ¬ Contains homes i → BaseFollows (Torn i) ml ml'
      → ((a b : Blocks) → ml a b → length a < no_home) → IsStanding clearing homes base journal ml
      → BaseFollows (Torn i) (Leaves homes ml) (Leaves homes ml')
  base_leaves none follows few stands v j l =
      let s : IsStanding false homes base journal ml =
      subst (λ (t : Bool). IsStanding t homes base journal ml) settled stands in
      let from = follows l.0 l.1 l.2 in (
        overlaid homes l.1 from.0,
        (from.0, l.1, from.1, refl, l.4),
        subst (λ (x : Blocks). Torn i (overlaid homes l.1 from.0) x) (sym l.3)
            (overlay_torn homes i l.1 from.0 l.0 none (s.stops from.0 l.1 from.1).homes
            (few from.0 l.1 from.1) from.2),
      )

pub base_written : (homes : List ℕ) (i : ℕ) (x : List ℕ) (base base' journal journal' : Blocks)
    → journal' ≡ journal → ¬ Contains homes i → All (IsHome (length base)) homes → length base < no_home
    → base' ≡ written i x base → overlaid homes journal' base' ≡ written i x (overlaid homes journal base)
base_written homes i x base base' journal journal' same none are few w =
    ap (λ (j : Blocks). overlaid homes j base') same ∙ ap (overlaid homes journal) w
    ∙ overlay_written homes i x journal base none are few

pub base_torn : (homes : List ℕ) (i : ℕ) (base base' journal journal' : Blocks)
    → journal' ≡ journal → ¬ Contains homes i → All (IsHome (length base)) homes → length base < no_home
    → Torn i base base' → Torn i (overlaid homes journal base) (overlaid homes journal' base')
base_torn homes i base base' journal journal' same none are few torn =
    subst (λ (j : Blocks). Torn i (overlaid homes journal base) (overlaid homes j base')) (sym same)
    (overlay_torn homes i journal base base' none are few torn)

-- ---- a write of the journal behind the regions, where no first flag is being cleared

module _ (clearing : Bool) (homes : List ℕ) (i at : ℕ) (base base' journal journal' : Blocks)
    (ml ml' : Outcomes) (settled : clearing ≡ false) (behind : at ≡ length homes + i) where
  kept_torn : (a b b' : Blocks) → IsKept homes journal a b → Torn at b b'
      → take (length homes) b' ≡ take (length homes) b
  kept_torn a b b' was torn =
      take_torn (length homes) at b b' (omega (arith, behind)) (omega (arith, was.there)) torn

  pub behind_stands : base' ≡ base → Torn at journal journal' → JournalFollows (Torn at) ml ml'
      → IsStanding clearing homes base journal ml → IsStanding clearing homes base' journal' ml'
  behind_stands same torn follows stands =
      let s : IsStanding false homes base journal ml =
      subst (λ (t : Bool). IsStanding t homes base journal ml) settled stands in
      let first : take (length homes) journal' ≡ take (length homes) journal =
      take_torn (length homes) at journal journal' (omega (arith, behind)) (omega (arith, s.there)) torn in
      subst (λ (t : Bool). IsStanding t homes base' journal' ml') (sym settled)
      (subst (λ (x : Blocks). IsStanding false homes x journal' ml') (sym same) (record {
        there = omega (arith, s.there, torn_longer at journal journal' torn);
        regions = ap (λ (l : Blocks). homes_in (flagged l)) first ∙ s.regions;
        homes = s.homes;
        whole = subst (λ (l : Blocks). AreWholeBelow no_home (flagged l)) (sym first) s.whole;
        reads = λ some.
            ap says (torn_before 0 at journal journal' (omega (arith, behind, some))
            (omega (arith, some, s.there)) torn)
            ∙ s.reads some;
        stops = λ a b left.
            let from = follows a b left in
            let was : IsKept homes journal a from.0 = s.stops a from.0 from.1 in
            record {
              there = omega (arith, was.there, torn_longer at from.0 b from.2);
              regions = kept_torn a from.0 b was from.2 ∙ was.regions ∙ sym first;
              homes = was.homes;
            };
      }))

  pub behind_leaves : JournalFollows (Torn at) ml ml' → IsStanding clearing homes base journal ml
      → JournalFollows (Torn i) (Leaves homes ml) (Leaves homes ml')
  behind_leaves follows stands v j l =
      let s : IsStanding false homes base journal ml =
      subst (λ (t : Bool). IsStanding t homes base journal ml) settled stands in
      let from = follows l.0 l.1 l.2 in
      let was : IsKept homes journal l.0 from.0 = s.stops l.0 from.0 from.1 in (
        drop (length homes) from.0,
        (
          l.0,
          from.0,
          from.1,
          l.3 ∙ overlay_first homes from.0 l.1 l.0 (kept_torn l.0 from.0 l.1 was from.2),
          refl,
        ),
        subst (Torn i (drop (length homes) from.0)) (sym l.4)
            (drop_torn (length homes) i at from.0 l.1 behind (omega (arith, was.there)) from.2),
      )

  pub behind_seen : base' ≡ base → length homes ≤ length journal → Torn at journal journal'
      → overlaid homes journal' base' ≡ overlaid homes journal base
  behind_seen same there torn =
      ap (overlaid homes journal') same
      ∙ overlay_first homes journal journal' base
      (take_torn (length homes) at journal journal' (omega (arith, behind)) there torn)

  pub behind_written : (x : List ℕ) → length homes ≤ length journal → journal' ≡ written at x journal
      → drop (length homes) journal' ≡ written i x (drop (length homes) journal)
  behind_written x there w =
      ap (drop (length homes)) w ∙ drop_written (length homes) i at x journal behind there

  pub behind_torn : length homes ≤ length journal → Torn at journal journal'
      → Torn i (drop (length homes) journal) (drop (length homes) journal')
  behind_torn there torn = drop_torn (length homes) i at journal journal' behind there torn
