-- Slots added one after the other, and the region behind the others taken in.
use Rattle.std.proofs.Common.{◌≡◌, ◌∙◌, ℕ, ◌+◌, ◌^◌, ◌<◌, ◌≤◌, Bool, true, false, List, [], ◌∷◌, ◌++◌, length, take}
use Rattle.std.proofs.Common.{drop, replicate, refl, sym, ap, subst, arith, ⊎_elim}
use Rattle.std.specs.List.{All}
use Rattle.std.proofs.lemmas.Bool.{cases_lt}
use Rattle.std.proofs.lemmas.List.{append_assoc, append-nil, drop-drop, get_or-drop}
use Rattle.std.proofs.lemmas.List.{length-append, length-drop, take-append-drop}
use Rattle.std.proofs.lemmas.List.Elements.{All-append, All-cons, All-replicate, All-weaker}
use Rattle.block_device.specs.Device.{Blocks, block_at}
use Rattle.committed_log.specs.Log.{homes_in, index_blocks, no_home, overlaid, region_of, says}
use Rattle.committed_log.specs.Log.{size_of}
use Rattle.committed_log.specs.Overlay.{overlay_append}
use Rattle.committed_log.specs.Region.{IsRegion}
use Rattle.committed_log.specs.Regions.{committed_says, length_homes, region_behind}
use Rattle.committed_log.specs.Replay.{length-overlaid}
use Rattle.committed_log.specs.Room.{blocks_of, HasRoomFor}
use Rattle.committed_log.specs.Stops.{AreWholeBelow, IsHome, IsStanding, flagged}
use Rattle.committed_log.specs.Whole.{slots_below, whole_behind}
use Rattle.committed_log.specs.declared.slots.Slots.{Slots}
use Rattle.committed_log.proofs.Stood.{Leaves}

-- ---- slots

pub room_less : {A : Type 0} (n m : ℕ) (s : Slots A) → n ≤ m → HasRoomFor m s → HasRoomFor n s
room_less n m s le r = record {
  few = omega (arith, le, r.few);
  homes = omega (arith, le, r.homes);
  before = omega (arith, le, r.before);
  bucket = r.bucket;
}

-- k of these are added
pub record AddedTo {A : Type 0} (added : List ℕ) (k : ℕ) (old new : Slots A) : Type 0 where
  pub slots : blocks_of new ≡ blocks_of old ++ added
  pub room : (n : ℕ) → HasRoomFor (n + k) old → HasRoomFor n new

pub added_none : {A : Type 0} (s : Slots A) → AddedTo [] 0 s s
added_none s = record {
  slots = sym (append-nil (blocks_of s));
  room = λ n r. room_less n (n + 0) s (omega arith) r;
}

pub added_more : {A : Type 0} (added : List ℕ) (i k : ℕ) (old mid new : Slots A) → AddedTo added k old mid
    → blocks_of new ≡ blocks_of mid ++ i ∷ []
    → ((n : ℕ) → HasRoomFor (n + 1) mid → HasRoomFor n new)
    → AddedTo (added ++ i ∷ []) (k + 1) old new
added_more added i k old mid new was slots room = record {
  slots = slots ∙ ap (λ (l : List ℕ). l ++ i ∷ []) was.slots ∙ append_assoc (blocks_of old) added (i ∷ []);
  room = λ n r. room n (was.room (n + 1) (room_less (n + 1 + k) (n + (k + 1)) old (omega arith) r));
}

pub added_as : {A : Type 0} (added added' : List ℕ) (k : ℕ) (old new : Slots A) → added ≡ added'
    → AddedTo added k old new → AddedTo added' k old new
added_as added added' k old new e a = subst (λ (l : List ℕ). AddedTo l k old new) e a

-- room for one more
pub room_one : {A : Type 0} (added : List ℕ) (k n : ℕ) (old new : Slots A) → AddedTo added k old new → k < n
    → HasRoomFor n old → HasRoomFor 1 new
room_one added k n old new a lt r = a.room 1 (room_less (1 + k) n old (omega (arith, lt)) r)

-- ---- a region

-- the homes of its blocks
pub taken_homes : (homes slots : List ℕ) (d : ℕ) → d ≡ index_blocks (length slots)
    → homes ++ replicate 2 no_home ++ slots ++ replicate d no_home ≡ homes ++ region_of slots
taken_homes homes slots d is =
    let last : List ℕ = replicate (index_blocks (length slots)) no_home in
    ap (λ (n : ℕ). homes ++ replicate 2 no_home ++ slots ++ replicate n no_home) is
    ∙ append_assoc (homes ++ replicate 2 no_home) slots last
    ∙ append_assoc homes (replicate 2 no_home) (slots ++ last)

region_are : (n : ℕ) (slots : List ℕ) → All (λ h. h < n) slots → All (IsHome n) (region_of slots)
region_are n slots below =
    let last : List ℕ = replicate (index_blocks (length slots)) no_home in
    All-cons (IsHome n) no_home (no_home ∷ (slots ++ last)) (λ past. refl)
    (All-cons (IsHome n) no_home (slots ++ last) (λ past. refl)
    (All-append (IsHome n) slots last
    (λ k d lt past. absurd (past (below k d lt)))
    (All-replicate (IsHome n) (index_blocks (length slots)) no_home (λ past. refl))))

module _ (clearing : Bool) (homes slots : List ℕ) (base journal : Blocks) (ml : Blocks → Blocks → Type 0)
    (settled : clearing ≡ false)
    (region : IsRegion slots (length (overlaid homes journal base)) (drop (length homes) journal))
    (durable : (v j : Blocks) → Leaves homes ml v j
    → (v ≡ overlaid homes journal base) × (j ≡ drop (length homes) journal))
    (stands : IsStanding clearing homes base journal ml) where
  behind : Blocks
  behind = drop (length homes) journal

  settled_stands : IsStanding false homes base journal ml
  settled_stands = subst (λ (t : Bool). IsStanding t homes base journal ml) settled stands

  pub size_is : length (region_of slots) ≡ size_of (drop (length homes) journal)
  size_is = ap length (sym region.homes) ∙ length_homes (drop (length homes) journal)

  pub many_is : length (homes ++ region_of slots) ≡ length homes + size_of (drop (length homes) journal)
  many_is = length-append homes (region_of slots) ∙ ap (λ (n : ℕ). length homes + n) size_is

  -- a stop leaves both as they are
  base_left : (a b : Blocks) → ml a b → length a ≡ length base
  base_left a b left =
      let is = durable (overlaid homes b a) (drop (length homes) b) (a, b, left, refl, refl) in
      sym (length-overlaid homes b a) ∙ ap length is.0 ∙ length-overlaid homes journal base

  journal_left : (a b : Blocks) → ml a b → b ≡ journal
  journal_left a b left =
      let is = durable (overlaid homes b a) (drop (length homes) b) (a, b, left, refl, refl) in
      sym (take-append-drop (length homes) b)
      ∙ ap (λ (l : Blocks). l ++ drop (length homes) b) (settled_stands.stops a b left).regions
      ∙ ap (λ (l : Blocks). take (length homes) journal ++ l) is.1
      ∙ take-append-drop (length homes) journal

  there_is : length (homes ++ region_of slots) < length journal
  there_is = omega (arith, many_is, region.there, length-drop (length homes) journal)

  first_says : says (block_at 0 journal) ≡ true
  first_says = ⊎_elim
      (λ (some : 0 < length homes). settled_stands.reads some)
      (λ (none : length homes ≤ 0).
      ap says (ap (λ (n : ℕ). block_at n journal) (omega (arith, none))
      ∙ sym (get_or-drop (length homes) journal 0 []))
      ∙ committed_says (drop (length homes) journal) region.committed)
      (cases_lt 0 (length homes))

  homes_are : (n : ℕ) → n ≡ length base → All (IsHome n) (homes ++ region_of slots)
  homes_are n is =
      subst (λ (m : ℕ). All (IsHome m) (homes ++ region_of slots)) (sym is)
      (All-append (IsHome (length base)) homes (region_of slots) settled_stands.homes
      (region_are (length base) slots
      (subst (λ (m : ℕ). All (λ h. h < m) slots) (length-overlaid homes journal base) region.below)))

  -- and each region is whole
  whole_is : length base ≤ 2 ^ 31
      → AreWholeBelow no_home (flagged (take (length (homes ++ region_of slots)) journal))
  whole_is few =
      subst (λ (n : ℕ). AreWholeBelow no_home (flagged (take n journal))) (sym many_is)
      (whole_behind no_home homes journal settled_stands.regions (omega (arith, settled_stands.there))
      region.committed
      (slots_below no_home slots (drop (length homes) journal) region.homes
      (All-weaker (λ h. h < length (overlaid homes journal base)) (λ h. h < no_home)
      (λ h lt. omega (arith, lt, few, length-overlaid homes journal base)) slots region.below))
      settled_stands.whole)

  pub taken_stands : length base ≤ 2 ^ 31 → IsStanding clearing (homes ++ region_of slots) base journal ml
  taken_stands few =
      subst (λ (t : Bool). IsStanding t (homes ++ region_of slots) base journal ml) (sym settled) (record {
        there = there_is;
        regions = ap (λ (n : ℕ). homes_in (flagged (take n journal))) many_is
            ∙ region_behind homes journal settled_stands.regions (omega (arith, settled_stands.there))
            region.committed
            ∙ ap (λ (l : List ℕ). homes ++ l) region.homes;
        homes = homes_are (length base) refl;
        whole = whole_is few;
        reads = λ some. first_says;
        stops = λ a b left.
            let is : b ≡ journal = journal_left a b left in
            record {
              there = omega (arith, ap length is, there_is);
              regions = ap (take (length (homes ++ region_of slots))) is;
              homes = homes_are (length a) (base_left a b left);
            };
      })

  pub taken_seen : overlaid (homes ++ region_of slots) journal base
      ≡ overlaid (region_of slots) (drop (length homes) journal) (overlaid homes journal base)
  taken_seen = overlay_append homes (region_of slots) journal base

  pub taken_behind : drop (length (homes ++ region_of slots)) journal
      ≡ drop (size_of (drop (length homes) journal)) (drop (length homes) journal)
  taken_behind = ap (λ (n : ℕ). drop n journal) many_is
      ∙ sym (drop-drop (size_of (drop (length homes) journal)) (length homes) journal)

  pub taken_durable : (v j : Blocks) → Leaves (homes ++ region_of slots) ml v j
      → (v ≡ overlaid (homes ++ region_of slots) journal base)
      × (j ≡ drop (length (homes ++ region_of slots)) journal)
  taken_durable v j l =
      let is = durable (overlaid homes l.1 l.0) (drop (length homes) l.1) (l.0, l.1, l.2, refl, refl) in (
        l.3 ∙ overlay_append homes (region_of slots) l.1 l.0
            ∙ ap (λ (x : Blocks). overlaid (region_of slots) (drop (length homes) l.1) x) is.0
            ∙ ap (λ (x : Blocks). overlaid (region_of slots) x (overlaid homes journal base)) is.1
            ∙ sym taken_seen,
        l.4 ∙ ap (drop (length (homes ++ region_of slots))) (journal_left l.0 l.1 l.2),
      )
