-- The regions of a log read one after the other.
use Rattle.std.proofs.Common.{◌≡◌, ◌∙◌, ℕ, zero, suc, ◌+◌, ◌<◌, ◌≤◌, true, false, List, [], ◌∷◌, ◌++◌, length, take}
use Rattle.std.proofs.Common.{drop, replicate, get_or, refl, sym, ap, subst, arith}
use Rattle.std.specs.Prelude.{◌/◌, ◌%◌}
use Rattle.std.specs.List.{All}
use Rattle.std.proofs.lemmas.List.{append_assoc, append-nil, drop_all, length-append, length-drop}
use Rattle.std.proofs.lemmas.List.{length-take-le, length_push, take-append-drop}
use Rattle.std.proofs.lemmas.List.Elements.{All-push}
use Rattle.std.proofs.Math.Seq.{take-add}
use Rattle.block_device.specs.Device.{Blocks, block_at}
use Rattle.block_bytes.specs.Numbers.{number_at}
use Rattle.committed_log.specs.FlagLaws.{says-nothing}
use Rattle.committed_log.specs.Log.{count_in, home_in, homes_in, index_blocks, is_committed, no_home}
use Rattle.committed_log.specs.Log.{region_homes, region_of, says, size_of, slot_homes}
use Rattle.committed_log.specs.Opening.{IsMalformed, IsWhole}
use Rattle.committed_log.specs.Regions.{homes_alone, homes_nil, homes_unsaid, homes_whole, is_committed_so}
use Rattle.committed_log.specs.Regions.{length_homes, length_slots}
use Rattle.committed_log.specs.Room.{blocks_of, HasRoomFor}
use Rattle.committed_log.specs.Stops.{AreWholeBelow, IsWholeBelow}
use Rattle.committed_log.specs.Whole.{malformed_rest, unsaid_well, whole_alone, whole_append, whole_none}
use Rattle.committed_log.specs.declared.slots.Slots.{Slots}
use Rattle.snapshot_reader.specs.Reading.{AreRead, IsBrokenBelow}

-- ---- one region after the other

pub none_read : (n : ℕ) (b : Blocks) → AreRead n [] b
none_read n b = record { there = omega arith; regions = homes_nil; whole = whole_none n }

-- the first blocks of a log and those behind them
parts : (n : ℕ) (homes : List ℕ) (b : Blocks) → AreRead n homes b → length homes ≡ length (take (length homes) b)
parts n homes b r = sym (length-take-le (length homes) b r.there)

-- how many blocks a region has
pub region_size : (n : ℕ) (b : Blocks) → n ≡ count_in b → 2 + n + index_blocks n ≡ size_of b
region_size n b e = ap (λ (i : ℕ). 2 + i + index_blocks i) e

-- the region behind them, and its slots
module _ (n k : ℕ) (homes : List ℕ) (b : Blocks) (r : AreRead n homes b)
    (said : says (block_at 0 (drop (length homes) b)) ≡ true) (count : k ≡ count_in (drop (length homes) b))
    (room : length homes + (2 + k + index_blocks k) ≤ length b)
    (below : All (λ h. h < n) (slot_homes k 0 k (drop (length homes) b))) where
  size_is : 2 + k + index_blocks k ≡ size_of (drop (length homes) b)
  size_is = region_size k (drop (length homes) b) count

  committed : is_committed (drop (length homes) b) ≡ true
  committed =
      is_committed_so (drop (length homes) b) said
      (omega (arith, size_is, room, length-drop (length homes) b))

  region_is : region_of (slot_homes k 0 k (drop (length homes) b)) ≡ region_homes (drop (length homes) b)
  unfolding region_homes
  region_is = ap (λ (i : ℕ). region_of (slot_homes i 0 i (drop (length homes) b))) count

  ends_at : length (homes ++ region_homes (drop (length homes) b))
      ≡ length homes + size_of (drop (length homes) b)
  ends_at =
      length-append homes (region_homes (drop (length homes) b))
      ∙ ap (λ (i : ℕ). length homes + i) (length_homes (drop (length homes) b))

  split : take (length (homes ++ region_homes (drop (length homes) b))) b
      ≡ take (length homes) b ++ take (size_of (drop (length homes) b)) (drop (length homes) b)
  split = ap (λ (i : ℕ). take i b) ends_at ∙ take-add (length homes) (size_of (drop (length homes) b)) b

  slots_below : All (λ h. h < n)
      (slot_homes (count_in (drop (length homes) b)) 0 (count_in (drop (length homes) b)) (drop (length homes) b))
  slots_below =
      subst (λ (i : ℕ). All (λ h. h < n) (slot_homes i 0 i (drop (length homes) b))) count below

  read_on : AreRead n (homes ++ region_homes (drop (length homes) b)) b
  read_on =
      let s : ℕ = length homes in let rest : Blocks = drop s b in
      let last : Blocks = take (size_of rest) rest in
      record {
        there = omega (arith, ends_at, size_is, room);
        regions = ap homes_in split
            ∙ homes_whole (take s b) last homes r.regions (parts n homes b r)
            ∙ ap (λ (l : List ℕ). homes ++ l) (homes_alone rest committed);
        whole = subst (AreWholeBelow n) (sym split)
            (whole_append n (take s b) last homes r.regions (parts n homes b r) r.whole
            (whole_alone n rest committed slots_below));
      }

  pub region_read : (more : List ℕ)
      → more ≡ homes ++ region_of (slot_homes k 0 k (drop (length homes) b)) → AreRead n more b
  region_read more is =
      subst (λ (l : List ℕ). AreRead n l b) (sym (is ∙ ap (λ (l : List ℕ). homes ++ l) region_is)) read_on

-- none is behind them
module _ (n : ℕ) (homes : List ℕ) (b : Blocks) (r : AreRead n homes b) where
  pub all_read : says (block_at 0 (drop (length homes) b)) ≡ false → homes ≡ homes_in b
  all_read unsaid =
      let s : ℕ = length homes in
      sym (ap homes_in (sym (take-append-drop s b))
      ∙ homes_whole (take s b) (drop s b) homes r.regions (parts n homes b r)
      ∙ ap (λ (l : List ℕ). homes ++ l) (homes_unsaid (drop s b) unsaid)
      ∙ append-nil homes)

  pub well_read : says (block_at 0 (drop (length homes) b)) ≡ false → (a : Blocks) → length a ≡ n
      → ¬ IsMalformed a b
  well_read unsaid a size bad =
      let s : ℕ = length homes in
      unsaid_well a (drop s b) unsaid
      (malformed_rest a a (take s b) (drop s b) homes r.regions (parts n homes b r) refl
      (subst (λ (i : ℕ). AreWholeBelow i (take s b)) (sym size) r.whole)
      (subst (IsMalformed a) (sym (take-append-drop s b)) bad))

  -- or one that is broken
  pub broken_read : IsBrokenBelow n (drop (length homes) b) → (a : Blocks) → length a ≡ n → IsMalformed a b
  broken_read broken a size = record {
    homes = homes;
    regions = r.regions;
    says_so = broken.says_so;
    not_whole = λ w. broken.not_whole (below_as (drop (length homes) b) w);
  }
    where
      below_as : (c : Blocks) → IsWhole a c → IsWholeBelow n c
      below_as c w = record {
        room = w.room;
        homes = subst (λ (i : ℕ). All (λ h. h < i) (slot_homes (count_in c) 0 (count_in c) c)) size w.homes;
      }

-- a region that is not whole: its blocks are not all there, or its homes not all below n
pub short_broken : (n : ℕ) (b : Blocks) → says (block_at 0 b) ≡ true → length b < size_of b → IsBrokenBelow n b
short_broken n b said short = record {
  says_so = said;
  not_whole = λ w. omega (arith, short, w.room);
}

pub high_broken : (n k : ℕ) (b : Blocks) → says (block_at 0 b) ≡ true → k ≡ count_in b
    → ¬ All (λ h. h < n) (slot_homes k 0 k b) → IsBrokenBelow n b
high_broken n k b said count bad = record {
  says_so = said;
  not_whole = λ w. bad (subst (λ (i : ℕ). All (λ h. h < n) (slot_homes i 0 i b)) (sym count) w.homes);
}

-- where the log ends nothing is committed
pub unsaid_end : (s : ℕ) (b : Blocks) → length b ≤ s → says (block_at 0 (drop s b)) ≡ false
unsaid_end s b past = ap (λ (l : Blocks). says (block_at 0 l)) (drop_all s b past) ∙ says-nothing

-- ---- the homes of a region

pub counted : (n : ℕ) (b : Blocks) → n ≡ number_at 4 8 (block_at 1 b) → n ≡ count_in b
unfolding count_in
counted n b e = e

homes_push : (n k m at : ℕ) (b : Blocks) → at ≡ k + m
    → slot_homes n k m b ++ home_in n at b ∷ [] ≡ slot_homes n k (suc m) b
homes_push n k zero at b is = ap (λ (i : ℕ). home_in n i b ∷ []) (omega (arith, is))
homes_push n k (suc m) at b is =
    ap (λ (l : List ℕ). home_in n k b ∷ l) (homes_push n (suc k) m at b (omega (arith, is)))

homes_next : (n k : ℕ) (b : Blocks) → slot_homes n 0 k b ++ home_in n k b ∷ [] ≡ slot_homes n 0 (k + 1) b
homes_next n k b =
    homes_push n 0 k k b (omega arith) ∙ ap (λ (i : ℕ). slot_homes n 0 i b) (next k)
  where
    next : (k : ℕ) → suc k ≡ k + 1
    next k = omega arith

home_at : (n k m j at d : ℕ) (b : Blocks) → j < m → at ≡ k + j
    → get_or (slot_homes n k m b) j d ≡ home_in n at b
home_at n k zero j at d b lt is = absurd (omega (arith, lt))
home_at n k (suc m) zero at d b lt is = ap (λ (i : ℕ). home_in n i b) (omega (arith, is))
home_at n k (suc m) (suc j) at d b lt is = home_at n (suc k) m j at d b (omega (arith, lt)) (omega (arith, is))

-- a home that is no block of the base
pub bad_home : (n k limit home : ℕ) (b : Blocks) → k < n → limit ≤ home → home ≡ home_in n k b
    → ¬ All (λ h. h < limit) (slot_homes n 0 n b)
bad_home n k limit home b lt high is all =
    omega (
      arith,
      high,
      is,
      all k 0 (omega (arith, lt, length_slots n 0 n b)),
      home_at n 0 n k k 0 b lt (omega arith),
    )

-- ---- slots added one after the other

pub room_less : {A : Type 0} (n m : ℕ) (s : Slots A) → n ≤ m → HasRoomFor m s → HasRoomFor n s
room_less n m s le r = record {
  few = omega (arith, le, r.few);
  homes = omega (arith, le, r.homes);
  before = omega (arith, le, r.before);
  bucket = r.bucket;
}

-- k of them are added
pub record IsLonger {A : Type 0} (k : ℕ) (old new : Slots A) : Type 0 where
  pub many : length (blocks_of new) ≡ length (blocks_of old) + k
  pub room : (n : ℕ) → HasRoomFor (n + k) old → HasRoomFor n new

pub longer_none : {A : Type 0} (s : Slots A) → IsLonger 0 s s
longer_none s = record {
  many = omega arith;
  room = λ n r. room_less n (n + 0) s (omega arith) r;
}

pub longer_one : {A : Type 0} (i k : ℕ) (old mid new : Slots A) → IsLonger k old mid
    → blocks_of new ≡ blocks_of mid ++ i ∷ [] → ((n : ℕ) → HasRoomFor (n + 1) mid → HasRoomFor n new)
    → IsLonger (k + 1) old new
longer_one i k old mid new was slots room = record {
  many = omega (arith, was.many, ap length slots, length_push (blocks_of mid) i);
  room = λ n r. room n (was.room (n + 1) (room_less (n + 1 + k) (n + (k + 1)) old (omega arith) r));
}

-- room for one more
pub room_one : {A : Type 0} (k n : ℕ) (old new : Slots A) → IsLonger k old new → k < n → HasRoomFor n old
    → HasRoomFor 1 new
room_one k n old new was lt r = was.room 1 (room_less (1 + k) n old (omega (arith, lt)) r)

-- The first k slots of n are added, each with a home below a limit, and the page holds the index block of the next
-- one, where it is not the first of its block.
pub record AreHomed (n limit k : ℕ) (page slots homes : List ℕ) (b : Blocks) : Type 0 where
  pub are : homes ≡ slots ++ slot_homes n 0 k b
  pub below : All (λ h. h < limit) (slot_homes n 0 k b)
  pub held : 0 < k % 1024 → page ≡ block_at (2 + n + k / 1024) b

pub homed_none : (n limit : ℕ) (page slots : List ℕ) (b : Blocks) → AreHomed n limit 0 page slots slots b
homed_none n limit page slots b = record {
  are = sym (append-nil slots);
  below = λ k d lt. absurd (omega (arith, lt));
  held = λ some. absurd (omega (arith, some));
}

pub homed_one : (n limit k home : ℕ) (page page' slots homes homes' : List ℕ) (b : Blocks)
    → AreHomed n limit k page slots homes b → home ≡ home_in n k b → home < limit
    → page' ≡ block_at (2 + n + k / 1024) b → homes' ≡ homes ++ home ∷ []
    → AreHomed n limit (k + 1) page' slots homes' b
homed_one n limit k home page page' slots homes homes' b was is lt held pushed = record {
  are = pushed ∙ ap (λ (l : List ℕ). l ++ home ∷ []) was.are
      ∙ append_assoc slots (slot_homes n 0 k b) (home ∷ [])
      ∙ ap (λ (l : List ℕ). slots ++ l) next;
  below = subst (All (λ h. h < limit)) next (All-push (λ h. h < limit) (slot_homes n 0 k b) home was.below lt);
  held = λ some. held ∙ ap (λ (i : ℕ). block_at (2 + n + i) b) (same k some);
}
  where
    next : slot_homes n 0 k b ++ home ∷ [] ≡ slot_homes n 0 (k + 1) b
    next = ap (λ (i : ℕ). slot_homes n 0 k b ++ i ∷ []) is ∙ homes_next n k b

    same : (k : ℕ) → 0 < (k + 1) % 1024 → k / 1024 ≡ (k + 1) / 1024
    same k some = omega (arith, some)

-- ---- a region

-- the homes of its blocks
pub region_homed : (homes slots : List ℕ) (d : ℕ) → d ≡ index_blocks (length slots)
    → homes ++ replicate 2 no_home ++ slots ++ replicate d no_home ≡ homes ++ region_of slots
region_homed homes slots d is =
    let last : List ℕ = replicate (index_blocks (length slots)) no_home in
    ap (λ (n : ℕ). homes ++ replicate 2 no_home ++ slots ++ replicate n no_home) is
    ∙ append_assoc (homes ++ replicate 2 no_home) slots last
    ∙ append_assoc homes (replicate 2 no_home) (slots ++ last)
