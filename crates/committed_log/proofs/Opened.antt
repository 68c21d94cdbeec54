-- What opening reads of a log, and what it adds to it.
use Rattle.std.proofs.Common.{◌≡◌, ◌∙◌, ℕ, zero, suc, ◌+◌, ◌<◌, ◌≤◌, true, false}
use Rattle.std.proofs.Common.{List, [], ◌∷◌, ◌++◌, length, take, drop, get_or, min}
use Rattle.std.proofs.Common.{refl, sym, ap, subst, arith, ⊎_elim}
use Rattle.std.specs.Prelude.{◌/◌, ◌%◌}
use Rattle.std.specs.List.{All}
use Rattle.std.proofs.lemmas.Bool.{cases_Bool}
use Rattle.std.proofs.lemmas.List.{append-nil, drop_all, get_or_append_left, get_or-take}
use Rattle.std.proofs.lemmas.List.{take-append-le}
use Rattle.block_device.specs.Device.{Blocks, Torn, block_at, written}
use Rattle.block_device.specs.Written.{block_at-written, length-written_behind, push_written}
use Rattle.block_bytes.specs.Numbers.{number_at}
use Rattle.committed_log.specs.FlagLaws.{says-none}
use Rattle.committed_log.specs.Log.{count_in, flag_block, home_in, homes_in, index_blocks, is_committed}
use Rattle.committed_log.specs.Log.{no_home, overlaid, recovered, region_homes, region_of, says, size_of, slot_homes}
use Rattle.committed_log.specs.Opening.{AreSynced, IsBroken, IsMalformed}
use Rattle.committed_log.specs.Overlay.{overlay_first}
use Rattle.committed_log.specs.Region.{HasSlots}
use Rattle.committed_log.specs.Regions.{flagged_same, homes_end, homes_more, homes_nil, homes_unsaid}
use Rattle.committed_log.specs.Regions.{homes_whole, is_committed_so, length_homes}
use Rattle.committed_log.specs.Regions.{short_none}
use Rattle.committed_log.specs.Stops.{IsStanding, flagged}
use Rattle.committed_log.specs.Torn.{torn_cases}
use Rattle.committed_log.specs.Whole.{whole_none}

-- ---- the count and the homes of a region

pub counted : (n : ℕ) (b : Blocks) → n ≡ number_at 4 8 (block_at 1 b) → n ≡ count_in b
unfolding count_in
counted n b e = e

pub size_is : (n : ℕ) (b : Blocks) → n ≡ count_in b → 2 + n + (n / 1024 + min 1 (n % 1024)) ≡ size_of b
size_is n b e = ap (λ (k : ℕ). 2 + k + index_blocks k) e

pub homes_push : (n k m at : ℕ) (b : Blocks) → at ≡ k + m
    → slot_homes n k m b ++ home_in n at b ∷ [] ≡ slot_homes n k (suc m) b
homes_push n k zero at b is = ap (λ (i : ℕ). home_in n i b ∷ []) (omega (arith, is))
homes_push n k (suc m) at b is =
    ap (λ (l : List ℕ). home_in n k b ∷ l) (homes_push n (suc k) m at b (omega (arith, is)))

pub home_at : (n k m j at d : ℕ) (b : Blocks) → j < m → at ≡ k + j
    → get_or (slot_homes n k m b) j d ≡ home_in n at b
home_at n k zero j at d b lt is = absurd (omega (arith, lt))
home_at n k (suc m) zero at d b lt is = ap (λ (i : ℕ). home_in n i b) (omega (arith, is))
home_at n k (suc m) (suc j) at d b lt is = home_at n (suc k) m j at d b (omega (arith, lt)) (omega (arith, is))

pub length_homes_of : (n k m : ℕ) (b : Blocks) → length (slot_homes n k m b) ≡ m
length_homes_of n k zero b = refl
length_homes_of n k (suc m) b = ap suc (length_homes_of n (suc k) m b)

-- a home that is no block of the base
pub bad_home : (n k limit : ℕ) (b : Blocks) → k < n → limit ≤ home_in n k b
    → ¬ All (λ h. h < limit) (slot_homes n 0 n b)
bad_home n k limit b lt high all =
    omega (
      arith,
      high,
      all k 0 (omega (arith, lt, length_homes_of n 0 n b)),
      home_at n 0 n k k 0 b lt (omega arith),
    )

pub slots_found : (n m : ℕ) (slots : List ℕ) (b : Blocks) → n ≡ count_in b → says (block_at 0 b) ≡ true
    → size_of b ≤ length b → slots ≡ slot_homes n 0 n b → All (λ h. h < m) slots → HasSlots slots m b
unfolding region_homes
slots_found n m slots b count said room are below = record {
  committed = is_committed_so b said room;
  homes = ap region_of (sym (are ∙ ap (λ (k : ℕ). slot_homes k 0 k b) count));
  below = below;
}

pub broken_homes : (n m : ℕ) (a b : Blocks) → n ≡ count_in b → m ≡ length a → says (block_at 0 b) ≡ true
    → ¬ All (λ h. h < m) (slot_homes n 0 n b) → IsBroken a b
broken_homes n m a b count size said bad = (
  said,
  λ w. bad (subst (λ (k : ℕ). All (λ h. h < k) (slot_homes n 0 n b)) (sym size)
      (subst (λ (k : ℕ). All (λ h. h < length a) (slot_homes k 0 k b)) (sym count) w.homes)),
)

-- the region behind those that stand
pub malformed_behind : (homes : List ℕ) (base journal : Blocks)
    → homes_in (flagged (take (length homes) journal)) ≡ homes
    → (0 < length homes → says (block_at 0 journal) ≡ true)
    → IsBroken base (drop (length homes) journal) → IsMalformed base journal
malformed_behind homes base journal regions reads broken = record {
  homes = homes;
  regions = first homes regions reads;
  says_so = broken.0;
  not_whole = broken.1;
}
  where
    first : (l : List ℕ) → homes_in (flagged (take (length l) journal)) ≡ l
        → (0 < length l → says (block_at 0 journal) ≡ true) → homes_in (take (length l) journal) ≡ l
    first [] are said = homes_nil
    first (h ∷ hs) are said =
        sym (flagged_same (take (length (h ∷ hs)) journal)
        (ap says (get_or-take (length (h ∷ hs)) journal 0 [] (omega arith))
        ∙ said (omega arith)))
        ∙ are

-- ---- a block added behind the last region

homes_one : (b : Blocks) (x : List ℕ) → size_of b ≡ length b → homes_in (b ++ x ∷ []) ≡ homes_in b
homes_one b x size = ⊎_elim
    (λ (said : says (block_at 0 b) ≡ true).
    let whole : homes_in b ≡ region_homes b =
    homes_more b (is_committed_so b said (omega (arith, size)))
    ∙ ap (λ (l : Blocks). region_homes b ++ homes_in l) (drop_all (size_of b) b (omega (arith, size)))
    ∙ ap (λ (l : List ℕ). region_homes b ++ l) homes_nil ∙ append-nil (region_homes b) in
    homes_whole b (x ∷ []) (homes_in b) refl (ap length whole ∙ length_homes b ∙ size)
    ∙ ap (λ (l : List ℕ). homes_in b ++ l) (homes_end (x ∷ []) (short_none (x ∷ []) (omega arith)))
    ∙ append-nil (homes_in b))
    (λ (unsaid : says (block_at 0 b) ≡ false).
    homes_unsaid (b ++ x ∷ [])
    (ap says (get_or_append_left b (x ∷ []) [] 0 (omega (arith, size))) ∙ unsaid)
    ∙ sym (homes_unsaid b unsaid))
    (cases_Bool (says (block_at 0 b)))

homes_short : (b : Blocks) → size_of b ≡ length b → length (homes_in b) ≤ length b
homes_short b size = ⊎_elim
    (λ (is : is_committed b ≡ true).
    omega (
      arith,
      size,
      length_homes b,
      ap length (homes_more b is
          ∙ ap (λ (l : Blocks). region_homes b ++ homes_in l) (drop_all (size_of b) b (omega (arith, size)))
          ∙ ap (λ (l : List ℕ). region_homes b ++ l) homes_nil ∙ append-nil (region_homes b)),
    ))
    (λ (none : is_committed b ≡ false). omega (arith, ap length (homes_end b none)))
    (cases_Bool (is_committed b))

-- recovery makes the same of it
pub recovered_push : (i : ℕ) (a : Blocks) (x : List ℕ) (b : Blocks) → i ≡ size_of b → i ≡ length b
    → recovered a (written i x b) ≡ recovered a b
recovered_push i a x b is size =
    let more : written i x b ≡ b ++ x ∷ [] = sym (push_written i x b (omega (arith, size))) in
    let all : size_of b ≡ length b = sym is ∙ size in
    ap (recovered a) more
    ∙ ap (λ (l : List ℕ). overlaid l (b ++ x ∷ []) a) (homes_one b x all)
    ∙ overlay_first (homes_in b) b (b ++ x ∷ []) a
    (take-append-le (length (homes_in b)) b (x ∷ []) (homes_short b all))

pub recovered_more : (i : ℕ) (a b c : Blocks) → i ≡ size_of b → i ≡ length b → Torn i b c
    → recovered a c ≡ recovered a b
recovered_more i a b c is size torn =
    torn_cases i b c (λ (d : Blocks). recovered a d ≡ recovered a b) refl
    (λ x block. recovered_push i a x b is size) torn

-- the flag that was added
pub flag_added : (i : ℕ) (x : List ℕ) (b c : Blocks) → i ≡ length b → x ≡ flag_block 0
    → c ≡ written i x b → says (block_at i c) ≡ false
flag_added i x b c size is w =
    ap says (ap (block_at i) w ∙ block_at-written i x b (omega (arith, size)) ∙ is) ∙ says-none

pub longer_by : (i : ℕ) (x : List ℕ) (b c : Blocks) → i ≡ length b → c ≡ written i x b → i < length c
longer_by i x b c size w =
    omega (arith, size, ap length w, length-written_behind i x b (omega (arith, size)))

-- ---- no regions yet

-- what stands of a log whose regions are not read yet
pub opened_stands : (homes : List ℕ) (base journal : Blocks) (ml : Blocks → Blocks → Type 0) → homes ≡ []
    → 0 < length journal → AreSynced base journal ml → IsStanding false homes base journal ml
opened_stands homes base journal ml none some synced =
    subst (λ (l : List ℕ). IsStanding false l base journal ml) (sym none) (record {
      there = some;
      regions = homes_nil;
      homes = λ k d lt. absurd (omega (arith, lt));
      whole = whole_none no_home;
      reads = λ there. absurd (omega (arith, there));
      stops = λ a b left. record {
        there = omega (arith, some, ap length (synced a b left).1);
        regions = refl;
        homes = λ k d lt. absurd (omega (arith, lt));
      };
    })
