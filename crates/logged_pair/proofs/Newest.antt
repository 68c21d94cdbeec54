-- A log written anew: each base is read through it as through the old one.
use Rattle.std.proofs.Common.{◌≡◌, ◌∙◌, ◌^◌, ℕ, suc, ◌+◌, ◌*◌, ◌<◌, ◌≤◌, List, [], ◌∷◌, ◌++◌, length, drop}
use Rattle.std.proofs.Common.{get_or, refl, sym, ap, subst, arith, inl, inr, ⊎_elim}
use Rattle.std.specs.Prelude.{◌/◌, ◌%◌, slice_index}
use Rattle.std.specs.List.{All, Contains}
use Rattle.std.proofs.lemmas.Bool.{cases_lt}
use Rattle.std.proofs.lemmas.List.{append_assoc, append-nil, get_or-append-add, get_or-drop, get_or_append_left}
use Rattle.std.proofs.lemmas.List.{get_or_default, length-append}
use Rattle.std.proofs.lemmas.List.Elements.{All-append, All-cons, All-weaker}
use Rattle.block_device.specs.Device.{Blocks, block_at}
use Rattle.block_bytes.specs.Numbers.{number_at}
use Rattle.committed_log.specs.FlagLaws.{count-read, says-none, says-one}
use Rattle.committed_log.specs.Found.{IsSlot}
use Rattle.committed_log.specs.Log.{count_block, count_in, flag_block, home_in, homes_in, index_blocks, overlaid}
use Rattle.committed_log.specs.Log.{recovered, region_of, says, size_of}
use Rattle.committed_log.specs.Overlay.{overlay_reads}
use Rattle.committed_log.specs.Region.{IsRegion}
use Rattle.committed_log.specs.Regions.{homes_more, homes_unsaid, index_within}
use Rattle.committed_log.specs.Replay.{length-overlaid, overlaid_other, same_blocks}
use Rattle.logged_pair.specs.Compaction.{AreIndex, AreListed, AreNewest, IsNewest, Lists}
use Rattle.logged_pair.specs.Law.{recorded_region, recorded_size}
use Rattle.logged_pair.specs.Shown.{length-shown, shown_other, shown_reads, shown_region}
use Rattle.logged_pair.specs.Stages.{IsRecorded, shown_through}
use Rattle.logged_pair.proofs.Indexing.{slots_tail}

-- ---- the blocks that have a slot

contains_left : (xs ys : List ℕ) (i : ℕ) → Contains xs i → Contains (xs ++ ys) i
contains_left xs ys i one =
    (one.0, omega (arith, one.1, length-append xs ys), get_or_append_left xs ys i one.0 one.1 ∙ one.2)

contains_last : (xs : List ℕ) (i : ℕ) → Contains (xs ++ i ∷ []) i
contains_last xs i =
    (length xs + 0, omega (arith, length-append xs (i ∷ [])), get_or-append-add xs (i ∷ []) 0 i)

last_is : (xs : List ℕ) (i k d : ℕ) → k ≡ length xs → get_or (xs ++ i ∷ []) k d ≡ i
last_is xs i k d is =
    subst (λ (n : ℕ). get_or (xs ++ i ∷ []) n d ≡ i) (zero_more k is) (get_or-append-add xs (i ∷ []) 0 d)
  where
    zero_more : (k : ℕ) → k ≡ length xs → length xs + 0 ≡ k
    zero_more k is = omega (arith, is)

pub list_start : (slots : List ℕ) → AreListed slots 0 []
list_start slots = record {
  below = λ k d lt. absurd (omega arith);
  found = λ i lt. absurd (omega (arith, lt));
  rising = λ j k less lt. absurd (omega arith);
}

one_listed : (slots : List ℕ) (i : ℕ) (old : List ℕ) → AreListed slots i old → AreListed slots (i + 1) (old ++ i ∷ [])
one_listed slots i old l = record {
  below = All-append (λ h. h < i + 1) old (i ∷ [])
      (All-weaker (λ h. h < i) (λ h. h < i + 1) (λ h lt. omega (arith, lt)) old l.below)
      (All-cons (λ h. h < i + 1) i [] (omega arith) (λ k d lt. absurd (omega arith)));
  found = λ n lt. ⊎_elim
      (λ (less : n < i). ⊎_elim
      (λ (one : Contains old n). inl (contains_left old (i ∷ []) n one))
      (λ (none : ¬ Contains slots n). inr none)
      (l.found n less))
      (λ (ge : i ≤ n). inl (subst (Contains (old ++ i ∷ [])) (here n ge lt) (contains_last old i)))
      (cases_lt n i);
  rising = λ j k less lt. ⊎_elim
      (λ (before : k < length old). omega (
        arith,
        get_or_append_left old (i ∷ []) 0 j (omega (arith, less, before)),
        get_or_append_left old (i ∷ []) 0 k before,
        l.rising j k less before,
      ))
      (λ (past : length old ≤ k). omega (
        arith,
        get_or_append_left old (i ∷ []) 0 j (omega (arith, less, last k past lt)),
        last_is old i k 0 (last k past lt),
        l.below j 0 (omega (arith, less, last k past lt)),
      ))
      (cases_lt k (length old));
}
  where
    here : (n : ℕ) → i ≤ n → n < i + 1 → i ≡ n
    here n ge lt = omega (arith, ge, lt)

    last : (k : ℕ) → length old ≤ k → k < length (old ++ i ∷ []) → k ≡ length old
    last k past lt = omega (arith, past, lt, length-append old (i ∷ []))

none_listed : (slots : List ℕ) (i : ℕ) (old : List ℕ) → ¬ Contains slots i → AreListed slots i old
    → AreListed slots (i + 1) old
none_listed slots i old none l = record {
  below = All-weaker (λ h. h < i) (λ h. h < i + 1) (λ h lt. omega (arith, lt)) old l.below;
  found = λ n lt. ⊎_elim (λ (less : n < i). l.found n less)
      (λ (ge : i ≤ n). inr (subst (λ (k : ℕ). ¬ Contains slots k) (here n ge lt) none)) (cases_lt n i);
  rising = l.rising;
}
  where
    here : (n : ℕ) → i ≤ n → n < i + 1 → i ≡ n
    here n ge lt = omega (arith, ge, lt)

pub list_step : (slots : List ℕ) (i : ℕ) (old new : List ℕ) → AreListed slots i old → Lists slots i old new
    → AreListed slots (i + 1) new
list_step slots i old new l step = ⊎_elim
    (λ (more : (new ≡ old ++ i ∷ []) × Contains slots i).
    subst (AreListed slots (i + 1)) (sym more.0) (one_listed slots i old l))
    (λ (same : (new ≡ old) × ¬ Contains slots i).
    subst (AreListed slots (i + 1)) (sym same.0) (none_listed slots i old same.1 l))
    step

-- ---- blocks that were added one after the other

block_last : (blocks : Blocks) (x : List ℕ) (k : ℕ) → k ≡ length blocks → block_at k (blocks ++ x ∷ []) ≡ x
block_last blocks x k is =
    subst (λ (n : ℕ). block_at n (blocks ++ x ∷ []) ≡ x) (zero_more k is) (get_or-append-add blocks (x ∷ []) 0 [])
  where
    zero_more : (k : ℕ) → k ≡ length blocks → length blocks + 0 ≡ k
    zero_more k is = omega (arith, is)

pub newest_start : (slots : List ℕ) (log : Blocks) (homes : List ℕ) → AreNewest slots log homes 0 []
newest_start slots log homes = record { many = refl; newest = λ k lt. absurd (omega (arith, lt)) }

pub newest_step : (slots : List ℕ) (log : Blocks) (homes : List ℕ) (k home : ℕ) (blocks : Blocks) (x : List ℕ)
    → home ≡ slice_index homes k → AreNewest slots log homes k blocks → IsNewest slots log home x
    → AreNewest slots log homes (k + 1) (blocks ++ x ∷ [])
newest_step slots log homes k home blocks x is r one = record {
  many = omega (arith, length-append blocks (x ∷ []), r.many);
  newest = λ j lt. ⊎_elim
      (λ (less : j < k). (
        (r.newest j less).0,
        (r.newest j less).1,
        get_or_append_left blocks (x ∷ []) [] j (omega (arith, less, r.many)) ∙ (r.newest j less).2,
      ))
      (λ (ge : k ≤ j).
      subst (λ (n : ℕ). IsNewest slots log (slice_index homes n) (block_at n (blocks ++ x ∷ []))) (here j ge lt)
      (subst (λ (h : ℕ). IsNewest slots log h (block_at k (blocks ++ x ∷ []))) is
      (one.0, one.1, block_last blocks x k (sym r.many) ∙ one.2)))
      (cases_lt j k);
}
  where
    here : (j : ℕ) → k ≤ j → j < k + 1 → k ≡ j
    here j ge lt = omega (arith, ge, lt)

pub index_start : (homes : List ℕ) → AreIndex homes 0 []
index_start homes = record { many = refl; there = λ j m lt few less. absurd (omega (arith, lt)) }

pub index_step : (homes : List ℕ) (j from : ℕ) (blocks : Blocks) (page : List ℕ) → from ≡ j * 1024
    → ((m : ℕ) → m < 1024 → from + m < length homes → number_at 4 (4 * m) page ≡ slice_index homes (from + m))
    → AreIndex homes j blocks → AreIndex homes (j + 1) (blocks ++ page ∷ [])
index_step homes j from blocks page from_is holds r = record {
  many = omega (arith, length-append blocks (page ∷ []), r.many);
  there = λ i m lt few less. ⊎_elim
      (λ (before : i < j).
      ap (number_at 4 (4 * m)) (get_or_append_left blocks (page ∷ []) [] i (omega (arith, before, r.many)))
      ∙ r.there i m before few less)
      (λ (ge : j ≤ i).
      ap (number_at 4 (4 * m)) (block_last blocks page i (omega (arith, ge, lt, r.many)))
      ∙ holds m few (omega (arith, less, from_is, here i ge lt))
      ∙ ap (slice_index homes) (omega (arith, from_is, here i ge lt)))
      (cases_lt i j);
}
  where
    here : (i : ℕ) → j ≤ i → i < j + 1 → i ≡ j
    here i ge lt = omega (arith, ge, lt)

-- ---- the region that they make

abbrev pub log_of : (n : ℕ) (slots index : Blocks) (count : List ℕ) → Blocks
log_of n slots index count = flag_block 1 ∷ count_block n ∷ (slots ++ (index ++ flag_block 0 ∷ count ∷ []))

module _ (homes : List ℕ) (slots index : Blocks) (count : List ℕ) (n_is : length slots ≡ length homes)
    (index_is : AreIndex homes (index_blocks (length homes)) index) where
  abbrev made : Blocks
  made = log_of (length homes) slots index count

  abbrev rest : Blocks
  rest = index ++ flag_block 0 ∷ count ∷ []

  two_on : (k : ℕ) → block_at (2 + k) made ≡ block_at k (slots ++ rest)
  two_on k = ap (λ (i : ℕ). block_at i made) (two k)
    where
      two : (k : ℕ) → 2 + k ≡ suc (suc k)
      two k = omega arith

  length_made : length made ≡ 2 + length homes + index_blocks (length homes) + 2
  length_made = omega (
    arith,
    length-append slots rest,
    length-append index (flag_block 0 ∷ count ∷ []),
    n_is,
    index_is.many,
  )

  at_slot : (k : ℕ) → k < length homes → block_at (2 + k) made ≡ block_at k slots
  at_slot k lt = two_on k ∙ get_or_append_left slots rest [] k (omega (arith, lt, n_is))

  behind_slots : (k : ℕ) → block_at (2 + length homes + k) made ≡ block_at k rest
  behind_slots k =
      ap (λ (i : ℕ). block_at i made) (place k) ∙ two_on (length slots + k) ∙ get_or-append-add slots rest k []
    where
      place : (k : ℕ) → 2 + length homes + k ≡ 2 + (length slots + k)
      place k = omega (arith, n_is)

  at_index : (k : ℕ) → k < index_blocks (length homes) → block_at (2 + length homes + k) made ≡ block_at k index
  at_index k lt =
      behind_slots k
      ∙ get_or_append_left index (flag_block 0 ∷ count ∷ []) [] k (omega (arith, lt, index_is.many))

  at_end : block_at (2 + length homes + index_blocks (length homes)) made ≡ flag_block 0
  at_end =
      behind_slots (index_blocks (length homes))
      ∙ ap (λ (k : ℕ). block_at k rest) (omega (arith, index_is.many))
      ∙ get_or-append-add index (flag_block 0 ∷ count ∷ []) 0 []

  home_made : (k : ℕ) → k < length homes → home_in (length homes) k made ≡ slice_index homes k
  unfolding home_in
  home_made k lt =
      ap (number_at 4 (4 * (k % 1024))) (at_index (k / 1024) (index_within k (length homes) lt))
      ∙ index_is.there (k / 1024) (k % 1024) (index_within k (length homes) lt) (omega arith) (omega (arith, lt))
      ∙ ap (slice_index homes) (omega arith)

  count_made : length homes < 2 ^ 31 → count_in made ≡ length homes
  unfolding count_in
  count_made small = count-read (length homes) (omega (arith, small))

  recorded_made : length homes < 2 ^ 31 → IsRecorded homes made
  recorded_made small = record {
    count = count_made small;
    index =
        slots_tail (length homes) 0 homes made
        (λ j lt. subst (λ (k : ℕ). home_in (length homes) k made ≡ slice_index homes j) (zero_more j)
        (home_made j lt));
    room = omega (arith, length_made);
    last = ap says at_end ∙ says-none;
  }
    where
      zero_more : (n : ℕ) → n ≡ 0 + n
      zero_more n = omega arith

  region_made : (limit : ℕ) → length homes < 2 ^ 31 → All (λ h. h < limit) homes → IsRegion homes limit made
  region_made limit small below =
      recorded_region homes made (recorded_made small) limit says-one below

  homes_made : (limit : ℕ) → length homes < 2 ^ 31 → All (λ h. h < limit) homes
      → homes_in made ≡ region_of homes
  homes_made limit small below =
      let is = region_made limit small below in
      let size : size_of made + 0 ≡ 2 + length homes + index_blocks (length homes) =
      omega (arith, recorded_size homes made (recorded_made small)) in
      homes_more made is.committed
      ∙ ap (λ (l : List ℕ). l ++ homes_in (drop (size_of made) made)) is.homes
      ∙ ap (λ (l : List ℕ). region_of homes ++ l)
      (homes_unsaid (drop (size_of made) made)
      (ap says (get_or-drop (size_of made) made 0 [] ∙ ap (λ (k : ℕ). block_at k made) size ∙ at_end)
      ∙ says-none))
      ∙ append-nil (region_of homes)

-- what was added in turn
pub joined : (start a b c d head slots index end : Blocks) → a ≡ start ++ head → b ≡ a ++ slots → c ≡ b ++ index
    → d ≡ c ++ end → d ≡ start ++ (head ++ (slots ++ (index ++ end)))
joined start a b c d head slots index end is_a is_b is_c is_d =
    is_d
    ∙ ap (λ (x : Blocks). x ++ end)
    (is_c ∙ ap (λ (x : Blocks). x ++ index) (is_b ∙ ap (λ (x : Blocks). x ++ slots) is_a))
    ∙ append_assoc (start ++ head ++ slots) index end
    ∙ append_assoc (start ++ head) slots (index ++ end)
    ∙ append_assoc start head (slots ++ (index ++ end))

-- ---- what is read through it

slot_of : (homes : List ℕ) (i : ℕ)
    → ((j k : ℕ) → j < k → k < length homes → slice_index homes j < slice_index homes k)
    → (one : Contains homes i) → IsSlot homes i one.0
slot_of homes i rising one =
    let is : slice_index homes one.0 ≡ i = get_or_default homes one.0 0 i one.1 ∙ one.2 in
    record {
      there = one.1;
      home = is;
      last = λ k gt lt e. absurd (omega (arith, rising one.0 k gt lt, is, e));
    }

pub read_made : (held : List ℕ) (log : Blocks) (homes : List ℕ) (slots index : Blocks) (count : List ℕ)
    (limit : ℕ) (a : Blocks) → AreListed held limit homes → AreNewest held log homes (length homes) slots
    → AreIndex homes (index_blocks (length homes)) index → length homes < 2 ^ 31 → limit ≤ 2 ^ 31
    → length a ≡ limit
    → recovered a (log_of (length homes) slots index count) ≡ overlaid held log a
read_made held log homes slots index count limit a listed newest indexed small few size =
    let b : Blocks = log_of (length homes) slots index count in
    ap (λ (l : List ℕ). overlaid l b a)
    (homes_made homes slots index count newest.many indexed limit small listed.below)
    ∙ shown_region homes b a (omega (arith, size, few))
    ∙ same_blocks (shown_through homes b a) (overlaid held log a)
    (length-shown homes b a ∙ sym (length-overlaid held log a))
    (λ i lt.
    let less : i < length a = omega (arith, lt, length-shown homes b a) in
    ⊎_elim
    (λ (one : Contains homes i).
    let slot : IsSlot homes i one.0 = slot_of homes i listed.rising one in
    let new = newest.newest one.0 one.1 in
    shown_reads i one.0 homes b a slot less
    ∙ at_slot homes slots index count newest.many indexed one.0 one.1
    ∙ new.2
    ∙ sym (overlay_reads i new.0 held log a (subst (λ (h : ℕ). IsSlot held h new.0) slot.home new.1) less))
    (λ (none : ¬ Contains held i).
    shown_other homes b a i
    (λ one. none (held_by one.0 i (newest.newest one.0 one.1)
    (get_or_default homes one.0 0 i one.1 ∙ one.2)))
    (omega (arith, less, size, few))
    ∙ sym (overlaid_other held log a i none))
    (listed.found i (omega (arith, less, size))))
  where
    held_by : (place i : ℕ) → IsNewest held log (slice_index homes place) (block_at place slots)
        → slice_index homes place ≡ i → Contains held i
    held_by place i new is =
        (new.0, new.1.there, get_or_default held new.0 i 0 new.1.there ∙ new.1.home ∙ is)
