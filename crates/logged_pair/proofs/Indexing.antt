-- The index written, block by block, and what is then recorded.
use Rattle.std.proofs.Common.{◌≡◌, ◌∙◌, ◌↔◌, ◌^◌, ℕ, suc, ◌+◌, ◌*◌, ◌<◌, ◌≤◌, List, [], ◌∷◌, length}
use Rattle.std.proofs.Common.{refl, sym, ap, subst, arith, inl, ⊎_elim}
use Rattle.std.specs.Prelude.{◌/◌, ◌%◌, slice_index}
use Rattle.std.proofs.lemmas.Bool.{cases_lt, cases_eq}
use Rattle.block_device.specs.Device.{Blocks, block_at, written}
use Rattle.block_device.specs.Written.{block_at-written, block_at-written_other}
use Rattle.block_bytes.specs.Numbers.{number_at, put_number}
use Rattle.block_bytes.specs.Laws.{length-put, number_at-put, number_at-put_other}
use Rattle.committed_log.specs.FlagLaws.{count-read, says-none}
use Rattle.committed_log.specs.Log.{count_block, count_in, flag_block, home_in, index_blocks, says, slot_homes}
use Rattle.committed_log.specs.Regions.{index_within}
use Rattle.committed_log.specs.Torn.{written_before, written_longer}
use Rattle.logged_pair.specs.Shown.{within_written}
use Rattle.logged_pair.specs.Index.{HasIndex, HasNext, IsIndexed}
use Rattle.logged_pair.specs.Stages.{IsRecorded}
use Rattle.logged_pair.specs.Snapshots.{KeepsSnapshots}
use Rattle.logged_pair.specs.Standing.{IsHonest, KeepsTo, SameSlots, commits_of, homes_of, journal_of, kept_of}
use Rattle.logged_pair.specs.Standing.{log_of, pair_of, shown_of}
use Rattle.logged_pair.specs.declared.pair.LoggedPair.{LoggedPair}
use Rattle.logged_pair.proofs.Keeping.{keeps_none, keeps_on}
use Rattle.logged_pair.proofs.Snapped.{snaps_none, snapshots_then}

-- ---- an index page

-- the first m homes of those from `from` on stand in the page
pub record IsPageTo (homes : List ℕ) (from m : ℕ) (page : List ℕ) : Type 0 where
  pub size : length page ≡ 4096
  pub there : (j : ℕ) → j < m → number_at 4 (4 * j) page ≡ slice_index homes (from + j)

pub page_step : (homes : List ℕ) (from m x : ℕ) (page : List ℕ) → m < 1024 → x < 2 ^ 32
    → slice_index homes (from + m) ≡ x → IsPageTo homes from m page
    → IsPageTo homes from (m + 1) (put_number 4 (4 * m) x page)
page_step homes from m x page lt small is p = record {
  size = length-put 4 (4 * m) x page (omega (arith, lt, p.size)) ∙ p.size;
  there = λ j less. ⊎_elim
      (λ (here : j ≡ m). subst
      (λ (n : ℕ). number_at 4 (4 * n) (put_number 4 (4 * m) x page) ≡ slice_index homes (from + n))
      (sym here)
      (number_at-put 4 (4 * m) x page (omega (arith, lt, p.size)) small ∙ sym is))
      (λ (apart : ¬ (j ≡ m)). number_at-put_other 4 (4 * j) 4 (4 * m) x page (omega (arith, lt, p.size))
      (inl (before j less apart)) ∙ p.there j (below j less apart))
      (cases_eq j m);
}
  where
    below : (j : ℕ) → j < m + 1 → ¬ (j ≡ m) → j < m
    below j less ne =
        ⊎_elim (λ (l : j < m). l) (λ (ge : m ≤ j). absurd (ne (omega (arith, ge, less)))) (cases_lt j m)

    before : (j : ℕ) → j < m + 1 → ¬ (j ≡ m) → 4 * j + 4 ≤ 4 * m
    before j less ne = omega (arith, below j less ne)

-- ---- the index

index_first : (homes : List ℕ) (b : Blocks) → 2 + length homes ≤ length b → IsIndexed 0 homes b
index_first homes b room =
    record { room = omega (arith, room); there = λ k lt less. absurd (omega (arith, less)) }

pub index_more : (homes : List ℕ) (j at from : ℕ) (b b' : Blocks) (page : List ℕ) → at ≡ 2 + length homes + j
    → from ≡ 1024 * j
    → ((m : ℕ) → m < 1024 → from + m < length homes → number_at 4 (4 * m) page ≡ slice_index homes (from + m))
    → b' ≡ written at page b → IsIndexed j homes b → IsIndexed (j + 1) homes b'
unfolding home_in
index_more homes j at from b b' page at_is from_is holds w i = record {
  room = omega (arith, ap length w, within_written at page b (omega (arith, at_is, i.room)), at_is);
  there = λ k lt less. ap
      (λ (c : Blocks). number_at 4 (4 * (k % 1024)) (block_at (2 + length homes + k / 1024) c)) w ∙ ⊎_elim
      (λ (here : k / 1024 ≡ j).
      ap (number_at 4 (4 * (k % 1024)))
      (subst (λ (n : ℕ). block_at n (written at page b) ≡ page) (place k here)
      (block_at-written at page b (omega (arith, at_is, i.room))))
      ∙ holds (k % 1024) (omega arith) (omega (arith, from_is, here, lt))
      ∙ ap (slice_index homes) (whole k here))
      (λ (apart : ¬ (k / 1024 ≡ j)).
      ap (number_at 4 (4 * (k % 1024)))
      (block_at-written_other at (2 + length homes + k / 1024) page b (omega (arith, at_is, i.room))
      (λ e. apart (omega (arith, e, at_is))))
      ∙ i.there k lt (below k less apart))
      (cases_eq (k / 1024) j);
}
  where
    place : (k : ℕ) → k / 1024 ≡ j → at ≡ 2 + length homes + k / 1024
    place k here = omega (arith, at_is, here)

    whole : (k : ℕ) → k / 1024 ≡ j → from + k % 1024 ≡ k
    whole k here = omega (arith, from_is, here)

    below : (k : ℕ) → k / 1024 < j + 1 → ¬ (k / 1024 ≡ j) → k / 1024 < j
    below k less ne =
        ⊎_elim (λ (l : k / 1024 < j). l) (λ (ge : j ≤ k / 1024). absurd (ne (omega (arith, ge, less))))
        (cases_lt (k / 1024) j)

-- ---- the loop over the index blocks

pub record IndexedTo {P A : Type 0} {m : _} (j : ℕ) (old new : LoggedPair P A m) : Type 0 where
  pub slots : SameSlots old new
  pub honest : IsHonest old ↔ IsHonest new
  pub faults : m.faults (pair_of new) ≡ m.faults (pair_of old)
  pub shown : IsHonest old → shown_of new ≡ shown_of old
  pub keeps : IsHonest old → KeepsTo (commits_of old) old new
  pub snapshots : IsHonest old → KeepsSnapshots old new
  pub index : IsHonest old → IsIndexed j (homes_of old) (journal_of new)

pub indexed_start : {P A : Type 0} {m : _} (d : LoggedPair P A m) → IndexedTo 0 d d
indexed_start d = record {
  slots = record { deciding = refl; clearing = refl; kept = refl; homes = refl };
  honest = (λ h. h, λ h. h);
  faults = refl;
  shown = λ h. refl;
  keeps = λ h. keeps_none d;
  snapshots = λ h. snaps_none (kept_of d) (log_of d);
  index = λ h. index_first (homes_of d) (journal_of d) (d.standing h).room;
}

pub indexed_step : {P A : Type 0} {m : _} (j : ℕ) (old mid new : LoggedPair P A m) → IndexedTo j old mid
    → SameSlots mid new → (IsHonest mid ↔ IsHonest new) → m.faults (pair_of new) ≡ m.faults (pair_of mid)
    → (IsHonest mid → shown_of new ≡ shown_of mid) → (IsHonest mid → KeepsTo (commits_of mid) mid new)
    → (IsHonest mid → KeepsSnapshots mid new)
    → (IsHonest old → IsIndexed j (homes_of old) (journal_of mid)
    → IsIndexed (j + 1) (homes_of old) (journal_of new))
    → IndexedTo (j + 1) old new
indexed_step j old mid new c slots honest faults shown keeps snapshots more = record {
  slots = record {
    deciding = slots.deciding ∙ c.slots.deciding;
    clearing = slots.clearing ∙ c.slots.clearing;
    kept = slots.kept ∙ c.slots.kept;
    homes = slots.homes ∙ c.slots.homes;
  };
  honest = (λ h. honest.0 (c.honest.0 h), λ h. c.honest.1 (honest.1 h));
  faults = faults ∙ c.faults;
  shown = λ h. shown (c.honest.0 h) ∙ c.shown h;
  keeps = λ h. keeps_on (commits_of old) old mid new (c.keeps h) (keeps (c.honest.0 h));
  snapshots = λ h. snapshots_then old mid new (c.snapshots h) (snapshots (c.honest.0 h));
  index = λ h. more h (c.index h);
}

-- ---- the first blocks of the next region

-- a block behind the index
index_before : (homes : List ℕ) (at : ℕ) (x : List ℕ) (b b' : Blocks)
    → 2 + length homes + index_blocks (length homes) ≤ at → b' ≡ written at x b → HasIndex homes b
    → HasIndex homes b'
unfolding home_in
index_before homes at x b b' behind w i = record {
  room = omega (arith, ap length w, written_longer at x b, i.room);
  there = λ k lt less. ap
      (λ (c : Blocks). number_at 4 (4 * (k % 1024)) (block_at (2 + length homes + k / 1024) c)) w
      ∙ ap (number_at 4 (4 * (k % 1024)))
      (written_before (2 + length homes + k / 1024) at x b (omega (arith, less, behind))
      (omega (arith, less, i.room)))
      ∙ i.there k lt less;
}

-- its flag, which says that it is not committed, and its count
pub next_written : (homes : List ℕ) (n at to : ℕ) (x : List ℕ) (b b' b'' : Blocks) → n ≡ length homes
    → at ≡ 2 + n + index_blocks n → to ≡ at + 1 → b' ≡ written at (flag_block 0) b → b'' ≡ written to x b'
    → HasIndex homes b → HasIndex homes b'' × HasNext homes b''
next_written homes n at to x b b' b'' n_is at_is to_is w w' i =
    let size : at ≡ 2 + length homes + index_blocks (length homes) =
    at_is ∙ ap (λ (k : ℕ). 2 + k + index_blocks k) n_is in
    let there : at < length b' = omega (arith, ap length w, within_written at (flag_block 0) b (omega (arith, size, i.room)))
    in
    let i' : HasIndex homes b' = index_before homes at (flag_block 0) b b' (omega (arith, size)) w i in (
      index_before homes to x b' b'' (omega (arith, size, to_is)) w' i',
      record {
        room = omega (arith, size, to_is, ap length w', within_written to x b' (omega (arith, to_is, there)));
        unsaid = ap (λ (k : ℕ). says (block_at k b'')) (sym size) ∙ ap (λ (c : Blocks). says (block_at at c)) w'
            ∙ ap says (written_before at to x b' (omega (arith, to_is)) there
            ∙ ap (block_at at) w
            ∙ block_at-written at (flag_block 0) b (omega (arith, size, i.room)))
            ∙ says-none;
      },
    )

-- ---- what is recorded

pub slots_tail : (n k : ℕ) (hs : List ℕ) (b : Blocks)
    → ((j : ℕ) → j < length hs → home_in n (k + j) b ≡ slice_index hs j)
    → slot_homes n k (length hs) b ≡ hs
slots_tail n k [] b homes = refl
slots_tail n k (h ∷ hs) b homes =
    ap (λ (x : ℕ). x ∷ slot_homes n (suc k) (length hs) b)
    (subst (λ (i : ℕ). home_in n i b ≡ h) (here k) (homes 0 (omega arith)))
    ∙ ap (λ (l : List ℕ). h ∷ l)
    (slots_tail n (suc k) hs b
    (λ j lt. subst (λ (i : ℕ). home_in n i b ≡ slice_index hs j) (next k j)
    (homes (suc j) (omega (arith, lt)))))
  where
    here : (k : ℕ) → k + 0 ≡ k
    here k = omega arith

    next : (k j : ℕ) → k + suc j ≡ suc k + j
    next k j = omega arith

count_is : (n : ℕ) (b b' : Blocks) → n < 2 ^ 31 → 1 ≤ length b → b' ≡ written 1 (count_block n) b
    → count_in b' ≡ n
unfolding count_in
count_is n b b' small room w = ap (λ (c : Blocks). number_at 4 8 (block_at 1 c)) w
    ∙ ap (number_at 4 8) (block_at-written 1 (count_block n) b room) ∙ count-read n (omega (arith, small))

index_stays : (homes : List ℕ) (j : ℕ) (x : List ℕ) (b b' : Blocks)
    → 1 < length b → b' ≡ written 1 x b → IsIndexed j homes b → IsIndexed j homes b'
unfolding home_in
index_stays homes j x b b' room w i = record {
  room = omega (arith, ap length w, written_longer 1 x b, i.room);
  there = λ k lt less. ap
      (λ (c : Blocks). number_at 4 (4 * (k % 1024)) (block_at (2 + length homes + k / 1024) c)) w
      ∙ ap (number_at 4 (4 * (k % 1024)))
      (block_at-written_other 1 (2 + length homes + k / 1024) x b (omega (arith, room))
      (λ e. omega (arith, e)))
      ∙ i.there k lt less;
}

pub recorded_now : (homes : List ℕ) (n : ℕ) (b b' : Blocks) → n ≡ length homes → n < 2 ^ 31
    → b' ≡ written 1 (count_block n) b → HasIndex homes b → HasNext homes b → IsRecorded homes b'
recorded_now homes n b b' n_is small w i next =
    let i' : HasIndex homes b' =
    index_stays homes (index_blocks (length homes)) (count_block n) b b' (omega (arith, i.room)) w i in
    let last : ℕ = 2 + length homes + index_blocks (length homes) in
    record {
      count = count_is n b b' small (omega (arith, i.room)) w ∙ n_is;
      index =
          slots_tail (length homes) 0 homes b'
          (λ j lt. subst (λ (k : ℕ). home_in (length homes) k b' ≡ slice_index homes j) (zero_more j)
          (i'.there j lt (index_within j (length homes) lt)));
      room = omega (arith, ap length w, written_longer 1 (count_block n) b, next.room);
      last = ap (λ (c : Blocks). says (block_at last c)) w
          ∙ ap says (block_at-written_other 1 last (count_block n) b (omega (arith, next.room))
          (λ e. omega (arith, e)))
          ∙ next.unsaid;
    }
  where
    zero_more : (n : ℕ) → n ≡ 0 + n
    zero_more n = omega arith
