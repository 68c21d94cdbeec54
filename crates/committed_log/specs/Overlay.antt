-- What is read through the blocks of a log, and what a write of the journal or of the base makes of it.
use Rattle.std.proofs.Common.{◌≡◌, ◌∙◌, ℕ, zero, suc, ◌+◌, ◌<◌, ◌≤◌, List, [], ◌∷◌, ◌++◌, length, set, take}
use Rattle.std.proofs.Common.{drop, get_or, refl, sym, ap, subst, arith, inl, inr, ⊎_elim, length-set}
use Rattle.std.specs.Prelude.{slice_index}
use Rattle.std.specs.List.{All, Contains}
use Rattle.std.proofs.lemmas.Bool.{cases_lt}
use Rattle.std.proofs.lemmas.List.{get_or-drop, get_or-set_same, get_or-take, set_past}
use Rattle.block_device.specs.Device.{Blocks, Torn, block_at, written}
use Rattle.block_device.specs.Outcomes.{not_first, not_later}
use Rattle.block_device.specs.Written.{torn_other}
use Rattle.committed_log.specs.Log.{Entry, replayed, entries_from, no_home, overlaid}
use Rattle.committed_log.specs.Found.{IsSlot}
use Rattle.committed_log.specs.Replay.{homes_of, homes_of_slots, overlay_same, replayed_other}
use Rattle.committed_log.specs.Stops.{IsHome}
use Rattle.committed_log.specs.Torn.{set_written, torn_cases, torn_size, written_shorter}

-- ---- the blocks that it depends on

entries_same : (k : ℕ) (homes : List ℕ) (b c : Blocks)
    → ((j : ℕ) → k ≤ j → j < k + length homes → block_at j c ≡ block_at j b)
    → entries_from k homes c ≡ entries_from k homes b
entries_same k [] b c same = refl
entries_same k (h ∷ hs) b c same =
    ap (λ (y : List ℕ). record { home = h; bytes = y } ∷ entries_from (suc k) hs c)
    (same k (omega arith) (omega arith))
    ∙ ap (λ (l : List Entry). record { home = h; bytes = block_at k b } ∷ l)
    (entries_same (suc k) hs b c (λ j ge lt. same j (omega (arith, ge)) (omega (arith, lt))))

-- the first blocks alone
pub overlay_first : (homes : List ℕ) (b c a : Blocks) → take (length homes) c ≡ take (length homes) b
    → overlaid homes c a ≡ overlaid homes b a
overlay_first homes b c a same =
    ap (λ (es : List Entry). replayed es a) (entries_same 0 homes b c (λ j ge lt.
    let less : j < length homes = omega (arith, lt) in
    sym (get_or-take (length homes) c j [] less) ∙ ap (block_at j) same
    ∙ get_or-take (length homes) b j [] less))

-- and not block 0, where that is no slot
pub overlay_aside : (homes : List ℕ) (b c a : Blocks)
    → (0 < length homes → slice_index homes 0 ≡ no_home) → length a ≤ no_home
    → ((j : ℕ) → 0 < j → j < length homes → block_at j c ≡ block_at j b)
    → overlaid homes c a ≡ overlaid homes b a
overlay_aside [] b c a none few same = refl
overlay_aside (h ∷ hs) b c a none few same =
    let past : length a ≤ h = omega (arith, few, none (omega arith)) in
    ap (replayed (entries_from 1 hs c)) (set_past a h (block_at 0 c) past)
    ∙ ap (λ (es : List Entry). replayed es a)
    (entries_same 1 hs b c (λ j ge lt. same j (omega (arith, ge)) (omega (arith, lt))))
    ∙ sym (ap (replayed (entries_from 1 hs b)) (set_past a h (block_at 0 b) past))

-- ---- two logs in a row

shifted : (s k at : ℕ) (homes : List ℕ) (b : Blocks) → at ≡ s + k
    → entries_from at homes b ≡ entries_from k homes (drop s b)
shifted s k at [] b is = refl
shifted s k at (h ∷ hs) b is =
    ap (λ (y : List ℕ). record { home = h; bytes = y } ∷ entries_from (suc at) hs b)
    (ap (λ (n : ℕ). block_at n b) is ∙ sym (get_or-drop s b k []))
    ∙ ap (λ (l : List Entry). record { home = h; bytes = block_at k (drop s b) } ∷ l)
    (shifted s (suc k) (suc at) hs b (omega (arith, is)))

replayed_append : (k at : ℕ) (homes more : List ℕ) (b a : Blocks) → at ≡ k + length homes
    → replayed (entries_from k (homes ++ more) b) a
    ≡ replayed (entries_from at more b) (replayed (entries_from k homes b) a)
replayed_append k at [] more b a is =
    ap (λ (n : ℕ). replayed (entries_from n more b) a) (omega (arith, is))
replayed_append k at (h ∷ hs) more b a is =
    replayed_append (suc k) at hs more b (set a h (block_at k b)) (omega (arith, is))

pub overlay_append : (homes more : List ℕ) (b a : Blocks)
    → overlaid (homes ++ more) b a ≡ overlaid more (drop (length homes) b) (overlaid homes b a)
overlay_append homes more b a =
    replayed_append 0 (length homes) homes more b a (omega arith)
    ∙ ap (λ (es : List Entry). replayed es (overlaid homes b a))
    (shifted (length homes) 0 (length homes) more b (omega arith))

-- ---- a write of the base

-- a block that is no home, set among those that are, or none
apart_set : (h i : ℕ) (x y : List ℕ) (a : Blocks) → ¬ (i ≡ h) → IsHome (length a) h → length a < no_home
    → set (written i x a) h y ≡ written i x (set a h y)
apart_set h i x y a apart is few = ⊎_elim
    (λ (there : h < length a). set_written i h x y a (λ e. apart (sym e)) there)
    (λ (past : length a ≤ h).
    let none : h ≡ no_home = is (λ lt. omega (arith, lt, past)) in
    set_past (written i x a) h y
    (omega (arith, none, few, written_shorter i x a))
    ∙ ap (written i x) (sym (set_past a h y past)))
    (cases_lt h (length a))

replayed_written : (es : List Entry) (i : ℕ) (x : List ℕ) (a : Blocks) → ¬ Contains (homes_of es) i
    → All (IsHome (length a)) (homes_of es) → length a < no_home
    → replayed es (written i x a) ≡ written i x (replayed es a)
replayed_written [] i x a none are few = refl
replayed_written (e ∷ es) i x a none are few =
    ap (replayed es)
    (apart_set e.home i x e.bytes a (not_first i e.home (homes_of es) none) (are 0 0 (omega arith)) few)
    ∙ replayed_written es i x (set a e.home e.bytes) (not_later i e.home (homes_of es) none)
    (λ k d lt. subst (λ (n : ℕ). IsHome n (get_or (homes_of es) k d)) (sym (length-set a e.home e.bytes))
    (are (suc k) d (omega (arith, lt))))
    (omega (arith, few, length-set a e.home e.bytes))

-- where it has no slot
pub overlay_written : (homes : List ℕ) (i : ℕ) (x : List ℕ) (b a : Blocks) → ¬ Contains homes i
    → All (IsHome (length a)) homes → length a < no_home
    → overlaid homes b (written i x a) ≡ written i x (overlaid homes b a)
overlay_written homes i x b a none are few =
    let homes_are = homes_of_slots 0 homes b in
    replayed_written (entries_from 0 homes b) i x a
    (subst (λ (l : List ℕ). ¬ Contains l i) (sym homes_are) none)
    (subst (All (IsHome (length a))) (sym homes_are) are) few

pub overlay_torn : (homes : List ℕ) (i : ℕ) (b a a' : Blocks) → ¬ Contains homes i
    → All (IsHome (length a)) homes → length a < no_home → Torn i a a'
    → Torn i (overlaid homes b a) (overlaid homes b a')
overlay_torn homes i b a a' none are few torn =
    torn_cases i a a' (λ c. Torn i (overlaid homes b a) (overlaid homes b c)) (inl refl)
    (λ x is. inr (x, is, overlay_written homes i x b a none are few)) torn

-- where it has one
pub overlay_home : (homes : List ℕ) (h : ℕ) (b a a' : Blocks) → Contains homes h → h < length a
    → Torn h a a' → overlaid homes b a' ≡ overlaid homes b a
overlay_home homes h b a a' one lt torn =
    overlay_same homes b a' a (torn_size h a a' lt torn)
    (λ k none. torn_other h k a a' torn (omega (arith, lt))
    (λ e. none (subst (Contains homes) (sym e) one)))

-- ---- what a slot holds is read

get_to : (i : ℕ) (l : List ℕ) (n : ℕ) → n < length l → get_or l n i ≡ i → get_or l n 0 ≡ i
get_to i [] n lt e = absurd (omega arith)
get_to i (y ∷ l) zero lt e = e
get_to i (y ∷ l) (suc n) lt e = get_to i l n (omega arith) e

read_from : (i k m at : ℕ) (homes : List ℕ) (b a : Blocks) → at ≡ k + m → IsSlot homes i m → i < length a
    → block_at i (replayed (entries_from k homes b) a) ≡ block_at at b
read_from i k m at [] b a is slot lt = absurd (omega (arith, slot.there))
read_from i k zero at (h ∷ hs) b a is slot lt =
    let here : h ≡ i = slot.home in
    let none : ¬ Contains (homes_of (entries_from (suc k) hs b)) i =
    subst (λ (l : List ℕ). ¬ Contains l i) (sym (homes_of_slots (suc k) hs b))
    (λ one. slot.last (suc one.0) (omega arith) (omega (arith, one.1)) (get_to i hs one.0 one.1 one.2)) in
    replayed_other (entries_from (suc k) hs b) (set a h (block_at k b)) i none
    ∙ ap (λ (n : ℕ). block_at i (set a n (block_at k b))) here
    ∙ get_or-set_same a i (block_at k b) [] lt
    ∙ ap (λ (n : ℕ). block_at n b) (omega (arith, is))
read_from i k (suc m) at (h ∷ hs) b a is slot lt =
    read_from i (suc k) m at hs b (set a h (block_at k b)) (omega (arith, is))
    (record {
      there = omega (arith, slot.there);
      home = slot.home;
      last = λ n gt less. slot.last (suc n) (omega (arith, gt)) (omega (arith, less));
    })
    (omega (arith, lt, length-set a h (block_at k b)))

pub overlay_reads : (i m : ℕ) (homes : List ℕ) (b a : Blocks) → IsSlot homes i m → i < length a
    → block_at i (overlaid homes b a) ≡ block_at m b
overlay_reads i m homes b a slot lt = read_from i 0 m m homes b a (omega arith) slot lt
