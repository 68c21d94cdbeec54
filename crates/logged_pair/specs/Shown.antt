-- What is read through the slots of a region, and what a write of one of its blocks or of the base makes of it.
use Rattle.std.proofs.Common.{◌≡◌, ◌∙◌, ◌⊎◌, ℕ, zero, suc, ◌+◌, ◌<◌, ◌≤◌, List, [], ◌∷◌, ◌++◌, length, set}
use Rattle.std.proofs.Common.{drop, get_or, replicate, refl, sym, ap, subst, arith, inl, inr, ⊎_elim, length-set}
use Rattle.std.specs.Prelude.{slice_index}
use Rattle.std.specs.List.{All, Contains}
use Rattle.std.proofs.lemmas.Bool.{cases_lt, cases_eq}
use Rattle.std.proofs.lemmas.List.{get_or-drop, get_or-set_same, get_or-set_other, get_or_past, set_past}
use Rattle.std.proofs.lemmas.List.Elements.{All-cons}
use Rattle.block_device.specs.Device.{Blocks, Torn, block_at, written}
use Rattle.block_device.specs.Written.{block_at-written, block_at-written_other, length-written_within}
use Rattle.block_device.specs.Written.{set_written}
use Rattle.committed_log.specs.Found.{IsSlot}
use Rattle.committed_log.specs.Log.{entries_from, index_blocks, no_home, overlaid, region_of, replayed}
use Rattle.committed_log.specs.Overlay.{overlay_append, overlay_reads, overlay_written}
use Rattle.committed_log.specs.Replay.{length-overlaid, overlaid_other, same_blocks}
use Rattle.committed_log.specs.Stops.{IsHome}
use Rattle.committed_log.specs.Torn.{torn_cases}
use Rattle.logged_pair.specs.Stages.{SameBehind, open_homes, shown_through}

-- a block that was written is there
pub within_written : (i : ℕ) (x : List ℕ) (bs : Blocks) → i ≤ length bs → i < length (written i x bs)
within_written zero x [] le = omega arith
within_written (suc i) x [] le = absurd (omega arith)
within_written zero x (b ∷ bs) le = omega arith
within_written (suc i) x (b ∷ bs) le = omega (arith, within_written i x bs (omega arith))

-- ---- the blocks that it depends on

pub set_here : (c : Blocks) (k h : ℕ) (x : List ℕ) → k ≡ h → k < length c → block_at k (set c h x) ≡ x
set_here c k h x here lt =
    subst (λ (j : ℕ). block_at j (set c h x) ≡ x) (sym here)
    (get_or-set_same c h x [] (omega (arith, lt, here)))

at_place : (n m : ℕ) (b c : Blocks) → n ≡ m → block_at n c ≡ block_at n b → block_at m c ≡ block_at m b
at_place n m b c e is = subst (λ (i : ℕ). block_at i c ≡ block_at i b) e is

-- one block set in both, of bytes that are the same where it is the block that is asked for
set_both : (k h : ℕ) (x y : List ℕ) (a d : Blocks) → length d ≡ length a → block_at k d ≡ block_at k a
    → (k ≡ h → y ≡ x) → block_at k (set d h y) ≡ block_at k (set a h x)
set_both k h x y a d size is same = ⊎_elim
    (λ (here : k ≡ h). ⊎_elim
    (λ (lt : k < length a).
    set_here d k h y here (omega (arith, lt, size)) ∙ same here ∙ sym (set_here a k h x here lt))
    (λ (past : length a ≤ k).
    get_or_past (set d h y) k [] (omega (arith, past, size, length-set d h y))
    ∙ sym (get_or_past (set a h x) k [] (omega (arith, past, length-set a h x))))
    (cases_lt k (length a)))
    (λ (apart : ¬ (k ≡ h)).
    get_or-set_other d h k y [] apart ∙ is ∙ sym (get_or-set_other a h k x [] apart))
    (cases_eq k h)

-- A block that is read depends on those of its slots alone.
pub apart_from : (s k : ℕ) (homes : List ℕ) (b c a d : Blocks) → length d ≡ length a
    → block_at k d ≡ block_at k a
    → ((t : ℕ) → t < length homes → slice_index homes t ≡ k → block_at (s + t) c ≡ block_at (s + t) b)
    → block_at k (replayed (entries_from s homes c) d) ≡ block_at k (replayed (entries_from s homes b) a)
apart_from s k [] b c a d size is same = is
apart_from s k (h ∷ hs) b c a d size is same =
    apart_from (suc s) k hs b c (set a h (block_at s b)) (set d h (block_at s c))
    (length-set d h (block_at s c) ∙ size ∙ sym (length-set a h (block_at s b)))
    (set_both k h (block_at s b) (block_at s c) a d size is
    (λ here. at_place (s + 0) s b c (omega arith) (same 0 (omega arith) (sym here))))
    (λ t lt e. at_place (s + suc t) (suc s + t) b c (omega arith) (same (suc t) (omega (arith, lt)) e))

pub overlay_but : (homes : List ℕ) (b c a : Blocks)
    → ((t : ℕ) → t < length homes → slice_index homes t < length a → block_at t c ≡ block_at t b)
    → overlaid homes c a ≡ overlaid homes b a
overlay_but homes b c a same =
    same_blocks (overlaid homes c a) (overlaid homes b a)
    (length-overlaid homes c a ∙ sym (length-overlaid homes b a))
    (λ k lt. apart_from 0 k homes b c a a refl refl
    (λ t less e. at_place t (0 + t) b c (omega arith)
    (same t less (omega (arith, lt, e, length-overlaid homes c a)))))

-- ---- the homes of a region

open_place : (slots : List ℕ) (t n : ℕ) → slice_index (open_homes slots) t < n → n ≤ no_home → 2 ≤ t
open_place slots zero n lt few = absurd (omega (arith, lt, few))
open_place slots (suc zero) n lt few = absurd (omega (arith, lt, few))
open_place slots (suc (suc t)) n lt few = omega arith

open_last : (slots : List ℕ) (i m : ℕ) → IsSlot slots i m
    → (k : ℕ) → suc (suc m) < k → k < length (open_homes slots) → ¬ (slice_index (open_homes slots) k ≡ i)
open_last slots i m s zero gt lt = absurd (omega (arith, gt))
open_last slots i m s (suc zero) gt lt = absurd (omega (arith, gt))
open_last slots i m s (suc (suc k)) gt lt = s.last k (omega (arith, gt)) (omega (arith, lt))

-- a slot is behind flag and count
pub open_slot : (slots : List ℕ) (i m : ℕ) → IsSlot slots i m → IsSlot (open_homes slots) i (2 + m)
open_slot slots i m s =
    let at : suc (suc m) ≡ 2 + m = omega arith in
    subst (IsSlot (open_homes slots) i) at (record {
      there = omega (arith, s.there);
      home = s.home;
      last = open_last slots i m s;
    })

open_apart : (slots : List ℕ) (i k : ℕ) → ¬ Contains slots i → ¬ (i ≡ no_home)
    → k < length (open_homes slots) → get_or (open_homes slots) k i ≡ i → ⊥
open_apart slots i zero none apart lt e = apart (sym e)
open_apart slots i (suc zero) none apart lt e = apart (sym e)
open_apart slots i (suc (suc k)) none apart lt e = none (k, omega (arith, lt), e)

pub open_none : (slots : List ℕ) (i : ℕ) → ¬ Contains slots i → i < no_home → ¬ Contains (open_homes slots) i
open_none slots i none lt one =
    open_apart slots i one.0 none (λ e. omega (arith, e, lt)) one.1 one.2

open_are : (slots : List ℕ) (kept n : ℕ) → All (λ h. h < kept) slots → kept ≤ n
    → All (IsHome n) (open_homes slots)
open_are slots kept n below le =
    All-cons (IsHome n) no_home (no_home ∷ slots) (λ past. refl)
    (All-cons (IsHome n) no_home slots (λ past. refl)
    (λ k d lt past. absurd (past (omega (arith, below k d lt, le)))))

-- no block behind those that were committed has a slot
pub none_behind : (slots : List ℕ) (kept i : ℕ) → All (λ h. h < kept) slots → kept ≤ i → ¬ Contains slots i
none_behind slots kept i below le one = omega (arith, below one.0 i one.1, one.2, le)

-- ---- what is read

pub length-shown : (slots : List ℕ) (b a : Blocks) → length (shown_through slots b a) ≡ length a
length-shown slots b a = length-overlaid (open_homes slots) b a

pub shown_reads : (i m : ℕ) (slots : List ℕ) (b a : Blocks) → IsSlot slots i m → i < length a
    → block_at i (shown_through slots b a) ≡ block_at (2 + m) b
shown_reads i m slots b a slot lt = overlay_reads i (2 + m) (open_homes slots) b a (open_slot slots i m slot) lt

pub shown_other : (slots : List ℕ) (b a : Blocks) (i : ℕ) → ¬ Contains slots i → i < no_home
    → block_at i (shown_through slots b a) ≡ block_at i a
shown_other slots b a i none lt = overlaid_other (open_homes slots) b a i (open_none slots i none lt)

-- without slots
pub shown_bare : (b a : Blocks) → length a ≤ no_home → shown_through [] b a ≡ a
shown_bare b a few =
    ap (λ (c : Blocks). set c no_home (block_at 1 b)) (set_past a no_home (block_at 0 b) few)
    ∙ set_past a no_home (block_at 1 b) few

nones : (d k : ℕ) (b a : Blocks) → length a ≤ no_home
    → replayed (entries_from k (replicate d no_home) b) a ≡ a
nones zero k b a few = refl
nones (suc d) k b a few =
    ap (replayed (entries_from (suc k) (replicate d no_home) b)) (set_past a no_home (block_at k b) few)
    ∙ nones d (suc k) b a few

-- through the whole region
pub shown_region : (slots : List ℕ) (b a : Blocks) → length a ≤ no_home
    → overlaid (region_of slots) b a ≡ shown_through slots b a
shown_region slots b a few =
    let d : ℕ = index_blocks (length slots) in
    overlay_append (open_homes slots) (replicate d no_home) b a
    ∙ nones d 0 (drop (length (open_homes slots)) b) (shown_through slots b a)
    (omega (arith, few, length-shown slots b a))

-- ---- blocks that are no slots

-- the flag
pub shown_flag : (slots : List ℕ) (b journal a : Blocks) → length a ≤ no_home → SameBehind b journal
    → shown_through slots b a ≡ shown_through slots journal a
shown_flag slots b journal a few same =
    overlay_but (open_homes slots) journal b a
    (λ t lt below. same.same t (omega (arith, open_place slots t (length a) below few)))

-- any other
pub shown_elsewhere : (at : ℕ) (slots : List ℕ) (x : List ℕ) (b a : Blocks) → length a ≤ no_home
    → (at < 2) ⊎ (2 + length slots ≤ at) → at ≤ length b
    → shown_through slots (written at x b) a ≡ shown_through slots b a
shown_elsewhere at slots x b a few apart le =
    overlay_but (open_homes slots) b (written at x b) a
    (λ t lt below. block_at-written_other at t x b le (λ e. other t lt below e))
  where
    other : (t : ℕ) → t < length (open_homes slots) → slice_index (open_homes slots) t < length a → t ≡ at → ⊥
    other t lt below e =
        let ge : 2 ≤ t = open_place slots t (length a) below few in
        ⊎_elim (λ (low : at < 2). omega (arith, low, ge, e))
        (λ (high : 2 + length slots ≤ at). omega (arith, high, lt, e)) apart

-- ---- a slot

-- one more
pub shown_more : (slots : List ℕ) (i : ℕ) (x : List ℕ) (b a : Blocks) → length a ≤ no_home
    → 2 + length slots ≤ length b → i < length a
    → shown_through (slots ++ i ∷ []) (written (2 + length slots) x b) a ≡ written i x (shown_through slots b a)
shown_more slots i x b a few there lt =
    let at : ℕ = 2 + length slots in
    let c : Blocks = written at x b in
    let old : Blocks = shown_through slots b a in
    let place : length (open_homes slots) + 0 ≡ at = omega arith in
    overlay_append (open_homes slots) (i ∷ []) c a
    ∙ ap (λ (y : List ℕ). set (shown_through slots c a) i y)
    (get_or-drop (length (open_homes slots)) c 0 [] ∙ ap (λ (n : ℕ). block_at n c) place
    ∙ block_at-written at x b there)
    ∙ ap (λ (s : Blocks). set s i x) (shown_elsewhere at slots x b a few (inr (omega arith)) there)
    ∙ set_written i x old (omega (arith, lt, length-shown slots b a))

-- the slot of a block, written again
pub shown_again : (i m : ℕ) (slots : List ℕ) (x : List ℕ) (b a : Blocks) → IsSlot slots i m
    → 2 + length slots ≤ length b → i < length a
    → shown_through slots (written (2 + m) x b) a ≡ written i x (shown_through slots b a)
shown_again i m slots x b a slot there lt =
    let hs : List ℕ = open_homes slots in
    let at : ℕ = 2 + m in
    let c : Blocks = written at x b in
    let old : Blocks = shown_through slots b a in
    let le : at ≤ length b = omega (arith, there, slot.there) in
    let less : i < length old = omega (arith, lt, length-shown slots b a) in
    same_blocks (shown_through slots c a) (written i x old)
    (length-shown slots c a ∙ sym (length-shown slots b a) ∙ sym (length-written_within i x old less))
    (λ k within. ⊎_elim
    (λ (here : k ≡ i). subst (λ (n : ℕ). block_at n (shown_through slots c a) ≡ block_at n (written i x old))
    (sym here)
    (shown_reads i m slots c a slot lt ∙ block_at-written at x b le
    ∙ sym (block_at-written i x old (omega (arith, less)))))
    (λ (apart : ¬ (k ≡ i)).
    apart_from 0 k hs b c a a refl refl
    (λ t there' e. at_place t (0 + t) b c (omega arith)
    (block_at-written_other at t x b le
    (λ z. apart (sym e ∙ ap (slice_index hs) z ∙ (open_slot slots i m slot).home))))
    ∙ sym (block_at-written_other i k x old (omega (arith, less)) apart))
    (cases_eq k i))

-- ---- a block of the base behind those that were committed

pub shown_behind : (slots : List ℕ) (i kept : ℕ) (x : List ℕ) (b a : Blocks) → length a < no_home
    → i < no_home → All (λ h. h < kept) slots → kept ≤ i → kept ≤ length a
    → shown_through slots b (written i x a) ≡ written i x (shown_through slots b a)
shown_behind slots i kept x b a few small below le there =
    overlay_written (open_homes slots) i x b a
    (open_none slots i (none_behind slots kept i below le) small) (open_are slots kept (length a) below there)
    few

pub behind_torn : (slots : List ℕ) (i kept : ℕ) (b a a' : Blocks) → length a < no_home
    → i < no_home → All (λ h. h < kept) slots → kept ≤ i → kept ≤ length a → Torn i a a'
    → Torn i (shown_through slots b a) (shown_through slots b a')
behind_torn slots i kept b a a' few small below le there torn =
    torn_cases i a a' (λ c. Torn i (shown_through slots b a) (shown_through slots b c)) (inl refl)
    (λ x is. inr (x, is, shown_behind slots i kept x b a few small below le there)) torn
