-- What a replay of entries makes of a base.
use Rattle.std.proofs.Common.{◌≡◌, ◌∙◌, ℕ, zero, suc, ◌<◌, ◌≤◌, List, [], ◌∷◌, length, set, get_or, refl, sym}
use Rattle.std.proofs.Common.{ap, subst, arith, ⊎_elim, length-set}
use Rattle.std.specs.List.{Contains}
use Rattle.std.proofs.lemmas.List.{same_lists, get_or-set_same, get_or-set_other, get_or_default, get_or_past}
use Rattle.std.proofs.lemmas.Bool.{cases_lt, cases_eq}
use Rattle.block_device.specs.Device.{Blocks, block_at}
use Rattle.block_device.specs.Outcomes.{not_first, not_later}
use Rattle.committed_log.specs.Log.{Entry, replayed, entries_from, overlaid}

-- the homes of entries
abbrev pub homes_of : List Entry → List ℕ
homes_of [] = []
homes_of (e ∷ es) = e.home ∷ homes_of es

pub length-replayed : (es : List Entry) (a : Blocks) → length (replayed es a) ≡ length a
length-replayed [] a = refl
length-replayed (e ∷ es) a = length-replayed es (set a e.home e.bytes) ∙ length-set a e.home e.bytes

pub replayed_other : (es : List Entry) (a : Blocks) (k : ℕ) → ¬ Contains (homes_of es) k
    → block_at k (replayed es a) ≡ block_at k a
replayed_other [] a k none = refl
replayed_other (e ∷ es) a k none =
    replayed_other es (set a e.home e.bytes) k (not_later k e.home (homes_of es) none)
    ∙ get_or-set_other a e.home k e.bytes [] (not_first k e.home (homes_of es) none)

-- one of the list, where it is not the first
pub later_only : (k i : ℕ) (ns : List ℕ) → ¬ (k ≡ i) → ¬ Contains ns k → ¬ Contains (i ∷ ns) k
later_only k i ns apart none one = from one.0 one.1 one.2
  where
    from : (place : ℕ) → place < suc (length ns) → get_or (i ∷ ns) place k ≡ k → ⊥
    from zero lt is = apart (sym is)
    from (suc place) lt is = none (place, omega (arith, lt), is)

pub same_blocks : (a b : Blocks) → length a ≡ length b
    → ((k : ℕ) → k < length a → block_at k a ≡ block_at k b) → a ≡ b
same_blocks a b size same =
    same_lists a b size
    (λ k d lt. get_or_default a k d [] lt ∙ same k lt ∙ get_or_default b k [] d (omega (arith, lt, size)))

-- Bases that differ in the homes alone are the same after the replay.
pub replay_same : (es : List Entry) (a b : Blocks) → length a ≡ length b
    → ((k : ℕ) → ¬ Contains (homes_of es) k → block_at k a ≡ block_at k b) → replayed es a ≡ replayed es b
replay_same [] a b size same = same_blocks a b size (λ k lt. same k (λ one. omega (arith, one.1)))
replay_same (e ∷ es) a b size same =
    replay_same es (set a e.home e.bytes) (set b e.home e.bytes)
    (length-set a e.home e.bytes ∙ size ∙ sym (length-set b e.home e.bytes))
    (λ k none. ⊎_elim
    (λ (here : k ≡ e.home). ⊎_elim
    (λ (lt : k < length a).
    set_here a k e.home e.bytes here lt
    ∙ sym (set_here b k e.home e.bytes here (omega (arith, lt, size))))
    (λ (past : length a ≤ k).
    get_or_past (set a e.home e.bytes) k [] (omega (arith, past, length-set a e.home e.bytes))
    ∙ sym (get_or_past (set b e.home e.bytes) k [] (omega (arith, past, size, length-set b e.home e.bytes))))
    (cases_lt k (length a)))
    (λ (apart : ¬ (k ≡ e.home)).
    get_or-set_other a e.home k e.bytes [] apart
    ∙ same k (later_only k e.home (homes_of es) apart none)
    ∙ sym (get_or-set_other b e.home k e.bytes [] apart))
    (cases_eq k e.home))
  where
    set_here : (c : Blocks) (k h : ℕ) (x : List ℕ) → k ≡ h → k < length c → block_at k (set c h x) ≡ x
    set_here c k h x here lt =
        subst (λ (j : ℕ). block_at j (set c h x) ≡ x) (sym here)
        (get_or-set_same c h x [] (omega (arith, lt, here)))

-- the homes of slots
pub homes_of_slots : (k : ℕ) (homes : List ℕ) (b : Blocks) → homes_of (entries_from k homes b) ≡ homes
homes_of_slots k [] b = refl
homes_of_slots k (h ∷ hs) b = ap (λ (l : List ℕ). h ∷ l) (homes_of_slots (suc k) hs b)

pub overlay_same : (homes : List ℕ) (journal a b : Blocks) → length a ≡ length b
    → ((k : ℕ) → ¬ Contains homes k → block_at k a ≡ block_at k b)
    → overlaid homes journal a ≡ overlaid homes journal b
overlay_same homes journal a b size same =
    replay_same (entries_from 0 homes journal) a b size
    (λ k none. same k (subst (λ (l : List ℕ). ¬ Contains l k) (homes_of_slots 0 homes journal) none))

pub length-overlaid : (homes : List ℕ) (journal a : Blocks) → length (overlaid homes journal a) ≡ length a
length-overlaid homes journal a = length-replayed (entries_from 0 homes journal) a

pub overlaid_other : (homes : List ℕ) (journal a : Blocks) (k : ℕ) → ¬ Contains homes k
    → block_at k (overlaid homes journal a) ≡ block_at k a
overlaid_other homes journal a k none =
    replayed_other (entries_from 0 homes journal) a k
    (subst (λ (l : List ℕ). ¬ Contains l k) (sym (homes_of_slots 0 homes journal)) none)
