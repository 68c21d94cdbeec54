-- Whether a block's number is in a list, as a test.
use Rattle.std.proofs.Common.{◌≡◌, ℕ, zero, suc, ◌<◌, ◌≤◌, true, false, nat_eq, List, [], ◌∷◌, ◌++◌, length}
use Rattle.std.proofs.Common.{get_or, Some, None, refl, sym, arith, ⊎_elim, length-set}
use Rattle.std.specs.List.{Contains}
use Rattle.std.proofs.lemmas.Bool.{cases_lt, eq-eqb, eqb-true, or_cases, or_left, or_right, both_ways}
use Rattle.std.proofs.lemmas.List.{length-take-le}
use Rattle.block_device.specs.Logged.{Write}
use Rattle.block_device.specs.Device.{Blocks}
use Rattle.block_device.specs.History.{Event, Wrote, Synced, undone, IsHistory, at_sync, unsynced}
use Rattle.block_device.specs.Kept.{is_in, is_logged}

pub contains_from : (k : ℕ) (ns : List ℕ) → is_in k ns ≡ true → Contains ns k
contains_from k [] one = cc
contains_from k (n ∷ ns) one = ⊎_elim
    (λ (here : nat_eq k n ≡ true). (0, omega arith, sym (eqb-true k n here)))
    (λ (later : is_in k ns ≡ true). let c = contains_from k ns later in (suc c.0, omega (arith, c.1), c.2))
    (or_cases (nat_eq k n) (is_in k ns) one)

at_place : (k : ℕ) (ns : List ℕ) (place : ℕ) → place < length ns → get_or ns place k ≡ k → is_in k ns ≡ true
at_place k [] place lt is = absurd (omega arith)
at_place k (n ∷ ns) zero lt is = or_left (nat_eq k n) (is_in k ns) (eq-eqb k n (sym is))
at_place k (n ∷ ns) (suc place) lt is =
    or_right (nat_eq k n) (is_in k ns) (at_place k ns place (omega arith) is)

pub is_in_from : (k : ℕ) (ns : List ℕ) → Contains ns k → is_in k ns ≡ true
is_in_from k ns one = at_place k ns one.0 one.1 one.2

pub not_in : (k : ℕ) (ns : List ℕ) → is_in k ns ≡ false → ¬ Contains ns k
not_in k ns none one = both_ways (is_in k ns) none (is_in_from k ns one)

-- a block after those of the last sync was written since
pub appended : (bs : Blocks) (es : List Event) (k : ℕ) → IsHistory bs es → length (at_sync bs es) ≤ k
    → k < length bs → is_in k (unsynced es) ≡ true
appended bs [] k h le lt = absurd (omega (arith, le, lt))
appended bs (Synced ∷ es) k h le lt = absurd (omega (arith, le, lt))
appended bs (Wrote i (Some old) ∷ es) k h le lt =
    or_right (nat_eq k i) (is_in k (unsynced es))
    (appended (undone i (Some old) bs) es k h.1 le (omega (arith, lt, length-set bs i old)))
appended bs (Wrote i None ∷ es) k h le lt = ⊎_elim
    (λ (below : k < i). or_right (nat_eq k i) (is_in k (unsynced es))
    (appended (undone i None bs) es k h.1 le
    (omega (arith, below, h.0, length-take-le i bs (omega (arith, h.0))))))
    (λ (at : i ≤ k). or_left (nat_eq k i) (is_in k (unsynced es)) (eq-eqb k i (omega (arith, at, lt, h.0))))
    (cases_lt k i)

-- a log with one more write
pub logged_more : (k : ℕ) (log : List Write) (w : Write) → is_logged k log ≡ true
    → is_logged k (log ++ w ∷ []) ≡ true
logged_more k [] w one = cc
logged_more k (v ∷ log) w one = ⊎_elim
    (λ (here : nat_eq k v.at ≡ true). or_left (nat_eq k v.at) (is_logged k (log ++ w ∷ [])) here)
    (λ (later : is_logged k log ≡ true). or_right (nat_eq k v.at) (is_logged k (log ++ w ∷ []))
    (logged_more k log w later))
    (or_cases (nat_eq k v.at) (is_logged k log) one)

pub logged_last : (log : List Write) (w : Write) → is_logged w.at (log ++ w ∷ []) ≡ true
logged_last [] w = or_left (nat_eq w.at w.at) false (eq-eqb w.at w.at refl)
logged_last (v ∷ log) w = or_right (nat_eq w.at v.at) (is_logged w.at (log ++ w ∷ [])) (logged_last log w)
