-- Laws of the events of a journaled device: their moments, and what is unsynced where a stop leaves one thing
-- only.
use Rattle.std.proofs.Common.{◌≡◌, ◌∙◌, ◌-◌, ◌+◌, ◌<◌, ◌≤◌, ℕ, suc, Bool, true, false, nat_lt, if◌then◌else◌}
use Rattle.std.proofs.Common.{List, [], ◌∷◌, length, replicate, set, Option, refl, sym, ap, arith, lit<}
use Rattle.std.proofs.Common.{length-set}
use Rattle.std.specs.Prelude.{slice_index}
use Rattle.std.specs.List.{All}
use Rattle.std.proofs.lemmas.Bool.{ltb-true, ltb-false}
use Rattle.std.proofs.lemmas.List.{get_or-set_same, get_or-set_other}
use Rattle.block_device.specs.Device.{Blocks, IsBlock, Only, block_at}
use Rattle.block_device.specs.History.{Event, Synced, Wrote, IsHistory, MayLeave, unsynced}
use Rattle.block_device.specs.Outcomes.{not_first, repeated_block, set_blocks, sync_le, there_lt}
use Rattle.journaled_device.specs.Events.{Fall, events, events_until, moments}
use Rattle.logged_pair.specs.declared.pair.LoggedPair.{LoggedPair}

choose : {X : Type 0} (b : Bool) (x y : X) (P : X → Type 0) → (b ≡ true → P x) → (b ≡ false → P y)
    → P (if b then x else y)
choose true x y P f g = f refl
choose false x y P f g = g refl

-- how many events there were until a moment
pub until_le : (ts : List ℕ) (t : ℕ) → events_until ts t ≤ length ts
until_le [] t = omega arith
until_le (p ∷ ps) t =
    choose (nat_lt (p + length ps) t) (suc (length ps)) (events_until ps t) (λ n. n ≤ suc (length ps))
    (λ lt. omega arith) (λ ge. omega (arith, until_le ps t))

pub until_all : (now : ℕ) (ts : List ℕ) (t : ℕ) → Fall now ts → now + length ts ≤ t
    → events_until ts t ≡ length ts
until_all now [] t f le = refl
until_all now (p ∷ ps) t f le =
    choose (nat_lt (p + length ps) t) (suc (length ps)) (events_until ps t) (λ n. n ≡ suc (length ps))
    (λ lt. refl) (λ ge. absurd (omega (arith, le, f.0, ltb-false (p + length ps) t ge)))

pub until_more : (ts : List ℕ) (t u : ℕ) → t ≤ u → events_until ts t ≤ events_until ts u
until_more [] t u le = omega arith
until_more (p ∷ ps) t u le =
    choose (nat_lt (p + length ps) t) (suc (length ps)) (events_until ps t) (λ n. n ≤ events_until (p ∷ ps) u)
    (λ lt. choose (nat_lt (p + length ps) u) (suc (length ps)) (events_until ps u) (λ n. suc (length ps) ≤ n)
    (λ _. omega arith)
    (λ ge. absurd (omega (arith, le, ltb-true (p + length ps) t lt, ltb-false (p + length ps) u ge))))
    (λ _. choose (nat_lt (p + length ps) u) (suc (length ps)) (events_until ps u)
    (λ n. events_until ps t ≤ n) (λ _. omega (arith, until_le ps t)) (λ _. until_more ps t u le))

pub until_new : (now : ℕ) (ts : List ℕ) (t : ℕ) → t ≤ now + length ts
    → events_until (now ∷ ts) t ≡ events_until ts t
until_new now ts t le =
    choose (nat_lt (now + length ts) t) (suc (length ts)) (events_until ts t) (λ n. n ≡ events_until ts t)
    (λ lt. absurd (omega (arith, le, ltb-true (now + length ts) t lt))) (λ ge. refl)

-- the pair's moment then is at most the one that it is now
pub back_le : (now : ℕ) (ts : List ℕ) (t : ℕ) → Fall now ts → t ≤ now + length ts
    → t - events_until ts t ≤ now
back_le now [] t f le = omega (arith, le)
back_le now (p ∷ ps) t f le =
    choose (nat_lt (p + length ps) t) (suc (length ps)) (events_until ps t) (λ n. t - n ≤ now)
    (λ lt. omega (arith, le))
    (λ ge. omega (arith, f.0, back_le p ps t f.1 (omega (arith, ltb-false (p + length ps) t ge))))

pub back_now : (now : ℕ) (ts : List ℕ) → Fall now ts
    → now + length ts - events_until ts (now + length ts) ≡ now
back_now now ts f = omega (arith, until_all now ts (now + length ts) f (omega arith))

pub fall_more : (now later : ℕ) (ts : List ℕ) → now ≤ later → Fall now ts → Fall later ts
fall_more now later [] le f = tt
fall_more now later (t ∷ ts) le f = (omega (arith, f.0, le), f.1)

pub length-moments : {P A : Type 0} {m : _} (ns : List (LoggedPair P A m × Option ℕ))
    → length (moments ns) ≡ length (events ns)
length-moments [] = refl
length-moments (n ∷ ns) = ap suc (length-moments ns)

-- Where a stop leaves one thing only, nothing is unsynced: of a block that is, it may leave any bytes.
other_bytes : (blocks : Blocks) (i : ℕ) (old : Option (List ℕ)) (es : List Event) (byte : ℕ) → byte < 256
    → All IsBlock blocks → IsHistory blocks (Wrote i old ∷ es)
    → Only blocks (MayLeave blocks (Wrote i old ∷ es))
    → replicate 4096 byte ≡ block_at i blocks
other_bytes blocks i old es byte small sized h only =
    let b : List ℕ = replicate 4096 byte in
    let size : length (set blocks i b) ≡ length blocks = length-set blocks i b in
    let is : set blocks i b ≡ blocks = only (set blocks i b) (record {
      no_shorter = omega (arith, size, sync_le blocks (Wrote i old ∷ es) h);
      no_longer = omega (arith, size);
      whole = set_blocks i b blocks (repeated_block byte small) sized;
      others = λ k none lt. get_or-set_other blocks i k b [] (not_first k i (unsynced es) none);
    }) in
    sym (get_or-set_same blocks i b [] (there_lt i old blocks h.0)) ∙ ap (block_at i) is

first_byte : (n byte : ℕ) → slice_index (replicate (suc n) byte) 0 ≡ byte
first_byte n byte = refl

pub none_unsynced : (blocks : Blocks) (es : List Event) → All IsBlock blocks → IsHistory blocks es
    → Only blocks (MayLeave blocks es) → unsynced es ≡ []
none_unsynced blocks [] sized h only = refl
none_unsynced blocks (Synced ∷ es) sized h only = refl
none_unsynced blocks (Wrote i old ∷ es) sized h only =
    let zeros = other_bytes blocks i old es 0 (lit< tt) sized h only in
    let ones = other_bytes blocks i old es 1 (lit< tt) sized h only in
    let no : 0 ≡ 1 = sym (first_byte 4095 0) ∙ ap (λ (l : List ℕ). slice_index l 0) (zeros ∙ sym ones)
    ∙ first_byte 4095 1 in
    absurd (omega (arith, no))
