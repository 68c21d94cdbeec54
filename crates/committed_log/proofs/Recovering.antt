-- What recovery makes of what a stop leaves.
use Rattle.std.proofs.Common.{◌≡◌, ◌∙◌, ℕ, ◌^◌, ◌<◌, ◌≤◌, Bool, true, false, List, [], length}
use Rattle.std.proofs.Common.{take, drop, sym, ap, arith, subst, ⊎_elim}
use Rattle.std.specs.List.{All}
use Rattle.std.proofs.lemmas.Bool.{cases_Bool}
use Rattle.std.proofs.lemmas.List.{get_or-drop, get_or-take}
use Rattle.block_device.specs.Device.{Blocks, block_at}
use Rattle.committed_log.specs.Log.{homes_in, no_home, overlaid, recovered, says}
use Rattle.committed_log.specs.Opening.{IsMalformed}
use Rattle.committed_log.specs.Regions.{flagged_aside, homes_first, recovered_unsaid, recovery_first}
use Rattle.committed_log.specs.Regions.{recovery_through}
use Rattle.committed_log.specs.Stops.{AreWholeBelow, IsClearing, IsHome, IsKept, IsStanding, ReadsIn, StopIn}
use Rattle.committed_log.specs.Stops.{flagged}
use Rattle.committed_log.specs.Whole.{malformed_left, unsaid_well}
use Rattle.committed_log.proofs.Stood.{overlay_left}

-- while the first flag is cleared: the base has all that the regions have
cleared_is : (homes : List ℕ) (base journal a b : Blocks) → length base ≤ no_home
    → length homes ≤ length journal → homes_in (flagged (take (length homes) journal)) ≡ homes
    → overlaid homes journal base ≡ base → IsClearing homes base journal a b
    → overlaid homes b a ≡ base
cleared_is homes base journal a b few there regions home stop =
    ap (overlaid homes b) stop.base_is
    ∙ overlay_left true homes base journal a b base regions few stop ∙ home

recovery_clearing : (homes : List ℕ) (base journal a b : Blocks) → length base ≤ no_home
    → length homes ≤ length journal → homes_in (flagged (take (length homes) journal)) ≡ homes
    → overlaid homes journal base ≡ base → IsClearing homes base journal a b
    → recovered a b ≡ recovered (overlaid homes b a) (drop (length homes) b)
recovery_clearing homes base journal a b few there regions home stop = ⊎_elim
    (λ (said : says (block_at 0 b) ≡ true).
    recovery_through homes b a
    (ap homes_in (flagged_aside (length homes) journal b there (omega (arith, stop.there)) stop.same) ∙ regions)
    (omega (arith, stop.there)) (λ some. said))
    (λ (unsaid : says (block_at 0 b) ≡ false).
    recovered_unsaid a b unsaid ∙ stop.base_is
    ∙ sym (recovered_unsaid (overlaid homes b a) (drop (length homes) b)
    (ap says (get_or-drop (length homes) b 0 [] ∙ ap (λ (n : ℕ). block_at n b) (omega arith)) ∙ stop.unsaid)
    ∙ cleared_is homes base journal a b few there regions home stop))
    (cases_Bool (says (block_at 0 b)))

-- the first flag stands among the blocks of the first region
first_flag : (s : ℕ) (b c : Blocks) → 0 < s → take s c ≡ take s b → says (block_at 0 c) ≡ says (block_at 0 b)
first_flag s b c some same =
    ap says (sym (get_or-take s c 0 [] some) ∙ ap (block_at 0) same ∙ get_or-take s b 0 [] some)

recovery_kept : (homes : List ℕ) (base journal a b : Blocks)
    → homes_in (flagged (take (length homes) journal)) ≡ homes
    → ReadsIn false homes base journal → IsKept homes journal a b
    → recovered a b ≡ recovered (overlaid homes b a) (drop (length homes) b)
recovery_kept homes base journal a b regions reads stop =
    recovery_through homes b a (ap (λ (l : Blocks). homes_in (flagged l)) stop.regions ∙ regions)
    (omega (arith, stop.there)) (λ some. first_flag (length homes) journal b some stop.regions ∙ reads some)

-- The law of recovery.
pub recovery_left : (clearing : Bool) (homes : List ℕ) (base journal a b : Blocks)
    → length base ≤ no_home → length homes ≤ length journal
    → homes_in (flagged (take (length homes) journal)) ≡ homes → ReadsIn clearing homes base journal
    → StopIn clearing homes base journal a b
    → recovered a b ≡ recovered (overlaid homes b a) (drop (length homes) b)
recovery_left false homes base journal a b few there regions reads stop =
    recovery_kept homes base journal a b regions reads stop
recovery_left true homes base journal a b few there regions reads stop =
    recovery_clearing homes base journal a b few there regions reads.1 stop

pub recovery_stands : (clearing : Bool) (homes : List ℕ) (base journal a b : Blocks)
    (ml : Blocks → Blocks → Type 0) → length base ≤ 2 ^ 31
    → IsStanding clearing homes base journal ml → ml a b
    → recovered a b ≡ recovered (overlaid homes b a) (drop (length homes) b)
recovery_stands clearing homes base journal a b ml few s left =
    recovery_left clearing homes base journal a b (omega (arith, few)) (omega (arith, s.there)) s.regions
    s.reads (s.stops a b left)

-- ---- what opening finds malformed stands behind the regions

malformed_stop : (clearing : Bool) (homes : List ℕ) (base journal a b : Blocks)
    (ml : Blocks → Blocks → Type 0) → IsStanding clearing homes base journal ml
    → StopIn clearing homes base journal a b → IsMalformed a b
    → IsMalformed (overlaid homes b a) (drop (length homes) b)
malformed_stop false homes base journal a b ml s stop bad =
    malformed_left homes a b (ap (λ (l : Blocks). homes_in (flagged l)) stop.regions ∙ s.regions)
    (omega (arith, stop.there))
    (λ some. first_flag (length homes) journal b some stop.regions ∙ s.reads some)
    (subst (λ (l : Blocks). AreWholeBelow no_home (flagged l)) (sym stop.regions) s.whole) stop.homes bad
malformed_stop true homes base journal a b ml s stop bad = ⊎_elim
    (λ (said : says (block_at 0 b) ≡ true).
    let first : flagged (take (length homes) b) ≡ flagged (take (length homes) journal) =
    flagged_aside (length homes) journal b (omega (arith, s.there)) (omega (arith, stop.there)) stop.same in
    malformed_left homes a b (ap homes_in first ∙ s.regions) (omega (arith, stop.there)) (λ some. said)
    (subst (AreWholeBelow no_home) (sym first) s.whole)
    (subst (λ (x : Blocks). All (IsHome (length x)) homes) (sym stop.base_is) s.homes) bad)
    (λ (unsaid : says (block_at 0 b) ≡ false). absurd (unsaid_well a b unsaid bad))
    (cases_Bool (says (block_at 0 b)))

pub malformed_stands : (clearing : Bool) (homes : List ℕ) (base journal a b : Blocks)
    (ml : Blocks → Blocks → Type 0) → IsStanding clearing homes base journal ml → ml a b → IsMalformed a b
    → IsMalformed (overlaid homes b a) (drop (length homes) b)
malformed_stands clearing homes base journal a b ml s left bad =
    malformed_stop clearing homes base journal a b ml s (s.stops a b left) bad

-- ---- recovery of the regions alone, as who has read no further makes it

kept_homes : (homes : List ℕ) (base journal a b : Blocks)
    → homes_in (flagged (take (length homes) journal)) ≡ homes
    → ReadsIn false homes base journal → IsKept homes journal a b
    → homes_in (take (length homes) b) ≡ homes
kept_homes homes base journal a b regions reads stop =
    homes_first homes b (ap (λ (l : Blocks). homes_in (flagged l)) stop.regions ∙ regions)
    (λ some. first_flag (length homes) journal b some stop.regions ∙ reads some)

first_clearing : (homes : List ℕ) (base journal a b : Blocks) → length base ≤ no_home
    → length homes ≤ length journal → homes_in (flagged (take (length homes) journal)) ≡ homes
    → ReadsIn true homes base journal → IsClearing homes base journal a b
    → recovered a (take (length homes) b) ≡ overlaid homes b a
first_clearing homes base journal a b few there regions reads stop = ⊎_elim
    (λ (said : says (block_at 0 b) ≡ true).
    recovery_first homes b a
    (homes_first homes b
    (ap homes_in (flagged_aside (length homes) journal b there (omega (arith, stop.there)) stop.same) ∙ regions)
    (λ some. said)))
    (λ (unsaid : says (block_at 0 b) ≡ false).
    recovered_unsaid a (take (length homes) b)
    (ap says (get_or-take (length homes) b 0 [] reads.0) ∙ unsaid)
    ∙ stop.base_is ∙ sym (cleared_is homes base journal a b few there regions reads.1 stop))
    (cases_Bool (says (block_at 0 b)))

first_left : (clearing : Bool) (homes : List ℕ) (base journal a b : Blocks)
    → length base ≤ no_home → length homes ≤ length journal
    → homes_in (flagged (take (length homes) journal)) ≡ homes → ReadsIn clearing homes base journal
    → StopIn clearing homes base journal a b
    → recovered a (take (length homes) b) ≡ overlaid homes b a
first_left false homes base journal a b few there regions reads stop =
    recovery_first homes b a (kept_homes homes base journal a b regions reads stop)
first_left true homes base journal a b few there regions reads stop =
    first_clearing homes base journal a b few there regions reads stop

pub first_stands : (clearing : Bool) (homes : List ℕ) (base journal a b : Blocks)
    (ml : Blocks → Blocks → Type 0) → length base ≤ 2 ^ 31
    → IsStanding clearing homes base journal ml → ml a b
    → recovered a (take (length homes) b) ≡ overlaid homes b a
first_stands clearing homes base journal a b ml few s left =
    first_left clearing homes base journal a b (omega (arith, few)) (omega (arith, s.there)) s.regions s.reads
    (s.stops a b left)

-- the regions as they are read, where no flag is cleared
pub homes_read : (clearing : Bool) (homes : List ℕ) (base journal : Blocks) (ml : Blocks → Blocks → Type 0)
    → clearing ≡ false → IsStanding clearing homes base journal ml
    → homes_in (take (length homes) journal) ≡ homes
homes_read clearing homes base journal ml settled s =
    homes_first homes journal s.regions (subst (λ (t : Bool). ReadsIn t homes base journal) settled s.reads)
