-- Recovery of what a stop leaves goes through the regions of a log.
use Rattle.std.proofs.Common.{◌≡◌, ◌∙◌, ◌^◌, ◌+◌, ◌<◌, ◌≤◌, ◌++◌, ℕ, List, [], false, length, drop, take, ap, sym}
use Rattle.std.proofs.Common.{arith, ⊎_elim}
use Rattle.std.proofs.lemmas.Bool.{cases_lt}
use Rattle.std.proofs.lemmas.List.{append-nil, drop_all, get_or-drop, get_or-take, length-take-le, take-append-drop}
use Rattle.std.proofs.lemmas.List.{take-take}
use Rattle.block_device.specs.Device.{Blocks, block_at}
use Rattle.committed_log.specs.Committed.{base_of, clearing_of, homes_of, journal_of, pair_of, IsHonest}
use Rattle.committed_log.specs.Committed.{KeepsFirst}
use Rattle.committed_log.specs.Log.{homes_in, overlaid, recovered, says}
use Rattle.committed_log.specs.Opening.{IsMalformed}
use Rattle.committed_log.specs.Regions.{homes_nil, homes_unsaid, homes_whole}
use Rattle.committed_log.specs.declared.log.CommittedLog.{CommittedLog}
use Rattle.committed_log.proofs.Recovering.{first_stands, homes_read, malformed_stands, recovery_stands}
use Rattle.committed_log.proofs.Stood.{kept_stop}

pub recovery_of : {P A : Type 0} {m : _} (c : CommittedLog P A m) (a b : Blocks) → length (base_of c) ≤ 2 ^ 31
    → IsHonest c → m.may_leave (pair_of c) a b
    → recovered a b ≡ recovered (overlaid (homes_of c) b a) (drop (length (homes_of c)) b)
recovery_of {m = m} c a b few h left =
    recovery_stands (clearing_of c) (homes_of c) (base_of c) (journal_of c) a b (m.may_leave (pair_of c)) few
    (c.standing h) left

-- and what opening finds malformed stands behind them
pub malformed_of : {P A : Type 0} {m : _} (c : CommittedLog P A m) (a b : Blocks) → IsHonest c
    → m.may_leave (pair_of c) a b → IsMalformed a b
    → IsMalformed (overlaid (homes_of c) b a) (drop (length (homes_of c)) b)
malformed_of {m = m} c a b h left bad =
    malformed_stands (clearing_of c) (homes_of c) (base_of c) (journal_of c) a b (m.may_leave (pair_of c))
    (c.standing h) left bad

-- recovery of the regions alone, as who has read no further makes it
pub first_of : {P A : Type 0} {m : _} (c : CommittedLog P A m) (a b : Blocks) → length (base_of c) ≤ 2 ^ 31
    → IsHonest c → m.may_leave (pair_of c) a b
    → recovered a (take (length (homes_of c)) b) ≡ overlaid (homes_of c) b a
first_of {m = m} c a b few h left =
    first_stands (clearing_of c) (homes_of c) (base_of c) (journal_of c) a b (m.may_leave (pair_of c)) few
    (c.standing h) left

-- the regions stand in the journal as it is read
pub regions_of : {P A : Type 0} {m : _} (c : CommittedLog P A m) → IsHonest c → clearing_of c ≡ false
    → homes_in (take (length (homes_of c)) (journal_of c)) ≡ homes_of c
regions_of {m = m} c h settled =
    homes_read (clearing_of c) (homes_of c) (base_of c) (journal_of c) (m.may_leave (pair_of c)) settled
    (c.standing h)

-- and in what a stop leaves of it
pub kept_of : {P A : Type 0} {m : _} (c : CommittedLog P A m) (a b : Blocks) → IsHonest c → clearing_of c ≡ false
    → m.may_leave (pair_of c) a b → KeepsFirst (length (homes_of c)) (journal_of c) b
kept_of {m = m} c a b h settled left =
    (kept_stop (clearing_of c) (homes_of c) (base_of c) (journal_of c) (m.may_leave (pair_of c)) settled
    (c.standing h) a b left).regions

-- the index of a journal that begins as this one
pub index_so : (homes : List ℕ) (now journal : Blocks) → homes_in (take (length homes) now) ≡ homes
    → says (block_at 0 (drop (length homes) now)) ≡ false → take (length journal) now ≡ journal
    → length homes ≤ length journal → homes_in journal ≡ homes
index_so homes now journal regions unsaid begins room =
    let s : ℕ = length homes in let n : ℕ = length journal in
    ap homes_in (sym (take-append-drop s journal))
    ∙ homes_whole (take s journal) (drop s journal) homes
    (ap homes_in (ap (take s) (sym begins) ∙ take-take s n now room) ∙ regions)
    (sym (length-take-le s journal room))
    ∙ ap (λ (l : List ℕ). homes ++ l) (⊎_elim
    (λ (more : s < n). homes_unsaid (drop s journal)
    (ap says (get_or-drop s journal 0 [] ∙ ap (block_at (s + 0)) (sym begins)
    ∙ get_or-take n now (s + 0) [] (omega (arith, more)) ∙ sym (get_or-drop s now 0 []))
    ∙ unsaid))
    (λ (all : n ≤ s). ap homes_in (drop_all s journal all) ∙ homes_nil)
    (cases_lt s n))
    ∙ append-nil homes
