-- What a stop of a logged pair leaves, once it is recovered.
use Rattle.std.proofs.Common.{◌≡◌, ◌∙◌, ◌^◌, ◌≤◌, false, length, drop, refl, sym, subst, arith}
use Rattle.block_device.specs.Device.{BeginsOne, Blocks, block_at}
use Rattle.committed_log.specs.Committed as regions
use Rattle.committed_log.specs.Log.{overlaid, recovered, says}
use Rattle.committed_log.specs.Opening.{IsMalformed}
use Rattle.committed_log.specs.Regions.{recovered_unsaid}
use Rattle.committed_log.specs.Replay.{length-overlaid}
use Rattle.committed_log.specs.declared.log.CommittedLog.{CommittedLog}
use Rattle.committed_log.proofs.Through.{malformed_of, recovery_of}
use Rattle.logged_pair.specs.Law.{recovery, stop_well}
use Rattle.logged_pair.specs.Standing.{base_of, commits_of, deciding_of, homes_of, journal_of, kept_of, log_of}
use Rattle.logged_pair.specs.Standing.{pair_of, IsHonest}
use Rattle.logged_pair.specs.declared.pair.LoggedPair.{LoggedPair}

-- the base as it is read has no more blocks than the base
pub few_seen : {P A : Type 0} {m : _} (c : CommittedLog P A m) → length (regions.base_of c) ≤ 2 ^ 31
    → length (regions.seen_of c) ≤ 2 ^ 31
few_seen c few =
    omega (arith, few, length-overlaid (regions.homes_of c) (regions.journal_of c) (regions.base_of c))

-- what a stop leaves, recovered, begins with a commit
pub begins : {P A : Type 0} {m : _} (d : LoggedPair P A m) (a b : Blocks)
    → length (regions.base_of (log_of d)) ≤ 2 ^ 31 → IsHonest d → m.may_leave (pair_of d) a b
    → BeginsOne (commits_of d) (recovered a b)
begins d a b few h left =
    let s = d.standing h in
    let v : Blocks = overlaid (regions.homes_of (log_of d)) b a in
    let j : Blocks = drop (length (regions.homes_of (log_of d))) b in
    subst (BeginsOne (commits_of d)) (sym (recovery_of (log_of d) a b few h left))
    (recovery (deciding_of d) (kept_of d) (homes_of d) (base_of d) (journal_of d) v j
    (omega (arith, few_seen (log_of d) few)) s.kept_there s.reads (s.stops v j (a, b, left, refl, refl)))

-- and opening finds no region of it malformed
pub left_well : {P A : Type 0} {m : _} (d : LoggedPair P A m) (a b : Blocks) → IsHonest d
    → m.may_leave (pair_of d) a b → ¬ IsMalformed a b
left_well d a b h left bad =
    let s = d.standing h in
    let v : Blocks = overlaid (regions.homes_of (log_of d)) b a in
    let j : Blocks = drop (length (regions.homes_of (log_of d))) b in
    stop_well (deciding_of d) (kept_of d) (homes_of d) (base_of d) (journal_of d) v j s.kept_there s.homes_below
    s.reads (s.stops v j (a, b, left, refl, refl)) (malformed_of (log_of d) a b h left bad)

-- and is what is read, where a stop leaves nothing else and no region is committed behind the others
pub settled_of : {P A : Type 0} {m : _} (c : CommittedLog P A m) (s : Blocks)
    → length (regions.base_of c) ≤ 2 ^ 31 → regions.IsHonest c
    → ((v j : Blocks) → regions.leaves_of c v j → v ≡ s)
    → ((v j : Blocks) → regions.leaves_of c v j → says (block_at 0 j) ≡ false)
    → (a b : Blocks) → m.may_leave (regions.pair_of c) a b → recovered a b ≡ s
settled_of c s few h is unsaid a b left =
    let v : Blocks = overlaid (regions.homes_of c) b a in
    let j : Blocks = drop (length (regions.homes_of c)) b in
    recovery_of c a b few h left ∙ recovered_unsaid v j (unsaid v j (a, b, left, refl, refl))
    ∙ is v j (a, b, left, refl, refl)
