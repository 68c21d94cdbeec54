-- What a call that writes nothing leaves.
use Rattle.std.proofs.Common.{◌≡◌, ◌∙◌, ◌^◌, ◌≤◌, ℕ, Bool, List, length, drop, ap, subst}
use Rattle.block_device.specs.Device.{Blocks}
use Rattle.device_pair.specs.Runs.{pair_call}
use Rattle.committed_log.specs.Committed as regions
use Rattle.committed_log.specs.Log.{overlaid}
use Rattle.committed_log.specs.declared.log.CommittedLog.{CommittedLog}
use Rattle.logged_pair.specs.CommitLaws.{begins}
use Rattle.logged_pair.specs.Commits.{CommitsNoMore}
use Rattle.logged_pair.specs.Stages.{CommitsIn, shown_through}
use Rattle.logged_pair.specs.Standing.{KeepsTo, IsHonest, IsStill, LogStays, base_of, commits_of, deciding_of}
use Rattle.logged_pair.specs.Standing.{homes_of, journal_of, kept_of, log_of, pair_of, shown_of}
use Rattle.logged_pair.specs.declared.pair.LoggedPair.{LoggedPair}

seen_still : {P A : Type 0} {m : _} (old new : CommittedLog P A m) → LogStays old new
    → regions.seen_of new ≡ regions.seen_of old
seen_still old new s =
    ap (λ (hs : List ℕ). overlaid hs (regions.journal_of new) (regions.base_of new)) s.homes
    ∙ ap (λ (j : Blocks). overlaid (regions.homes_of old) j (regions.base_of new)) s.journal
    ∙ ap (overlaid (regions.homes_of old) (regions.journal_of old)) s.base

behind_still : {P A : Type 0} {m : _} (old new : CommittedLog P A m) → LogStays old new
    → regions.behind_of new ≡ regions.behind_of old
behind_still old new s =
    ap (λ (hs : List ℕ). drop (length hs) (regions.journal_of new)) s.homes
    ∙ ap (drop (length (regions.homes_of old))) s.journal

module _ {P A : Type 0} {m : _} (old new : LoggedPair P A m) (s : IsStill old new) where
  base_still : base_of new ≡ base_of old
  base_still = seen_still (log_of old) (log_of new) s.log

  journal_still : journal_of new ≡ journal_of old
  journal_still = behind_still (log_of old) (log_of new) s.log

  pub shown_still : shown_of new ≡ shown_of old
  shown_still = ap (λ (hs : List ℕ). shown_through hs (journal_of new) (base_of new)) s.slots.homes
      ∙ ap (λ (j : Blocks). shown_through (homes_of old) j (base_of new)) journal_still
      ∙ ap (shown_through (homes_of old) (journal_of old)) base_still

  pub commits_still : CommitsNoMore (commits_of old) (commits_of new)
  commits_still c is =
      subst (λ (x : Bool). CommitsIn x (kept_of old) (homes_of old) (base_of old) (journal_of old) c)
      s.slots.deciding
      (subst (λ (x : ℕ). CommitsIn (deciding_of new) x (homes_of old) (base_of old) (journal_of old) c)
      s.slots.kept
      (subst (λ (x : List ℕ). CommitsIn (deciding_of new) (kept_of new) x (base_of old) (journal_of old) c)
      s.slots.homes
      (subst (λ (x : Blocks). CommitsIn (deciding_of new) (kept_of new) (homes_of new) x (journal_of old) c)
      base_still
      (subst (λ (x : Blocks). CommitsIn (deciding_of new) (kept_of new) (homes_of new) (base_of new) x c)
      journal_still is))))

  pub keeps_still : length (regions.base_of (log_of new)) ≤ 2 ^ 31 → IsHonest new
      → KeepsTo (commits_of old) old new
  keeps_still few h = record {
    now = commits_still;
    stops = pair_call m.moment m.left_since (pair_of old) (pair_of new) _ (m.may_leave (pair_of new))
        s.log.time (λ a b left. let r = begins new a b few h left in (r.0, commits_still r.0 r.1, r.2));
  }
