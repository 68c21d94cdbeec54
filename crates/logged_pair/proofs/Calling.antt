-- What a sync keeps to, whether opening takes what is read or not.
use Rattle.std.proofs.Common.{◌≡◌, ◌∙◌, ◌^◌, ◌≤◌, ◌<◌, ℕ, Bool, true, false, if◌then◌else◌, ◌++◌, Option}
use Rattle.std.proofs.Common.{Some, None, length, refl, sym, ap, inl, inr, ⊎_elim}
use Rattle.std.specs.Prelude.{is_none}
use Rattle.std.proofs.lemmas.Bool.{lt-ltb}
use Rattle.block_device.specs.Device.{Blocks, block_at}
use Rattle.page_file.specs.Opening.{failed_check, first_fault, gate_checks, header_checks}
use Rattle.page_file.specs.declared.fault.Fault.{Fault}
use Rattle.page_file.specs.declared.fault.Fault.TheVariants.{NotAStore}
use Rattle.committed_log.specs.Committed as regions
use Rattle.logged_pair.specs.Commits.{CommitsNoMore, Either, OrNew, OrOpened}
use Rattle.logged_pair.specs.Standing.{KeepsTo, IsHonest, IsStill, commits_of, log_of, pair_of, shown_of}
use Rattle.logged_pair.specs.declared.pair.LoggedPair.{LoggedPair}
use Rattle.logged_pair.proofs.Keeping.{commits_still, keeps_still, keeps_then, keeps_weaker, shown_still}
use Rattle.logged_pair.proofs.Stills.{log_then}

-- two calls that write nothing: what a stop between them left, one before them might have left
pub still_then : {P A : Type 0} {m : _} (old mid new : LoggedPair P A m)
    → ((t : ℕ) (a b : Blocks) → t ≤ m.moment (pair_of old) → m.may_leave (pair_of old) a b
    → m.left_since (pair_of old) t a b) → IsStill old mid → IsStill mid new → IsStill old new
still_then old mid new counts x y = record {
  slots = record {
    deciding = y.slots.deciding ∙ x.slots.deciding;
    clearing = y.slots.clearing ∙ x.slots.clearing;
    kept = y.slots.kept ∙ x.slots.kept;
    homes = y.slots.homes ∙ x.slots.homes;
  };
  log = log_then (log_of old) (log_of mid) (log_of new) counts x.log y.log;
}

-- opening takes these blocks, or not
pub none_from : (f : Option Fault) → is_none f ≡ true → f ≡ None
none_from None e = refl
none_from (Some f) e = absurd (cc)

pub not_none : (f : Option Fault) → is_none f ≡ false → f ≡ None → ⊥
not_none f e is = let t : is_none f ≡ true = ap is_none is in let no : true ≡ false = sym t ∙ e in cc

-- fewer than three blocks
pub few_refused : (blocks : Blocks) → length blocks < 3 → is_none (failed_check blocks) ≡ false
unfolding failed_check
few_refused blocks lt =
    ap (λ (t : Bool). is_none
    (if t then Some NotAStore else first_fault
    (gate_checks (block_at 0 blocks) ++ header_checks (length blocks) (block_at 1 blocks))))
    (lt-ltb (length blocks) 3 lt)

-- a sync that makes no commit
pub keeps_opened : {P A : Type 0} {m : _} (old new : LoggedPair P A m)
    → length (regions.base_of (log_of new)) ≤ 2 ^ 31 → IsHonest new → IsStill old new
    → KeepsTo (OrOpened (commits_of old) (shown_of old)) old new
keeps_opened old new few h s =
    keeps_weaker (commits_of old) (OrOpened (commits_of old) (shown_of old)) old new (λ kept c. inl c)
    (keeps_still old new few h s)

-- and one that makes it
pub keeps_committed : {P A : Type 0} {m : _} (old mid new : LoggedPair P A m)
    → length (regions.base_of (log_of mid)) ≤ 2 ^ 31 → IsHonest mid → IsStill old mid → failed_check (shown_of old) ≡ None
    → CommitsNoMore (OrNew (commits_of mid) (shown_of mid)) (commits_of new)
    → KeepsTo (Either (commits_of mid) (commits_of new)) mid new
    → KeepsTo (OrOpened (commits_of old) (shown_of old)) old new
keeps_committed old mid new few h s taken more k =
    let all = OrOpened (commits_of old) (shown_of old) in
    let was : CommitsNoMore all (commits_of mid) = λ kept c. inl (commits_still old mid s kept c) in
    let is : CommitsNoMore all (commits_of new) =
    λ kept c. ⊎_elim (was kept) (λ e. inr (taken, e ∙ shown_still old mid s)) (more kept c) in
    keeps_then all all old mid new (λ kept c. c) (keeps_opened old mid few h s)
    (keeps_weaker (Either (commits_of mid) (commits_of new)) all mid new
    (λ kept c. ⊎_elim (was kept) (is kept) c) k)
