-- What one call, and runs in turn, keep to.
use Rattle.std.proofs.Common.{◌≡◌, ◌∙◌, ◌^◌, ◌≤◌, ℕ, Bool, false, List, length, take, refl, sym, ap, subst}
use Rattle.std.proofs.Common.{inl, inr, ⊎_elim}
use Rattle.block_device.specs.Device.{BeginsOne, Blocks}
use Rattle.device_pair.specs.Pairs.{PairElapses, PairLeaves}
use Rattle.device_pair.specs.Runs.{pair_started, pair_call, pair_then, pair_weaker}
use Rattle.committed_log.specs.Committed as regions
use Rattle.committed_log.specs.Log.{recovered}
use Rattle.logged_pair.specs.CommitLaws.{begins}
use Rattle.logged_pair.specs.Commits.{CommitsNoMore, Either, OrNew}
use Rattle.logged_pair.specs.Law.{begins_as, begins_take}
use Rattle.logged_pair.specs.Stages.{CommitsIn, IsRecorded, shown_through}
use Rattle.logged_pair.specs.Standing.{KeepsTo, IsHonest, IsStill, base_of, commits_of, deciding_of, homes_of}
use Rattle.logged_pair.specs.Standing.{journal_of, kept_of, log_of, pair_of, shown_of}
use Rattle.logged_pair.specs.declared.pair.LoggedPair.{LoggedPair}
use Rattle.logged_pair.proofs.Stills.{log_behind, log_same, log_seen}

-- one call, after which a stop leaves one of these commits
pub keeps_call : {P A : Type 0} {m : _} (commits : Blocks → Type 0) (old new : LoggedPair P A m)
    → length (regions.base_of (log_of new)) ≤ 2 ^ 31 → IsHonest new
    → PairElapses (m.moment (pair_of old)) (m.moment (pair_of new)) (m.left_since (pair_of old))
    (m.left_since (pair_of new)) (m.may_leave (pair_of new))
    → CommitsNoMore commits (commits_of new) → KeepsTo commits old new
keeps_call {m = m} commits old new few h time more = record {
  now = more;
  stops = pair_call m.moment m.left_since (pair_of old) (pair_of new) _ (m.may_leave (pair_of new)) time
      (λ a b left. let r = begins new a b few h left in (r.0, more r.0 r.1, r.2));
}

-- one call, after which a stop leaves what it now may
pub keeps_now : {P A : Type 0} {m : _} (old new : LoggedPair P A m)
    → length (regions.base_of (log_of new)) ≤ 2 ^ 31 → IsHonest new
    → PairElapses (m.moment (pair_of old)) (m.moment (pair_of new)) (m.left_since (pair_of old))
    (m.left_since (pair_of new)) (m.may_leave (pair_of new))
    → KeepsTo (Either (commits_of old) (commits_of new)) old new
keeps_now old new few h time =
    keeps_call (Either (commits_of old) (commits_of new)) old new few h time (λ kept is. inr is)

begins_more : (commits commits' : Blocks → Type 0) → CommitsNoMore commits' commits → (c : Blocks)
    → BeginsOne commits c → BeginsOne commits' c
begins_more commits commits' more c one = (one.0, more one.0 one.1, one.2)

pub keeps_weaker : {P A : Type 0} {m : _} (commits commits' : Blocks → Type 0)
    (old new : LoggedPair P A m) → CommitsNoMore commits' commits → KeepsTo commits old new
    → KeepsTo commits' old new
keeps_weaker {m = m} commits commits' old new more k = record {
  now = λ kept c. more kept (k.now kept c);
  stops = pair_weaker m.moment m.left_since (pair_of old) (pair_of new) _ _
      (λ a b. begins_more commits commits' more (recovered a b)) k.stops;
}

-- one run after the other
pub keeps_then : {P A : Type 0} {m : _} (commits commits' : Blocks → Type 0)
    (old mid new : LoggedPair P A m) → CommitsNoMore commits commits' → KeepsTo commits old mid
    → KeepsTo commits' mid new → KeepsTo commits old new
keeps_then {m = m} commits commits' old mid new more x y =
    let z = keeps_weaker commits' commits mid new more y in
    record {
      now = z.now;
      stops = pair_then m.moment m.left_since (pair_of old) (pair_of mid) (pair_of new) _ x.stops z.stops;
    }

-- a run that begins with what the first one left
pub keeps_on : {P A : Type 0} {m : _} (commits : Blocks → Type 0) (old mid new : LoggedPair P A m)
    → KeepsTo commits old mid → KeepsTo (commits_of mid) mid new → KeepsTo commits old new
keeps_on commits old mid new x y = keeps_then commits (commits_of mid) old mid new x.now x y

-- no call
pub keeps_none : {P A : Type 0} {m : _} (d : LoggedPair P A m) → KeepsTo (commits_of d) d d
keeps_none {m = m} d = record { now = λ kept c. c; stops = pair_started m.moment m.left_since (pair_of d) _ }

pub keeps_bare : {P A : Type 0} {m : _} (old new : LoggedPair P A m) → pair_of new ≡ pair_of old
    → CommitsNoMore (commits_of old) (commits_of new) → KeepsTo (commits_of old) old new
keeps_bare {m = m} old new same more = record {
  now = more;
  stops =
      subst (λ (p : _). PairLeaves m.moment m.left_since (pair_of old) p
      (λ a b. BeginsOne (commits_of old) (recovered a b))) (sym same)
      (pair_started m.moment m.left_since (pair_of old) _);
}

-- a commit is one of those or a new one
pub or_more : (commits : Blocks → Type 0) (blocks : Blocks) → CommitsNoMore (OrNew commits blocks) commits
or_more commits blocks kept c = inl c

pub or_both : (commits commits' : Blocks → Type 0) (blocks blocks' : Blocks) → CommitsNoMore commits commits'
    → blocks' ≡ blocks → CommitsNoMore (OrNew commits blocks) (OrNew commits' blocks')
or_both commits commits' blocks blocks' more e kept c =
    ⊎_elim (λ was. inl (more kept was)) (λ new. inr (new ∙ e)) c

-- a run that leaves commits of before, or of now
pub keeps_old : {P A : Type 0} {m : _} (old new : LoggedPair P A m) → KeepsTo (commits_of old) old new
    → KeepsTo (Either (commits_of old) (commits_of new)) old new
keeps_old old new k =
    keeps_weaker (commits_of old) (Either (commits_of old) (commits_of new)) old new (λ kept c. inl c) k

pub keeps_new : {P A : Type 0} {m : _} (blocks : Blocks) (old new : LoggedPair P A m)
    → commits_of new blocks → KeepsTo (OrNew (commits_of old) blocks) old new
    → KeepsTo (Either (commits_of old) (commits_of new)) old new
keeps_new blocks old new one k =
    keeps_weaker (OrNew (commits_of old) blocks) (Either (commits_of old) (commits_of new)) old new
    (λ kept c. ⊎_elim (λ was. inl was) (λ is. inr (subst (commits_of new) (sym is) one)) c) k

-- a commit that was finished, and one more
pub keeps_either : {P A : Type 0} {m : _} (old mid new : LoggedPair P A m) → KeepsTo (commits_of old) old mid
    → KeepsTo (Either (commits_of mid) (commits_of new)) mid new
    → KeepsTo (Either (commits_of old) (commits_of new)) old new
keeps_either old mid new x y =
    keeps_then (Either (commits_of old) (commits_of new)) (Either (commits_of mid) (commits_of new)) old mid new
    (λ kept c. ⊎_elim (λ was. inl (x.now kept was)) (λ is. inr is) c)
    (keeps_weaker (commits_of old) (Either (commits_of old) (commits_of new)) old mid (λ kept c. inl c) x) y

-- ---- where nothing moved

pub still_none : {P A : Type 0} {m : _} (d : LoggedPair P A m) → IsStill d d
still_none d = record {
  slots = record { deciding = refl; clearing = refl; kept = refl; homes = refl };
  log = log_same (log_of d) (log_of d) refl refl refl;
}

pub recorded_still : {P A : Type 0} {m : _} (old new : LoggedPair P A m) → IsStill old new
    → IsRecorded (homes_of old) (journal_of old) → IsRecorded (homes_of new) (journal_of new)
recorded_still old new s r =
    subst (λ (hs : List ℕ). IsRecorded hs (journal_of new)) (sym s.slots.homes)
    (subst (IsRecorded (homes_of old)) (sym (log_behind (log_of old) (log_of new) s.log)) r)

pub shown_still : {P A : Type 0} {m : _} (old new : LoggedPair P A m) → IsStill old new
    → shown_of new ≡ shown_of old
shown_still old new s = ap (λ (hs : List ℕ). shown_through hs (journal_of new) (base_of new)) s.slots.homes
    ∙ ap (λ (j : Blocks). shown_through (homes_of old) j (base_of new)) (log_behind (log_of old) (log_of new) s.log)
    ∙ ap (shown_through (homes_of old) (journal_of old)) (log_seen (log_of old) (log_of new) s.log)

commits_equal : (deciding deciding' : Bool) (kept kept' : ℕ) (slots slots' : List ℕ)
    (base base' journal journal' c : Blocks) → deciding' ≡ deciding → kept' ≡ kept → slots' ≡ slots
    → base' ≡ base → journal' ≡ journal
    → CommitsIn deciding' kept' slots' base' journal' c → CommitsIn deciding kept slots base journal c
commits_equal deciding deciding' kept kept' slots slots' base base' journal journal' c es ek eh eb ej is =
    subst (λ (x : Bool). CommitsIn x kept slots base journal c) es
    (subst (λ (x : ℕ). CommitsIn deciding' x slots base journal c) ek
    (subst (λ (x : List ℕ). CommitsIn deciding' kept' x base journal c) eh
    (subst (λ (x : Blocks). CommitsIn deciding' kept' slots' x journal c) eb
    (subst (λ (x : Blocks). CommitsIn deciding' kept' slots' base' x c) ej is))))

pub commits_still : {P A : Type 0} {m : _} (old new : LoggedPair P A m) → IsStill old new
    → CommitsNoMore (commits_of old) (commits_of new)
commits_still old new s kept is =
    commits_equal (deciding_of old) (deciding_of new) (kept_of old) (kept_of new) (homes_of old) (homes_of new)
    (base_of old) (base_of new) (journal_of old) (journal_of new) kept s.slots.deciding s.slots.kept
    s.slots.homes (log_seen (log_of old) (log_of new) s.log) (log_behind (log_of old) (log_of new) s.log) is

pub keeps_still : {P A : Type 0} {m : _} (old new : LoggedPair P A m)
    → length (regions.base_of (log_of new)) ≤ 2 ^ 31 → IsHonest new → IsStill old new
    → KeepsTo (commits_of old) old new
keeps_still old new few h s = keeps_call (commits_of old) old new few h s.log.time (commits_still old new s)

-- ---- a log that is copied home, or begun anew: a stop leaves what recovers to the base as it is read

pub seen_begins : (deciding : Bool) (kept : ℕ) (slots : List ℕ) (base journal c : Blocks) → deciding ≡ false
    → kept ≤ length base → c ≡ base → BeginsOne (CommitsIn deciding kept slots base journal) c
seen_begins deciding kept slots base journal c e le is = (
  take kept base,
  subst (λ (t : Bool). CommitsIn t kept slots base journal (take kept base)) (sym e) refl,
  begins_as (take kept base) base c is (begins_take kept base le),
)

pub keeps_seen : {P A : Type 0} {m : _} (old new : LoggedPair P A m) → deciding_of old ≡ false
    → kept_of old ≤ length (base_of old) → CommitsNoMore (commits_of old) (commits_of new)
    → PairLeaves m.moment m.left_since (pair_of old) (pair_of new) (λ a b. recovered a b ≡ base_of old)
    → KeepsTo (commits_of old) old new
keeps_seen {m = m} old new e le more stops = record {
  now = more;
  stops = pair_weaker m.moment m.left_since (pair_of old) (pair_of new) _ _
      (λ a b is. seen_begins (deciding_of old) (kept_of old) (homes_of old) (base_of old) (journal_of old)
      (recovered a b) e le is) stops;
}
