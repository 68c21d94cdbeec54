-- What stays where a call of the log writes nothing.
use Rattle.std.proofs.Common.{◌≡◌, ◌∙◌, ◌≤◌, ℕ, Bool, List, length, take, drop, sym, ap, subst, arith, inl, inr}
use Rattle.std.proofs.Common.{⊎_elim}
use Rattle.block_device.specs.Device.{Blocks}
use Rattle.device_pair.specs.Pairs.{PairElapses, PairsNoMore}
use Rattle.committed_log.specs.Committed as regions
use Rattle.committed_log.specs.Log.{overlaid}
use Rattle.committed_log.specs.declared.log.CommittedLog.{CommittedLog}
use Rattle.logged_pair.specs.Commits.{CommitsNoMore}
use Rattle.logged_pair.specs.Stages.{CommitsIn, IsStanding, shown_through}
use Rattle.logged_pair.specs.Standing.{LogStays}
use Rattle.logged_pair.proofs.Stood.{commits_same}

pub stays_of : {P A : Type 0} {m : _} {old new : CommittedLog P A m} → regions.IsStill old new
    → LogStays old new
stays_of s = record {
  homes = s.log.homes;
  clearing = s.log.clearing;
  base = s.base;
  journal = s.journal;
  now = s.now;
  time = s.time;
}

pub log_seen : {P A : Type 0} {m : _} (old new : CommittedLog P A m) → LogStays old new
    → regions.seen_of new ≡ regions.seen_of old
log_seen old new s =
    ap (λ (hs : List ℕ). overlaid hs (regions.journal_of new) (regions.base_of new)) s.homes
    ∙ ap (λ (j : Blocks). overlaid (regions.homes_of old) j (regions.base_of new)) s.journal
    ∙ ap (overlaid (regions.homes_of old) (regions.journal_of old)) s.base

pub log_behind : {P A : Type 0} {m : _} (old new : CommittedLog P A m) → LogStays old new
    → regions.behind_of new ≡ regions.behind_of old
log_behind old new s =
    ap (λ (hs : List ℕ). drop (length hs) (regions.journal_of new)) s.homes
    ∙ ap (drop (length (regions.homes_of old))) s.journal

pub log_leaves : {P A : Type 0} {m : _} (old new : CommittedLog P A m) → LogStays old new
    → (v j : Blocks) → regions.leaves_of new v j → regions.leaves_of old v j
log_leaves old new s v j l = (
  l.0,
  l.1,
  s.now l.0 l.1 l.2,
  l.3 ∙ ap (λ (hs : List ℕ). overlaid hs l.1 l.0) s.homes,
  l.4 ∙ ap (λ (hs : List ℕ). drop (length hs) l.1) s.homes,
)

pub log_stands : {P A : Type 0} {m : _} (deciding : Bool) (kept : ℕ) (slots : List ℕ)
    (old new : CommittedLog P A m) → LogStays old new
    → IsStanding deciding (regions.clearing_of old) kept slots (regions.seen_of old) (regions.behind_of old)
    (regions.leaves_of old)
    → IsStanding deciding (regions.clearing_of new) kept slots (regions.seen_of new) (regions.behind_of new)
    (regions.leaves_of new)
log_stands deciding kept slots old new still s =
    subst (λ (t : Bool). IsStanding deciding t kept slots (regions.seen_of new) (regions.behind_of new)
    (regions.leaves_of new)) (sym still.clearing)
    (subst (λ (x : Blocks). IsStanding deciding (regions.clearing_of old) kept slots x (regions.behind_of new)
    (regions.leaves_of new)) (sym (log_seen old new still))
    (subst (λ (x : Blocks). IsStanding deciding (regions.clearing_of old) kept slots (regions.seen_of old) x
    (regions.leaves_of new)) (sym (log_behind old new still)) (record {
      kept_there = s.kept_there;
      homes_below = s.homes_below;
      room = s.room;
      reads = s.reads;
      stops = λ a b left. s.stops a b (log_leaves old new still a b left);
      clear = s.clear;
    })))

-- two such calls: what a stop between them left, one before them might have left
pub log_then : {P A : Type 0} {m : _} (old mid new : CommittedLog P A m)
    → ((t : ℕ) (a b : Blocks) → t ≤ m.moment (regions.pair_of old) → m.may_leave (regions.pair_of old) a b
    → m.left_since (regions.pair_of old) t a b)
    → LogStays old mid → LogStays mid new → LogStays old new
log_then old mid new counts x y = record {
  homes = y.homes ∙ x.homes;
  clearing = y.clearing ∙ x.clearing;
  base = y.base ∙ x.base;
  journal = y.journal ∙ x.journal;
  now = λ a b left. x.now a b (y.now a b left);
  time = record {
    later = omega (arith, x.time.later, y.time.later);
    nothing_else = λ t a b le left. ⊎_elim
        (λ past. ⊎_elim (λ was. inl was) (λ here. inl (counts t a b le (x.now a b here)))
        (x.time.nothing_else t a b le past))
        (λ here. inr here)
        (y.time.nothing_else t a b (omega (arith, le, x.time.later)) left);
    keeps = λ t a b le left. y.time.keeps t a b (omega (arith, le, x.time.later))
        (x.time.keeps t a b le left);
  };
}

-- memory was taken, or nothing was done
pub log_same : {P A : Type 0} {m : _} (old new : CommittedLog P A m)
    → regions.pair_of new ≡ regions.pair_of old → regions.homes_of new ≡ regions.homes_of old
    → regions.clearing_of new ≡ regions.clearing_of old → LogStays old new
log_same {m = m} old new pair homes clearing = record {
  homes = homes;
  clearing = clearing;
  base = ap (λ (p : _). m.base p) pair;
  journal = ap (λ (p : _). m.journal p) pair;
  now = subst (λ (p : _). PairsNoMore (m.may_leave (regions.pair_of old)) (m.may_leave p)) (sym pair)
      (λ a b left. left);
  time =
      subst (λ (p : _). PairElapses (m.moment (regions.pair_of old)) (m.moment p)
      (m.left_since (regions.pair_of old)) (m.left_since p) (m.may_leave p)) (sym pair)
      (record {
        later = omega arith;
        nothing_else = λ t a b le left. inl left;
        keeps = λ t a b le left. left;
      });
}

-- what is read through the slots, and the commits
pub log_shown : {P A : Type 0} {m : _} (slots : List ℕ) (old new : CommittedLog P A m)
    → LogStays old new
    → shown_through slots (regions.behind_of new) (regions.seen_of new)
    ≡ shown_through slots (regions.behind_of old) (regions.seen_of old)
log_shown slots old new s =
    ap (λ (j : Blocks). shown_through slots j (regions.seen_of new)) (log_behind old new s)
    ∙ ap (shown_through slots (regions.behind_of old)) (log_seen old new s)

pub log_commits : {P A : Type 0} {m : _} (deciding : Bool) (kept : ℕ) (slots : List ℕ)
    (old new : CommittedLog P A m) → LogStays old new
    → CommitsNoMore (CommitsIn deciding kept slots (regions.seen_of old) (regions.behind_of old))
    (CommitsIn deciding kept slots (regions.seen_of new) (regions.behind_of new))
log_commits deciding kept slots old new s =
    commits_same deciding kept slots (regions.seen_of old) (regions.seen_of new) (regions.behind_of old)
    (regions.behind_of new) (ap (take kept) (log_seen old new s)) (log_shown slots old new s)
