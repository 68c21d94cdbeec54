-- What was written since the last commit is given up.
use Rattle.std.proofs.Common.{◌≡◌, ◌∙◌, ◌^◌, ◌≤◌, ℕ, Bool, false, List, [], length, refl, sym, ap}
use Rattle.std.proofs.Common.{arith}
use Rattle.block_device.specs.Device.{Begins, BeginsOne, Blocks}
use Rattle.logged_pair.specs.Commits.{CommitsNoMore}
use Rattle.logged_pair.specs.Shown.{shown_bare}
use Rattle.logged_pair.specs.Stages.{CommitsIn, shown_through}
use Rattle.logged_pair.specs.Standing.{KeepsTo, commits_of}
use Rattle.logged_pair.specs.declared.pair.LoggedPair.{LoggedPair}
use Rattle.logged_pair.proofs.Keeping.{keeps_then, keeps_weaker, seen_begins}
use Rattle.logged_pair.proofs.Stood.{commits_filling, filling_all}

-- ---- beginnings

pub begins_self : (a : Blocks) → Begins a a
begins_self a = record { no_shorter = omega arith; same = λ k lt. refl }

pub begins_then : (a b c : Blocks) → Begins a b → Begins b c → Begins a c
begins_then a b c x y = record {
  no_shorter = omega (arith, x.no_shorter, y.no_shorter);
  same = λ k lt. y.same k (omega (arith, lt, x.no_shorter)) ∙ x.same k lt;
}

pub commit_begins : (commits : Blocks → Type 0) → CommitsNoMore (BeginsOne commits) commits
commit_begins commits k is = (k, is, begins_self k)

-- what begins with blocks that begin with a commit
pub one_then : (commits : Blocks → Type 0) (c : Blocks) → BeginsOne (BeginsOne commits) c
    → BeginsOne commits c
one_then commits c one = (one.1.0, one.1.1, begins_then one.1.0 one.0 c one.1.2 one.2)

pub more_begin : (commits commits' : Blocks → Type 0) → CommitsNoMore (BeginsOne commits) commits'
    → CommitsNoMore (BeginsOne commits) (BeginsOne commits')
more_begin commits commits' more k one = one_then commits k (one.0, more one.0 one.1, one.2)

-- ---- while the region is filled

-- appended blocks are a part of the commit once they were synced
pub appended_begins : (deciding : Bool) (kept n : ℕ) (slots : List ℕ) (base base' journal journal' : Blocks)
    → deciding ≡ false → n ≡ length base' → base' ≡ base → kept ≤ length base
    → CommitsNoMore (BeginsOne (CommitsIn deciding kept slots base journal))
    (CommitsIn deciding n slots base' journal')
appended_begins deciding kept n slots base base' journal journal' e n_is base_is le c is =
    seen_begins deciding kept slots base journal c e le
    (filling_all deciding n slots base' journal' c e n_is is ∙ base_is)

-- without slots what is read is the base
pub bare_shown : (hs : List ℕ) (base journal : Blocks) → length base ≤ 2 ^ 31 → hs ≡ []
    → shown_through hs journal base ≡ base
bare_shown hs base journal few none =
    ap (λ (l : List ℕ). shown_through l journal base) none ∙ shown_bare journal base (omega (arith, few))

pub bare_begins : (deciding : Bool) (kept : ℕ) (slots hs : List ℕ) (base journal : Blocks)
    → length base ≤ 2 ^ 31 → deciding ≡ false → hs ≡ [] → kept ≤ length base
    → BeginsOne (CommitsIn deciding kept slots base journal) (shown_through hs journal base)
bare_begins deciding kept slots hs base journal few e none le =
    seen_begins deciding kept slots base journal (shown_through hs journal base) e le
    (bare_shown hs base journal few none)

pub bare_one : (deciding : Bool) (kept : ℕ) (hs : List ℕ) (base journal c : Blocks) → length base ≤ 2 ^ 31
    → deciding ≡ false → hs ≡ [] → kept ≡ length base → CommitsIn deciding kept hs base journal c
    → c ≡ shown_through hs journal base
bare_one deciding kept hs base journal c few e none all is =
    filling_all deciding kept hs base journal c e all is ∙ sym (bare_shown hs base journal few none)

-- the commits stay
pub bare_commits : (deciding : Bool) (kept : ℕ) (slots hs : List ℕ) (base journal : Blocks) → deciding ≡ false
    → CommitsNoMore (CommitsIn deciding kept slots base journal) (CommitsIn deciding kept hs base journal)
bare_commits deciding kept slots hs base journal e =
    commits_filling deciding deciding kept slots hs base base journal journal e e refl

-- ---- the steps in turn

-- a commit that was in progress is finished, and appended blocks are synced
pub keeps_appended : {P A : Type 0} {m : _} (old mid new : LoggedPair P A m)
    → KeepsTo (commits_of old) old mid → KeepsTo (BeginsOne (commits_of mid)) mid new
    → KeepsTo (BeginsOne (commits_of old)) old new
keeps_appended old mid new x y =
    keeps_then (BeginsOne (commits_of old)) (BeginsOne (commits_of mid)) old mid new
    (more_begin (commits_of old) (commits_of mid) (λ k is. commit_begins (commits_of old) k (x.now k is)))
    (keeps_weaker (commits_of old) (BeginsOne (commits_of old)) old mid (commit_begins (commits_of old)) x) y

-- and the slots are forgotten
pub keeps_given_up : {P A : Type 0} {m : _} (commits : Blocks → Type 0) (old mid new : LoggedPair P A m)
    → KeepsTo (BeginsOne commits) old mid → KeepsTo (commits_of mid) mid new
    → KeepsTo (BeginsOne commits) old new
keeps_given_up commits old mid new x y =
    keeps_then (BeginsOne commits) (commits_of mid) old mid new x.now x y

pub begins_given_up : (commits commits' : Blocks → Type 0) (c : Blocks)
    → CommitsNoMore (BeginsOne commits) commits' → BeginsOne commits' c → BeginsOne commits c
begins_given_up commits commits' c more one = one_then commits c (one.0, more one.0 one.1, one.2)
