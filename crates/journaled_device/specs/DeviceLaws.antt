-- The laws of a journaled device: a plain disk after its writes and syncs, and what a stop really brings
-- back.
use Rattle.std.proofs.Common.{◌≡◌, ◌∙◌, ◌+◌, ◌^◌, ◌≤◌, ℕ, suc, List, [], ◌∷◌, length, set, None, sym, subst, arith}
use Rattle.std.specs.List.{All}
use Rattle.std.proofs.lemmas.List.Elements.{All-drop}
use Rattle.block_device.specs.Device.{BeginsOne, Blocks, IsBlock, Only, block_at}
use Rattle.block_device.specs.History.{LeftSince}
use Rattle.block_device.specs.Outcomes.{now_since, set_blocks, shown_left, since_earlier_left, since_now}
use Rattle.page_file.specs.Opening.{failed_check}
use Rattle.committed_log.specs.Committed as regions
use Rattle.committed_log.specs.Log.{entries_from, replayed}
use Rattle.logged_pair.specs.CommitLaws.{begins, few_seen}
use Rattle.logged_pair.specs.Shown.{length-shown}
use Rattle.logged_pair.specs.Stages.{open_homes}
use Rattle.logged_pair.specs.Standing.{base_of, commits_of, homes_of, journal_of, log_of, shown_of, IsHonest}
use Rattle.logged_pair.specs.Standing as logged
use Rattle.logged_pair.specs.declared.pair.LoggedPair.{LoggedPair}
use Rattle.journaled_device.specs.EventLaws.{back_now, length-moments, none_unsynced, until_all, until_more}
use Rattle.journaled_device.specs.Events.{events_until, moments}
use Rattle.journaled_device.specs.Journaled.{events_of, found_since_of, inner_of, left_since_of, may_leave_of}
use Rattle.journaled_device.specs.Journaled.{moment_of, pair_moment_of, pair_of}
use Rattle.journaled_device.specs.declared.device.JournaledDevice.{JournaledDevice}

-- ---- of the logged pair

-- there are no more blocks than the base has
pub few_shown : {P A : Type 0} {m : _} (d : LoggedPair P A m) → length (regions.base_of (log_of d)) ≤ 2 ^ 31
    → length (shown_of d) ≤ 2 ^ 31
few_shown d few =
    omega (arith, few_seen (log_of d) few, length-shown (homes_of d) (journal_of d) (base_of d))

-- whole blocks, each at its home
replayed_blocks : (k : ℕ) (homes : List ℕ) (b a : Blocks) → k + length homes ≤ length b → All IsBlock b
    → All IsBlock a → All IsBlock (replayed (entries_from k homes b) a)
replayed_blocks k [] b a room all all' = all'
replayed_blocks k (h ∷ hs) b a room all all' =
    replayed_blocks (suc k) hs b (set a h (block_at k b)) (omega (arith, room)) all
    (set_blocks h (block_at k b) a (all k [] (omega (arith, room))) all')

pub shown_blocks : {P A : Type 0} {m : _} (d : LoggedPair P A m) → IsHonest d
    → All IsBlock (regions.base_of (log_of d)) × All IsBlock (regions.journal_of (log_of d))
    → All IsBlock (shown_of d)
shown_blocks d h all =
    let log : List ℕ = regions.homes_of (log_of d) in
    let journal : Blocks = regions.journal_of (log_of d) in
    let seen : All IsBlock (base_of d) =
    replayed_blocks 0 log journal (regions.base_of (log_of d)) (omega (arith, ((log_of d).standing h).there)) all.1
    all.0 in
    replayed_blocks 0 (open_homes (homes_of d)) (journal_of d) (base_of d) (omega (arith, (d.standing h).room))
    (All-drop IsBlock (length log) journal all.1) seen

-- what is left, once it is recovered, begins with a commit
begins_left : {P A : Type 0} {m : _} (d : LoggedPair P A m) (c : Blocks)
    → length (regions.base_of (log_of d)) ≤ 2 ^ 31 → IsHonest d → logged.may_leave_of d c
    → BeginsOne (commits_of d) c
begins_left d c few h left =
    subst (BeginsOne (commits_of d)) (sym left.3) (begins d left.0 left.1 few h left.2)

-- ---- of the device

module _ {P A G : Type 0} {m : _} (d : JournaledDevice P A G m) (h : IsHonest (inner_of d)) where
  pub shown_counts_of : may_leave_of d (shown_of (inner_of d))
  shown_counts_of = shown_left (shown_of (inner_of d)) (events_of d) (d.noted h).whole (d.noted h).leads

  -- at this moment all events are over
  all_over : events_until (moments d.past.taken) (moment_of d) ≡ length (events_of d)
  all_over =
      until_all (m.moment (pair_of d)) (moments d.past.taken) (moment_of d) (d.noted h).falls (omega arith)
      ∙ length-moments d.past.taken

  pub only_now_of : (c : Blocks) → left_since_of d (moment_of d) c → may_leave_of d c
  only_now_of c left =
      since_now (shown_of (inner_of d)) (events_of d) c
      (subst (λ (n : ℕ). LeftSince (shown_of (inner_of d)) (events_of d) n c) all_over left)

  -- and so is what the pair did
  pair_now : pair_moment_of d (moment_of d) ≡ m.moment (pair_of d)
  pair_now = back_now (m.moment (pair_of d)) (moments d.past.taken) (d.noted h).falls

  pair_left : (a b : Blocks) → m.left_since (pair_of d) (pair_moment_of d (moment_of d)) a b
      → m.left_since (pair_of d) (m.moment (pair_of d)) a b
  pair_left a b left = subst (λ (t : ℕ). m.left_since (pair_of d) t a b) pair_now left

  pub brought_of : (c : Blocks) → length (regions.base_of (log_of (inner_of d))) ≤ 2 ^ 31
      → ((a b : Blocks) → m.left_since (pair_of d) (m.moment (pair_of d)) a b → m.may_leave (pair_of d) a b)
      → found_since_of d (moment_of d) c → BeginsOne (commits_of (inner_of d)) c
  brought_of c few now left =
      begins_left (inner_of d) c few h
      (left.0, left.1, now left.0 left.1 (pair_left left.0 left.1 left.2), left.3)

  pub committed_of : (k : Blocks) → Only (shown_of (inner_of d)) (may_leave_of d)
      → failed_check (shown_of (inner_of d)) ≡ None → commits_of (inner_of d) k → k ≡ shown_of (inner_of d)
  committed_of k only taken is =
      let n = d.noted h in
      n.durable (none_unsynced (shown_of (inner_of d)) (events_of d) n.whole n.leads only) taken k is

pub counts_now_of : {P A G : Type 0} {m : _} (d : JournaledDevice P A G m) (t : ℕ) (c : Blocks)
    → may_leave_of d c → left_since_of d t c
counts_now_of d t c now =
    now_since (shown_of (inner_of d)) (events_of d) (events_until (moments d.past.taken) t) c now

pub since_earlier_of : {P A G : Type 0} {m : _} (d : JournaledDevice P A G m) (t u : ℕ) (c : Blocks) → t ≤ u
    → left_since_of d u c → left_since_of d t c
since_earlier_of d t u c le left =
    let ts = moments d.past.taken in
    since_earlier_left (shown_of (inner_of d)) (events_of d) (events_until ts t) (events_until ts u) c
    (until_more ts t u le) left
