-- What readers see stays, through each call and through calls in turn.
use Rattle.std.proofs.Common.{◌≡◌, ◌∙◌, ℕ, zero, suc, ◌+◌, ◌^◌, ◌<◌, ◌≤◌, Bool, true, false, List, [], ◌∷◌, length, drop, set, take}
use Rattle.std.proofs.Common.{refl, sym, ap, subst, arith, ⊎_elim, length-set}
use Rattle.std.proofs.lemmas.Bool.{cases_eq}
use Rattle.std.proofs.lemmas.List.{get_or-drop, get_or-set_other, length-drop, length-take-le, take-take, take_all}
use Rattle.block_device.specs.Device.{Blocks, Torn, block_at}
use Rattle.device_pair.specs.Pairs.{BaseFollows, JournalFollows, PairElapses, PairLeaves}
use Rattle.device_pair.specs.Runs.{pair_call, pair_started, pair_then, pair_weaker}
use Rattle.committed_log.specs.Committed as regions
use Rattle.committed_log.specs.Committed.{KeepsFirst}
use Rattle.committed_log.specs.Home.{FirstShow, LeftBut, SameBut, WritesOnly}
use Rattle.committed_log.specs.Log.{entries_from, homes_in, overlaid, recovered, replayed}
use Rattle.committed_log.specs.Replay.{length-overlaid, same_blocks}
use Rattle.committed_log.specs.Torn.{torn_before, torn_longer}
use Rattle.committed_log.specs.declared.log.CommittedLog.{CommittedLog}
use Rattle.committed_log.proofs.Through.{regions_of}
use Rattle.logged_pair.specs.Shown.{set_here}
use Rattle.logged_pair.specs.SnapshotLaws.{first_same, index_seen, last_seen, last_there}
use Rattle.logged_pair.specs.Snapshots.{IsSnapshot, KeepsReaders, KeepsSnapshots, ShowsFrom, ShowsLastOf, ShowsSame}
use Rattle.logged_pair.specs.Snapshots.{SnapshotsStay, seen_by, snapshot}
use Rattle.logged_pair.specs.Stages.{IsFilling, IsStanding, shown_through}
use Rattle.logged_pair.specs.Standing.{IsStill, LogStays, kept_of, log_of}
use Rattle.logged_pair.specs.declared.pair.LoggedPair.{LoggedPair}
use Rattle.logged_pair.proofs.GivingUp.{bare_shown}
use Rattle.logged_pair.proofs.Stills.{log_seen}
use Rattle.logged_pair.proofs.Stood.{Outcomes, filling}

-- ---- the first blocks of a base

-- a block set in both, of which one may have blocks that the other has not
set_in : (k h : ℕ) (x : List ℕ) (a d : Blocks) → k < length a → k < length d → block_at k d ≡ block_at k a
    → block_at k (set d h x) ≡ block_at k (set a h x)
set_in k h x a d lt lt' is = ⊎_elim
    (λ (here : k ≡ h). set_here d k h x here lt' ∙ sym (set_here a k h x here lt))
    (λ (apart : ¬ (k ≡ h)).
    get_or-set_other d h k x [] apart ∙ is ∙ sym (get_or-set_other a h k x [] apart))
    (cases_eq k h)

replayed_block : (s k : ℕ) (homes : List ℕ) (b a d : Blocks) → k < length a → k < length d
    → block_at k d ≡ block_at k a
    → block_at k (replayed (entries_from s homes b) d) ≡ block_at k (replayed (entries_from s homes b) a)
replayed_block s k [] b a d lt lt' is = is
replayed_block s k (h ∷ hs) b a d lt lt' is =
    replayed_block (suc s) k hs b (set a h (block_at s b)) (set d h (block_at s b))
    (omega (arith, lt, length-set a h (block_at s b))) (omega (arith, lt', length-set d h (block_at s b)))
    (set_in k h (block_at s b) a d lt lt' is)

first_overlaid : (n : ℕ) (homes : List ℕ) (b a d : Blocks) → n ≤ length a → n ≤ length d
    → ((k : ℕ) → k < n → block_at k d ≡ block_at k a)
    → take n (overlaid homes b d) ≡ take n (overlaid homes b a)
first_overlaid n homes b a d le le' same =
    first_same n (overlaid homes b a) (overlaid homes b d) (omega (arith, le, length-overlaid homes b a))
    (omega (arith, le', length-overlaid homes b d))
    (λ k lt. replayed_block 0 k homes b a d (omega (arith, lt, le)) (omega (arith, lt, le')) (same k lt))

-- ---- what a reader sees

-- where a block of the base is written behind those that it sees
sees_base : (p n i : ℕ) (a d b : Blocks) → n ≤ i → n ≤ length a → Torn i a d
    → snapshot p n d b ≡ snapshot p n a b
sees_base p n i a d b le there torn =
    first_overlaid n (homes_in (take p b)) (take p b) a d there (omega (arith, there, torn_longer i a d torn))
    (λ k lt. torn_before k i a d (omega (arith, lt, le)) (omega (arith, lt, there)) torn)

-- where block 0 of the base is written, behind that
drop_overlaid : (homes : List ℕ) (b a d : Blocks) → SameBut 0 a d
    → drop 1 (overlaid homes b d) ≡ drop 1 (overlaid homes b a)
drop_overlaid homes b a d same =
    let size = length-overlaid homes b a in let size' = length-overlaid homes b d in
    same_blocks (drop 1 (overlaid homes b d)) (drop 1 (overlaid homes b a))
    (omega (
      arith,
      length-drop 1 (overlaid homes b d),
      length-drop 1 (overlaid homes b a),
      size,
      size',
      same.as_many,
    ))
    (λ k lt.
    let less : 1 + k < length d = omega (arith, lt, length-drop 1 (overlaid homes b d), size') in
    get_or-drop 1 (overlaid homes b d) k []
    ∙ replayed_block 0 (1 + k) homes b a d (omega (arith, less, same.as_many)) less
    (same.others (1 + k) (λ e. omega (arith, e)))
    ∙ sym (get_or-drop 1 (overlaid homes b a) k []))

drop_taken : (n : ℕ) (x y : Blocks) → length y ≡ length x → drop 1 y ≡ drop 1 x
    → drop 1 (take n y) ≡ drop 1 (take n x)
drop_taken zero x y size same = refl
drop_taken (suc n) [] [] size same = refl
drop_taken (suc n) [] (y ∷ ys) size same = absurd (omega (arith, size))
drop_taken (suc n) (x ∷ xs) [] size same = absurd (omega (arith, size))
drop_taken (suc n) (x ∷ xs) (y ∷ ys) size same = ap (take n) same

sees_behind : (p n : ℕ) (a d b : Blocks) → SameBut 0 a d
    → drop 1 (snapshot p n d b) ≡ drop 1 (snapshot p n a b)
sees_behind p n a d b same =
    let homes : List ℕ = homes_in (take p b) in let log : Blocks = take p b in
    drop_taken n (overlaid homes log a) (overlaid homes log d)
    (length-overlaid homes log d ∙ same.as_many ∙ sym (length-overlaid homes log a))
    (drop_overlaid homes log a d same)

-- where the journal is written behind the blocks that it has read
first_less : (p s : ℕ) (b c : Blocks) → p ≤ s → take s c ≡ take s b → take p c ≡ take p b
first_less p s b c le same = sym (take-take p s c le) ∙ ap (take p) same ∙ take-take p s b le

sees_first : (p s n : ℕ) (a b c : Blocks) → p ≤ s → take s c ≡ take s b
    → snapshot p n a c ≡ snapshot p n a b
sees_first p s n a b c le same = ap (λ (x : Blocks). take n (recovered a x)) (first_less p s b c le same)

-- the blocks of the last commit are there, whatever a stop leaves
pub filled_there : (deciding clearing : Bool) (kept : ℕ) (slots : List ℕ) (base journal : Blocks)
    (ml : Outcomes) → deciding ≡ false → IsStanding deciding clearing kept slots base journal ml
    → (v j : Blocks) → ml v j → kept ≤ length v
filled_there deciding clearing kept slots base journal ml e s v j left =
    let was : IsFilling kept base v j = filling deciding clearing kept slots base journal ml e s v j left in
    omega (arith, was.begins.no_shorter, length-take-le kept base s.kept_there)

module _ {P A : Type 0} {m : _} where
  -- what shows the same as what shows the same
  same_on : (s p n : ℕ) (old mid : CommittedLog P A m) (a b : Blocks)
      → ShowsFrom s p n old (regions.base_of mid) (regions.journal_of mid) → ShowsFrom s p n mid a b
      → ShowsFrom s p n old a b
  same_on s p n old mid a b x y = record { log = y.log ∙ x.log; blocks = y.blocks ∙ x.blocks }

  same_back : (s p n : ℕ) (old new : CommittedLog P A m) (a b : Blocks)
      → ShowsFrom s p n old (regions.base_of new) (regions.journal_of new) → ShowsFrom s p n old a b
      → ShowsFrom s p n new a b
  same_back s p n old new a b x y = record { log = y.log ∙ sym x.log; blocks = y.blocks ∙ sym x.blocks }

  -- ---- no call, and calls in turn

  pub snaps_none : (kept : ℕ) (c : CommittedLog P A m) (s : ℕ) → SnapshotsStay s kept kept c c
  snaps_none kept c s = record {
    there = λ p n x. x;
    shown = λ p n x. record { log = refl; blocks = refl };
    stops = λ p n x. pair_started m.moment m.left_since (regions.pair_of c) _;
  }

  pub snaps_then : (s kept kept' kept'' : ℕ) (old mid new : CommittedLog P A m)
      → SnapshotsStay s kept kept' old mid → SnapshotsStay s kept' kept'' mid new
      → SnapshotsStay s kept kept'' old new
  snaps_then s kept kept' kept'' old mid new x y = record {
    there = λ p n z. y.there p n (x.there p n z);
    shown = λ p n z.
        same_on s p n old mid (regions.base_of new) (regions.journal_of new) (x.shown p n z)
        (y.shown p n (x.there p n z));
    stops = λ p n z.
        pair_then m.moment m.left_since (regions.pair_of old) (regions.pair_of mid) (regions.pair_of new) _
        (x.stops p n z)
        (pair_weaker m.moment m.left_since (regions.pair_of mid) (regions.pair_of new) _ _
        (λ a b e. same_on s p n old mid a b (x.shown p n z) e) (y.stops p n (x.there p n z)));
  }

  pub snapshots_then : (old mid new : LoggedPair P A m) → KeepsSnapshots old mid → KeepsSnapshots mid new
      → KeepsSnapshots old new
  snapshots_then old mid new x y = λ s.
      snaps_then s (kept_of old) (kept_of mid) (kept_of new) (log_of old) (log_of mid) (log_of new) (x s) (y s)

  pub readers_then : (old mid new : LoggedPair P A m) → KeepsReaders old mid → KeepsReaders mid new
      → KeepsReaders old new
  readers_then old mid new x y =
      snaps_then 1 (kept_of old) (kept_of mid) (kept_of new) (log_of old) (log_of mid) (log_of new) x y

  -- there is none while the log is begun anew
  pub snaps_never : (kept kept' : ℕ) (old new : CommittedLog P A m) → regions.clearing_of old ≡ true → (s : ℕ)
      → SnapshotsStay s kept kept' old new
  snaps_never kept kept' old new clearing s = record {
    there = λ p n x. absurd (never p n x);
    shown = λ p n x. absurd (never p n x);
    stops = λ p n x. absurd (never p n x);
  }
    where
      never : (p n : ℕ) → IsSnapshot s p n kept old → ⊥
      never p n x = let no : true ≡ false = sym clearing ∙ x.settled in cc

  -- ---- one call

  snaps_call : (s kept kept' : ℕ) (old new : CommittedLog P A m)
      → PairElapses (m.moment (regions.pair_of old)) (m.moment (regions.pair_of new))
      (m.left_since (regions.pair_of old)) (m.left_since (regions.pair_of new))
      (m.may_leave (regions.pair_of new))
      → ((p n : ℕ) → IsSnapshot s p n kept old → IsSnapshot s p n kept' new)
      → ((p n : ℕ) → IsSnapshot s p n kept old
      → ShowsFrom s p n old (regions.base_of new) (regions.journal_of new))
      → SnapshotsStay s kept kept' old new
  snaps_call s kept kept' old new time there shown = record {
    there = there;
    shown = shown;
    stops = λ p n x.
        pair_call m.moment m.left_since (regions.pair_of old) (regions.pair_of new) _
        (m.may_leave (regions.pair_of new)) time
        (λ a b left. same_on s p n old new a b (shown p n x) ((there p n x).stays a b left));
  }

  -- nothing was written
  pub snaps_still : (kept kept' : ℕ) (old new : CommittedLog P A m) → kept ≤ kept' → LogStays old new → (s : ℕ)
      → SnapshotsStay s kept kept' old new
  snaps_still kept kept' old new le still s =
      snaps_call s kept kept' old new still.time
      (λ p n x. record {
        settled = still.clearing ∙ x.settled;
        there = omega (arith, x.there, ap length still.homes);
        ends = ap (λ (b : Blocks). length (homes_in (take p b))) still.journal ∙ x.ends;
        few = omega (arith, x.few, le);
        stays = λ a b left. same_back s p n old new a b (shown p n) (x.stays a b (still.now a b left));
      })
      (λ p n x. shown p n)
    where
      shown : (p n : ℕ) → ShowsFrom s p n old (regions.base_of new) (regions.journal_of new)
      shown p n = record {
        log = ap (take p) still.journal;
        blocks = ap (λ (x : Blocks). drop s (snapshot p n x (regions.journal_of new))) still.base
            ∙ ap (λ (x : Blocks). drop s (snapshot p n (regions.base_of old) x)) still.journal;
      }

  pub snapshots_still : (old new : LoggedPair P A m) → IsStill old new → KeepsSnapshots old new
  snapshots_still old new s =
      snaps_still (kept_of old) (kept_of new) (log_of old) (log_of new) (omega (arith, s.slots.kept)) s.log

  -- a region was taken in
  pub snaps_taken : (kept kept' : ℕ) (old new : CommittedLog P A m) → kept ≤ kept'
      → regions.pair_of new ≡ regions.pair_of old → regions.clearing_of new ≡ false
      → length (regions.homes_of old) ≤ length (regions.homes_of new) → (s : ℕ)
      → SnapshotsStay s kept kept' old new
  snaps_taken kept kept' old new le pair settled more s = record {
    there = λ p n x. record {
      settled = settled;
      there = omega (arith, x.there, more);
      ends = ap (λ (q : P). length (homes_in (take p (m.journal q)))) pair ∙ x.ends;
      few = omega (arith, x.few, le);
      stays = λ a b left.
          same_back s p n old new a b (shown p n) (x.stays a b (subst (λ (q : P). m.may_leave q a b) pair left));
    };
    shown = λ p n x. shown p n;
    stops = λ p n x.
        subst (λ (q : P). PairLeaves m.moment m.left_since (regions.pair_of old) q (ShowsFrom s p n old)) (sym pair)
        (pair_started m.moment m.left_since (regions.pair_of old) _);
  }
    where
      shown : (p n : ℕ) → ShowsFrom s p n old (regions.base_of new) (regions.journal_of new)
      shown p n = record {
        log = ap (λ (q : P). take p (m.journal q)) pair;
        blocks = ap (λ (q : P). drop s (snapshot p n (m.base q) (m.journal q))) pair;
      }

  -- the journal was written behind the regions
  pub snaps_journal : (kept : ℕ) (old new : CommittedLog P A m)
      → regions.homes_of new ≡ regions.homes_of old → regions.clearing_of new ≡ regions.clearing_of old
      → regions.base_of new ≡ regions.base_of old
      → KeepsFirst (length (regions.homes_of old)) (regions.journal_of old) (regions.journal_of new)
      → JournalFollows (KeepsFirst (length (regions.homes_of old))) (m.may_leave (regions.pair_of old))
      (m.may_leave (regions.pair_of new))
      → PairElapses (m.moment (regions.pair_of old)) (m.moment (regions.pair_of new))
      (m.left_since (regions.pair_of old)) (m.left_since (regions.pair_of new))
      (m.may_leave (regions.pair_of new)) → (s : ℕ) → SnapshotsStay s kept kept old new
  snaps_journal kept old new homes clearing base first follows time s =
      snaps_call s kept kept old new time
      (λ p n x. record {
        settled = clearing ∙ x.settled;
        there = omega (arith, x.there, ap length homes);
        ends =
            ap (λ (b : Blocks). length (homes_in b))
            (first_less p (length (regions.homes_of old)) (regions.journal_of old) (regions.journal_of new) x.there
            first)
            ∙ x.ends;
        few = x.few;
        stays = λ a b left.
            let from = follows a b left in
            same_back s p n old new a b (shown p n x) (behind p n x a from.0 b from.2 (x.stays a from.0 from.1));
      })
      shown
    where
      behind : (p n : ℕ) → IsSnapshot s p n kept old → (a b c : Blocks)
          → KeepsFirst (length (regions.homes_of old)) b c → ShowsFrom s p n old a b → ShowsFrom s p n old a c
      behind p n x a b c keeps same = record {
        log = first_less p (length (regions.homes_of old)) b c x.there keeps ∙ same.log;
        blocks = ap (drop s) (sees_first p (length (regions.homes_of old)) n a b c x.there keeps) ∙ same.blocks;
      }

      shown : (p n : ℕ) → IsSnapshot s p n kept old
          → ShowsFrom s p n old (regions.base_of new) (regions.journal_of new)
      shown p n x =
          behind p n x (regions.base_of new) (regions.journal_of old) (regions.journal_of new) first (record {
            log = refl;
            blocks = ap (λ (a : Blocks). drop s (snapshot p n a (regions.journal_of old))) base;
          })

  -- a block of the base was written behind those of the last commit
  pub snaps_base : (kept i : ℕ) (old new : CommittedLog P A m) → kept ≤ i
      → regions.homes_of new ≡ regions.homes_of old → regions.clearing_of new ≡ regions.clearing_of old
      → regions.journal_of new ≡ regions.journal_of old
      → Torn i (regions.base_of old) (regions.base_of new)
      → BaseFollows (Torn i) (m.may_leave (regions.pair_of old)) (m.may_leave (regions.pair_of new))
      → kept ≤ length (regions.base_of old)
      → ((a b : Blocks) → m.may_leave (regions.pair_of old) a b → kept ≤ length a)
      → PairElapses (m.moment (regions.pair_of old)) (m.moment (regions.pair_of new))
      (m.left_since (regions.pair_of old)) (m.left_since (regions.pair_of new))
      (m.may_leave (regions.pair_of new)) → (s : ℕ) → SnapshotsStay s kept kept old new
  snaps_base kept i old new le homes clearing journal torn follows room rooms time s =
      snaps_call s kept kept old new time
      (λ p n x. record {
        settled = clearing ∙ x.settled;
        there = omega (arith, x.there, ap length homes);
        ends = ap (λ (b : Blocks). length (homes_in (take p b))) journal ∙ x.ends;
        few = x.few;
        stays = λ a b left.
            let from = follows a b left in
            let was = x.stays from.0 b from.1 in
            same_back s p n old new a b (shown p n x) (record {
              log = was.log;
              blocks = ap (drop s)
                  (sees_base p n i from.0 a b (omega (arith, x.few, le))
                  (omega (arith, x.few, rooms from.0 b from.1)) from.2)
                  ∙ was.blocks;
            });
      })
      shown
    where
      shown : (p n : ℕ) → IsSnapshot s p n kept old
          → ShowsFrom s p n old (regions.base_of new) (regions.journal_of new)
      shown p n x = record {
        log = ap (take p) journal;
        blocks = ap (drop s)
            (sees_base p n i (regions.base_of old) (regions.base_of new) (regions.journal_of new)
            (omega (arith, x.few, le)) (omega (arith, x.few, room)) torn)
            ∙ ap (λ (b : Blocks). drop s (snapshot p n (regions.base_of old) b)) journal;
      }

  -- block 0 of the base was written, and no other
  pub readers_first : (kept : ℕ) (old new : CommittedLog P A m)
      → regions.homes_of new ≡ regions.homes_of old → regions.clearing_of new ≡ regions.clearing_of old
      → regions.journal_of new ≡ regions.journal_of old → WritesOnly 0 old new
      → SnapshotsStay 1 kept kept old new
  readers_first kept old new homes clearing journal only = record {
    there = λ p n x. record {
      settled = clearing ∙ x.settled;
      there = omega (arith, x.there, ap length homes);
      ends = ap (λ (b : Blocks). length (homes_in (take p b))) journal ∙ x.ends;
      few = x.few;
      stays = λ a b left.
          same_back 1 p n old new a b (shown p n) (behind p n x a b (only.left a b left));
    };
    shown = λ p n x. shown p n;
    stops = λ p n x.
        pair_weaker m.moment m.left_since (regions.pair_of old) (regions.pair_of new) _ _ (behind p n x) only.stops;
  }
    where
      shown : (p n : ℕ) → ShowsFrom 1 p n old (regions.base_of new) (regions.journal_of new)
      shown p n = record {
        log = ap (take p) journal;
        blocks = sees_behind p n (regions.base_of old) (regions.base_of new) (regions.journal_of new) only.base
            ∙ ap (λ (b : Blocks). drop 1 (snapshot p n (regions.base_of old) b)) journal;
      }

      behind : (p n : ℕ) → IsSnapshot 1 p n kept old → (a b : Blocks)
          → LeftBut 0 (m.may_leave (regions.pair_of old)) a b → ShowsFrom 1 p n old a b
      behind p n x a b from =
          let was = x.stays from.0 b from.1 in record {
            log = was.log;
            blocks = sees_behind p n from.0 a b from.2 ∙ was.blocks;
          }

  -- ---- the last commit

  -- it is what is read, where nothing is open
  pub last_is : (deciding clearing : Bool) (kept : ℕ) (slots : List ℕ) (c : CommittedLog P A m)
      → length (regions.base_of c) ≤ 2 ^ 31 → regions.IsHonest c → regions.clearing_of c ≡ false
      → slots ≡ [] → kept ≡ length (regions.seen_of c)
      → IsStanding deciding clearing kept slots (regions.seen_of c) (regions.behind_of c) (regions.leaves_of c)
      → IsSnapshot 0 (length (regions.homes_of c)) kept kept c
      × (seen_by (length (regions.homes_of c)) kept c
      ≡ shown_through slots (regions.behind_of c) (regions.seen_of c))
  last_is deciding clearing kept slots c few h settled none all s = (
    last_there deciding clearing kept kept slots c few h settled (omega arith) s,
    last_seen (length (regions.homes_of c)) kept c refl h settled
        ∙ take_all kept (regions.seen_of c) (omega (arith, all))
        ∙ sym (bare_shown slots (regions.seen_of c) (regions.behind_of c)
        (omega (arith, few, length-overlaid (regions.homes_of c) (regions.journal_of c) (regions.base_of c)))
        none),
  )

  -- who has read all regions sees it, where recovery of them alone makes the base as it was read
  pub last_shows : (p n : ℕ) (old mid : CommittedLog P A m) → p ≡ length (regions.homes_of old)
      → LogStays old mid → regions.IsHonest old → regions.clearing_of old ≡ false → (a b : Blocks)
      → FirstShow (regions.homes_of mid) (regions.seen_of mid) a b → ShowsLastOf p n old a b
  last_shows p n old mid all still h settled a b is =
      let seen : seen_by p n old ≡ take n (regions.seen_of old) = last_seen p n old all h settled in (
        ap (λ (q : ℕ). snapshot q n a b) (all ∙ sym (ap length still.homes))
            ∙ ap (take n) (is.0 ∙ log_seen old mid still)
            ∙ sym seen,
        ap (λ (hs : List ℕ). take n (overlaid hs b a)) (sym still.homes)
            ∙ ap (take n) (is.1 ∙ log_seen old mid still)
            ∙ sym seen,
      )

  -- and where a snapshot of the same stays
  pub last_same : (p n kept : ℕ) (c : CommittedLog P A m) → p ≡ length (regions.homes_of c)
      → regions.IsHonest c → regions.clearing_of c ≡ false → IsSnapshot 0 p n kept c → (a b : Blocks)
      → ShowsSame p n c a b → ShowsLastOf p n c a b
  last_same p n kept c all h settled s a b same = (
    same.blocks,
    ap (λ (hs : List ℕ). take n (overlaid hs b a))
        (sym (ap (λ (q : ℕ). homes_in (take q (regions.journal_of c))) all ∙ regions_of c h settled))
        ∙ index_seen 0 p n c a b s.ends same,
  )

  -- and goes on to see it, where the regions and what is read through them are the same
  pub last_stays : (deciding clearing : Bool) (kept : ℕ) (slots : List ℕ) (old new : CommittedLog P A m)
      → length (regions.base_of new) ≤ 2 ^ 31 → regions.IsHonest old → regions.IsHonest new
      → regions.homes_of new ≡ regions.homes_of old → regions.seen_of new ≡ regions.seen_of old
      → IsStanding deciding clearing kept slots (regions.seen_of new) (regions.behind_of new)
      (regions.leaves_of new)
      → regions.clearing_of new ≡ false → (p n : ℕ) → IsSnapshot 0 p n kept old
      → p ≡ length (regions.homes_of old)
      → IsSnapshot 0 p n kept new × (seen_by p n new ≡ seen_by p n old)
  last_stays deciding clearing kept slots old new few h h' homes seen stands settled p n s all =
      let end : p ≡ length (regions.homes_of new) = all ∙ sym (ap length homes) in (
        subst (λ (q : ℕ). IsSnapshot 0 q n kept new) (sym end)
            (last_there deciding clearing kept n slots new few h' settled s.few stands),
        last_seen p n new end h' settled ∙ ap (take n) seen ∙ sym (last_seen p n old all h s.settled),
      )
