-- The last commit is a snapshot.
use Rattle.std.proofs.Common.{◌≡◌, ◌∙◌, ℕ, ◌^◌, ◌<◌, ◌≤◌, Bool, true, false, List, [], length, drop, take, refl, sym}
use Rattle.std.proofs.Common.{ap, arith}
use Rattle.std.proofs.lemmas.List.{get_or-take, length-take-le, take-take}
use Rattle.block_device.specs.Device.{Blocks, block_at}
use Rattle.committed_log.specs.Appending.{Appended, IsAppended}
use Rattle.committed_log.specs.Committed as regions
use Rattle.committed_log.specs.Log.{homes_in, overlaid, recovered}
use Rattle.committed_log.specs.Overlay.{overlay_first}
use Rattle.committed_log.specs.Regions.{recovery_first}
use Rattle.committed_log.specs.Replay.{length-overlaid, same_blocks}
use Rattle.committed_log.specs.declared.log.CommittedLog.{CommittedLog}
use Rattle.committed_log.proofs.Through.{first_of, kept_of, regions_of}
use Rattle.logged_pair.specs.Snapshots.{IsSnapshot, ShowsFrom, seen_by, snapshot}
use Rattle.logged_pair.specs.Stages.{IsStanding, StopIn}

pub first_same : (n : ℕ) (a d : Blocks) → n ≤ length a → n ≤ length d
    → ((k : ℕ) → k < n → block_at k d ≡ block_at k a) → take n d ≡ take n a
first_same n a d le le' same =
    let size : length (take n a) ≡ n = length-take-le n a le in
    let size' : length (take n d) ≡ n = length-take-le n d le' in
    same_blocks (take n d) (take n a) (size' ∙ sym size) (λ k lt.
    let less : k < n = omega (arith, lt, size') in
    get_or-take n d k [] less ∙ same k less ∙ sym (get_or-take n a k [] less))

-- what was there at the last commit stays, whatever a stop leaves behind it
first_stays : (deciding : Bool) (kept n : ℕ) (base journal v j : Blocks) → n ≤ kept → kept ≤ length base
    → StopIn deciding kept base journal v j → take n v ≡ take n base
first_stays false kept n base journal v j few le stop =
    let size : length (take kept base) ≡ kept = length-take-le kept base le in
    first_same n base v (omega (arith, few, le)) (omega (arith, few, size, stop.begins.no_shorter)) (λ k lt.
    stop.begins.same k (omega (arith, lt, few, size))
    ∙ get_or-take kept base k [] (omega (arith, lt, few)))
first_stays true kept n base journal v j few le stop = ap (take n) stop.base_is

-- the index of the first p blocks of the log, as recovery of them alone reads it
pub index_read : (p : ℕ) (a b j : Blocks) → length (homes_in j) ≡ p → take p b ≡ j
    → overlaid (homes_in j) b a ≡ recovered a (take p b)
index_read p a b j ends is =
    sym (overlay_first (homes_in j) b (take p b) a (take-take (length (homes_in j)) p b (omega (arith, ends))))
    ∙ ap (λ (l : List ℕ). overlaid l (take p b) a) (ap homes_in (sym is))

-- blocks that were appended behind those that a reader has read are not seen
pub appended_log : (p : ℕ) (base journal a b : Blocks) → p ≤ length journal → IsAppended base journal a b
    → take p b ≡ take p journal
appended_log p base journal a b le is =
    sym (take-take p (length journal) b le) ∙ ap (take p) is.begins

pub appended_seen : (p n : ℕ) (base journal a b : Blocks) → p ≤ length journal → IsAppended base journal a b
    → snapshot p n a b ≡ snapshot p n base journal
appended_seen p n base journal a b le is =
    ap (λ (x : Blocks). snapshot p n x b) is.base_is
    ∙ ap (λ (x : Blocks). take n (recovered base x)) (appended_log p base journal a b le is)

module _ {P A : Type 0} {m : _} where
  -- who has read all regions sees the base as it is read through them
  pub last_seen : (p n : ℕ) (c : CommittedLog P A m) → p ≡ length (regions.homes_of c)
      → regions.IsHonest c → regions.clearing_of c ≡ false → seen_by p n c ≡ take n (regions.seen_of c)
  last_seen p n c all h settled =
      ap (λ (q : ℕ). seen_by q n c) all
      ∙ ap (take n) (recovery_first (regions.homes_of c) (regions.journal_of c) (regions.base_of c)
      (regions_of c h settled))

  pub last_there : (deciding clearing : Bool) (kept n : ℕ) (slots : List ℕ) (c : CommittedLog P A m)
      → length (regions.base_of c) ≤ 2 ^ 31 → regions.IsHonest c → regions.clearing_of c ≡ false → n ≤ kept
      → IsStanding deciding clearing kept slots (regions.seen_of c) (regions.behind_of c) (regions.leaves_of c)
      → IsSnapshot 0 (length (regions.homes_of c)) n kept c
  last_there deciding clearing kept n slots c few h settled le s = record {
    settled = settled;
    there = omega arith;
    ends = ap length (regions_of c h settled);
    few = le;
    stays = λ a b left. record {
      log = kept_of c a b h settled left;
      blocks = ap (take n) (first_of c a b few h left)
          ∙ first_stays deciding kept n (regions.seen_of c) (regions.behind_of c) _ _ le s.kept_there
          (s.stops _ _ (a, b, left, refl, refl))
          ∙ sym (last_seen (length (regions.homes_of c)) n c refl h settled);
    };
  }

  -- who looks at fewer blocks sees the same
  pub seen_behind : (s p n kept : ℕ) (c : CommittedLog P A m) → IsSnapshot 0 p n kept c → IsSnapshot s p n kept c
  seen_behind s p n kept c x = record {
    settled = x.settled;
    there = x.there;
    ends = x.ends;
    few = x.few;
    stays = λ a b left. record {
      log = (x.stays a b left).log;
      blocks = ap (drop s) (x.stays a b left).blocks;
    };
  }

  -- who has read the index of the log before sees the same
  pub index_seen : (s p n : ℕ) (c : CommittedLog P A m) (a b : Blocks)
      → length (homes_in (take p (regions.journal_of c))) ≡ p → ShowsFrom s p n c a b
      → drop s (take n (overlaid (homes_in (take p (regions.journal_of c))) b a)) ≡ drop s (seen_by p n c)
  index_seen s p n c a b ends same =
      ap (λ (x : Blocks). drop s (take n x)) (index_read p a b (take p (regions.journal_of c)) ends same.log)
      ∙ same.blocks

  -- and sees n blocks
  pub length-seen : (p n : ℕ) (c : CommittedLog P A m) → n ≤ length (regions.seen_of c)
      → length (seen_by p n c) ≡ n
  length-seen p n c le =
      let j : Blocks = regions.journal_of c in let a : Blocks = regions.base_of c in
      length-take-le n (recovered a (take p j))
      (omega (
        arith,
        le,
        length-overlaid (homes_in (take p j)) (take p j) a,
        length-overlaid (regions.homes_of c) j a,
      ))

  -- a reader of before, once blocks were appended
  pub appended_there : (p n kept : ℕ) (base journal : Blocks) (c : CommittedLog P A m)
      → Appended base journal (regions.base_of c) (regions.journal_of c) (m.may_leave (regions.pair_of c))
      → regions.clearing_of c ≡ false → p ≤ length (regions.homes_of c) → p ≤ length journal
      → length (homes_in (take p journal)) ≡ p → n ≤ kept
      → IsSnapshot 0 p n kept c × (seen_by p n c ≡ snapshot p n base journal)
  appended_there p n kept base journal c is settled there le ends few =
      let log : take p (regions.journal_of c) ≡ take p journal = appended_log p base journal _ _ le is.now in
      let seen : seen_by p n c ≡ snapshot p n base journal = appended_seen p n base journal _ _ le is.now in (
        record {
          settled = settled;
          there = there;
          ends = ap (λ (b : Blocks). length (homes_in b)) log ∙ ends;
          few = few;
          stays = λ a b left. record {
            log = appended_log p base journal a b le (is.left a b left) ∙ sym log;
            blocks = appended_seen p n base journal a b le (is.left a b left) ∙ sym seen;
          };
        },
        seen,
      )
