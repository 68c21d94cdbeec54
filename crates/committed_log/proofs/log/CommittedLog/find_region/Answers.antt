-- A region that is committed, and the homes of its slots.
use Rattle.std.proofs.Common.{◌≡◌, ◌∙◌, ◌≤◌, ◌<◌, ℕ, ap, arith, length, rules, subst, true}
use Rattle.std.specs.List.{All}
use Rattle.block_device.specs.Device.{Blocks, block_at}
use Rattle.committed_log.specs.Committed.{base_of, behind_of, homes_of, journal_of, seen_of, IsHonest, IsStill}
use Rattle.committed_log.specs.Log.{count_in, says, size_of, slot_homes}
use Rattle.committed_log.specs.Replay.{length-overlaid}
use Rattle.committed_log.proofs.Keeping.{behind_still, seen_still}
use Rattle.committed_log.proofs.Opened.{broken_homes, size_is, slots_found}
use Rattle.committed_log.proofs.Reading.{still_then}
use Rattle.committed_log.proofs.log.CommittedLog.find_region.Given as given
use Rattle.committed_log.proofs.log.CommittedLog.find_region.Goals as goal
use Rattle.committed_log.proofs.log.CommittedLog.find_region.Goals.{After-read_homes, In-Some}

-- what the count says
count_so : (g : given.Over) (c : In-Some g) → IsHonest c.args.self.now
    → (c.in-Some.n ≡ count_in (behind_of c.args.self.now))
    × (says (block_at 0 (behind_of c.args.self.now)) ≡ true)
    × (size_of (behind_of c.args.self.now) ≤ length (behind_of c.args.self.now))
count_so g c h = c.in_ok-read_count.ensures.some h c.in-Some.n c.in-Some.is

pub read_homes-requires : goal.read_homes-requires
read_homes-requires g c =
    let d = c.args.self.now in let m = c.read_count.new.self in
    record {
      room = λ h1.
          let h = c.read_count.ensures.honest.1 h1 in
          let is = count_so g (goal.at.read_homes-requires g c).In-Some h in
          omega (
            arith,
            is.2,
            size_is c.in-Some.n (behind_of d) is.0,
            ap length (behind_still d m (c.read_count.ensures.still h)),
          );
    }

still_so : (g : given.Over) (c : After-read_homes g) → IsHonest c.args.self.now
    → IsStill c.args.self.now c.read_homes.new.self
still_so g c h =
    let d = c.args.self.now in
    still_then d c.read_count.new.self c.read_homes.new.self
    (λ t a b le left. g.met.P.DevicePair.counts_now d.pair t a b h le left) (c.read_count.ensures.still h)
    (c.read_homes.ensures.still (c.read_count.ensures.honest.0 h))

pub returns-in_ok-read_homes-in-Some-clause-some : goal.returns-in_ok-read_homes-in-Some-clause-some
returns-in_ok-read_homes-in-Some-clause-some g c = λ h.
    let d = c.args.self.now in let m = c.read_count.new.self in let n = c.in-Some.n in
    let is = count_so g (goal.at.returns-in_ok-read_homes-in-Some-clause-some g c).In-Some h in
    let still = c.read_count.ensures.still h in
    let homes = c.in_ok-read_homes-in-Some.field-0.items in
    slots_found n (length (seen_of d)) homes (behind_of d) is.0 is.1 is.2
    (c.in_ok-read_homes-in-Some.ensures.homes (c.read_count.ensures.honest.0 h)
    ∙ ap (slot_homes n 0 n) (behind_still d m still))
    (subst (λ (k : ℕ). All (λ x. x < k) homes) (ap length (seen_still d m still))
    c.in_ok-read_homes-in-Some.ensures.below)

pub returns-in_ok-read_homes-in-Some-clause-still : goal.returns-in_ok-read_homes-in-Some-clause-still
returns-in_ok-read_homes-in-Some-clause-still g c = λ h.
    still_so g (goal.at.returns-in_ok-read_homes-in-Some-clause-still g c).After-read_homes h

pub returns-in_err-read_homes-in-Some-clause-still : goal.returns-in_err-read_homes-in-Some-clause-still
returns-in_err-read_homes-in-Some-clause-still g c = λ h.
    still_so g (goal.at.returns-in_err-read_homes-in-Some-clause-still g c).After-read_homes h

pub returns-in_err-read_homes-in-Some-clause-malformed : goal.returns-in_err-read_homes-in-Some-clause-malformed
returns-in_err-read_homes-in-Some-clause-malformed g c = λ h e.
    let d = c.args.self.now in let m = c.read_count.new.self in let n = c.in-Some.n in
    let is = count_so g (goal.at.returns-in_err-read_homes-in-Some-clause-malformed g c).In-Some h in
    let still = c.read_count.ensures.still h in
    let bad : ¬ All (λ x. x < length (seen_of m)) (slot_homes n 0 n (behind_of m)) =
    c.in_err-read_homes-in-Some.ensures.malformed (c.read_count.ensures.honest.0 h)
    (search rules) in
    broken_homes n (length (seen_of m)) (base_of d) (behind_of d) is.0
    (ap length (seen_still d m still) ∙ length-overlaid (homes_of d) (journal_of d) (base_of d)) is.1
    (subst (λ (b : Blocks). ¬ All (λ x. x < length (seen_of m)) (slot_homes n 0 n b))
    (behind_still d m still) bad)
