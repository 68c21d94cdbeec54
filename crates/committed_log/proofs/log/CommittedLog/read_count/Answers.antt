-- A region that is committed, and its count.
use Rattle.std.proofs.Common.{◌≡◌, ◌∙◌, ap, arith, length, sym, true}
use Rattle.block_bytes.specs.Numbers.{number_at}
use Rattle.block_device.specs.Device.{block_at}
use Rattle.committed_log.specs.Committed.{behind_of, IsHonest, IsStill}
use Rattle.committed_log.specs.Log.{count_in, says}
use Rattle.committed_log.proofs.Keeping.{behind_still}
use Rattle.committed_log.proofs.Opened.{counted, size_is}
use Rattle.committed_log.proofs.Reading.{still_then}
use Rattle.committed_log.proofs.log.CommittedLog.read_count.Given as given
use Rattle.committed_log.proofs.log.CommittedLog.read_count.Goals as goal
use Rattle.committed_log.proofs.log.CommittedLog.read_count.Goals.{After-behind_blocks-3}

still_so : (g : given.Over) (c : After-behind_blocks-3 g) → IsHonest c.args.self.now
    → IsStill c.args.self.now c.read_behind-2.new.self
still_so g c h =
    let d = c.args.self.now in
    still_then d c.read_behind.new.self c.read_behind-2.new.self
    (λ t a b le left. g.met.P.DevicePair.counts_now d.pair t a b h le left) (c.read_behind.ensures.still h)
    (c.read_behind-2.ensures.still (c.read_behind.ensures.honest.0 h))

says_so : (g : given.Over) (c : After-behind_blocks-3 g) → IsHonest c.args.self.now
    → says (block_at 0 (behind_of c.args.self.now)) ≡ true
says_so g c h =
    ap says (sym (c.in_ok-read_behind.ensures.bytes h)) ∙ sym c.says_committed.ensures
    ∙ c.if-not-says_committed.false

count_so : (g : given.Over) (c : After-behind_blocks-3 g) → IsHonest c.args.self.now
    → c.read_u32-n.result ≡ count_in (behind_of c.args.self.now)
count_so g c h =
    let d = c.args.self.now in
    counted c.read_u32-n.result (behind_of d)
    (c.read_u32-n.ensures
    ∙ ap (number_at 4 8)
    (c.in_ok-read_behind-2.ensures.bytes (c.read_behind.ensures.honest.0 h)
    ∙ ap (block_at 1) (behind_still d c.read_behind.new.self (c.read_behind.ensures.still h))))

pub returns-clause-some : goal.returns-clause-some
returns-clause-some g c = λ h n e.
    let d = c.args.self.now in
    let at = (goal.at.returns-clause-some g c).After-behind_blocks-3 in
    let is : c.read_u32-n.result ≡ n = cc in (
      sym is ∙ count_so g at h,
      says_so g at h,
      omega (
        arith,
        c.if-region_blocks-behind_blocks.false,
        c.region_blocks.ensures,
        c.behind_blocks-3.ensures.is,
        ap length (behind_still d c.read_behind-2.new.self (still_so g at h)),
        size_is c.read_u32-n.result (behind_of d) (count_so g at h),
      ),
    )

pub returns-clause-still : goal.returns-clause-still
returns-clause-still g c = λ h. still_so g (goal.at.returns-clause-still g c).After-behind_blocks-3 h

pub returns-then-region_blocks-behind_blocks-clause-malformed : goal.returns-then-region_blocks-behind_blocks-clause-malformed
returns-then-region_blocks-behind_blocks-clause-malformed g c = λ h e.
    let d = c.args.self.now in
    let at = (goal.at.returns-then-region_blocks-behind_blocks-clause-malformed g c).After-behind_blocks-3 in (
      says_so g at h,
      omega (
        arith,
        c.if-region_blocks-behind_blocks.true,
        c.region_blocks.ensures,
        c.behind_blocks-3.ensures.is,
        ap length (behind_still d c.read_behind-2.new.self (still_so g at h)),
        size_is c.read_u32-n.result (behind_of d) (count_so g at h),
      ),
    )

pub returns-then-region_blocks-behind_blocks-clause-still : goal.returns-then-region_blocks-behind_blocks-clause-still
returns-then-region_blocks-behind_blocks-clause-still g c = λ h.
    still_so g
    (goal.at.returns-then-region_blocks-behind_blocks-clause-still g c).After-behind_blocks-3 h
