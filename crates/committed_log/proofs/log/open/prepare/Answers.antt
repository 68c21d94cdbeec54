-- Both devices are synced, and an empty journal gets its flag.
use Rattle.std.proofs.Common.{◌≡◌, ◌∙◌, ap, arith, false, inl, inr, length, subst, sym, take}
use Rattle.block_device.specs.Device.{Blocks, block_at}
use Rattle.device_pair.specs.Pairs.{PairLeaves}
use Rattle.device_pair.specs.Runs.{pair_then, pair_weaker}
use Rattle.committed_log.specs.Log.{recovered, says}
use Rattle.committed_log.specs.Opening.{AreSynced, LeavesOr}
use Rattle.committed_log.specs.Regions.{recovered_short}
use Rattle.committed_log.proofs.Making.{recovered_as}
use Rattle.committed_log.proofs.Stood.{on_ok}
use Rattle.committed_log.specs.Appending.{IsAppended, OrAppended}
use Rattle.committed_log.proofs.Appending.{appended_synced, none_begins}
use Rattle.committed_log.proofs.log.open.prepare.Given as given
use Rattle.committed_log.proofs.log.open.prepare.Goals as goal
use Rattle.committed_log.proofs.log.open.prepare.Goals.{After-sync_both}

same_so : (g : given.Over) (c : After-sync_both g) → g.P.DevicePair.honest c.args.pair.now
    → recovered (g.P.DevicePair.base c.sync_both.new.pair) (g.P.DevicePair.journal c.sync_both.new.pair)
    ≡ recovered (g.P.DevicePair.base c.args.pair.now) (g.P.DevicePair.journal c.args.pair.now)
same_so g c h = recovered_as _ _ _ _ (c.sync_both.ensures.base h) (c.sync_both.ensures.journal h)

stops_so : (g : given.Over) (c : After-sync_both g) → g.P.DevicePair.honest c.args.pair.now
    → PairLeaves g.P.DevicePair.moment g.P.DevicePair.left_since c.args.pair.now c.sync_both.new.pair
    (LeavesOr (g.P.DevicePair.may_leave c.args.pair.now)
    (recovered (g.P.DevicePair.base c.args.pair.now) (g.P.DevicePair.journal c.args.pair.now)))
stops_so g c h = let p = g.P.DevicePair in
    pair_weaker p.moment p.left_since c.args.pair.now c.sync_both.new.pair _ _ (λ a b left. inl left)
    (c.sync_both.ensures.stops h)

pub returns-in_err-sync_both-clause-same : goal.returns-in_err-sync_both-clause-same
returns-in_err-sync_both-clause-same g c = λ h.
    same_so g (goal.at.returns-in_err-sync_both-clause-same g c).After-sync_both h

pub returns-in_err-sync_both-clause-stops : goal.returns-in_err-sync_both-clause-stops
returns-in_err-sync_both-clause-stops g c = λ h.
    stops_so g (goal.at.returns-in_err-sync_both-clause-stops g c).After-sync_both h

pub returns-then-journal_blocks-gt0-clause-same : goal.returns-then-journal_blocks-gt0-clause-same
returns-then-journal_blocks-gt0-clause-same g c = λ h.
    same_so g (goal.at.returns-then-journal_blocks-gt0-clause-same g c).After-sync_both h

pub returns-then-journal_blocks-gt0-clause-stops : goal.returns-then-journal_blocks-gt0-clause-stops
returns-then-journal_blocks-gt0-clause-stops g c = λ h.
    stops_so g (goal.at.returns-then-journal_blocks-gt0-clause-stops g c).After-sync_both h

pub returns-then-journal_blocks-gt0-clause-durable : goal.returns-then-journal_blocks-gt0-clause-durable
returns-then-journal_blocks-gt0-clause-durable g c = λ h a b left.
    let is = c.in_ok-sync_both.ensures.durable h a b left in
    (is.0 ∙ sym (c.sync_both.ensures.base h), is.1 ∙ sym (c.sync_both.ensures.journal h))

pub make_flag-requires-clause-synced : goal.make_flag-requires-clause-synced
make_flag-requires-clause-synced g c = λ h1 a b left.
    let h = c.sync_both.ensures.honest.1 h1 in
    let is = c.in_ok-sync_both.ensures.durable h a b left in
    (is.0 ∙ sym (c.sync_both.ensures.base h), is.1 ∙ sym (c.sync_both.ensures.journal h))

pub returns-clause-same : goal.returns-clause-same
returns-clause-same g c = λ h. let p = g.P.DevicePair in let d = c.args.pair.now in
    let m = c.sync_both.new.pair in let e = c.make_flag.new.pair in
    let h1 = c.sync_both.ensures.honest.0 h in
    recovered_short (p.base e) (p.journal e) (omega (arith, c.make_flag.ensures.few h1))
    ∙ c.make_flag.ensures.base h1
    ∙ sym (recovered_short (p.base m) (p.journal m)
    (omega (arith, c.if-journal_blocks-gt0.false, c.journal_blocks.ensures.is)))
    ∙ same_so g (goal.at.returns-clause-same g c).After-sync_both h

pub returns-clause-stops : goal.returns-clause-stops
returns-clause-stops g c = λ h. let p = g.P.DevicePair in let d = c.args.pair.now in
    let m = c.sync_both.new.pair in let e = c.make_flag.new.pair in
    let at = (goal.at.returns-clause-stops g c).After-sync_both in
    let h1 = c.sync_both.ensures.honest.0 h in
    pair_then p.moment p.left_since d m e _ (stops_so g at h)
    (pair_weaker p.moment p.left_since m e _ _ (λ a b is. inr (is
    ∙ sym (recovered_short (p.base m) (p.journal m)
    (omega (arith, c.if-journal_blocks-gt0.false, c.journal_blocks.ensures.is)))
    ∙ same_so g at h))
    (c.make_flag.ensures.stops h1))

pub returns-clause-made : goal.returns-clause-made
returns-clause-made g c = λ h. let p = g.P.DevicePair in
    let h1 = c.sync_both.ensures.honest.0 h in
    on_ok c.make_flag.result _ _
    (λ (is : says (block_at 0 (p.journal c.make_flag.new.pair)) ≡ false).
    inr (record { few = c.make_flag.ensures.few h1; unsaid = is })) (c.make_flag.ensures.unsaid h1)

synced_so : (g : given.Over) (c : After-sync_both g) → g.P.DevicePair.honest c.args.pair.now
    → PairLeaves g.P.DevicePair.moment g.P.DevicePair.left_since c.args.pair.now c.sync_both.new.pair
    (OrAppended (g.P.DevicePair.may_leave c.args.pair.now) (g.P.DevicePair.base c.args.pair.now)
    (g.P.DevicePair.journal c.args.pair.now))
synced_so g c h = let p = g.P.DevicePair in
    pair_weaker p.moment p.left_since c.args.pair.now c.sync_both.new.pair _ _ (λ a b left. inl left)
    (c.sync_both.ensures.stops h)

pub returns-in_err-sync_both-clause-append_stops : goal.returns-in_err-sync_both-clause-append_stops
returns-in_err-sync_both-clause-append_stops g c = λ h.
    synced_so g (goal.at.returns-in_err-sync_both-clause-append_stops g c).After-sync_both h

pub returns-then-journal_blocks-gt0-clause-append_stops : goal.returns-then-journal_blocks-gt0-clause-append_stops
returns-then-journal_blocks-gt0-clause-append_stops g c = λ h.
    synced_so g (goal.at.returns-then-journal_blocks-gt0-clause-append_stops g c).After-sync_both h

pub returns-then-journal_blocks-gt0-clause-appends : goal.returns-then-journal_blocks-gt0-clause-appends
returns-then-journal_blocks-gt0-clause-appends g c = λ h.
    let p = g.P.DevicePair in let d = c.args.pair.now in let m = c.sync_both.new.pair in
    appended_synced (p.base d) (p.journal d) (p.base m) (p.journal m) (p.may_leave m)
    (c.sync_both.ensures.base h) (c.sync_both.ensures.journal h) (c.in_ok-sync_both.ensures.durable h)

pub returns-clause-append_stops : goal.returns-clause-append_stops
returns-clause-append_stops g c = λ h.
    let p = g.P.DevicePair in let d = c.args.pair.now in
    let m = c.sync_both.new.pair in let e = c.make_flag.new.pair in
    pair_then p.moment p.left_since d m e _
    (synced_so g (goal.at.returns-clause-append_stops g c).After-sync_both h)
    (pair_weaker p.moment p.left_since m e _ _
    (λ a b (is : IsAppended (p.base m) (p.journal m) a b). inr (record {
      base_is = is.base_is ∙ c.sync_both.ensures.base h;
      begins = subst (λ (j : Blocks). take (length j) b ≡ j) (c.sync_both.ensures.journal h) is.begins;
    }))
    (c.make_flag.ensures.append_stops (c.sync_both.ensures.honest.0 h)))

pub returns-clause-appends : goal.returns-clause-appends
returns-clause-appends g c = λ h.
    let p = g.P.DevicePair in let d = c.args.pair.now in
    let m = c.sync_both.new.pair in let e = c.make_flag.new.pair in
    let h1 = c.sync_both.ensures.honest.0 h in
    let none : length (p.journal d) ≡ 0 =
    omega (
      arith,
      c.if-journal_blocks-gt0.false,
      c.journal_blocks.ensures.is,
      ap length (c.sync_both.ensures.journal h),
    ) in
    let same : p.base e ≡ p.base d = c.make_flag.ensures.base h1 ∙ c.sync_both.ensures.base h in
    on_ok c.make_flag.result _ _
    (λ (synced : AreSynced (p.base e) (p.journal e) (p.may_leave e)). record {
      now = record { base_is = same; begins = none_begins (p.journal d) (p.journal e) none };
      left = λ a b left. record {
        base_is = (synced a b left).0 ∙ same;
        begins = none_begins (p.journal d) b none;
      };
    })
    (c.make_flag.ensures.durable h1)
