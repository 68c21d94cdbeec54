-- A commit that has begun is finished first.
use Rattle.std.proofs.Common.{◌≡◌, ◌∙◌, ap, subst, sym}
use Rattle.logged_pair.specs.Standing.{commits_of}
use Rattle.logged_pair.proofs.Keeping.{keeps_on}
use Rattle.logged_pair.proofs.Snapped.{last_same}
use Rattle.logged_pair.proofs.Stood.{on_any, on_err}
use Rattle.device_pair.specs.Pairs.{PairLeaves}
use Rattle.device_pair.specs.Runs.{pair_weaker}
use Rattle.logged_pair.specs.Snapshots.{LastStays, ShowsLastOf, end_of}
use Rattle.logged_pair.specs.Standing.{kept_of, log_of, pair_of}
use Rattle.logged_pair.proofs.pair.LoggedPair.copy_home.Goals as goal

pub returns-clause-shown : goal.returns-clause-shown
returns-clause-shown g c = λ h.
    c.copy_now.ensures.shown (c.finish.ensures.honest.0 h) ∙ c.finish.ensures.shown h

pub returns-clause-keeps : goal.returns-clause-keeps
returns-clause-keeps g c = λ h.
    let d = c.args.self.now in
    keeps_on (commits_of d) d c.finish.new.self c.copy_now.new.self (c.finish.ensures.keeps h)
    (c.copy_now.ensures.keeps (c.finish.ensures.honest.0 h))

pub returns-in_err-finish-clause-last : goal.returns-in_err-finish-clause-last
returns-in_err-finish-clause-last g c = λ h fills p n s all.
    let q = g.P.DevicePair in
    let d = c.args.self.now in
    pair_weaker q.moment q.left_since (pair_of d) (pair_of c.finish.new.self) _ _
    (last_same p n (kept_of d) (log_of d) all h s.settled s) ((c.finish.ensures.snapshots h 0).stops p n s)

pub returns-clause-last : goal.returns-clause-last
returns-clause-last g c = λ h fills p n s all.
    let q = g.P.DevicePair in
    let same : c.finish.new.self ≡ c.args.self.now = c.finish.ensures.still fills s.settled in
    subst (λ (x : _). PairLeaves q.moment q.left_since (pair_of x) (pair_of c.copy_now.new.self)
    (ShowsLastOf p n (log_of x))) same
    (c.copy_now.ensures.last (c.finish.ensures.honest.0 h) p n
    ((c.finish.ensures.snapshots h 0).there p n s)
    (all ∙ ap (λ (x : _). end_of x) (sym same)))

pub returns-in_err-finish-clause-last_stays : goal.returns-in_err-finish-clause-last_stays
returns-in_err-finish-clause-last_stays g c = λ h fills.
    let stay = c.finish.ensures.snapshots h 0 in
    on_any c.from_residual.result _ (λ settled p n s all. (stay.there p n s, (stay.shown p n s).blocks))

pub returns-clause-last_stays : goal.returns-clause-last_stays
returns-clause-last_stays g c = λ h fills.
    let f = c.finish.new.self in let e = c.copy_now.new.self in
    let stay = c.finish.ensures.snapshots h 0 in
    on_err c.copy_now.result _ _
    (λ (stays : LastStays f e). λ settled p n s all.
    let same : f ≡ c.args.self.now = c.finish.ensures.still fills s.settled in
    let is = stays settled p n (stay.there p n s) (all ∙ ap (λ (x : _). end_of x) (sym same)) in
    (is.0, is.1 ∙ (stay.shown p n s).blocks))
    (c.copy_now.ensures.last_stays (c.finish.ensures.honest.0 h))

pub returns-clause-durable : goal.returns-clause-durable
returns-clause-durable g c = λ h. c.copy_now.ensures.durable (c.finish.ensures.honest.0 h)
