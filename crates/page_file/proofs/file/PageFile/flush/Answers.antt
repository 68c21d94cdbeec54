-- A sync leaves no more.
use Rattle.std.proofs.Common.{refl}
use Rattle.page_file.proofs.Moments.{kept_where_no_more_is_left, no_more_leaves}
use Rattle.page_file.proofs.file.PageFile.flush.Goals as goal

pub returns-in_err-sync-clause-gate : goal.returns-in_err-sync-clause-gate
returns-in_err-sync-clause-gate g c =
    kept_where_no_more_is_left c.args.self.now _ refl c.sync.ensures.honest (λ h. refl) c.sync.ensures.shown
    (λ h. let d = g.D.BlockDevice in
    no_more_leaves d.moment d.left_since d.recovery d.may_leave c.args.self.now.device c.sync.new.self
    (λ e left. g.met.D.BlockDevice.only_now c.args.self.now.device e h left) (c.sync.ensures.stops h)
    (c.sync.ensures.time h) (c.sync.ensures.brings h))

pub returns-clause-gate : goal.returns-clause-gate
returns-clause-gate g c =
    kept_where_no_more_is_left c.args.self.now _ refl c.sync.ensures.honest (λ h. refl) c.sync.ensures.shown
    (λ h. let d = g.D.BlockDevice in
    no_more_leaves d.moment d.left_since d.recovery d.may_leave c.args.self.now.device c.sync.new.self
    (λ e left. g.met.D.BlockDevice.only_now c.args.self.now.device e h left) (c.sync.ensures.stops h)
    (c.sync.ensures.time h) (c.sync.ensures.brings h))
