-- Each call is made while the gate is open.
use Rattle.block_device.specs.Moments.{leaves_then, leaves_weaker}
use Rattle.page_file.specs.Gated.{fails}
use Rattle.page_file.specs.Opening.{IsRefused}
use Rattle.page_file.proofs.Moments.{no_more_leaves}
use Rattle.page_file.proofs.creation.lay_out.Goals as goal

pub returns-in_err-sync-clause-stops : goal.returns-in_err-sync-clause-stops
returns-in_err-sync-clause-stops g c = λ h.
    let d = g.D.BlockDevice in
    let h1 = c.write_first.ensures.honest.0 h in let h2 = c.write_behind.ensures.honest.0 h1 in
    let h3 = c.write_behind-2.ensures.honest.0 h2 in
    let open1 = c.in_ok-write_first.ensures.open h in let open2 = c.write_behind.ensures.open h1 open1 in
    let open3 = c.write_behind-2.ensures.open h2 open2 in
    let start = c.args.device.now in let first = c.write_first.new.device in
    let second = c.write_behind.new.device in let third = c.write_behind-2.new.device in
    let last = c.sync.new.self in
    leaves_then d.moment d.left_since d.recovery start first last IsRefused (c.write_first.ensures.stops h)
    (leaves_then d.moment d.left_since d.recovery first second last IsRefused
    (c.write_behind.ensures.stops h1 open1)
    (leaves_then d.moment d.left_since d.recovery second third last IsRefused
    (c.write_behind-2.ensures.stops h2 open2)
    (leaves_weaker d.moment d.left_since d.recovery third last (d.may_leave third) IsRefused
    (λ e left. fails e (open3 e left))
    (no_more_leaves d.moment d.left_since d.recovery d.may_leave third last
    (λ e left. g.met.D.BlockDevice.only_now third e h3 left) (c.sync.ensures.stops h3)
    (c.sync.ensures.time h3) (c.sync.ensures.brings h3)))))

pub returns-clause-stops : goal.returns-clause-stops
returns-clause-stops g c = λ h.
    let d = g.D.BlockDevice in
    let h1 = c.write_first.ensures.honest.0 h in let h2 = c.write_behind.ensures.honest.0 h1 in
    let h3 = c.write_behind-2.ensures.honest.0 h2 in
    let open1 = c.in_ok-write_first.ensures.open h in let open2 = c.write_behind.ensures.open h1 open1 in
    let open3 = c.write_behind-2.ensures.open h2 open2 in
    let start = c.args.device.now in let first = c.write_first.new.device in
    let second = c.write_behind.new.device in let third = c.write_behind-2.new.device in
    let last = c.sync.new.self in
    leaves_then d.moment d.left_since d.recovery start first last IsRefused (c.write_first.ensures.stops h)
    (leaves_then d.moment d.left_since d.recovery first second last IsRefused
    (c.write_behind.ensures.stops h1 open1)
    (leaves_then d.moment d.left_since d.recovery second third last IsRefused
    (c.write_behind-2.ensures.stops h2 open2)
    (leaves_weaker d.moment d.left_since d.recovery third last (d.may_leave third) IsRefused
    (λ e left. fails e (open3 e left))
    (no_more_leaves d.moment d.left_since d.recovery d.may_leave third last
    (λ e left. g.met.D.BlockDevice.only_now third e h3 left) (c.sync.ensures.stops h3)
    (c.sync.ensures.time h3) (c.sync.ensures.brings h3)))))
