-- The goals of `write_header` that are proved by hand.
use Rattle.std.proofs.Common.{ap, ◌∙◌, length, subst, sym}
use Rattle.block_device.specs.Device.{block_at}
use Rattle.block_device.specs.Written.{block_at-written, block_at-written_other, length-written_within}
use Rattle.block_device.specs.Written.{torn_other}
use Rattle.page_file.proofs.Moments.{torn_leaves}
use Rattle.page_file.specs.Layout.{header_version, IsHeader}
use Rattle.page_file.specs.Written.{torn_size}
use Rattle.page_file.proofs.blocks.write_header.Goals as goal

pub returns-in_err-write-clause-size : goal.returns-in_err-write-clause-size
returns-in_err-write-clause-size g c = λ h some. torn_size 1 _ _ (c.in_err-write.ensures.torn h) some

pub returns-in_err-write-clause-others : goal.returns-in_err-write-clause-others
returns-in_err-write-clause-others g c =
    λ h k ne. torn_other 1 k _ _ (c.in_err-write.ensures.torn h) c.requires.room ne

pub returns-in_err-sync-clause-size : goal.returns-in_err-sync-clause-size
returns-in_err-sync-clause-size g c = λ h some. ap length (c.sync.ensures.shown (c.write.ensures.honest.0 h))
    ∙ ap length (c.in_ok-write.ensures.written h) ∙ length-written_within 1 _ _ some

pub returns-in_err-sync-clause-others : goal.returns-in_err-sync-clause-others
returns-in_err-sync-clause-others g c =
    λ h k ne. ap (block_at k) (c.sync.ensures.shown (c.write.ensures.honest.0 h))
    ∙ ap (block_at k) (c.in_ok-write.ensures.written h) ∙ block_at-written_other 1 k _ _ c.requires.room ne

pub returns-clause-size : goal.returns-clause-size
returns-clause-size g c = λ h some. ap length (c.sync.ensures.shown (c.write.ensures.honest.0 h))
    ∙ ap length (c.in_ok-write.ensures.written h) ∙ length-written_within 1 _ _ some

pub returns-clause-others : goal.returns-clause-others
returns-clause-others g c = λ h k ne. ap (block_at k) (c.sync.ensures.shown (c.write.ensures.honest.0 h))
    ∙ ap (block_at k) (c.in_ok-write.ensures.written h) ∙ block_at-written_other 1 k _ _ c.requires.room ne

pub returns-clause-header : goal.returns-clause-header
returns-clause-header g c = λ h. subst (IsHeader c.args.header.now)
    (sym (ap (block_at 1) (c.sync.ensures.shown (c.write.ensures.honest.0 h))
    ∙ ap (block_at 1) (c.in_ok-write.ensures.written h) ∙ block_at-written 1 _ _ c.requires.room))
    c.header_page-page.ensures.reads

pub returns-clause-version : goal.returns-clause-version
returns-clause-version g c =
    λ h. ap header_version
    (ap (block_at 1) (c.sync.ensures.shown (c.write.ensures.honest.0 h))
    ∙ ap (block_at 1) (c.in_ok-write.ensures.written h) ∙ block_at-written 1 _ _ c.requires.room)
    ∙ c.header_page-page.ensures.version

pub returns-in_err-sync-clause-stops : goal.returns-in_err-sync-clause-stops
returns-in_err-sync-clause-stops g c = λ h.
    let d = g.D.BlockDevice in let h2 = c.write.ensures.honest.0 h in
    torn_leaves d.moment d.left_since d.recovery d.may_leave 1 c.args.device.now c.write.new.self
    c.sync.new.self (λ e left. g.met.D.BlockDevice.only_now c.args.device.now e h left)
    (c.write.ensures.stops h) (c.write.ensures.time h) (c.write.ensures.brings h) (c.sync.ensures.stops h2)
    (c.sync.ensures.time h2) (c.sync.ensures.brings h2)

pub returns-clause-stops : goal.returns-clause-stops
returns-clause-stops g c = λ h.
    let d = g.D.BlockDevice in let h2 = c.write.ensures.honest.0 h in
    torn_leaves d.moment d.left_since d.recovery d.may_leave 1 c.args.device.now c.write.new.self
    c.sync.new.self (λ e left. g.met.D.BlockDevice.only_now c.args.device.now e h left)
    (c.write.ensures.stops h) (c.write.ensures.time h) (c.write.ensures.brings h) (c.sync.ensures.stops h2)
    (c.sync.ensures.time h2) (c.sync.ensures.brings h2)
