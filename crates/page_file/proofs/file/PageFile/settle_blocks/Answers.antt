-- The goals of `PageFile::settle_blocks` that are proved by hand.
use Rattle.std.proofs.Common.{refl, arith}
use Rattle.block_device.specs.Moments.{leaves_weaker}
use Rattle.page_file.specs.Opening.{IsRefused}
use Rattle.page_file.specs.Gated.{fails, still_open, stop_open, open_is_not_shut}
use Rattle.page_file.specs.Frames.{map_kept, stop_behind}
use Rattle.page_file.specs.Settled.{sound_says}
use Rattle.page_file.proofs.file.PageFile.settle_blocks.Goals as goal

pub invariant_of-self : goal.invariant_of-self
invariant_of-self g c =
    let file = c.args.self.now in let d = g.D.BlockDevice in
    let was : d.honest c.write_header.new.device → d.honest file.device = c.write_header.ensures.honest.1 in
    record {
      sound = file.sound;
      few = file.few;
      room = λ h2. let h = was h2 in let start = (sound_says file.header file.sound).start in
          omega (
            arith,
            file.room h,
            start,
            c.write_header.ensures.size h (omega (arith, file.room h, start)),
          );
      stop_now = λ h2. let h = was h2 in
          stop_behind file.gate (d.shown file.device) (d.shown c.write_header.new.device)
          (d.may_leave file.device) (d.may_leave c.write_header.new.device) 1 c.requires (omega arith)
          (file.stop_now h) (c.write_header.ensures.now h);
      settled = λ _ ne. absurd (ne c.requires);
      shut_reads = λ _ is. absurd (open_is_not_shut file.gate c.requires is);
    }

pub returns-in_err-write_header-clause-map : goal.returns-in_err-write_header-clause-map
returns-in_err-write_header-clause-map g c =
    map_kept _ _ refl c.write_header.ensures.honest
    (λ h k low. c.write_header.ensures.others h k (λ e. absurd (omega (arith, e, low))))

pub returns-in_err-write_header-clause-stops : goal.returns-in_err-write_header-clause-stops
returns-in_err-write_header-clause-stops g c = λ h. let file = c.args.self.now in let d = g.D.BlockDevice in
    leaves_weaker d.moment d.left_since d.recovery file.device c.write_header.new.device _ IsRefused
    (λ e from. fails e
    (still_open 1 from.0 e (omega arith)
    (stop_open file.gate (d.shown file.device) from.0 c.requires (file.stop_now h from.0 from.1))
    from.2)) (c.write_header.ensures.stops h)

pub returns-clause-map : goal.returns-clause-map
returns-clause-map g c =
    map_kept _ _ refl c.write_header.ensures.honest
    (λ h k low. c.write_header.ensures.others h k (λ e. absurd (omega (arith, e, low))))

pub returns-clause-stops : goal.returns-clause-stops
returns-clause-stops g c = λ h. let file = c.args.self.now in let d = g.D.BlockDevice in
    leaves_weaker d.moment d.left_since d.recovery file.device c.write_header.new.device _ IsRefused
    (λ e from. fails e
    (still_open 1 from.0 e (omega arith)
    (stop_open file.gate (d.shown file.device) from.0 c.requires (file.stop_now h from.0 from.1))
    from.2)) (c.write_header.ensures.stops h)
