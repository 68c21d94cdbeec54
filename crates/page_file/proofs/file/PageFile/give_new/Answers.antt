-- The goals of `PageFile::give_new` that are proved by hand.
use Rattle.std.proofs.Common.{ap, arith, length, refl}
use Rattle.page_file.specs.Gated.{open_is_not_shut}
use Rattle.page_file.specs.Frames.{adds_behind, stop_behind}
use Rattle.page_file.specs.Settled.{more_given, sound_says}
use Rattle.page_file.specs.Written.{torn_longer, within_written}
use Rattle.page_file.proofs.file.PageFile.give_new.Goals as goal

pub invariant_of-self : goal.invariant_of-self
invariant_of-self g c =
    let file = c.args.self.now in let d = g.D.BlockDevice in
    let was : d.honest c.write_block.new.device → d.honest file.device = c.write_block.ensures.honest.1 in
    record {
      sound = file.sound;
      few = file.few;
      room = λ h2. let h = was h2 in
          omega (arith, file.room h, torn_longer _ _ _ (c.write_block.ensures.torn h));
      stop_now = λ h2. let h = was h2 in
          stop_behind file.gate (d.shown file.device) (d.shown c.write_block.new.device)
          (d.may_leave file.device) (d.may_leave c.write_block.new.device) file.header.next c.requires
          (omega (arith, (sound_says file.header file.sound).start)) (file.stop_now h)
          (c.write_block.ensures.now h);
      settled = λ _ ne. absurd (ne c.requires);
      shut_reads = λ _ is. absurd (open_is_not_shut file.gate c.requires is);
    }

pub returns-in_err-write_block-clause-gate : goal.returns-in_err-write_block-clause-gate
returns-in_err-write_block-clause-gate g c = let file = c.args.self.now in let d = g.D.BlockDevice in record {
  gate = refl;
  honest = c.write_block.ensures.honest;
  version = λ h. refl;
  blocks = λ h ne. absurd (ne c.requires);
  stops = λ h. adds_behind d.moment d.left_since d.recovery file.device c.write_block.new.device file.gate
      (d.shown file.device) (d.may_leave file.device) file.header.next c.requires
      (omega (arith, (sound_says file.header file.sound).start)) (file.stop_now h)
      (c.write_block.ensures.stops h);
}

pub invariant_of-self-2 : goal.invariant_of-self-2
invariant_of-self-2 g c =
    let file = c.args.self.now in let d = g.D.BlockDevice in
    let was : d.honest c.write_block.new.device → d.honest file.device = c.write_block.ensures.honest.1 in
    record {
      sound = more_given file.header file.sound;
      few = omega (arith, c.if-n-ge-MOST_PAGES.false);
      room = λ h2. let h = was h2 in
          omega (
            arith,
            ap length (c.in_ok-write_block.ensures.written h),
            within_written file.header.next c.zero_block.result (d.shown file.device) (file.room h),
          );
      stop_now = λ h2. let h = was h2 in
          stop_behind file.gate (d.shown file.device) (d.shown c.write_block.new.device)
          (d.may_leave file.device) (d.may_leave c.write_block.new.device) file.header.next c.requires
          (omega (arith, (sound_says file.header file.sound).start)) (file.stop_now h)
          (c.write_block.ensures.now h);
      settled = λ _ ne. absurd (ne c.requires);
      shut_reads = λ _ is. absurd (open_is_not_shut file.gate c.requires is);
    }

pub returns-clause-gate : goal.returns-clause-gate
returns-clause-gate g c = let file = c.args.self.now in let d = g.D.BlockDevice in record {
  gate = refl;
  honest = c.write_block.ensures.honest;
  version = λ h. refl;
  blocks = λ h ne. absurd (ne c.requires);
  stops = λ h. adds_behind d.moment d.left_since d.recovery file.device c.write_block.new.device file.gate
      (d.shown file.device) (d.may_leave file.device) file.header.next c.requires
      (omega (arith, (sound_says file.header file.sound).start)) (file.stop_now h)
      (c.write_block.ensures.stops h);
}
