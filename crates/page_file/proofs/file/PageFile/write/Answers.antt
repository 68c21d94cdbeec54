-- The goals of `PageFile::write` that are proved by hand.
use Rattle.std.proofs.Common.{◌≡◌, ◌<◌, ◌≤◌, ℕ, List, Some, ap, ◌∙◌, arith, length, refl}
use Rattle.block_device.specs.Device.{block_at, written}
use Rattle.block_device.specs.Written.{block_at-written}
use Rattle.page_file.specs.Gated.{open_is_not_shut}
use Rattle.page_file.specs.Frames.{adds_behind, stop_behind}
use Rattle.page_file.specs.Given.{given_torn, is_given}
use Rattle.page_file.specs.Live.{lives, lives_some, others_same, page_live, free_torn, torn_lives}
use Rattle.page_file.proofs.Results.{on_ok_map}
use Rattle.page_file.specs.Written.{torn_longer}
use Rattle.page_file.proofs.file.PageFile.write.Goals as goal

pub invariant_of-self : goal.invariant_of-self
invariant_of-self g c =
    let file = c.args.self.now in let d = g.D.BlockDevice in
    let was : d.honest c.write_block.new.device → d.honest file.device = c.write_block.ensures.honest.1 in
    record {
      sound = file.sound;
      few = file.few;
      room = λ h2. let h = was h2 in
          omega (arith, file.room h, torn_longer _ _ _ (c.write_block.ensures.torn h));
      stop_now = λ h2. let h = was h2 in
          stop_behind file.gate (d.shown file.device) (d.shown c.write_block.new.device)
          (d.may_leave file.device) (d.may_leave c.write_block.new.device) c.args.n c.requires
          (omega (arith, c.if-n-lt2.false)) (file.stop_now h) (c.write_block.ensures.now h);
      settled = λ _ ne. absurd (ne c.requires);
      shut_reads = λ _ is. absurd (open_is_not_shut file.gate c.requires is);
    }

pub returns-clause-gate : goal.returns-clause-gate
returns-clause-gate g c = let file = c.args.self.now in let d = g.D.BlockDevice in record {
  gate = refl;
  honest = c.write_block.ensures.honest;
  version = λ h. refl;
  blocks = λ h ne. absurd (ne c.requires);
  stops = λ h. adds_behind d.moment d.left_since d.recovery file.device c.write_block.new.device file.gate
      (d.shown file.device) (d.may_leave file.device) c.args.n c.requires (omega (arith, c.if-n-lt2.false))
      (file.stop_now h) (c.write_block.ensures.stops h);
}

pub returns-clause-live : goal.returns-clause-live
returns-clause-live g c = λ h live. let file = c.args.self.now in let d = g.D.BlockDevice in
    let l = lives (d.shown file.device) file.header c.args.n live in
    lives_some _ file.header c.args.n
    (torn_lives c.args.n _ _ file.header (c.write_block.ensures.torn h)
    (omega (arith, l.below, file.room h)) l.not_free l.low l.below)

pub returns-clause-others : goal.returns-clause-others
returns-clause-others g c = λ h live. let file = c.args.self.now in let d = g.D.BlockDevice in
    let l = lives (d.shown file.device) file.header c.args.n live in
    others_same c.args.n _ _ file.header (c.write_block.ensures.torn h) (omega (arith, l.below, file.room h))
    l.not_free

pub returns-clause-written : goal.returns-clause-written
returns-clause-written g c = λ h live. let file = c.args.self.now in let d = g.D.BlockDevice in
    let l = lives (d.shown file.device) file.header c.args.n live in
    let le : c.args.n ≤ length (d.shown file.device) = omega (arith, l.below, file.room h) in
    on_ok_map c.write_block.result
    (λ (w : d.shown c.write_block.new.device ≡ written c.args.n c.args.bytes.now (d.shown file.device)).
    page_live _ file.header c.args.n
    (torn_lives c.args.n _ _ file.header (c.write_block.ensures.torn h) le l.not_free l.low l.below)
    ∙ ap (λ (b : List ℕ). Some b)
    (ap (block_at c.args.n) w ∙ block_at-written c.args.n _ (d.shown file.device) le))
    (c.write_block.ensures.written h)

pub returns-clause-sound : goal.returns-clause-sound
returns-clause-sound g c = λ map live. let file = c.args.self.now in let d = g.D.BlockDevice in
    let l = lives (d.shown file.device) file.header c.args.n live in
    record {
      honest = c.write_block.ensures.honest.0 map.honest;
      free = free_torn c.args.n _ _ file.header (c.write_block.ensures.torn map.honest)
          (omega (arith, l.below, file.room map.honest)) l.not_free map.free;
    }

pub returns-clause-given : goal.returns-clause-given
returns-clause-given g c = λ h. let file = c.args.self.now in let d = g.D.BlockDevice in
    let low : 2 ≤ c.args.n = omega arith in
    let below : c.args.n < file.header.next = omega arith in
    let le : c.args.n ≤ length (d.shown file.device) = omega (arith, below, file.room h) in
    on_ok_map c.write_block.result
    (λ (w : d.shown c.write_block.new.device ≡ written c.args.n c.args.bytes.now (d.shown file.device)).
    is_given (d.shown c.write_block.new.device) file.header.next c.args.n low below
    ∙ ap (λ (b : List ℕ). Some b)
    (ap (block_at c.args.n) w ∙ block_at-written c.args.n _ (d.shown file.device) le))
    (c.write_block.ensures.written h)

pub returns-clause-given_others : goal.returns-clause-given_others
returns-clause-given_others g c = λ h. let file = c.args.self.now in
    given_torn c.args.n _ _ file.header.next (c.write_block.ensures.torn h) (omega (arith, file.room h))
