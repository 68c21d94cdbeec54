-- The goals of `PageFile::free` that are proved by hand.
use Rattle.std.proofs.Common.{◌≡◌, ◌<◌, ◌≤◌, ◌^◌, ℕ, ap, ◌∙◌, arith, length, refl}
use Rattle.block_device.specs.Device.{block_at}
use Rattle.block_device.specs.Written.{block_at-written}
use Rattle.page_file.specs.Layout.{free_block, kind_of, link_of}
use Rattle.page_file.specs.Gated.{open_is_not_shut}
use Rattle.page_file.specs.Frames.{adds_behind, stop_behind}
use Rattle.page_file.specs.Given.{given_torn}
use Rattle.page_file.specs.Live.{lives, others_same, free_torn, freed_free, freed_others, room_for_one}
use Rattle.page_file.specs.Reading.{free_link, kind_of_free}
use Rattle.page_file.specs.Settled.{more_free, sound_says}
use Rattle.page_file.specs.Written.{torn_longer}
use Rattle.page_file.proofs.file.PageFile.free.Goals as goal
use Rattle.page_file.proofs.file.PageFile.free.Goals.{then-n-lt3-via-then-n-lt3}
use Rattle.page_file.proofs.file.PageFile.free.Goals.{then-n-lt3-via-else-n-lt3+then-n-self}
use Rattle.page_file.proofs.file.PageFile.free.Goals.{then-n-lt3-via-else-n-lt3+else-n-self+then-self}

behind_catalog : (n : ℕ) → 2 ≤ n → ¬ (n ≡ 2) → 3 ≤ n
behind_catalog n low other = grind arith

pub returns-then-n-lt3-clause-faults : goal.returns-then-n-lt3-clause-faults
returns-then-n-lt3-clause-faults g c = λ map live other.
    let file = c.args.self.now in
    let l = lives (g.D.BlockDevice.shown file.device) file.header c.args.n live in
    let low : 3 ≤ c.args.n = behind_catalog c.args.n l.low other in
    let room = room_for_one (g.D.BlockDevice.shown file.device) file.header c.args.n map.free low l in
    elim c.then-n-lt3.branch [
      | then-n-lt3-via-then-n-lt3 w ↦ absurd (omega (arith, w.if-n-lt3.true, low))
      | then-n-lt3-via-else-n-lt3+then-n-self w ↦ absurd (omega (arith, w.if-n-self.true, l.below))
      | then-n-lt3-via-else-n-lt3+else-n-self+then-self w ↦ absurd (omega (arith, w.if-self.true, room))
    ]

pub invariant_of-self : goal.invariant_of-self
invariant_of-self g c =
    let file = c.args.self.now in let d = g.D.BlockDevice in
    let was : d.honest c.write_block.new.device → d.honest file.device = c.write_block.ensures.honest.1 in
    record {
      sound = file.sound;
      few = file.few;
      room = λ h2. let h = was h2 in
          omega (arith, file.room h, torn_longer _ _ _ (c.write_block.ensures.torn h));
      stop_now = λ h2. let h = was h2 in
          stop_behind file.gate (d.shown file.device) (d.shown c.write_block.new.device)
          (d.may_leave file.device) (d.may_leave c.write_block.new.device) c.args.n c.requires
          (omega (arith, c.if-n-lt3.false)) (file.stop_now h) (c.write_block.ensures.now h);
      settled = λ _ ne. absurd (ne c.requires);
      shut_reads = λ _ is. absurd (open_is_not_shut file.gate c.requires is);
    }

pub returns-in_err-write_block-clause-gate : goal.returns-in_err-write_block-clause-gate
returns-in_err-write_block-clause-gate g c = let file = c.args.self.now in let d = g.D.BlockDevice in record {
  gate = refl;
  honest = c.write_block.ensures.honest;
  version = λ h. refl;
  blocks = λ h ne. absurd (ne c.requires);
  stops = λ h. adds_behind d.moment d.left_since d.recovery file.device c.write_block.new.device file.gate
      (d.shown file.device) (d.may_leave file.device) c.args.n c.requires (omega (arith, c.if-n-lt3.false))
      (file.stop_now h) (c.write_block.ensures.stops h);
}

pub returns-in_err-write_block-clause-others : goal.returns-in_err-write_block-clause-others
returns-in_err-write_block-clause-others g c = λ h live. let file = c.args.self.now in
    let d = g.D.BlockDevice in
    let l = lives (d.shown file.device) file.header c.args.n live in
    others_same c.args.n _ _ file.header (c.write_block.ensures.torn h) (omega (arith, l.below, file.room h))
    l.not_free

pub returns-in_err-write_block-clause-sound : goal.returns-in_err-write_block-clause-sound
returns-in_err-write_block-clause-sound g c = λ map live. let file = c.args.self.now in
    let d = g.D.BlockDevice in
    let l = lives (d.shown file.device) file.header c.args.n live in
    record {
      honest = c.write_block.ensures.honest.0 map.honest;
      free = free_torn c.args.n _ _ file.header (c.write_block.ensures.torn map.honest)
          (omega (arith, l.below, file.room map.honest)) l.not_free map.free;
    }

pub invariant_of-self-2 : goal.invariant_of-self-2
invariant_of-self-2 g c =
    let file = c.args.self.now in let d = g.D.BlockDevice in
    let was : d.honest c.write_block.new.device → d.honest file.device = c.write_block.ensures.honest.1 in
    record {
      sound = more_free file.header c.args.n file.sound (omega (arith, c.if-n-lt3.false))
          (omega (arith, c.if-n-lt3.false)) (omega (arith, c.if-n-lt3.false));
      few = file.few;
      room = λ h2. let h = was h2 in
          omega (arith, file.room h, torn_longer _ _ _ (c.write_block.ensures.torn h));
      stop_now = λ h2. let h = was h2 in
          stop_behind file.gate (d.shown file.device) (d.shown c.write_block.new.device)
          (d.may_leave file.device) (d.may_leave c.write_block.new.device) c.args.n c.requires
          (omega (arith, c.if-n-lt3.false)) (file.stop_now h) (c.write_block.ensures.now h);
      settled = λ _ ne. absurd (ne c.requires);
      shut_reads = λ _ is. absurd (open_is_not_shut file.gate c.requires is);
    }

pub returns-clause-gate : goal.returns-clause-gate
returns-clause-gate g c = let file = c.args.self.now in let d = g.D.BlockDevice in record {
  gate = refl;
  honest = c.write_block.ensures.honest;
  version = λ h. refl;
  blocks = λ h ne. absurd (ne c.requires);
  stops = λ h. adds_behind d.moment d.left_since d.recovery file.device c.write_block.new.device file.gate
      (d.shown file.device) (d.may_leave file.device) c.args.n c.requires (omega (arith, c.if-n-lt3.false))
      (file.stop_now h) (c.write_block.ensures.stops h);
}

pub returns-clause-others : goal.returns-clause-others
returns-clause-others g c = λ h live. let file = c.args.self.now in let d = g.D.BlockDevice in
    let l = lives (d.shown file.device) file.header c.args.n live in
    let le : c.args.n ≤ length (d.shown file.device) = omega (arith, l.below, file.room h) in
    let is : block_at c.args.n (d.shown c.write_block.new.device) ≡ free_block file.header.first
    = ap (block_at c.args.n) (c.in_ok-write_block.ensures.written h)
    ∙ block_at-written c.args.n _ (d.shown file.device) le ∙ c.free_page.ensures in
    let small : file.header.first < 2 ^ 32 =
    omega (arith, (sound_says file.header file.sound).first_below, file.few) in
    freed_others c.args.n _ _ file.header (c.write_block.ensures.torn h) le l.not_free
    (omega (arith, c.if-n-lt3.false)) (ap link_of is ∙ free_link file.header.first small)

pub returns-clause-sound : goal.returns-clause-sound
returns-clause-sound g c = λ map live. let file = c.args.self.now in let d = g.D.BlockDevice in
    let h = map.honest in
    let l = lives (d.shown file.device) file.header c.args.n live in
    let le : c.args.n ≤ length (d.shown file.device) = omega (arith, l.below, file.room h) in
    let is : block_at c.args.n (d.shown c.write_block.new.device) ≡ free_block file.header.first
    = ap (block_at c.args.n) (c.in_ok-write_block.ensures.written h)
    ∙ block_at-written c.args.n _ (d.shown file.device) le ∙ c.free_page.ensures in
    let small : file.header.first < 2 ^ 32 =
    omega (arith, (sound_says file.header file.sound).first_below, file.few) in
    record {
      honest = c.write_block.ensures.honest.0 h;
      free = freed_free c.args.n _ _ file.header (c.write_block.ensures.torn h) le l.not_free
          (omega (arith, c.if-n-lt3.false)) (ap link_of is ∙ free_link file.header.first small)
          l.below (ap kind_of is ∙ kind_of_free file.header.first) map.free;
    }

pub returns-in_err-write_block-clause-given_others : goal.returns-in_err-write_block-clause-given_others
returns-in_err-write_block-clause-given_others g c = λ h. let file = c.args.self.now in
    given_torn c.args.n _ _ file.header.next (c.write_block.ensures.torn h) (omega (arith, file.room h))

pub returns-clause-given_others : goal.returns-clause-given_others
returns-clause-given_others g c = λ h. let file = c.args.self.now in
    given_torn c.args.n _ _ file.header.next (c.write_block.ensures.torn h) (omega (arith, file.room h))
