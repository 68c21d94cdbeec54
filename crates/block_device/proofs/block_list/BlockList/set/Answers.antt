-- What is written is written in the front.
use Rattle.std.proofs.Common.{◌∙◌, ap, arith, replicate, set, sym}
use Rattle.std.proofs.Math.Seq.{set-append_left}
use Rattle.block_device.specs.Blank.{blank}
use Rattle.block_device.specs.Device.{Blocks}
use Rattle.block_device.proofs.block_list.BlockList.set.Goals as goal

pub returns : goal.returns
returns g c =
    sym (set-append_left c.write_out.new.written.items (replicate c.write_out.new.blanks blank) c.args.at
    c.args.bytes.now (omega (arith, c.write_out.ensures.written, c.write_out.new.written.ok.0)))
    ∙ ap (λ (bs : Blocks). set bs c.args.at c.args.bytes.now) (c.write_out.ensures.same ∙ c.self.view_is)
