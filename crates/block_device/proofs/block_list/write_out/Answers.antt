-- One block more is written.
use Rattle.std.proofs.Common.{◌∙◌, ◌-◌, ap, arith, rules}
use Rattle.block_device.specs.Blank.{with_blanks}
use Rattle.block_device.specs.Device.{Blocks}
use Rattle.block_device.proofs.BlankLemmas.{one_written}
use Rattle.block_device.proofs.block_list.write_out.Goals as goal

pub blocks-2-preserved : goal.blocks-2-preserved
blocks-2-preserved g c = (
  ap (λ (bs : Blocks). with_blanks bs (c.blocks-2.blanks - 1)) c.push_reserved.ensures.items
      ∙ one_written c.blocks-2.written.items c.blocks-2.blanks (c.blocks-2.blanks - 1)
      (omega (arith, c.blocks-2.invariant.1, c.blocks-2.invariant.2, c.requires.there, c.blocks-2-test.true))
      ∙ c.blocks-2.invariant.0,
  search rules,
  omega (
    arith,
    c.push_reserved.ensures.len,
    c.blocks-2.invariant.1,
    c.blocks-2.invariant.2,
    c.requires.there,
    c.blocks-2-test.true,
  ),
  search rules,
)
