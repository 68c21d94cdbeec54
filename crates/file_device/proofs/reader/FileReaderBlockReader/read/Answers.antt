use Rattle.std.proofs.Common.{◌≡◌, ◌∙◌, ◌<◌, ◌*◌, sym, ap, arith}
use Rattle.file_device.specs.File.{bytes_at}
use Rattle.file_device.specs.Pieces.{block_is, length-blocks}
use Rattle.file_device.proofs.reader.FileReaderBlockReader.read.Goals as goal

pub returns-in-Ok : goal.returns-in-Ok
returns-in-Ok g c = record {
  bytes = λ kept.
      let r = c.args.self.now in
      let file = g.F.SharedFile.bytes r.file in
      let there : c.args.i < r.count = omega (arith, c.requires, length-blocks r.count file) in
      let at : c.from.result * 4096 ≡ 4096 * c.args.i = omega (arith, c.from.ensures) in
      c.in-Ok.ensures kept ∙ ap (λ n. bytes_at n file) at ∙ sym (block_is c.args.i r.count file there);
}
