use Rattle.std.proofs.Common.{sym}
use Rattle.file_device.specs.Pieces.{length-blocks}
use Rattle.file_device.proofs.reader.FileReaderBlockReader.blocks.Goals as goal

pub returns-clause-is : goal.returns-clause-is
returns-clause-is g c = sym (length-blocks c.args.self.now.count (g.F.SharedFile.bytes c.args.self.now.file))
