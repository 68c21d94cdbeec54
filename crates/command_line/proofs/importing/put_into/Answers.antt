-- A file that was opened, and into which objects were put.
use Rattle.std.proofs.Common.{inr, refl}
use Rattle.command_line.proofs.importing.put_into.Goals as goal

pub returns-in-Ok-clause-imported : goal.returns-in-Ok-clause-imported
returns-in-Ok-clause-imported g c = λ said target.
    inr (
      c.in-Ok.device,
      c.import_device-served.result,
      c.in-Ok.ensures,
      refl,
      record {
        layer = c.args.import.layer.now;
        fanout = c.args.import.fanout;
        target = target;
        few = c.import_device-served.ensures.status;
        imported = c.import_device-served.ensures.imported;
      },
    )
