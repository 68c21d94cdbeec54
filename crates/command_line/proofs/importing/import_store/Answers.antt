-- Objects that were put into a store, or the line that says why there is none.
use Rattle.std.proofs.Common.{Bool, subst, sym}
use Rattle.layer_store.specs.Representation.{device_in}
use Rattle.layer_import.specs.Imports.{HasImported, import_commands}
use Rattle.command_line.proofs.importing.import_store.Goals as goal

pub returns-in-Ok-clause-imported : goal.returns-in-Ok-clause-imported
returns-in-Ok-clause-imported g c = λ t moment.
    let import = c.args.import in
    let imported = c.import_and_close-imported in
    let commands = import_commands t import.layer.now import.dims import.fanout import.objects.items in
    rw c.in-Ok.is (λ begins. record {
      dims = import.dims;
      objects = import.objects.items;
      imported =
          subst (λ (well : Bool). HasImported g.D.BlockDevice moment t commands well (device_in c.in-Ok.store)
          imported.result.device) (sym c.tell_outcome.ensures.is)
          (imported.ensures.imported begins.next t moment begins.represents begins.so.0 begins.so.1);
    })
