-- A file that was opened, and served.
use Rattle.std.proofs.Common.{inr, refl}
use Rattle.command_line.proofs.program.serve_path.Goals as goal

pub returns-in-Ok-clause-served : goal.returns-in-Ok-clause-served
returns-in-Ok-clause-served g c =
    let served = c.serve_device-served in
    inr (c.in-Ok.device, served.result, c.in-Ok.ensures, refl, served.ensures.served)
