-- A store in memory has no fault.
use Rattle.std.proofs.Common.{refl}
use Rattle.command_line.proofs.Starts.{begun_or_answered}
use Rattle.command_line.proofs.program.serve_memory.Goals as goal

pub returns-clause-answered : goal.returns-clause-answered
returns-clause-answered g c =
    begun_or_answered _ _ _ _ _ _ _ _ _ c.serve_new.result (c.serve_new.ensures.serves c.new.ensures.honest) refl
