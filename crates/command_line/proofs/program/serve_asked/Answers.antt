-- Each kind of run is done by a function of its own.
use Rattle.std.proofs.Common.{ℕ, arith, inl, inr, refl, sym}
use Rattle.program_words.specs.Asking.{asked_of}
use Rattle.program_words.specs.Words.{Asked}
use Rattle.program_words.proofs.KindLemmas.{imports_so}
use Rattle.command_line.specs.Asked.{IsStatusFor}
use Rattle.command_line.specs.Running.{IsStatusAs}
use Rattle.command_line.proofs.program.serve_asked.Goals as goal

-- the status of a run that answers lines
status_for : (asked : Asked) (status : ℕ) → IsStatusAs asked.strict status → IsStatusFor asked status
status_for asked status (inl few) = inl (omega (arith, few))
status_for asked status (inr (few, is)) = inr (few, inl is)

pub returns-in-InMemory-clause-status : goal.returns-in-InMemory-clause-status
returns-in-InMemory-clause-status g c = status_for (asked_of c.args.options.now) _ c.serve_memory.ensures.status

pub returns-in-InMemory-clause-done : goal.returns-in-InMemory-clause-done
returns-in-InMemory-clause-done g c = rw (sym c.in-InMemory.ensures) c.serve_memory.ensures.answered

pub returns-in-OfFile-clause-status : goal.returns-in-OfFile-clause-status
returns-in-OfFile-clause-status g c = status_for (asked_of c.args.options.now) _ c.serve_path.ensures.status

pub returns-in-OfFile-clause-done : goal.returns-in-OfFile-clause-done
returns-in-OfFile-clause-done g c =
    rw (sym c.in-OfFile.ensures) (c.in-OfFile.path, refl, c.serve_path.ensures.served)

pub returns-in-OnlyRead-clause-status : goal.returns-in-OnlyRead-clause-status
returns-in-OnlyRead-clause-status g c = status_for (asked_of c.args.options.now) _ c.read_path.ensures.status

pub returns-in-OnlyRead-clause-done : goal.returns-in-OnlyRead-clause-done
returns-in-OnlyRead-clause-done g c =
    rw (sym c.in-OnlyRead.ensures) (c.in-OnlyRead.path, refl, c.read_path.ensures.served)

pub returns-in-Shown-clause-status : goal.returns-in-Shown-clause-status
returns-in-Shown-clause-status g c = inl c.show_path.ensures.status

pub returns-in-Shown-clause-done : goal.returns-in-Shown-clause-done
returns-in-Shown-clause-done g c =
    rw (sym c.in-Shown.ensures) (c.in-Shown.path, refl, refl, c.show_path.ensures.shown)

pub returns-in-Imported-clause-status : goal.returns-in-Imported-clause-status
returns-in-Imported-clause-status g c =
    inr (c.import_path.ensures.status, inr (imports_so _ _ (sym c.in-Imported.ensures)))

pub returns-in-Imported-clause-done : goal.returns-in-Imported-clause-done
returns-in-Imported-clause-done g c =
    rw (sym c.in-Imported.ensures)
    (c.in-Imported.path, refl, c.import_path.ensures.unwritten, c.import_path.ensures.imported)

pub returns-in-Misused-clause-done : goal.returns-in-Misused-clause-done
returns-in-Misused-clause-done g c =
    rw (sym c.in-Misused.ensures) (record { failed = c.tell_misuse.ensures; unread = refl; unwritten = refl })
