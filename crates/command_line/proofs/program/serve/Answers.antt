-- The words ask for what is done.
use Rattle.std.proofs.Common.{◌≡◌, List, [], inl, inr, refl, subst}
use Rattle.clap.specs.Words.{HasKind, IsAmong, kind_of}
use Rattle.clap.specs.declared.error.Error.{Error}
use Rattle.clap.specs.declared.error.kind.ErrorKind.{ErrorKind}
use Rattle.clap.specs.declared.error.kind.ErrorKind.TheVariants.{OutOfMemory}
use Rattle.program_words.specs.Asking.{asked_of}
use Rattle.command_line.proofs.program.serve.Goals as goal

-- words that are taken fail for want of memory alone
memory_so : (faults : List ErrorKind) (e : Error) → faults ≡ [] → HasKind faults e → kind_of e ≡ OutOfMemory
memory_so faults e none (inl memory) = memory
memory_so faults e none (inr among) = absurd (subst (IsAmong (kind_of e)) none among)

pub returns-in-Ok-clause-status : goal.returns-in-Ok-clause-status
returns-in-Ok-clause-status g c =
    inr (asked_of c.in-Ok.options, c.in-Ok.ensures.asked, c.serve_asked.ensures.status)

pub returns-in-Ok-clause-refused : goal.returns-in-Ok-clause-refused
returns-in-Ok-clause-refused g c = λ faulty. absurd (faulty c.in-Ok.ensures.asked.taken)

pub returns-in-Ok-clause-served : goal.returns-in-Ok-clause-served
returns-in-Ok-clause-served g c =
    λ taken. inr (asked_of c.in-Ok.options, c.in-Ok.ensures.asked, c.serve_asked.ensures.done)

pub returns-in-Err-clause-served : goal.returns-in-Err-clause-served
returns-in-Err-clause-served g c = λ taken.
    let told = c.tell_words.ensures.memory (memory_so _ c.in-Err.error taken c.in-Err.ensures.refused) in
    inl (record {
      begun = record { failed = told.0; unread = refl; unwritten = told.1 };
      told = told.2;
    })
