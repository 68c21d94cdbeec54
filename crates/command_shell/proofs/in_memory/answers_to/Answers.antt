-- A store in memory represents the empty table; a run of it that finished read the whole text.
use Rattle.std.proofs.Common.{◌≡◌, ◌∙◌, ℕ, true, List, [], ◌++◌, sym, ap, subst, append-nil}
use Rattle.layer_store.proofs.StopLemmas.{session_state_is}
use Rattle.command_language.specs.Lines.{lines_of}
use Rattle.command_shell.specs.TextCommands.{AreCommands}
use Rattle.reply_texts.specs.Texts.{texts_of}
use Rattle.command_shell.proofs.in_memory.answers_to.Goals as goal

-- where nothing is left, what was taken is the text
all_read : (xs left more text : List ℕ) → xs ≡ more ++ left → left ≡ [] → more ≡ text ++ [] → text ≡ xs
all_read xs left more text e none so = sym (append-nil text) ∙ sym so ∙ sym (append-nil more)
    ∙ ap (λ (t : List ℕ). more ++ t) (sym none) ∙ sym e

pub returns-in-Finished : goal.returns-in-Finished
returns-in-Finished c =
    let begun = c.in-Ok.ensures.made c.new.ensures.honest in
    let end = c.in-Finished.ensures.session begun.next begun.represents in
    let serves = end.so.0 in
    let reads = serves.reads in
    let same : serves.text ≡ c.args.text.now =
    all_read c.args.text.now c.run-end.new.input.reader.now reads.read.more serves.text
    (sym (ap (λ r. r.now) c.over-input.ensures.inner) ∙ reads.read.read)
    reads.stops.1 reads.read.so in
    record {
      requests = serves.requests;
      answers = serves.answers;
      asked = subst (λ (t : List ℕ). AreCommands true (lines_of t) serves.requests) same serves.asked;
      lawful = record { old = begun.next; new = end.next; begins = begun.so.0; lawful = serves.lawful };
      faultless = (session_state_is c.run-end.new.store end.next end.represents).faults;
      written = serves.written
          ∙ ap (λ (xs : List ℕ). xs ++ texts_of serves.answers) c.new-output.ensures.items;
    }
