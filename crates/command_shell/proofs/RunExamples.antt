-- Worked examples of whole runs: what may be said of one, and what may not. No other proof rests on them. A
-- reader is the bytes that it has left, and a writer the bytes that it was given.
use Rattle.std.proofs.Common.{◌≡◌, ◌≤◌, ℕ, List, [], ◌∷◌, ◌++◌, true, false, refl, sym, ap, ◌∙◌, Option, Some}
use Rattle.std.proofs.Common.{codes, length, length-append, get_or, append_assoc, arith, subst, inl, inr}
use Rattle.std.specs.Fmt.{digits}
use Rattle.std.specs.FinMap.{empty}
use Rattle.store_law.specs.Sessions.{SessionState, Session}
use Rattle.block_device.specs.Device.{HasRisen}
use Rattle.store_law.specs.Lawful.{Lawful, LawfulFrom}
use Rattle.store_law.specs.States.{Request, StoreState}
use Rattle.store_law.specs.Laws.{a_bad_line_is_lawful}
use Rattle.store_law.specs.States.Request.{Asks, BadCommand}
use Rattle.store_law.specs.Stops.AfterStop.{Surely}
use Rattle.store_law.specs.States.StoreState.{Alive}
use Rattle.plain_table.specs.Commands.Command.{Dump}
use Rattle.plain_table.specs.Step.{Answer}
use Rattle.plain_table.specs.Step.Answer.{Refused}
use Rattle.plain_table.specs.declared.refusal.Refusal.TheVariants as refusal
use Rattle.command_shell.specs.TextCommands.{AreCommands}
use Rattle.command_shell.specs.TextCommands.AreCommands.{none, one}
use Rattle.command_shell.specs.TextCommands.IsUnfinished.{in_line}
use Rattle.command_language.specs.Lines.{lines_of, IsWhole}
use Rattle.command_language.specs.Lines.IsWhole.{none as nothing, ends}
use Rattle.command_shell.specs.Runs.{Runs}
use Rattle.command_shell.specs.Serving.{BreaksOff, RunState, run_state}
use Rattle.command_shell.specs.TextAnswers.{AnswersText}
use Rattle.reply_texts.specs.Texts.{texts_of}
use Rattle.command_shell.specs.declared.session.RunEnd.TheVariants.{Finished, ReadFault, WriteFault}
use Rattle.command_language.proofs.TextLemmas.{append_none}
use Rattle.command_shell.proofs.Examples.{one_reading}

abbrev Bytes : Type 0
Bytes = List ℕ

-- a run with this unread, and this written so far
abbrev at : SessionState → Bytes → Bytes → RunState
at s unread written = run_state s (Some unread) (Some written)

-- a store with no layer
abbrev fresh : SessionState
fresh = record {
  state = Alive empty;
  stops = record {
    now = Surely empty;
    since = 0;
    so_far = empty ∷ [];
    kept = empty ∷ [];
    kept_so_far = empty ∷ [];
  };
  faults = 0;
}

-- ---- what is a run

a_run_on_no_text : Runs Finished (at fresh (codes "") []) (at fresh [] [])
a_run_on_no_text =
    record {
      text = [];
      requests = [];
      answers = [];
      reads = record { stops = (refl, refl); read = record { more = []; read = refl; so = refl } };
      asked = none;
      lawful = refl;
      written = refl;
    }

-- the last line has no newline, and the comment no reply
a_run_on_two_bad_lines : Runs Finished (at fresh (codes "x\n# y\nz") []) (at fresh [] (codes "fail 24 BadLine\nfail 24 BadLine\n"))
unfolding digits
a_run_on_two_bad_lines = record {
  text = codes "x\n# y\nz";
  requests = BadCommand ∷ BadCommand ∷ [];
  answers = Refused refusal.BadLine ∷ Refused refusal.BadLine ∷ [];
  reads = record { stops = (refl, refl); read = record { more = codes "x\n# y\nz"; read = refl; so = refl } };
  asked = one (BadCommand ∷ []) refl (one [] refl (one (BadCommand ∷ []) refl none));
  lawful = (fresh, a_bad_line_is_lawful fresh, (fresh, a_bad_line_is_lawful fresh, refl));
  written = refl;
}

-- the line that was not read to its newline is not answered
a_run_that_a_read_ended : Runs ReadFault (at fresh (codes "x\ny") []) (at fresh [] (codes "fail 24 BadLine\n"))
unfolding digits
a_run_that_a_read_ended = (
  codes "y",
  in_line (λ e. absurd (omega (arith, e)), tt),
  record {
    text = codes "x\n";
    requests = BadCommand ∷ [];
    answers = Refused refusal.BadLine ∷ [];
    reads = record { stops = ends (codes "x"); read = record { more = codes "x\ny"; read = refl; so = refl } };
    asked = one (BadCommand ∷ []) refl none;
    lawful = (fresh, a_bad_line_is_lawful fresh, refl);
    written = refl;
  },
)

-- the line was answered, and four bytes of its reply were written
a_run_that_a_write_ended : Runs WriteFault (at fresh (codes "x\ny") []) (at fresh (codes "y") (codes "fail"))
unfolding digits
a_run_that_a_write_ended = inl (
  false,
  [],
  record {
    text = codes "x\n";
    requests = BadCommand ∷ [];
    answers = Refused refusal.BadLine ∷ [];
    reads = record { stops = ends (codes "x"); read = record { more = codes "x\n"; read = refl; so = refl } };
    asked = one (BadCommand ∷ []) refl none;
    lawful = (fresh, a_bad_line_is_lawful fresh, refl);
    written =
        record {
          before = [];
          last = Refused refusal.BadLine;
          are = refl;
          shown = 4;
          is_part = omega arith;
          written = refl;
        };
  },
)

-- a flush failed: all that was read to its last newline is answered whole
a_run_that_a_flush_ended : Runs WriteFault (at fresh (codes "x\ny") []) (at fresh [] (codes "fail 24 BadLine\n"))
unfolding digits
a_run_that_a_flush_ended = inr (
  codes "y",
  in_line (λ e. absurd (omega (arith, e)), tt),
  record {
    text = codes "x\n";
    requests = BadCommand ∷ [];
    answers = Refused refusal.BadLine ∷ [];
    reads = record { stops = ends (codes "x"); read = record { more = codes "x\ny"; read = refl; so = refl } };
    asked = one (BadCommand ∷ []) refl none;
    lawful = (fresh, a_bad_line_is_lawful fresh, refl);
    written = refl;
  },
)

-- ---- what is none

nothing_in_front : (xs ys : List ℕ) → [] ≡ xs ++ ys → xs ≡ []
nothing_in_front [] ys e = refl
nothing_in_front (x ∷ xs) ys e = absurd (cc)

no_answers : (s s' : SessionState) (requests : List Request) (answers : List Answer)
    → Session s requests answers s' → requests ≡ [] → (answers ≡ []) × (s' ≡ s)
no_answers s s' [] [] h e = (refl, h)
no_answers s s' [] (a ∷ as') h e = absurd h
no_answers s s' (r ∷ rs) answers h e = absurd (cc)

-- no text gets no reply, and changes nothing
a_run_on_no_text_does_nothing : (s s' : SessionState) (left written : List ℕ)
    → Runs Finished (at s [] []) (at s' left written) → (written ≡ []) × (s' ≡ s)
a_run_on_no_text_does_nothing s s' left written run =
    let more = nothing_in_front run.reads.read.more left run.reads.read.read in
    let text = nothing_in_front run.text [] (sym more ∙ run.reads.read.so) in
    let answered =
    no_answers s s' run.requests run.answers run.lawful
    (one_reading (subst (λ t. AreCommands true (lines_of t) run.requests) text run.asked) none) in
    (run.written ∙ ap texts_of answered.0, answered.1)

-- a bad line has one answer, and changes nothing
one_bad_line : (s s' : SessionState) (answers : List Answer) → Session s (BadCommand ∷ []) answers s'
    → answers ≡ Refused refusal.BadLine ∷ []
one_bad_line s s' [] h = absurd h
one_bad_line s s' (a ∷ []) h = ap (λ x. x ∷ []) h.1.answer.0
one_bad_line s s' (a ∷ b ∷ as') h = absurd h.2

-- a last line without its newline is answered
a_run_answers_its_last_line : (s s' : SessionState) (left written : List ℕ) → Runs Finished (at s (codes "x") []) (at s' left written) → written ≡ codes "fail 24 BadLine\n"
unfolding digits
a_run_answers_its_last_line s s' left written run =
    let more : codes "x" ≡ run.reads.read.more = run.reads.read.read ∙ ap (λ l. run.reads.read.more ++ l) run.reads.stops.1 ∙ append_none _ in
    let text : run.text ≡ codes "x" = sym (append_none run.text) ∙ sym run.reads.read.so ∙ sym more in
    let asked =
    one_reading (subst (λ t. AreCommands true (lines_of t) run.requests) text run.asked)
    (one (BadCommand ∷ []) refl none) in
    run.written
    ∙ ap texts_of
    (one_bad_line s s' run.answers (subst (λ rs. Session s rs run.answers s') asked run.lawful))

some_last : (before : List Answer) (last : Answer) → [] ≡ before ++ last ∷ [] → ⊥
some_last [] last e = absurd (cc)
some_last (a ∷ as') last e = absurd (cc)

-- what broke off was an answer
a_break_has_an_answer : (old new : Option (List ℕ)) → BreaksOff old new [] → ⊥
a_break_has_an_answer old new h = some_last h.before h.last h.are

-- whole lines do not begin in the middle of one
no_whole_front : (line rest : List ℕ) → codes "x" ≡ (line ++ 10 ∷ []) ++ rest → ⊥
no_whole_front [] rest e = absurd (omega (arith, ap (λ t. get_or t 0 0) e))
no_whole_front (b ∷ line) rest e =
    absurd (omega (arith, ap length e, length-append (line ++ 10 ∷ []) rest, length-append line (10 ∷ [])))

whole_front : {text : List ℕ} (rest : List ℕ) → IsWhole text → codes "x" ≡ text ++ rest → text ≡ []
whole_front rest nothing e = refl
whole_front rest (ends line) e = absurd (no_whole_front line rest e)

-- a line without its newline is not answered where a read failed after it
a_read_fault_answers_no_unfinished_line : (s s' : SessionState) (left written : List ℕ) → Runs ReadFault (at s (codes "x") []) (at s' left written) → (written ≡ []) × (s' ≡ s)
a_read_fault_answers_no_unfinished_line s s' left written (unread, part, run) =
    let all : codes "x" ≡ run.text ++ (unread ++ left) = run.reads.read.read ∙ ap (λ m. m ++ left) run.reads.read.so ∙ append_assoc run.text unread left in
    let text = whole_front (unread ++ left) run.reads.stops all in
    let answered =
    no_answers s s' run.requests run.answers run.lawful
    (one_reading (subst (λ t. AreCommands false (lines_of t) run.requests) text run.asked) none) in
    (run.written ∙ ap texts_of answered.0, answered.1)

-- ---- a device without faults

not_risen : (before now : ℕ) → before ≤ now → now ≡ 0 → HasRisen before now → ⊥
not_risen before now grows faultless (inl more) = absurd (omega (arith, more, faultless))
not_risen before now grows faultless (inr most) = absurd (omega (arith, most, faultless))

other_code : (place : ℕ) (xs ys : List ℕ) → xs ≡ ys → (get_or xs place 0 ≡ get_or ys place 0 → ⊥) → ⊥
other_code place xs ys e other = other (ap (λ t. get_or t place 0) e)

-- an empty table's dump is not answered with a fault of the device where it had none
dump_blames_none : (rose : Type 0) (a : Answer) (new : StoreState) → (rose → ⊥) → LawfulFrom rose empty Dump a new → texts_of (a ∷ []) ≡ codes "fail 17 Device\n" → ⊥
unfolding digits
dump_blames_none rose a new unrisen (inl (is, _)) e =
    other_code 0 _ _ (sym (ap (λ x. texts_of (x ∷ [])) is) ∙ e) (λ k. absurd (omega (arith, k)))
dump_blames_none rose (Refused refusal.Memory) new unrisen (inr (inl gave)) e =
    other_code 6 _ _ e (λ k. absurd (omega (arith, k)))
dump_blames_none rose (Refused refusal.Device) new unrisen (inr (inl gave)) e = absurd (unrisen gave.0)
dump_blames_none rose a new unrisen (inr (inl gave)) e = absurd gave.0
dump_blames_none rose a new unrisen (inr (inr (_, inl reopens, _))) e = absurd (cc)
dump_blames_none rose a new unrisen (inr (inr (_, inr changes, _))) e = absurd (changes refl)

one_dump : (s s' : SessionState) (answers : List Answer) → s.state ≡ Alive empty → Session s (Asks Dump ∷ []) answers s' → s'.faults ≡ 0 → texts_of answers ≡ codes "fail 17 Device\n" → ⊥
one_dump s s' [] begins h faultless e = absurd h
one_dump s s' (a ∷ b ∷ as') begins h faultless e = absurd h.2
one_dump s s' (a ∷ []) begins (mid, step, same) faultless e =
    let count = ap (λ (x : SessionState). x.faults) same in
    dump_blames_none (HasRisen s.faults mid.faults) a mid.state
    (not_risen s.faults mid.faults step.faults (sym count ∙ faultless))
    (subst (λ state. Lawful (HasRisen s.faults mid.faults) state (Asks Dump) a mid.state) begins step.answer) e

-- a store in memory blames no device
memory_is_not_blamed : AnswersText (codes "dump") (codes "fail 17 Device\n") → ⊥
memory_is_not_blamed h =
    let asked = one_reading h.asked (one (Asks Dump ∷ []) refl none) in
    one_dump h.lawful.old h.lawful.new h.answers h.lawful.begins
    (subst (λ rs. Session h.lawful.old rs h.answers h.lawful.new) asked h.lawful.lawful) h.faultless
    (sym h.written)

-- nor does a run where the count of faults did not rise
a_run_without_faults_blames_no_device : (s s' : SessionState) (left : List ℕ) → s.state ≡ Alive empty → s'.faults ≡ 0 → Runs Finished (at s (codes "dump") []) (at s' left (codes "fail 17 Device\n")) → ⊥
a_run_without_faults_blames_no_device s s' left begins faultless run =
    let more : codes "dump" ≡ run.reads.read.more = run.reads.read.read ∙ ap (λ l. run.reads.read.more ++ l) run.reads.stops.1 ∙ append_none _ in
    let text : run.text ≡ codes "dump" = sym (append_none run.text) ∙ sym run.reads.read.so ∙ sym more in
    let asked =
    one_reading (subst (λ t. AreCommands true (lines_of t) run.requests) text run.asked)
    (one (Asks Dump ∷ []) refl none) in
    one_dump s s' run.answers begins (subst (λ rs. Session s rs run.answers s') asked run.lawful) faultless
    (sym run.written)
