-- A load: what its lines ask, and a run that is a load further.
use Rattle.std.proofs.Common.{◌≡◌, ◌∙◌, ℕ, ◌<◌, ◌≤◌, ◌+◌, Bool, true, false, List, [], ◌∷◌, ◌++◌, length}
use Rattle.std.proofs.Common.{take, Option, Some, None, Result, Ok, Err, MatchResult, refl, sym, ap, subst}
use Rattle.std.proofs.Common.{append_assoc, inr, arith}
use Rattle.std.proofs.lemmas.List.{drop_all, take_all}
use Rattle.std.specs.Io.KnownBytes.{Appends, Keeps}
use Rattle.std.specs.Prelude.{min}
use Rattle.plain_table.specs.Step.{Answer}
use Rattle.plain_table.specs.declared.refusal.Refusal.{Refusal}
use Rattle.store_law.specs.States.{Request}
use Rattle.store_law.specs.States.Request.{BadCommand}
use Rattle.command_language.specs.Entries.{objects_in}
use Rattle.command_shell.specs.Gathering.{TakesPart}
use Rattle.command_language.specs.Lines.{IsOneLine, lines_of, newline}
use Rattle.command_language.specs.Lines.IsWhole.{none as whole_none, ends}
use Rattle.command_language.specs.Meanings.{meaning_of}
use Rattle.command_language.specs.Meanings.Meaning.{Blank, Loads}
use Rattle.command_language.specs.Reading.{Reads}
use Rattle.command_shell.specs.Runs.{AnswersAllLines, StepsTo}
use Rattle.command_shell.specs.TextCommands.{AreCommands, load_request}
use Rattle.command_shell.specs.TextCommands.AreCommands.{load, none, short}
use Rattle.command_shell.specs.TextCommands.IsUnfinished.{in_load}
use Rattle.reply_texts.specs.Texts.{answer_text, reply_answer}
use Rattle.reply_texts.specs.Writing.{Writes}
use Rattle.reply_texts.specs.declared.replies.Reply.{Reply}
use Rattle.command_shell.specs.Strict.{AreTakenAt, MakesStep, TellsRefusal, line_count}
use Rattle.reply_texts.specs.Refused.{IsFrontOf}
use Rattle.reply_texts.specs.Refused.{most_lines}
use Rattle.command_shell.specs.Strict.{step_of}
use Rattle.reply_texts.specs.declared.refused.LineFront.{LineFront}
use Rattle.command_shell.specs.declared.session.RunEnd.{RunEnd}
use Rattle.command_shell.specs.declared.session.RunEnd.TheVariants.{Finished, ReadFault, WriteFault}
use Rattle.command_shell.specs.declared.session.Stepped.{Stepped}
use Rattle.command_shell.specs.declared.session.Stepped.TheVariants.{End}
use Rattle.command_shell.proofs.AnswerLemmas.{wrote_answer}
use Rattle.command_language.proofs.TextLemmas.{lines_of-line, lines_of-whole}
use Rattle.command_language.proofs.ReadLemmas.{reads_more}
use Rattle.command_shell.proofs.SessionLemmas.{IsOneWhereRefused, serves_kept, serves_none, steps_after}

-- the lines of a load
load_lines : (first text : List ℕ) → IsOneLine first
    → lines_of ((first ++ newline ∷ []) ++ text) ≡ first ∷ lines_of text
load_lines first text one = lines_of-whole (first ++ newline ∷ []) text (ends first)
    ∙ ap (λ ls. ls ++ lines_of text) (lines_of-line first one)

asks_load : (ended : Bool) (first text layer : List ℕ) (count : ℕ) → IsOneLine first
    → meaning_of first ≡ Loads layer count → length (lines_of text) ≡ count
    → AreCommands ended (lines_of ((first ++ newline ∷ []) ++ text))
    (load_request layer (objects_in (lines_of text)) ∷ [])
asks_load ended first text layer count one means all =
    let lines = lines_of text in
    let enough : count ≤ length lines = omega (arith, all) in
    let few : length lines ≤ count = omega (arith, all) in
    let rest =
    subst (λ (ls : List (List ℕ)). AreCommands ended ls []) (sym (drop_all count lines few)) none in
    let asked =
    subst (λ (ls : List (List ℕ)). AreCommands ended (first ∷ lines)
    (load_request layer (objects_in ls) ∷ [])) (take_all count lines few)
    (load layer count means enough rest) in
    subst (λ (ls : List (List ℕ)). AreCommands ended ls (load_request layer (objects_in lines) ∷ []))
    (sym (load_lines first text one)) asked

asks_short : (first text layer : List ℕ) (count : ℕ) → IsOneLine first → meaning_of first ≡ Loads layer count
    → length (lines_of text) < count
    → AreCommands true (lines_of ((first ++ newline ∷ []) ++ text)) (BadCommand ∷ [])
asks_short first text layer count one means few =
    subst (λ (ls : List (List ℕ)). AreCommands true ls (BadCommand ∷ [])) (sym (load_lines first text one))
    (short layer count means few refl)

-- a write after a flush
appends_after : (a b c : Option (List ℕ)) (text : List ℕ) → Keeps a b → Appends b c text → Appends a c text
appends_after None b c text k h = tt
appends_after (Some a) None c text k h = elim k [ ]
appends_after (Some a) (Some b) c text k h = subst (λ (x : List ℕ). Appends (Some x) c text) k h

writes_after : {E T : Type 0} (a b c : Option (List ℕ)) (result : Result T E) (text : List ℕ) → Keeps a b
    → Writes b c result text → Writes a c result text
writes_after a b c (Ok v) text k h = appends_after a b c text k h
writes_after a b c (Err e) text k h = (h.0, h.1, appends_after a b c (take h.0 text) k h.2)

-- a load that was refused is a refused command, and its first line is told
load_refused : (front : LineFront) (first text layer : List ℕ) (count : ℕ) (request : Request)
    (answer : Answer) → IsOneLine first → meaning_of first ≡ Loads layer count → IsFrontOf front first (lines_of text)
    → IsOneWhereRefused front ((first ++ newline ∷ []) ++ text) (request ∷ []) (answer ∷ [])
load_refused front first text layer count request answer one means is refusal refused = record {
  line = first;
  entries = lines_of text;
  lines_are = load_lines first text one;
  asks = λ blank. loads_not_blank (sym means ∙ blank);
  request = request;
  requests_are = refl;
  answers_are = refused;
  front = is;
}
  where
    loads_not_blank : Loads layer count ≡ Blank → ⊥
    loads_not_blank e = absurd (cc)

-- its lines are counted
load_counted : (first text : List ℕ) (count lines : ℕ) → IsOneLine first → length (lines_of text) ≡ count
    → lines ≡ min (count + 1) most_lines → lines ≡ line_count ((first ++ newline ∷ []) ++ text)
load_counted first text count lines one all is =
    let both = ap length (load_lines first text one) in omega (arith, both, all, is)

-- all entry lines were there
pub loads_full : {A E : Type 0} (So : List Request → List Answer → Type 0)
    (r0 r1 r2 w w1 w2 : Option (List ℕ)) (unread mid left first text layer : List ℕ) (count lines : ℕ)
    (front : LineFront) (ended : Bool) (step : Stepped) (result : Result (Option Refusal) E) (reply : Reply A)
    → MatchResult result (λ o. step ≡ step_of ended lines front o) (λ _. step ≡ End WriteFault)
    → lines ≡ min (count + 1) most_lines
    → IsOneLine first → IsFrontOf front first (lines_of text) → meaning_of first ≡ Loads layer count
    → Reads false r0 r1 unread mid (first ++ newline ∷ []) → Reads ended r1 r2 mid left text
    → length (lines_of text) ≡ count → Keeps w w1 → Writes w1 w2 result (answer_text (reply_answer reply))
    → TellsRefusal result (reply_answer reply ∷ [])
    → So (load_request layer (objects_in (lines_of text)) ∷ []) (reply_answer reply ∷ [])
    → StepsTo (MakesStep So step) step r0 r2 w w2 unread left
loads_full So r0 r1 r2 w w1 w2 unread mid left first text layer count lines front ended step result reply e
    is one front_is means p q all kept written tells so =
    steps_after So r0 r2 w w2 unread left ((first ++ newline ∷ []) ++ text)
    (load_request layer (objects_in (lines_of text)) ∷ []) (reply_answer reply ∷ []) front lines ended step
    result e
    (reads_more ended r0 r1 r2 unread mid left (first ++ newline ∷ []) text p q)
    (asks_load ended first text layer count one means all) so
    (wrote_answer (reply_answer reply) w w2 result
    (writes_after w w1 w2 result (answer_text (reply_answer reply)) kept written)) tells
    (λ _. load_counted first text count lines one all is)
    (load_refused front first text layer count _ (reply_answer reply) one means front_is)

-- fewer were there
pub loads_short : {A E : Type 0} (So : List Request → List Answer → Type 0)
    (r0 r1 r2 w w1 w2 : Option (List ℕ)) (unread mid left first text layer : List ℕ) (count lines : ℕ)
    (front : LineFront) (step : Stepped) (result : Result (Option Refusal) E) (reply : Reply A)
    → MatchResult result (λ o. step ≡ step_of true lines front o) (λ _. step ≡ End WriteFault)
    → IsOneLine first → IsFrontOf front first (lines_of text) → meaning_of first ≡ Loads layer count
    → Reads false r0 r1 unread mid (first ++ newline ∷ []) → Reads true r1 r2 mid left text
    → length (lines_of text) < count → Keeps w w1 → Writes w1 w2 result (answer_text (reply_answer reply))
    → TellsRefusal result (reply_answer reply ∷ []) → So (BadCommand ∷ []) (reply_answer reply ∷ [])
    → StepsTo (MakesStep So step) step r0 r2 w w2 unread left
loads_short So r0 r1 r2 w w1 w2 unread mid left first text layer count lines front step result reply e one
    front_is means p q few kept written tells so =
    steps_after So r0 r2 w w2 unread left ((first ++ newline ∷ []) ++ text) (BadCommand ∷ [])
    (reply_answer reply ∷ []) front lines true step result e
    (reads_more true r0 r1 r2 unread mid left (first ++ newline ∷ []) text p q)
    (asks_short first text layer count one means few) so
    (wrote_answer (reply_answer reply) w w2 result
    (writes_after w w1 w2 result (answer_text (reply_answer reply)) kept written)) tells
    (λ more. absurd (cc))
    (load_refused front first text layer count BadCommand (reply_answer reply) one means front_is)

-- the text could not be read further, or a flush failed
pub loads_broken : (So : List Request → List Answer → Type 0) → So [] []
    → (r0 r1 r2 w w1 : Option (List ℕ)) (unread mid left first layer : List ℕ) (count : ℕ) (end : RunEnd)
    → (end ≡ Finished → ⊥)
    → IsOneLine first → meaning_of first ≡ Loads layer count
    → Reads false r0 r1 unread mid (first ++ newline ∷ []) → TakesPart count r1 r2 mid → Keeps w w1
    → StepsTo (MakesStep So (End end)) (End end) r0 r2 w w1 unread left
loads_broken So empty r0 r1 r2 w w1 unread mid left first layer count end going one means p t kept =
    ended end going
  where
    rest : List ℕ
    rest = (first ++ newline ∷ []) ++ (t.entries ++ t.unread)

    not_taken : Reads false r0 r2 unread rest []
    not_taken =
        let h = reads_more false r0 r1 r2 unread mid t.unread (first ++ newline ∷ []) t.entries p t.reads in
        record {
          stops = whole_none;
          read = record {
            more = h.read.more;
            read = h.read.read;
            so = h.read.so ∙ append_assoc (first ++ newline ∷ []) t.entries t.unread;
          };
        }

    unanswered : (e : RunEnd) → AreTakenAt e []
        → AnswersAllLines (MakesStep So (End e)) r0 r2 w w1 unread
    unanswered e clean = (
      rest,
      in_load first t.entries t.unread layer count one means t.reads.stops t.few t.one_line refl,
      serves_kept (MakesStep So (End e)) false true r0 r2 w w w1 unread rest
          (serves_none (MakesStep So (End e)) (record { lawful = empty; notes = clean }) false r0 r2 w unread
          rest not_taken) kept,
    )

    ended : (e : RunEnd) → (e ≡ Finished → ⊥)
        → StepsTo (MakesStep So (End e)) (End e) r0 r2 w w1 unread left
    ended Finished no_end = absurd (no_end refl)
    ended ReadFault no_end = unanswered ReadFault tt
    ended WriteFault no_end = inr (unanswered WriteFault tt)
