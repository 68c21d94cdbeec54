-- A run, one command further.
use Rattle.std.proofs.Common.{◌≡◌, ℕ, Bool, true, false, List, [], ◌∷◌, ◌++◌, take, Option, Some, None}
use Rattle.std.proofs.Common.{Result, Ok, Err, MatchResult, refl, sym, ap, ◌∙◌, subst, append_assoc, inl, inr}
use Rattle.std.proofs.Common.{⊎_elim, arith, length}
use Rattle.std.specs.Io.KnownBytes.{Appends, Keeps}
use Rattle.std.proofs.lemmas.List.Concat.{flat_map-append}
use Rattle.store_law.specs.States.{Request}
use Rattle.plain_table.specs.Step.{Answer}
use Rattle.plain_table.specs.Step.Answer.{Refused}
use Rattle.plain_table.specs.declared.refusal.Refusal.{Refusal}
use Rattle.command_shell.specs.Answering.{AnswersLine}
use Rattle.command_shell.specs.TextCommands.{AreCommands, AsksAlone, IsUnfinished}
use Rattle.command_shell.specs.TextCommands.AreCommands.{load, none, one, short}
use Rattle.command_language.specs.Lines.{IsWhole, lines_of}
use Rattle.command_language.specs.Meanings.{Meaning, meaning_of}
use Rattle.command_language.specs.Meanings.Meaning.{Blank}
use Rattle.command_language.specs.Reading.{Reads}
use Rattle.command_shell.specs.Runs.{AnswersAllLines, BreaksOffAnswer, IfOn, RunsFrom, StepsTo}
use Rattle.command_shell.specs.Serving.{ServesBy, Wrote, WroteAs}
use Rattle.reply_texts.specs.Texts.{answer_text, texts_of}
use Rattle.reply_texts.specs.Refused.{IsFrontOf}
use Rattle.command_shell.specs.Strict.{IsRefusedCommand, MakesStep, Notes, NotesStep, TellsCalls}
use Rattle.command_shell.specs.Strict.{TellsRefusal, line_count, step_of}
use Rattle.reply_texts.specs.declared.refused.LineFront.{LineFront}
use Rattle.reply_texts.specs.declared.refused.RefusedLine.{RefusedLine}
use Rattle.command_shell.specs.declared.session.RunEnd.{RunEnd}
use Rattle.command_shell.specs.declared.session.RunEnd.TheVariants.{Finished, ReadFault, WriteFault}
use Rattle.command_shell.specs.declared.session.Stepped.{Stepped}
use Rattle.command_shell.specs.declared.session.Stepped.TheVariants.{On, Last, End}
use Rattle.command_language.proofs.TextLemmas.{append_none, lines_of-whole}
use Rattle.command_shell.proofs.CommandLemmas.{commands_more, asks_line}
use Rattle.command_language.proofs.ReadLemmas.{reads_more}
use Rattle.reply_texts.proofs.WriteLemmas.{appends_more}

pub appends_none : (a : Option (List ℕ)) → Appends a a []
appends_none None = tt
appends_none (Some a) = sym (append_none a)

appends_kept : (a b c : Option (List ℕ)) (text : List ℕ) → Appends a b text → Keeps b c → Appends a c text
appends_kept None b c text h k = tt
appends_kept (Some a) None c text h k = elim h [ ]
appends_kept (Some a) (Some b) None text h k = elim k [ ]
appends_kept (Some a) (Some b) (Some c) text h k = k ∙ h

wrote_kept : (whole : Bool) (a b c : Option (List ℕ)) (answers : List Answer) → Wrote whole a b answers
    → Keeps b c → Wrote whole a c answers
wrote_kept true a b c answers h k = appends_kept a b c (texts_of answers) h k
wrote_kept false a b c answers h k =
    record {
      before = h.before;
      last = h.last;
      are = h.are;
      shown = h.shown;
      is_part = h.is_part;
      written = appends_kept a b c (texts_of h.before ++ take h.shown (answer_text h.last)) h.written k;
    }

-- whole answers, and then answers that may break off
wrote_more : (whole : Bool) (a b c : Option (List ℕ)) (x y : List Answer) → Appends a b (texts_of x)
    → Wrote whole b c y → Wrote whole a c (x ++ y)
wrote_more true a b c x y p q =
    rw (flat_map-append answer_text x y) (appends_more a b c (texts_of x) (texts_of y) p q)
wrote_more false a b c x y p q = record {
  before = x ++ q.before;
  last = q.last;
  are = ap (λ t. x ++ t) q.are ∙ sym (append_assoc x q.before (q.last ∷ []));
  shown = q.shown;
  is_part = q.is_part;
  written =
      subst (Appends a c)
      (sym (append_assoc (texts_of x) (texts_of q.before) _)
      ∙ ap (λ t. t ++ take q.shown (answer_text q.last)) (sym (flat_map-append answer_text x q.before)))
      (appends_more a b c (texts_of x) _ p q.written);
}

-- what a step must show to go on need not be shown where it ends
pub fewer_after : {E : Type 0} (written : Result (Option Refusal) E) (step : Stepped) (ended : Bool)
    (lines : ℕ) (front : LineFront) (X : Type 0)
    → MatchResult written (λ r. step ≡ step_of ended lines front r) (λ _. step ≡ End WriteFault)
    → (ended ≡ false → X) → IfOn step X
fewer_after (Ok r) step true lines front X e f = subst (λ o. IfOn o X) (sym e) tt
fewer_after (Ok r) step false lines front X e f = subst (λ o. IfOn o X) (sym e) (f refl)
fewer_after (Err x) step ended lines front X e f = subst (λ o. IfOn o X) (sym e) tt

-- nothing was asked
pub serves_none : (So : List ℕ → List Request → List Answer → Type 0) → So [] [] []
    → (ended : Bool) (r r' w : Option (List ℕ)) (pending left : List ℕ) → Reads ended r r' pending left []
    → ServesBy So ended true r r' w w pending left
serves_none So empty ended r r' w pending left h =
    record {
      text = [];
      requests = [];
      answers = [];
      reads = h;
      asked = none;
      lawful = empty;
      written = appends_none w;
    }

-- and the writer was flushed
pub serves_kept : (So : List ℕ → List Request → List Answer → Type 0) (ended whole : Bool)
    (r r' w w' flushed : Option (List ℕ)) (pending left : List ℕ)
    → ServesBy So ended whole r r' w w' pending left → Keeps w' flushed
    → ServesBy So ended whole r r' w flushed pending left
serves_kept So ended whole r r' w w' flushed pending left h k =
    record {
      text = h.text;
      requests = h.requests;
      answers = h.answers;
      reads = h.reads;
      asked = h.asked;
      lawful = h.lawful;
      written = wrote_kept whole w w' flushed h.answers h.written k;
    }

-- what follows of a text, its requests and its answers
pub serves_so : (So Also : List ℕ → List Request → List Answer → Type 0)
    → ((text : List ℕ) (rs : List Request) (as' : List Answer) → So text rs as' → Also text rs as')
    → (ended whole : Bool) (r r' w w' : Option (List ℕ)) (pending left : List ℕ)
    → ServesBy So ended whole r r' w w' pending left → ServesBy Also ended whole r r' w w' pending left
serves_so So Also f ended whole r r' w w' pending left h =
    record {
      text = h.text;
      requests = h.requests;
      answers = h.answers;
      reads = h.reads;
      asked = h.asked;
      lawful = f h.text h.requests h.answers h.lawful;
      written = h.written;
    }

-- what holds of one stretch of whole commands and of the next one holds of both
abbrev pub Joins : (List ℕ → List Request → List Answer → Type 0)
    → (List ℕ → List Request → List Answer → Type 0) → (List ℕ → List Request → List Answer → Type 0)
    → Type 0
Joins P Q So = (t u : List ℕ) (rs ss : List Request) (xs ys : List Answer) → IsWhole t
    → AreCommands false (lines_of t) rs → P t rs xs → Q u ss ys → So (t ++ u) (rs ++ ss) (xs ++ ys)

-- whole commands, and then a part of a run
pub serves_more : (P Q So : List ℕ → List Request → List Answer → Type 0) → Joins P Q So
    → (ended whole : Bool) (r r1 r2 w w1 w2 : Option (List ℕ)) (pending left next : List ℕ)
    → ServesBy P false true r r1 w w1 pending left → ServesBy Q ended whole r1 r2 w1 w2 left next
    → ServesBy So ended whole r r2 w w2 pending next
serves_more P Q So joins ended whole r r1 r2 w w1 w2 pending left next p q = record {
  text = p.text ++ q.text;
  requests = p.requests ++ q.requests;
  answers = p.answers ++ q.answers;
  reads = reads_more ended r r1 r2 pending left next p.text q.text p.reads q.reads;
  asked = subst (λ ls. AreCommands ended ls (p.requests ++ q.requests))
      (sym (lines_of-whole p.text q.text p.reads.stops)) (commands_more p.asked q.asked);
  lawful = joins p.text q.text p.requests q.requests p.answers q.answers p.reads.stops p.asked p.lawful
      q.lawful;
  written = wrote_more whole w w1 w2 p.answers q.answers p.written q.written;
}

-- whole commands, and then the rest of a run
pub ends_run : (P Q So : List ℕ → List Request → List Answer → Type 0) → Joins P Q So
    → (r r1 r2 w w1 w2 : Option (List ℕ)) (pending left : List ℕ)
    → ServesBy P false true r r1 w w1 pending left → (end : RunEnd) → RunsFrom Q end r1 r2 w1 w2 left
    → RunsFrom So end r r2 w w2 pending
ends_run P Q So joins r r1 r2 w w1 w2 pending left p Finished h =
    serves_more P Q So joins true true r r1 r2 w w1 w2 pending left [] p h
ends_run P Q So joins r r1 r2 w w1 w2 pending left p ReadFault h =
    (h.0, h.1, serves_more P Q So joins false true r r1 r2 w w1 w2 pending left h.0 p h.2)
ends_run P Q So joins r r1 r2 w w1 w2 pending left p WriteFault h = ⊎_elim
    (λ (q : BreaksOffAnswer Q r1 r2 w1 w2 left). inl
    (q.0, q.1, serves_more P Q So joins q.0 false r r1 r2 w w1 w2 pending left q.1 p q.2))
    (λ (q : AnswersAllLines Q r1 r2 w1 w2 left). inr
    (q.0, q.1, serves_more P Q So joins false true r r1 r2 w w1 w2 pending left q.0 p q.2))
    h

-- a run after which the writer was flushed
pub runs_kept : (So : List ℕ → List Request → List Answer → Type 0) (end : RunEnd)
    (r r' w w' flushed : Option (List ℕ)) → RunsFrom So end r r' w w' [] → Keeps w' flushed
    → RunsFrom So end r r' w flushed []
runs_kept So Finished r r' w w' flushed h k = serves_kept So true true r r' w w' flushed [] [] h k
runs_kept So ReadFault r r' w w' flushed h k =
    (h.0, h.1, serves_kept So false true r r' w w' flushed [] h.0 h.2 k)
runs_kept So WriteFault r r' w w' flushed h k = ⊎_elim
    (λ (q : BreaksOffAnswer So r r' w w' []). inl
    (q.0, q.1, serves_kept So q.0 false r r' w w' flushed [] q.1 q.2 k))
    (λ (q : AnswersAllLines So r r' w w' []). inr
    (q.0, q.1, serves_kept So false true r r' w w' flushed [] q.0 q.2 k))
    h

-- what follows of the text, the requests and the answers of a run
pub runs_so : (So Also : List ℕ → List Request → List Answer → Type 0)
    → ((text : List ℕ) (rs : List Request) (as' : List Answer) → So text rs as' → Also text rs as')
    → (end : RunEnd) (r r' w w' : Option (List ℕ)) → RunsFrom So end r r' w w' []
    → RunsFrom Also end r r' w w' []
runs_so So Also f Finished r r' w w' h = serves_so So Also f true true r r' w w' [] [] h
runs_so So Also f ReadFault r r' w w' h = (h.0, h.1, serves_so So Also f false true r r' w w' [] h.0 h.2)
runs_so So Also f WriteFault r r' w w' (inl q) =
    inl (q.0, q.1, serves_so So Also f q.0 false r r' w w' [] q.1 q.2)
runs_so So Also f WriteFault r r' w w' (inr q) =
    inr (q.0, q.1, serves_so So Also f false true r r' w w' [] q.0 q.2)

-- the text, the requests and the answers of a run
pub record Served (So : List ℕ → List Request → List Answer → Type 0) : Type 0 where
  pub text : List ℕ
  pub requests : List Request
  pub answers : List Answer
  pub lawful : So text requests answers

served : (So : List ℕ → List Request → List Answer → Type 0) (ended whole : Bool)
    (r r' w w' : Option (List ℕ)) (pending left : List ℕ)
    → ServesBy So ended whole r r' w w' pending left → Served So
served So ended whole r r' w w' pending left h =
    record { text = h.text; requests = h.requests; answers = h.answers; lawful = h.lawful }

pub served_by : (So : List ℕ → List Request → List Answer → Type 0) (end : RunEnd)
    (r r' w w' : Option (List ℕ)) → RunsFrom So end r r' w w' [] → Served So
served_by So Finished r r' w w' h = served So true true r r' w w' [] [] h
served_by So ReadFault r r' w w' h = served So false true r r' w w' [] h.0 h.2
served_by So WriteFault r r' w w' (inl h) = served So h.0 false r r' w w' [] h.1 h.2
served_by So WriteFault r r' w w' (inr h) = served So false true r r' w w' [] h.0 h.2

-- of one more fact of those requests and answers
pub serves_with : {X : Type 0} (So : List ℕ → List Request → List Answer → Type 0)
    (Also : X → List ℕ → List Request → List Answer → Type 0) (ended whole : Bool)
    (r r' w w' : Option (List ℕ)) (pending left : List ℕ)
    → ServesBy So ended whole r r' w w' pending left
    → ((text : List ℕ) (rs : List Request) (as' : List Answer) → So text rs as'
    → (x : X) × Also x text rs as')
    → (x : X) × ServesBy (Also x) ended whole r r' w w' pending left
serves_with So Also ended whole r r' w w' pending left h f =
    let more = f h.text h.requests h.answers h.lawful in (
      more.0,
      record {
        text = h.text;
        requests = h.requests;
        answers = h.answers;
        reads = h.reads;
        asked = h.asked;
        lawful = more.1;
        written = h.written;
      },
    )

pub runs_with : {X : Type 0} (So : List ℕ → List Request → List Answer → Type 0)
    (Also : X → List ℕ → List Request → List Answer → Type 0) (end : RunEnd) (r r' w w' : Option (List ℕ))
    → RunsFrom So end r r' w w' []
    → ((text : List ℕ) (rs : List Request) (as' : List Answer) → So text rs as'
    → (x : X) × Also x text rs as')
    → (x : X) × RunsFrom (Also x) end r r' w w' []
runs_with So Also Finished r r' w w' h f = serves_with So Also true true r r' w w' [] [] h f
runs_with So Also ReadFault r r' w w' h f =
    let more = serves_with So Also false true r r' w w' [] h.0 h.2 f in (more.0, (h.0, h.1, more.1))
runs_with So Also WriteFault r r' w w' (inl h) f =
    let more = serves_with So Also h.0 false r r' w w' [] h.1 h.2 f in (more.0, inl (h.0, h.1, more.1))
runs_with So Also WriteFault r r' w w' (inr h) f =
    let more = serves_with So Also false true r r' w w' [] h.0 h.2 f in (more.0, inr (h.0, h.1, more.1))

-- a text was taken, and its commands answered
serves : (So : List ℕ → List Request → List Answer → Type 0) (ended whole : Bool)
    (r r' w w' : Option (List ℕ)) (pending left text : List ℕ) (requests : List Request)
    (answers : List Answer)
    → Reads ended r r' pending left text → AreCommands ended (lines_of text) requests
    → So text requests answers → Wrote whole w w' answers → ServesBy So ended whole r r' w w' pending left
serves So ended whole r r' w w' pending left text requests answers h a l o =
    record {
      text = text;
      requests = requests;
      answers = answers;
      reads = h;
      asked = a;
      lawful = l;
      written = o;
    }

-- where its answer is a refusal, the text is one command, which begins so
abbrev pub IsOneWhereRefused : LineFront → List ℕ → List Request → List Answer → Type 0
IsOneWhereRefused front text requests answers = (refusal : Refusal) → answers ≡ Refused refusal ∷ []
    → IsRefusedCommand (record { refusal = refusal; front = front }) text requests answers

-- so it is a step of a run
module _ (So : List Request → List Answer → Type 0) (r r' w w' : Option (List ℕ))
    (pending left text : List ℕ) (requests : List Request) (answers : List Answer) where
  abbrev StepsSo : Stepped → Type 0
  StepsSo step = StepsTo (MakesStep So step) step r r' w w' pending left

  notes_so : (step : Stepped) → So requests answers → NotesStep step text requests answers
      → MakesStep So step text requests answers
  notes_so step l n = record { lawful = l; notes = n }

  steps_last : (refused : Option RefusedLine) → Reads true r r' pending left text
      → AreCommands true (lines_of text) requests → So requests answers → Wrote true w w' answers
      → Notes refused text requests answers → StepsSo (Last refused)
  steps_last refused h a l o n =
      subst (λ x. ServesBy (MakesStep So (Last refused)) true true r r' w w' pending x) h.stops.0
      (serves (MakesStep So (Last refused)) true true r r' w w' pending left text requests answers h a
      (notes_so (Last refused) l n) o)

  steps_on : (lines : ℕ) (refused : Option RefusedLine) → Reads false r r' pending left text
      → AreCommands false (lines_of text) requests → So requests answers → Wrote true w w' answers
      → lines ≡ line_count text → Notes refused text requests answers → StepsSo (On lines refused)
  steps_on lines refused h a l o count n =
      serves (MakesStep So (On lines refused)) false true r r' w w' pending left text requests answers h a
      (notes_so (On lines refused) l (count, n)) o

  pub steps_after : {E : Type 0} (front : LineFront) (lines : ℕ) (ended : Bool) (step : Stepped)
      (result : Result (Option Refusal) E)
      → MatchResult result (λ o. step ≡ step_of ended lines front o) (λ _. step ≡ End WriteFault)
      → Reads ended r r' pending left text → AreCommands ended (lines_of text) requests
      → So requests answers → WroteAs w w' result answers → TellsRefusal result answers
      → (ended ≡ false → lines ≡ line_count text) → IsOneWhereRefused front text requests answers
      → StepsTo (MakesStep So step) step r r' w w' pending left
  steps_after front lines true step (Ok None) e h a l o tells count refused =
      subst StepsSo (sym e) (steps_last None h a l o tells)
  steps_after front lines true step (Ok (Some q)) e h a l o tells count refused =
      subst StepsSo (sym e)
      (steps_last (Some (record { refusal = q; front = front })) h a l o (refused q tells))
  steps_after front lines false step (Ok None) e h a l o tells count refused =
      subst StepsSo (sym e) (steps_on lines None h a l o (count refl) tells)
  steps_after front lines false step (Ok (Some q)) e h a l o tells count refused =
      subst StepsSo (sym e)
      (steps_on lines (Some (record { refusal = q; front = front })) h a l o (count refl) (refused q tells))
  steps_after front lines ended step (Err x) e h a l o tells count refused =
      subst StepsSo (sym e)
      (inl (
        ended,
        left,
        serves (MakesStep So (End WriteFault)) ended false r r' w w' pending left text requests answers h a
            (notes_so (End WriteFault) l tells) o,
      ))

-- the text ended, or could not be read further, after the last line
pub ends_there : (So : List Request → List Answer → Type 0) → So [] []
    → (r r' w : Option (List ℕ)) (pending left : List ℕ) → Reads true r r' pending [] []
    → StepsTo (MakesStep So (End Finished)) (End Finished) r r' w w pending left
ends_there So empty r r' w pending left h =
    serves_none (MakesStep So (End Finished)) (record { lawful = empty; notes = tt }) true r r' w pending []
    h

pub fails_there : (So : List Request → List Answer → Type 0) → So [] []
    → (r r' w : Option (List ℕ)) (pending left next : List ℕ) → IsUnfinished next
    → Reads false r r' pending next []
    → StepsTo (MakesStep So (End ReadFault)) (End ReadFault) r r' w w pending left
fails_there So empty r r' w pending left next unfinished h = (
  next,
  unfinished,
  serves_none (MakesStep So (End ReadFault)) (record { lawful = empty; notes = tt }) false r r' w pending
      next h,
)

-- requests and answers come in pairs
abbrev pub HasOneRequest : (List Request → List Answer → Type 0) → Type 0
HasOneRequest So = (rs : List Request) (a : Answer) → So rs (a ∷ []) → (r : Request) × (rs ≡ r ∷ [])

-- one line that asks something is not blank
asks_some : (line : List ℕ) (requests : List Request) (request : Request)
    → AreCommands true (line ∷ []) requests → meaning_of line ≡ Blank → requests ≡ request ∷ [] → ⊥
asks_some line _ request (one rs asks none) blank some =
    let nothing : rs ≡ [] = subst (λ x. AsksAlone x rs) blank asks in absurd (cc)
asks_some line _ request (load layer count means enough rest) blank some = absurd (cc)
asks_some line _ request (short layer count means few at_end) blank some = absurd (cc)

-- a line that asks something by itself and was refused is a refused command
line_refused : (So : List Request → List Answer → Type 0) → HasOneRequest So → (front : LineFront)
    (text line : List ℕ) (m : Meaning) (requests : List Request) (answers : List Answer)
    → lines_of text ≡ line ∷ [] → m ≡ meaning_of line → IsFrontOf front line [] → AsksAlone m requests
    → So requests answers → IsOneWhereRefused front text requests answers
line_refused So pairs front text line m requests answers e is front_is asks lawful refusal refused =
    let it = pairs requests (Refused refusal) (subst (λ xs. So requests xs) refused lawful) in
    record {
      line = line;
      entries = [];
      lines_are = e;
      asks = λ blank. asks_some (is ∙ blank) it.0 it.1;
      request = it.0;
      requests_are = it.1;
      answers_are = refused;
      front = front_is;
    }
  where
    asks_some : m ≡ Blank → (request : Request) → requests ≡ request ∷ [] → ⊥
    asks_some blank request some =
        let none : requests ≡ [] = subst (λ x. AsksAlone x requests) blank asks in absurd (cc)

-- so is the last line of a text that was refused
pub last_refused : (So : List Request → List Answer → Type 0) → HasOneRequest So → (front : LineFront)
    (line : List ℕ) (requests : List Request) (answers : List Answer)
    → lines_of line ≡ line ∷ [] → IsFrontOf front line [] → AreCommands true (line ∷ []) requests
    → So requests answers → IsOneWhereRefused front line requests answers
last_refused So pairs front line requests answers e front_is asked lawful refusal refused =
    let it = pairs requests (Refused refusal) (subst (λ xs. So requests xs) refused lawful) in
    record {
      line = line;
      entries = [];
      lines_are = e;
      asks = λ blank. asks_some line requests it.0 asked blank it.1;
      request = it.0;
      requests_are = it.1;
      answers_are = refused;
      front = front_is;
    }

-- one line is one line
one_counted : (text line : List ℕ) → lines_of text ≡ line ∷ [] → 1 ≡ line_count text
one_counted text line e = let one : length (lines_of text) ≡ 1 = ap length e in omega (arith, one)

-- a line was taken, and answered
pub steps_line : {E : Type 0} (So : List Request → List Answer → Type 0) → HasOneRequest So
    → (r r' w w' : Option (List ℕ)) (pending left text line : List ℕ) (m : Meaning) (front : LineFront)
    (ended : Bool) (step : Stepped) (result : Result (Option Refusal) E)
    → MatchResult result (λ o. step ≡ step_of ended 1 front o) (λ _. step ≡ End WriteFault)
    → Reads ended r r' pending left text → lines_of text ≡ line ∷ [] → m ≡ meaning_of line
    → IsFrontOf front line [] → AnswersLine m (TellsCalls result So) w w' result
    → StepsTo (MakesStep So step) step r r' w w' pending left
steps_line So pairs r r' w w' pending left text line m front ended step result e h l k front_is a =
    steps_after So r r' w w' pending left text a.requests a.answers front 1 ended step result e h
    (asks_line text line a.requests l (subst (λ x. AsksAlone x a.requests) k a.asked)) a.lawful.lawful
    a.written a.lawful.tells (λ _. one_counted text line l)
    (line_refused So pairs front text line m a.requests a.answers l k front_is a.asked a.lawful.lawful)
