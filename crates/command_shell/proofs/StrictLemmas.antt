-- A run that may stop at a refused line, one step further.
use Rattle.std.proofs.Common.{◌≡◌, ◌∙◌, ℕ, ◌+◌, Bool, true, false, List, [], ◌∷◌, ◌++◌, length, Option, Some}
use Rattle.std.proofs.Common.{None, Result, Ok, Err, MatchResult, refl, sym, ap, subst, arith, length-append}
use Rattle.std.specs.Prelude.{min}
use Rattle.plain_table.specs.Step.{Answer}
use Rattle.layer_store.specs.Calls.{Calls}
use Rattle.layer_store.specs.declared.store.Store.{Store}
use Rattle.store_law.specs.States.{Request}
use Rattle.command_language.specs.Lines.{IsWhole, lines_of}
use Rattle.command_shell.specs.Runs.{IfOn, StepsTo}
use Rattle.command_shell.specs.Serving.{ServesBy}
use Rattle.command_shell.specs.Strict.{AreTaken, AreTakenAt, AreTakenBefore, Follows, IsStop}
use Rattle.command_shell.specs.Strict.{MakesStep, RunsAs, line_count}
use Rattle.reply_texts.specs.Refused.{most_lines}
use Rattle.command_shell.specs.Strict.{stop_at}
use Rattle.reply_texts.specs.declared.refused.RefusedLine.{RefusedLine}
use Rattle.command_shell.specs.declared.session.LinesEnd.{LinesEnd}
use Rattle.command_shell.specs.declared.session.LinesEnd.TheVariants.{Ran}
use Rattle.command_shell.specs.declared.session.RunEnd.{RunEnd}
use Rattle.command_shell.specs.declared.session.RunEnd.TheVariants.{Finished, ReadFault, WriteFault}
use Rattle.command_shell.specs.declared.session.Stepped.{Stepped}
use Rattle.command_shell.specs.declared.session.Stepped.TheVariants.{On, Last, End}
use Rattle.command_language.proofs.TextLemmas.{lines_of-whole}
use Rattle.command_shell.proofs.SessionLemmas.{Joins, ends_run, serves_more}

-- one answer is that to one request
pub one_request : {D A : Type 0} {m : _} (old new : Store D A m) (rs : List Request) (a : Answer)
    → Calls old new rs (a ∷ []) → (r : Request) × (rs ≡ r ∷ [])
one_request old new [] a h = elim h [ ]
one_request old new (r ∷ []) a h = (r, refl)
one_request old new (r ∷ s ∷ rs) a h = elim h.2 [ ]

-- none of these answers is a refusal, and of those
pub taken_more : (xs ys : List Answer) → AreTaken xs → AreTaken ys → AreTaken (xs ++ ys)
taken_more [] ys p q = q
taken_more (x ∷ xs) ys p q = (p.0, taken_more xs ys p.1 q)

-- of those but perhaps the last
taken_before : (xs ys : List Answer) → AreTaken xs → AreTakenBefore ys → AreTakenBefore (xs ++ ys)
taken_before [] ys p q = q
taken_before (x ∷ []) [] p q = tt
taken_before (x ∷ []) (y ∷ ys) p q = (p.0, q)
taken_before (x ∷ z ∷ xs) ys p q = (p.0, taken_before (z ∷ xs) ys p.1 q)

pub all_but_last : (xs : List Answer) → AreTaken xs → AreTakenBefore xs
all_but_last [] p = tt
all_but_last (x ∷ []) p = tt
all_but_last (x ∷ y ∷ xs) p = (p.0, all_but_last (y ∷ xs) p.1)

taken_at : (end : RunEnd) (xs ys : List Answer) → AreTaken xs → AreTakenAt end ys
    → AreTakenAt end (xs ++ ys)
taken_at Finished xs ys p q = taken_more xs ys p q
taken_at ReadFault xs ys p q = taken_more xs ys p q
taken_at WriteFault xs ys p q = taken_before xs ys p q

-- the lines of a text, and of what follows
count_more : (t u : List ℕ) (taken lines : ℕ) → IsWhole t → taken ≡ line_count t → lines ≡ line_count u
    → min (taken + lines) most_lines ≡ line_count (t ++ u)
count_more t u taken lines whole p q =
    let all : length (lines_of (t ++ u)) ≡ length (lines_of t) + length (lines_of u) =
    ap length (lines_of-whole t u whole) ∙ length-append (lines_of t) (lines_of u) in
    omega (arith, all, p, q)

-- Of a run so far: its text has so many lines, and where it is strict none of them was refused.
pub record Goes (strict : Bool) (taken : ℕ) (So : List Request → List Answer → Type 0) (text : List ℕ)
    (requests : List Request) (answers : List Answer) : Type 0 where
  pub lawful : So requests answers
  pub none_refused : strict ≡ true → AreTaken answers
  pub count : taken ≡ line_count text

-- what holds of requests and answers, and of the next ones, holds of both
abbrev pub JoinsCalls : (List Request → List Answer → Type 0) → (List Request → List Answer → Type 0)
    → (List Request → List Answer → Type 0) → Type 0
JoinsCalls P Q So = (rs ss : List Request) (xs ys : List Answer) → P rs xs → Q ss ys
    → So (rs ++ ss) (xs ++ ys)

module _ (P Q So : List Request → List Answer → Type 0) (joins : JoinsCalls P Q So) (taken : ℕ) where
  -- a step after which the run goes on
  goes_on : (strict : Bool) (lines : ℕ) (refused : Option RefusedLine)
      → ((text : List ℕ) (rs : List Request) (xs : List Answer) → strict ≡ true
      → MakesStep Q (On lines refused) text rs xs → AreTaken xs)
      → Joins (Goes strict taken P) (MakesStep Q (On lines refused))
      (Goes strict (min (taken + lines) most_lines) So)
  goes_on strict lines refused none t u rs ss xs ys whole asked p q = record {
    lawful = joins rs ss xs ys p.lawful q.lawful;
    none_refused = λ is. taken_more xs ys (p.none_refused is) (none u ss ys is q);
    count = count_more t u taken lines whole p.count q.notes.0;
  }

  -- one that ends the run where it does not stop
  ends_so : (strict : Bool) (step : Stepped) (end : RunEnd)
      → ((text : List ℕ) (rs : List Request) (xs : List Answer) → strict ≡ true → MakesStep Q step text rs xs
      → AreTakenAt end xs)
      → Joins (Goes strict taken P) (MakesStep Q step)
      (λ text rs xs. So rs xs × (strict ≡ true → AreTakenAt end xs))
  ends_so strict step end none t u rs ss xs ys whole asked p q =
      (joins rs ss xs ys p.lawful q.lawful, λ is. taken_at end xs ys (p.none_refused is) (none u ss ys is q))

  -- one whose command was refused, at which a strict run stops
  stops_on : (lines : ℕ) (it : RefusedLine)
      → Joins (Goes true taken P) (MakesStep Q (On lines (Some it)))
      (λ text rs xs. So rs xs × IsStop (stop_at taken it) text rs xs)
  stops_on lines it t u rs ss xs ys whole asked p q = (
    joins rs ss xs ys p.lawful q.lawful,
    record {
      before = t;
      last = u;
      text_is = refl;
      whole = whole;
      earlier = rs;
      asked = asked;
      taken = xs;
      are_taken = p.none_refused refl;
      last_request = ss;
      last_answer = ys;
      refused = q.notes.1;
      requests_are = refl;
      answers_are = refl;
      line_is = let count = p.count in omega (arith, count);
    },
  )

  stops_last : (it : RefusedLine)
      → Joins (Goes true taken P) (MakesStep Q (Last (Some it)))
      (λ text rs xs. So rs xs × IsStop (stop_at taken it) text rs xs)
  stops_last it t u rs ss xs ys whole asked p q = (
    joins rs ss xs ys p.lawful q.lawful,
    record {
      before = t;
      last = u;
      text_is = refl;
      whole = whole;
      earlier = rs;
      asked = asked;
      taken = xs;
      are_taken = p.none_refused refl;
      last_request = ss;
      last_answer = ys;
      refused = q.notes;
      requests_are = refl;
      answers_are = refl;
      line_is = let count = p.count in omega (arith, count);
    },
  )

  -- a step, and what follows of it
  module _ (r r1 r2 w w1 w2 : Option (List ℕ)) (mid left : List ℕ) where
    abbrev FollowsSo : Bool → Result ℕ LinesEnd → Type 0
    FollowsSo strict next =
        MatchResult next (λ more. ServesBy (Goes strict more So) false true r r2 w w2 [] left)
        (λ end. RunsAs strict So end r r2 w w2)

    pub step_follows : (strict : Bool) (step : Stepped) (next : Result ℕ LinesEnd)
        → Follows strict taken step next → ServesBy (Goes strict taken P) false true r r1 w w1 [] mid
        → StepsTo (MakesStep Q step) step r1 r2 w1 w2 mid left → FollowsSo strict next
    step_follows strict (On lines None) next e p q =
        subst (FollowsSo strict) (sym e)
        (serves_more _ _ _ (goes_on strict lines None (λ text rs xs is m. m.notes.1)) false true r r1 r2 w w1
        w2 [] mid left p q)
    step_follows false (On lines (Some it)) next e p q =
        subst (FollowsSo false) (sym e)
        (serves_more _ _ _ (goes_on false lines (Some it) (λ text rs xs is m. absurd (cc))) false true r r1 r2
        w w1 w2 [] mid left p q)
    step_follows true (On lines (Some it)) next e p q =
        subst (FollowsSo true) (sym e) (
          refl,
          (
            false,
            left,
            serves_more _ _ _ (stops_on lines it) false true r r1 r2 w w1 w2 [] mid left p q,
          ),
        )
    step_follows strict (Last None) next e p q =
        subst (FollowsSo strict) (sym e)
        (serves_more _ _ _ (ends_so strict (Last None) Finished (λ text rs xs is m. m.notes)) true true r r1
        r2 w w1 w2 [] mid [] p q)
    step_follows false (Last (Some it)) next e p q =
        subst (FollowsSo false) (sym e)
        (serves_more _ _ _ (ends_so false (Last (Some it)) Finished (λ text rs xs is m. absurd (cc))) true
        true r r1 r2 w w1 w2 [] mid [] p q)
    step_follows true (Last (Some it)) next e p q =
        subst (FollowsSo true) (sym e)
        (refl, (true, [], serves_more _ _ _ (stops_last it) true true r r1 r2 w w1 w2 [] mid [] p q))
    step_follows strict (End end) next e p q =
        subst (FollowsSo strict) (sym e)
        (ends_run _ _ _ (ends_so strict (End end) end (λ text rs xs is m. m.notes)) r r1 r2 w w1 w2 [] mid p
        end q)

-- the run goes on after a step after which it may
pub goes_on_so : (strict : Bool) (taken : ℕ) (step : Stepped) (more : ℕ) (X : Type 0)
    → Follows strict taken step (Ok more) → IfOn step X → X
goes_on_so strict taken (On lines None) more X e h = h
goes_on_so strict taken (On lines (Some it)) more X e h = h
goes_on_so strict taken (Last None) more X e h = absurd (cc)
goes_on_so strict taken (Last (Some it)) more X e h = absurd (cc)
goes_on_so strict taken (End end) more X e h = absurd (cc)

-- it ends so only after a step that ended so
pub ends_as_step : (strict : Bool) (taken : ℕ) (step : Stepped)
    → Follows strict taken step (Err (Ran ReadFault)) → step ≡ End ReadFault
ends_as_step strict taken (On lines None) e = absurd (cc)
ends_as_step false taken (On lines (Some it)) e = absurd (cc)
ends_as_step true taken (On lines (Some it)) e = absurd (cc)
ends_as_step strict taken (Last None) e = absurd (cc)
ends_as_step false taken (Last (Some it)) e = absurd (cc)
ends_as_step true taken (Last (Some it)) e = absurd (cc)
ends_as_step strict taken (End Finished) e = absurd (cc)
ends_as_step strict taken (End ReadFault) e = refl
ends_as_step strict taken (End WriteFault) e = absurd (cc)
