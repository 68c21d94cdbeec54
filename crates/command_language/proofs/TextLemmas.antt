-- The lines of texts, one text after another.
use Rattle.std.proofs.Common.{◌≡◌, ◌≢◌, ℕ, ◌<◌, ltb, Bool, true, false, cond, ◌==◌, List, [], ◌∷◌, ◌++◌}
use Rattle.std.proofs.Common.{length, refl, sym, ap, ◌∙◌, arith, append_assoc, subst}
use Rattle.std.proofs.lemmas.Bool.Decides.{nat_tests}
use Rattle.command_language.specs.Lines.{newline, onto_first, lines_of, IsOneLine, IsWhole}
use Rattle.command_language.specs.Lines.IsWhole.{none as whole_none, ends}
use Rattle.command_language.specs.Meanings.{meaning_of}
use Rattle.command_language.specs.Meanings.Meaning.{Bad}

-- there is a line
data Begun : List (List ℕ) → Type 0 where
  begun : {l : List ℕ} {ls : List (List ℕ)} → Begun (l ∷ ls)

begun_onto : (a : ℕ) (ls : List (List ℕ)) → Begun (onto_first a ls)
begun_onto a [] = begun
begun_onto a (l ∷ ls) = begun

onto_append : (a : ℕ) (ls ms : List (List ℕ)) → Begun ls → onto_first a (ls ++ ms) ≡ onto_first a ls ++ ms
onto_append a (l ∷ ls) ms h = refl
onto_append a [] ms h = elim h [ ]

begun_step : (a : ℕ) (ls ms : List (List ℕ)) (b : Bool) → Begun (cond b ([] ∷ ls) (onto_first a ms))
begun_step a ls ms true = begun
begun_step a ls ms false = begun_onto a ms

begun_whole : (x : List ℕ) → Begun (lines_of (x ++ newline ∷ []))
begun_whole [] = begun
begun_whole (a ∷ x) = begun_step a _ _ (a == newline)

whole_step : (a : ℕ) (ls ms ns : List (List ℕ)) → ns ≡ ls ++ ms → Begun ls → (b : Bool)
    → cond b ([] ∷ ns) (onto_first a ns) ≡ cond b ([] ∷ ls) (onto_first a ls) ++ ms
whole_step a ls ms ns e h true = ap (λ t. [] ∷ t) e
whole_step a ls ms ns e h false = ap (onto_first a) e ∙ onto_append a ls ms h

lines_of-ends : (x more : List ℕ)
    → lines_of ((x ++ newline ∷ []) ++ more) ≡ lines_of (x ++ newline ∷ []) ++ lines_of more
lines_of-ends [] more = refl
lines_of-ends (a ∷ x) more =
    whole_step a (lines_of (x ++ newline ∷ [])) (lines_of more) (lines_of ((x ++ newline ∷ []) ++ more))
    (lines_of-ends x more) (begun_whole x) (a == newline)

-- after whole lines the lines go on
pub lines_of-whole : (text more : List ℕ) → IsWhole text
    → lines_of (text ++ more) ≡ lines_of text ++ lines_of more
lines_of-whole text more whole_none = refl
lines_of-whole text more (ends x) = lines_of-ends x more

not_newline : (a : ℕ) → a ≢ newline → (a == newline) ≡ false
not_newline a h = grind (arith, nat_tests)

pub lines_of-line : (line : List ℕ) → IsOneLine line → lines_of (line ++ newline ∷ []) ≡ line ∷ []
lines_of-line [] h = refl
lines_of-line (a ∷ line) h = rw (not_newline a h.0, lines_of-line line h.1) refl

pub lines_of-last : (line : List ℕ) → 0 < length line → IsOneLine line → lines_of line ≡ line ∷ []
lines_of-last [] some h = absurd (omega arith)
lines_of-last (a ∷ []) some h = rw (not_newline a h.0) refl
lines_of-last (a ∷ b ∷ line) some h =
    rw (not_newline a h.0) (ap (onto_first a) (lines_of-last (b ∷ line) (omega arith) h.1))

pub append_none : {X : Type 0} (xs : List X) → xs ++ [] ≡ xs
append_none [] = refl
append_none (x ∷ xs) = ap (λ t. x ∷ t) (append_none xs)

pub whole_more : (text more : List ℕ) → IsWhole text → IsWhole more → IsWhole (text ++ more)
whole_more text more h whole_none = subst IsWhole (sym (append_none text)) h
whole_more text more h (ends x) = subst IsWhole (append_assoc text x (newline ∷ [])) (ends (text ++ x))

-- a line that is too long is bad
pub long_meaning : (line : List ℕ) → 4096 < length line → Bad ≡ meaning_of line
long_meaning line h = let e : ltb 4096 (length line) ≡ true = grind (arith, nat_tests) in rw e refl
