-- Pages of an answer.
use Rattle.std.proofs.Common.{ℕ, ◌≡◌, ◌<◌, ◌∙◌, ap, List, [], ◌∷◌, ◌++◌, nat_lt, false, cond, arith, refl}
use Rattle.std.proofs.lemmas.Bool.{lt-ltb}
use Rattle.std.proofs.lemmas.Bool.Decides.{nat_tests}
use Rattle.plain_table.specs.declared.boxes.AnyBox.{AnyBox}
use Rattle.c_rows.specs.Parts.{AreAbove, IsAscending, objects_after}

-- an object of an answer
abbrev Row : Type 0
Row = ℕ × AnyBox × ℕ

-- one behind others is above what they are above
above_at : (id : ℕ) (before behind : List Row) (o : Row) → AreAbove id (before ++ o ∷ behind) → id < o.0
above_at id [] behind o h = h.0
above_at id (x ∷ before) behind o h = above_at id before behind o h.1

-- what is above stays
all_stay : (id : ℕ) (objects : List Row) → AreAbove id objects → objects_after id objects ≡ objects
all_stay id [] h = refl
all_stay id (x ∷ objects) h =
    ap (λ b. cond b (x ∷ objects_after id objects) (objects_after id objects)) (lt-ltb id x.0 h.0)
    ∙ ap (λ ys. x ∷ ys) (all_stay id objects h.1)

-- what is not above goes
goes : (id : ℕ) (x : Row) (objects : List Row) → nat_lt id x.0 ≡ false
    → objects_after id (x ∷ objects) ≡ objects_after id objects
goes id x objects fails =
    ap (λ b. cond b (x ∷ objects_after id objects) (objects_after id objects)) fails

pub behind_it : (before behind : List Row) (o : Row) → IsAscending (before ++ o ∷ behind)
    → objects_after o.0 (before ++ o ∷ behind) ≡ behind
behind_it [] behind o h = goes o.0 o behind (grind (arith, nat_tests)) ∙ all_stay o.0 behind h.0
behind_it (x ∷ before) behind o h = let less = above_at x.0 before behind o h.0 in
    let fails : nat_lt o.0 x.0 ≡ false = grind (arith, nat_tests, less) in
    goes o.0 x (before ++ o ∷ behind) fails ∙ behind_it before behind o h.1
