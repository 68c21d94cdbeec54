-- Where the first newline stands, and how the bytes of a buffer move.
use Rattle.std.proofs.Common.{◌≡◌, ℕ, suc, add-suc, true, ◌+◌, ◌-◌, ◌<◌, ◌≤◌, ◌==◌, List, [], ◌∷◌, ◌++◌}
use Rattle.std.proofs.Common.{length, take, drop, get_or, Option, Some, None, MatchOption}
use Rattle.std.proofs.Common.{refl, sym, ap, ◌∙◌, arith}
use Rattle.std.proofs.lemmas.Bool.Decides.{nat_tests}
use Rattle.std.proofs.lemmas.List.{take-append-drop, drop-take, drop-drop, get_or-take, take-append-le}
use Rattle.std.proofs.lemmas.List.{length-take-le, length-drop}
use Rattle.std.proofs.Math.Seq.{take-append-add, take-add, drop-cons}
use Rattle.memchr.specs.Find.{IsFirstByte, is_byte}
use Rattle.command_language.specs.Lines.{newline, IsOneLine}
use Rattle.command_language.specs.Reading.{BeginsLine}

-- a newline at no index is no newline
one_line_by_index : (xs : List ℕ) → ((k : ℕ) → k < length xs → get_or xs k 0 ≡ newline → ⊥) → IsOneLine xs
one_line_by_index [] h = tt
one_line_by_index (x ∷ xs) h = (h 0 (omega arith), one_line_by_index xs (λ k lt e. h (suc k) (omega arith) e))

is_newline : (x : ℕ) → (x == newline) ≡ true → x ≡ newline
is_newline x e = grind (arith, nat_tests)

-- what a search for the first newline says
pub newline_found : (xs : List ℕ) (r : Option ℕ) → IsFirstByte (is_byte newline) xs r
    → MatchOption r (IsOneLine xs) (BeginsLine xs)
newline_found xs None h = one_line_by_index xs (λ k lt e. h k (omega arith) lt (ap (λ y. y == newline) e))
newline_found xs (Some n) h = record {
  within = h.0.high;
  line = one_line_by_index (take n xs) (λ k lt e.
      let below : k < n = omega (arith, length-take-le n xs (omega (arith, h.0.high))) in
      h.0.before k (omega arith) below (ap (λ y. y == newline) (sym (get_or-take n xs k 0 below) ∙ e)));
  ends = drop-cons xs n 0 h.0.high ∙ ap (λ y. y ∷ drop (suc n) xs) (is_newline (get_or xs n 0) h.1);
}

pub lines_join : (x y : List ℕ) → IsOneLine x → IsOneLine y → IsOneLine (x ++ y)
lines_join [] y p q = q
lines_join (a ∷ x) y p q = (p.0, lines_join x y p.1 q)

-- no newline in a front, and none in the rest
pub none_later : (xs : List ℕ) (seen : ℕ) → IsOneLine (take seen xs) → IsOneLine (drop seen xs) → IsOneLine xs
none_later xs seen p q = rw take-append-drop at (lines_join (take seen xs) (drop seen xs) p q)

-- no newline in a front, and the first of the rest
pub begins_later : (xs : List ℕ) (seen n : ℕ) → seen ≤ length xs → IsOneLine (take seen xs)
    → BeginsLine (drop seen xs) n → BeginsLine xs (seen + n)
begins_later xs seen n h p q = record {
  within = omega (arith, q.within, length-drop seen xs);
  line = rw take-add (lines_join (take seen xs) (take n (drop seen xs)) p q.line);
  ends = sym (drop-drop n seen xs) ∙ q.ends
      ∙ ap (λ t. newline ∷ t) (drop-drop (suc n) seen xs ∙ ap (λ k. drop k xs) (add-suc seen n));
}

-- what stays after some was taken
pub drop_span : (s e n : ℕ) (xs : List ℕ) → s + n ≤ e
    → take (e - (s + n)) (drop (s + n) xs) ≡ drop n (take (e - s) (drop s xs))
drop_span s e n xs h = let m : e - s ≡ n + (e - (s + n)) = omega arith in
    rw (m, drop-take n (e - (s + n)) (drop s xs), drop-drop) refl

-- what was read stands after what was there
pub filled : (buffer new post : List ℕ) (s e n : ℕ) → s ≡ 0 → e ≤ length buffer → n ≤ length new
    → take (e + n - s) (drop s (take e buffer ++ (new ++ post))) ≡ take (e - s) (drop s buffer) ++ take n new
filled buffer new post s e n z h k =
    let l : length (take e buffer) ≡ e = length-take-le e buffer h in
    let a : e + n - 0 ≡ length (take e buffer) + n = omega (arith, l) in
    let b : e - 0 ≡ e = omega arith in
    rw (z, a, take-append-add (take e buffer) (new ++ post) n, take-append-le n new post k, b) refl
