-- Lists of which a part is taken.
use Rattle.std.proofs.Common.{◌≡◌, ◌⊎◌, ⊎_elim, ℕ, zero, suc, ◌+◌, ◌-◌, ◌<◌, ◌≤◌, List, [], ◌∷◌, ◌++◌, length}
use Rattle.std.proofs.Common.{get_or, take, drop, set, insert, remove, refl, sym, ◌∙◌, ap, arith}
use Rattle.std.proofs.lemmas.List.Edits.{length-insert, length-remove}
use Rattle.std.proofs.lemmas.List.{append_assoc, append-nil, drop_all, get_or-drop, length-append}
use Rattle.std.proofs.lemmas.List.{length-drop, length-take-le, take-append-drop, take-append-le, take_all}
use Rattle.std.proofs.lemmas.List.{take_more, take-take}

-- what is appended up to a place, and one more
pub appended_more : {X : Type 0} (xs ys : List X) (from place : ℕ) (none : X) → from ≤ place
    → place < length ys
    → (xs ++ take (place - from) (drop from ys)) ++ get_or ys place none ∷ [] ≡ xs ++ take (place + 1 - from)
    (drop from ys)
appended_more {X} xs ys from place none le lt =
    let n : ℕ = place - from in
    let there : from + n ≡ place = omega arith in
    let on : n + 1 ≡ place + 1 - from = omega arith in
    let long = length-drop from ys in
    let more : take (n + 1) (drop from ys) ≡ take n (drop from ys) ++ get_or (drop from ys) n none ∷ [] =
    take_more (drop from ys) n none (omega (arith, long)) in
    let last : get_or (drop from ys) n none ≡ get_or ys place none = get_or-drop from ys n none
    ∙ ap (λ (i : ℕ). get_or ys i none) there in
    append_assoc xs (take n (drop from ys)) (get_or ys place none ∷ [])
    ∙ ap (λ (zs : List X). xs ++ zs) (ap (λ (y : X). take n (drop from ys) ++ y ∷ []) (sym last) ∙ sym more)
    ∙ ap (λ (i : ℕ). xs ++ take i (drop from ys)) on

pub appended_all : {X : Type 0} (xs ys : List X) (from place : ℕ) → place ≡ length ys
    → xs ++ take (place - from) (drop from ys) ≡ xs ++ drop from ys
appended_all {X} xs ys from place all = let long = length-drop from ys in
    ap (λ (zs : List X). xs ++ zs) (take_all (place - from) (drop from ys) (omega (arith, long, all)))

pub appended_none : {X : Type 0} (xs ys : List X) (from : ℕ) → xs ≡ xs ++ take (from - from) (drop from ys)
appended_none {X} xs ys from = let none : 0 ≡ from - from = omega arith in sym (append-nil xs)
    ∙ ap (λ (i : ℕ). xs ++ take i (drop from ys)) none

-- of the first ones, all but the last
pub taken_less : {X : Type 0} (xs : List X) (n : ℕ) → n < length xs
    → take (length (take (n + 1) xs) - 1) (take (n + 1) xs) ≡ take n xs
taken_less {X} xs n lt =
    let long : length (take (n + 1) xs) ≡ n + 1 = length-take-le (n + 1) xs (omega (arith, lt)) in
    let less : length (take (n + 1) xs) - 1 ≡ n = omega (arith, long) in
    ap (λ (i : ℕ). take i (take (n + 1) xs)) less ∙ take-take n (n + 1) xs (omega arith)

-- ---- a list made another one place by place

pub moved_step : {X : Type 0} (xs ys : List X) (at : ℕ) (x none : X) → at < length xs → at < length ys
    → x ≡ get_or ys at none → set (take at ys ++ drop at xs) at x ≡ take (at + 1) ys ++ drop (at + 1) xs
moved_step {X} xs ys at x none lt less is = steps xs ys at lt less is
    ∙ ap (λ (i : ℕ). take i ys ++ drop i xs) (let on : suc at ≡ at + 1 = omega arith in on)
  where
    steps : (xs ys : List X) (at : ℕ) → at < length xs → at < length ys → x ≡ get_or ys at none
        → set (take at ys ++ drop at xs) at x ≡ take (suc at) ys ++ drop (suc at) xs
    steps [] ys at lt less is = absurd (omega (arith, lt))
    steps (y ∷ xs) [] at lt less is = absurd (omega (arith, less))
    steps (y ∷ xs) (z ∷ ys) zero lt less is = ap (λ (w : X). w ∷ xs) is
    steps (y ∷ xs) (z ∷ ys) (suc at) lt less is =
        ap (λ (ws : List X). z ∷ ws) (steps xs ys at (omega (arith, lt)) (omega (arith, less)) is)

-- those from the place on are still the old ones
pub moved_get : {X : Type 0} (xs ys : List X) (at k : ℕ) (none : X) → at ≤ length xs → at ≤ length ys → at ≤ k
    → get_or (take at ys ++ drop at xs) k none ≡ get_or xs k none
moved_get xs ys zero k none lt less le = refl
moved_get [] ys (suc at) k none lt less le = absurd (omega (arith, lt))
moved_get (x ∷ xs) [] (suc at) k none lt less le = absurd (omega (arith, less))
moved_get (x ∷ xs) (y ∷ ys) (suc at) zero none lt less le = absurd (omega (arith, le))
moved_get (x ∷ xs) (y ∷ ys) (suc at) (suc k) none lt less le =
    moved_get xs ys at k none (omega (arith, lt)) (omega (arith, less)) (omega (arith, le))

pub moved_long : {X : Type 0} (xs ys : List X) (at : ℕ) → at ≤ length xs → at ≤ length ys
    → length (take at ys ++ drop at xs) ≡ length xs
moved_long xs ys at lt less = length-append (take at ys) (drop at xs)
    ∙ omega (arith, lt, length-take-le at ys less, length-drop at xs)

pub moved_none : {X : Type 0} (xs ys : List X) (place : ℕ) → take place ys ≡ take place xs
    → xs ≡ take place ys ++ drop place xs
moved_none {X} xs ys place same = sym (take-append-drop place xs)
    ∙ ap (λ (zs : List X). zs ++ drop place xs) (sym same)

pub take-insert : {X : Type 0} (xs : List X) (place : ℕ) (x : X) → place ≤ length xs
    → take place (insert xs place x) ≡ take place xs
take-insert xs place x le = let long = length-take-le place xs le in
    take-append-le place (take place xs) (x ∷ drop place xs) (omega (arith, long))
    ∙ take-take place place xs (omega arith)

pub take-remove : {X : Type 0} (xs : List X) (place : ℕ) → place < length xs
    → take place (remove xs place) ≡ take place xs
take-remove xs place lt = let long = length-take-le place xs (omega (arith, lt)) in
    take-append-le place (take place xs) (drop (suc place) xs) (omega (arith, long))
    ∙ take-take place place xs (omega arith)

-- all of them moved, and the last one behind
pub inserted_all : {X : Type 0} (xs : List X) (place : ℕ) (x last none : X) → place ≤ length xs
    → last ≡ get_or (insert xs place x) (length xs) none
    → (take (length xs) (insert xs place x) ++ drop (length xs) xs) ++ last ∷ [] ≡ insert xs place x
inserted_all {X} xs place x last none le is =
    let ys = insert xs place x in
    let long : length ys ≡ length xs + 1 = length-insert xs place x le in
    ap (λ (zs : List X). (take (length xs) ys ++ zs) ++ last ∷ []) (drop_all (length xs) xs (omega arith))
    ∙ ap (λ (zs : List X). zs ++ last ∷ []) (append-nil (take (length xs) ys))
    ∙ ap (λ (z : X). take (length xs) ys ++ z ∷ []) is
    ∙ sym (take_more ys (length xs) none (omega (arith, long)))
    ∙ take_all (length xs + 1) ys (omega (arith, long))

pub removed_all : {X : Type 0} (xs : List X) (place at : ℕ) → place < length xs → at + 1 ≡ length xs
    → take (length (take at (remove xs place) ++ drop at xs) - 1)
    (take at (remove xs place) ++ drop at xs) ≡ remove xs place
removed_all {X} xs place at lt all =
    let ys = remove xs place in
    let long : length ys + 1 ≡ length xs = length-remove xs place lt in
    let whole : length (take at ys ++ drop at xs) ≡ length xs =
    moved_long xs ys at (omega (arith, all)) (omega (arith, all, long)) in
    let count : length (take at ys ++ drop at xs) - 1 ≡ at = omega (arith, whole, all) in
    let part : length (take at ys) ≡ at = length-take-le at ys (omega (arith, all, long)) in
    ap (λ (n : ℕ). take n (take at ys ++ drop at xs)) count
    ∙ take-append-le at (take at ys) (drop at xs) (omega (arith, part))
    ∙ take-take at at ys (omega arith) ∙ take_all at ys (omega (arith, all, long))

-- what is left at last of a list whose end was taken
pub kept_at_last : {X : Type 0} (xs : List X) (many place count : ℕ) → count ≡ length xs → many ≤ place
    → count ≤ place → (place ≤ many) ⊎ (place ≤ count) → take (length xs - (place - many)) xs ≡ take many xs
kept_at_last {X} xs many place count long from end upto = ⊎_elim
    (λ (few : place ≤ many). take_all (length xs - (place - many)) xs (omega (arith, few))
    ∙ sym (take_all many xs (omega (arith, few, long, end))))
    (λ (all : place ≤ count). ap (λ (i : ℕ). take i xs)
    (let e : length xs - (place - many) ≡ many = omega (arith, from, end, all, long) in e))
    upto
