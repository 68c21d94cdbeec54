-- One write after another.
use Rattle.std.proofs.Common.{◌≡◌, ℕ, ◌+◌, ◌<◌, List, ◌∷◌, ◌++◌, length, take, drop, suc, get_or, flat_map}
use Rattle.std.proofs.Common.{map, Option, Some, None, Result, Ok, Err, sym, ap, ap₂, ◌∙◌, append_assoc}
use Rattle.std.proofs.Common.{codes, length-append, arith}
use Rattle.std.specs.Prelude.{decimal, min}
use Rattle.std.specs.Io.KnownBytes.{Appends}
use Rattle.std.proofs.lemmas.List.{length-map, take-append-le, take-append-drop, take_all}
use Rattle.std.proofs.lemmas.List.Concat.{flat_map-append}
use Rattle.std.proofs.lemmas.List.Folds.{flat_map-map}
use Rattle.std.proofs.Math.Seq.{take-append-add, take-add, drop-cons}
use Rattle.reply_texts.specs.Refused.{entry_fault, most_lines, reason_of, told_front, told_stop}
use Rattle.reply_texts.specs.Texts.{count_text}
use Rattle.reply_texts.specs.Writing.{AppendsFront, AppendsSome, Writes}
use Rattle.reply_texts.specs.declared.refused.Stop.{Stop}

pub appends_more : (a b c : Option (List ℕ)) (x y : List ℕ) → Appends a b x → Appends b c y
    → Appends a c (x ++ y)
appends_more None b c x y p q = tt
appends_more (Some a) None c x y p q = elim p [ ]
appends_more (Some a) (Some b) None x y p q = elim q [ ]
appends_more (Some a) (Some b) (Some c) x y p q = q ∙ ap (λ t. t ++ y) p ∙ append_assoc a x y

-- a front of a text is one of what goes on from it
pub front_more : (a c : Option (List ℕ)) (x y : List ℕ) → AppendsFront a c x → AppendsFront a c (x ++ y)
front_more a c x y f =
    (f.0, omega (arith, f.1, length-append x y), rw (take-append-le f.0 x y (omega (arith, f.1))) f.2)

-- a text, and a front of what follows
pub front_then : (a b c : Option (List ℕ)) (x y : List ℕ) → Appends a b x → AppendsFront b c y
    → AppendsFront a c (x ++ y)
front_then a b c x y p f = (
  length x + f.0,
  omega (arith, f.1, length-append x y),
  rw take-append-add (appends_more a b c x (take f.0 y) p f.2),
)

-- a text, and then a write
pub writes_then : {E T : Type 0} (a b c : Option (List ℕ)) (r : Result T E) (x y : List ℕ) → Appends a b x
    → Writes b c r y → Writes a c r (x ++ y)
writes_then a b c (Ok v) x y p q = appends_more a b c x y p q
writes_then a b c (Err e) x y p q = front_then a b c x y p q

-- a write appends all of the text, or a front of it
pub some_written : {E T : Type 0} (a b : Option (List ℕ)) (r : Result T E) (text : List ℕ)
    → Writes a b r text → AppendsSome a b text
some_written a b (Ok v) text h = (length text, rw (take_all (length text) text (omega arith)) h)
some_written a b (Err e) text h = (h.0, h.2)

-- the line of a stop, put together
pub stop_text : (it : Stop) (word number colon front all : List ℕ)
    → word ≡ codes "rstore: line " → number ≡ word ++ decimal it.line → colon ≡ number ++ codes ": " → front ≡ colon ++ told_front it.refused.front
    → all ≡ front ++ codes ": " → all ++ reason_of it.refused.refusal it.line it.refused.front ≡ told_stop it
stop_text it word number colon front all a b c d e =
    let n = decimal it.line in
    let f = told_front it.refused.front in
    let r = reason_of it.refused.refusal it.line it.refused.front in
    let w = codes "rstore: line " in
    let s = codes ": " in
    let all_is : all ≡ (((w ++ n) ++ s) ++ f) ++ s =
    e ∙ ap (λ t. t ++ s) (d ∙ ap (λ t. t ++ f) (c ∙ ap (λ t. t ++ s) (b ∙ ap (λ t. t ++ n) a))) in
    ap (λ t. t ++ r) all_is

-- what is said of an entry line, put together
pub entry_text : (old word shown all other : List ℕ) (number place sum : ℕ) (bad : Option ℕ)
    → bad ≡ Some place → sum ≡ min (number + place) most_lines → word ≡ old ++ codes "line "
    → shown ≡ word ++ decimal sum → all ≡ shown ++ codes " is no entry" → all ≡ old ++ entry_fault number bad other
entry_text old word shown all other number place sum bad is sum_is a b c =
    let w = codes "line " in
    let n = decimal sum in
    let e = codes " is no entry" in
    let all_is : all ≡ ((old ++ w) ++ n) ++ e = c ∙ ap (λ t. t ++ e) (b ∙ ap (λ t. t ++ n) a) in
    let fault : entry_fault number (Some place) other ≡ w ++ (n ++ e) =
    ap (λ k. w ++ (decimal k ++ e)) (sym sum_is) in
    all_is ∙ append_assoc (old ++ w) n e ∙ append_assoc old w (n ++ e)
    ∙ ap (λ t. old ++ t) (sym fault ∙ ap (λ o. entry_fault number o other) (sym is))

-- a piece of what is left
pub taken_more : (xs : List ℕ) (i n : ℕ) → take i xs ++ take n (drop i xs) ≡ take (i + n) xs
taken_more xs i n = sym (take-add i n xs)

-- a fault while element i is written leaves a front of the text of all
pub front_of_all : {X : Type 0} (f : X → List ℕ) (a b c : Option (List ℕ)) (xs : List X) (i : ℕ) (d x : X)
    → i < length xs → x ≡ get_or xs i d → Appends a b (flat_map f (take i xs)) → AppendsFront b c (f x)
    → AppendsFront a c (flat_map f xs)
front_of_all f a b c xs i d x h e p q =
    let whole : flat_map f xs ≡ (flat_map f (take i xs) ++ f x)
    ++ flat_map f (drop (suc i) xs) =
    ap (flat_map f) (sym (take-append-drop i xs) ∙ ap (λ t. take i xs ++ t) (drop-cons xs i d h))
    ∙ flat_map-append f (take i xs) (get_or xs i d ∷ drop (suc i) xs)
    ∙ ap (λ y. flat_map f (take i xs) ++ (f y ++ flat_map f (drop (suc i) xs))) (sym e)
    ∙ sym (append_assoc (flat_map f (take i xs)) (f x) _) in
    rw whole
    (front_more a c (flat_map f (take i xs) ++ f x) _
    (front_then a b c (flat_map f (take i xs)) (f x) p q))

-- the rows of values are those of what the values are seen as
pub mapped_rows : {X Y : Type 0} (f : X → Y) (text : Y → List ℕ) (xs : List X)
    → count_text (length xs) ++ flat_map (λ x. text (f x)) xs ≡ count_text (length (map f xs))
    ++ flat_map text (map f xs)
mapped_rows f text xs = sym (ap₂ (λ n t. count_text n ++ t) (length-map xs f) (flat_map-map text f xs))

-- what writing functions need
pub ruleset writing = (front_more, front_then, writes_then, appends_more)
