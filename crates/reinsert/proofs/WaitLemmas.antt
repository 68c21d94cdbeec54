-- The far set waits, one entry after the other from the last.
use Rattle.std.proofs.Common.{◌≡◌, ◌↔◌, ℕ, ◌+◌, ◌-◌, ◌<◌, List, [], ◌∷◌, ◌++◌, length, map, take, reverse}
use Rattle.std.proofs.Common.{get_or, sym, ap, subst, refl, ◌∙◌, arith, append_assoc, All, zero, suc, Option}
use Rattle.std.proofs.Common.{Some, None, IsSome, IsNone, IfSome}
use Rattle.std.proofs.Math.Seq.{get_or-append_seam}
use Rattle.std.proofs.lemmas.Bool.{false≢true, true≢false}
use Rattle.std.proofs.lemmas.List.{take_more, get_or-reverse, length-map, get_or-map, map-append}
use Rattle.std.proofs.lemmas.List.{get_or_append_left, length-append, length-reverse}
use Rattle.std.specs.Option.{option_to_list}
use Rattle.tree_node.specs.declared.node.Entry.{Entry}
use Rattle.reinsert.specs.declared.waiting.Wait.{Wait}
use Rattle.reinsert.specs.Placed.{held_of, held_with}

turned_more : {A : Type 0} (xs : List A) (p : ℕ) (d : A) → p < length xs
    → take (p + 1) (reverse xs) ≡ take p (reverse xs) ++ get_or xs (length xs - 1 - p) d ∷ []
turned_more xs p d within = take_more (reverse xs) p d (omega (arith, length-reverse xs, within))
    ∙ ap (λ x. take p (reverse xs) ++ x ∷ []) (get_or-reverse xs p d within)

pub held_more : {D : ℕ} (olds waits new : List (Wait D)) (far : List (Entry D)) (level p : ℕ) (e : Entry D)
    → map held_of waits ≡ map held_of olds ++ take p (reverse (map (held_with level) far))
    → new ≡ waits ++ record { entry = e; level = level } ∷ []
    → p < length far → e ≡ get_or far (length far - 1 - p) e
    → map held_of new ≡ map held_of olds ++ take (p + 1) (reverse (map (held_with level) far))
held_more olds waits new far level p e before is within this =
    let hs = map (held_with level) far in
    let h = held_with level e in
    let count : length hs ≡ length far = length-map far (held_with level) in
    let at : get_or hs (length hs - 1 - p) h ≡ h =
    ap (λ n. get_or hs (n - 1 - p) h) count
    ∙ get_or-map (held_with level) far (length far - 1 - p) e h (omega (arith, within))
    ∙ ap (held_with level) (sym this) in
    ap (map held_of) is ∙ map-append held_of waits (record { entry = e; level = level } ∷ [])
    ∙ ap (λ xs. xs ++ h ∷ []) before
    ∙ append_assoc (map held_of olds) (take p (reverse hs)) (h ∷ [])
    ∙ ap (λ xs. map held_of olds ++ xs)
    (ap (λ x. take p (reverse hs) ++ x ∷ []) (sym at)
    ∙ sym (turned_more hs p h (omega (arith, count, within))))

pub All-one : {A : Type 0} (P : A → Type 0) (x : A) → P x → All P (x ∷ [])
All-one P x h zero d lt = h
All-one P x h (suc k) d lt = absurd (omega (arith, lt))

pub All-none : {A : Type 0} (P : A → Type 0) (xs : List A) → xs ≡ [] → All P xs
All-none P xs none = λ k d within. absurd (omega (arith, within, ap length none))

-- ---- the last taken off

pub popped_none : {A : Type 0} (xs ys : List A) (o : Option A) → xs ≡ ys ++ option_to_list o
    → (IsSome o ↔ (0 < length xs)) → IsNone o → xs ≡ []
popped_none [] ys o is some none = refl
popped_none (x ∷ xs) ys None is some none = absurd (false≢true (some.1 (omega arith)))
popped_none (x ∷ xs) ys (Some w) is some none = absurd (true≢false none)

pub popped_some : {A : Type 0} (xs ys : List A) (o : Option A) → xs ≡ ys ++ option_to_list o
    → IfSome o (λ w. xs ≡ ys ++ w ∷ [])
popped_some xs ys None is = tt
popped_some xs ys (Some w) is = is

pub popped_fewer : {A : Type 0} (xs ys : List A) (o : Option A) (n : ℕ) → xs ≡ ys ++ option_to_list o
    → IfSome o (λ _. length ys + n < length xs + n)
popped_fewer xs ys None n is = tt
popped_fewer xs ys (Some w) n is = omega (arith, ap length is, length-append ys (w ∷ []))

pub popped_has : {A : Type 0} (P : A → Type 0) (xs ys : List A) (o : Option A)
    → xs ≡ ys ++ option_to_list o → All P xs → IfSome o P
popped_has P xs ys None is all = tt
popped_has P xs ys (Some w) is all =
    let whole : All P (ys ++ w ∷ []) = subst (All P) is all in
    subst P (get_or-append_seam ys w [] w) (whole (length ys) w (omega (arith, length-append ys (w ∷ []))))

pub rest_has : {A : Type 0} (P : A → Type 0) (xs ys zs : List A) → xs ≡ ys ++ zs → All P xs → All P ys
rest_has P xs ys zs is all = λ k d within.
    let whole : All P (ys ++ zs) = subst (All P) is all in
    subst P (get_or_append_left ys zs d k within) (whole k d (omega (arith, within, length-append ys zs)))
