-- The objects of entry lines, one line more.
use Rattle.std.proofs.Common.{◌≡◌, ◌∙◌, ℕ, ◌<◌, ltb, Bool, true, false, List, [], ◌∷◌, ◌++◌, length, Option}
use Rattle.std.proofs.Common.{Some, None, IsSome, Result, Ok, Err, cond, is_ok, is_err, refl, sym, ap, subst}
use Rattle.std.proofs.Common.{arith, ◌+◌, ap₂, suc}
use Rattle.std.proofs.lemmas.Bool.Decides.{nat_tests}
use Rattle.std.specs.Prelude.{option_and_then, option_map, is_none, is_some, unwrap_or}
use Rattle.plain_table.specs.Loads.{GivenObjects}
use Rattle.plain_table.specs.declared.boxes.RawBox.{RawBox}
use Rattle.command_language.specs.Entries.{entry_in, first_bad, objects_in}
use Rattle.command_shell.specs.Gathering.{Tells}

abbrev Object : Type 0
Object = ℕ × RawBox × ℕ

abbrev followed : Option GivenObjects → Option Object → Option GivenObjects
followed all one = option_and_then (λ objects. option_map (λ object. objects ++ object ∷ []) one) all

first_alone : (one : Option Object)
    → option_and_then (λ object. option_map (λ (objects : GivenObjects). object ∷ objects) (Some []))
    one ≡ followed (Some []) one
first_alone None = refl
first_alone (Some object) = refl

first_before : (first : Option Object) (all : Option GivenObjects) (one : Option Object)
    → option_and_then (λ object. option_map (λ objects. object ∷ objects) (followed all one))
    first ≡ followed (option_and_then (λ object. option_map (λ objects. object ∷ objects) all) first) one
first_before None all one = refl
first_before (Some f) None one = refl
first_before (Some f) (Some all) None = refl
first_before (Some f) (Some all) (Some object) = refl

-- one line more
objects_followed : (lines : List (List ℕ)) (line : List ℕ)
    → objects_in (lines ++ line ∷ []) ≡ followed (objects_in lines) (entry_in line)
objects_followed [] line = first_alone (entry_in line)
objects_followed (l ∷ lines) line =
    ap (λ (all : Option GivenObjects). option_and_then
    (λ object. option_map (λ objects. object ∷ objects) all) (entry_in l)) (objects_followed lines line)
    ∙ first_before (entry_in l) (objects_in lines) (entry_in line)

nothing_follows : (all : Option GivenObjects) → followed all None ≡ None
nothing_follows None = refl
nothing_follows (Some all) = refl

-- a bad line makes all bad
pub bad_more : (lines : List (List ℕ)) (line : List ℕ) → entry_in line ≡ None
    → objects_in (lines ++ line ∷ []) ≡ None
bad_more lines line bad = objects_followed lines line ∙ ap (followed (objects_in lines)) bad
    ∙ nothing_follows (objects_in lines)

some_follows : (all : Option GivenObjects) (object : Object) → IsSome all
    → IsSome (followed all (Some object))
some_follows None object h = h
some_follows (Some all) object h = refl

-- the first bad entry line, where a bad line follows
bad_behind : (first : Option Object) (bad : Option ℕ) (n : ℕ)
    → cond (is_some first) (option_map (λ p. p + 1) (Some (unwrap_or bad (n + 1)))) (Some 1)
    ≡ Some (unwrap_or (cond (is_some first) (option_map (λ p. p + 1) bad) (Some 1)) (suc n + 1))
bad_behind None bad n = refl
bad_behind (Some f) None n = ap Some (omega arith)
bad_behind (Some f) (Some b) n = refl

bad_follows : (lines : List (List ℕ)) (line : List ℕ) → entry_in line ≡ None
    → first_bad (lines ++ line ∷ []) ≡ Some (unwrap_or (first_bad lines) (length lines + 1))
bad_follows [] line bad = rw bad refl
bad_follows (l ∷ lines) line bad =
    ap (λ (b : Option ℕ). cond (is_some (entry_in l)) (option_map (λ p. p + 1) b) (Some 1))
    (bad_follows lines line bad)
    ∙ bad_behind (entry_in l) (first_bad lines) (length lines)

-- and where a good one does
pub good_follows : (lines : List (List ℕ)) (line : List ℕ) (object : Object) → entry_in line ≡ Some object
    → first_bad (lines ++ line ∷ []) ≡ first_bad lines
good_follows [] line object good = rw good refl
good_follows (l ∷ lines) line object good =
    ap (λ (b : Option ℕ). cond (is_some (entry_in l)) (option_map (λ p. p + 1) b) (Some 1))
    (good_follows lines line object good)

-- a bad line was gathered
pub spoiled : (old new : Option ℕ) (place : ℕ) (room : Bool) (name layer : List ℕ) (objects : GivenObjects)
    (lines : List (List ℕ)) (line : List ℕ)
    → new ≡ Some (unwrap_or old place) → old ≡ first_bad lines → place ≡ length lines + 1
    → entry_in line ≡ None
    → (new ≡ first_bad (lines ++ line ∷ []))
    × Tells (is_none new) room name objects layer (objects_in (lines ++ line ∷ []))
spoiled old new place room name layer objects lines line is was at bad = (
  is ∙ ap Some (ap₂ unwrap_or was at) ∙ sym (bad_follows lines line bad),
  subst (λ (b : Option ℕ). Tells (is_none b) room name objects layer (objects_in (lines ++ line ∷ [])))
      (sym is) (bad_more lines line bad),
)

-- an object was gathered, or there was no room for it
told_more : (good room now : Bool) (name layer : List ℕ) (old new : GivenObjects) (all : Option GivenObjects)
    (object : Object)
    → Tells good room name old layer all → (now ≡ true → room ≡ true)
    → (now ≡ true → new ≡ old ++ object ∷ []) → Tells good now name new layer (followed all (Some object))
told_more false room now name layer old new all object h same pushed =
    ap (λ (o : Option GivenObjects). followed o (Some object)) h
told_more true true false name layer old new all object h same pushed =
    some_follows all object (subst (λ (o : Option GivenObjects). IsSome o) (sym h.0) refl)
told_more true false false name layer old new all object h same pushed = some_follows all object h
told_more true true true name layer old new all object h same pushed =
    (ap (λ (o : Option GivenObjects). followed o (Some object)) h.0 ∙ ap Some (sym (pushed refl)), h.1)
told_more true false true name layer old new all object h same pushed = absurd (let never = same refl in cc)

pub gathered_more : (good room now : Bool) (name layer : List ℕ) (old new : GivenObjects)
    (lines : List (List ℕ)) (line : List ℕ) (object : Object)
    → Tells good room name old layer (objects_in lines) → entry_in line ≡ Some object
    → (now ≡ true → room ≡ true) → (now ≡ true → new ≡ old ++ object ∷ [])
    → Tells good now name new layer (objects_in (lines ++ line ∷ []))
gathered_more good room now name layer old new lines line object h is same pushed =
    subst (Tells good now name new layer)
    (sym (objects_followed lines line ∙ ap (followed (objects_in lines)) is))
    (told_more good room now name layer old new (objects_in lines) object h same pushed)

-- what a push that succeeded leaves
pub of_ok : {T E X : Type 0} (r : Result T E) (new more old : X) → new ≡ cond (is_ok r) more old
    → false ≡ is_err r → new ≡ more
of_ok (Ok v) new more old h e = h
of_ok (Err x) new more old h e = absurd (cc)

-- a line that is too long gives no object
pub long_entry : (line : List ℕ) → 4096 < length line → entry_in line ≡ None
long_entry line h = let e : ltb 4096 (length line) ≡ true = grind (arith, nat_tests) in rw e refl

-- where no line was bad and there was no room for all, each line gave an object
pub told_room : (good room : Bool) (name layer : List ℕ) (objects : GivenObjects) (all : Option GivenObjects)
    → Tells good room name objects layer all → good ≡ true → room ≡ false → IsSome all
told_room true false name layer objects all h is_good no_room = h
told_room true true name layer objects all h is_good no_room = absurd (cc)
told_room false room name layer objects all h is_good no_room = absurd (cc)

-- where one was bad they give none
pub told_bad : (good room : Bool) (name layer : List ℕ) (objects : GivenObjects) (all : Option GivenObjects)
    → Tells good room name objects layer all → good ≡ false → all ≡ None
told_bad false room name layer objects all h is_bad = h
told_bad true room name layer objects all h is_bad = absurd (cc)

-- and where there was room for all, they give those
pub told_all : (good room : Bool) (name layer : List ℕ) (objects : GivenObjects) (all : Option GivenObjects)
    → Tells good room name objects layer all → good ≡ true → room ≡ true
    → (all ≡ Some objects) × (name ≡ layer)
told_all true true name layer objects all h is_good has_room = h
told_all true false name layer objects all h is_good has_room = absurd (cc)
told_all false room name layer objects all h is_good has_room = absurd (cc)
