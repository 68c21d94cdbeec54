-- Objects that are got one by one.
use Rattle.std.proofs.Common.{ℕ, ◌≡◌, ◌<◌, ◌+◌, refl, sym, subst, inl, inr, List, [], ◌∷◌, ◌++◌, take, length}
use Rattle.std.proofs.Common.{None, Result, Ok, Err, Vec, slice_index_or, arith}
use Rattle.std.specs.Prelude.{IsErrAnd}
use Rattle.std.proofs.lemmas.Grind.{common_steps}
use Rattle.std.proofs.lemmas.List.{take_more}
use Rattle.plain_table.specs.Answers.{object_answer}
use Rattle.plain_table.specs.Commands.Command.{Get}
use Rattle.plain_table.specs.declared.boxes.AnyBox.{AnyBox}
use Rattle.plain_table.specs.declared.refusal.Refusal.{Refusal}
use Rattle.plain_table.specs.declared.refusal.Refusal.TheVariants as refusal
use Rattle.layer_store.specs.Commands.{Answers}
use Rattle.layer_store.specs.declared.store.Store.{Store}
use Rattle.c_session.specs.Parts.{GetsAll, GetsNear, IsRefusedAt}

-- one more
one_more : {D A : Type 0} {m : _} (s t u : Store D A m) (name : List ℕ) (near : List (ℕ × ℕ))
    (objects : List (ℕ × AnyBox × ℕ)) (n : ℕ × ℕ) (o : ℕ × AnyBox × ℕ) → GetsAll s t name near objects
    → o.0 ≡ n.0 → Answers t u (Get name n.0) (object_answer n.0) (Ok (o.1, o.2))
    → GetsAll s u name (near ++ n ∷ []) (objects ++ o ∷ [])
one_more s t u name [] [] n o is same answers = (
  u,
  same,
  subst (λ x. Answers x u (Get name n.0) (object_answer n.0) (Ok (o.1, o.2))) is answers,
  refl,
)
one_more s t u name (k ∷ near) (p ∷ objects) n o h same answers =
    (h.0, h.1, h.2, one_more h.0 t u name near objects n o h.3 same answers)
one_more s t u name [] (p ∷ objects) n o h same answers = absurd h
one_more s t u name (k ∷ near) [] n o h same answers = absurd h

-- the next of a list
pub got_next : {D A : Type 0} {m : _} (s t u : Store D A m) (name : List ℕ) (near : List (ℕ × ℕ)) (n : ℕ)
    (d : ℕ × ℕ) (objects : List (ℕ × AnyBox × ℕ)) (o : ℕ × AnyBox × ℕ) → n < length near
    → GetsAll s t name (take n near) objects → o.0 ≡ (slice_index_or near n d).0
    → Answers t u (Get name (slice_index_or near n d).0) (object_answer (slice_index_or near n d).0)
    (Ok (o.1, o.2))
    → GetsAll s u name (take (n + 1) near) (objects ++ o ∷ [])
got_next s t u name near n d objects o within got same answers =
    subst (λ ids. GetsAll s u name ids (objects ++ o ∷ [])) (sym (take_more near n d within))
    (one_more s t u name (take n near) objects (slice_index_or near n d) o got same answers)

-- an element is what is read with itself in the place of one that is missing
read_itself : (near : List (ℕ × ℕ)) (n : ℕ) (d : ℕ × ℕ) → n < length near
    → slice_index_or near n (slice_index_or near n d) ≡ slice_index_or near n d
read_itself near n d within = grind (arith, common_steps, within)

-- one was refused, or there was no memory for it
refused_so : {D A : Type 0} {m : _} (s mid t : Store D A m) (name : List ℕ) (near : List (ℕ × ℕ)) (n : ℕ)
    (objects : List (ℕ × AnyBox × ℕ)) (f : Refusal) (r : Result (Vec (ℕ × AnyBox × ℕ) A) Refusal)
    → IsErrAnd r (λ e. e ≡ f) → GetsAll s mid name (take n near) objects → IsRefusedAt mid t name near n f
    → GetsNear s t name near None r
refused_so s mid t name near n objects f (Ok rows) is got refused = absurd is
refused_so s mid t name near n objects f (Err e) is got refused =
    (n, objects, mid, got, subst (λ x. IsRefusedAt mid t name near n x) (sym is) refused)

pub get_refused : {D A : Type 0} {m : _} (s mid t : Store D A m) (name : List ℕ) (near : List (ℕ × ℕ)) (n : ℕ)
    (d : ℕ × ℕ) (objects : List (ℕ × AnyBox × ℕ)) (f : Refusal)
    (r : Result (Vec (ℕ × AnyBox × ℕ) A) Refusal) → n < length near → IsErrAnd r (λ e. e ≡ f)
    → GetsAll s mid name (take n near) objects
    → Answers mid t (Get name (slice_index_or near n d).0) (object_answer (slice_index_or near n d).0) (Err f)
    → GetsNear s t name near None r
get_refused s mid t name near n d objects f r within is got answers =
    refused_so s mid t name near n objects f r is got
    (inr (slice_index_or near n d, within, read_itself near n d within, answers))

pub no_memory : {D A : Type 0} {m : _} (s t : Store D A m) (name : List ℕ) (near : List (ℕ × ℕ)) (n : ℕ)
    (objects : List (ℕ × AnyBox × ℕ)) (r : Result (Vec (ℕ × AnyBox × ℕ) A) Refusal)
    → IsErrAnd r (λ e. e ≡ refusal.Memory) → GetsAll s t name (take n near) objects
    → GetsNear s t name near None r
no_memory s t name near n objects r is got =
    refused_so s t t name near n objects refusal.Memory r is got (inl (refl, refl))
