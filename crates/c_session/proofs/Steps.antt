-- A call that asked the store is told as the definitions say.
use Rattle.std.proofs.Common.{ℕ, ◌≡◌, ◌⊎◌, inl, inr, sym, false, Option, Some, Result, Ok, Err}
use Rattle.std.proofs.Common.{List, ap, subst, ◌≤◌, ◌++◌, map, take, drop, min, length, arith}
use Rattle.plain_table.specs.Commands.{Command}
use Rattle.plain_table.specs.Step.{Answer}
use Rattle.plain_table.specs.declared.refusal.Refusal.{Refusal}
use Rattle.layer_store.specs.Commands.{Answers, Changes}
use Rattle.layer_store.specs.declared.store.Store.{Store}
use Rattle.c_rows.specs.Numbers.{detail_after, detail_of, number_of}
use Rattle.plain_table.specs.Refusals.{refusal_number}
use Rattle.plain_table.specs.declared.refusal.Refusal.TheVariants as refusal
use Rattle.plain_table.specs.declared.rows.LayerInfo.{LayerInfo}
use Rattle.c_rows.specs.Layers.{layer_of}
use Rattle.c_rows.specs.declared.layers.Layer.{Layer}
use Rattle.c_session.specs.Calls.{AsksBy, AsksWith, ChangesBy, ChangesWith, Commits, CommitsBy, TellsBy}
use Rattle.c_session.specs.Calls.{listed}
use Rattle.c_session.specs.Keeping.{after, as_it_is, kept}
use Rattle.c_session.specs.declared.session.Session.{Session}

-- a session with this store and this detail
abbrev pub at : {D A : Type 0} {m : _} → Session D A m → Store D A m → ℕ → Session D A m
at old t d = record old { store = Some t; detail = d }

-- a change
pub changed : {D A : Type 0} {m : _} (old : Session D A m) (s t : Store D A m) (c : Command)
    (r : Result (Unit {0}) Refusal) (d n : ℕ) → old.store ≡ Some s → old.read_only ≡ false → Changes s t c r
    → d ≡ detail_after r old.detail → n ≡ number_of r → ChangesBy old (at old t d) c n
changed old s t c r d n is writes changes detail number =
    inr (inr (writes, (s, t, r, is, changes, ap (at old t) detail, number)))

-- one with what numbers gave
pub changed_with : {D A : Type 0} {m : _} {T : Type 0} (old : Session D A m) (s t : Store D A m)
    (given : Option T) (x : T) (c : T → Command) (r : Result (Unit {0}) Refusal) (d n : ℕ) → given ≡ Some x
    → old.store ≡ Some s → old.read_only ≡ false → Changes s t (c x) r → d ≡ detail_after r old.detail
    → n ≡ number_of r → ChangesWith old (at old t d) given c n
changed_with old s t given x c r d n gives is writes changes detail number =
    inr (inr (x, gives, changed old s t (c x) r d n is writes changes detail number))

-- a question whose answer is kept
pub asked : {D A : Type 0} {m : _} {T : Type 0} (old new : Session D A m) (s t : Store D A m) (c : Command)
    (answer : Result T Refusal → Answer) (keep : Session D A m → T → Session D A m) (r : Result T Refusal)
    (n : ℕ) → old.store ≡ Some s → Answers s t c answer r → new ≡ kept keep (after old t r) r
    → n ≡ number_of r → AsksBy old new c answer keep n
asked old new s t c answer keep r n is answers keeps number = inr (s, t, r, is, answers, keeps, number)

-- one with what numbers gave
pub asked_with : {D A : Type 0} {m : _} {T U : Type 0} (old new : Session D A m) (s t : Store D A m)
    (given : Option U) (x : U) (c : U → Command) (answer : Result T Refusal → Answer)
    (keep : Session D A m → T → Session D A m) (r : Result T Refusal) (n : ℕ) → given ≡ Some x
    → old.store ≡ Some s → Answers s t (c x) answer r → new ≡ kept keep (after old t r) r → n ≡ number_of r
    → AsksWith old new given c answer keep n
asked_with old new s t given x c answer keep r n gives is answers keeps number =
    inr (x, gives, asked old new s t (c x) answer keep r n is answers keeps number)

-- one whose answer goes out
pub told : {D A : Type 0} {m : _} {T : Type 0} (old : Session D A m) (s t : Store D A m) (c : Command)
    (answer : Result T Refusal → Answer) (Goes : Result T Refusal → Type 0) (r : Result T Refusal) (d n : ℕ)
    → old.store ≡ Some s → Answers s t c answer r → d ≡ detail_after r old.detail → Goes r → n ≡ number_of r
    → TellsBy old (at old t d) c answer Goes n
told old s t c answer Goes r d n is answers detail goes number =
    inr (s, t, r, is, answers, ap (at old t) detail, goes, number)

-- a closing that goes on
pub committed : {D A : Type 0} {m : _} (old : Session D A m) (s t : Store D A m)
    (r : Result (Unit {0}) Refusal) (d n : ℕ) → old.store ≡ Some s → Commits s t r
    → d ≡ detail_after r old.detail → n ≡ number_of r → CommitsBy old (at old t d) n
committed old s t r d n is commits detail number = inr (s, t, r, is, commits, ap (at old t) detail, number)

-- a check, of whose answer nothing is kept
pub checked : {D A : Type 0} {m : _} {c : Command} {answer : Result (Unit {0}) Refusal → Answer}
    (old : Session D A m) (s t : Store D A m) (r : Result (Unit {0}) Refusal) (d n : ℕ) → old.store ≡ Some s
    → Answers s t c answer r → d ≡ detail_after r old.detail → n ≡ number_of r
    → AsksBy old (at old t d) c answer as_it_is n
checked old s t (Ok u) d n is answers detail number =
    asked old (at old t d) s t _ _ as_it_is (Ok u) n is answers (ap (at old t) detail) number
checked old s t (Err e) d n is answers detail number =
    asked old (at old t d) s t _ _ as_it_is (Err e) n is answers (ap (at old t) detail) number

-- a question that was refused keeps what there was
pub refused : {D A : Type 0} {m : _} {T : Type 0} (old : Session D A m) (s t : Store D A m) (c : Command)
    (answer : Result T Refusal → Answer) (keep : Session D A m → T → Session D A m) (e : Refusal) (d n : ℕ)
    → old.store ≡ Some s → Answers s t c answer (Err e) → d ≡ detail_of e → n ≡ refusal_number e
    → AsksBy old (at old t d) c answer keep n
refused old s t c answer keep e d n is answers detail number =
    asked old (at old t d) s t c answer keep (Err e) n is answers (ap (at old t) detail) number

pub refused_with : {D A : Type 0} {m : _} {T U : Type 0} (old : Session D A m) (s t : Store D A m)
    (given : Option U) (x : U) (c : U → Command) (answer : Result T Refusal → Answer)
    (keep : Session D A m → T → Session D A m) (e : Refusal) (d n : ℕ) → given ≡ Some x → old.store ≡ Some s
    → Answers s t (c x) answer (Err e) → d ≡ detail_of e → n ≡ refusal_number e
    → AsksWith old (at old t d) given c answer keep n
refused_with old s t given x c answer keep e d n gives is answers detail number =
    inr (x, gives, refused old s t (c x) answer keep e d n is answers detail number)

-- layers that were written are listed
pub listed_so : (xs ys : List LayerInfo) (old new : List Layer) (n : ℕ) → ys ≡ xs
    → n ≡ min (length ys) (length old) → new ≡ map layer_of (take n ys) ++ drop n old → new ≡ listed xs old
listed_so xs ys old new n same count rows =
    subst (λ zs. new ≡ listed zs old) same
    (subst (λ k. new ≡ map layer_of (take k ys) ++ drop k old) count rows)

-- a refusal has no number 0
pub numbered : (e : Refusal) → 1 ≤ refusal_number e
numbered refusal.BadName = omega arith
numbered refusal.LayerExists = omega arith
numbered refusal.NoLayer = omega arith
numbered refusal.BadDims = omega arith
numbered refusal.BadFanout = omega arith
numbered refusal.TooManyLayers = omega arith
numbered refusal.BadBox = omega arith
numbered refusal.WrongDims = omega arith
numbered refusal.Duplicate = omega arith
numbered refusal.NoObject = omega arith
numbered refusal.TooManyObjects = omega arith
numbered refusal.NotEmpty = omega arith
numbered (refusal.DuplicateInLoad id) = omega arith
numbered refusal.BadCount = omega arith
numbered refusal.DimsDiffer = omega arith
numbered refusal.Memory = omega arith
numbered refusal.Device = omega arith
numbered (refusal.Damaged page) = omega arith
numbered (refusal.StoreFailed fault) = omega arith
numbered refusal.NotClosed = omega arith
numbered refusal.NotAStore = omega arith
numbered refusal.WrongVersion = omega arith
numbered refusal.BadCache = omega arith
numbered refusal.BadLine = omega arith
numbered refusal.NoPages = omega arith

-- what went well is no refusal
pub no_refusal : {T E : Type 0} {v : T} {e : E} → Ok v ≡ Err e → ⊥
no_refusal h = absurd (cc)

-- a store in which nothing was changed is closed, or had failed
pub settled_so : {P Q T E : Type 0} {v : T} {e : E} → P ⊎ (Err e ≡ Ok v) → P ⊎ Q
settled_so (inl p) = inl p
settled_so (inr same) = absurd (no_refusal (sym same))

-- the refusal of a close
abbrev pub refusal_in : {D : Type 0} → Refusal → Result D (Refusal × D) → Result (Unit {0}) Refusal
refusal_in none (Ok device) = Err none
refusal_in none (Err e) = Err e.0

pub is_end_of : {D : Type 0} (none : Refusal) (x y : Result D (Refusal × D)) → x ≡ y
    → refusal_in none x ≡ refusal_in none y
is_end_of none x y h = ap (refusal_in none) h
