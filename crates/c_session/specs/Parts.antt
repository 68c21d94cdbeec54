-- What a session keeps, or tells, of a part of an answer, and of objects that are got one by one. Our rule,
-- docs/LIBRARY.md.
use Rattle.std.specs.Prelude.{ℕ, pos, negsuc, ◌≡◌, ◌<◌, ◌⊎◌, ◌==◌, Bool, List, [], ◌∷◌, take, length, Vec}
use Rattle.std.specs.Prelude.{Option, None, Some, Result, Ok, Err, is_some, unwrap_or, slice_index_or}
use Rattle.std.specs.Prelude.{if◌then◌else◌}
use Rattle.plain_table.specs.Answers.{boxes_answer, distances_answer, object_answer}
use Rattle.plain_table.specs.Commands.{Command}
use Rattle.plain_table.specs.Commands.Command.{Get, Nearest, Range}
use Rattle.plain_table.specs.Refusals.{refusal_number}
use Rattle.plain_table.specs.declared.boxes.AnyBox.{AnyBox}
use Rattle.plain_table.specs.declared.boxes.RawBox.{RawBox}
use Rattle.plain_table.specs.declared.boxes.RawBox.TheVariants as raw
use Rattle.plain_table.specs.declared.boxes.RawPoint.{RawPoint}
use Rattle.plain_table.specs.declared.queries.RawQuery.TheVariants as query
use Rattle.plain_table.specs.declared.refusal.Refusal.{Refusal}
use Rattle.plain_table.specs.declared.refusal.Refusal.TheVariants as refusal
use Rattle.layer_store.specs.Commands.{Answers}
use Rattle.layer_store.specs.declared.store.Store.{Store}
use Rattle.c_rows.specs.Numbers.{detail_of, number_of}
use Rattle.c_rows.specs.Parts.{IsLast, objects_after, objects_with}
use Rattle.c_session.specs.Calls.{IsClosed, StaysBy, TellsBy}
use Rattle.c_session.specs.Keeping.{after, kept, with_boxes}
use Rattle.c_session.specs.declared.session.Session.{Session}

-- ---- the rows behind an identifier

-- those of an answer take the place of what was there
abbrev pub KeepsAfter : {D A : Type 0} {m : _} → ℕ → Session D A m → Result (Vec (ℕ × AnyBox × ℕ) A) Refusal
    → Session D A m → Type 0
KeepsAfter {A = A} id session (Ok rows) new = (boxes : Vec (ℕ × AnyBox × ℕ) A)
    × (boxes.items ≡ objects_after id rows.items) × (new ≡ with_boxes session boxes)
KeepsAfter id session (Err r) new = new ≡ session

-- the store was asked, the session keeps the rows behind the identifier, and the number tells it
abbrev pub AsksAfterBy : {D A : Type 0} {m : _} → Session D A m → Session D A m → Command → ℕ → ℕ → Type 0
AsksAfterBy {D} {A} {m} old new c id number = IsClosed old new number
    ⊎ ((s t : Store D A m) × (r : Result (Vec (ℕ × AnyBox × ℕ) A) Refusal) × (old.store ≡ Some s)
    × Answers s t c boxes_answer r × KeepsAfter id (after old t r) r new × (number ≡ number_of r))

-- the same of a command with what numbers give
abbrev pub AsksAfter : {D A : Type 0} {m : _} {U : Type 0} → Session D A m → Session D A m → Option U
    → (U → Command) → ℕ → ℕ → Type 0
AsksAfter {U = U} old new given c id number = ((given ≡ None) × StaysBy old new 104 number)
    ⊎ ((x : U) × (given ≡ Some x) × AsksAfterBy old new (c x) id number)

-- ---- the greatest identifier

-- the box of all numbers, of two axes or else of three
abbrev pub everywhere : ℕ → RawBox
everywhere axes = if axes == 2
    then raw.Two (negsuc 2147483647 ∷ negsuc 2147483647 ∷ []) (pos 2147483647 ∷ pos 2147483647 ∷ [])
    else raw.Three (negsuc 2147483647 ∷ negsuc 2147483647 ∷ negsuc 2147483647 ∷ [])
    (pos 2147483647 ∷ pos 2147483647 ∷ pos 2147483647 ∷ [])

-- the greatest identifier of the rows that is at most that goes out, and whether there is one
abbrev pub HasLast : {A : Type 0} → ℕ → ℕ → ℕ → Bool → Bool → Result (Vec (ℕ × AnyBox × ℕ) A) Refusal
    → Type 0
HasLast most id id' found found' (Ok rows) = (last : Option ℕ) × IsLast most rows.items last
    × (found' ≡ is_some last) × (id' ≡ unwrap_or last id)
HasLast most id id' found found' (Err r) = (id' ≡ id) × (found' ≡ found)

-- the store was asked for all objects of the layer, and their greatest identifier that is at most that goes out
abbrev pub TellsLast : {D A : Type 0} {m : _} → Session D A m → Session D A m → List ℕ → ℕ → ℕ → ℕ → ℕ → Bool
    → Bool → ℕ → Type 0
TellsLast {A = A} old new name axes most id id' found found' number =
    TellsBy old new (Range name (query.Window (everywhere axes)) None) (boxes_answer {A = A})
    (HasLast most id id' found found') number

-- ---- near objects, whole

-- each was got in turn, from the store as the one before left it
abbrev pub GetsAll : {D A : Type 0} {m : _} → Store D A m → Store D A m → List ℕ → List (ℕ × ℕ)
    → List (ℕ × AnyBox × ℕ) → Type 0
GetsAll s t name [] [] = t ≡ s
GetsAll {D} {A} {m} s t name (n ∷ near) (o ∷ objects) = (mid : Store D A m) × (o.0 ≡ n.0)
    × Answers s mid (Get name n.0) (object_answer n.0) (Ok (o.1, o.2)) × GetsAll mid t name near objects
GetsAll s t name [] (o ∷ objects) = ⊥
GetsAll s t name (n ∷ near) [] = ⊥

-- the nth was refused, or there was no memory for it
abbrev pub IsRefusedAt : {D A : Type 0} {m : _} → Store D A m → Store D A m → List ℕ → List (ℕ × ℕ) → ℕ
    → Refusal → Type 0
IsRefusedAt s t name near n r = ((t ≡ s) × (r ≡ refusal.Memory))
    ⊎ ((x : ℕ × ℕ) × (n < length near) × (slice_index_or near n x ≡ x)
    × Answers s t (Get name x.0) (object_answer x.0) (Err r))

-- the objects that have the tag, if one is asked for
abbrev pub of_tag : Option ℕ → List (ℕ × AnyBox × ℕ) → List (ℕ × AnyBox × ℕ)
of_tag None objects = objects
of_tag (Some tag) objects = objects_with tag objects

-- near objects were got: in their order, those that have the tag; or those before one that was refused
abbrev pub GetsNear : {D A : Type 0} {m : _} → Store D A m → Store D A m → List ℕ → List (ℕ × ℕ) → Option ℕ
    → Result (Vec (ℕ × AnyBox × ℕ) A) Refusal → Type 0
GetsNear s t name near tag (Ok rows) = (objects : List (ℕ × AnyBox × ℕ)) × GetsAll s t name near objects
    × (rows.items ≡ of_tag tag objects)
GetsNear {D} {A} {m} s t name near tag (Err r) = (n : ℕ) × (objects : List (ℕ × AnyBox × ℕ))
    × (mid : Store D A m) × GetsAll s mid name (take n near) objects × IsRefusedAt mid t name near n r

-- the near ones and the objects take the place of those that were there
abbrev pub with_near_rows : {D A : Type 0} {m : _} → Vec (ℕ × ℕ) A → Session D A m
    → Vec (ℕ × AnyBox × ℕ) A → Session D A m
with_near_rows near session rows = record session { near = near; boxes = rows }

-- The store was asked for the nearest, and then for each of them; the session keeps both, and the number tells what
-- was refused.
abbrev pub AsksNearRowsBy : {D A : Type 0} {m : _} → Session D A m → Session D A m → List ℕ → ℕ → RawPoint
    → Option ℕ → ℕ → Type 0
AsksNearRowsBy {D} {A} {m} old new name k point tag number = IsClosed old new number
    ⊎ ((s t : Store D A m) × (e : Refusal) × (old.store ≡ Some s)
    × Answers s t (Nearest name k point) (distances_answer {A = A}) (Err e)
    × (new ≡ record old { store = Some t; detail = detail_of e }) × (number ≡ refusal_number e))
    ⊎ ((s mid t : Store D A m) × (near : Vec (ℕ × ℕ) A) × (r : Result (Vec (ℕ × AnyBox × ℕ) A) Refusal)
    × (old.store ≡ Some s) × Answers s mid (Nearest name k point) distances_answer (Ok near)
    × GetsNear mid t name near.items tag r × (new ≡ kept (with_near_rows near) (after old t r) r)
    × (number ≡ number_of r))

-- the same with a point that numbers give
abbrev pub AsksNearRows : {D A : Type 0} {m : _} → Session D A m → Session D A m → List ℕ → ℕ
    → Option RawPoint → Option ℕ → ℕ → Type 0
AsksNearRows old new name k given tag number = ((given ≡ None) × StaysBy old new 104 number)
    ⊎ ((point : RawPoint) × (given ≡ Some point) × AsksNearRowsBy old new name k point tag number)
