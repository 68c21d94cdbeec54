-- What a session keeps of an answer.
use Rattle.std.specs.Prelude.{ℕ, Result, Ok, Err, Vec, Some}
use Rattle.plain_table.specs.declared.boxes.AnyBox.{AnyBox}
use Rattle.plain_table.specs.declared.refusal.Refusal.{Refusal}
use Rattle.layer_store.specs.declared.store.Store.{Store}
use Rattle.c_rows.specs.Numbers.{detail_after}
use Rattle.c_session.specs.declared.session.Session.{Session}

-- its store is now t, which answered so: it keeps the number that came with a refusal
abbrev pub after : {D A : Type 0} {m : _} {T : Type 0} → Session D A m → Store D A m → Result T Refusal
    → Session D A m
after old t answer = record old { store = Some t; detail = detail_after answer old.detail }

-- the rows of an answer take the place of those that were there
abbrev pub with_boxes : {D A : Type 0} {m : _} → Session D A m → Vec (ℕ × AnyBox × ℕ) A → Session D A m
with_boxes session rows = record session { boxes = rows }

abbrev pub with_near : {D A : Type 0} {m : _} → Session D A m → Vec (ℕ × ℕ) A → Session D A m
with_near session rows = record session { near = rows }

abbrev pub with_pairs : {D A : Type 0} {m : _} → Session D A m → Vec (ℕ × ℕ) A → Session D A m
with_pairs session rows = record session { pairs = rows }

-- or nothing is kept of them
abbrev pub as_it_is : {D A : Type 0} {m : _} {T : Type 0} → Session D A m → T → Session D A m
as_it_is session answer = session

-- what is kept, where it was answered
abbrev pub kept : {D A : Type 0} {m : _} {T : Type 0} → (Session D A m → T → Session D A m) → Session D A m
    → Result T Refusal → Session D A m
kept keep session (Ok x) = keep session x
kept keep session (Err r) = session
