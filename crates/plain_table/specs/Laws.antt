-- What follows from the definitions of the plain table, for the crates that stand on it.
use Rattle.std.proofs.Common.{◌≡◌, ◌⊎◌, inl, inr, ◌∙◌, ℕ, ℤ, List, [], ◌∷◌, Bool, true, false, not, ◌&&◌}
use Rattle.std.proofs.Common.{cond, Option, Some, None, is_some, unwrap_or, length, refl, sym, ap, ap₂, arith}
use Rattle.std.proofs.lemmas.Bool.Decides.{nat_tests}
use Rattle.std.specs.Cmp.{IsTotalOrder, eq_by_cmp_equiv, nat_cmp_total}
use Rattle.std.specs.Cmp.Lexicographic.{nat_list_cmp_total}
use Rattle.std.specs.Cmp.Rules.{signed_items}
use Rattle.std.specs.FinMap.{FinMap, IsAntisymmetric, contains_key, empty, empty_of_len, from_entries, get}
use Rattle.std.specs.FinMap.{get-empty, get-insert, get-remove, insert, len, remove, same_map}
use Rattle.std.specs.FinMap.{nat_cmp-IsAntisymmetric, slice_cmp-IsAntisymmetric}
use Rattle.std.specs.List.{AllByRecursion}
use Rattle.std.specs.Ordering.{int_eq, is_eq, nat_cmp}
use Rattle.std.specs.Prelude.{map, nat_lt}
use Rattle.std.specs.declared.cmp.Ordering.{Ordering}
use Rattle.std.specs.declared.cmp.Ordering.TheVariants.{Less, Equal, Greater}
use lib.Pointwise.{pointwise}
use Rattle.box_math.specs.Bounds.{Bounds}
use Rattle.box_math.specs.Objects.{Object, bounds_of, tag_of}
use Rattle.plain_table.specs.Boxes.{given_bounds, same_bounds}
use Rattle.plain_table.specs.Commands.{Command}
use Rattle.plain_table.specs.Commands.Command.{Create, Insert, Load, Move, Delete, Drop, Get, Count, Range}
use Rattle.plain_table.specs.Commands.Command.{Nearest, Join, Layers, Dump, Check, Reopen}
use Rattle.plain_table.specs.Loads.{given_object}
use Rattle.plain_table.specs.Step.{after, answer_of, changed, changes, first_refusal, is_admitted, kept_or}
use Rattle.plain_table.specs.Step.{refused_or, refusal_of, refusals_of, reply_of}
use Rattle.plain_table.specs.Step.Answer.{Refused}
use Rattle.plain_table.specs.Table.{Layer, Objects, Table, layer_at, no_layer, no_object, object_at}
use Rattle.plain_table.specs.Table.{object_box}
use Rattle.plain_table.specs.declared.refusal.Refusal.{Refusal}

unchanged : (o : Option Refusal) (t : Table) (c : Command) (r : Refusal)
    → Refused r ≡ refused_or o (answer_of t c) → kept_or o t (changed t c) ≡ t
unchanged (Some x) t c r e = refl
unchanged None t (Create name dims fanout) r e = absurd (cc)
unchanged None t (Insert name id box tag) r e = absurd (cc)
unchanged None t (Load name objects) r e = absurd (cc)
unchanged None t (Move name id box) r e = absurd (cc)
unchanged None t (Delete name id) r e = absurd (cc)
unchanged None t (Drop name) r e = absurd (cc)
unchanged None t (Get name id) r e = refl
unchanged None t (Count name) r e = refl
unchanged None t (Range name query tag) r e = refl
unchanged None t (Nearest name k point) r e = refl
unchanged None t (Join first second within) r e = refl
unchanged None t Layers r e = refl
unchanged None t Dump r e = refl
unchanged None t Check r e = refl
unchanged None t Reopen r e = refl

-- a command that is refused changes nothing
pub a_refused_command_changes_nothing : (t : Table) (c : Command) (r : Refusal) → reply_of t c ≡ Refused r
    → after t c ≡ t
a_refused_command_changes_nothing t c r e = unchanged (refusal_of t c) t c r (sym e)

the_refusal : (o : Option Refusal) (t : Table) (c : Command) (r : Refusal)
    → Refused r ≡ refused_or o (answer_of t c) → o ≡ Some r
the_refusal (Some x) t c r e = cc
the_refusal None t (Create name dims fanout) r e = absurd (cc)
the_refusal None t (Insert name id box tag) r e = absurd (cc)
the_refusal None t (Load name objects) r e = absurd (cc)
the_refusal None t (Move name id box) r e = absurd (cc)
the_refusal None t (Delete name id) r e = absurd (cc)
the_refusal None t (Drop name) r e = absurd (cc)
the_refusal None t (Get name id) r e = absurd (cc)
the_refusal None t (Count name) r e = absurd (cc)
the_refusal None t (Range name query tag) r e = absurd (cc)
the_refusal None t (Nearest name k point) r e = absurd (cc)
the_refusal None t (Join first second within) r e = absurd (cc)
the_refusal None t Layers r e = absurd (cc)
the_refusal None t Dump r e = absurd (cc)
the_refusal None t Check r e = absurd (cc)
the_refusal None t Reopen r e = absurd (cc)

-- a reply that refuses shows the first refusal whose condition holds
pub the_refusal_of_a_reply : (t : Table) (c : Command) (r : Refusal) → reply_of t c ≡ Refused r
    → refusal_of t c ≡ Some r
the_refusal_of_a_reply t c r e = the_refusal (refusal_of t c) t c r (sym e)

-- ---- which commands change the table

-- where nothing is refused, no condition holds
pub none_holds : (cs : List (Bool × Refusal)) → first_refusal cs ≡ None → AllByRecursion (λ c. c.0 ≡ false) cs
none_holds [] h = tt
none_holds (c ∷ cs) h = case c.0 h (λ rest. none_holds cs rest)
  where
    case : (b : Bool) → cond b (Some c.1) (first_refusal cs) ≡ None
        → (first_refusal cs ≡ None → AllByRecursion (λ d. d.0 ≡ false) cs)
        → (b ≡ false) × AllByRecursion (λ d. d.0 ≡ false) cs
    case true e rest = absurd (cc)
    case false e rest = (refl, rest e)

both_true : (x y : Bool) → (x && y) ≡ true → (x ≡ true) × (y ≡ true)
both_true true true h = (refl, refl)
both_true true false h = absurd (cc)
both_true false y h = absurd (cc)

either_false : (x y : Bool) → (x && y) ≡ false → (x ≡ false) ⊎ ((x ≡ true) × (y ≡ false))
either_false true true h = absurd (cc)
either_false true false h = inr (refl, refl)
either_false false y h = inl refl

none_from : (o : Option Refusal) → not (is_some o) ≡ true → o ≡ None
none_from None h = refl
none_from (Some r) h = absurd (cc)

kept_from : (o : Option Refusal) (t u : Table) → not (is_some o) ≡ false → kept_or o t u ≡ t
kept_from None t u h = absurd (cc)
kept_from (Some r) t u h = refl

module _ {K X : Type 0} {R : K → K → Ordering} (o : IsTotalOrder R) (m : FinMap R X) (k : K) where
  -- what is put into a map is there
  got_back : (v : X) → get (insert m k v) k ≡ Some v
  got_back v = get-insert o m k v k ∙ ap (λ b. cond b (Some v) (get m k)) ((eq_by_cmp_equiv o).refl k)

  -- so a map that stays the same has it already
  stays_in : (v : X) → insert m k v ≡ m → get m k ≡ Some v
  stays_in v e = ap (λ n. get n k) (sym e) ∙ got_back v

  stays_out : remove m k ≡ m → get m k ≡ None
  stays_out e = ap (λ n. get n k) (sym e) ∙ get-remove o m k k
      ∙ ap (λ b. cond b None (get m k)) ((eq_by_cmp_equiv o).refl k)

  -- to put in what is there changes nothing
  put_again : IsAntisymmetric R → (v : X) → get m k ≡ Some v → insert m k v ≡ m
  put_again same v there = same_map o same _ _ (λ q. get-insert o m k v q ∙ case q (R q k) refl)
    where
      case : (q : K) (r : Ordering) → R q k ≡ r → cond (is_eq r) (Some v) (get m q) ≡ get m q
      case q Less e = refl
      case q Greater e = refl
      case q Equal e = sym there ∙ ap (get m) (sym (same q k e))

same_bounds_refl : (b : Bounds) → same_bounds b b ≡ true
same_bounds_refl b =
    ap₂ (λ (x y : Bool). x && y) ((signed_items b.low b.low).1 refl) ((signed_items b.high b.high).1 refl)

pub same_bounds_are_equal : (a b : Bounds) → same_bounds a b ≡ true → a ≡ b
same_bounds_are_equal a b h =
    let parts = both_true (pointwise int_eq a.low b.low) (pointwise int_eq a.high b.high) h in
    ap₂ (λ (l h : List ℤ). record { low = l; high = h }) ((signed_items a.low b.low).0 parts.0)
    ((signed_items a.high b.high).0 parts.1)

module _ (t : Table) where
  -- a layer that is put into the table, which stays the same, is there already
  layer_stays : (name : List ℕ) (l : Layer) → insert t name l ≡ t → layer_at t name ≡ l
  layer_stays name l e =
      ap (λ (o : Option Layer). unwrap_or o no_layer) (stays_in nat_list_cmp_total t name l e)

  objects_stay : (name : List ℕ) (l : Layer) → insert t name l ≡ t → (layer_at t name).objects ≡ l.objects
  objects_stay name l e = ap (λ (x : Layer). x.objects) (layer_stays name l e)

  -- an admitted command that leaves the table changes nothing in it
  leaves_itself : (c : Command) → is_admitted t c ≡ true → after t c ≡ t
      → (refusal_of t c ≡ None) × (changed t c ≡ t)
  leaves_itself c h e =
      let none = none_from (refusal_of t c) h in
      (none, sym (ap (λ (o : Option Refusal). kept_or o t (changed t c)) none) ∙ e)

  -- a command that changes the table leaves another one
  pub a_change_makes_another_table : (c : Command) → changes t c ≡ true → ¬ (after t c ≡ t)
  a_change_makes_another_table (Create name dims fanout) h e =
      let c = Create name dims fanout in
      let is = leaves_itself c h e in
      let absent = (none_holds (refusals_of t c) is.0).1.1.1.0 in
      let there = stays_in nat_list_cmp_total t name _ is.1 in
      let no = sym absent ∙ ap is_some there in absurd (cc)
  a_change_makes_another_table (Insert name id box tag) h e =
      let c = Insert name id box tag in
      let is = leaves_itself c h e in
      let absent = (none_holds (refusals_of t c) is.0).1.1.1.1.0 in
      let there =
      stays_in nat_cmp_total (layer_at t name).objects id (given_bounds box, tag)
      (sym (objects_stay name _ is.1)) in
      let no = sym absent ∙ ap is_some there in absurd (cc)
  a_change_makes_another_table (Load name []) h e =
      absurd (let no = (both_true (is_admitted t (Load name [])) false h).1 in cc)
  a_change_makes_another_table (Load name (object ∷ objects)) h e =
      let c = Load name (object ∷ objects) in
      let is = leaves_itself c (both_true (is_admitted t c) (nat_lt 0 (length (object ∷ objects))) h).0 e in
      let none : nat_lt 0 (len (layer_at t name).objects) ≡ false =
      (none_holds (refusals_of t c) is.0).1.1.1.1.0 in
      let no_objects = empty_of_len (layer_at t name).objects (grind (arith, nat_tests, none)) in
      let there = ap (λ (m : Objects). get m object.0) (objects_stay name _ is.1)
      ∙ got_back nat_cmp_total (from_entries (map given_object objects)) object.0
      (given_bounds object.1, object.2) in
      let no = sym there ∙ ap (λ (m : Objects). get m object.0) no_objects ∙ get-empty nat_cmp object.0 in
      absurd (cc)
  a_change_makes_another_table (Move name id box) h e =
      let c = Move name id box in
      let parts = both_true (is_admitted t c) _ h in
      let is = leaves_itself c parts.0 e in
      let there =
      stays_in nat_cmp_total (layer_at t name).objects id
      (given_bounds box, tag_of (object_at (layer_at t name) id)) (sym (objects_stay name _ is.1)) in
      let same =
      ap (λ (o : Option Object). same_bounds (bounds_of (unwrap_or o no_object)) (given_bounds box))
      there ∙ same_bounds_refl (given_bounds box) in
      let no = sym parts.1 ∙ ap not same in absurd (cc)
  a_change_makes_another_table (Delete name id) h e =
      let c = Delete name id in
      let is = leaves_itself c h e in
      let there = (none_holds (refusals_of t c) is.0).1.1.0 in
      let absent = stays_out nat_cmp_total (layer_at t name).objects id (sym (objects_stay name _ is.1)) in
      let no = sym there ∙ ap (λ (o : Option Object). not (is_some o)) absent in absurd (cc)
  a_change_makes_another_table (Drop name) h e =
      let is = leaves_itself (Drop name) h e in
      let there = (none_holds (refusals_of t (Drop name)) is.0).1.0 in
      let absent = stays_out nat_list_cmp_total t name is.1 in
      let no = sym there ∙ ap (λ (o : Option Layer). not (is_some o)) absent in absurd (cc)
  a_change_makes_another_table (Get name id) h e = absurd (cc)
  a_change_makes_another_table (Count name) h e = absurd (cc)
  a_change_makes_another_table (Range name query tag) h e = absurd (cc)
  a_change_makes_another_table (Nearest name k point) h e = absurd (cc)
  a_change_makes_another_table (Join first second within) h e = absurd (cc)
  a_change_makes_another_table Layers h e = absurd (cc)
  a_change_makes_another_table Dump h e = absurd (cc)
  a_change_makes_another_table Check h e = absurd (cc)
  a_change_makes_another_table Reopen h e = absurd (cc)

  -- a layer that is there, put in again with the same objects
  put_layer_again : (name : List ℕ) (objects : Objects) → not (contains_key t name) ≡ false
      → objects ≡ (layer_at t name).objects
      → insert t name (record (layer_at t name) { objects = objects }) ≡ t
  put_layer_again name objects there same =
      put_again nat_list_cmp_total t name (slice_cmp-IsAntisymmetric nat_cmp-IsAntisymmetric) _
      (at_name (get t name) refl there
      ∙ ap (λ (m : Objects). Some (record (layer_at t name) { objects = m })) (sym same))
    where
      at_name : (o : Option Layer) → get t name ≡ o → not (is_some o) ≡ false
          → get t name ≡ Some (layer_at t name)
      at_name None e missing = absurd (cc)
      at_name (Some l) e missing = e ∙ ap Some (sym (ap (λ (x : Option Layer). unwrap_or x no_layer) e))

  same_table : (o : Option Refusal) → kept_or o t t ≡ t
  same_table None = refl
  same_table (Some r) = refl

  -- and every other command leaves it as it is
  pub no_change_leaves_the_table : (c : Command) → changes t c ≡ false → after t c ≡ t
  no_change_leaves_the_table (Create name dims fanout) h =
      kept_from (refusal_of t (Create name dims fanout)) t _ h
  no_change_leaves_the_table (Insert name id box tag) h =
      kept_from (refusal_of t (Insert name id box tag)) t _ h
  no_change_leaves_the_table (Load name (object ∷ objects)) h =
      elim (either_false (is_admitted t (Load name (object ∷ objects)))
      (nat_lt 0 (length (object ∷ objects))) h) [
        | inl refused ↦ kept_from (refusal_of t (Load name (object ∷ objects))) t _ refused
        | inr parts ↦ absurd (let none = parts.1 in grind (arith, nat_tests, none))
      ]
  no_change_leaves_the_table (Load name []) h = elim (either_false (is_admitted t (Load name [])) false h) [
    | inl refused ↦ kept_from (refusal_of t (Load name [])) t _ refused
    | inr parts ↦ nothing (none_from (refusal_of t (Load name [])) parts.0)
  ]
    where
      nothing : refusal_of t (Load name []) ≡ None → after t (Load name []) ≡ t
      nothing none =
          let hold = none_holds (refusals_of t (Load name [])) none in
          let few : nat_lt 0 (len (layer_at t name).objects) ≡ false = hold.1.1.1.1.0 in
          let no_objects = empty_of_len (layer_at t name).objects (grind (arith, nat_tests, few)) in
          ap (λ (o : Option Refusal). kept_or o t (changed t (Load name []))) none
          ∙ put_layer_again name empty hold.1.0 (sym no_objects)
  no_change_leaves_the_table (Move name id box) h =
      elim (either_false (is_admitted t (Move name id box)) _ h) [
        | inl refused ↦ kept_from (refusal_of t (Move name id box)) t _ refused
        | inr parts ↦ nothing (none_from (refusal_of t (Move name id box)) parts.0)
            (same_bounds_are_equal (object_box (layer_at t name) id) (given_bounds box) (turned _ parts.1))
      ]
    where
      turned : (b : Bool) → not b ≡ false → b ≡ true
      turned true h = refl
      turned false h = absurd (cc)

      at_id : (o : Option Object) → get (layer_at t name).objects id ≡ o → not (is_some o) ≡ false
          → get (layer_at t name).objects id ≡ Some (object_at (layer_at t name) id)
      at_id None e missing = absurd (cc)
      at_id (Some b) e missing = e ∙ ap Some (sym (ap (λ (x : Option Object). unwrap_or x no_object) e))

      nothing : refusal_of t (Move name id box) ≡ None → object_box (layer_at t name) id ≡ given_bounds box
          → after t (Move name id box) ≡ t
      nothing none same =
          let hold = none_holds (refusals_of t (Move name id box)) none in
          let kept = tag_of (object_at (layer_at t name) id) in
          let there = at_id (get (layer_at t name).objects id) refl hold.1.1.1.1.0
          ∙ ap (λ (b : Bounds). Some (b, kept)) same in
          ap (λ (o : Option Refusal). kept_or o t (changed t (Move name id box))) none
          ∙ put_layer_again name _ hold.1.0
          (put_again nat_cmp_total (layer_at t name).objects id nat_cmp-IsAntisymmetric
          (given_bounds box, kept) there)
  no_change_leaves_the_table (Delete name id) h = kept_from (refusal_of t (Delete name id)) t _ h
  no_change_leaves_the_table (Drop name) h = kept_from (refusal_of t (Drop name)) t _ h
  no_change_leaves_the_table (Get name id) h = same_table (refusal_of t (Get name id))
  no_change_leaves_the_table (Count name) h = same_table (refusal_of t (Count name))
  no_change_leaves_the_table (Range name query tag) h = same_table (refusal_of t (Range name query tag))
  no_change_leaves_the_table (Nearest name k point) h = same_table (refusal_of t (Nearest name k point))
  no_change_leaves_the_table (Join first second within) h =
      same_table (refusal_of t (Join first second within))
  no_change_leaves_the_table Layers h = refl
  no_change_leaves_the_table Dump h = refl
  no_change_leaves_the_table Check h = refl
  no_change_leaves_the_table Reopen h = refl
