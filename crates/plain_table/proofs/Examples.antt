-- Worked examples of the plain table: what single commands answer on small tables, and what they leave.
-- No other proof rests on them. A definition that says another thing than docs/COMMANDS.md is refused here.
use Rattle.std.proofs.Common.{◌≡◌, ℕ, List, [], ◌∷◌, true, false, refl, sym, ap, ◌∙◌, ℤ, pos, negsuc, Option}
use Rattle.std.proofs.Common.{Some, None, Bool, cond, not, T, codes, replicate, map, length}
use Rattle.std.specs.Cmp.{IsTotalOrder, alike_right, eq_by_cmp_equiv, nat_cmp_total}
use Rattle.std.specs.Cmp.Lexicographic.{slice_cmp, nat_list_cmp_total}
use Rattle.std.specs.Ordering.{eq_by_cmp, is_eq, nat_cmp}
use Rattle.std.specs.FinMap.{IsAntisymmetric, put, is_sorted, find, from_entries, from_sorted, empty}
use Rattle.std.specs.FinMap.{empty_of_len, get, contains_key, len, insert, remove, same_entries_map, same_map}
use Rattle.std.specs.FinMap.{entries-insert, entries-from_sorted, get-from_entries, get-from_sorted}
use Rattle.std.specs.FinMap.{get-remove, len-entries, nat_cmp-IsAntisymmetric, slice_cmp-IsAntisymmetric}
use Rattle.std.specs.FinMap.Entries.{find-where_key, is_sorted-where_key, where_key}
use Rattle.std.specs.declared.cmp.Ordering.{Ordering}
use Rattle.box_math.specs.Bounds.{Bounds, holds_test, meets_test, ordered_test, within_test}
use Rattle.box_math.specs.Measures.{near_test}
use Rattle.box_math.specs.Objects.{Object}
use Rattle.plain_table.specs.Commands.Command.{Create, Insert, Load, Move, Delete, Drop, Get, Count, Range}
use Rattle.plain_table.specs.Commands.Command.{Nearest, Join, Layers, Dump, Check, Reopen}
use Rattle.plain_table.specs.Listings.DumpLine.{CreateLine, InsertLine}
use Rattle.plain_table.specs.Loads.{given_object}
use Rattle.plain_table.specs.Refusals.{refusal_number, refusal_name}
use Rattle.plain_table.specs.Step.{reply_of, after, changes}
use Rattle.plain_table.specs.Step.Answer.{Done, Refused, Boxes, Counted, Distances, Pairs, Listed, Dumped}
use Rattle.plain_table.specs.Table.{Table, Layer, is_layer_name, is_dims, is_fanout, object_count}
use Rattle.plain_table.specs.declared.boxes.RawBox.{RawBox}
use Rattle.plain_table.specs.declared.boxes.RawBox.TheVariants.{Two, Three}
use Rattle.plain_table.specs.declared.boxes.RawPoint.TheVariants as point
use Rattle.plain_table.specs.declared.queries.RawQuery.{RawQuery}
use Rattle.plain_table.specs.declared.queries.RawQuery.TheVariants.{Window, Inside, Around, Point}
use Rattle.plain_table.specs.declared.refusal.Refusal.{Refusal}
use Rattle.plain_table.specs.declared.refusal.Refusal.TheVariants as refusal

-- ---- tables as lists

module _ {K X : Type 0} (R : K → K → Ordering) where
  -- how many entries a list in order makes
  len_of : (es : List (K × X)) → T (is_sorted R es) → len (from_sorted {R = R} es) ≡ length es
  len_of es h = len-entries (from_sorted es) ∙ ap length (entries-from_sorted R es h)

  -- to put an entry into the map of a list is to put it into the list
  put_into : IsTotalOrder R → (es : List (K × X)) (k : K) (v : X) → T (is_sorted R es)
      → T (is_sorted R (put R k v es)) → insert (from_sorted {R = R} es) k v ≡ from_sorted (put R k v es)
  put_into o es k v h h' =
      same_entries_map _ _
      (entries-insert o _ k v ∙ ap (put R k v) (entries-from_sorted R es h)
      ∙ sym (entries-from_sorted R _ h'))

  -- to take an entry out of the map of a list is to take it out of the list
  taken_from : IsTotalOrder R → IsAntisymmetric R → (es : List (K × X)) (k : K) → T (is_sorted R es)
      → remove (from_sorted {R = R} es) k ≡ from_sorted (where_key R (λ x. not (eq_by_cmp R k x)) es)
  taken_from o same es k h =
      same_map o same _ _
      (λ q. get-remove o _ k q ∙ ap (cond (eq_by_cmp R q k) None) (get-from_sorted R es q h)
      ∙ sym (get-from_sorted R _ q (is_sorted-where_key R _ es h)
      ∙ find-where_key R _ q (λ x t. ap (λ r. not (is_eq r)) (sym (alike_right o q x k t))) es
      ∙ turned (eq_by_cmp R k q) _ _ ∙ ap (λ b. cond b None (find R q es)) ((eq_by_cmp_equiv o).symm k q)))
    where
      turned : (b : Bool) (x y : Option X) → cond (not b) x y ≡ cond b y x
      turned true x y = refl
      turned false x y = refl

  -- the map of entries in order is that of a list in order
  of_entries : IsTotalOrder R → IsAntisymmetric R → (es : List (K × X)) → T (is_sorted R es)
      → from_entries {R = R} es ≡ from_sorted es
  of_entries o same es h = same_map o same _ _ (λ q. get-from_entries o es q ∙ sym (get-from_sorted R es q h))

abbrev pub table : List (List ℕ × Layer) → Table
table layers = from_sorted {R = slice_cmp nat_cmp} layers

abbrev pub layer : ℕ → ℕ → List (ℕ × Object) → Layer
layer dims fanout objects =
    record { dims = dims; fanout = fanout; objects = from_sorted {R = nat_cmp} objects }

abbrev pub bounds : List ℤ → List ℤ → Bounds
bounds low high = record { low = low; high = high }

-- the coordinates of a point of the plane, and of space
abbrev pub at : ℕ → ℕ → List ℤ
at x y = pos x ∷ pos y ∷ []

abbrev in_space : ℕ → ℕ → ℕ → List ℤ
in_space x y z = pos x ∷ pos y ∷ pos z ∷ []

-- the first and the last coordinate that there is
abbrev lowest : ℤ
lowest = negsuc 2147483647

abbrev highest : ℤ
highest = pos 2147483647

abbrev pub a : List ℕ
a = codes "a"

-- two squares that touch in the point (1, 1)
abbrev pub squares : List (ℕ × Object)
squares = (1, (bounds (at 0 0) (at 1 1), 0)) ∷ (2, (bounds (at 1 1) (at 2 2), 0)) ∷ []

abbrev pub empty_layer : List (List ℕ × Layer)
empty_layer = (a, layer 2 4 []) ∷ []

abbrev pub touching : List (List ℕ × Layer)
touching = (a, layer 2 4 squares) ∷ []

no_objects : from_sorted {X = Object} {R = nat_cmp} [] ≡ empty
no_objects = empty_of_len (from_sorted []) (len_of nat_cmp [] tt)

empty_at : get (table empty_layer) a ≡ Some (layer 2 4 [])
empty_at = get-from_sorted (slice_cmp nat_cmp) empty_layer a tt

touching_at : get (table touching) a ≡ Some (layer 2 4 squares)
touching_at = get-from_sorted (slice_cmp nat_cmp) touching a tt

touching_count : object_count (table touching) ≡ 2
touching_count = rw (entries-from_sorted (slice_cmp nat_cmp) touching tt, len_of nat_cmp squares tt) refl

-- ---- names and numbers

good_names : map is_layer_name (a ∷ codes "z" ∷ codes "a_9" ∷ codes "a0z" ∷ codes "abcdefghijklmnopqrstuvwx" ∷ []) ≡ replicate 5 true
good_names = refl

bad_names : map is_layer_name ([] ∷ codes "A" ∷ codes "aB" ∷ codes "9a" ∷ codes "_a" ∷ codes "a-b" ∷ codes "a b" ∷ codes "abcdefghijklmnopqrstuvwxy" ∷ []) ≡ replicate 8 false
bad_names = refl

-- the bytes beside `a`, `z`, `0`, `9` and `_`
no_names : map (λ byte. is_layer_name (97 ∷ byte ∷ [])) (96 ∷ 123 ∷ 47 ∷ 58 ∷ 94 ∷ 0 ∷ 255 ∷ []) ≡ replicate 7 false
no_names = refl

two_or_three_axes : map is_dims (0 ∷ 1 ∷ 2 ∷ 3 ∷ 4 ∷ 23 ∷ []) ≡ false ∷ false ∷ true ∷ true ∷ false ∷ false ∷ []
two_or_three_axes = refl

fanouts_from_4_to_100 : map is_fanout (0 ∷ 3 ∷ 4 ∷ 100 ∷ 101 ∷ []) ≡ false ∷ false ∷ true ∷ true ∷ false ∷ []
fanouts_from_4_to_100 = refl

abbrev refusals : List Refusal
refusals = refusal.BadName ∷ refusal.LayerExists ∷ refusal.NoLayer ∷ refusal.BadDims ∷ refusal.BadFanout
    ∷ refusal.TooManyLayers ∷ refusal.BadBox ∷ refusal.WrongDims ∷ refusal.Duplicate ∷ refusal.NoObject
    ∷ refusal.TooManyObjects ∷ refusal.NotEmpty ∷ refusal.DuplicateInLoad
    7 ∷ refusal.BadCount ∷ refusal.DimsDiffer
    ∷ refusal.Memory ∷ refusal.Device ∷ refusal.Damaged 7 ∷ refusal.StoreFailed 7 ∷ refusal.NotClosed
    ∷ refusal.NotAStore ∷ refusal.WrongVersion ∷ refusal.BadCache ∷ refusal.BadLine ∷ refusal.NoPages ∷ []

refusals_are_numbered : map refusal_number
    refusals ≡ 1 ∷ 2 ∷ 3 ∷ 4 ∷ 5 ∷ 6 ∷ 7 ∷ 8 ∷ 9 ∷ 10 ∷ 11 ∷ 12 ∷ 13 ∷ 14 ∷ 15 ∷ 16 ∷ 17 ∷ 18 ∷ 19 ∷ 20 ∷ 21
    ∷ 22 ∷ 23 ∷ 24 ∷ 25 ∷ []
refusals_are_numbered = refl

refusals_are_named : map refusal_name refusals ≡ codes "BadName" ∷ codes "LayerExists" ∷ codes "NoLayer" ∷ codes "BadDims" ∷ codes "BadFanout"
    ∷ codes "TooManyLayers" ∷ codes "BadBox" ∷ codes "WrongDims" ∷ codes "Duplicate" ∷ codes "NoObject"
    ∷ codes "TooManyObjects" ∷ codes "NotEmpty" ∷ codes "DuplicateInLoad" ∷ codes "BadCount" ∷ codes "DimsDiffer"
    ∷ codes "Memory" ∷ codes "Device" ∷ codes "Damaged" ∷ codes "StoreFailed" ∷ codes "NotClosed"
    ∷ codes "NotAStore" ∷ codes "WrongVersion" ∷ codes "BadCache" ∷ codes "BadLine" ∷ codes "NoPages" ∷ []
refusals_are_named = refl

-- ---- create

pub create_is_done : reply_of (table []) (Create a 2 4) ≡ Done
create_is_done =
    rw (
      get-from_sorted {X = Layer} (slice_cmp nat_cmp) [] a tt,
      len_of {X = Layer} (slice_cmp nat_cmp) [] tt,
    ) refl

pub create_changes_the_table : changes (table []) (Create a 2 4) ≡ true
create_changes_the_table =
    rw (
      get-from_sorted {X = Layer} (slice_cmp nat_cmp) [] a tt,
      len_of {X = Layer} (slice_cmp nat_cmp) [] tt,
    ) refl

pub a_refused_create_does_not : changes (table touching) (Create a 3 100) ≡ false
a_refused_create_does_not = rw touching_at refl

pub create_makes_an_empty_layer : after (table []) (Create a 2 4) ≡ table empty_layer
create_makes_an_empty_layer =
    rw (
      get-from_sorted {X = Layer} (slice_cmp nat_cmp) [] a tt,
      len_of {X = Layer} (slice_cmp nat_cmp) [] tt,
      ← no_objects,
    )
    (put_into (slice_cmp nat_cmp) nat_list_cmp_total [] a (layer 2 4 []) tt tt)

pub create_of_a_layer_that_is_there : reply_of (table touching) (Create a 3 100) ≡ Refused refusal.LayerExists
create_of_a_layer_that_is_there = rw touching_at refl

pub a_refused_create_changes_nothing : after (table touching) (Create a 3 100) ≡ table touching
a_refused_create_changes_nothing = rw touching_at refl

create_in_capitals : (t : Table) → reply_of t (Create (codes "A") 2 4) ≡ Refused refusal.BadName
create_in_capitals t = refl

create_of_25_letters : (t : Table) → reply_of t (Create (codes "abcdefghijklmnopqrstuvwxy") 2 4) ≡ Refused refusal.BadName
create_of_25_letters t = refl

create_with_four_axes : (t : Table) → reply_of t (Create a 4 4) ≡ Refused refusal.BadDims
create_with_four_axes t = refl

create_with_a_fanout_of_3 : (t : Table) → reply_of t (Create a 2 3) ≡ Refused refusal.BadFanout
create_with_a_fanout_of_3 t = refl

create_with_a_fanout_of_101 : (t : Table) → reply_of t (Create a 2 101) ≡ Refused refusal.BadFanout
create_with_a_fanout_of_101 t = refl

bad_name_before_bad_dims : (t : Table) → reply_of t (Create (codes "A") 4 3) ≡ Refused refusal.BadName
bad_name_before_bad_dims t = refl

bad_dims_before_bad_fanout : (t : Table) → reply_of t (Create a 4 3) ≡ Refused refusal.BadDims
bad_dims_before_bad_fanout t = refl

bad_fanout_before_layer_exists : reply_of (table touching) (Create a 2 3) ≡ Refused refusal.BadFanout
bad_fanout_before_layer_exists = refl

layer_exists_before_too_many_layers : (t : Table) → contains_key t a ≡ true → len t ≡ 60
    → reply_of t (Create a 2 4) ≡ Refused refusal.LayerExists
layer_exists_before_too_many_layers t there full = rw there refl

a_layer_beside_60 : (t : Table) → contains_key t a ≡ false → len t ≡ 60
    → reply_of t (Create a 2 4) ≡ Refused refusal.TooManyLayers
a_layer_beside_60 t new full = rw (new, full) refl

a_layer_beside_59 : (t : Table) → contains_key t a ≡ false → len t ≡ 59 → reply_of t (Create a 2 4) ≡ Done
a_layer_beside_59 t new room = rw (new, room) refl

-- ---- insert

insert_is_done : reply_of (table touching) (Insert a 18446744073709551615 (Two (at 0 0) (at 0 0)) 0) ≡ Done
unfolding ordered_test
insert_is_done =
    rw (touching_at, touching_count, get-from_sorted nat_cmp squares 18446744073709551615 tt) refl

-- put in before the others, since its identifier is less
insert_adds_an_object : after (table touching) (Insert a 0 (Two (at 0 0) (at 9 9)) 0) ≡ table
    ((a, layer 2 4 ((0, (bounds (at 0 0) (at 9 9), 0)) ∷ squares)) ∷ [])
unfolding ordered_test
insert_adds_an_object =
    rw (
      touching_at,
      touching_count,
      get-from_sorted nat_cmp squares 0 tt,
      put_into nat_cmp nat_cmp_total squares 0 (bounds (at 0 0) (at 9 9), 0) tt tt,
    )
    (put_into (slice_cmp nat_cmp) nat_list_cmp_total touching a
    (layer 2 4 ((0, (bounds (at 0 0) (at 9 9), 0)) ∷ squares)) tt tt)

insert_of_an_identifier_that_is_there : reply_of (table touching)
    (Insert a 1 (Two (at 5 5) (at 6 6)) 0) ≡ Refused refusal.Duplicate
unfolding ordered_test
insert_of_an_identifier_that_is_there =
    rw (touching_at, touching_count, get-from_sorted nat_cmp squares 1 tt) refl

a_refused_insert_changes_nothing : after (table touching) (Insert a 1 (Two (at 5 5) (at 6 6)) 0) ≡ table touching
unfolding ordered_test
a_refused_insert_changes_nothing = rw (touching_at, touching_count, get-from_sorted nat_cmp squares 1 tt) refl

insert_of_a_low_above_its_high : reply_of (table touching) (Insert a 3 (Two (at 1 0) (at 0 0)) 0) ≡ Refused
    refusal.BadBox
unfolding ordered_test
insert_of_a_low_above_its_high = rw touching_at refl

bad_box_on_the_last_axis_too : reply_of (table touching) (Insert a 3 (Two (at 0 1) (at 0 0)) 0) ≡ Refused
    refusal.BadBox
unfolding ordered_test
bad_box_on_the_last_axis_too = rw touching_at refl

insert_into_no_layer : reply_of (table []) (Insert a 1 (Two (at 0 0) (at 1 1)) 0) ≡ Refused refusal.NoLayer
insert_into_no_layer = rw (get-from_sorted {X = Layer} (slice_cmp nat_cmp) [] a tt) refl

-- the name in capitals is no layer's either
bad_name_before_no_layer : (t : Table) (id : ℕ) (box : RawBox) → reply_of t (Insert (codes "A") id box 0) ≡ Refused refusal.BadName
bad_name_before_no_layer t id box = refl

no_layer_before_bad_box : reply_of (table []) (Insert a 1 (Two (at 1 1) (at 0 0)) 0) ≡ Refused refusal.NoLayer
no_layer_before_bad_box = rw (get-from_sorted {X = Layer} (slice_cmp nat_cmp) [] a tt) refl

wrong_dims_before_bad_box : reply_of (table touching)
    (Insert a 1 (Three (in_space 1 1 1) (in_space 0 0 0)) 0) ≡ Refused refusal.WrongDims
wrong_dims_before_bad_box = rw touching_at refl

bad_box_before_duplicate : reply_of (table touching) (Insert a 1 (Two (at 1 1) (at 0 0)) 0) ≡ Refused refusal.BadBox
unfolding ordered_test
bad_box_before_duplicate = rw touching_at refl

duplicate_before_too_many_objects : (t : Table) → get t a ≡ Some (layer 2 4 squares)
    → object_count t ≡ 1073741824
    → reply_of t (Insert a 1 (Two (at 0 0) (at 1 1)) 0) ≡ Refused refusal.Duplicate
unfolding ordered_test
duplicate_before_too_many_objects t there full = rw (there, full, get-from_sorted nat_cmp squares 1 tt) refl

an_object_beside_2_to_the_30 : (t : Table) → get t a ≡ Some (layer 2 4 squares) → object_count t ≡ 1073741824
    → reply_of t (Insert a 3 (Two (at 0 0) (at 1 1)) 0) ≡ Refused refusal.TooManyObjects
unfolding ordered_test
an_object_beside_2_to_the_30 t there full = rw (there, full, get-from_sorted nat_cmp squares 3 tt) refl

an_object_beside_one_less : (t : Table) → get t a ≡ Some (layer 2 4 squares) → object_count t ≡ 1073741823
    → reply_of t (Insert a 3 (Two (at 0 0) (at 1 1)) 0) ≡ Done
unfolding ordered_test
an_object_beside_one_less t there room = rw (there, room, get-from_sorted nat_cmp squares 3 tt) refl

-- ---- load

abbrev given : ℕ → ℕ → ℕ × RawBox × ℕ
given id x = (id, Two (at x 0) (at x 0), 0)

abbrev five_points : List (ℕ × RawBox × ℕ)
five_points = given 1 0 ∷ given 2 1 ∷ given 3 2 ∷ given 4 3 ∷ given 5 10 ∷ []

abbrev loaded_points : List (ℕ × Object)
loaded_points = map (λ (object : ℕ × RawBox × ℕ). given_object object) five_points

empty_count : object_count (table empty_layer) ≡ 0
empty_count =
    rw (entries-from_sorted (slice_cmp nat_cmp) empty_layer tt, len_of {X = Object} nat_cmp [] tt) refl

load_is_done : reply_of (table empty_layer) (Load a five_points) ≡ Done
unfolding ordered_test
load_is_done = rw (empty_at, empty_count, len_of {X = Object} nat_cmp [] tt) refl

load_adds_all_objects : after (table empty_layer) (Load a five_points) ≡ table ((a, layer 2 4 loaded_points) ∷ [])
unfolding ordered_test
load_adds_all_objects =
    rw (
      empty_at,
      empty_count,
      len_of {X = Object} nat_cmp [] tt,
      of_entries nat_cmp nat_cmp_total nat_cmp-IsAntisymmetric loaded_points tt,
    )
    (put_into (slice_cmp nat_cmp) nat_list_cmp_total empty_layer a (layer 2 4 loaded_points) tt tt)

load_into_a_layer_with_objects : reply_of (table touching) (Load a []) ≡ Refused refusal.NotEmpty
load_into_a_layer_with_objects = rw (touching_at, len_of nat_cmp squares tt) refl

load_of_an_identifier_twice : reply_of (table empty_layer)
    (Load a (given 1 0 ∷ given 2 1 ∷ given 1 2 ∷ [])) ≡ Refused (refusal.DuplicateInLoad 1)
unfolding ordered_test
load_of_an_identifier_twice = rw (empty_at, len_of {X = Object} nat_cmp [] tt) refl

-- whichever was given first
load_of_two_identifiers_twice : reply_of (table empty_layer)
    (Load a (given 7 0 ∷ given 7 1 ∷ given 3 2 ∷ given 9 0 ∷ given 3 2 ∷ [])) ≡ Refused
    (refusal.DuplicateInLoad 3)
unfolding ordered_test
load_of_two_identifiers_twice = rw (empty_at, len_of {X = Object} nat_cmp [] tt) refl

load_into_no_layer : reply_of (table []) (Load a five_points) ≡ Refused refusal.NoLayer
load_into_no_layer = rw (get-from_sorted {X = Layer} (slice_cmp nat_cmp) [] a tt) refl

-- one box is in space, and another has a low above its high
load_wrong_dims_before_bad_box : reply_of (table touching)
    (Load a ((1, Two (at 1 1) (at 0 0), 0) ∷ (2, Three (in_space 0 0 0) (in_space 0 0 0), 0) ∷ [])) ≡ Refused
    refusal.WrongDims
load_wrong_dims_before_bad_box = rw touching_at refl

load_bad_box_before_not_empty : reply_of (table touching)
    (Load a (given 1 0 ∷ (2, Two (at 1 1) (at 0 0), 0) ∷ [])) ≡ Refused refusal.BadBox
unfolding ordered_test
load_bad_box_before_not_empty = rw touching_at refl

not_empty_before_an_identifier_twice : reply_of (table touching)
    (Load a (given 1 0 ∷ given 1 0 ∷ [])) ≡ Refused refusal.NotEmpty
unfolding ordered_test
not_empty_before_an_identifier_twice = rw (touching_at, len_of nat_cmp squares tt) refl

an_identifier_twice_before_too_many_objects : (t : Table) → get t a ≡ Some (layer 2 4 [])
    → object_count t ≡ 1073741824
    → reply_of t (Load a (given 1 0 ∷ given 1 0 ∷ [])) ≡ Refused (refusal.DuplicateInLoad 1)
unfolding ordered_test
an_identifier_twice_before_too_many_objects t there full = rw (there, len_of {X = Object} nat_cmp [] tt) refl

two_objects_beside_one_less : (t : Table) → get t a ≡ Some (layer 2 4 []) → object_count t ≡ 1073741823
    → reply_of t (Load a (given 1 0 ∷ given 2 0 ∷ [])) ≡ Refused refusal.TooManyObjects
unfolding ordered_test
two_objects_beside_one_less t there full = rw (there, full, len_of {X = Object} nat_cmp [] tt) refl

two_objects_beside_two_less : (t : Table) → get t a ≡ Some (layer 2 4 []) → object_count t ≡ 1073741822
    → reply_of t (Load a (given 1 0 ∷ given 2 0 ∷ [])) ≡ Done
unfolding ordered_test
two_objects_beside_two_less t there full = rw (there, full, len_of {X = Object} nat_cmp [] tt) refl

load_of_nothing_is_done : reply_of (table empty_layer) (Load a []) ≡ Done
load_of_nothing_is_done = rw (empty_at, empty_count, len_of {X = Object} nat_cmp [] tt) refl

load_of_nothing_is_no_change : changes (table empty_layer) (Load a []) ≡ false
load_of_nothing_is_no_change = rw (empty_at, empty_count, len_of {X = Object} nat_cmp [] tt) refl

load_is_a_change : changes (table empty_layer) (Load a five_points) ≡ true
unfolding ordered_test
load_is_a_change = rw (empty_at, empty_count, len_of {X = Object} nat_cmp [] tt) refl

-- ---- move

move_is_done : reply_of (table touching) (Move a 1 (Two (at 5 5) (at 6 6))) ≡ Done
unfolding ordered_test
move_is_done = rw (touching_at, get-from_sorted nat_cmp squares 1 tt) refl

move_gives_another_box : after (table touching) (Move a 1 (Two (at 5 5) (at 6 6))) ≡ table
    ((a, layer 2 4 ((1, (bounds (at 5 5) (at 6 6), 0)) ∷ (2, (bounds (at 1 1) (at 2 2), 0)) ∷ [])) ∷ [])
unfolding ordered_test
move_gives_another_box =
    rw (
      touching_at,
      get-from_sorted nat_cmp squares 1 tt,
      put_into nat_cmp nat_cmp_total squares 1 (bounds (at 5 5) (at 6 6), 0) tt tt,
    )
    (put_into (slice_cmp nat_cmp) nat_list_cmp_total touching a
    (layer 2 4 ((1, (bounds (at 5 5) (at 6 6), 0)) ∷ (2, (bounds (at 1 1) (at 2 2), 0)) ∷ [])) tt tt)

move_is_a_change : changes (table touching) (Move a 1 (Two (at 5 5) (at 6 6))) ≡ true
unfolding ordered_test
move_is_a_change = rw (touching_at, get-from_sorted nat_cmp squares 1 tt) refl

move_to_the_same_box_is_done : reply_of (table touching) (Move a 1 (Two (at 0 0) (at 1 1))) ≡ Done
unfolding ordered_test
move_to_the_same_box_is_done = rw (touching_at, get-from_sorted nat_cmp squares 1 tt) refl

move_to_the_same_box_is_no_change : changes (table touching) (Move a 1 (Two (at 0 0) (at 1 1))) ≡ false
unfolding ordered_test
move_to_the_same_box_is_no_change = rw (touching_at, get-from_sorted nat_cmp squares 1 tt) refl

move_of_an_identifier_that_is_not_there : reply_of (table touching)
    (Move a 9 (Two (at 0 0) (at 1 1))) ≡ Refused refusal.NoObject
unfolding ordered_test
move_of_an_identifier_that_is_not_there = rw (touching_at, get-from_sorted nat_cmp squares 9 tt) refl

move_bad_box_before_no_object : reply_of (table touching) (Move a 9 (Two (at 1 1) (at 0 0))) ≡ Refused refusal.BadBox
unfolding ordered_test
move_bad_box_before_no_object = rw touching_at refl

move_wrong_dims_before_bad_box : reply_of (table touching)
    (Move a 9 (Three (in_space 1 1 1) (in_space 0 0 0))) ≡ Refused refusal.WrongDims
move_wrong_dims_before_bad_box = rw touching_at refl

move_in_no_layer : reply_of (table []) (Move a 1 (Two (at 0 0) (at 1 1))) ≡ Refused refusal.NoLayer
move_in_no_layer = rw (get-from_sorted {X = Layer} (slice_cmp nat_cmp) [] a tt) refl

-- ---- delete

delete_is_done : reply_of (table touching) (Delete a 1) ≡ Done
delete_is_done = rw (touching_at, get-from_sorted nat_cmp squares 1 tt) refl

delete_takes_the_object_out : after (table touching) (Delete a 1) ≡ table
    ((a, layer 2 4 ((2, (bounds (at 1 1) (at 2 2), 0)) ∷ [])) ∷ [])
delete_takes_the_object_out =
    rw (
      touching_at,
      get-from_sorted nat_cmp squares 1 tt,
      taken_from nat_cmp nat_cmp_total nat_cmp-IsAntisymmetric squares 1 tt,
    )
    (put_into (slice_cmp nat_cmp) nat_list_cmp_total touching a
    (layer 2 4 ((2, (bounds (at 1 1) (at 2 2), 0)) ∷ [])) tt tt)

delete_is_a_change : changes (table touching) (Delete a 1) ≡ true
delete_is_a_change = rw (touching_at, get-from_sorted nat_cmp squares 1 tt) refl

delete_of_an_identifier_that_is_not_there : reply_of (table touching) (Delete a 99) ≡ Refused refusal.NoObject
delete_of_an_identifier_that_is_not_there = rw (touching_at, get-from_sorted nat_cmp squares 99 tt) refl

delete_in_no_layer : reply_of (table []) (Delete a 1) ≡ Refused refusal.NoLayer
delete_in_no_layer = rw (get-from_sorted {X = Layer} (slice_cmp nat_cmp) [] a tt) refl

-- ---- drop

drop_is_done : reply_of (table touching) (Drop a) ≡ Done
drop_is_done = rw touching_at refl

-- with its objects
drop_takes_the_layer_out : after (table touching) (Drop a) ≡ table []
drop_takes_the_layer_out =
    rw touching_at
    (taken_from (slice_cmp nat_cmp) nat_list_cmp_total (slice_cmp-IsAntisymmetric nat_cmp-IsAntisymmetric)
    touching a tt)

drop_is_a_change : changes (table touching) (Drop a) ≡ true
drop_is_a_change = rw touching_at refl

drop_of_no_layer : reply_of (table touching) (Drop (codes "q")) ≡ Refused refusal.NoLayer
drop_of_no_layer = rw (get-from_sorted (slice_cmp nat_cmp) touching (codes "q") tt) refl

drop_of_no_name : (t : Table) → reply_of t (Drop (codes "A")) ≡ Refused refusal.BadName
drop_of_no_name t = refl

-- ---- get

pub get_shows_the_object : reply_of (table touching) (Get a 2) ≡ Boxes ((2, (bounds (at 1 1) (at 2 2), 0)) ∷ [])
get_shows_the_object = rw (touching_at, get-from_sorted nat_cmp squares 2 tt) refl

get_of_an_identifier_that_is_not_there : reply_of (table touching) (Get a 3) ≡ Refused refusal.NoObject
get_of_an_identifier_that_is_not_there = rw (touching_at, get-from_sorted nat_cmp squares 3 tt) refl

get_of_no_layer : reply_of (table touching) (Get (codes "q") 2) ≡ Refused refusal.NoLayer
get_of_no_layer = rw (get-from_sorted (slice_cmp nat_cmp) touching (codes "q") tt) refl

get_of_no_name : (t : Table) (id : ℕ) → reply_of t (Get (codes "A") id) ≡ Refused refusal.BadName
get_of_no_name t id = refl

-- the object of another layer is not shown
get_looks_into_its_layer_alone : reply_of (table ((a, layer 2 4 []) ∷ (codes "b", layer 2 4 squares) ∷ [])) (Get a 2) ≡ Refused refusal.NoObject
get_looks_into_its_layer_alone = rw (get-from_sorted (slice_cmp nat_cmp) ((a, layer 2 4 []) ∷ (codes "b", layer 2 4 squares) ∷ []) a tt, get-from_sorted {X = Object} nat_cmp [] 2 tt) refl

-- ---- count

pub count_of_two_objects : reply_of (table touching) (Count a) ≡ Counted 2
count_of_two_objects = rw (touching_at, len_of nat_cmp squares tt) refl

count_of_an_empty_layer : reply_of (table empty_layer) (Count a) ≡ Counted 0
count_of_an_empty_layer = rw (empty_at, len_of {X = Object} nat_cmp [] tt) refl

count_of_no_layer : reply_of (table touching) (Count (codes "q")) ≡ Refused refusal.NoLayer
count_of_no_layer = rw (get-from_sorted (slice_cmp nat_cmp) touching (codes "q") tt) refl

count_of_no_name : (t : Table) → reply_of t (Count (codes "A")) ≡ Refused refusal.BadName
count_of_no_name t = refl

-- ---- window

window_on_all_of_an_empty_layer : reply_of (table empty_layer)
    (Range a (Window (Two (lowest ∷ lowest ∷ []) (highest ∷ highest ∷ []))) None) ≡ Boxes []
unfolding meets_test ordered_test
window_on_all_of_an_empty_layer = rw (empty_at, entries-from_sorted {X = Object} nat_cmp [] tt) refl

pub squares_that_touch_are_both_found : reply_of (table touching)
    (Range a (Window (Two (at 1 1) (at 1 1))) None) ≡ Boxes squares
unfolding meets_test ordered_test
squares_that_touch_are_both_found = rw (touching_at, entries-from_sorted nat_cmp squares tt) refl

the_second_square_alone_is_found : reply_of (table touching)
    (Range a (Window (Two (at 2 2) (at 9 9))) None) ≡ Boxes ((2, (bounds (at 1 1) (at 2 2), 0)) ∷ [])
unfolding meets_test ordered_test
the_second_square_alone_is_found = rw (touching_at, entries-from_sorted nat_cmp squares tt) refl

-- it meets the second square on the first axis alone
a_window_beside_both_finds_none : reply_of (table touching) (Range a (Window (Two (at 2 0) (at 2 0))) None) ≡ Boxes []
unfolding meets_test ordered_test
a_window_beside_both_finds_none = rw (touching_at, entries-from_sorted nat_cmp squares tt) refl

abbrev extremes : List (ℕ × Object)
extremes =
    (1, (bounds (lowest ∷ lowest ∷ lowest ∷ []) (highest ∷ highest ∷ highest ∷ []), 0))
    ∷ (2, (bounds (highest ∷ highest ∷ highest ∷ []) (highest ∷ highest ∷ highest ∷ []), 0)) ∷ []

the_first_corner_of_space : reply_of (table ((a, layer 3 4 extremes) ∷ []))
    (Range a (Window (Three (lowest ∷ lowest ∷ lowest ∷ []) (lowest ∷ lowest ∷ lowest ∷ []))) None) ≡ Boxes
    ((1, (bounds (lowest ∷ lowest ∷ lowest ∷ []) (highest ∷ highest ∷ highest ∷ []), 0)) ∷ [])
unfolding meets_test ordered_test
the_first_corner_of_space =
    rw (
      get-from_sorted (slice_cmp nat_cmp) ((a, layer 3 4 extremes) ∷ []) a tt,
      entries-from_sorted nat_cmp extremes tt,
    ) refl

the_last_corner_of_space : reply_of (table ((a, layer 3 4 extremes) ∷ []))
    (Range a (Window (Three (highest ∷ highest ∷ highest ∷ []) (highest ∷ highest ∷ highest ∷ []))) None)
    ≡ Boxes extremes
unfolding meets_test ordered_test
the_last_corner_of_space =
    rw (
      get-from_sorted (slice_cmp nat_cmp) ((a, layer 3 4 extremes) ∷ []) a tt,
      entries-from_sorted nat_cmp extremes tt,
    ) refl

window_on_no_layer : reply_of (table touching) (Range (codes "q") (Window (Two (at 0 0) (at 1 1))) None) ≡ Refused refusal.NoLayer
window_on_no_layer = rw (get-from_sorted (slice_cmp nat_cmp) touching (codes "q") tt) refl

window_wrong_dims_before_bad_box : reply_of (table touching)
    (Range a (Window (Three (in_space 1 1 1) (in_space 0 0 0))) None) ≡ Refused refusal.WrongDims
window_wrong_dims_before_bad_box = rw touching_at refl

window_of_a_low_above_its_high : reply_of (table touching)
    (Range a (Window (Two (at 1 0) (at 0 0))) None) ≡ Refused refusal.BadBox
unfolding ordered_test
window_of_a_low_above_its_high = rw touching_at refl

-- of two squares that touch the first has the tag 7
abbrev tagged : List (ℕ × Object)
tagged = (1, (bounds (at 0 0) (at 1 1), 7)) ∷ (2, (bounds (at 1 1) (at 2 2), 0)) ∷ []

abbrev with_tags : List (List ℕ × Layer)
with_tags = (a, layer 2 4 tagged) ∷ []

tagged_at : get (table with_tags) a ≡ Some (layer 2 4 tagged)
tagged_at = get-from_sorted (slice_cmp nat_cmp) with_tags a tt

a_query_takes_all_tags : reply_of (table with_tags) (Range a (Window (Two (at 0 0) (at 2 2))) None) ≡ Boxes
    tagged
unfolding meets_test ordered_test
a_query_takes_all_tags = rw (tagged_at, entries-from_sorted nat_cmp tagged tt) refl

a_query_takes_one_tag : reply_of (table with_tags)
    (Range a (Window (Two (at 0 0) (at 2 2))) (Some 7)) ≡ Boxes ((1, (bounds (at 0 0) (at 1 1), 7)) ∷ [])
unfolding meets_test ordered_test
a_query_takes_one_tag = rw (tagged_at, entries-from_sorted nat_cmp tagged tt) refl

no_object_has_the_tag : reply_of (table with_tags)
    (Range a (Window (Two (at 0 0) (at 2 2))) (Some 9)) ≡ Boxes []
unfolding meets_test ordered_test
no_object_has_the_tag = rw (tagged_at, entries-from_sorted nat_cmp tagged tt) refl

the_tag_0_is_one_too : reply_of (table with_tags) (Range a (Point (point.Two (at 1 1))) (Some 0)) ≡ Boxes
    ((2, (bounds (at 1 1) (at 2 2), 0)) ∷ [])
unfolding holds_test
the_tag_0_is_one_too = rw (tagged_at, entries-from_sorted nat_cmp tagged tt) refl

insert_sets_the_tag : after (table touching) (Insert a 0 (Two (at 0 0) (at 9 9)) 5) ≡ table
    ((a, layer 2 4 ((0, (bounds (at 0 0) (at 9 9), 5)) ∷ squares)) ∷ [])
unfolding ordered_test
insert_sets_the_tag =
    rw (
      touching_at,
      touching_count,
      get-from_sorted nat_cmp squares 0 tt,
      put_into nat_cmp nat_cmp_total squares 0 (bounds (at 0 0) (at 9 9), 5) tt tt,
    )
    (put_into (slice_cmp nat_cmp) nat_list_cmp_total touching a
    (layer 2 4 ((0, (bounds (at 0 0) (at 9 9), 5)) ∷ squares)) tt tt)

move_keeps_the_tag : after (table with_tags) (Move a 1 (Two (at 5 5) (at 6 6))) ≡ table
    ((a, layer 2 4 ((1, (bounds (at 5 5) (at 6 6), 7)) ∷ (2, (bounds (at 1 1) (at 2 2), 0)) ∷ [])) ∷ [])
unfolding ordered_test
move_keeps_the_tag =
    rw (
      tagged_at,
      get-from_sorted nat_cmp tagged 1 tt,
      put_into nat_cmp nat_cmp_total tagged 1 (bounds (at 5 5) (at 6 6), 7) tt tt,
    )
    (put_into (slice_cmp nat_cmp) nat_list_cmp_total with_tags a
    (layer 2 4 ((1, (bounds (at 5 5) (at 6 6), 7)) ∷ (2, (bounds (at 1 1) (at 2 2), 0)) ∷ [])) tt tt)

pub window_changes_nothing : after (table touching) (Range a (Window (Two (at 1 1) (at 1 1))) None) ≡ table
    touching
unfolding ordered_test
window_changes_nothing = rw touching_at refl

-- ---- inside, around and point

the_first_square_alone_is_inside : reply_of (table touching)
    (Range a (Inside (Two (at 0 0) (at 1 1))) None) ≡ Boxes ((1, (bounds (at 0 0) (at 1 1), 0)) ∷ [])
unfolding within_test ordered_test
the_first_square_alone_is_inside = rw (touching_at, entries-from_sorted nat_cmp squares tt) refl

-- a window finds both
no_square_is_inside_a_lesser_one : reply_of (table touching)
    (Range a (Inside (Two (at 1 1) (at 1 1))) None) ≡ Boxes []
unfolding within_test ordered_test
no_square_is_inside_a_lesser_one = rw (touching_at, entries-from_sorted nat_cmp squares tt) refl

the_second_square_alone_is_around : reply_of (table touching)
    (Range a (Around (Two (at 1 1) (at 2 2))) None) ≡ Boxes ((2, (bounds (at 1 1) (at 2 2), 0)) ∷ [])
unfolding within_test ordered_test
the_second_square_alone_is_around = rw (touching_at, entries-from_sorted nat_cmp squares tt) refl

-- all is inside of it
no_square_is_around_a_greater_one : reply_of (table touching)
    (Range a (Around (Two (at 0 0) (at 2 2))) None) ≡ Boxes []
unfolding within_test ordered_test
no_square_is_around_a_greater_one = rw (touching_at, entries-from_sorted nat_cmp squares tt) refl

both_squares_hold_the_point_where_they_touch : reply_of (table touching)
    (Range a (Point (point.Two (at 1 1))) None) ≡ Boxes squares
unfolding holds_test
both_squares_hold_the_point_where_they_touch = rw (touching_at, entries-from_sorted nat_cmp squares tt) refl

the_second_square_alone_holds_its_corner : reply_of (table touching)
    (Range a (Point (point.Two (at 1 2))) None) ≡ Boxes ((2, (bounds (at 1 1) (at 2 2), 0)) ∷ [])
unfolding holds_test
the_second_square_alone_holds_its_corner = rw (touching_at, entries-from_sorted nat_cmp squares tt) refl

a_point_in_space_is_of_wrong_dims : reply_of (table touching)
    (Range a (Point (point.Three (in_space 1 1 1))) None) ≡ Refused refusal.WrongDims
a_point_in_space_is_of_wrong_dims = rw touching_at refl

inside_a_low_above_its_high : reply_of (table touching)
    (Range a (Inside (Two (at 1 0) (at 0 0))) None) ≡ Refused refusal.BadBox
unfolding ordered_test
inside_a_low_above_its_high = rw touching_at refl

around_in_no_layer : reply_of (table touching) (Range (codes "q") (Around (Two (at 1 0) (at 0 0))) None) ≡ Refused refusal.NoLayer
around_in_no_layer = rw (get-from_sorted (slice_cmp nat_cmp) touching (codes "q") tt) refl

a_query_changes_nothing : (query : RawQuery) → after (table empty_layer) (Range (codes "A") query None) ≡ table empty_layer
a_query_changes_nothing query = refl

-- ---- nearest

-- both hold the point, so the lesser identifier is first
of_equal_distances_the_lesser_identifier_is_first : reply_of (table touching)
    (Nearest a 1 (point.Two (at 1 1))) ≡ Distances ((1, 0) ∷ [])
of_equal_distances_the_lesser_identifier_is_first =
    rw (touching_at, entries-from_sorted nat_cmp squares tt) refl

the_nearer_object_is_first : reply_of (table touching) (Nearest a 1000000 (point.Two (at 5 2))) ≡ Distances
    ((2, 9) ∷ (1, 17) ∷ [])
the_nearer_object_is_first = rw (touching_at, entries-from_sorted nat_cmp squares tt) refl

nearest_of_none : reply_of (table touching) (Nearest a 0 (point.Two (at 1 1))) ≡ Refused refusal.BadCount
nearest_of_none = rw touching_at refl

nearest_of_too_many : reply_of (table touching) (Nearest a 1000001 (point.Two (at 1 1))) ≡ Refused
    refusal.BadCount
nearest_of_too_many = rw touching_at refl

wrong_dims_before_bad_count : reply_of (table touching)
    (Nearest a 0 (point.Three (in_space 1 1 1))) ≡ Refused refusal.WrongDims
wrong_dims_before_bad_count = rw touching_at refl

-- ---- join

-- points on a line, squares that touch, and boxes in space
abbrev three_layers : List (List ℕ × Layer)
three_layers = (a, layer 2 4 squares) ∷ (codes "c", layer 3 4 extremes) ∷ (codes "l", layer 2 4 loaded_points) ∷ []

squares_at : get (table three_layers) a ≡ Some (layer 2 4 squares)
squares_at = get-from_sorted (slice_cmp nat_cmp) three_layers a tt

extremes_at : get (table three_layers) (codes "c") ≡ Some (layer 3 4 extremes)
extremes_at = get-from_sorted (slice_cmp nat_cmp) three_layers (codes "c") tt

points_at : get (table three_layers) (codes "l") ≡ Some (layer 2 4 loaded_points)
points_at = get-from_sorted (slice_cmp nat_cmp) three_layers (codes "l") tt

-- each pair in both orders
join_of_a_layer_with_itself : reply_of (table three_layers) (Join a a 0) ≡ Pairs
    ((1, 1) ∷ (1, 2) ∷ (2, 1) ∷ (2, 2) ∷ [])
unfolding near_test
join_of_a_layer_with_itself = rw (squares_at, entries-from_sorted nat_cmp squares tt) refl

join_of_points_and_squares : reply_of (table three_layers) (Join (codes "l") a 0) ≡ Pairs ((1, 1) ∷ (2, 1) ∷ [])
unfolding near_test
join_of_points_and_squares =
    rw (
      points_at,
      squares_at,
      entries-from_sorted nat_cmp squares tt,
      entries-from_sorted nat_cmp loaded_points tt,
    ) refl

join_of_squares_and_points : reply_of (table three_layers) (Join a (codes "l") 0) ≡ Pairs ((1, 1) ∷ (1, 2) ∷ [])
unfolding near_test
join_of_squares_and_points =
    rw (
      points_at,
      squares_at,
      entries-from_sorted nat_cmp squares tt,
      entries-from_sorted nat_cmp loaded_points tt,
    ) refl

join_within_a_distance : reply_of (table three_layers) (Join (codes "l") a 1) ≡ Pairs ((1, 1) ∷ (2, 1) ∷ (2, 2) ∷ (3, 1) ∷ (3, 2) ∷ [])
unfolding near_test
join_within_a_distance =
    rw (
      points_at,
      squares_at,
      entries-from_sorted nat_cmp squares tt,
      entries-from_sorted nat_cmp loaded_points tt,
    ) refl

join_of_plane_and_space : reply_of (table three_layers) (Join a (codes "c") 0) ≡ Refused refusal.DimsDiffer
join_of_plane_and_space = rw (squares_at, extremes_at) refl

join_with_no_layer : reply_of (table touching) (Join a (codes "q") 0) ≡ Refused refusal.NoLayer
join_with_no_layer = rw (touching_at, get-from_sorted (slice_cmp nat_cmp) touching (codes "q") tt) refl

join_bad_name_before_no_layer : (t : Table) → reply_of t (Join (codes "q") (codes "A") 0) ≡ Refused refusal.BadName
join_bad_name_before_no_layer t = refl

-- ---- layers and dump

listing_of_one_layer : reply_of (table touching) Layers ≡ Listed
    (record { name = a; dims = 2; fanout = 4; count = 2 } ∷ [])
listing_of_one_layer =
    rw (entries-from_sorted (slice_cmp nat_cmp) touching tt, len_of nat_cmp squares tt) refl

listing_of_no_layer : reply_of (table []) Layers ≡ Listed []
listing_of_no_layer = rw (entries-from_sorted {X = Layer} (slice_cmp nat_cmp) [] tt) refl

dump_of_one_layer : reply_of (table touching) Dump
    ≡ Dumped
    (CreateLine a 2 4 ∷ InsertLine a 1 (bounds (at 0 0) (at 1 1), 0) ∷ InsertLine a 2
    (bounds (at 1 1) (at 2 2), 0) ∷ [])
dump_of_one_layer =
    rw (entries-from_sorted (slice_cmp nat_cmp) touching tt, entries-from_sorted nat_cmp squares tt) refl

-- by name, and an empty layer has one line
dump_of_two_layers : reply_of (table ((a, layer 3 100 []) ∷ (codes "b", layer 2 4 squares) ∷ [])) Dump
    ≡ Dumped (CreateLine a 3 100 ∷ CreateLine (codes "b") 2 4 ∷ InsertLine (codes "b") 1 (bounds (at 0 0) (at 1 1), 0) ∷ InsertLine (codes "b") 2 (bounds (at 1 1) (at 2 2), 0) ∷ [])
dump_of_two_layers = rw (entries-from_sorted (slice_cmp nat_cmp) ((a, layer 3 100 []) ∷ (codes "b", layer 2 4 squares) ∷ []) tt, entries-from_sorted {X = Object} nat_cmp [] tt, entries-from_sorted nat_cmp squares tt) refl

-- ---- check and reopen

check_is_done : (t : Table) → reply_of t Check ≡ Done
check_is_done t = refl

reopen_is_done : (t : Table) → reply_of t Reopen ≡ Done
reopen_is_done t = refl

reopen_changes_nothing : (t : Table) → after t Reopen ≡ t
reopen_changes_nothing t = refl
