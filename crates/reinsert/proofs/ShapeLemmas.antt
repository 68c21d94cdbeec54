-- A placing keeps the shape of a tree.
use Rattle.std.proofs.Common.{◌≡◌, ℕ, zero, suc, ◌+◌, ◌-◌, ◌<◌, ◌≤◌, Bool, Option, Some, None, List, [], ◌∷◌}
use Rattle.std.proofs.Common.{◌++◌, length, map, take, drop, refl, sym, ap, subst, ◌∙◌, arith}
use Rattle.std.specs.Prelude.{⊤, nat_le, nat_lt, not, ◌&&◌}
use Rattle.std.proofs.lemmas.Bool.Decides.{nat_tests}
use Rattle.std.proofs.lemmas.List.{length-map, length-append}
use Rattle.box_math.specs.Bounds.{Bounds}
use Rattle.tree_node.specs.Trees.{Row, end, more, Branch, object, child, Tree, RowOnLevel, row_items}
use Rattle.tree_node.specs.Trees.{row_length}
use Rattle.tree_node.specs.Shape.{least_entries, IsLeastBox, RowHasShape}
use Rattle.tree_node.specs.Boxes.{RowHasBoxes, least_box}
use Rattle.tree_node.specs.Rows.{branches_of, row_of, item_in, Waiter}
use Rattle.tree_node.specs.Positions.{pick, AreParts}
use Rattle.tree_node.proofs.RowLemmas.{row_of-branches_of}
use Rattle.rstar_split.proofs.SplitParts.{split_parts}
use Rattle.reinsert.specs.Children.{Child, child_at, with_child, boxed}
use Rattle.tree_node.proofs.BoxLemmas.{join_is_least_box}
use Rattle.reinsert.specs.Called.{is_called}
use Rattle.reinsert.specs.Far.{far_count, far_places, near_places}
use Rattle.reinsert.specs.Placing.{Outcome, State, Settles, Places, IsRootAfter, Placing, waiting_on}
use Rattle.reinsert.specs.Placing.{beside_branches, after_child}
use Rattle.reinsert.specs.Insertion.{Placings}
use Rattle.reinsert.specs.Kept.{AllHaveShape, PlacingKeepsLooseShape, InsertionKeepsShape}
use Rattle.reinsert.specs.Kept.{InsertionKeepsLooseShape}
use Rattle.reinsert.proofs.FarParts.{far_parts}
use Rattle.reinsert.proofs.KeptLemmas.{by_way}
use Rattle.reinsert.proofs.SizeLemmas.{length-parts, length-split, length-far}

-- ---- how many entries

-- without the far set there are enough left
enough_left : (most : ℕ) → 2 ≤ most → (1 ≤ far_count most) × (far_count most + least_entries most ≤ most + 1)
enough_left most some = (omega arith, omega (arith, some))

pub length-row_of : (xs : List Branch) → row_length (row_of xs) ≡ length xs
length-row_of [] = refl
length-row_of (x ∷ xs) = omega (arith, length-row_of xs)

pub length-branches_of : (row : Row) → length (branches_of row) ≡ row_length row
length-branches_of row = sym (length-row_of (branches_of row)) ∙ ap row_length (row_of-branches_of row)

length-with_child : (row : Row) (at : ℕ) (b : Bounds) (new : Row)
    → row_length (with_child row at b new) ≡ row_length row
length-with_child end at b new = refl
length-with_child (more (object kept id) rest) zero b new = refl
length-with_child (more (object kept id) rest) (suc at) b new = omega (arith, length-with_child rest at b new)
length-with_child (more (child bounds page below) rest) zero b new = refl
length-with_child (more (child bounds page below) rest) (suc at) b new =
    omega (arith, length-with_child rest at b new)

-- ---- entries with shape

module _ (dims most : ℕ) where
  -- entries of a node of this level with shape
  abbrev pub Sound : ℕ → Row → Type 0
  Sound level row = RowHasShape dims most row × RowHasBoxes dims row × RowOnLevel level row

  sound_first : (level : ℕ) (x : Branch) (rest : Row) → Sound level (more x rest)
      → Sound level (more x end) × Sound level rest
  sound_first level (object kept id) rest h = ((tt, (h.1.0, tt), (h.2.0, tt)), (h.0, h.1.1, h.2.1))
  sound_first level (child bounds page below) rest h =
      (((h.0.0, h.0.1, h.0.2, h.0.3, tt), (h.1.0, h.1.1, tt), (h.2.0, h.2.1, tt)), (h.0.4, h.1.2, h.2.2))

  sound_more : (level : ℕ) (x : Branch) (rest : Row) → Sound level (more x end) → Sound level rest
      → Sound level (more x rest)
  sound_more level (object kept id) rest h k = (k.0, (h.1.0, k.1), (h.2.0, k.2))
  sound_more level (child bounds page below) rest h k =
      ((h.0.0, h.0.1, h.0.2, h.0.3, k.0), (h.1.0, h.1.1, k.1), (h.2.0, h.2.1, k.2))

  Sound-append : (level : ℕ) (xs ys : List Branch) → Sound level (row_of xs) → Sound level (row_of ys)
      → Sound level (row_of (xs ++ ys))
  Sound-append level [] ys h k = k
  Sound-append level (x ∷ xs) ys h k =
      let parts = sound_first level x (row_of xs) h in
      sound_more level x (row_of (xs ++ ys)) parts.0 (Sound-append level xs ys parts.1 k)

  Sound-at : (level i : ℕ) (xs : List Branch) → Sound level (row_of xs)
      → Sound level (row_of (take 1 (drop i xs)))
  Sound-at level zero [] h = h
  Sound-at level zero (x ∷ xs) h = (sound_first level x (row_of xs) h).0
  Sound-at level (suc i) [] h = h
  Sound-at level (suc i) (x ∷ xs) h = Sound-at level i xs (sound_first level x (row_of xs) h).1

  Sound-pick : (level : ℕ) (xs : List Branch) (places : List ℕ) → Sound level (row_of xs)
      → Sound level (row_of (pick xs places))
  Sound-pick level xs [] h = (tt, tt, tt)
  Sound-pick level xs (at ∷ places) h =
      Sound-append level (take 1 (drop at xs)) (pick xs places) (Sound-at level at xs h)
      (Sound-pick level xs places h)

  Sound-branches_of : (level : ℕ) (row : Row) → Sound level row → Sound level (row_of (branches_of row))
  Sound-branches_of level row h = subst (Sound level) (sym (row_of-branches_of row)) h

  -- ---- children

  -- a node of this level with from the least to the most entries
  abbrev IsFull : ℕ → Row → Type 0
  IsFull level row = (least_entries most ≤ row_length row) × (row_length row ≤ most) × Sound level row

  full_least : (level : ℕ) (row : Row) → IsFull level row
      → IsLeastBox dims (least_box dims (row_items row)) row
  full_least level row full = join_is_least_box dims row (omega (arith, full.0)) full.2.1

  Sound-boxed : (level : ℕ) (c : Child) → 0 < level → IsFull (level - 1) c.row
      → Sound level (more (boxed dims c) end)
  Sound-boxed level c high full =
      let least = full_least (level - 1) c.row full in
      ((full.0, full.1, least, full.2.0, tt), (least.box, full.2.1, tt), (high, full.2.2, tt))

  child_full : (level : ℕ) (row : Row) (at : ℕ) (c : Child) → child_at row at ≡ Some c → Sound level row
      → (0 < level) × IsFull (level - 1) c.row
  child_full level end at c is h = absurd (cc)
  child_full level (more (object kept id) rest) zero c is h = absurd (cc)
  child_full level (more (object kept id) rest) (suc at) c is h =
      child_full level rest at c is (h.0, h.1.1, h.2.1)
  child_full level (more (child bounds page below) rest) zero c is h =
      let this : record { page = page; row = below } ≡ c = cc in
      (h.2.0, subst (λ (x : Child). IsFull (level - 1) x.row) this (h.0.0, h.0.1, (h.0.3, h.1.1, h.2.1)))
  child_full level (more (child bounds page below) rest) (suc at) c is h =
      child_full level rest at c is (h.0.4, h.1.2, h.2.2)

  Sound-with_child : (level : ℕ) (row : Row) (at : ℕ) (new : Row) → Sound level row → IsFull (level - 1) new
      → Sound level (with_child row at (least_box dims (row_items new)) new)
  Sound-with_child level end at new h full = h
  Sound-with_child level (more (object kept id) rest) zero new h full = h
  Sound-with_child level (more (object kept id) rest) (suc at) new h full =
      let later = Sound-with_child level rest at new (h.0, h.1.1, h.2.1) full in
      (later.0, (h.1.0, later.1), (h.2.0, later.2))
  Sound-with_child level (more (child bounds page below) rest) zero new h full =
      let least = full_least (level - 1) new full in
      ((full.0, full.1, least, full.2.0, h.0.4), (least.box, full.2.1, h.1.2), (h.2.0, full.2.2, h.2.2))
  Sound-with_child level (more (child bounds page below) rest) (suc at) new h full =
      let later = Sound-with_child level rest at new (h.0.4, h.1.2, h.2.2) full in
      ((h.0.0, h.0.1, h.0.2, h.0.3, later.0), (h.1.0, h.1.1, later.1), (h.2.0, h.2.1, later.2))

  -- ---- what a node becomes

  abbrev BesideFull : ℕ → Row → Option Child → Type 0
  BesideFull level row None = ⊤
  BesideFull level row (Some c) = (least_entries most ≤ row_length row) × IsFull level c.row

  Wait-append : (top : ℕ) (xs ys : List Waiter) → AllHaveShape dims most top xs
      → AllHaveShape dims most top ys → AllHaveShape dims most top (xs ++ ys)
  Wait-append top [] ys h k = k
  Wait-append top (x ∷ xs) ys h k = (h.0, h.1, Wait-append top xs ys h.2 k)

  Wait-map : (top level : ℕ) (xs : List Branch) → level ≤ top → Sound level (row_of xs)
      → AllHaveShape dims most top (waiting_on level xs)
  Wait-map top level [] fits h = tt
  Wait-map top level (x ∷ xs) fits h = let parts = sound_first level x (row_of xs) h in
      (fits, parts.0, Wait-map top level xs fits parts.1)

  Wait-higher : (top top' : ℕ) (xs : List Waiter) → top ≤ top' → AllHaveShape dims most top xs
      → AllHaveShape dims most top' xs
  Wait-higher top top' [] higher h = tt
  Wait-higher top top' (x ∷ xs) higher h =
      (omega (arith, higher, h.0), h.1, Wait-higher top top' xs higher h.2)

  -- Of so many entries the node keeps at least as many as before or the least count. What is split off has
  -- them too.
  record Shaped (top level given : ℕ) (o : Outcome) : Type 0 where
    row : Sound level o.row
    few : row_length o.row ≤ most
    some : (k : ℕ) → k ≤ least_entries most → k ≤ given → k ≤ row_length o.row
    beside : BesideFull level o.row o.beside
    far : AllHaveShape dims most top o.far

  settles_shaped : (top level : ℕ) (called : List Bool) (branches : List Branch) (o : Outcome) → 2 ≤ most
      → Sound level (row_of branches) → length branches ≤ most + 1
      → Settles dims most top level called branches o → Shaped top level (length branches) o
  settles_shaped top level called branches o capacity h few settles =
      by_way (nat_le (length branches) most) (nat_lt level top && not (is_called called level)) settles
      (λ fits is.
      let fit : length branches ≤ most = grind (arith, nat_tests, fits) in
      subst (Shaped top level (length branches)) (sym is) (record {
        row = h;
        few = omega (arith, fit, length-row_of branches);
        some = λ k least given. omega (arith, given, length-row_of branches);
        beside = tt;
        far = tt;
      }))
      (λ full free is.
      let items = map item_in branches in
      let p = far_count most in
      let many : most < length branches = grind (arith, nat_tests, full) in
      let near = near_places dims p items in
      let far = far_places dims p items in
      let parts : AreParts near far (length branches) =
      rw (length-map branches item_in) at (far_parts dims p items) in
      let sizes = length-parts branches near far parts in
      let below_top : level ≤ top = grind (arith, nat_tests, free) in
      let left = enough_left most capacity in
      let gone : length far ≡ p =
      length-far dims p items (omega (arith, left.1, many, length-map branches item_in)) in
      let count : row_length (row_of (pick branches near)) + p ≡ length branches =
      omega (arith, sizes.0, sizes.2, gone, length-row_of (pick branches near)) in
      subst (Shaped top level (length branches)) (sym is) (record {
        row = Sound-pick level branches near h;
        few = omega (arith, count, few, left.0);
        some = λ k least given. omega (arith, count, left.1, many, least);
        beside = tt;
        far = Wait-map top level (pick branches far) below_top (Sound-pick level branches far h);
      }))
      (λ full split.
      let items = map item_in branches in
      let parts : AreParts split.first split.second (length branches) =
      rw (length-map branches item_in) at
      (split_parts dims most items split.first split.second split.splits) in
      let sizes = length-parts branches split.first split.second parts in
      let size = length-split dims most items split.first split.second split.splits in
      let one : row_length (row_of (pick branches split.first)) ≡ split.splits.size =
      omega (arith, sizes.0, size, length-row_of (pick branches split.first)) in
      let two : row_length (row_of (pick branches split.second)) + split.splits.size ≡ length branches =
      omega (arith, sizes.1, sizes.2, size, length-row_of (pick branches split.second)) in
      let second_full : split.splits.size + least_entries most ≤ length branches =
      omega (arith, split.splits.second_full, length-map branches item_in) in
      subst (Shaped top level (length branches)) (sym split.is) (record {
        row = Sound-pick level branches split.first h;
        few = omega (arith, one, second_full, few);
        some = λ k least given. omega (arith, one, split.splits.first_full, least);
        beside = (
          omega (arith, one, split.splits.first_full),
          (
            omega (arith, two, second_full),
            omega (arith, two, split.splits.first_full, few),
            Sound-pick level branches split.second h,
          ),
        );
        far = tt;
      }))

  -- the same for a node that had fewer
  shaped_of_more : (top level given given' : ℕ) (o : Outcome) → given' ≤ given → Shaped top level given o
      → Shaped top level given' o
  shaped_of_more top level given given' o fewer h =
      record {
        row = h.row;
        few = h.few;
        some = λ k least before. h.some k least (omega (arith, before, fewer));
        beside = h.beside;
        far = h.far;
      }

  Sound-beside : (level : ℕ) (row : Row) (beside : Option Child) → 0 < level
      → BesideFull (level - 1) row beside → Sound level (row_of (beside_branches dims beside))
  Sound-beside level row None high h = (tt, tt, tt)
  Sound-beside level row (Some c) high h = Sound-boxed level c high h.1

  length-beside : (beside : Option Child) → length (beside_branches dims beside) ≤ 1
  length-beside None = omega arith
  length-beside (Some c) = omega arith

  places_shaped : (top level target down : ℕ) (called : List Bool) (branch : Branch) (row : Row)
      (o : Outcome) → level ≡ target + down → 2 ≤ most → Sound level row → row_length row ≤ most
      → Sound target (more branch end) → Places dims most top level down called branch row o
      → Shaped top level (row_length row) o
  places_shaped top level target zero called branch row o deep capacity h few entry places =
      let branches = branches_of row ++ branch ∷ [] in
      let here : target ≡ level = omega (arith, deep) in
      let count : length branches ≡ row_length row + 1 =
      omega (arith, length-append (branches_of row) (branch ∷ []), length-branches_of row) in
      shaped_of_more top level (length branches) (row_length row) o (omega (arith, count))
      (settles_shaped top level called branches o capacity
      (Sound-append level (branches_of row) (branch ∷ []) (Sound-branches_of level row h)
      (subst (λ l. Sound l (more branch end)) here entry))
      (omega (arith, count, few)) places)
  places_shaped top level target (suc down) called branch row o deep capacity h few entry places =
      let found = child_full level row places.at places.from places.there h in
      let high = found.0 in
      let from = found.1 in
      let low =
      places_shaped top (level - 1) target down called branch places.from.row places.below
      (omega (arith, deep, high)) capacity from.2 from.1 entry places.settled in
      let full : IsFull (level - 1) places.below.row =
      (low.some (least_entries most) (omega arith) from.0, low.few, low.row) in
      let new = with_child row places.at (least_box dims (row_items places.below.row)) places.below.row in
      let beside = beside_branches dims places.below.beside in
      let branches = after_child dims row places.at places.below in
      let sound : Sound level (row_of branches) =
      Sound-append level (branches_of new) beside
      (Sound-branches_of level new (Sound-with_child level row places.at places.below.row h full))
      (Sound-beside level places.below.row places.below.beside high low.beside) in
      let count : length branches ≡ row_length row + length beside =
      omega (
        arith,
        length-append (branches_of new) beside,
        length-branches_of new,
        length-with_child row places.at (least_box dims (row_items places.below.row)) places.below.row,
      ) in
      let up =
      settles_shaped top level places.below.called branches places.above capacity sound
      (omega (arith, count, few, length-beside places.below.beside)) places.settles in
      subst (Shaped top level (row_length row)) (sym places.is) (record {
        row = up.row;
        few = up.few;
        some = λ k least given. up.some k least (omega (arith, given, count));
        beside = up.beside;
        far = Wait-append top places.above.far places.below.far up.far low.far;
      })

  -- ---- whole trees

  -- a tree whose root has at least so many entries, where it is no leaf
  record TreeShaped (k : ℕ) (t : Tree) : Type 0 where
    few : row_length t.row ≤ most
    some : 0 < t.level → k ≤ row_length t.row
    below : Sound t.level t.row

  -- and what waits for it
  record StateShaped (k : ℕ) (s : State) : Type 0 where
    tree : TreeShaped k s.tree
    far : AllHaveShape dims most s.tree.level s.waiting

  root_shaped : (k : ℕ) (old new : Tree) (row : Row) (beside : Option Child) → 2 ≤ most → k ≤ 2
      → (0 < old.level → k ≤ row_length row) → Sound old.level row → row_length row ≤ most
      → BesideFull old.level row beside
      → IsRootAfter dims old row beside new → TreeShaped k new
  root_shaped k old new row None capacity two some h few full is =
      subst (TreeShaped k) (sym is) (record { few = few; some = some; below = h })
  root_shaped k old new row (Some c) capacity two some h few full is =
      let first : Child = record { page = old.page; row = row } in
      let top = old.level + 1 in
      let under : old.level ≡ top - 1 = omega arith in
      let one : IsFull (top - 1) row = subst (λ l. IsFull l row) under (full.0, few, h) in
      let other : IsFull (top - 1) c.row = subst (λ l. IsFull l c.row) under full.1 in
      subst (TreeShaped k) (sym is.1) (record {
        few = omega (arith, capacity);
        some = λ high. omega (arith, two);
        below = sound_more top (boxed dims first) (more (boxed dims c) end)
            (Sound-boxed top first (omega arith) one) (Sound-boxed top c (omega arith) other);
      })

  root_higher : (old new : Tree) (row : Row) (beside : Option Child) → IsRootAfter dims old row beside new
      → old.level ≤ new.level
  root_higher old new row None is = omega (arith, ap (λ (t : Tree). t.level) is)
  root_higher old new row (Some c) is = omega (arith, ap (λ (t : Tree). t.level) is.1)

  placing_shaped : (k : ℕ) (elsewhere : ℕ → ℕ) (old new : State) → 2 ≤ most → k ≤ 2 → StateShaped k old
      → Placing dims most elsewhere old new → StateShaped k new
  placing_shaped k elsewhere old new capacity two h placing =
      let top = old.tree.level in
      let target = placing.first.level in
      let outcome = placing.outcome in
      let waiting : AllHaveShape dims most top (placing.first ∷ placing.rest) =
      subst (AllHaveShape dims most top) placing.waits h.far in
      let done =
      places_shaped top top target (top - target) old.called placing.first.branch old.tree.row outcome
      (omega (arith, placing.fits)) capacity h.tree.below h.tree.few waiting.1 placing.places in
      record {
        tree = root_shaped k old.tree new.tree outcome.row outcome.beside capacity two
            (λ high. done.some k (omega (arith, two)) (h.tree.some high)) done.row done.few done.beside
            placing.root;
        far = subst (AllHaveShape dims most new.tree.level) (sym placing.waiting)
            (Wait-higher top new.tree.level (outcome.far ++ placing.rest)
            (root_higher old.tree new.tree outcome.row outcome.beside placing.root)
            (Wait-append top outcome.far placing.rest done.far waiting.2));
      }

  placings_shaped : (k : ℕ) (elsewhere : ℕ → ℕ) (count : ℕ) (old new : State) → 2 ≤ most → k ≤ 2
      → StateShaped k old → Placings dims most elsewhere count old new → StateShaped k new
  placings_shaped k elsewhere zero old new capacity two h placings = subst (StateShaped k) (sym placings) h
  placings_shaped k elsewhere (suc count) old new capacity two h placings =
      placings_shaped k elsewhere count placings.0 new capacity two
      (placing_shaped k elsewhere old placings.0 capacity two h placings.1) placings.2

-- what is placed first fits
first_fits : (dims most : ℕ) (elsewhere : ℕ → ℕ) (count : ℕ) (old new : State) (w : Waiter)
    (ws : List Waiter) → Placings dims most elsewhere count old new → old.waiting ≡ w ∷ ws → new.waiting ≡ []
    → w.level ≤ old.tree.level
first_fits dims most elsewhere zero old new w ws h some none =
    absurd (omega (arith, ap (λ (s : State). length s.waiting) h, ap length some, ap length none))
first_fits dims most elsewhere (suc count) old new w ws h some none =
    let both : w ∷ ws ≡ h.1.first ∷ h.1.rest = sym some ∙ h.1.waits in
    let same : w ≡ h.1.first = cc in
    omega (arith, ap (λ (x : Waiter). x.level) same, h.1.fits)

pub placing_keeps_loose_shape : PlacingKeepsLooseShape
placing_keeps_loose_shape dims most elsewhere old new h capacity shape =
    let done = placing_shaped dims most 1 elsewhere old new capacity (omega arith)
    (record {
      tree =
          record {
            few = shape.tree.few;
            some = shape.tree.some;
            below = (shape.tree.below, shape.boxes, shape.tree.levels);
          };
      far = shape.waiting;
    }) h in
    record {
      tree = record {
        few = done.tree.few;
        some = done.tree.some;
        levels = done.tree.below.2;
        below = done.tree.below.0;
      };
      boxes = done.tree.below.1;
      waiting = done.far;
    }

pub insertion_keeps_loose_shape : InsertionKeepsLooseShape
insertion_keeps_loose_shape dims most elsewhere branch level old new h capacity entry boxes shape =
    let fits = first_fits dims most elsewhere h.count _ _ _ _ h.placed refl refl in
    let done = placings_shaped dims most 1 elsewhere h.count _ _ capacity (omega arith)
    (record {
      tree =
          record { few = shape.few; some = shape.some; below = (shape.below, boxes, shape.levels) };
      far = (fits, entry, tt);
    }) h.placed in (
      record {
        few = done.tree.few;
        some = done.tree.some;
        levels = done.tree.below.2;
        below = done.tree.below.0;
      },
      done.tree.below.1,
    )

pub insertion_keeps_shape : InsertionKeepsShape
insertion_keeps_shape dims most elsewhere branch level old new h capacity entry boxes shape =
    let fits = first_fits dims most elsewhere h.count _ _ _ _ h.placed refl refl in
    let done = placings_shaped dims most 2 elsewhere h.count _ _ capacity (omega arith)
    (record {
      tree =
          record { few = shape.few; some = shape.some; below = (shape.below, boxes, shape.levels) };
      far = (fits, entry, tt);
    }) h.placed in (
      record {
        few = done.tree.few;
        some = done.tree.some;
        levels = done.tree.below.2;
        below = done.tree.below.0;
      },
      done.tree.below.1,
    )
