-- A removal keeps the shape of a tree.
use Rattle.std.proofs.Common.{◌≡◌, ◌∙◌, ℕ, zero, suc, ◌+◌, ◌-◌, ◌<◌, ◌≤◌, Some, List, [], ◌∷◌, ◌++◌, length}
use Rattle.std.proofs.Common.{take, drop, refl, sym, ap, subst, arith}
use Rattle.std.specs.Prelude.{nat_lt}
use Rattle.std.proofs.lemmas.Bool.Decides.{nat_tests}
use Rattle.box_math.specs.Bounds.{Bounds}
use Rattle.box_math.specs.Objects.{Object}
use Rattle.tree_node.specs.Boxes.{RowHasBoxes, least_box}
use Rattle.tree_node.specs.Rows.{Waiter, branches_of, occurs_waiting, row_of}
use Rattle.tree_node.specs.Shape.{HasLooseShape, HasShape, least_entries}
use Rattle.tree_node.specs.Trees.{Row, end, more, Branch, object, child, Tree, row_items, row_length}
use Rattle.tree_node.proofs.BoxLemmas.{join_is_least_box}
use Rattle.tree_node.proofs.RowLemmas.{row_of-branches_of}
use Rattle.reinsert.specs.Children.{Child, child_at, with_child}
use Rattle.reinsert.specs.Kept.{AllHaveShape}
use Rattle.reinsert.specs.Placing.{waiting_on}
use Rattle.reinsert.proofs.ShapeLemmas.{Sound, insertion_keeps_loose_shape, length-branches_of, length-row_of}
use Rattle.condense.specs.Filled.{CanFillShaped}
use Rattle.condense.specs.Removal.{AreInserted, Condensed, GivesWay, TakesOut, condensed, without}
use Rattle.condense.specs.Removed.{RemovalKeepsShape}
use Rattle.condense.proofs.CutLemmas.{cut, cut-is, length-cut}
use Rattle.condense.proofs.ObjectLemmas.{by_bool}
use Rattle.condense.proofs.TakeLemmas.{leaves_is, stays_is}

module _ (dims most : ℕ) where
  sound_first : (level : ℕ) (x : Branch) (rest : Row) → Sound dims most level (more x rest)
      → Sound dims most level (more x end) × Sound dims most level rest
  sound_first level (object kept id) rest h = ((tt, (h.1.0, tt), (h.2.0, tt)), (h.0, h.1.1, h.2.1))
  sound_first level (child bounds page below) rest h =
      (((h.0.0, h.0.1, h.0.2, h.0.3, tt), (h.1.0, h.1.1, tt), (h.2.0, h.2.1, tt)), (h.0.4, h.1.2, h.2.2))

  sound_more : (level : ℕ) (x : Branch) (rest : Row) → Sound dims most level (more x end)
      → Sound dims most level rest → Sound dims most level (more x rest)
  sound_more level (object kept id) rest h k = (k.0, (h.1.0, k.1), (h.2.0, k.2))
  sound_more level (child bounds page below) rest h k =
      ((h.0.0, h.0.1, h.0.2, h.0.3, k.0), (h.1.0, h.1.1, k.1), (h.2.0, h.2.1, k.2))

  sound_cut : (level : ℕ) (xs : List Branch) (at : ℕ) → Sound dims most level (row_of xs)
      → Sound dims most level (row_of (cut xs at))
  sound_cut level [] zero h = h
  sound_cut level [] (suc at) h = h
  sound_cut level (x ∷ xs) zero h = (sound_first level x (row_of xs) h).1
  sound_cut level (x ∷ xs) (suc at) h =
      let parts = sound_first level x (row_of xs) h in
      sound_more level x (row_of (cut xs at)) parts.0 (sound_cut level xs at parts.1)

  -- the row without an entry
  sound_without : (level : ℕ) (row : Row) (at : ℕ) → Sound dims most level row
      → Sound dims most level (row_of (without (branches_of row) at))
  sound_without level row at h =
      subst (λ xs. Sound dims most level (row_of xs)) (sym (cut-is (branches_of row) at))
      (sound_cut level (branches_of row) at (subst (Sound dims most level) (sym (row_of-branches_of row)) h))

  length_without : (row : Row) (at : ℕ) → at < row_length row
      → row_length (row_of (without (branches_of row) at)) + 1 ≡ row_length row
  length_without row at within =
      omega (
        arith,
        length-row_of (without (branches_of row) at),
        ap length (cut-is (branches_of row) at),
        length-cut (branches_of row) at (omega (arith, within, length-branches_of row)),
        length-branches_of row,
      )

  abbrev IsFull : ℕ → Row → Type 0
  IsFull level row = (least_entries most ≤ row_length row) × (row_length row ≤ most)
      × Sound dims most level row

  child_full : (level : ℕ) (row : Row) (at : ℕ) (c : Child) → child_at row at ≡ Some c
      → Sound dims most level row → (0 < level) × (at < row_length row) × IsFull (level - 1) c.row
  child_full level end at c is h = absurd (cc)
  child_full level (more (object kept id) rest) zero c is h = absurd (cc)
  child_full level (more (object kept id) rest) (suc at) c is h = let later =
      child_full level rest at c is (h.0, h.1.1, h.2.1) in (later.0, omega (arith, later.1), later.2)
  child_full level (more (child bounds page below) rest) zero c is h =
      let this : record { page = page; row = below } ≡ c = cc in (
        h.2.0,
        omega arith,
        subst (λ (x : Child). IsFull (level - 1) x.row) this (h.0.0, h.0.1, (h.0.3, h.1.1, h.2.1)),
      )
  child_full level (more (child bounds page below) rest) (suc at) c is h = let later =
      child_full level rest at c is (h.0.4, h.1.2, h.2.2) in (later.0, omega (arith, later.1), later.2)

  sound_with_child : (level : ℕ) (row : Row) (at : ℕ) (new : Row) → Sound dims most level row
      → IsFull (level - 1) new
      → Sound dims most level (with_child row at (least_box dims (row_items new)) new)
  sound_with_child level end at new h full = h
  sound_with_child level (more (object kept id) rest) zero new h full = h
  sound_with_child level (more (object kept id) rest) (suc at) new h full =
      let later = sound_with_child level rest at new (h.0, h.1.1, h.2.1) full in
      (later.0, (h.1.0, later.1), (h.2.0, later.2))
  sound_with_child level (more (child bounds page below) rest) zero new h full =
      let least = join_is_least_box dims new (omega (arith, full.0)) full.2.1 in
      ((full.0, full.1, least, full.2.0, h.0.4), (least.box, full.2.1, h.1.2), (h.2.0, full.2.2, h.2.2))
  sound_with_child level (more (child bounds page below) rest) (suc at) new h full =
      let later = sound_with_child level rest at new (h.0.4, h.1.2, h.2.2) full in
      ((h.0.0, h.0.1, h.0.2, h.0.3, later.0), (h.1.0, h.1.1, later.1), (h.2.0, h.2.1, later.2))

  length_with_child : (row : Row) (at : ℕ) (b : Bounds) (new : Row)
      → row_length (with_child row at b new) ≡ row_length row
  length_with_child end at b new = refl
  length_with_child (more (object kept id) rest) zero b new = refl
  length_with_child (more (object kept id) rest) (suc at) b new =
      omega (arith, length_with_child rest at b new)
  length_with_child (more (child bounds page below) rest) zero b new = refl
  length_with_child (more (child bounds page below) rest) (suc at) b new =
      omega (arith, length_with_child rest at b new)

  kept_both : (top : ℕ) (xs ys : List Waiter) → AllHaveShape dims most top xs → AllHaveShape dims most top ys
      → AllHaveShape dims most top (xs ++ ys)
  kept_both top [] ys h k = k
  kept_both top (x ∷ xs) ys h k = (h.0, h.1, kept_both top xs ys h.2 k)

  kept_on : (top level : ℕ) (xs : List Branch) → level ≤ top → Sound dims most level (row_of xs)
      → AllHaveShape dims most top (waiting_on level xs)
  kept_on top level [] fits h = tt
  kept_on top level (x ∷ xs) fits h = let parts = sound_first level x (row_of xs) h in
      (fits, parts.0, kept_on top level xs fits parts.1)

  -- what a node becomes loses at most one entry
  record Shaped (top level : ℕ) (row : Row) (o : Condensed) : Type 0 where
    sound : Sound dims most level o.row
    few : row_length o.row ≤ row_length row
    some : row_length row ≤ row_length o.row + 1
    kept : AllHaveShape dims most top o.kept

  condensed_shaped : (top level : ℕ) (row : Row) (at : ℕ) (c : Child) (below o : Condensed) → level ≤ top
      → child_at row at ≡ Some c → Sound dims most level row → Shaped top (level - 1) c.row below
      → o ≡ condensed dims most level row at below → Shaped top level row o
  condensed_shaped top level row at c below o fits there h low is =
      let found = child_full level row at c there h in
      by_bool (nat_lt (row_length below.row) (least_entries most))
      (λ yes.
      let few : row_length below.row < least_entries most = grind (arith, nat_tests) in
      let count = length_without row at found.1 in
      subst (Shaped top level row) (sym (is ∙ leaves_is dims most level row at below few)) (record {
        sound = sound_without level row at h;
        few = omega (arith, count);
        some = omega (arith, count);
        kept = kept_both top (waiting_on (level - 1) (branches_of below.row)) below.kept
            (kept_on top (level - 1) (branches_of below.row) (omega (arith, fits))
            (subst (Sound dims most (level - 1)) (sym (row_of-branches_of below.row)) low.sound))
            low.kept;
      }))
      (λ no.
      let some : least_entries most ≤ row_length below.row = grind (arith, nat_tests) in
      let b = least_box dims (row_items below.row) in
      subst (Shaped top level row) (sym (is ∙ stays_is dims most level row at below some)) (record {
        sound = sound_with_child level row at below.row h
            (some, omega (arith, low.few, found.2.1), low.sound);
        few = omega (arith, length_with_child row at b below.row);
        some = omega (arith, length_with_child row at b below.row);
        kept = low.kept;
      }))

  within_row : (row : Row) (at : ℕ) (b : Object) (id : ℕ)
      → take 1 (drop at (branches_of row)) ≡ object b id ∷ [] → at < row_length row
  within_row end zero b id is = absurd (cc)
  within_row end (suc at) b id is = absurd (cc)
  within_row (more x rest) zero b id is = omega arith
  within_row (more x rest) (suc at) b id is = omega (arith, within_row rest at b id is)

  takes_shaped : (top level id : ℕ) (removed : Object) (row : Row) (o : Condensed) → level ≤ top
      → Sound dims most level row → TakesOut dims most level id removed row o → Shaped top level row o
  takes_shaped top zero id removed row o fits h takes =
      let count = length_without row takes.0 (within_row row takes.0 removed id takes.1) in
      subst (Shaped top 0 row) (sym takes.2)
      (record {
        sound = sound_without 0 row takes.0 h;
        few = omega (arith, count);
        some = omega (arith, count);
        kept = tt;
      })
  takes_shaped top (suc level) id removed row o fits h takes =
      let found = child_full (suc level) row takes.0 takes.1 takes.2 h in
      let down : suc level - 1 ≡ level = omega arith in
      let low =
      takes_shaped top level id removed takes.1.row takes.3 (omega (arith, fits))
      (subst (λ l. Sound dims most l takes.1.row) down found.2.2) takes.4 in
      condensed_shaped top (suc level) row takes.0 takes.1 takes.3 o fits takes.2 h
      (subst (λ l. Shaped top l takes.1.row takes.3) (sym down) low) takes.5

  -- the root as it is written, and what is kept
  pub cut_shaped : (id : ℕ) (removed : Object) (t : Tree) (o : Condensed) → HasShape dims most t
      → RowHasBoxes dims t.row → TakesOut dims most t.level id removed t.row o
      → CanFillShaped dims most (record { page = t.page; level = t.level; row = o.row }) o.kept
  cut_shaped id removed t o shape boxes takes =
      let s = takes_shaped t.level t.level id removed t.row o (omega arith)
      (shape.below, boxes, shape.levels) takes in
      record {
        tree = record {
          levels = s.sound.2;
          few = omega (arith, s.few, shape.few);
          some = λ high. omega (arith, s.some, shape.some high);
          below = s.sound.0;
        };
        boxes = s.sound.1;
        kept = s.kept;
      }

  inserted_shaped : (top : ℕ) (elsewhere : ℕ → ℕ) (ws : List Waiter) (old new : Tree)
      → AreInserted dims most elsewhere ws old new → 2 ≤ most → AllHaveShape dims most top ws
      → HasLooseShape dims most old → RowHasBoxes dims old.row
      → HasLooseShape dims most new × RowHasBoxes dims new.row
  inserted_shaped top elsewhere [] old new h enough kept loose boxes =
      subst (λ (t : Tree). HasLooseShape dims most t × RowHasBoxes dims t.row) (sym h) (loose, boxes)
  inserted_shaped top elsewhere (w ∷ ws) old new h enough kept loose boxes =
      let next =
      insertion_keeps_loose_shape dims most (λ n. occurs_waiting n ws + elsewhere n) w.branch w.level old
      h.0 h.1 enough kept.1 boxes loose in
      inserted_shaped top elsewhere ws h.0 new h.2 enough kept.2 next.0 next.1

  -- a root that gives way no more has two entries or is a leaf
  gives_shaped : (count : ℕ) (old new : Tree) → GivesWay count old new → HasLooseShape dims most old
      → RowHasBoxes dims old.row → HasShape dims most new × RowHasBoxes dims new.row
  gives_shaped zero old new h loose boxes =
      let whole : HasShape dims most old =
      record {
        levels = loose.levels;
        few = loose.few;
        some = λ high. omega (arith, loose.some high, h.1 high);
        below = loose.below;
      } in
      subst (λ (t : Tree). HasShape dims most t × RowHasBoxes dims t.row) (sym h.0) (whole, boxes)
  gives_shaped (suc count) old new h loose boxes =
      let found = child_full old.level old.row 0 h.2 h.3 (loose.below, boxes, loose.levels) in
      gives_shaped count (record { page = h.2.page; level = old.level - 1; row = h.2.row }) new h.4
      (record {
        levels = found.2.2.2;
        few = found.2.1;
        some = λ high. omega (arith, found.2.0);
        below = found.2.2.0;
      }) found.2.2.1

pub removal_keeps_shape : RemovalKeepsShape
removal_keeps_shape dims most elsewhere id removed old new h enough boxes shape =
    let cut = cut_shaped dims most id removed old h.out shape boxes h.takes_out in
    let filled =
    inserted_shaped dims most old.level elsewhere h.out.kept
    (record { page = old.page; level = old.level; row = h.out.row }) h.filled h.inserted
    (omega (arith, enough)) cut.kept cut.tree cut.boxes in
    gives_shaped dims most h.count h.filled new h.lowered filled.0 filled.1
