-- A child of which the object was taken, and the node above it condensed.
use Rattle.std.proofs.Common.{None, ◌≡◌, ◌∙◌, ℕ, suc, ◌+◌, ◌-◌, ◌<◌, ◌≤◌, IsSome, Some}
use Rattle.std.proofs.Common.{true, false, cond, eqb, List, [], ◌∷◌, ◌++◌, length, map, get_or, reverse, refl}
use Rattle.std.proofs.Common.{sym, ap, subst, ⊎_elim, arith, append_assoc}
use Rattle.std.specs.Prelude.{nat_lt}
use Rattle.std.proofs.lemmas.Bool.{cases_eq}
use Rattle.std.proofs.lemmas.Bool.Decides.{nat_tests}
use Rattle.std.proofs.lemmas.List.{get_or_default, length-map, map-append, reverse-append}
use Rattle.box_math.specs.Objects.{Object}
use Rattle.page_file.specs.Pages.{SameBut}
use Rattle.tree_node.specs.declared.node.Entry.{Entry}
use Rattle.tree_node.specs.Boxes.{least_box, no_item}
use Rattle.tree_node.specs.Nodes.{Item, NodeContent, item_of}
use Rattle.tree_node.specs.Positions.{total}
use Rattle.tree_node.specs.Rows.{Waiter, branches_of, item_in, occurs_on, occurs_waiting, row_of}
use Rattle.tree_node.specs.Shape.{least_entries}
use Rattle.tree_node.specs.Trees.{Row, Branch, occurs, row_items, row_length}
use Rattle.tree_node.proofs.PositionLemmas.{total-append}
use Rattle.tree_node.proofs.RowLemmas.{items-branches_of, items-row_of, occurs-branches_of, occurs-row_of}
use Rattle.tree_node.proofs.RowLemmas.{occurs_here, row_of-branches_of}
use Rattle.node_page.specs.Changes.{AllWait}
use Rattle.node_page.specs.Parts.{Moves}
use Rattle.node_page.specs.Standing.{PageMap, HasNode, RowStands, Stands, node_in}
use Rattle.node_page.proofs.PartLemmas.{moves_in_turn, moves_same}
use Rattle.node_page.proofs.StandingLemmas.{below_there, page_of_node, row_stays}
use Rattle.reinsert.specs.Children.{Child, child_at, occurs_at, with_child}
use Rattle.node_bytes.specs.Enlarged.{set_box}
use Rattle.reinsert.specs.Placed.{Held, held_in, held_with}
use Rattle.reinsert.specs.Placing.{waiting_on}
use Rattle.reinsert.proofs.ChildLemmas.{HasChild, RowStands-with_child, has_child, items-with_child}
use Rattle.reinsert.proofs.ChildLemmas.{occurs-with_child}
use Rattle.reinsert.proofs.PlaceLemmas.{AllWait-append}
use Rattle.reinsert.proofs.SettledLemmas.{AllWait-map, AllWait_frame}
use Rattle.reinsert.proofs.StandLemmas.{moves_with, rest_once, rest_same, zero_there}
use Rattle.condense.specs.Removal.{Condensed, TakesOut, condensed, without}
use Rattle.condense.specs.Spelled.{page_at}
use Rattle.condense.specs.Taken.{HasTaken, TookBelow, items_without}
use Rattle.condense.proofs.CutLemmas.{RowStands-cut, cut, cut-is, length-items, map-cut, occurs-cut}

-- ---- the entries of a node that leaves

abbrev held_at : ℕ → Item → Held
held_at level item = record { item = item; level = level }

held_entries : {D : ℕ} (level : ℕ) (es : List (Entry D))
    → map (held_with level) es ≡ map (held_at level) (map item_of es)
held_entries level [] = refl
held_entries level (e ∷ es) = ap (λ hs. held_with level e ∷ hs) (held_entries level es)

held_branches : (level : ℕ) (xs : List Branch)
    → map held_in (waiting_on level xs) ≡ map (held_at level) (map item_in xs)
held_branches level [] = refl
held_branches level (x ∷ xs) = ap (λ hs. held_at level (item_in x) ∷ hs) (held_branches level xs)

pub occurs-waiting_on : (n level : ℕ) (xs : List Branch)
    → occurs_waiting n (waiting_on level xs) ≡ total (occurs_on n) xs
occurs-waiting_on n level [] = refl
occurs-waiting_on n level (x ∷ xs) = ap (λ k. occurs_on n x + k) (occurs-waiting_on n level xs)

takes_up : (dims most level lower id : ℕ) (removed : Object) (row : Row) (at : ℕ) (from : Child)
    (below : Condensed) → level ≡ suc lower → child_at row at ≡ Some from
    → TakesOut dims most lower id removed from.row below
    → TakesOut dims most level id removed row (condensed dims most level row at below)
takes_up dims most level lower id removed row at from below up there takes =
    subst (λ l. TakesOut dims most l id removed row (condensed dims most l row at below)) (sym up)
    (at, from, there, below, takes, refl)

pub leaves_is : (dims most level : ℕ) (row : Row) (at : ℕ) (below : Condensed)
    → row_length below.row < least_entries most
    → condensed dims most level row at
    below ≡ record {
      row = row_of (without (branches_of row) at);
      kept = waiting_on (level - 1) (branches_of below.row) ++ below.kept;
    }
leaves_is dims most level row at below few =
    let yes : nat_lt (row_length below.row) (least_entries most) ≡ true = grind (arith, nat_tests) in
    rw yes refl

pub stays_is : (dims most level : ℕ) (row : Row) (at : ℕ) (below : Condensed)
    → least_entries most ≤ row_length below.row
    → condensed dims most level row at
    below ≡ record {
      row = with_child row at (least_box dims (row_items below.row)) below.row;
      kept = below.kept;
    }
stays_is dims most level row at below some =
    let no : nat_lt (row_length below.row) (least_entries most) ≡ false = grind (arith, nat_tests) in
    rw no refl

-- how often a page is another
abbrev once_at : ℕ → ℕ → ℕ
once_at page n = cond (eqb page n) 1 0

-- ---- the node above

module _ {D : ℕ} (most level lower at reference id : ℕ) (removed : Object) (row : Row) (m m1 : PageMap)
    (page : ℕ) (held held1 : List Held) (es : List (Entry D)) (entries : List Item)
    (stands : Stands D m (record { page = page; level = level; row = row })) (h : HasChild D m level row at)
    (is : reference ≡ h.from.page) (up : level ≡ suc lower) (down : lower ≡ level - 1)
    (are : row_items row ≡ entries)
    (done : HasTaken D most m m1 lower id removed h.from.row held held1 (map item_of es)) where
  -- what occurs in the node beside what lies below the child
  abbrev rest : ℕ → ℕ
  rest n = occurs n row - occurs n h.from.row

  fewer : (n : ℕ) → once_at reference n + occurs n h.from.row ≤ occurs n row
  fewer n = subst (λ k. once_at k n + occurs n h.from.row ≤ occurs n row) (sym is) (h.fewer n)

  once_below : (n : ℕ) → occurs n row ≤ 1
  once_below n = omega (arith, stands.distinct n)

  apart : (n : ℕ) → occurs n h.from.row + rest n ≤ 1
  apart n = omega (arith, fewer n, once_below n)

  live : (n : ℕ) → 0 < rest n → IsSome (m n)
  live n there = below_there D m level row n stands.below (omega (arith, there))

  abbrev new : ℕ → ℕ
  new n = occurs n done.out.row + occurs_waiting n done.out.kept

  keeps : (n : ℕ) → 0 < rest n → m1 n ≡ m n
  keeps = rest_same m m1 (λ n. occurs n h.from.row) new rest done.moves apart live

  once : (n : ℕ) → new n + rest n ≤ 1
  once = rest_once m m1 (λ n. occurs n h.from.row) new rest done.moves apart live

  framed : Moves m m1 (λ n. occurs n row) (λ n. new n + rest n)
  framed =
      moves_same m m1 _ _ _ _ (λ n. omega (arith, fewer n)) (λ n. refl)
      (moves_with m m1 (λ n. occurs n h.from.row) new rest done.moves apart live)

  -- the child's page is none of the new ones
  not_new : (n : ℕ) → 0 < new n → ¬ (n ≡ reference)
  not_new n there same =
      omega (arith, there, once n, fewer n, ap (once_at reference) same, occurs_here reference)

  count : length es ≡ row_length done.out.row
  count = omega (arith, ap length done.entries, length-map es item_of, length-items done.out.row)

  module _ (m2 : PageMap) (held2 : List Held) (after : List Item) (others : SameBut reference m1 m2) where
    low_stands : RowStands D m2 lower done.out.row
    low_stands =
        row_stays D m1 m2 lower done.out.row (λ n p. others n (not_new n (omega (arith, p)))) done.below

    kept_stand : AllWait D m2 done.out.kept
    kept_stand =
        AllWait_frame D m1 m2 done.out.kept (λ n p. others n (not_new n (omega (arith, p)))) done.kept

    -- the child leaves
    pub child_leaves : length es < least_entries most → m2 reference ≡ None → after ≡ items_without entries at
        → held2 ≡ held1 ++ reverse (map (held_with lower) es)
        → HasTaken D most m m2 level id removed row held held2 after
    child_leaves few gone written holds =
        let bs = cut (branches_of row) at in
        let cuts : without (branches_of row) at ≡ bs = cut-is (branches_of row) at in
        let counts : (n : ℕ)
        → occurs n (row_of (without (branches_of row) at)) + once_at reference n ≡ rest n = λ n.
        omega (
          arith,
          ap (λ xs. occurs n (row_of xs)) cuts,
          occurs-row_of n bs,
          occurs-cut n row at h.from h.there,
          ap (λ k. once_at k n) is,
        ) in
        let ks : List Waiter = waiting_on (level - 1) (branches_of done.out.row) in
        let waiting : (n : ℕ) → occurs_waiting n (ks ++ done.out.kept) ≡ new n = λ n.
        omega (
          arith,
          total-append (λ (w : Waiter). occurs_on n w.branch) ks done.out.kept,
          occurs-waiting_on n (level - 1) (branches_of done.out.row),
          occurs-branches_of n done.out.row,
        ) in
        let last : Moves m1 m2 (λ n. new n + rest n) (λ n. new n + (rest n - once_at reference n)) = record {
          outside =
              λ n p q. others n
              (λ same. omega (arith, p, fewer n, ap (once_at reference) same, occurs_here reference));
          came = λ n p q. absurd (omega (arith, p, q));
          went = λ n p q. ⊎_elim (λ same. subst (λ k. m2 k ≡ None) same gone)
              (λ differs. absurd (omega (arith, p, q, zero_there reference n differs)))
              (cases_eq reference n);
          live = λ n p. subst IsSome
              (sym (others n
              (λ same. omega
              (arith, p, once n, fewer n, ap (once_at reference) same, occurs_here reference))))
              (framed.live n (omega (arith, p)));
          once = λ n. omega (arith, once n);
        } in
        let same_held : map (held_with lower) es ≡ map held_in ks = held_entries lower es
        ∙ ap (map (held_at lower)) (done.entries ∙ sym (items-branches_of done.out.row))
        ∙ ap (λ l. map (held_at l) (map item_in (branches_of done.out.row))) down
        ∙ sym (held_branches (level - 1) (branches_of done.out.row)) in
        let out : Condensed =
        record { row = row_of (without (branches_of row) at); kept = ks ++ done.out.kept } in
        record {
          out = out;
          takes_out =
              subst (λ o. TakesOut D most level id removed row o)
              (leaves_is D most level row at done.out (omega (arith, few, count)))
              (takes_up D most level lower id removed row at h.from done.out up h.there done.takes_out);
          below = row_stays D m m2 level out.row
              (λ n p. others n
              (λ same. omega (
                arith,
                p,
                counts n,
                apart n,
                fewer n,
                once_below n,
                ap (once_at reference) same,
                occurs_here reference,
              )) ∙ keeps n (omega (arith, p, counts n)))
              (subst (λ xs. RowStands D m level (row_of xs)) (sym cuts)
              (RowStands-cut D m level (branches_of row) at
              (subst (λ r. RowStands D m level r) (sym (row_of-branches_of row)) stands.below)));
          kept = AllWait-append D m2 ks done.out.kept (AllWait-map D m2 (level - 1) (branches_of done.out.row)
              (subst (λ l. RowStands D m2 l (row_of (branches_of done.out.row))) down
              (subst (λ r. RowStands D m2 lower r) (sym (row_of-branches_of done.out.row)) low_stands)))
              kept_stand;
          moves = moves_same m m2 _ _ _ _ (λ n. refl) (λ n. omega (arith, waiting n, counts n))
              (moves_in_turn m m1 m2 _ _ _ framed last);
          entries = written ∙ cut-is entries at
              ∙ sym (items-row_of (without (branches_of row) at) ∙ ap (map item_in) cuts
              ∙ map-cut item_in (branches_of row) at
              ∙ ap (λ (xs : List Item). cut xs at) (items-branches_of row ∙ are));
          holds = holds ∙ ap (λ hs. hs ++ reverse (map (held_with lower) es)) done.holds
              ∙ append_assoc held (reverse (map held_in done.out.kept)) (reverse (map (held_with lower) es))
              ∙ ap (λ hs. held ++ hs) (ap (λ hs. reverse (map held_in done.out.kept) ++ reverse hs) same_held
              ∙ sym (ap reverse (map-append held_in ks done.out.kept)
              ∙ reverse-append (map held_in ks) (map held_in done.out.kept)));
        }

    -- the child stays, and its box is made least
    pub child_stays : least_entries most ≤ length es → HasNode D m2 reference lower done.out.row
        → after ≡ set_box entries at (least_box D (map item_of es))
        → held2 ≡ held1 → HasTaken D most m m2 level id removed row held held2 after
    child_stays some there written holds =
        let b = least_box D (row_items done.out.row) in
        let last : Moves m1 m2 (λ n. new n + rest n) (λ n. new n + rest n) = record {
          outside =
              λ n p q. others n
              (λ same. omega (arith, p, fewer n, ap (once_at reference) same, occurs_here reference));
          came = λ n p q. absurd (omega (arith, p, q));
          went = λ n p q. absurd (omega (arith, p, q));
          live = λ n p. ⊎_elim
              (λ same. subst (λ k. IsSome (m2 k)) same (page_of_node D (m2 reference) _ there))
              (λ differs. subst IsSome (sym (others n (λ same. differs (sym same)))) (framed.live n p))
              (cases_eq reference n);
          once = once;
        } in
        record {
          out = record { row = with_child row at b done.out.row; kept = done.out.kept };
          takes_out =
              subst (λ o. TakesOut D most level id removed row o)
              (stays_is D most level row at done.out (omega (arith, some, count)))
              (takes_up D most level lower id removed row at h.from done.out up h.there done.takes_out);
          below = RowStands-with_child D m m2 level row at h.from b done.out.row h.there stands.below
              once_below
              (λ n p q. let z : occurs_at reference n h.from.row ≡ 0 =
              subst (λ k. occurs_at k n h.from.row ≡ 0) (sym is) q in
              others n (λ same. omega (arith, z, ap (once_at reference) same, occurs_here reference))
              ∙ keeps n (omega (arith, p, z)))
              (subst (λ l. HasNode D m2 h.from.page l done.out.row) down
              (subst (λ k. HasNode D m2 k lower done.out.row) is there))
              (subst (λ l. RowStands D m2 l done.out.row) down low_stands);
          kept = kept_stand;
          moves = moves_same m m2 _ _ _ _ (λ n. refl)
              (λ n. omega (arith, occurs-with_child n row at h.from b done.out.row h.there, fewer n))
              (moves_in_turn m m1 m2 _ _ _ framed last);
          entries = written ∙ ap (λ (xs : List Item). set_box entries at (least_box D xs)) done.entries
              ∙ ap (λ (xs : List Item). set_box xs at b) (sym are)
              ∙ sym (items-with_child row at h.from b done.out.row h.there);
          holds = holds ∙ done.holds;
        }

-- ---- the same, from what was told of the child

-- the child in the place
pub record Lower {D : ℕ} (most : ℕ) (m m1 : PageMap) (page level id : ℕ) (removed : Object) (row : Row)
    (at : ℕ) (held held1 : List Held) (entries : List Item) (es : List (Entry D)) (reference : ℕ) : Type
    0 where
  pub stands : Stands D m (record { page = page; level = level; row = row })
  pub are : row_items row ≡ entries
  pub h : HasChild D m level row at
  pub is : reference ≡ h.from.page
  pub up : level ≡ suc (level - 1)
  pub done : HasTaken D most m m1 (level - 1) id removed h.from.row held held1 (map item_of es)

pub lower : {D : ℕ} (most : ℕ) (m m1 : PageMap) (page level id : ℕ) (removed : Object) (row : Row) (at : ℕ)
    (held held1 : List Held) (entries : List Item) (es : List (Entry D)) (reference : ℕ)
    → TookBelow D most m m1 page level id removed row at held held1 entries (map item_of es) → 0 < level
    → at < length entries → ((d : Item) → reference ≡ (get_or entries at d).reference)
    → Lower most m m1 page level id removed row at held held1 entries es reference
lower {D} most m m1 page level id removed row at held held1 entries es reference took high within refers =
    let h = has_child D m level row at high (omega (arith, within, ap length took.are)) took.stands.below in
    let d = no_item in
    let same : took.from ≡ h.from = (let a = took.there in let b = h.there in cc) in
    record {
      stands = took.stands;
      are = took.are;
      h = h;
      is = refers d ∙ ap (λ (xs : List Item). (get_or xs at d).reference) (sym took.are) ∙ h.reference d;
      up = omega (arith, high);
      done = subst
          (λ (c : Child). HasTaken D most m m1 (level - 1) id removed c.row held held1 (map item_of es)) same
          took.taken;
    }

-- items as the code holds them
abbrev entry_of : {D : ℕ} → Item → Entry D
entry_of item = record { bounds = item.bounds; reference = item.reference; tag = item.tag }

entries_of : (D : ℕ) (items : List Item) → map (item_of {D = D}) (map (entry_of {D = D}) items) ≡ items
entries_of D [] = refl
entries_of D (item ∷ items) = ap (λ (xs : List Item). item ∷ xs) (entries_of D items)

refers_there : (entries : List Item) (at reference : ℕ) → at < length entries
    → reference ≡ page_at entries at → (d : Item) → reference ≡ (get_or entries at d).reference
refers_there entries at reference within names d = names
    ∙ ap (λ (x : Item). x.reference) (get_or_default entries at no_item d within)

module _ {D : ℕ} (most : ℕ) (m m1 m2 : PageMap) (page level id : ℕ) (removed : Object) (row : Row) (at : ℕ)
    (held held1 : List Held) (entries : List Item) (reference : ℕ) (high : 0 < level)
    (within : at < length entries) (names : reference ≡ page_at entries at)
    (others : SameBut reference m1 m2) where
  -- the child leaves, whose page has gone
  pub child_left : (held2 : List Held) (es : List (Entry D)) (items : List Item) → items ≡ map item_of es
      → TookBelow D most m m1 page level id removed row at held held1 entries items
      → length es < least_entries most → m2 reference ≡ None
      → held2 ≡ held1 ++ reverse (map (held_with (level - 1)) es)
      → HasTaken D most m m2 level id removed row held held2 (items_without entries at)
  child_left held2 es items is took few gone holds =
      let l =
      lower most m m1 page level id removed row at held held1 entries es reference
      (subst (λ (xs : List Item). TookBelow D most m m1 page level id removed row at held held1 entries xs) is
      took) high within (refers_there entries at reference within names) in
      child_leaves most level (level - 1) at reference id removed row m m1 page held held1 es entries
      l.stands l.h l.is l.up refl l.are l.done m2 held2 (items_without entries at) others few gone refl holds

  -- the child stays, whose page has what it has become
  pub child_settled : (items : List Item)
      → TookBelow D most m m1 page level id removed row at held held1 entries items
      → least_entries most ≤ length items
      → node_in D (m2 reference) ≡ Some (record { level = level - 1; entries = items })
      → HasTaken D most m m2 level id removed row held held1 (set_box entries at (least_box D items))
  child_settled items took some there =
      let es : List (Entry D) = map entry_of items in
      let same : map item_of es ≡ items = entries_of D items in
      let l =
      lower most m m1 page level id removed row at held held1 entries es reference
      (subst (λ (xs : List Item). TookBelow D most m m1 page level id removed row at held held1 entries xs)
      (sym same) took) high within (refers_there entries at reference within names) in
      child_stays most level (level - 1) at reference id removed row m m1 page held held1 es entries l.stands
      l.h l.is l.up refl l.are l.done m2 held1 (set_box entries at (least_box D items)) others
      (omega (arith, some, length-map items (entry_of {D = D})))
      (there ∙ ap (λ (xs : List Item). Some
      (let c : NodeContent = record { level = level - 1; entries = xs } in c)) (sym same ∙ l.done.entries))
      (ap (λ (xs : List Item). set_box entries at (least_box D xs)) (sym same)) refl
