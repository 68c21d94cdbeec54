-- An entry placed below a node: at the node itself, and below its chosen child.
use Rattle.std.proofs.Common.{Option, Some, None, IsSome, Result, Ok, Err, IfOk, ◌≡◌, ◌∙◌, ℕ, zero, suc, ◌+◌}
use Rattle.std.proofs.Common.{◌-◌, ◌<◌, ◌≤◌, Bool, List, [], ◌∷◌, ◌++◌, length, map, reverse, refl, sym, ap}
use Rattle.std.proofs.Common.{subst, ⊎_elim, arith, append_assoc}
use Rattle.std.proofs.lemmas.Bool.{cases_eq}
use Rattle.std.proofs.lemmas.List.{map-append, reverse-append}
use Rattle.std.specs.Option.{option_map}
use Rattle.page_file.specs.declared.fault.Fault.{Fault}
use Rattle.page_cache.specs.Cache.{IsPageMap, pages}
use Rattle.page_cache.specs.Calls.{AsksUntil, asks_and_changes}
use Rattle.page_cache.specs.declared.cache.PageCache.{PageCache}
use Rattle.tree_node.specs.declared.node.Entry.{Entry}
use Rattle.tree_node.specs.declared.node.Root.{Root}
use Rattle.tree_node.specs.Nodes.{NodeContent, Item, item_of}
use Rattle.tree_node.specs.Trees.{Row, end, more, Branch, object, child, row_items, row_length, occurs}
use Rattle.tree_node.specs.Shape.{RowHasShape}
use Rattle.tree_node.specs.Rows.{branches_of, row_of, item_in, occurs_on, Waiter, occurs_waiting}
use Rattle.tree_node.specs.Positions.{total}
use Rattle.tree_node.specs.Boxes.{least_box, no_item, reference_at}
use Rattle.tree_node.proofs.RowLemmas.{row_of-branches_of, items-branches_of, occurs-row_of}
use Rattle.tree_node.proofs.RowLemmas.{occurs-branches_of, occurs_here}
use Rattle.tree_node.proofs.PositionLemmas.{total-append}
use Rattle.choose_subtree.specs.Choice.{IsChosenChild}
use Rattle.node_page.specs.Standing.{PageMap, HasNode, node_in, RowStands}
use Rattle.node_page.proofs.StandingLemmas.{page_of_node, node_stays, row_stays, same_content, below_there}
use Rattle.node_page.specs.Parts.{Moves}
use Rattle.node_page.specs.Changes.{AllWait}
use Rattle.node_page.proofs.PartLemmas.{moves_same, moves_from, moves_in_turn}
use Rattle.reinsert.specs.declared.settled.Settled.{Settled}
use Rattle.reinsert.specs.declared.waiting.Wait.{Wait}
use Rattle.reinsert.specs.declared.waiting.Waiting.{Waiting as Room}
use Rattle.reinsert.specs.Children.{occurs_at, Child, child_at, with_child, boxed}
use Rattle.reinsert.specs.Placing.{Outcome, Settles, Places, beside_branches, after_child}
use Rattle.reinsert.specs.Steps.{SettlesThere}
use Rattle.reinsert.specs.Placed.{held_of, held_in, BesideStands, occurs_beside, occurs_after, HasFewEntries}
use Rattle.reinsert.specs.Placed.{CanSettle, SettlesTo, Shows, CanPlace, PlacesTo, items_after, items_beside}
use Rattle.node_bytes.specs.Enlarged.{set_box}
use Rattle.reinsert.proofs.StandLemmas.{RowStands-append, zero_there, moves_with, rest_same, rest_once}
use Rattle.reinsert.proofs.SettledLemmas.{AllWait_frame, waiting_live}
use Rattle.reinsert.proofs.ChildLemmas.{HasChild, has_child, items-with_child, occurs-with_child}
use Rattle.reinsert.proofs.ChildLemmas.{RowStands-with_child}

-- ---- the entry is added to the node itself

-- a node can take the entry in equal pages
pub can_place_from : (dims : ℕ) (m m0 : PageMap) (page level target : ℕ) (row : Row) (branch : Branch)
    → ((n : ℕ) → m0 n ≡ m n) → CanPlace dims m page level target row branch
    → CanPlace dims m0 page level target row branch
can_place_from dims m m0 page level target row branch same can = record {
  there = node_stays dims m m0 page level row (same page) can.there;
  below = row_stays dims m m0 level row (λ n p. same n) can.below;
  entry = row_stays dims m m0 target (more branch end) (λ n p. same n) can.entry;
  distinct = can.distinct;
}

-- and so can the node that has settled
pub can_settle_from : (dims : ℕ) (m m0 : PageMap) (page level : ℕ) (branches : List Branch)
    → ((n : ℕ) → m0 n ≡ m n) → CanSettle dims m page level branches → CanSettle dims m0 page level branches
can_settle_from dims m m0 page level branches same can = record {
  live = subst IsSome (sym (same page)) can.live;
  stands = row_stays dims m m0 level (row_of branches) (λ n p. same n) can.stands;
  distinct = can.distinct;
}

pub placed_here : {D : ℕ} (X : Type 0) (most top level target : ℕ) (called : List Bool) (branch : Branch)
    (row : Row) (m m' : PageMap) (page : ℕ) (settled : Settled D) (waits waits' : List (Wait D))
    (called' : List Bool)
    → CanPlace D m page level target row branch → level ≡ target
    → ((branches : List Branch) → map item_in branches ≡ row_items row ++ item_in branch ∷ []
    → CanSettle D m page level branches
    → X × SettlesTo D most top level called branches m m' page settled waits waits' called')
    → X × PlacesTo D most top level target called branch row m m' page settled waits waits' called'
placed_here {D} X most top level target called branch row m m' page settled waits waits' called' can low
    callee =
    let branches = branches_of row ++ branch ∷ [] in
    let are : map item_in branches ≡ row_items row ++ item_in branch ∷ [] =
    map-append item_in (branches_of row) (branch ∷ [])
    ∙ ap (λ (es : List Item). es ++ item_in branch ∷ []) (items-branches_of row) in
    let counts : (n : ℕ) → occurs_at page n (row_of branches) ≡ occurs_at page n row + occurs_on n branch =
    λ n. omega (
      arith,
      occurs-row_of n branches,
      total-append (occurs_on n) (branches_of row) (branch ∷ []),
      occurs-branches_of n row,
    ) in
    let stands : RowStands D m level (row_of branches) =
    RowStands-append D m level (branches_of row) (branch ∷ [])
    (subst (λ r. RowStands D m level r) (sym (row_of-branches_of row)) can.below)
    (subst (λ l. RowStands D m l (more branch end)) (sym low) can.entry) in
    let both =
    callee branches are
    (record {
      live = page_of_node D (m page) _ can.there;
      stands = stands;
      distinct = λ n. omega (arith, counts n, can.distinct n);
    }) in
    let done = both.1 in
    let down : level - target ≡ 0 = omega (arith, low) in (
      both.0,
      record {
        outcome = done.outcome;
        places = rw down done.settles;
        stands = done.stands;
        moves = moves_same m m' _ _ _ _ counts (λ n. refl) done.moves;
        shows = done.shows;
      },
    )

-- ---- the child has settled

abbrev items_of : Option Item → List Item
items_of None = []
items_of (Some item) = item ∷ []

beside_shown : (dims : ℕ) (beside : Option Child)
    → map item_in (beside_branches dims beside) ≡ items_of (option_map (λ c. item_in (boxed dims c)) beside)
beside_shown dims None = refl
beside_shown dims (Some c) = refl

beside_items : {D : ℕ} (beside : Option (Entry D))
    → items_beside beside ≡ items_of (option_map item_of beside)
beside_items None = refl
beside_items (Some e) = refl

-- the entries that the code writes are those of the node with the settled child
above_items : {D : ℕ} (row : Row) (at : ℕ) (c : Child) (lower : Settled D) (waits waits' : List (Wait D))
    (called : List Bool) (down : Outcome) (items : List Item) → child_at row at ≡ Some c
    → Shows D lower waits waits' called down → row_items row ≡ items
    → map item_in (after_child D row at down) ≡ items_after items at lower
above_items {D} row at c lower waits waits' called down items is shows are =
    let b = least_box D (row_items down.row) in
    let new = with_child row at b down.row in
    let here : map item_in (branches_of new) ≡ set_box items at lower.bounds =
    items-branches_of new ∙ items-with_child row at c b down.row is
    ∙ ap (λ (es : List Item). set_box es at b) are ∙ ap (set_box items at) (sym shows.bounds) in
    let next : map item_in (beside_branches D down.beside) ≡ items_beside lower.beside =
    beside_shown D down.beside ∙ ap items_of (sym shows.beside) ∙ sym (beside_items lower.beside) in
    map-append item_in (branches_of new) (beside_branches D down.beside)
    ∙ ap (λ (es : List Item). es ++ map item_in (beside_branches D down.beside)) here
    ∙ ap (λ (es : List Item). set_box items at lower.bounds ++ es) next

pub AllWait-append : (dims : ℕ) (m : PageMap) (xs ys : List Waiter) → AllWait dims m xs → AllWait dims m ys
    → AllWait dims m (xs ++ ys)
AllWait-append dims m [] ys h k = k
AllWait-append dims m (x ∷ xs) ys h k = (h.0, AllWait-append dims m xs ys h.1 k)

beside_row_stands : (dims : ℕ) (m : PageMap) (level : ℕ) (beside : Option Child) → 0 < level
    → BesideStands dims m (level - 1) beside → RowStands dims m level (row_of (beside_branches dims beside))
beside_row_stands dims m level None high h = tt
beside_row_stands dims m level (Some c) high h = (high, h.0, h.1, tt)

occurs_beside-branches : (dims n : ℕ) (beside : Option Child)
    → total (occurs_on n) (beside_branches dims beside) ≡ occurs_beside n beside
occurs_beside-branches dims n None = refl
occurs_beside-branches dims n (Some c) = omega arith

module _ {D : ℕ} (most top level target at : ℕ) (called called1 : List Bool) (branch : Branch) (row : Row)
    (m m1 : PageMap) (page : ℕ) (lower : Settled D) (waits waits1 : List (Wait D))
    (can : CanPlace D m page level target row branch) (above : target < level)
    (h : HasChild D m level row at) (reference : ℕ) (is : reference ≡ h.from.page) where
  child_can : CanPlace D m reference (level - 1) target h.from.row branch
  child_can = record {
    there = subst (λ n. HasNode D m n (level - 1) h.from.row) (sym is) h.node;
    below = h.stands;
    entry = can.entry;
    distinct =
        λ n. subst (λ k. occurs_at k n h.from.row + occurs_on n branch ≤ 1) (sym is)
        (omega (arith, h.fewer n, can.distinct n));
  }

  module _
      (done : PlacesTo D most top (level - 1) target called branch h.from.row m m1 reference lower waits
      waits1 called1) where
    abbrev new_row : Row
    new_row = with_child row at (least_box D (row_items done.outcome.row)) done.outcome.row

    abbrev new_branches : List Branch
    new_branches = after_child D row at done.outcome

    -- what occurs in the node beside the child
    abbrev rest : ℕ → ℕ
    rest n = occurs_at page n row - occurs_at reference n h.from.row

    fewer : (n : ℕ) → occurs_at reference n h.from.row ≤ occurs n row
    fewer n = subst (λ k. occurs_at k n h.from.row ≤ occurs n row) (sym is) (h.fewer n)

    rest_live : (n : ℕ) → 0 < rest n → IsSome (m n)
    rest_live n there = ⊎_elim
        (λ same. subst (λ k. IsSome (m k)) same (page_of_node D (m page) _ can.there))
        (λ differs. below_there D m level row n can.below (omega (arith, there, zero_there page n differs)))
        (cases_eq page n)

    rest_is_apart : (n : ℕ) → (occurs_at reference n h.from.row + occurs_on n branch) + rest n ≤ 1
    rest_is_apart n = omega (arith, fewer n, can.distinct n)

    stays : (n : ℕ) → 0 < rest n → m1 n ≡ m n
    stays = rest_same m m1 _ _ rest done.moves rest_is_apart rest_live

    once : (n : ℕ) → occurs_after reference done.outcome n + rest n ≤ 1
    once = rest_once m m1 _ _ rest done.moves rest_is_apart rest_live

    counts_new : (n : ℕ) → occurs n new_row + occurs n h.from.row ≡ occurs n row + occurs n done.outcome.row
    counts_new n =
        occurs-with_child n row at h.from (least_box D (row_items done.outcome.row)) done.outcome.row h.there

    counts : (n : ℕ)
        → occurs_at page n (row_of new_branches) + occurs_waiting n done.outcome.far ≡ occurs_after reference
        done.outcome n + rest n
    counts n = omega (
      arith,
      occurs-row_of n new_branches,
      total-append (occurs_on n) (branches_of new_row) (beside_branches D done.outcome.beside),
      occurs-branches_of n new_row,
      occurs_beside-branches D n done.outcome.beside,
      counts_new n,
      fewer n,
    )

    still_there : HasNode D m1 page level row
    still_there =
        node_stays D m m1 page level row
        (stays page (omega (arith, occurs_here page, fewer page, can.distinct page))) can.there

    can_settle : CanSettle D m1 page level new_branches
    can_settle = record {
      live = page_of_node D (m1 page) _ still_there;
      stands = RowStands-append D m1 level (branches_of new_row) (beside_branches D done.outcome.beside)
          (subst (λ r. RowStands D m1 level r) (sym (row_of-branches_of new_row))
          (RowStands-with_child D m m1 level row at h.from (least_box D (row_items done.outcome.row))
          done.outcome.row h.there can.below (λ n. omega (arith, can.distinct n))
          (λ n there apart. let none : occurs_at reference n h.from.row ≡ 0 =
          subst (λ k. occurs_at k n h.from.row ≡ 0) (sym is) apart in
          stays n (omega (arith, none, there)))
          (subst (λ k. HasNode D m1 k (level - 1) done.outcome.row) is done.stands.there) done.stands.below))
          (beside_row_stands D m1 level done.outcome.beside (omega (arith, above)) done.stands.beside);
      distinct = λ n. omega (arith, counts n, once n);
    }

    module _ (m' : PageMap) (settled : Settled D) (waits' : List (Wait D)) (called' : List Bool)
        (chosen : IsChosenChild D level (row_items row) (item_in branch).bounds at)
        (up : SettlesTo D most top level called1 new_branches m1 m' page settled waits1 waits' called') where
      abbrev waiting : ℕ → ℕ
      waiting n = occurs_waiting n done.outcome.far

      waiting_apart : (n : ℕ) → occurs_at page n (row_of new_branches) + waiting n ≤ 1
      waiting_apart n = omega (arith, counts n, once n)

      waiting_lives : (n : ℕ) → 0 < waiting n → IsSome (m1 n)
      waiting_lives n there = waiting_live D m1 done.outcome.far n done.stands.far there

      waiting_stays : (n : ℕ) → 0 < waiting n → m' n ≡ m1 n
      waiting_stays = rest_same m1 m' _ _ waiting up.moves waiting_apart waiting_lives

      abbrev final : Outcome
      final = record up.outcome { far = up.outcome.far ++ done.outcome.far }

      final_counts : (n : ℕ) → occurs_after page up.outcome n + waiting n ≡ occurs_after page final n
      final_counts n =
          omega (arith, total-append (λ (w : Waiter). occurs_on n w.branch) up.outcome.far done.outcome.far)

      lower_moves : Moves m m1 (λ n. occurs_at page n row + occurs_on n branch)
          (λ n. occurs_at page n (row_of new_branches) + waiting n)
      lower_moves =
          moves_same m m1 _ _ _ _ (λ n. omega (arith, fewer n)) (λ n. sym (counts n))
          (moves_with m m1 _ _ rest done.moves rest_is_apart rest_live)

      upper_moves : Moves m1 m' (λ n. occurs_at page n (row_of new_branches) + waiting n)
          (occurs_after page final)
      upper_moves =
          moves_same m1 m' _ _ _ _ (λ n. refl) final_counts
          (moves_with m1 m' _ _ waiting up.moves waiting_apart waiting_lives)

      places_above : (k : ℕ) → k ≡ level - target → Places D most top level k called branch row final
      places_above zero e = absurd (omega (arith, e, above))
      places_above (suc k) e =
          let down : level - 1 - target ≡ k = omega (arith, e) in
          record {
            at = at;
            chosen = chosen;
            from = h.from;
            there = h.there;
            below = done.outcome;
            settled =
                subst (λ j. Places D most top (level - 1) j called branch h.from.row done.outcome) down
                done.places;
            above = up.outcome;
            settles =
                subst (λ ls. Settles D most top level ls new_branches up.outcome) done.shows.calls up.settles;
            is = refl;
          }

      far_shown : map held_of waits' ≡ map held_of waits
          ++ reverse (map held_in (up.outcome.far ++ done.outcome.far))
      far_shown =
          let a = map held_in up.outcome.far in
          let b = map held_in done.outcome.far in
          up.shows.far ∙ ap (λ hs. hs ++ reverse a) done.shows.far
          ∙ append_assoc (map held_of waits) (reverse b) (reverse a)
          ∙ ap (λ hs. map held_of waits ++ hs)
          (sym (ap reverse (map-append held_in up.outcome.far done.outcome.far) ∙ reverse-append a b))

      placed_above : PlacesTo D most top level target called branch row m m' page settled waits waits' called'
      placed_above = record {
        outcome = final;
        places = places_above (level - target) refl;
        stands = record {
          there = up.stands.there;
          below = up.stands.below;
          beside = up.stands.beside;
          far = AllWait-append D m' up.outcome.far done.outcome.far up.stands.far
              (AllWait_frame D m1 m' done.outcome.far waiting_stays done.stands.far);
        };
        moves = moves_in_turn m m1 m' _ _ _ lower_moves upper_moves;
        shows = record {
          bounds = up.shows.bounds;
          beside = up.shows.beside;
          far = far_shown;
          calls = up.shows.calls;
        };
      }

-- the step above, from what the calls ensure
pub placed_over : {D : ℕ} (X Y : Type 0) (most top level target at reference : ℕ)
    (called called1 : List Bool) (branch : Branch) (row : Row) (m m1 m' : PageMap) (page : ℕ)
    (lower settled : Settled D) (waits waits1 waits' : List (Wait D)) (called' : List Bool)
    (items : List Item)
    → CanPlace D m page level target row branch → target < level → row_items row ≡ items
    → IsChosenChild D level items (item_in branch).bounds at → reference ≡ reference_at items at
    → ((below : Row) → CanPlace D m reference (level - 1) target below branch
    → Y × PlacesTo D most top (level - 1) target called branch below m m1 reference lower waits waits1
    called1)
    → (Y → (branches : List Branch) → map item_in branches ≡ items_after items at lower
    → CanSettle D m1 page level branches → HasNode D m1 page level row
    → X × SettlesTo D most top level called1 branches m1 m' page settled waits1 waits' called')
    → X × PlacesTo D most top level target called branch row m m' page settled waits waits' called'
placed_over {D} X Y most top level target at reference called called1 branch row m m1 m' page lower settled
    waits waits1 waits' called' items can above are chosen refers callee finish =
    let chosen_here : IsChosenChild D level (row_items row) (item_in branch).bounds at =
    subst (λ (es : List Item). IsChosenChild D level es (item_in branch).bounds at) (sym are) chosen in
    let h = has_child D m level row at (omega (arith, above)) chosen_here.within can.below in
    let is : reference ≡ h.from.page = refers ∙ ap (λ (es : List Item). reference_at es at) (sym are)
    ∙ h.reference no_item in
    let both =
    callee h.from.row
    (child_can most top level target at called called1 branch row m m1 page lower waits waits1 can above
    h reference is) in
    let done = both.1 in
    let up =
    finish both.0 (after_child D row at done.outcome)
    (above_items row at h.from lower waits waits1 called1 done.outcome items h.there done.shows are)
    (can_settle most top level target at called called1 branch row m m1 page lower waits waits1 can above h
    reference is done)
    (still_there most top level target at called called1 branch row m m1 page lower waits waits1 can above h
    reference is done) in (
      up.0,
      placed_above most top level target at called called1 branch row m m1 page lower waits waits1 can
          above h reference is done m' settled waits' called' chosen_here up.1,
    )

-- ---- what a call gives, where it answers Ok

-- the same over equal pages
places_from : {D : ℕ} (most top level target : ℕ) (called : List Bool) (branch : Branch) (row : Row)
    (m m0 m' : PageMap) (page : ℕ) (settled : Settled D) (waits waits' : List (Wait D)) (called' : List Bool)
    → ((n : ℕ) → m0 n ≡ m n)
    → PlacesTo D most top level target called branch row m0 m' page settled waits waits' called'
    → PlacesTo D most top level target called branch row m m' page settled waits waits' called'
places_from most top level target called branch row m m0 m' page settled waits waits' called' same done =
    record {
      outcome = done.outcome;
      places = done.places;
      stands = done.stands;
      moves = moves_from m m0 m' _ _ same done.moves;
      shows = done.shows;
    }

pub settles_from : {D : ℕ} {E : Type 0} (r : Result (Settled D) E) (X : Type 0) (most top level : ℕ)
    (called : List Bool) (branches : List Branch) (m m0 m' : PageMap) (page : ℕ)
    (waits waits' : List (Wait D)) (called' : List Bool) → ((n : ℕ) → m0 n ≡ m n)
    → IfOk r (λ s. X × SettlesTo D most top level called branches m0 m' page s waits waits' called')
    → IfOk r (λ s. X × SettlesTo D most top level called branches m m' page s waits waits' called')
settles_from (Ok s) X most top level called branches m m0 m' page waits waits' called' same both =
    let done = both.1 in (
      both.0,
      record {
        outcome = done.outcome;
        settles = done.settles;
        stands = done.stands;
        moves = moves_from m m0 m' _ _ same done.moves;
        shows = done.shows;
      },
    )
settles_from (Err e) X most top level called branches m m0 m' page waits waits' called' same both = tt

pub here_ok : {D : ℕ} {E : Type 0} (r : Result (Settled D) E) (X : Type 0) (most top level target : ℕ)
    (called : List Bool) (branch : Branch) (row : Row) (m m0 m' : PageMap) (page : ℕ)
    (waits waits' : List (Wait D)) (called' : List Bool)
    → ((n : ℕ) → m0 n ≡ m n) → CanPlace D m page level target row branch → level ≡ target
    → ((branches : List Branch) → map item_in branches ≡ row_items row ++ item_in branch ∷ []
    → CanSettle D m0 page level branches
    → IfOk r (λ s. X × SettlesTo D most top level called branches m0 m' page s waits waits' called'))
    → IfOk r (λ s. X × PlacesTo D most top level target called branch row m m' page s waits waits' called')
here_ok (Ok s) X most top level target called branch row m m0 m' page waits waits' called' same can low
    callee =
    let both =
    placed_here X most top level target called branch row m0 m' page s waits waits' called'
    (can_place_from _ m m0 page level target row branch same can) low callee in (
      both.0,
      places_from most top level target called branch row m m0 m' page s waits waits' called' same both.1,
    )
here_ok (Err e) X most top level target called branch row m m0 m' page waits waits' called' same can low
    callee = tt

pub over_ok : {D : ℕ} {E : Type 0} (r : Result (Settled D) E) (X Y : Type 0)
    (most top level target at reference : ℕ) (called called1 : List Bool) (branch : Branch) (row : Row)
    (m m0 m1 m' : PageMap) (page : ℕ) (lower : Settled D)
    (waits waits1 waits' : List (Wait D)) (called' : List Bool) (items : List Item)
    → ((n : ℕ) → m0 n ≡ m n) → CanPlace D m page level target row branch → target < level
    → row_items row ≡ items → IsChosenChild D level items (item_in branch).bounds at
    → reference ≡ reference_at items at
    → ((below : Row) → CanPlace D m0 reference (level - 1) target below branch
    → Y × PlacesTo D most top (level - 1) target called branch below m0 m1 reference lower waits waits1
    called1)
    → (Y → (branches : List Branch) → map item_in branches ≡ items_after items at lower
    → CanSettle D m1 page level branches → HasNode D m1 page level row
    → IfOk r (λ s. X × SettlesTo D most top level called1 branches m1 m' page s waits1 waits' called'))
    → IfOk r (λ s. X × PlacesTo D most top level target called branch row m m' page s waits waits' called')
over_ok (Ok s) X Y most top level target at reference called called1 branch row m m0 m1 m' page lower waits
    waits1 waits' called' items same can above are chosen refers callee finish =
    let both =
    placed_over X Y most top level target at reference called called1 branch row m0 m1 m' page lower s
    waits waits1 waits' called' items (can_place_from _ m m0 page level target row branch same can) above
    are chosen refers callee finish in (
      both.0,
      places_from most top level target called branch row m m0 m' page s waits waits' called' same both.1,
    )
over_ok (Err e) X Y most top level target at reference called called1 branch row m m0 m1 m' page lower waits
    waits1 waits' called' items same can above are chosen refers callee finish = tt

-- the entries that were read are those of the tree that stands
pub items_read : (dims : ℕ) (m : PageMap) (page level level' : ℕ) (row : Row) (entries : List Item)
    → HasNode dims m page level row
    → node_in dims (m page) ≡ Some (record { level = level'; entries = entries }) → row_items row ≡ entries
items_read dims m page level level' row entries there read =
    ap (λ (c : NodeContent). c.entries) (same_content dims m page _ _ there read)

-- ---- where no page is damaged

few_below : (dims most : ℕ) (row : Row) (at : ℕ) (c : Child) → child_at row at ≡ Some c
    → RowHasShape dims most row → HasFewEntries dims most c.row
few_below dims most end at c is h = absurd (cc)
few_below dims most (more (object kept id) rest) zero c is h = absurd (cc)
few_below dims most (more (object kept id) rest) (suc at) c is h = few_below dims most rest at c is h
few_below dims most (more (child bounds page below) rest) zero c is h =
    let this : record { page = page; row = below } ≡ c = cc in
    subst (λ (x : Child). HasFewEntries dims most x.row) this (h.1, h.3)
few_below dims most (more (child bounds page below) rest) (suc at) c is h =
    few_below dims most rest at c is h.4

pub few_items : (dims most : ℕ) (row : Row) → HasFewEntries dims most row → length (row_items row) ≤ most
few_items dims most row h = omega (arith, h.0, count row)
  where
    count : (row : Row) → length (row_items row) ≡ row_length row
    count end = refl
    count (more (object kept id) rest) = omega (arith, count rest)
    count (more (child bounds page below) rest) = omega (arith, count rest)

-- the chosen child can take the entry, and has few entries too
pub few_can : {D : ℕ} (most level target at reference : ℕ) (branch : Branch) (row : Row) (m m0 : PageMap)
    (page : ℕ) (items : List Item)
    → ((n : ℕ) → m0 n ≡ m n) → CanPlace D m page level target row branch → target < level
    → row_items row ≡ items → at < length items
    → reference ≡ reference_at items at → HasFewEntries D most row
    → (below : Row) × CanPlace D m0 reference (level - 1) target below branch × HasFewEntries D most below
few_can {D} most level target at reference branch row m m0 page items same before above are within refers
    few =
    let can = can_place_from D m m0 page level target row branch same before in
    let h = has_child D m0 level row at (omega (arith, above)) (omega (arith, within, ap length are))
    can.below in
    let is : reference ≡ h.from.page = refers ∙ ap (λ (es : List Item). reference_at es at) (sym are)
    ∙ h.reference no_item in (
      h.from.row,
      record {
        there = subst (λ n. HasNode D m0 n (level - 1) h.from.row) (sym is) h.node;
        below = h.stands;
        entry = can.entry;
        distinct =
            λ n. subst (λ k. occurs_at k n h.from.row + occurs_on n branch ≤ 1) (sym is)
            (omega (arith, h.fewer n, can.distinct n));
      },
      few_below D most row at h.from h.there few.1,
    )

-- the node still stands when its child has settled
pub there_after : {D : ℕ} (Y : Type 0) (most top level target at reference : ℕ) (called called1 : List Bool)
    (branch : Branch) (row : Row) (m m0 m1 : PageMap) (page : ℕ) (lower : Settled D)
    (waits waits1 : List (Wait D)) (items : List Item)
    → ((n : ℕ) → m0 n ≡ m n) → CanPlace D m page level target row branch → target < level
    → row_items row ≡ items → at < length items
    → reference ≡ reference_at items at
    → ((below : Row) → CanPlace D m0 reference (level - 1) target below branch
    → Y × PlacesTo D most top (level - 1) target called branch below m0 m1 reference lower waits waits1
    called1)
    → Y × HasNode D m1 page level row
there_after {D} Y most top level target at reference called called1 branch row m m0 m1 page lower waits
    waits1 items same before above are within refers callee =
    let can = can_place_from D m m0 page level target row branch same before in
    let h = has_child D m0 level row at (omega (arith, above)) (omega (arith, within, ap length are))
    can.below in
    let is : reference ≡ h.from.page = refers ∙ ap (λ (es : List Item). reference_at es at) (sym are)
    ∙ h.reference no_item in
    let both =
    callee h.from.row
    (child_can most top level target at called called1 branch row m0 m1 page lower waits waits1 can above
    h reference is) in (
      both.0,
      still_there most top level target at called called1 branch row m0 m1 page lower waits waits1 can
          above h reference is both.1,
    )

-- a node was asked for before it settled
pub settles_after_asking : {D : ℕ} {B A : Type 0} {m : _} {most top : ℕ} {at : Root}
    {Asked : List Item → Type 0} {after : List Item → List Item} {waiting waiting' : Room D}
    (old mid new : PageCache B A m) (result : Result (Settled D) Fault) → AsksUntil old mid None
    → SettlesThere most top at Asked after mid new waiting waiting' result
    → SettlesThere most top at Asked after old new waiting waiting' result
settles_after_asking {D} {B} {A} {m} {most} {top} {at} {Asked} {after} {waiting} {waiting'} old mid new result
    asked s =
    let stays : IsPageMap old → (n : ℕ) → pages mid n ≡ pages old n = λ h. asked.map.pages_stay h.honest in
    record {
      changes = asks_and_changes old mid new result asked s.changes;
      grows = omega (arith, s.grows, asked.map.next);
      measure = s.measure;
      beside = s.beside;
      settled = λ h items there branches are can.
          settles_from result (IsPageMap new) most top at.level waiting.called branches (pages old) (pages mid)
          (pages new) at.page waiting.waits.items waiting'.waits.items waiting'.called (stays h)
          (s.settled (asked.map.sound.0 h) items (ap (node_in D) (stays h at.page) ∙ there) branches are
          (can_settle_from D (pages old) (pages mid) at.page at.level branches (stays h) can));
      faults = λ h items there within few.
          s.faults (asked.map.sound.0 h) items (ap (node_in D) (stays h at.page) ∙ there) within few;
      sound = λ h. s.sound (asked.map.sound.0 h);
      damaged = λ h. s.damaged (asked.map.sound.0 h);
      other_faults = s.other_faults;
    }
