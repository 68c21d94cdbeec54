-- Where no page is damaged: states of shape between two placings.
use Rattle.std.proofs.Common.{◌≡◌, ℕ, zero, suc, ◌+◌, ◌^◌, ◌<◌, ◌≤◌, Bool, List, [], ◌∷◌, ◌++◌, sym, ap}
use Rattle.std.proofs.Common.{subst, ⊎_elim, arith}
use Rattle.std.proofs.lemmas.Bool.{cases_eq}
use Rattle.tree_node.specs.Boxes.{RowHasBoxes}
use Rattle.tree_node.specs.Nodes.{item_of}
use Rattle.tree_node.specs.Rows.{item_in, occurs_on, occurs_waiting}
use Rattle.tree_node.specs.Shape.{HasLooseShape}
use Rattle.tree_node.specs.Trees.{Row, Branch, Tree, occurs_in}
use Rattle.tree_node.specs.declared.node.Root.{Root}
use Rattle.node_page.specs.Changes.{AllWait}
use Rattle.node_page.specs.Standing.{PageMap, Stands}
use Rattle.node_page.proofs.StandingBoxes.{child_pages_are_references}
use Rattle.reinsert.specs.Inserted.{IsAt}
use Rattle.reinsert.specs.Insertion.{Placings}
use Rattle.reinsert.specs.Kept.{AllHaveShape, EntryHasShape, StateHasShape}
use Rattle.reinsert.specs.Placed.{CanPlace, HasFewEntries, Held}
use Rattle.reinsert.specs.Placing.{State}
use Rattle.reinsert.specs.declared.waiting.Wait.{Wait}
use Rattle.reinsert.proofs.FromLemmas.{at_begin}
use Rattle.reinsert.proofs.InsertLemmas.{ready}
use Rattle.reinsert.proofs.LevelLemmas.{shape_bounds_level}
use Rattle.reinsert.proofs.ShapeLemmas.{placing_keeps_loose_shape}
use Rattle.reinsert.proofs.StandLemmas.{zero_there}

-- placings keep the shape of a state
pub placings_keep_shape : (dims most : ℕ) (elsewhere : ℕ → ℕ) (count : ℕ) (old new : State)
    → Placings dims most elsewhere count old new → 2 ≤ most → StateHasShape dims most old
    → StateHasShape dims most new
placings_keep_shape dims most elsewhere zero old new h enough shape =
    subst (StateHasShape dims most) (sym h) shape
placings_keep_shape dims most elsewhere (suc count) old new h enough shape =
    placings_keep_shape dims most elsewhere count h.0 new h.2 enough
    (placing_keeps_loose_shape dims most elsewhere old h.0 h.1 enough shape)

-- the state at first
pub first_has_shape : (dims most top level : ℕ) (t : Tree) (branch : Branch) → level ≤ t.level
    → HasLooseShape dims most t → RowHasBoxes dims t.row → EntryHasShape dims most level branch
    → StateHasShape dims most (at_begin top t branch level)
first_has_shape dims most top level t branch fits shape boxes entry =
    record { tree = shape; boxes = boxes; waiting = (fits, entry, tt) }

-- what the first that waits needs: it can be placed below the root, which has few entries
pub record FirstCan {D : ℕ} (most : ℕ) (m : PageMap) (root : Root) (first : Wait D) : Type 0 where
  pub row : Row
  pub branch : Branch
  pub item : item_in branch ≡ item_of first.entry
  pub can : CanPlace D m root.page root.level first.level row branch
  pub few : HasFewEntries D most row
  pub fits : first.level ≤ root.level

module _ {D : ℕ} (most : ℕ) (elsewhere : ℕ → ℕ) (m : PageMap) (root : Root) (waits : List (Wait D))
    (first : Wait D) (called : List Bool) (s : State)
    (at : IsAt D m root (waits ++ first ∷ []) called elsewhere s) (shape : StateHasShape D most s) where
  pub first_can : FirstCan most m root first
  first_can =
      let r = ready waits first s.waiting at.holds in
      let level : r.w.level ≡ first.level = ap (λ (h : Held). h.level) (sym r.is) in
      let stand : AllWait D m (r.w ∷ r.ws) = subst (AllWait D m) r.all_is at.far in
      let waiting : AllHaveShape D most s.tree.level (r.w ∷ r.ws) =
      subst (AllHaveShape D most s.tree.level) r.all_is shape.waiting in
      let apart : (n : ℕ)
      → occurs_in n s.tree + (occurs_on n r.w.branch + occurs_waiting n r.ws) + elsewhere n ≤ 1 =
      λ n. subst (λ ws. occurs_in n s.tree + occurs_waiting n ws + elsewhere n ≤ 1) r.all_is (at.apart n) in
      let here : CanPlace D m s.tree.page s.tree.level r.w.level s.tree.row r.w.branch =
      record {
        there = at.there;
        below = at.below;
        entry = stand.0;
        distinct = λ n. omega (arith, apart n);
      } in
      record {
        row = s.tree.row;
        branch = r.w.branch;
        item = ap (λ (h : Held). h.item) (sym r.is);
        can = subst (λ p. CanPlace D m p root.level first.level s.tree.row r.w.branch) at.at.page
            (subst (λ l. CanPlace D m s.tree.page l first.level s.tree.row r.w.branch) at.at.level
            (subst (λ l. CanPlace D m s.tree.page s.tree.level l s.tree.row r.w.branch) level here));
        few = (shape.tree.few, shape.tree.below);
        fits = omega (arith, level, waiting.0, at.at.level);
      }

  stands : Stands D m s.tree
  stands = record { root = at.there; below = at.below; distinct = λ n. omega (arith, at.apart n) }

  -- the root is so low that it can grow
  pub low_root : root.page < 2 ^ 31 → root.level < 40
  low_root small =
      let page : s.tree.page < 2 ^ 31 = subst (λ n. n < 2 ^ 31) (sym at.at.page) small in
      let few : (n : ℕ) → 0 < occurs_in n s.tree → n < 2 ^ 31 = λ n there. ⊎_elim
      (λ (is : s.tree.page ≡ n). subst (λ k. k < 2 ^ 31) is page)
      (λ differs.
      (child_pages_are_references D m s.tree n stands
      (omega (arith, there, zero_there s.tree.page n differs))).1)
      (cases_eq s.tree.page n) in
      let low = shape_bounds_level D most s.tree shape.tree stands.distinct few in
      omega (arith, low, at.at.level)
