-- Where an object is: the boxes that lead to it, and the leaf that it is taken from.
use Rattle.std.proofs.Common.{◌≡◌, ◌∙◌, ◌⊎◌, ℕ, zero, suc, ◌<◌, Some, List, [], ◌∷◌, length, map, take, drop}
use Rattle.std.proofs.Common.{get_or, refl, sym, ap, subst, ⊎_elim, inl, inr, arith}
use Rattle.std.specs.List.{Contains}
use Rattle.std.proofs.lemmas.List.{append-nil}
use Rattle.std.proofs.lemmas.List.Elements.{Contains-append_cases, Contains-append_left}
use Rattle.std.proofs.lemmas.List.Elements.{Contains-append_right}
use Rattle.box_math.specs.Bounds.{Bounds, Within}
use Rattle.box_math.specs.Objects.{Object, bounds_of, tag_of}
use Rattle.box_math.proofs.BoxLaws.{Within-trans}
use Rattle.tree_node.specs.Nodes.{Item}
use Rattle.tree_node.specs.Rows.{branches_of, item_in, row_of}
use Rattle.tree_node.specs.Shape.{RowHasShape, RowWithin}
use Rattle.tree_node.specs.Trees.{Row, end, more, object, child, objects_in, row_items}
use Rattle.tree_node.proofs.RowLemmas.{items-branches_of, items-row_of, row_drop, row_of-branches_of}
use Rattle.tree_node.proofs.RowLemmas.{same_kept}
use Rattle.node_page.specs.Standing.{PageMap, RowStands}
use Rattle.node_page.proofs.PartLemmas.{moves_same, staying_moves}
use Rattle.reinsert.specs.Children.{Child, child_at}
use Rattle.reinsert.specs.Placed.{Held}
use Rattle.condense.specs.Removal.{Condensed, TakesOut, without}
use Rattle.condense.specs.Taken.{HasTaken, IsTakenFrom, LeadsTo, items_without}
use Rattle.condense.proofs.CutLemmas.{RowStands-cut, cut, cut-is, map-cut, occurs_leaf}

-- ---- elements

first_or_later : {A : Type 0} (y : A) (ys : List A) (x : A) (k : ℕ) → k < length (y ∷ ys)
    → get_or (y ∷ ys) k x ≡ x → (y ≡ x) ⊎ Contains ys x
first_or_later y ys x zero within is = inl is
first_or_later y ys x (suc k) within is = inr (k, omega (arith, within), is)

contains_cases : {A : Type 0} (y : A) (ys : List A) (x : A) → Contains (y ∷ ys) x → (y ≡ x) ⊎ Contains ys x
contains_cases y ys x h = first_or_later y ys x h.0 h.1 h.2

contains_later : {A : Type 0} (y : A) (ys : List A) (x : A) → Contains ys x → Contains (y ∷ ys) x
contains_later y ys x h = (suc h.0, omega (arith, h.1), h.2)

-- ---- boxes lead to each object of a tree of shape

module _ (dims most id : ℕ) (removed : Object) where
  abbrev here : ℕ × Object
  here = (id, removed)

  within_all : (row : Row) (b : Bounds) → RowHasShape dims most row → RowWithin dims row b
      → Contains (objects_in row) here → Within dims (bounds_of removed) b
  within_all end b shape all has = absurd (omega (arith, has.1))
  within_all (more (object c i) rest) b shape all has = ⊎_elim
      (λ (is : (i, c) ≡ here). subst (λ (x : ℕ × Object). Within dims (bounds_of x.1) b) is all.0)
      (λ later. within_all rest b shape all.1 later)
      (contains_cases (i, c) (objects_in rest) here has)
  within_all (more (child c page below) rest) b shape all has = ⊎_elim
      (λ lower. Within-trans dims (bounds_of removed) c b (within_all below c shape.3 shape.2.encloses lower)
      all.0)
      (λ later. within_all rest b shape.4 all.1 later)
      (Contains-append_cases (objects_in below) (objects_in rest) here has)

  pub leads_there : (row : Row) → RowHasShape dims most row → Contains (objects_in row) here
      → LeadsTo dims id removed row
  leads_there end shape has = absurd (omega (arith, has.1))
  leads_there (more (object c i) rest) shape has = ⊎_elim
      (λ (is : (i, c) ≡ here). inl (ap (λ (x : ℕ × Object). x.1) is, ap (λ (x : ℕ × Object). x.0) is))
      (λ later. inr (leads_there rest shape later))
      (contains_cases (i, c) (objects_in rest) here has)
  leads_there (more (child c page below) rest) shape has = ⊎_elim
      (λ lower. inl (within_all below c shape.3 shape.2.encloses lower, leads_there below shape.3 lower))
      (λ later. inr (leads_there rest shape.4 later))
      (Contains-append_cases (objects_in below) (objects_in rest) here has)

  -- ---- what is taken out was there

  pub child_contains : (row : Row) (at : ℕ) (c : Child) → child_at row at ≡ Some c
      → Contains (objects_in c.row) here → Contains (objects_in row) here
  child_contains end at c is has = absurd (cc)
  child_contains (more (object b i) rest) zero c is has = absurd (cc)
  child_contains (more (object b i) rest) (suc at) c is has =
      contains_later (i, b) (objects_in rest) here (child_contains rest at c is has)
  child_contains (more (child b page below) rest) zero c is has =
      let this : record { page = page; row = below } ≡ c = cc in
      Contains-append_left (objects_in below) (objects_in rest) here
      (subst (λ (x : Child). Contains (objects_in x.row) here) (sym this) has)
  child_contains (more (child b page below) rest) (suc at) c is has =
      Contains-append_right (objects_in below) (objects_in rest) here (child_contains rest at c is has)

  entry_contains : (row : Row) (at : ℕ) → take 1 (drop at (branches_of row)) ≡ object removed id ∷ []
      → Contains (objects_in row) here
  entry_contains end zero is = absurd (cc)
  entry_contains end (suc at) is = absurd (cc)
  entry_contains (more (object b i) rest) zero is =
      let kept : b ≡ removed = cc in
      let number : i ≡ id = cc in
      (0, omega arith, cc)
  entry_contains (more (object b i) rest) (suc at) is =
      contains_later (i, b) (objects_in rest) here (entry_contains rest at is)
  entry_contains (more (child b page below) rest) zero is = absurd (cc)
  entry_contains (more (child b page below) rest) (suc at) is =
      Contains-append_right (objects_in below) (objects_in rest) here (entry_contains rest at is)

  pub takes_contained : (level : ℕ) (row : Row) (out : Condensed)
      → TakesOut dims most level id removed row out → Contains (objects_in row) here
  takes_contained zero row out h = entry_contains row h.0 h.1
  takes_contained (suc level) row out h =
      child_contains row h.0 h.1 h.2 (takes_contained level h.1.row h.3 h.4)

  -- ---- a leaf

  -- no entry of it is the object's
  pub leaf_lacks : (m : PageMap) (row : Row) → RowStands dims m 0 row
      → ((at : ℕ) (d : Item) → at < length (row_items row)
      → ¬ (get_or (row_items row) at
      d ≡ record { bounds = bounds_of removed; reference = id; tag = tag_of removed }))
      → ¬ LeadsTo dims id removed row
  leaf_lacks m end stands none leads = leads
  leaf_lacks m (more (object b i) rest) stands none leads = ⊎_elim
      (λ (is : (b ≡ removed) × (i ≡ id)). none 0
      (record { bounds = bounds_of removed; reference = id; tag = tag_of removed }) (omega arith)
      (same b i is.0 is.1))
      (λ later. leaf_lacks m rest stands.1 (λ at d within. none (suc at) d (omega (arith, within))) later)
      leads
    where
      same : (b : Object) (i : ℕ) → b ≡ removed → i ≡ id
          → ◌≡◌ {A = Item} (record { bounds = bounds_of b; reference = i; tag = tag_of b })
          (record { bounds = bounds_of removed; reference = id; tag = tag_of removed })
      same b i e f = ap (λ (x : Object). record { bounds = bounds_of x; reference = i; tag = tag_of x }) e
          ∙ ap (λ (n : ℕ). record { bounds = bounds_of removed; reference = n; tag = tag_of removed }) f
  leaf_lacks m (more (child b page below) rest) stands none leads = absurd (omega (arith, stands.0))

  entry_at : (m : PageMap) (row : Row) (at : ℕ) (d : Item) → RowStands dims m 0 row
      → at < length (row_items row)
      → get_or (row_items row) at
      d ≡ record { bounds = bounds_of removed; reference = id; tag = tag_of removed }
      → take 1 (drop at (branches_of row)) ≡ object removed id ∷ []
  entry_at m end at d stands within is = absurd (omega (arith, within))
  entry_at m (more (object b i) rest) zero d stands within is =
      let box : bounds_of b ≡ bounds_of removed = ap (λ (x : Item). x.bounds) is in
      let tag : tag_of b ≡ tag_of removed = ap (λ (x : Item). x.tag) is in
      let kept : b ≡ removed =
      same_kept (bounds_of b) (bounds_of removed) (tag_of b) (tag_of removed) box tag in
      let number : i ≡ id = ap (λ (x : Item). x.reference) is in
      cc
  entry_at m (more (object b i) rest) (suc at) d stands within is =
      entry_at m rest at d stands.1 (omega (arith, within)) is
  entry_at m (more (child b page below) rest) at d stands within is = absurd (omega (arith, stands.0))

  -- the object is taken out of it
  pub leaf_taken : (m m' : PageMap) (row : Row) (held held' : List Held) (items after : List Item)
      → RowStands dims m 0 row → ((n : ℕ) → m' n ≡ m n) → row_items row ≡ items → held' ≡ held
      → IsTakenFrom id removed items after → HasTaken dims most m m' 0 id removed row held held' after
  leaf_taken m m' row held held' items after stands same are holds h =
      let at = h.at in
      let d : Item = record { bounds = bounds_of removed; reference = id; tag = tag_of removed } in
      let bs = branches_of row in
      let cuts : without bs at ≡ cut bs at = cut-is bs at in
      let new = row_of (without bs at) in
      let cut_stands : RowStands dims m 0 new =
      subst (λ xs. RowStands dims m 0 (row_of xs)) (sym cuts)
      (RowStands-cut dims m 0 bs at
      (subst (λ r. RowStands dims m 0 r) (sym (row_of-branches_of row)) stands)) in
      record {
        out = record { row = new; kept = [] };
        takes_out = (
          at,
          entry_at m row at d stands (omega (arith, h.within, ap length are))
              (ap (λ (xs : List Item). get_or xs at d) are ∙ h.found d),
          refl,
        );
        below = row_same m m' new same cut_stands;
        kept = tt;
        moves = moves_same m m' (λ n. 0) _ (λ n. 0) _ (λ n. sym (occurs_leaf dims m row n stands))
            (λ n. omega (arith, occurs_leaf dims m new n cut_stands))
            (staying_moves m m' (λ n. 0) same (λ n. omega arith) (λ n there. absurd (omega (arith, there))));
        entries = h.rest ∙ ap (λ (xs : List Item). items_without xs at) (sym are)
            ∙ sym (items-row_of (without bs at) ∙ ap (map item_in) cuts ∙ map-cut item_in bs at
            ∙ ap (λ (xs : List Item). cut xs at) (items-branches_of row) ∙ sym (cut-is (row_items row) at));
        holds = holds ∙ sym (append-nil held);
      }
    where
      row_same : (m m' : PageMap) (row : Row) → ((n : ℕ) → m' n ≡ m n) → RowStands dims m 0 row
          → RowStands dims m' 0 row
      row_same m m' end same h = tt
      row_same m m' (more (object b i) rest) same h = (h.0, row_same m m' rest same h.1)
      row_same m m' (more (child b page below) rest) same h = absurd (omega (arith, h.0))

  -- ---- the children so far lack it

  pub leads_later : (row : Row) (at : ℕ) (c : Child) (d : Item) → child_at row at ≡ Some c
      → ¬ (Within dims (bounds_of removed) (get_or (row_items row) at d).bounds
      × LeadsTo dims id removed c.row)
      → LeadsTo dims id removed (row_drop at row) → LeadsTo dims id removed (row_drop (suc at) row)
  leads_later end at c d is none leads = absurd (cc)
  leads_later (more (object b i) rest) zero c d is none leads = absurd (cc)
  leads_later (more (object b i) rest) (suc at) c d is none leads = leads_later rest at c d is none leads
  leads_later (more (child b page below) rest) zero c d is none leads =
      let this : record { page = page; row = below } ≡ c = cc in
      ⊎_elim
      (λ (found : Within dims (bounds_of removed) b × LeadsTo dims id removed below). absurd
      (none (found.0, subst (λ (x : Child). LeadsTo dims id removed x.row) this found.1)))
      (λ later. later)
      leads
  leads_later (more (child b page below) rest) (suc at) c d is none leads =
      leads_later rest at c d is none leads
