-- The child that an object is looked for in, while the ones before it lacked it.
use Rattle.std.proofs.Common.{◌≡◌, ◌∙◌, ⊎_elim, ℕ, zero, suc, ◌+◌, ◌-◌, ◌<◌, ◌≤◌}
use Rattle.std.proofs.Common.{List, length, get_or, refl, sym, ap, subst, arith}
use Rattle.std.specs.List.{Contains}
use Rattle.std.proofs.lemmas.Bool.{cases_lt}
use Rattle.box_math.specs.Bounds.{Within}
use Rattle.box_math.specs.Objects.{Object, bounds_of, tag_of}
use Rattle.tree_node.specs.Boxes.{box_at, no_item}
use Rattle.tree_node.specs.declared.node.Root.{Root}
use Rattle.tree_node.specs.Nodes.{Item, NodeContent}
use Rattle.tree_node.specs.Trees.{Row, objects_in, row_items}
use Rattle.tree_node.proofs.RowLemmas.{all_dropped, row_drop}
use Rattle.node_page.specs.Standing.{PageMap, RowStands, Stands}
use Rattle.node_page.proofs.PartLemmas.{moves_from}
use Rattle.node_page.proofs.StandingLemmas.{node_stays, row_stays, same_content}
use Rattle.reinsert.specs.Placed.{Held}
use Rattle.reinsert.proofs.ChildLemmas.{HasChild, has_child}
use Rattle.condense.specs.Becoming.{IsNext, LeadsDown}
use Rattle.condense.specs.Taken.{HasTaken, IsTakenFrom, LeadsTo, TookBelow, tree_at}
use Rattle.condense.specs.declared.hand.Next.{Next}
use Rattle.condense.proofs.LeadLemmas.{child_contains, leads_later, leaf_lacks, leaf_taken}

-- the child in a place stands, in pages that are as they were
pub record IsBelow (dims : ℕ) (m m0 : PageMap) (at : Root) (row : Row) (entries : List Item) (place : ℕ)
    (below : Root) : Type 0 where
  pub are : row_items row ≡ entries
  pub h : HasChild dims m at.level row place
  pub level : below.level ≡ at.level - 1
  pub stands : Stands dims m0 (tree_at below h.from.row)

pub is_below : {dims : ℕ} (m m0 : PageMap) (at : Root) (row : Row) (next : Next)
    → Stands dims m (tree_at at row) → ((n : ℕ) → m0 n ≡ m n) → (above : LeadsDown dims m0 at next)
    → IsNext at next → IsBelow dims m m0 at row above.node.entries next.place next.below
is_below {dims} m m0 at row next stands same above is_next =
    let are : row_items row ≡ above.node.entries =
    ap (λ (x : NodeContent). x.entries)
    (same_content dims m0 at.page (record { level = at.level; entries = row_items row }) above.node
    (node_stays dims m m0 at.page at.level row (same at.page) stands.root) above.there) in
    let h = has_child dims m at.level row next.place is_next.above
    (omega (arith, above.within, ap length are)) stands.below in
    let page : next.below.page ≡ h.from.page = above.names
    ∙ ap (λ (xs : List Item). (get_or xs next.place no_item).reference) (sym are) ∙ h.reference no_item in
    let down : at.level - 1 ≡ next.below.level = sym is_next.level in
    let whole : Stands dims m0 (record { page = h.from.page; level = at.level - 1; row = h.from.row }) =
    record {
      root = node_stays dims m m0 h.from.page (at.level - 1) h.from.row (same h.from.page) h.node;
      below = row_stays dims m m0 (at.level - 1) h.from.row (λ n p. same n) h.stands;
      distinct = λ n. omega (arith, h.fewer n, stands.distinct n);
    } in
    record {
      are = are;
      h = h;
      level = sym down;
      stands = subst
          (λ l. Stands dims m0 (record { page = next.below.page; level = l; row = h.from.row })) down
          (subst (λ n. Stands dims m0 (record { page = n; level = at.level - 1; row = h.from.row }))
          (sym page) whole);
    }

module _ (dims most : ℕ) (m m0 : PageMap) (at : Root) (row : Row) (entries : List Item) (place : ℕ)
    (below : Root) (b : IsBelow dims m m0 at row entries place below) (id : ℕ) (removed : Object) where
  -- what was taken out below the child was taken out below the node
  pub took_below : (m1 : PageMap) (level : ℕ) (held0 held held1 : List Held) (lower : List Item)
      → Stands dims m (tree_at at row) → ((n : ℕ) → m0 n ≡ m n) → level ≡ at.level → held0 ≡ held
      → HasTaken dims most m0 m1 below.level id removed b.h.from.row held0 held1 lower
      → TookBelow dims most m m1 at.page level id removed row place held held1 entries lower
  took_below m1 level held0 held held1 lower stands same is before done =
      let l : below.level ≡ level - 1 = omega (arith, b.level, is) in
      let here : HasTaken dims most m0 m1 (level - 1) id removed b.h.from.row held held1 lower =
      subst (λ hs. HasTaken dims most m0 m1 (level - 1) id removed b.h.from.row hs held1 lower) before
      (subst (λ k. HasTaken dims most m0 m1 k id removed b.h.from.row held0 held1 lower) l done) in
      record {
        stands = subst (λ k. Stands dims m (record { page = at.page; level = k; row = row })) (sym is) stands;
        are = b.are;
        from = b.h.from;
        there = b.h.there;
        taken = record {
          out = here.out;
          takes_out = here.takes_out;
          below = here.below;
          kept = here.kept;
          moves = moves_from m m0 m1 _ _ same here.moves;
          entries = here.entries;
          holds = here.holds;
        };
      }

  -- what the child has the node has
  pub below_contained : ¬ Contains (objects_in row) (id, removed)
      → ¬ Contains (objects_in b.h.from.row) (id, removed)
  below_contained lacks has = lacks (child_contains dims most id removed row place b.h.from b.h.there has)

  -- where it lacks the object, or its box does not enclose the object's, the object is later
  pub later_than : ¬ (Within dims (bounds_of removed) (get_or entries place no_item).bounds
      × LeadsTo dims id removed b.h.from.row)
      → LeadsTo dims id removed (row_drop place row) → LeadsTo dims id removed (row_drop (place + 1) row)
  later_than none leads =
      let d = no_item in
      let step : suc place ≡ place + 1 = omega arith in
      subst (λ k. LeadsTo dims id removed (row_drop k row)) step
      (leads_later dims most id removed row place b.h.from d b.h.there
      (subst (λ (xs : List Item).
      ¬ (Within dims (bounds_of removed) (get_or xs place d).bounds
      × LeadsTo dims id removed b.h.from.row)) (sym b.are) none) leads)

-- ---- a leaf

pub taken_here : {D : ℕ} (most : ℕ) (m m' : PageMap) (at : Root) (id : ℕ) (removed : Object) (row : Row)
    (held : List Held) (items : List Item) → at.level ≡ 0 → Stands D m (tree_at at row)
    → ((n : ℕ) → m' n ≡ m n)
    → IsTakenFrom id removed (row_items row) items
    → HasTaken D most m m' at.level id removed row held held items
taken_here {D} most m m' at id removed row held items low stands same taken =
    let below : RowStands D m 0 row = subst (λ l. RowStands D m l row) low stands.below in
    subst (λ l. HasTaken D most m m' l id removed row held held items) (sym low)
    (leaf_taken D most id removed m m' row held held (row_items row) items below same refl refl taken)

-- it is not in one without such an entry
pub none_here : {D : ℕ} (most : ℕ) (m : PageMap) (at : Root) (id : ℕ) (removed : Object) (row : Row)
    → at.level ≡ 0 → Stands D m (tree_at at row)
    → ((k : ℕ) (d : Item) → k < length (row_items row)
    → ¬ (get_or (row_items row) k
    d ≡ record { bounds = bounds_of removed; reference = id; tag = tag_of removed }))
    → ¬ LeadsTo D id removed row
none_here {D} most m at id removed row low stands none leads =
    let below : RowStands D m 0 row = subst (λ l. RowStands D m l row) low stands.below in
    leaf_lacks D most id removed m row below none leads

-- ---- children whose boxes do not enclose the object's

-- all from one place to another
pub passed_to : {dims : ℕ} (most : ℕ) (m : PageMap) (at : Root) (row : Row) (first count last id : ℕ)
    (removed : Object) → Stands dims m (tree_at at row) → 0 < at.level → last ≡ first + count
    → ((k : ℕ) → first ≤ k → k < last → k < length (row_items row)
    → ¬ Within dims (bounds_of removed) (box_at (row_items row) k))
    → LeadsTo dims id removed (row_drop first row) → LeadsTo dims id removed (row_drop last row)
passed_to {dims} most m at row first zero last id removed stands high is passed leads =
    let same : first ≡ last = omega (arith, is) in
    subst (λ k. LeadsTo dims id removed (row_drop k row)) same leads
passed_to {dims} most m at row first (suc count) last id removed stands high is passed leads =
    let place : ℕ = first + count in
    let so_far =
    passed_to most m at row first count place id removed stands high refl
    (λ k low below lt. passed k low (omega (arith, below, is)) lt) leads in
    let step : suc place ≡ last = omega (arith, is) in
    subst (λ k. LeadsTo dims id removed (row_drop k row)) step
    (⊎_elim
    (λ (within : place < length (row_items row)).
    let h = has_child dims m at.level row place high within stands.below in
    leads_later dims most id removed row place h.from no_item h.there
    (λ both. passed place (omega arith) (omega (arith, step)) within both.0) so_far)
    (λ past. absurd (subst (LeadsTo dims id removed) (all_dropped place row past) so_far))
    (cases_lt place (length (row_items row))))

-- and where these are all that are left, the object is not there
pub none_leads : {dims : ℕ} (most : ℕ) (m : PageMap) (at : Root) (row : Row) (first id : ℕ)
    (removed : Object) → Stands dims m (tree_at at row) → 0 < at.level
    → ((k : ℕ) → first ≤ k → k < length (row_items row)
    → ¬ Within dims (bounds_of removed) (box_at (row_items row) k))
    → ¬ LeadsTo dims id removed (row_drop first row)
none_leads {dims} most m at row first id removed stands high none leads =
    let n = length (row_items row) in
    let last : ℕ = first + n in
    subst (LeadsTo dims id removed) (all_dropped last row (omega arith))
    (passed_to most m at row first n last id removed stands high refl
    (λ k low below lt. none k low lt) leads)
