-- The entries of a node whose child has settled, as the code has them.
use Rattle.std.proofs.Common.{Option, Some, None, ◌≡◌, ◌∙◌, ℕ, zero, suc, ◌+◌, ◌<◌, ◌≤◌, List, [], ◌∷◌, ◌++◌}
use Rattle.std.proofs.Common.{length, map, take, drop, get_or, set, All, IfSome, refl, sym, ap, subst, arith}
use Rattle.std.specs.List.{refill}
use Rattle.std.specs.Prelude.{is_some, false}
use Rattle.std.proofs.lemmas.List.{map-append, append-nil, take_all, length-map, length-append, length-set}
use Rattle.std.proofs.lemmas.List.{get_or-map}
use Rattle.std.proofs.lemmas.List.Elements.{All-append}
use Rattle.box_math.specs.Bounds.{Bounds}
use Rattle.tree_node.specs.Boxes.{box_at}
use Rattle.tree_node.specs.declared.node.Entry.{Entry}
use Rattle.tree_node.specs.Nodes.{Item, item_of}
use Rattle.node_bytes.specs.Layout.{IsOfLevel}
use Rattle.reinsert.specs.declared.settled.Settled.{Settled}
use Rattle.node_bytes.proofs.BoxedLemmas.{length-set_box}
use Rattle.node_bytes.specs.Enlarged.{set_box}
use Rattle.reinsert.specs.Placed.{items_after, items_beside}
use Rattle.reinsert.specs.Steps.{HasLower}
use Rattle.reinsert.proofs.WaitLemmas.{All-one}

drop_whole : {A : Type 0} (k : ℕ) (xs : List A) → length xs ≤ k → drop k xs ≡ []
drop_whole zero [] h = refl
drop_whole zero (x ∷ xs) h = absurd (omega (arith, h))
drop_whole (suc k) [] h = refl
drop_whole (suc k) (x ∷ xs) h = drop_whole k xs (omega (arith, h))

-- as many elements as there were are put back
refill_whole : {A : Type 0} (n : ℕ) (xs ws : List A) → length ws ≡ n → length xs ≡ n → refill n xs ws ≡ ws
refill_whole n xs ws new old =
    ap (λ ys. take n (ws ++ ys)) (drop_whole (length ws) xs (omega (arith, new, old)))
    ∙ ap (take n) (append-nil ws) ∙ take_all n ws (omega (arith, new))

set_box-is : {D : ℕ} (entries : List (Entry D)) (at : ℕ) (b : Bounds) (e : Entry D) → at < length entries
    → map item_of
    (set entries at
    (record { bounds = b; reference = (get_or entries at e).reference; tag = (get_or entries at e).tag }))
    ≡ set_box (map item_of entries) at b
set_box-is [] at b e within = absurd (omega (arith, within))
set_box-is (x ∷ xs) zero b e within = refl
set_box-is (x ∷ xs) (suc at) b e within =
    ap (λ (es : List Item). item_of x ∷ es) (set_box-is xs at b e (omega (arith, within)))

pub nothing_beside : {A : Type 0} (o : Option A) → is_some o ≡ false → o ≡ None
nothing_beside None h = refl
nothing_beside (Some x) h = absurd (cc)

set_box-same : (items : List Item) (at : ℕ) → set_box items at (box_at items at) ≡ items
set_box-same [] at = refl
set_box-same (x ∷ xs) zero = refl
set_box-same (x ∷ xs) (suc at) = ap (λ (es : List Item). x ∷ es) (set_box-same xs at)

-- where nothing was split off, only the child's box is another
pub items_boxed : {D : ℕ} (items : List Item) (at : ℕ) (lower : Settled D) → lower.beside ≡ None
    → items_after items at lower ≡ set_box items at lower.bounds
items_boxed items at lower none = ap (λ o. set_box items at lower.bounds ++ items_beside o) none
    ∙ append-nil (set_box items at lower.bounds)

-- a child that kept its box, and beside which nothing was split off, leaves the entries as they were
pub items_kept : {D : ℕ} (items : List Item) (at : ℕ) (lower : Settled D) → lower.beside ≡ None
    → lower.bounds ≡ box_at items at → items_after items at lower ≡ items
items_kept items at lower none same =
    items_boxed items at lower none ∙ ap (set_box items at) same ∙ set_box-same items at

set_box-reference : (xs : List Item) (at : ℕ) (b : Bounds) (k : ℕ) (d : Item)
    → (get_or (set_box xs at b) k d).reference ≡ (get_or xs k d).reference
set_box-reference [] at b k d = refl
set_box-reference (x ∷ xs) zero b zero d = refl
set_box-reference (x ∷ xs) zero b (suc k) d = refl
set_box-reference (x ∷ xs) (suc at) b zero d = refl
set_box-reference (x ∷ xs) (suc at) b (suc k) d = set_box-reference xs at b k d

set_box-tag : (xs : List Item) (at : ℕ) (b : Bounds) (k : ℕ) (d : Item)
    → (get_or (set_box xs at b) k d).tag ≡ (get_or xs k d).tag
set_box-tag [] at b k d = refl
set_box-tag (x ∷ xs) zero b zero d = refl
set_box-tag (x ∷ xs) zero b (suc k) d = refl
set_box-tag (x ∷ xs) (suc at) b zero d = refl
set_box-tag (x ∷ xs) (suc at) b (suc k) d = set_box-tag xs at b k d

-- the entries are still of their level
pub set_box-refers : (level : ℕ) (xs : List Item) (at : ℕ) (b : Bounds)
    → All (λ (item : Item). IsOfLevel level item.reference item.tag) xs
    → All (λ (item : Item). IsOfLevel level item.reference item.tag) (set_box xs at b)
set_box-refers level xs at b refers = λ k d lt.
    subst (λ r. IsOfLevel level r (get_or (set_box xs at b) k d).tag) (sym (set_box-reference xs at b k d))
    (subst (λ t. IsOfLevel level (get_or xs k d).reference t) (sym (set_box-tag xs at b k d))
    (refers k d (omega (arith, lt, length-set_box xs at b))))

pub All-mapped : {D : ℕ} (level : ℕ) (entries : List (Entry D))
    → All (λ (item : Item). IsOfLevel level item.reference item.tag) (map item_of entries)
    → All (λ (e : Entry D). IsOfLevel level e.reference e.tag) entries
All-mapped level entries h k d lt =
    subst (λ (x : Item). IsOfLevel level x.reference x.tag) (get_or-map item_of entries k d (item_of d) lt)
    (h k (item_of d) (omega (arith, length-map entries item_of, lt)))

mapped-All : {D : ℕ} (level : ℕ) (entries : List (Entry D))
    → All (λ (e : Entry D). IsOfLevel level e.reference e.tag) entries
    → All (λ (item : Item). IsOfLevel level item.reference item.tag) (map item_of entries)
mapped-All level [] h k d lt = absurd (omega (arith, lt))
mapped-All {D} level (x ∷ xs) h k d lt =
    let within : k < length (x ∷ xs) = omega (arith, length-map (x ∷ xs) (item_of {D = D}), lt) in
    subst (λ (y : Item). IsOfLevel level y.reference y.tag) (sym (get_or-map item_of (x ∷ xs) k x d within))
    (h k x within)

beside_refers : {D : ℕ} (level : ℕ) (o : Option (Entry D))
    → IfSome o (λ e. IsOfLevel level e.reference e.tag)
    → All (λ (item : Item). IsOfLevel level item.reference item.tag) (items_beside o)
beside_refers level None h = λ k d lt. absurd (omega (arith, lt))
beside_refers level (Some e) h =
    All-one (λ (item : Item). IsOfLevel level item.reference item.tag) (item_of e) h

length-beside : {D : ℕ} (o : Option (Entry D)) → length (items_beside o) ≤ 1
length-beside None = omega arith
length-beside (Some e) = omega arith

above_of : {D : ℕ} (level : ℕ) (entries : List (Entry D)) (at : ℕ) (lower : Settled D) (new : List (Entry D))
    → at < length entries
    → All (λ (e : Entry D). IsOfLevel level e.reference e.tag) entries
    → IfSome lower.beside (λ e. IsOfLevel level e.reference e.tag)
    → map item_of new ≡ items_after (map item_of entries) at lower → HasLower level entries at lower new
above_of {D} level entries at lower new within refers beside are =
    let base = set_box (map item_of entries) at lower.bounds in
    let P : Item → Type 0 = λ item. IsOfLevel level item.reference item.tag in
    let count : length new ≡ length base + length (items_beside lower.beside) = sym (length-map new item_of)
    ∙ ap length are ∙ length-append base (items_beside lower.beside) in
    let base_count : length base ≡ length entries = length-set_box (map item_of entries) at lower.bounds
    ∙ length-map entries item_of in
    let base_refers : All P base =
    set_box-refers level (map item_of entries) at lower.bounds (mapped-All level entries refers) in
    record {
      items = are;
      some = omega (arith, count, base_count, within);
      few = omega (arith, count, base_count, length-beside lower.beside);
      refers =
          All-mapped level new
          (subst (λ (xs : List Item). All P xs) (sym are)
          (All-append P base (items_beside lower.beside) base_refers
          (beside_refers level lower.beside beside)));
    }

module _ {D : ℕ} (level : ℕ) (entries now : List (Entry D)) (at : ℕ) (lower : Settled D) (e : Entry D)
    (within : at < length entries) (is : now ≡ entries)
    (refers : All (λ (e : Entry D). IsOfLevel level e.reference e.tag) entries)
    (beside : IfSome lower.beside (λ e. IsOfLevel level e.reference e.tag)) where
  abbrev base : List (Entry D)
  base = refill (length entries) entries
      (set now at
      (record {
        bounds = lower.bounds;
        reference = (get_or now at e).reference;
        tag = (get_or now at e).tag;
      }))

  base_items : map item_of base ≡ set_box (map item_of entries) at lower.bounds
  base_items =
      let x : Entry D =
      record {
        bounds = lower.bounds;
        reference = (get_or entries at e).reference;
        tag = (get_or entries at e).tag;
      } in
      ap (map item_of)
      (ap (λ (ys : List (Entry D)). refill (length entries) entries
      (set ys at
      (record {
        bounds = lower.bounds;
        reference = (get_or ys at e).reference;
        tag = (get_or ys at e).tag;
      }))) is
      ∙ refill_whole (length entries) entries (set entries at x) (length-set entries at x) refl)
      ∙ set_box-is entries at lower.bounds e within

  pub above_some : (new : List (Entry D)) (o : Option (Entry D)) (x : Entry D) → o ≡ lower.beside
      → o ≡ Some x → new ≡ base ++ x ∷ [] → HasLower level entries at lower new
  above_some new o x same some are = above_of level entries at lower new within refers beside
      (ap (map item_of) are ∙ map-append item_of base (x ∷ [])
      ∙ ap (λ (es : List Item). es ++ item_of x ∷ []) base_items
      ∙ ap (λ (p : Option (Entry D)). set_box (map item_of entries) at lower.bounds ++ items_beside p)
      (sym some ∙ same))

  pub above_none : (new : List (Entry D)) → ((x : Entry D) → lower.beside ≡ Some x → ⊥) → new ≡ base
      → HasLower level entries at lower new
  above_none new none are = above_of level entries at lower new within refers beside
      (ap (map item_of) are ∙ base_items ∙ sym (append-nil (set_box (map item_of entries) at lower.bounds))
      ∙ ap (λ (p : Option (Entry D)). set_box (map item_of entries) at lower.bounds ++ items_beside p)
      (sym (is_none lower.beside none)))
    where
      is_none : (o : Option (Entry D)) → ((x : Entry D) → o ≡ Some x → ⊥) → o ≡ None
      is_none None h = refl
      is_none (Some x) h = absurd (h x refl)
