-- Rows of entries: from a place on, with one node replaced, and equal where their parts are.
use Rattle.std.proofs.Common.{◌≡◌, ◌∙◌, ℕ, zero, suc, ◌+◌, ◌<◌, ◌≤◌, cond, eqb, List, [], ◌∷◌, length, drop}
use Rattle.std.proofs.Common.{map, get_or, refl, sym, ap, arith}
use Rattle.std.proofs.lemmas.Bool.Decides.{nat_tests}
use Rattle.std.proofs.lemmas.List.{drop_more}
use Rattle.box_math.specs.Bounds.{Bounds}
use Rattle.box_math.specs.Objects.{Object, bounds_of, tag_of}
use Rattle.tree_node.specs.declared.node.Entry.{Entry}
use Rattle.tree_node.specs.Nodes.{Item, item_of}
use Rattle.tree_node.specs.Positions.{total}
use Rattle.tree_node.specs.Rows.{branches_of, item_in, occurs_on, row_of}
use Rattle.tree_node.specs.Trees.{Branch, Row, end, more, object, child, Tree, leaf_ids, occurs, row_items}
use Rattle.tree_node.specs.Trees.{with_node}

pub occurs_here : (page : ℕ) → ◌≡◌ {A = ℕ} (cond (eqb page page) 1 0) 1
occurs_here page = grind (arith, nat_tests)

-- ---- equal rows

-- the same first entry, and the same others
pub same_first : (b b' : Bounds) (r r' t t' : ℕ) (xs ys : List Item)
    → ◌≡◌ {A = List Item} (record { bounds = b; reference = r; tag = t } ∷ xs)
    (record { bounds = b'; reference = r'; tag = t' } ∷ ys)
    → (b ≡ b') × (r ≡ r') × (t ≡ t') × (xs ≡ ys)
same_first b b' r r' t t' xs ys h =
    let item : ◌≡◌ {A = Item} (record { bounds = b; reference = r; tag = t })
    (record { bounds = b'; reference = r'; tag = t' }) = cc in
    (ap (λ (x : Item). x.bounds) item, ap (λ (x : Item). x.reference) item, ap (λ (x : Item). x.tag) item, cc)

pub same_kept : (b b' : Bounds) (t t' : ℕ) → b ≡ b' → t ≡ t' → ◌≡◌ {A = Object} (b, t) (b', t')
same_kept b b' t t' e f = cc

pub same_object : (o o' : Object) (r r' : ℕ) (xs ys : Row) → bounds_of o ≡ bounds_of o'
    → tag_of o ≡ tag_of o' → r ≡ r' → xs ≡ ys → more (object o r) xs ≡ more (object o' r') ys
same_object o o' r r' xs ys e f g h = let kept : o ≡ o' = same_kept o.0 o'.0 o.1 o'.1 e f in cc

pub same_child : (b b' : Bounds) (r r' : ℕ) (u v xs ys : Row) → b ≡ b' → r ≡ r' → u ≡ v → xs ≡ ys
    → more (child b r u) xs ≡ more (child b' r' v) ys
same_child b b' r r' u v xs ys e f g h = cc

pub same_tree : (page page' level level' : ℕ) (a b : Row) → page ≡ page' → level ≡ level' → a ≡ b
    → ◌≡◌ {A = Tree} (record { page = page; level = level; row = a })
    (record { page = page'; level = level'; row = b })
same_tree page page' level level' a b e f h = cc

-- ---- one node replaced

pub items_with_node : (page : ℕ) (now row : Row)
    → ◌≡◌ {A = List Item} (row_items (with_node page now row)) (row_items row)
items_with_node page now end = refl
items_with_node page now (more (object kept id) rest) =
    ap (λ (xs : List Item). record { bounds = bounds_of kept; reference = id; tag = tag_of kept } ∷ xs)
    (items_with_node page now rest)
items_with_node page now (more (child bounds q below) rest) =
    ap (λ (xs : List Item). record { bounds = bounds; reference = q; tag = 0 } ∷ xs)
    (items_with_node page now rest)

-- ---- entries from a place on

abbrev pub row_drop : ℕ → Row → Row
row_drop zero row = row
row_drop (suc n) end = end
row_drop (suc n) (more (object kept id) rest) = row_drop n rest
row_drop (suc n) (more (child bounds page below) rest) = row_drop n rest

abbrev pub row_tail : Row → Row
row_tail end = end
row_tail (more (object kept id) rest) = rest
row_tail (more (child bounds page below) rest) = rest

pub row_drop_more : (n : ℕ) (row : Row) → row_drop (suc n) row ≡ row_tail (row_drop n row)
row_drop_more zero end = refl
row_drop_more zero (more (object kept id) rest) = refl
row_drop_more zero (more (child bounds page below) rest) = refl
row_drop_more (suc n) end = refl
row_drop_more (suc n) (more (object kept id) rest) = row_drop_more n rest
row_drop_more (suc n) (more (child bounds page below) rest) = row_drop_more n rest

pub items_dropped : (n : ℕ) (row : Row) → row_items (row_drop n row) ≡ drop n (row_items row)
items_dropped zero row = refl
items_dropped (suc n) end = refl
items_dropped (suc n) (more (object kept id) rest) = items_dropped n rest
items_dropped (suc n) (more (child bounds page below) rest) = items_dropped n rest

pub all_dropped : (n : ℕ) (row : Row) → length (row_items row) ≤ n → row_drop n row ≡ end
all_dropped zero end h = refl
all_dropped zero (more (object kept id) rest) h = absurd (omega arith)
all_dropped zero (more (child bounds page below) rest) h = absurd (omega arith)
all_dropped (suc n) end h = refl
all_dropped (suc n) (more (object kept id) rest) h = all_dropped n rest (omega arith)
all_dropped (suc n) (more (child bounds page below) rest) h = all_dropped n rest (omega arith)

-- the entry at a place, and what follows it
pub items_from : (row : Row) (items : List Item) (n : ℕ) (x : Item) → row_items row ≡ items
    → n < length items → x ≡ get_or items n x → row_items (row_drop n row) ≡ x ∷ drop (n + 1) items
items_from row items n x same within is = items_dropped n row ∙ ap (drop n) same ∙ drop_more items n x within
    ∙ ap (λ y. y ∷ drop (n + 1) items) (sym is)

-- a node above the leaves has none of its own
pub no_leaves : (level : ℕ) → 0 < level → leaf_ids level end ≡ []
no_leaves zero above = absurd (omega (arith, above))
no_leaves (suc level) above = refl

-- an entry of a node, as contracts see it
pub entry_item : {dims : ℕ} (es : List (Entry dims)) (i : ℕ) (e : Entry dims) → i < length es
    → e ≡ get_or es i e → item_of e ≡ get_or (map item_of es) i (item_of e)
entry_item [] i e lt is = absurd (omega (arith, lt))
entry_item (x ∷ es) zero e lt is = ap item_of is
entry_item (x ∷ es) (suc i) e lt is = entry_item es i e (omega arith) is

-- ---- rows and lists

pub items-row_of : (xs : List Branch) → row_items (row_of xs) ≡ map item_in xs
items-row_of [] = refl
items-row_of (object kept id ∷ xs) =
    ap (λ (es : List Item). record { bounds = bounds_of kept; reference = id; tag = tag_of kept } ∷ es)
    (items-row_of xs)
items-row_of (child bounds page below ∷ xs) =
    ap (λ (es : List Item). record { bounds = bounds; reference = page; tag = 0 } ∷ es) (items-row_of xs)

pub row_of-branches_of : (row : Row) → row_of (branches_of row) ≡ row
row_of-branches_of end = refl
row_of-branches_of (more x rest) = ap (more x) (row_of-branches_of rest)

pub items-branches_of : (row : Row) → map item_in (branches_of row) ≡ row_items row
items-branches_of row = sym (items-row_of (branches_of row)) ∙ ap row_items (row_of-branches_of row)

pub occurs-row_of : (n : ℕ) (xs : List Branch) → occurs n (row_of xs) ≡ total (occurs_on n) xs
occurs-row_of n [] = refl
occurs-row_of n (object kept id ∷ xs) = omega (arith, occurs-row_of n xs)
occurs-row_of n (child bounds page below ∷ xs) = omega (arith, occurs-row_of n xs)

pub occurs-branches_of : (n : ℕ) (row : Row) → total (occurs_on n) (branches_of row) ≡ occurs n row
occurs-branches_of n row = sym (occurs-row_of n (branches_of row)) ∙ ap (occurs n) (row_of-branches_of row)

-- an entry alone
pub occurs_one : (n : ℕ) (x : Branch) → occurs n (more x end) ≡ occurs_on n x
occurs_one n (object kept id) = refl
occurs_one n (child bounds page below) = omega arith
