-- A search in a tree.
use Rattle.std.proofs.Common.{◌≡◌, ◌∙◌, ℕ, zero, suc, ◌-◌, ◌<◌, ◌≤◌, Bool, true, cond, eqb, Option, Some}
use Rattle.std.proofs.Common.{None, List, [], ◌∷◌, length, get_or, refl, sym, ap, subst, ⊎_elim, arith}
use Rattle.std.proofs.lemmas.Bool.{cases_eq}
use Rattle.box_math.specs.Objects.{Object}
use Rattle.bucket_page.specs.Layout.{Entry}
use Rattle.id_page.specs.Fork.{AreAscending, Link, route}
use Rattle.node_page.specs.Standing.{PageMap}
use Rattle.id_words.specs.Objects.{kept_in, times_in}
use Rattle.id_tree.specs.Rows.{At, HasAt, LeadsBelow, MaySeek, NodeStands, here, down}
use Rattle.id_tree.specs.Tree.{IdTree, Row, end, more, object, child, RowStands, TreeStands, at_edge}
use Rattle.id_tree.specs.Tree.{links_of, objects_in}
use Rattle.id_tree.proofs.NodeLemmas.{stands_same}
use Rattle.id_tree.proofs.ObjectLemmas.{is_other, is_same}
use Rattle.id_tree.proofs.RootLemmas.{root_stands}
use Rattle.id_tree.proofs.RowLemmas.{ascending}
use Rattle.id_tree.proofs.WayLemmas.{child_stands, same_below, times_below}

pub some_times : (id place : ℕ) (xs : List Entry) (none : Entry) → place < length xs
    → (get_or xs place none).0 ≡ id → 0 < times_in id xs
some_times id place [] none lt is = absurd (omega (arith, lt))
some_times id zero (x ∷ xs) none lt is = let one : ◌≡◌ {A = ℕ} (cond (eqb x.0 id) 1 0) 1 =
    ap (λ b. cond b 1 0) (is_same x.0 id is) in omega (arith, one)
some_times id (suc place) (x ∷ xs) none lt is = let later =
    some_times id place xs none (omega (arith, lt)) is in omega (arith, later)

-- what is kept of an object that is in a place
pub kept_there : (id place : ℕ) (kept : Object) (xs : List Entry) (none : Entry) → place < length xs
    → get_or xs place none ≡ (id, kept) → times_in id xs ≤ 1 → kept_in id xs ≡ Some kept
kept_there id place kept [] none lt is single = absurd (omega (arith, lt))
kept_there id zero kept (x ∷ xs) none lt is single =
    ap (λ b. cond b (Some x.1) (kept_in id xs)) (is_same x.0 id (ap (λ (o : Entry). o.0) is))
    ∙ ap (λ (o : Entry). Some o.1) is
kept_there id (suc place) kept (x ∷ xs) none lt is single = ⊎_elim
    (λ (same : x.0 ≡ id).
    let one : ◌≡◌ {A = ℕ} (cond (eqb x.0 id) 1 0) 1 = ap (λ b. cond b 1 0) (is_same x.0 id same) in
    let two = some_times id place xs none (omega (arith, lt)) (ap (λ (o : Entry). o.0) is) in
    absurd (omega (arith, one, two, single)))
    (λ (other : ¬ (x.0 ≡ id)). ap (λ b. cond b (Some x.1) (kept_in id xs)) (is_other x.0 id other)
    ∙ kept_there id place kept xs none (omega (arith, lt)) is (omega (arith, single)))
    (cases_eq x.0 id)

pub kept_of : (id place : ℕ) (kept : Object) (xs : List Entry) → HasAt id xs place kept → times_in id xs ≤ 1
    → kept_in id xs ≡ Some kept
kept_of id place kept xs has single = kept_there id place kept xs (id, kept) has.within (has.is (id, kept))
    single

-- a leaf leads to itself
pub leads_here : (page level id : ℕ) (row : Row) → level ≡ 0 → LeadsBelow page level id row (Some page)
leads_here page level id row low =
    subst (λ (l : ℕ). LeadsBelow page l id row (Some page)) (sym low) (row, here page row)

-- below a node
module _ (dims : ℕ) (pages : PageMap) (page level : ℕ) (edge : Bool) (id p : ℕ) (row : Row) (high : 0 < level)
    (s : NodeStands dims pages page level edge row) (way : At id p row) where
  pub leads_below : (leaf : Option ℕ) → LeadsBelow p (level - 1) id way.below leaf
      → LeadsBelow page level id row leaf
  leads_below None none = same_below dims pages page level edge id p row high s way ∙ none
  leads_below (Some leaf) leads = (leads.0, down level page p leaf row leads.0 high way leads.1)

  pub may_seek_below : ((q : ℕ) → times_in q (objects_in row) ≤ 1)
      → MaySeek dims pages p (level - 1) (at_edge edge way.rest) way.below
  may_seek_below single = record {
    stands = child_stands dims pages page level edge id p row high s way;
    single = λ q. omega (arith, single q, times_below dims pages page level edge id p row high s way q);
  }

pub seek_same : (dims : ℕ) (old new : PageMap) (page level : ℕ) (edge : Bool) (row : Row)
    → ((n : ℕ) → new n ≡ old n) → MaySeek dims old page level edge row → MaySeek dims new page level edge row
seek_same dims old new page level edge row same m =
    record { stands = stands_same dims old new page level edge row same m.stands; single = m.single }

-- without a way a fork has nothing
pub nowhere : (dims : ℕ) (pages : PageMap) (level id : ℕ) (row : Row) → 0 < level
    → RowStands dims pages level row → None ≡ route id (links_of row) → kept_in id (objects_in row) ≡ None
nowhere dims pages level id end high stands is = refl
nowhere dims pages level id (more (object i o) rest) high stands is = absurd (omega (arith, high, stands.0))
nowhere dims pages level id (more (child key page below) rest) high stands is = absurd (cc)

-- the keys of a node that stands ascend
pub keys_ascend : (dims : ℕ) (pages : PageMap) (page level : ℕ) (edge : Bool) (row : Row) → 0 < level
    → NodeStands dims pages page level edge row → AreAscending (links_of row)
keys_ascend dims pages page level edge row high s = ascending dims pages level row high s.below s.parted

-- a search from the root
pub may_seek_root : (dims : ℕ) (pages : PageMap) (root : ℕ) (t : IdTree) → t.page ≡ root
    → TreeStands dims pages t → MaySeek dims pages root t.level true t.row
may_seek_root dims pages root t at s = subst (λ p. MaySeek dims pages p t.level true t.row) at
    (record { stands = root_stands dims pages t s; single = s.single })

pub no_route : (id : ℕ) (links : List Link) → None ≡ route id links → length links ≡ 0
no_route id [] none = refl
no_route id (x ∷ xs) none = absurd (cc)
