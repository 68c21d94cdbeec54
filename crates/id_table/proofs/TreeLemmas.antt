-- What holds of tables that are trees.
use Rattle.std.proofs.Common.{◌≡◌, ◌∙◌, ℕ, ◌-◌, ◌<◌, Option, Some, None, List, [], drop, get_or, refl}
use Rattle.std.proofs.Common.{sym, ap, subst, ⊎_elim, inl, inr, arith}
use Rattle.std.proofs.lemmas.Bool.{cases_eq}
use Rattle.bucket_page.specs.Layout.{Entry}
use Rattle.node_bytes.specs.Layout.{IsNodeKind}
use Rattle.node_page.specs.Standing.{PageMap}
use Rattle.id_page.specs.Fork.{ForkContent, Link}
use Rattle.id_page.proofs.ForkReading.{fork_spells}
use Rattle.id_page.proofs.LeafReading.{leaf_spells}
use Rattle.id_tree.specs.Tree.{HasNode, IdTree, Row, end, more, object, child, RowStands, TreeStands, fork_in}
use Rattle.id_tree.specs.Tree.{leaf_in, links_of, objects_in, occurs, occurs_in}
use Rattle.id_tree.proofs.NodeLemmas.{node_stays, not_there, occurs_here, row_stays, there_bytes}
use Rattle.id_table.proofs.ChainLemmas.{IsOther}

-- ---- pages

-- a tree stands in pages that are equal where it stands
pub tree_stays : (dims : ℕ) (old new : PageMap) (t : IdTree)
    → ((n : ℕ) → 0 < occurs_in n t → new n ≡ old n) → TreeStands dims old t → TreeStands dims new t
tree_stays dims old new t same s = record {
  low = s.low;
  high = s.high;
  bounded = s.bounded;
  root = node_stays dims old new t.page t.level t.row (same t.page (omega (arith, occurs_here t.page))) s.root;
  below = row_stays dims old new t.level t.row (λ n p. same n (omega (arith, p))) s.below;
  parted = s.parted;
  filled = s.filled;
  wide = s.wide;
  single = s.single;
  once = s.once;
}

-- a node of an identifier tree is none of a tree of boxes
node_is_other : (dims : ℕ) (pages : PageMap) (page level : ℕ) (row : Row) → HasNode dims pages page level row
    → IsOther (pages page)
node_is_other dims pages page level row node =
    let there = there_bytes dims pages page level row node in (
      there.0,
      there.1,
      λ box. ⊎_elim
          (λ (low : level ≡ 0). leaf_apart
          (leaf_spells dims there.0 (objects_in row) (ap (leaf_in dims) (sym there.1) ∙ node.leaf low)).head.kind box)
          (λ (up : ¬ (level ≡ 0)). fork_apart
          (fork_spells dims there.0 (record { level = level; links = links_of row })
          (ap (fork_in dims) (sym there.1) ∙ node.fork (omega (arith, up)))).head.kind box)
          (cases_eq level 0),
    )
  where
    leaf_apart : {kind : ℕ} → kind ≡ 9 → IsNodeKind kind → ⊥
    leaf_apart a (inl b) = omega (arith, a, b)
    leaf_apart a (inr b) = omega (arith, a, b)

    fork_apart : {kind : ℕ} → kind ≡ 8 → IsNodeKind kind → ⊥
    fork_apart a (inl b) = omega (arith, a, b)
    fork_apart a (inr b) = omega (arith, a, b)

below_is_other : (dims : ℕ) (pages : PageMap) (level : ℕ) (row : Row) (n : ℕ) → RowStands dims pages level row
    → 0 < occurs n row → IsOther (pages n)
below_is_other dims pages level end n stands some = absurd (omega (arith, some))
below_is_other dims pages level (more (object id kept) rest) n stands some =
    below_is_other dims pages level rest n stands.1 some
below_is_other dims pages level (more (child key page below) rest) n stands some = ⊎_elim
    (λ (is : page ≡ n). subst (λ k. IsOther (pages k)) is
    (node_is_other dims pages page (level - 1) below stands.3))
    (λ (other : ¬ (page ≡ n)). ⊎_elim
    (λ (none : occurs n below ≡ 0). below_is_other dims pages level rest n stands.5
    (let no = not_there page n other in omega (arith, some, no, none)))
    (λ (here : ¬ (occurs n below ≡ 0)). below_is_other dims pages (level - 1) below n stands.4
    (omega (arith, here)))
    (cases_eq (occurs n below) 0))
    (cases_eq page n)

pub tree_is_other : (dims : ℕ) (pages : PageMap) (t : IdTree) (n : ℕ) → TreeStands dims pages t
    → 0 < occurs_in n t → IsOther (pages n)
tree_is_other dims pages t n s some = ⊎_elim
    (λ (is : t.page ≡ n). subst (λ k. IsOther (pages k)) is
    (node_is_other dims pages t.page t.level t.row s.root))
    (λ (other : ¬ (t.page ≡ n)). below_is_other dims pages t.level t.row n s.below
    (let no = not_there t.page n other in omega (arith, some, no)))
    (cases_eq t.page n)

-- ---- one tree stands at a page

links_in : Option ForkContent → List Link
links_in None = []
links_in (Some c) = c.links

level_in : Option ForkContent → ℕ
level_in None = 0
level_in (Some c) = c.level

entries_in : Option (List Entry) → List Entry
entries_in None = []
entries_in (Some xs) = xs

-- leaves of the same objects are the same
one_leaf : (dims : ℕ) (pages : PageMap) (a b : Row) → RowStands dims pages 0 a → RowStands dims pages 0 b
    → objects_in a ≡ objects_in b → a ≡ b
one_leaf dims pages end end on_a on_b same = refl
one_leaf dims pages end (more (object i o) r) on_a on_b same = absurd (cc)
one_leaf dims pages end (more (child k p x) r) on_a on_b same = absurd (omega (arith, on_b.0))
one_leaf dims pages (more (child k p x) r) b on_a on_b same = absurd (omega (arith, on_a.0))
one_leaf dims pages (more (object i o) r) end on_a on_b same = absurd (cc)
one_leaf dims pages (more (object i o) r) (more (child k p x) q) on_a on_b same = absurd (omega (arith, on_b.0))
one_leaf dims pages (more (object i o) r) (more (object j u) q) on_a on_b same =
    let first : (i, o) ≡ (j, u) = ap (λ (xs : List Entry). get_or xs 0 (i, o)) same in
    let rest = one_leaf dims pages r q on_a.1 on_b.1 (ap (λ (xs : List Entry). drop 1 xs) same) in
    ap (λ (e : Entry). more (object e.0 e.1) r) first ∙ ap (more (object j u)) rest

-- and so are forks of the same children
one_fork : (dims : ℕ) (pages : PageMap) (level : ℕ) (a b : Row) → 0 < level → RowStands dims pages level a
    → RowStands dims pages level b → links_of a ≡ links_of b → a ≡ b
unfolding links_in entries_in
one_fork dims pages level end end high on_a on_b same = refl
one_fork dims pages level end (more (object i o) r) high on_a on_b same = absurd (omega (arith, high, on_b.0))
one_fork dims pages level end (more (child k p x) r) high on_a on_b same = absurd (cc)
one_fork dims pages level (more (object i o) r) b high on_a on_b same = absurd (omega (arith, high, on_a.0))
one_fork dims pages level (more (child k p x) r) end high on_a on_b same = absurd (cc)
one_fork dims pages level (more (child k p x) r) (more (object i o) q) high on_a on_b same =
    absurd (omega (arith, high, on_b.0))
one_fork dims pages level (more (child k p x) r) (more (child l q y) s) high on_a on_b same =
    let key : k ≡ l = ap (λ (ls : List Link). (get_or ls 0 (0, 0)).0) same in
    let page : p ≡ q = ap (λ (ls : List Link). (get_or ls 0 (0, 0)).1) same in
    let rest = one_fork dims pages level r s high on_a.5 on_b.5 (ap (λ (ls : List Link). drop 1 ls) same) in
    let there : HasNode dims pages p (level - 1) y =
    subst (λ n. HasNode dims pages n (level - 1) y) (sym page) on_b.3 in
    let below : x ≡ y = ⊎_elim
    (λ (low : level - 1 ≡ 0).
    one_leaf dims pages x y (subst (λ h. RowStands dims pages h x) low on_a.4)
    (subst (λ h. RowStands dims pages h y) low on_b.4)
    (ap entries_in (sym (on_a.3.leaf low) ∙ there.leaf low)))
    (λ (up : ¬ (level - 1 ≡ 0)).
    let above : 0 < level - 1 = omega (arith, up) in
    one_fork dims pages (level - 1) x y above on_a.4 on_b.4
    (ap links_in (sym (on_a.3.fork above) ∙ there.fork above)))
    (cases_eq (level - 1) 0) in
    ap (λ (h : ℕ). more (child h p x) r) key ∙ ap (λ (h : ℕ). more (child l h x) r) page
    ∙ ap (λ (h : Row). more (child l q h) r) below ∙ ap (more (child l q y)) rest

pub one_of_trees : (dims : ℕ) (m : PageMap) (s t : IdTree) → s.page ≡ t.page → TreeStands dims m s
    → TreeStands dims m t → s ≡ t
unfolding links_in level_in
one_of_trees dims m s t at a b =
    let same = sym (a.root.fork a.high) ∙ ap (λ (n : ℕ). fork_in dims (m n)) at ∙ b.root.fork b.high in
    let level : s.level ≡ t.level = ap level_in same in
    let row : s.row ≡ t.row =
    one_fork dims m s.level s.row t.row a.high a.below
    (subst (λ h. RowStands dims m h t.row) (sym level) b.below) (ap links_in same) in
    ap (λ (p : ℕ). record { page = p; level = s.level; row = s.row }) at
    ∙ ap (λ (h : ℕ). record { page = t.page; level = h; row = s.row }) level
    ∙ ap (λ (r : Row). record { page = t.page; level = t.level; row = r }) row
