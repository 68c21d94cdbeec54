-- The child at a position of a node that stands, and the node with another one there.
use Rattle.std.proofs.Common.{◌≡◌, ℕ, zero, suc, ◌+◌, ◌-◌, ◌<◌, ◌≤◌, Some, List, ◌∷◌, length, get_or, refl}
use Rattle.std.proofs.Common.{sym, ap, subst, arith}
use Rattle.box_math.specs.Bounds.{Bounds}
use Rattle.box_math.specs.Objects.{bounds_of, tag_of}
use Rattle.tree_node.specs.Nodes.{Item}
use Rattle.tree_node.specs.Trees.{Row, end, more, object, child, row_items, occurs}
use Rattle.tree_node.proofs.RowLemmas.{occurs_here}
use Rattle.node_page.specs.Standing.{PageMap, HasNode, RowStands}
use Rattle.node_page.proofs.StandingLemmas.{row_stays, node_stays}
use Rattle.reinsert.specs.Children.{Child, child_at, with_child, occurs_at}
use Rattle.node_bytes.specs.Enlarged.{set_box}

pub record HasChild (dims : ℕ) (m : PageMap) (level : ℕ) (row : Row) (at : ℕ) : Type 0 where
  pub from : Child
  pub there : child_at row at ≡ Some from
  pub reference : (d : Item) → (get_or (row_items row) at d).reference ≡ from.page
  pub node : HasNode dims m from.page (level - 1) from.row
  pub stands : RowStands dims m (level - 1) from.row
  pub fewer : (n : ℕ) → occurs_at from.page n from.row ≤ occurs n row

pub has_child : (dims : ℕ) (m : PageMap) (level : ℕ) (row : Row) (at : ℕ) → 0 < level
    → at < length (row_items row) → RowStands dims m level row → HasChild dims m level row at
has_child dims m level end at high within h = absurd (omega (arith, within))
has_child dims m level (more (object kept id) rest) at high within h = absurd (omega (arith, h.0, high))
has_child dims m level (more (child bounds page below) rest) zero high within h = record {
  from = record { page = page; row = below };
  there = refl;
  reference = λ d. refl;
  node = h.1;
  stands = h.2;
  fewer = λ n. omega arith;
}
has_child dims m level (more (child bounds page below) rest) (suc at) high within h =
    let later = has_child dims m level rest at high (omega (arith, within)) h.3 in
    record {
      from = later.from;
      there = later.there;
      reference = later.reference;
      node = later.node;
      stands = later.stands;
      fewer = λ n. omega (arith, later.fewer n);
    }

pub items-with_child : (row : Row) (at : ℕ) (c : Child) (b : Bounds) (new : Row) → child_at row at ≡ Some c
    → row_items (with_child row at b new) ≡ set_box (row_items row) at b
items-with_child end at c b new is = absurd (cc)
items-with_child (more (object kept id) rest) zero c b new is = absurd (cc)
items-with_child (more (object kept id) rest) (suc at) c b new is =
    ap (λ (es : List Item). record { bounds = bounds_of kept; reference = id; tag = tag_of kept } ∷ es)
    (items-with_child rest at c b new is)
items-with_child (more (child bounds page below) rest) zero c b new is = refl
items-with_child (more (child bounds page below) rest) (suc at) c b new is =
    ap (λ (es : List Item). record { bounds = bounds; reference = page; tag = 0 } ∷ es)
    (items-with_child rest at c b new is)

pub occurs-with_child : (n : ℕ) (row : Row) (at : ℕ) (c : Child) (b : Bounds) (new : Row)
    → child_at row at ≡ Some c
    → occurs n (with_child row at b new) + occurs n c.row ≡ occurs n row + occurs n new
occurs-with_child n end at c b new is = absurd (cc)
occurs-with_child n (more (object kept id) rest) zero c b new is = absurd (cc)
occurs-with_child n (more (object kept id) rest) (suc at) c b new is = occurs-with_child n rest at c b new is
occurs-with_child n (more (child bounds page below) rest) zero c b new is =
    let same : record { page = page; row = below } ≡ c = cc in
    omega (arith, ap (λ (x : Child). occurs n x.row) same)
occurs-with_child n (more (child bounds page below) rest) (suc at) c b new is =
    omega (arith, occurs-with_child n rest at c b new is)

-- what occurs in a child occurs in the node
fewer_at : (row : Row) (at : ℕ) (c : Child) → child_at row at ≡ Some c → (n : ℕ)
    → occurs_at c.page n c.row ≤ occurs n row
fewer_at end at c is n = absurd (cc)
fewer_at (more (object kept id) rest) zero c is n = absurd (cc)
fewer_at (more (object kept id) rest) (suc at) c is n = fewer_at rest at c is n
fewer_at (more (child bounds page below) rest) zero c is n =
    let this : record { page = page; row = below } ≡ c = cc in
    omega (arith, ap (λ (x : Child). occurs_at x.page n x.row) this)
fewer_at (more (child bounds page below) rest) (suc at) c is n = omega (arith, fewer_at rest at c is n)

-- a child was replaced, and no other page of the trees changed
pub RowStands-with_child : (dims : ℕ) (m m' : PageMap) (level : ℕ) (row : Row) (at : ℕ) (c : Child)
    (b : Bounds) (new : Row) → child_at row at ≡ Some c → RowStands dims m level row
    → ((n : ℕ) → occurs n row ≤ 1) → ((n : ℕ) → 0 < occurs n row → occurs_at c.page n c.row ≡ 0 → m' n ≡ m n)
    → HasNode dims m' c.page (level - 1) new → RowStands dims m' (level - 1) new
    → RowStands dims m' level (with_child row at b new)
RowStands-with_child dims m m' level end at c b new is h distinct same node stands = absurd (cc)
RowStands-with_child dims m m' level (more (object kept id) rest) zero c b new is h distinct same node
    stands = absurd (cc)
RowStands-with_child dims m m' level (more (object kept id) rest) (suc at) c b new is h distinct same node
    stands = (h.0, RowStands-with_child dims m m' level rest at c b new is h.1 distinct same node stands)
RowStands-with_child dims m m' level (more (child bounds page below) rest) zero c b new is h distinct same
    node stands =
    let this : record { page = page; row = below } ≡ c = cc in (
      h.0,
      subst (λ (x : Child). HasNode dims m' x.page (level - 1) new) (sym this) node,
      stands,
      row_stays dims m m' level rest
          (λ n p. same n (omega (arith, p))
          (omega (arith, p, distinct n, ap (λ (x : Child). occurs_at x.page n x.row) this))) h.3,
    )
RowStands-with_child dims m m' level (more (child bounds page below) rest) (suc at) c b new is h distinct
    same node stands =
    let apart = fewer_at rest at c is in (
      h.0,
      node_stays dims m m' page (level - 1) below
          (same page (omega (arith, occurs_here page))
          (omega (arith, distinct page, apart page, occurs_here page))) h.1,
      row_stays dims m m' (level - 1) below
          (λ n p. same n (omega (arith, p)) (omega (arith, p, distinct n, apart n))) h.2,
      RowStands-with_child dims m m' level rest at c b new is h.3 (λ n. omega (arith, distinct n))
          (λ n p q. same n (omega (arith, p)) q) node stands,
    )
