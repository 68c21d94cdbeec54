-- Nodes in their pages, and those below them.
use Rattle.std.proofs.Common.{◌≡◌, ◌∙◌, ℕ, ◌-◌, ◌<◌, Bool, cond, eqb, Option, Some, None, IsSome, List, []}
use Rattle.std.proofs.Common.{◌∷◌, length, refl, sym, ap, subst, ⊎_elim, arith, length-append}
use Rattle.std.proofs.lemmas.Bool.{cases_eq}
use Rattle.std.proofs.lemmas.Bool.Decides.{nat_tests}
use Rattle.bucket_page.specs.Layout.{Entry}
use Rattle.id_page.specs.Fork.{ForkContent, fork_at, route}
use Rattle.id_page.specs.Leaf.{leaf_at}
use Rattle.node_page.specs.Standing.{PageMap}
use Rattle.id_tree.specs.Rows.{NodeStands, part_at}
use Rattle.id_tree.specs.Tree.{HasNode, IsFilled, IsParted, Row, end, more, object, child, RowStands, fork_in}
use Rattle.id_tree.specs.Tree.{leaf_in, links_of, objects_in, occurs}

-- ---- pages of a map

pub is_there : (page : Option (List ℕ)) (bytes : List ℕ) → page ≡ Some bytes → IsSome page
is_there None bytes e = absurd (cc)
is_there (Some x) bytes e = refl

pub there_of_leaf : (dims : ℕ) (page : Option (List ℕ)) (objects : List Entry)
    → leaf_in dims page ≡ Some objects → IsSome page
there_of_leaf dims None objects e = absurd (cc)
there_of_leaf dims (Some bytes) objects e = refl

pub there_of_fork : (dims : ℕ) (page : Option (List ℕ)) (c : ForkContent) → fork_in dims page ≡ Some c
    → IsSome page
there_of_fork dims None c e = absurd (cc)
there_of_fork dims (Some bytes) c e = refl

pub leaf_bytes : (dims : ℕ) (page : Option (List ℕ)) (bytes : List ℕ) (objects : List Entry)
    → page ≡ Some bytes → leaf_in dims page ≡ Some objects → leaf_at dims bytes ≡ Some objects
leaf_bytes dims page bytes objects there is = sym (ap (leaf_in dims) there) ∙ is

pub fork_bytes : (dims : ℕ) (page : Option (List ℕ)) (bytes : List ℕ) (c : ForkContent) → page ≡ Some bytes
    → fork_in dims page ≡ Some c → fork_at dims bytes ≡ Some c
fork_bytes dims page bytes c there is = sym (ap (fork_in dims) there) ∙ is

pub bytes_of_leaf : (dims : ℕ) (page : Option (List ℕ)) (objects : List Entry)
    → leaf_in dims page ≡ Some objects → (bytes : List ℕ) × (page ≡ Some bytes)
    × (leaf_at dims bytes ≡ Some objects)
bytes_of_leaf dims None objects is = absurd (cc)
bytes_of_leaf dims (Some bytes) objects is = (bytes, refl, is)

pub bytes_of_fork : (dims : ℕ) (page : Option (List ℕ)) (c : ForkContent) → fork_in dims page ≡ Some c
    → (bytes : List ℕ) × (page ≡ Some bytes) × (fork_at dims bytes ≡ Some c)
bytes_of_fork dims None c is = absurd (cc)
bytes_of_fork dims (Some bytes) c is = (bytes, refl, is)

pub occurs_here : (page : ℕ) → ◌≡◌ {A = ℕ} (cond (eqb page page) 1 0) 1
occurs_here page = grind (arith, nat_tests)

pub not_there : (page n : ℕ) → ¬ (page ≡ n) → ◌≡◌ {A = ℕ} (cond (eqb page n) 1 0) 0
not_there page n other = grind (arith, nat_tests)

-- ---- nodes are there

pub node_there : (dims : ℕ) (pages : PageMap) (page level : ℕ) (row : Row) → HasNode dims pages page level row
    → IsSome (pages page)
node_there dims pages page level row node = ⊎_elim
    (λ (low : level ≡ 0). there_of_leaf dims (pages page) _ (node.leaf low))
    (λ (high : ¬ (level ≡ 0)). there_of_fork dims (pages page) _ (node.fork (omega (arith, high))))
    (cases_eq level 0)

pub below_there : (dims : ℕ) (pages : PageMap) (level : ℕ) (row : Row) (n : ℕ)
    → RowStands dims pages level row → 0 < occurs n row → IsSome (pages n)
below_there dims pages level end n stands some = absurd (omega (arith, some))
below_there dims pages level (more (object id kept) rest) n stands some =
    below_there dims pages level rest n stands.1 some
below_there dims pages level (more (child key page below) rest) n stands some = ⊎_elim
    (λ (is : page ≡ n). subst (λ k. IsSome (pages k)) is
    (node_there dims pages page (level - 1) below stands.3))
    (λ (other : ¬ (page ≡ n)). ⊎_elim
    (λ (none : occurs n below ≡ 0). below_there dims pages level rest n stands.5
    (let no = not_there page n other in omega (arith, some, no, none)))
    (λ (here : ¬ (occurs n below ≡ 0)). below_there dims pages (level - 1) below n stands.4
    (omega (arith, here)))
    (cases_eq (occurs n below) 0))
    (cases_eq page n)

pub part_there : (dims : ℕ) (pages : PageMap) (page level : ℕ) (edge : Bool) (row : Row) (n : ℕ)
    → NodeStands dims pages page level edge row → 0 < part_at page row n → IsSome (pages n)
part_there dims pages page level edge row n s some = ⊎_elim
    (λ (is : page ≡ n). subst (λ k. IsSome (pages k)) is (node_there dims pages page level row s.node))
    (λ (other : ¬ (page ≡ n)). below_there dims pages level row n s.below
    (let no = not_there page n other in omega (arith, some, no)))
    (cases_eq page n)

-- ---- other pages

pub node_stays : (dims : ℕ) (old new : PageMap) (page level : ℕ) (row : Row) → new page ≡ old page
    → HasNode dims old page level row → HasNode dims new page level row
node_stays dims old new page level row same h = record {
  leaf = λ low. ap (leaf_in dims) same ∙ h.leaf low;
  fork = λ high. ap (fork_in dims) same ∙ h.fork high;
}

-- what stands below a node stays where its pages do
pub row_stays : (dims : ℕ) (old new : PageMap) (level : ℕ) (row : Row)
    → ((n : ℕ) → 0 < occurs n row → new n ≡ old n) → RowStands dims old level row
    → RowStands dims new level row
row_stays dims old new level end same h = h
row_stays dims old new level (more (object id kept) rest) same h =
    (h.0, row_stays dims old new level rest same h.1)
row_stays dims old new level (more (child key page below) rest) same h = (
  h.0,
  h.1,
  h.2,
  node_stays dims old new page (level - 1) below (same page (omega (arith, occurs_here page))) h.3,
  row_stays dims old new (level - 1) below (λ n p. same n (omega arith)) h.4,
  row_stays dims old new level rest (λ n p. same n (omega arith)) h.5,
)

pub stands_same : (dims : ℕ) (old new : PageMap) (page level : ℕ) (edge : Bool) (row : Row)
    → ((n : ℕ) → new n ≡ old n) → NodeStands dims old page level edge row
    → NodeStands dims new page level edge row
stands_same dims old new page level edge row same s = record {
  low = s.low;
  node = node_stays dims old new page level row (same page) s.node;
  below = row_stays dims old new level row (λ n p. same n) s.below;
  parted = s.parted;
  filled = s.filled;
  once = s.once;
}

-- ---- leaves

-- a leaf is one page
pub leaf_pages : (dims : ℕ) (pages : PageMap) (row : Row) (n : ℕ) → RowStands dims pages 0 row
    → occurs n row ≡ 0
leaf_pages dims pages end n stands = refl
leaf_pages dims pages (more (object id kept) rest) n stands = leaf_pages dims pages rest n stands.1
leaf_pages dims pages (more (child key page below) rest) n stands = absurd (omega (arith, stands.0))

-- and has no children
pub leaf_links : (dims : ℕ) (pages : PageMap) (row : Row) → RowStands dims pages 0 row → links_of row ≡ []
leaf_links dims pages end stands = refl
leaf_links dims pages (more (object id kept) rest) stands = leaf_links dims pages rest stands.1
leaf_links dims pages (more (child key page below) rest) stands = absurd (omega (arith, stands.0))

-- the objects of a leaf as a row
pub row_of : List Entry → Row
row_of [] = end
row_of (x ∷ xs) = more (object x.0 x.1) (row_of xs)

pub objects_of_row : (xs : List Entry) → objects_in (row_of xs) ≡ xs
unfolding row_of
objects_of_row [] = refl
objects_of_row (x ∷ xs) = ap (λ (ys : List Entry). x ∷ ys) (objects_of_row xs)

pub row_of_stands : (dims : ℕ) (pages : PageMap) (xs : List Entry) → RowStands dims pages 0 (row_of xs)
unfolding row_of
row_of_stands dims pages [] = tt
row_of_stands dims pages (x ∷ xs) = (refl, row_of_stands dims pages xs)

pub row_of_parted : (xs : List Entry) → IsParted (row_of xs)
unfolding row_of
row_of_parted [] = tt
row_of_parted (x ∷ xs) = row_of_parted xs

pub row_of_filled : (dims level : ℕ) (edge : Bool) (xs : List Entry) → IsFilled dims level edge (row_of xs)
unfolding row_of
row_of_filled dims level edge [] = tt
row_of_filled dims level edge (x ∷ xs) = row_of_filled dims level edge xs

-- ---- forks

-- a row of children has objects
pub some_objects : (dims : ℕ) (pages : PageMap) (level : ℕ) (row : Row) → 0 < level
    → RowStands dims pages level row → 0 < length (links_of row) → 0 < length (objects_in row)
some_objects dims pages level end high stands some = some
some_objects dims pages level (more (object id kept) rest) high stands some =
    absurd (omega (arith, high, stands.0))
some_objects dims pages level (more (child key page below) rest) high stands some =
    omega (arith, stands.2, length-append (objects_in below) (objects_in rest))

-- a fork without a way has no objects, and no children
pub no_way : (dims : ℕ) (pages : PageMap) (level id : ℕ) (row : Row) → 0 < level
    → RowStands dims pages level row → None ≡ route id (links_of row) → length (objects_in row) ≡ 0
no_way dims pages level id end high stands is = refl
no_way dims pages level id (more (object i b) rest) high stands is = absurd (omega (arith, high, stands.0))
no_way dims pages level id (more (child k p below) rest) high stands is = absurd (cc)

pub no_links : (dims : ℕ) (pages : PageMap) (level : ℕ) (row : Row) → 0 < level
    → RowStands dims pages level row → length (links_of row) ≡ 0 → row ≡ end
no_links dims pages level end high stands none = refl
no_links dims pages level (more (object i b) rest) high stands none = absurd (omega (arith, high, stands.0))
no_links dims pages level (more (child k p b) rest) high stands none = absurd (omega (arith, none))

-- the bytes of a node that is there
pub there_bytes : (dims : ℕ) (pages : PageMap) (page level : ℕ) (row : Row)
    → HasNode dims pages page level row → (bytes : List ℕ) × (pages page ≡ Some bytes)
there_bytes dims pages page level row node = some_bytes (pages page)
    (node_there dims pages page level row node)
  where
    some_bytes : (o : Option (List ℕ)) → IsSome o → (bytes : List ℕ) × (o ≡ Some bytes)
    some_bytes None is = absurd (cc)
    some_bytes (Some bytes) is = (bytes, refl)
