-- A full node cut in two, as bytes and as rows.
use Rattle.std.proofs.Common.{◌≡◌, ◌∙◌, ℕ, zero, suc, ◌+◌, ◌*◌, ◌/◌, ◌<◌, ◌≤◌, Bool, true, false, cond, eqb}
use Rattle.std.proofs.Common.{Some, None, List, [], ◌∷◌, ◌++◌, length, get_or, take, drop, All, refl, sym, ap}
use Rattle.std.proofs.Common.{subst, arith, length-drop}
use Rattle.std.proofs.lemmas.List.{drop_more, length-take-le}
use Rattle.box_math.specs.Bounds.{IsDims}
use Rattle.bucket_page.specs.Layout.{Entry}
use Rattle.block_bytes.specs.Numbers.{number_at}
use Rattle.id_page.specs.Fork.{ForkContent, Link, fork_at}
use Rattle.id_page.specs.Leaf.{leaf_at, most_objects}
use Rattle.id_page.proofs.ForkReading.{count_of_fork, fork_spells}
use Rattle.id_page.proofs.LeafReading.{count_of_leaf, leaf_spells}
use Rattle.id_page.proofs.ObjectPlaces.{dims_there}
use Rattle.node_page.specs.Standing.{PageMap}
use Rattle.id_tree.specs.Cutting.{Cuts, CutsFork, CutsLeaf, FitsOne}
use Rattle.id_tree.specs.Halving.{from_key, under_key}
use Rattle.id_tree.specs.Steps.{Keeps, MayHalve}
use Rattle.id_tree.specs.Rows.{Begins, joined}
use Rattle.id_tree.specs.Tree.{HasNode, IsFilled, IsParted, Row, end, more, object, child, RowStands}
use Rattle.id_tree.specs.Tree.{least_objects, links_of, objects_in, occurs}
use Rattle.id_tree.proofs.HalvingLemmas.{all_from, all_under, both_keep, both_lengths}
use Rattle.id_tree.proofs.NodeLemmas.{bytes_of_fork, bytes_of_leaf, fork_bytes, leaf_bytes, leaf_pages}
use Rattle.id_tree.proofs.NodeLemmas.{objects_of_row, row_of, row_of_filled, row_of_parted, row_of_stands}
use Rattle.id_tree.proofs.NodeLemmas.{some_objects}
use Rattle.id_tree.proofs.ObjectLemmas.{keeps_same}
use Rattle.id_tree.proofs.RowLemmas.{behind_from, filled-behind, filled-front, front_below, objects-joined}
use Rattle.id_tree.proofs.RowLemmas.{occurs-joined, parted-behind, parted-front, stands-behind, stands-front}

-- ---- the places of a leaf

-- of some objects there are many
pub least_some : (dims : ℕ) → 29 ≤ least_objects dims
unfolding least_objects
least_some dims = by_dims (eqb dims 2)
  where
    by_dims : (b : Bool) → 29 ≤ cond b 37 29
    by_dims true = omega arith
    by_dims false = omega arith

-- what else is used of their numbers in two and three axes
pub record AreSizes (least most : ℕ) : Type 0 where
  pub half : least + least + 2 ≤ most
  pub ample : least < most * 2 / 5

pub sizes : (dims : ℕ) → IsDims dims → AreSizes (least_objects dims) (most_objects dims)
unfolding least_objects most_objects
sizes zero axes = absurd (omega (arith, axes.0))
sizes (suc zero) axes = absurd (omega (arith, axes.0))
sizes (suc (suc zero)) axes = record { half = omega arith; ample = omega arith }
sizes (suc (suc (suc zero))) axes = record { half = omega arith; ample = omega arith }
sizes (suc (suc (suc (suc n)))) axes = absurd (omega (arith, axes.1))

-- some objects that fit into a leaf tell the dimension
pub sizes_there : (dims count : ℕ) → 0 < count → count ≤ most_objects dims
    → AreSizes (least_objects dims) (most_objects dims)
sizes_there dims count some few = sizes dims (dims_there dims 0 (omega (arith, some, few)))

-- ---- leaves

pub leaf_cut : (dims : ℕ) (edge : Bool) (row : Row) (key : ℕ) (first second : List ℕ)
    → ((n : ℕ) → occurs n row ≡ 0)
    → CutsLeaf dims edge (objects_in row) key first second → Cuts dims 0 edge row key first second
leaf_cut dims edge row key first second leaf c =
    let xs = objects_in row in
    let lefts = objects_of_row (under_key key xs) in
    let rights = objects_of_row (from_key key xs) in
    let both = both_lengths key xs in
    let some = least_some dims in
    record {
      left = row_of (under_key key xs);
      right = row_of (from_key key xs);
      spells_left =
          record {
            leaf = λ low. c.under ∙ ap (λ (ys : List Entry). Some ys) (sym lefts);
            fork =
                λ high. absurd (omega (arith, high));
          };
      spells_right =
          record {
            leaf = λ low. c.from ∙ ap (λ (ys : List Entry). Some ys) (sym rights);
            fork =
                λ high. absurd (omega (arith, high));
          };
      below_left = λ pages stands. row_of_stands dims pages (under_key key xs);
      below_right = λ pages stands. row_of_stands dims pages (from_key key xs);
      parted_left = row_of_parted (under_key key xs);
      parted_right = row_of_parted (from_key key xs);
      filled_left = row_of_filled dims 0 false (under_key key xs);
      filled_right = row_of_filled dims 0 edge (from_key key xs);
      large_left =
          record {
            leaf = λ low. omega (arith, c.large, ap length lefts);
            fork =
                λ high. absurd (omega (arith, high));
          };
      large_right =
          λ off. record {
            leaf = λ low. omega (arith, c.rest off, ap length rights);
            fork =
                λ high. absurd (omega (arith, high));
          };
      some_left = omega (arith, some, c.large, ap length lefts);
      some_right = omega (arith, c.some, ap length rights);
      room_left =
          λ one. record {
            leaf = λ low. let few = one.leaf low in omega (arith, ap length lefts, both, few, c.some);
            fork =
                λ high. absurd (omega (arith, high));
          };
      room_right =
          λ one. record {
            leaf = λ low. let few = one.leaf low in omega
                (arith, ap length rights, both, few, some, c.large);
            fork =
                λ high. absurd (omega (arith, high));
          };
      lesser = subst (λ ys. All (λ o. o.0 < key) ys) (sym lefts) (all_under key xs);
      from = subst (λ ys. All (λ o. key ≤ o.0) ys) (sym rights) (all_from key xs);
      keeps = subst (λ ys. Keeps xs (ys ++ objects_in (row_of (from_key key xs)))) (sym lefts)
          (subst (λ ys. Keeps xs (under_key key xs ++ ys)) (sym rights) (both_keep key xs));
      counts = λ n. omega (
        arith,
        leaf n,
        leaf_pages dims (λ k. None) (row_of (under_key key xs)) n
            (row_of_stands dims (λ k. None) (under_key key xs)),
        leaf_pages dims (λ k. None) (row_of (from_key key xs)) n
            (row_of_stands dims (λ k. None) (from_key key xs)),
      );
    }

-- ---- forks

-- the children of a row up to a place, and those from there on
pub record Parted (row : Row) (count : ℕ) : Type 0 where
  pub left : Row
  pub right : Row
  pub is : row ≡ joined left right
  pub links_left : links_of left ≡ take count (links_of row)
  pub links_right : links_of right ≡ drop count (links_of row)

pub part_at_place : (dims : ℕ) (pages : PageMap) (level : ℕ) (row : Row) (count : ℕ) → 0 < level
    → RowStands dims pages level row → Parted row count
part_at_place dims pages level end count high stands =
    record {
      left = end;
      right = end;
      is = refl;
      links_left = none_taken count;
      links_right =
          none_dropped count;
    }
  where
    none_taken : (n : ℕ) → ◌≡◌ {A = List Link} [] (take n [])
    none_taken zero = refl
    none_taken (suc n) = refl

    none_dropped : (n : ℕ) → ◌≡◌ {A = List Link} [] (drop n [])
    none_dropped zero = refl
    none_dropped (suc n) = refl
part_at_place dims pages level (more (object id kept) rest) count high stands =
    absurd (omega (arith, high, stands.0))
part_at_place dims pages level (more (child key page below) rest) zero high stands =
    record {
      left = end;
      right = more (child key page below) rest;
      is = refl;
      links_left = refl;
      links_right =
          refl;
    }
part_at_place dims pages level (more (child key page below) rest) (suc count) high stands =
    let later = part_at_place dims pages level rest count high stands.5 in
    record {
      left = more (child key page below) later.left;
      right = later.right;
      is = ap (λ (r : Row). more (child key page below) r) later.is;
      links_left = ap (λ (xs : List Link). (key, page) ∷ xs) later.links_left;
      links_right = later.links_right;
    }

-- the first child of a row, by its links
pub record FirstChild (row : Row) (key : ℕ) : Type 0 where
  pub page : ℕ
  pub below : Row
  pub rest : Row
  pub is : row ≡ more (child key page below) rest

pub first_child : (dims : ℕ) (pages : PageMap) (level : ℕ) (row : Row) (x : Link) (xs : List Link) → 0 < level
    → RowStands dims pages level row → links_of row ≡ x ∷ xs → FirstChild row x.0
first_child dims pages level end x xs high stands is = absurd (cc)
first_child dims pages level (more (object id kept) rest) x xs high stands is =
    absurd (omega (arith, high, stands.0))
first_child dims pages level (more (child key page below) rest) x xs high stands is =
    let same : key ≡ x.0 = first key page (links_of rest) is in
    record { page = page; below = below; rest = rest; is = ap (λ k. more (child k page below) rest) same }
  where
    first : (k p : ℕ) (ls : List Link) → (k, p) ∷ ls ≡ x ∷ xs → k ≡ x.0
    first k p ls e = ap (λ (l : List Link). (get_or l 0 (0, 0)).0) e

pub fork_cut : (dims : ℕ) (pages : PageMap) (level : ℕ) (edge : Bool) (row : Row) (key : ℕ)
    (first second : List ℕ) → 0 < level → RowStands dims pages level row → IsParted row
    → IsFilled dims level edge row
    → CutsFork dims level edge (links_of row) key first second → Cuts dims level edge row key first second
fork_cut dims pages level edge row key first second high stands parted filled c =
    let links = links_of row in
    let cut = part_at_place dims pages level row c.many high stands in
    let on = subst (RowStands dims pages level) cut.is stands in
    let on_left = stands-front dims pages level cut.left cut.right on in
    let on_right = stands-behind dims pages level cut.left cut.right on in
    let size_left = length-take-le c.many links (omega (arith, c.some)) in
    let size_right = length-drop c.many links in
    let x = get_or links c.many (0, 0) in
    let head = first_child dims pages level cut.right x (drop (c.many + 1) links) high on_right
    (cut.links_right ∙ drop_more links c.many (0, 0) c.some) in
    let right_is : cut.right ≡ more (child key head.page head.below) head.rest = head.is
    ∙ ap (λ k. more (child k head.page head.below) head.rest) (c.key_is (0, 0)) in
    let begins : Begins key cut.right = subst (Begins key) (sym right_is) refl in
    let all = subst IsParted cut.is parted in
    let sizes_left = ap length cut.links_left in
    let sizes_right = ap length cut.links_right in
    let whole : IsFilled dims level edge (joined cut.left cut.right) =
    subst (IsFilled dims level edge) cut.is filled in
    record {
      left = cut.left;
      right = cut.right;
      spells_left =
          record {
            leaf = λ low. absurd (omega (arith, low, high));
            fork = λ up. c.upto
                ∙ ap (λ (ls : List Link). Some (record { level = level; links = ls })) (sym cut.links_left);
          };
      spells_right =
          record {
            leaf = λ low. absurd (omega (arith, low, high));
            fork = λ up. c.beyond
                ∙ ap (λ (ls : List Link). Some (record { level = level; links = ls })) (sym cut.links_right);
          };
      below_left = λ other there. stands-front dims other level cut.left cut.right
          (subst (RowStands dims other level) cut.is there);
      below_right = λ other there. stands-behind dims other level cut.left cut.right
          (subst (RowStands dims other level) cut.is there);
      parted_left = parted-front cut.left cut.right all;
      parted_right = parted-behind cut.left cut.right all;
      filled_left = filled-front dims level edge cut.left (child key head.page head.below) head.rest
          (subst (λ r. IsFilled dims level edge (joined cut.left r)) right_is whole);
      filled_right = filled-behind dims level edge cut.left cut.right whole;
      large_left =
          record {
            leaf = λ low. absurd (omega (arith, low, high));
            fork =
                λ up. omega (arith, c.large, size_left, sizes_left);
          };
      large_right =
          λ off. record {
            leaf = λ low. absurd (omega (arith, low, high));
            fork =
                λ up. omega (arith, c.rest off, size_right, sizes_right);
          };
      some_left = some_objects dims pages level cut.left high on_left
          (omega (arith, c.large, size_left, sizes_left));
      some_right = some_objects dims pages level cut.right high on_right
          (omega (arith, c.some, size_right, sizes_right));
      room_left =
          λ one. record {
            leaf = λ low. absurd (omega (arith, low, high));
            fork = λ up. let few = one.fork up in
                omega (arith, few, c.some, size_left, sizes_left);
          };
      room_right =
          λ one. record {
            leaf = λ low. absurd (omega (arith, low, high));
            fork = λ up. let few = one.fork up in
                omega (arith, few, c.large, size_right, sizes_right);
          };
      lesser = front_below dims pages level key cut.left cut.right high on_left begins all;
      from = from_there cut.left cut.right (omega (arith, c.large, size_left, sizes_left)) on_left begins all;
      keeps = subst (λ ys. Keeps ys (objects_in cut.left ++ objects_in cut.right))
          (sym (ap objects_in cut.is ∙ objects-joined cut.left cut.right))
          (keeps_same (objects_in cut.left ++ objects_in cut.right));
      counts = λ n. omega (arith, ap (occurs n) cut.is, occurs-joined n cut.left cut.right);
    }
  where
    from_there : (l r : Row) → 0 < length (links_of l) → RowStands dims pages level l → Begins key r
        → IsParted (joined l r) → All (λ o. key ≤ o.0) (objects_in r)
    from_there end r some stands begins parted = absurd (omega (arith, some))
    from_there (more (object i b) l) r some stands begins parted = absurd (omega (arith, high, stands.0))
    from_there (more (child k p b) l) r some stands begins parted =
        behind_from dims pages level key k p b l r high stands.5 begins parted

-- ---- the node in a page that is to be cut

-- what a node in a page has fits into one
pub node_fits : (dims : ℕ) (pages : PageMap) (page level : ℕ) (row : Row) → HasNode dims pages page level row
    → FitsOne dims level row
node_fits dims pages page level row node = record {
  leaf = λ low.
      let there = bytes_of_leaf dims (pages page) (objects_in row) (node.leaf low) in
      let s = leaf_spells dims there.0 (objects_in row) there.2 in
      omega (arith, count_of_leaf dims there.0 (objects_in row) there.2, s.head.few);
  fork = λ high.
      let content : ForkContent = record { level = level; links = links_of row } in
      let there = bytes_of_fork dims (pages page) content (node.fork high) in
      let s = fork_spells dims there.0 content there.2 in
      omega (arith, count_of_fork dims there.0 content there.2, s.head.few);
}

pub leaf_full : (dims : ℕ) (pages : PageMap) (page level : ℕ) (edge : Bool) (row : Row) (bytes : List ℕ)
    → level ≡ 0 → MayHalve dims pages page level edge row → pages page ≡ Some bytes
    → (leaf_at dims bytes ≡ Some (objects_in row)) × (number_at 2 2 bytes ≡ most_objects dims)
leaf_full dims pages page level edge row bytes low may there =
    let is = leaf_bytes dims (pages page) bytes (objects_in row) there (may.stands.node.leaf low) in
    let s = leaf_spells dims bytes (objects_in row) is in
    let full = may.full.leaf low in
    (is, omega (arith, count_of_leaf dims bytes (objects_in row) is, full, s.head.few))

pub fork_full : (dims : ℕ) (pages : PageMap) (page level : ℕ) (edge : Bool) (row : Row) (bytes : List ℕ)
    → 0 < level → MayHalve dims pages page level edge row → pages page ≡ Some bytes
    → (fork_at dims bytes ≡ Some (record { level = level; links = links_of row }))
    × (number_at 2 2 bytes ≡ 340)
fork_full dims pages page level edge row bytes high may there =
    let content : ForkContent = record { level = level; links = links_of row } in
    let is = fork_bytes dims (pages page) bytes content there (may.stands.node.fork high) in
    let s = fork_spells dims bytes content is in
    let full = may.full.fork high in
    (is, omega (arith, count_of_fork dims bytes content is, full, s.head.few))

pub cut_of_leaf : (dims : ℕ) (pages : PageMap) (level : ℕ) (edge : Bool) (row : Row) (key : ℕ)
    (first second : List ℕ) → level ≡ 0 → RowStands dims pages level row
    → CutsLeaf dims edge (objects_in row) key first second → Cuts dims level edge row key first second
cut_of_leaf dims pages level edge row key first second low stands c =
    let stands : RowStands dims pages 0 row = subst (λ l. RowStands dims pages l row) low stands in
    subst (λ l. Cuts dims l edge row key first second) (sym low)
    (leaf_cut dims edge row key first second (λ n. leaf_pages dims pages row n stands) c)
