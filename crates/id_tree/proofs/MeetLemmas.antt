-- What two neighbouring nodes have together, as a row.
use Rattle.std.proofs.Common.{◌≡◌, ◌∙◌, ℕ, ◌+◌, ◌<◌, ◌≤◌, Bool, List, [], ◌∷◌, ◌++◌, length}
use Rattle.std.proofs.Common.{get_or, set, All, refl, sym, ap, subst, ⊎_elim, arith, length-append}
use Rattle.std.proofs.lemmas.Bool.{cases_eq}
use Rattle.bucket_page.specs.Layout.{Entry}
use Rattle.id_page.specs.Fork.{Link}
use Rattle.node_page.specs.Standing.{PageMap}
use Rattle.id_tree.specs.Joining.{AreNeighbours, met, rekeyed, with_key}
use Rattle.id_tree.specs.Rows.{Begins, joined}
use Rattle.id_tree.specs.Tree.{IsFilled, IsParted, Row, end, more, object, child, RowStands, links_of}
use Rattle.id_tree.specs.Tree.{objects_in, occurs}
use Rattle.id_tree.proofs.AddLemmas.{some_links}
use Rattle.id_tree.proofs.RowLemmas.{filled-joined, leaf_parted, links-joined, objects-joined, occurs-joined}
use Rattle.id_tree.proofs.RowLemmas.{parted-joined, stands-joined}

-- ---- another key of the first child

objects-rekeyed : (key : ℕ) (row : Row) → objects_in (rekeyed key row) ≡ objects_in row
objects-rekeyed key end = refl
objects-rekeyed key (more (object id kept) rest) =
    ap (λ (xs : List Entry). (id, kept) ∷ xs) (objects-rekeyed key rest)
objects-rekeyed key (more (child k page below) rest) = refl

occurs-rekeyed : (key n : ℕ) (row : Row) → occurs n (rekeyed key row) ≡ occurs n row
occurs-rekeyed key n end = refl
occurs-rekeyed key n (more (object id kept) rest) = occurs-rekeyed key n rest
occurs-rekeyed key n (more (child k page below) rest) = refl

stands-rekeyed : (dims : ℕ) (pages : PageMap) (level key : ℕ) (row : Row) → RowStands dims pages level row
    → RowStands dims pages level (rekeyed key row)
stands-rekeyed dims pages level key end stands = stands
stands-rekeyed dims pages level key (more (object id kept) rest) stands =
    (stands.0, stands-rekeyed dims pages level key rest stands.1)
stands-rekeyed dims pages level key (more (child k page below) rest) stands = stands

parted-rekeyed : (key : ℕ) (row : Row) → IsParted row → IsParted (rekeyed key row)
parted-rekeyed key end parted = parted
parted-rekeyed key (more (object id kept) rest) parted = parted-rekeyed key rest parted
parted-rekeyed key (more (child k page below) rest) parted = parted

links-rekeyed : (key : ℕ) (row : Row) → links_of (rekeyed key row) ≡ with_key key (links_of row)
links-rekeyed key end = refl
links-rekeyed key (more (object id kept) rest) = links-rekeyed key rest
links-rekeyed key (more (child k page below) rest) = refl

begins-rekeyed : (dims : ℕ) (pages : PageMap) (level key : ℕ) (row : Row) → 0 < level
    → RowStands dims pages level row → 0 < length (links_of row) → Begins key (rekeyed key row)
begins-rekeyed dims pages level key end high stands some = absurd (omega (arith, some))
begins-rekeyed dims pages level key (more (object id kept) rest) high stands some =
    absurd (omega (arith, high, stands.0))
begins-rekeyed dims pages level key (more (child k page below) rest) high stands some = refl

pub length-with_key : (key : ℕ) (links : List Link) → length (with_key key links) ≡ length links
length-with_key key [] = refl
length-with_key key (x ∷ xs) = refl

-- with no child, and with some
pub keyed_none : (key : ℕ) (links : List Link) → length links ≡ 0 → with_key key links ≡ links
keyed_none key [] none = refl
keyed_none key (x ∷ xs) none = absurd (omega (arith, none))

pub keyed_first : (key : ℕ) (links : List Link) (other : Link) → 0 < length links
    → set links 0 (key, (get_or links 0 other).1) ≡ with_key key links
keyed_first key [] other some = absurd (omega (arith, some))
keyed_first key (x ∷ xs) other some = refl

-- ---- a leaf has no children that are filled or not

leaf_filled : (dims : ℕ) (pages : PageMap) (level : ℕ) (edge : Bool) (row : Row) → RowStands dims pages 0 row
    → IsFilled dims level edge row
leaf_filled dims pages level edge end stands = tt
leaf_filled dims pages level edge (more (object id kept) rest) stands =
    leaf_filled dims pages level edge rest stands.1
leaf_filled dims pages level edge (more (child k page below) rest) stands = absurd (omega (arith, stands.0))

-- ---- both rows

pub objects-met : (key : ℕ) (one two : Row) → objects_in (met key one two) ≡ objects_in one ++ objects_in two
objects-met key one two = objects-joined one (rekeyed key two)
    ∙ ap (λ (xs : List Entry). objects_in one ++ xs) (objects-rekeyed key two)

pub occurs-met : (key n : ℕ) (one two : Row) → occurs n (met key one two) ≡ occurs n one + occurs n two
occurs-met key n one two = omega (arith, occurs-joined n one (rekeyed key two), occurs-rekeyed key n two)

pub links-met : (key : ℕ) (one two : Row) → links_of (met key one two) ≡ links_of one ++ with_key key
    (links_of two)
links-met key one two = links-joined one (rekeyed key two)
    ∙ ap (λ (xs : List Link). links_of one ++ xs) (links-rekeyed key two)

pub many_links : (key : ℕ) (one two : Row) → length (links_of (met key one two)) ≡ length
    (links_of one) + length (links_of two)
many_links key one two =
    omega (
      arith,
      ap length (links-met key one two),
      length-append (links_of one)
          (with_key key (links_of two)),
      length-with_key key (links_of two),
    )

pub many_objects : (key : ℕ) (one two : Row) → length (objects_in (met key one two)) ≡ length
    (objects_in one) + length (objects_in two)
many_objects key one two =
    omega (arith, ap length (objects-met key one two), length-append (objects_in one) (objects_in two))

module _ (dims : ℕ) (pages : PageMap) (level : ℕ) (edge : Bool) (first second key : ℕ) (one two : Row)
    (n : AreNeighbours dims pages level edge first second key one two) where
  pub met_stands : RowStands dims pages level (met key one two)
  met_stands = stands-joined dims pages level one (rekeyed key two) n.one_stands.below
      (stands-rekeyed dims pages level key two n.two_stands.below)

  pub met_some : 0 < length (objects_in (met key one two))
  met_some = omega (arith, many_objects key one two, n.one_some)

  pub met_parted : IsParted (met key one two)
  met_parted = ⊎_elim
      (λ (low : level ≡ 0). leaf_parted dims pages (met key one two)
      (subst (λ l. RowStands dims pages l (met key one two)) low met_stands))
      (λ (up : ¬ (level ≡ 0)).
      let high : 0 < level = omega (arith, up) in
      let some = some_links dims pages level two high n.two_stands.below n.two_some in
      parted-joined dims pages level key one (rekeyed key two) high n.one_stands.below
      (begins-rekeyed dims pages level key two high n.two_stands.below some)
      n.one_stands.parted (parted-rekeyed key two n.two_stands.parted)
      (λ k p b l is. record {
        lesser = n.lesser;
        from = subst (λ xs. All (λ o. key ≤ o.0) xs) (sym (objects-rekeyed key two))
            n.from;
      }))
      (cases_eq level 0)

  pub met_filled : IsFilled dims level edge (met key one two)
  met_filled = ⊎_elim
      (λ (low : level ≡ 0). leaf_filled dims pages level edge (met key one two)
      (subst (λ l. RowStands dims pages l (met key one two)) low met_stands))
      (λ (up : ¬ (level ≡ 0)).
      let high : 0 < level = omega (arith, up) in
      by_second two high n.two_stands.below
      (some_links dims pages level two high n.two_stands.below n.two_some) n.two_stands.filled)
      (cases_eq level 0)
    where
      by_second : (two : Row) → 0 < level → RowStands dims pages level two → 0 < length (links_of two)
          → IsFilled dims level edge two → IsFilled dims level edge (joined one (rekeyed key two))
      by_second end high stands some filled = absurd (omega (arith, some))
      by_second (more (object id kept) rest) high stands some filled = absurd (omega (arith, high, stands.0))
      by_second (more (child k page below) rest) high stands some filled =
          filled-joined dims level edge one (child key page below) rest n.one_stands.filled filled
