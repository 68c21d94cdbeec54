-- A table has one image.
use Rattle.std.proofs.Common.{◌≡◌, ℕ, ◌+◌, ◌-◌, ◌<◌, cond, eqb, List, Option, Some, subst}
use Rattle.std.proofs.Common.{⊎_elim, arith}
use Rattle.std.specs.Prelude.{IfSome}
use Rattle.std.proofs.lemmas.Bool.{cases_eq}
use Rattle.block_bytes.specs.Numbers.{AreBytes}
use Rattle.node_page.specs.Standing.{PageMap}
use Rattle.id_page.specs.Fork.{ForkContent}
use Rattle.id_page.proofs.ForkPages.{one_page as one_fork_page}
use Rattle.id_page.proofs.LeafPages.{one_page as one_leaf_page}
use Rattle.id_tree.specs.Laws.{TablesHaveOneImage}
use Rattle.id_tree.specs.Tree.{HasNode, IdTree, Row, end, more, object, child, RowStands, TreeStands}
use Rattle.id_tree.specs.Tree.{links_of, objects_in, occurs}
use Rattle.id_tree.proofs.NodeLemmas.{fork_bytes, leaf_bytes, not_there}
use Rattle.id_tree.proofs.TidyLemmas.{bytes_tidy, tidy_fork, tidy_leaf}

-- a node that a page has in both maps
record IsInBoth (dims : ℕ) (a b : PageMap) (n : ℕ) : Type 0 where
  pub level : ℕ
  pub row : Row
  pub one : HasNode dims a n level row
  pub two : HasNode dims b n level row

in_row : (dims : ℕ) (a b : PageMap) (level : ℕ) (row : Row) (n : ℕ) → RowStands dims a level row
    → RowStands dims b level row → 0 < occurs n row → IsInBoth dims a b n
in_row dims a b level end n one two some = absurd (omega (arith, some))
in_row dims a b level (more (object id kept) rest) n one two some =
    in_row dims a b level rest n one.1 two.1 some
in_row dims a b level (more (child key page below) rest) n one two some = ⊎_elim
    (λ (is : page ≡ n). subst (IsInBoth dims a b) is
    (record { level = level - 1; row = below; one = one.3; two = two.3 }))
    (λ (other : ¬ (page ≡ n)).
    let none = not_there page n other in
    ⊎_elim
    (λ (out : occurs n below ≡ 0).
    in_row dims a b level rest n one.5 two.5 (omega (arith, some, none, out)))
    (λ (inside : ¬ (occurs n below ≡ 0)). in_row dims a b (level - 1) below n one.4 two.4
    (omega (arith, inside)))
    (cases_eq (occurs n below) 0))
    (cases_eq page n)

in_tree : (dims : ℕ) (a b : PageMap) (t : IdTree) (n : ℕ) → TreeStands dims a t → TreeStands dims b t
    → 0 < cond (eqb t.page n) 1 0 + occurs n t.row → IsInBoth dims a b n
in_tree dims a b t n one two some = ⊎_elim
    (λ (is : t.page ≡ n). subst (IsInBoth dims a b) is
    (record { level = t.level; row = t.row; one = one.root; two = two.root }))
    (λ (other : ¬ (t.page ≡ n)).
    let none = not_there t.page n other in
    in_row dims a b t.level t.row n one.below two.below (omega (arith, some, none)))
    (cases_eq t.page n)

bytes_at : (m : PageMap) (n : ℕ) (page : List ℕ) → m n ≡ Some page → ((k : ℕ) → IfSome (m k) AreBytes)
    → AreBytes page
bytes_at m n page is bytes = subst (λ (p : Option (List ℕ)). IfSome p AreBytes) is (bytes n)

pub one_image : TablesHaveOneImage
one_image dims a b t bytes_a bytes_b tidy_a tidy_b one two n here x y is_x is_y k =
    let both = in_tree dims a b t n one two here in
    let byte_x = bytes_at a n x is_x bytes_a in
    let byte_y = bytes_at b n y is_y bytes_b in
    let page_x = bytes_tidy dims a n x is_x tidy_a in
    let page_y = bytes_tidy dims b n y is_y tidy_b in
    ⊎_elim
    (λ (low : both.level ≡ 0).
    let objects = objects_in both.row in
    let leaf_x = leaf_bytes dims (a n) x objects is_x (both.one.leaf low) in
    let leaf_y = leaf_bytes dims (b n) y objects is_y (both.two.leaf low) in
    one_leaf_page dims x y objects byte_x byte_y
    (record { spelled = leaf_x; rest = tidy_leaf dims x objects leaf_x page_x })
    (record { spelled = leaf_y; rest = tidy_leaf dims y objects leaf_y page_y }) k)
    (λ (up : ¬ (both.level ≡ 0)).
    let high : 0 < both.level = omega (arith, up) in
    let content : ForkContent = record { level = both.level; links = links_of both.row } in
    let fork_x = fork_bytes dims (a n) x content is_x (both.one.fork high) in
    let fork_y = fork_bytes dims (b n) y content is_y (both.two.fork high) in
    one_fork_page dims x y content byte_x byte_y
    (record { spelled = fork_x; rest = tidy_fork dims x content fork_x page_x })
    (record { spelled = fork_y; rest = tidy_fork dims y content fork_y page_y }) k)
    (cases_eq both.level 0)
