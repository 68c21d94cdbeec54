-- The laws of identifier trees.
use Rattle.std.specs.Prelude.{◌≡◌, ℕ, ◌+◌, ◌*◌, ◌<◌, ◌≤◌, List, Some, IfSome, length}
use Rattle.block_bytes.specs.Numbers.{AreBytes, number_at}
use Rattle.box_math.specs.Measures.{sum_over}
use Rattle.node_page.specs.Standing.{PageMap}
use Rattle.id_tree.specs.Tidy.{AreTidy}
use Rattle.id_tree.specs.Tree.{IdTree, TreeStands, objects_in, part_of}

-- a table has a page for each 28 objects, and seven more at most
abbrev pub HasFewPages : Type 0
HasFewPages = (dims limit : ℕ) (pages : PageMap) (t : IdTree) → TreeStands dims pages t
    → 28 * sum_over limit (part_of t) ≤ length (objects_in t.row) + 196

-- a table has one image: where the same stands twice in tidy pages of bytes, each of its pages has the same
-- bytes
abbrev pub TablesHaveOneImage : Type 0
TablesHaveOneImage = (dims : ℕ) (a b : PageMap) (t : IdTree) → ((n : ℕ) → IfSome (a n) AreBytes)
    → ((n : ℕ) → IfSome (b n) AreBytes) → AreTidy dims a → AreTidy dims b
    → TreeStands dims a t → TreeStands dims b t → (n : ℕ) → 0 < part_of t n
    → (x y : List ℕ) → a n ≡ Some x → b n ≡ Some y → (k : ℕ) → number_at 1 k x ≡ number_at 1 k y
