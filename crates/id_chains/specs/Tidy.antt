-- Pages of tables with zeros in all bytes that they do not name, and what changes keep of them (our rule,
-- docs/FORMAT.md, "Identifier tables").
use Rattle.std.specs.Prelude.{◌≡◌, ℕ, ◌<◌, ◌≤◌, ◌⊎◌, List, IfSome}
use Rattle.block_bytes.specs.Kinds.{directory_kind}
use Rattle.block_bytes.specs.Numbers.{number_at, AreBytes}
use Rattle.bucket_page.specs.Layout.{IsBucketKind, IsTidy}
use Rattle.node_page.specs.Standing.{PageMap}
use Rattle.id_chains.specs.Table.{IsDirectory, link_at, link_place}

-- a byte that a directory names: its kind, its dimension, or one of the first page of a chain
abbrev pub IsNamed : ℕ → Type 0
IsNamed k = (k < 2) ⊎ ((16 ≤ k) × (k < link_place 1000))

-- all other bytes of a directory are zero
abbrev pub IsTidyDirectory : List ℕ → Type 0
IsTidyDirectory page = (k : ℕ) → (IsNamed k → ⊥) → number_at 1 k page ≡ 0

-- the page is tidy as one of its kind is, where that is a kind of a table's pages
pub record IsTidyPage (dims : ℕ) (page : List ℕ) : Type 0 where
  pub directory : number_at 1 0 page ≡ directory_kind → IsTidyDirectory page
  pub bucket : IsBucketKind (number_at 1 0 page) → IsTidy dims page

-- each page that was tidy, or was not there, is tidy afterwards, or not there
abbrev pub KeepsTidy : ℕ → PageMap → PageMap → Type 0
KeepsTidy dims old new = (n : ℕ) → IfSome (old n) (IsTidyPage dims) → IfSome (new n) (IsTidyPage dims)

-- ---- the law

-- a directory has one page: two that name the same first pages, both tidy, have the same bytes
abbrev pub DirectoriesHaveOnePage : Type 0
DirectoriesHaveOnePage = (dims : ℕ) (a b : List ℕ) → AreBytes a → AreBytes b → IsDirectory dims a
    → IsDirectory dims b → IsTidyDirectory a → IsTidyDirectory b
    → ((class : ℕ) → class < 1000 → link_at class a ≡ link_at class b)
    → (k : ℕ) → number_at 1 k a ≡ number_at 1 k b
