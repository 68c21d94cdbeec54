-- Pages of trees with zeros in all bytes that they do not name, and what changes keep of them (our rule,
-- docs/FORMAT.md, "Identifier trees").
use Rattle.std.specs.Prelude.{◌≡◌, ◌⊎◌, ℕ, List, IfSome}
use Rattle.block_bytes.specs.Numbers.{number_at}
use Rattle.id_page.specs.Fork.{IsTidyFork}
use Rattle.id_page.specs.Layout.{fork_kind, leaf_kind}
use Rattle.id_page.specs.Leaf.{IsTidyLeaf}
use Rattle.node_page.specs.Standing.{PageMap}

-- the page has the kind of a fork or of a leaf, and is tidy as one is
abbrev pub IsTidyNode : ℕ → List ℕ → Type 0
IsTidyNode dims page = ((number_at 1 0 page ≡ fork_kind) × IsTidyFork page)
    ⊎ ((number_at 1 0 page ≡ leaf_kind) × IsTidyLeaf dims page)

-- it is tidy where it has such a kind
pub record IsTidyPage (dims : ℕ) (page : List ℕ) : Type 0 where
  pub fork : number_at 1 0 page ≡ fork_kind → IsTidyFork page
  pub leaf : number_at 1 0 page ≡ leaf_kind → IsTidyLeaf dims page

-- so is each page that is there
abbrev pub AreTidy : ℕ → PageMap → Type 0
AreTidy dims pages = (n : ℕ) → IfSome (pages n) (IsTidyPage dims)

-- Where all pages are tidy, each one is afterwards as it was, or not there, or a tidy fork or leaf.
abbrev pub KeepsTidy : ℕ → PageMap → PageMap → Type 0
KeepsTidy dims old new = AreTidy dims old → (n : ℕ) → (new n ≡ old n) ⊎ IfSome (new n) (IsTidyNode dims)

-- ---- its steps

-- bytes that are those of a tidy fork or leaf where all pages are tidy
abbrev pub IsAsTidy : ℕ → PageMap → List ℕ → Type 0
IsAsTidy dims pages bytes = AreTidy dims pages → IsTidyNode dims bytes

-- two such pages
pub record AreAsTidy (dims : ℕ) (pages : PageMap) (one two : List ℕ) : Type 0 where
  pub first : IsAsTidy dims pages one
  pub second : IsAsTidy dims pages two
