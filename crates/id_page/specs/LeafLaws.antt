-- The laws of what leaf pages spell.
use Rattle.std.specs.Prelude.{◌≡◌, ℕ, ◌↔◌, List, All, Some}
use Rattle.block_bytes.specs.Forms.{HasOnePage, ReadsNamed}
use Rattle.block_bytes.specs.Numbers.{AreBytes}
use Rattle.box_math.specs.Bounds.{IsBox}
use Rattle.box_math.specs.Objects.{bounds_of}
use Rattle.bucket_page.specs.Layout.{Entry}
use Rattle.id_page.specs.Leaf.{SpellsLeaf, leaf_at, leaf_names}

-- reading gives exactly what is spelled
abbrev pub ReadsSpelledLeaves : Type 0
ReadsSpelledLeaves = (dims : ℕ) (page : List ℕ) (objects : List Entry)
    → (leaf_at dims page ≡ Some objects) ↔ SpellsLeaf dims page objects

-- only named bytes are read
abbrev pub ReadsNamedOfLeaves : Type 0
ReadsNamedOfLeaves = (dims : ℕ) → ReadsNamed (leaf_at dims) (leaf_names dims)

-- what a page of bytes spells has boxes
abbrev pub SpellsBoxes : Type 0
SpellsBoxes = (dims : ℕ) (page : List ℕ) (objects : List Entry) → AreBytes page → SpellsLeaf dims page objects
    → All (λ object. IsBox dims (bounds_of object.1)) objects

-- a leaf has one page
abbrev pub LeavesHaveOnePage : Type 0
LeavesHaveOnePage = (dims : ℕ) → HasOnePage (leaf_at dims) (leaf_names dims)
