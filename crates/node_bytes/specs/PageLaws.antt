-- The laws of what pages spell (our format, docs/FORMAT.md, "Node pages").
use Rattle.std.specs.Prelude.{◌≡◌, ℕ, ◌↔◌, List, Some}
use Rattle.block_bytes.specs.Forms.{HasOnePage, ReadsNamed}
use Rattle.block_bytes.specs.Numbers.{AreBytes}
use Rattle.tree_node.specs.Nodes.{NodeContent}
use Rattle.node_bytes.specs.Layout.{IsNode, Spells, names, node_at, node_of_kind}

-- reading gives exactly what is spelled
abbrev pub ReadsWhatIsSpelled : Type 0
ReadsWhatIsSpelled = (dims : ℕ) (page : List ℕ) (c : NodeContent)
    → (node_at dims page ≡ Some c) ↔ Spells dims page c

-- only named bytes are read
abbrev pub ReadsNamedBytes : Type 0
ReadsNamedBytes = (dims : ℕ) → ReadsNamed (node_at dims) (names dims)

-- what a page of bytes spells is a node
abbrev pub SpellsNodes : Type 0
SpellsNodes = (dims : ℕ) (page : List ℕ) (c : NodeContent) → AreBytes page → Spells dims page c
    → IsNode dims c

-- a node has one page of each kind
abbrev pub NodesHaveOnePage : Type 0
NodesHaveOnePage = (kind dims : ℕ) → HasOnePage (node_of_kind kind dims) (names dims)
