-- A layer given up: its tree, and then its table.
use Rattle.std.proofs.Common.{ℕ, refl}
use Rattle.tree_node.specs.Trees.{occurs_in}
use Rattle.tree_node.specs.declared.node.Root.{Root}
use Rattle.node_page.specs.Parts.{Moves, both, no_page}
use Rattle.node_page.specs.Standing.{PageMap}
use Rattle.node_page.proofs.PartLemmas.{moves_same}
use Rattle.id_table.specs.Table.{part_of}
use Rattle.layer_pages.specs.Layers.{IsLayerAt, LayerPages, Objects, part_of_layer}
use Rattle.layer_pages.proofs.LayerLemmas.{layer_moves}

pub layer_freed : (dims most : ℕ) (old mid new : PageMap) (root : Root) (ids_root : ℕ) (l : LayerPages)
    (objects : Objects) → IsLayerAt dims most old root ids_root l objects
    → Moves old mid (λ n. occurs_in n l.tree) no_page
    → Moves mid new (part_of l.ids) no_page → Moves old new (part_of_layer l) no_page
layer_freed dims most old mid new root ids_root l objects is tree ids =
    moves_same old new (part_of_layer l) (part_of_layer l) (both no_page no_page) no_page (λ n. refl)
    (λ n. refl)
    (layer_moves dims most old root ids_root l objects is mid no_page tree new no_page ids)
