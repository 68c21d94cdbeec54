-- How many pages a layer has.
use Rattle.std.proofs.Common.{ℕ, ◌+◌, ◌*◌, ◌≤◌, length, ap, arith}
use Rattle.std.specs.FinMap.{entries}
use Rattle.std.proofs.lemmas.List.Sorted.{length_permutation}
use Rattle.box_math.specs.Measures.{sum_over}
use Rattle.tree_node.specs.Trees.{objects_in, occurs_in}
use Rattle.tree_node.specs.declared.node.Root.{Root}
use Rattle.node_page.specs.Standing.{PageMap}
use Rattle.node_page.proofs.CountLemmas.{pages_of_tree, sum_both}
use Rattle.id_table.specs.Table.{entries_of, objects_of, occurs_in_ids}
use Rattle.id_table.proofs.TableLemmas.{pages_of_ids}
use Rattle.layer_pages.specs.Layers.{IsLayerAt, LayerPages, Objects, part_of_layer}
use Rattle.layer_pages.proofs.CheckLemmas.{table_entries}

-- Its tree has at most a page more than the layer has objects, and its table a page for each 28 of them and
-- 1,001 more.
pub pages_of_layer : (dims most limit : ℕ) (pages : PageMap) (root : Root) (ids_root : ℕ) (l : LayerPages)
    (objects : Objects) → IsLayerAt dims most pages root ids_root l objects
    → 28 * sum_over limit (part_of_layer l) ≤ 29 * length (entries objects) + 28056
pages_of_layer dims most limit pages root ids_root l objects is =
    omega (
      arith,
      sum_both limit (λ n. occurs_in n l.tree) (λ n. occurs_in_ids n l.ids),
      pages_of_tree dims most limit l.tree is.tree.shape,
      length_permutation (objects_in l.tree.row) (entries objects) is.leaves,
      pages_of_ids dims limit pages l.ids is.ids,
      length_permutation (entries_of l.ids) (entries (objects_of l.ids))
          (table_entries dims pages l.ids is.ids),
      ap (λ (o : Objects). length (entries o)) is.table,
    )
