-- What is told of the pages of a layer: the nodes of its tree, and the pages of its identifier table (our rule,
-- docs/FORMAT.md, "Trees of pages", "Identifier tables").
use Rattle.std.specs.Prelude.{◌≡◌, ℕ, List, [], Result, length}
use Rattle.id_table.specs.Checked.{IsCheckedTable}
use Rattle.box_math.specs.Objects.{Object}
use Rattle.page_cache.specs.Cache.{looks_of, pages}
use Rattle.plain_table.specs.Step.{layer_refusals}
use Rattle.plain_table.specs.Table.{Table, layer_at}
use Rattle.plain_table.specs.declared.refusal.Refusal.{Refusal}
use Rattle.tree_node.specs.Searches.{counted, nodes_in}
use Rattle.tree_node.specs.Trees.{Tree}
use Rattle.tree_outline.specs.Outlines.{outline_of}
use Rattle.tree_outline.specs.declared.node.NodeOutline.{NodeOutline}
use Rattle.live_layers.specs.Keeping.{HasTree, cache_of}
use Rattle.live_layers.specs.Located.{IsLocated}
use Rattle.live_layers.specs.Questions.{IsToldOr}
use Rattle.live_layers.specs.declared.layers.Layers.{Layers}
use Rattle.live_layers.specs.declared.located.Located.{Located}
use Rattle.live_layers.specs.declared.outlines.LayerOutline.{LayerOutline}
use Rattle.live_layers.specs.declared.outlines.LayerOutline.TheVariants.{Two, Three}

-- What was asked of the layer of a name is answered so, where there is such a layer; or it is refused as the
-- table refuses each question of that name, or by a fault.
abbrev pub IsOfName : Type 0 → Table → List ℕ → {T : Type 0} → (T → Type 0) → Result T Refusal → Type 0
IsOfName rose t name P result = IsToldOr rose (layer_refusals t name []) P result

-- the rows are exactly the nodes of the tree of the layer of this name, each of which was looked at once
pub record ListsNodes {D A : Type 0} {m : _} {dims : ℕ} (old new : Layers D A m) (name : List ℕ)
    (rows : List (NodeOutline dims)) : Type 0 where
  pub tree : Tree
  pub is_tree : HasTree old name tree
  pub rows_are : rows ≡ outline_of tree
  pub looks : looks_of new.cache ≡ counted (looks_of old.cache) (nodes_in tree)

-- and they have as many axes as the layer
abbrev pub ListsTree : {D A H : Type 0} {m : _} → Layers D A m → Layers D A m → Table → List ℕ
    → LayerOutline H → Type 0
ListsTree old new t name (Two rows) = ((layer_at t name).dims ≡ 2) × ListsNodes old new name rows.items
ListsTree old new t name (Three rows) = ((layer_at t name).dims ≡ 3) × ListsNodes old new name rows.items

-- there is a list of so many pages, which are those of the identifier table of the layer of this name
pub record IsIdPages {D A : Type 0} {m : _} (kept : Layers D A m) (t : Table) (name : List ℕ) (n : ℕ)
    : Type 0 where
  pub located : Located
  pub stands : IsLocated kept t name located
  pub pairs : List (ℕ × Object)
  pub list : List ℕ
  pub table : IsCheckedTable located.dims (pages (cache_of kept)) located.ids_root pairs list
  pub many : n ≡ length list
