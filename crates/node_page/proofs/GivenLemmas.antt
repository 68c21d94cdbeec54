-- Trees in the pages given out: one that stands in live pages stands there too, and the other way round in a
-- sound map.
use Rattle.std.proofs.Common.{◌≡◌, ◌∙◌, ℕ, ◌-◌, ◌<◌, ◌≤◌, List, Option, Some, None, refl, ap, subst, arith}
use Rattle.page_cache.specs.Cache.{IsPageMap, blocks_behind, given, next_of, pages}
use Rattle.page_cache.specs.Laws.{a_live_page_is_given, a_page_in_use_is_live}
use Rattle.page_cache.specs.declared.cache.PageCache.{PageCache}
use Rattle.page_file.specs.Given.{given_is}
use Rattle.page_file.specs.Layout.{kind_of}
use Rattle.tree_node.specs.Nodes.{NodeContent}
use Rattle.tree_node.specs.Trees.{Row, Tree, end, more, object, child}
use Rattle.node_bytes.specs.Layout.{node_at}
use Rattle.node_page.specs.Standing.{PageMap, RowStands, Stands, StandsAt, node_in}
use Rattle.node_bytes.proofs.Reading.{spells}

-- nodes of one map are nodes of the other
module _ (dims : ℕ) (old new : PageMap)
    (same : (n : ℕ) (c : NodeContent) → node_in dims (old n) ≡ Some c → node_in dims (new n) ≡ Some c) where
  pub row_carried : (level : ℕ) (row : Row) → RowStands dims old level row → RowStands dims new level row
  row_carried level end h = tt
  row_carried level (more (object kept id) rest) h = (h.0, row_carried level rest h.1)
  row_carried level (more (child bounds page below) rest) h =
      (h.0, same page _ h.1, row_carried (level - 1) below h.2, row_carried level rest h.3)

  pub tree_carried : (page level : ℕ) (row : Row) → StandsAt dims old page level row
      → StandsAt dims new page level row
  tree_carried page level row at =
      record { node = same page _ at.node; below = row_carried level row at.below }

-- a page that spells a node is of a node's kind
node_kind_of : (dims : ℕ) (page : List ℕ) (c : NodeContent) → node_at dims page ≡ Some c
    → ¬ (kind_of page ≡ 5)
node_kind_of dims page c is free = let kind = (spells dims page c is).head.kind in
    absurd (omega (arith, kind, free))

module _ {D A : Type 0} {m : _} where
  pub live_node_is_given : (dims : ℕ) (cache : PageCache D A m) (n : ℕ) (c : NodeContent)
      → node_in dims (pages cache n) ≡ Some c → node_in dims (given cache n) ≡ Some c
  live_node_is_given dims cache n c = case (pages cache n) refl
    where
      case : (o : Option (List ℕ)) → pages cache n ≡ o → node_in dims o ≡ Some c
          → node_in dims (given cache n) ≡ Some c
      case None e is = absurd (cc)
      case (Some page) e is = ap (node_in dims) (a_live_page_is_given cache n page e) ∙ is

  pub given_node_is_live : (dims : ℕ) (cache : PageCache D A m) (n : ℕ) (c : NodeContent) → IsPageMap cache
      → node_in dims (given cache n) ≡ Some c → node_in dims (pages cache n) ≡ Some c
  given_node_is_live dims cache n c map = case (given cache n) refl
    where
      case : (o : Option (List ℕ)) → given cache n ≡ o → node_in dims o ≡ Some c
          → node_in dims (pages cache n) ≡ Some c
      case None e is = absurd (cc)
      case (Some page) e is =
          ap (node_in dims) (a_page_in_use_is_live cache n page map e (node_kind_of dims page c is)) ∙ is

  -- a page that spells a node was given out
  pub node_was_given_out : (dims : ℕ) (cache : PageCache D A m) (n : ℕ) (c : NodeContent)
      → node_in dims (given cache n) ≡ Some c → (2 ≤ n) × (n < next_of cache)
  node_was_given_out dims cache n c = case (given cache n) refl
    where
      case : (o : Option (List ℕ)) → given cache n ≡ o → node_in dims o ≡ Some c
          → (2 ≤ n) × (n < next_of cache)
      case None e is = absurd (cc)
      case (Some page) e is = let g = given_is (blocks_behind cache) (next_of cache) n page e in
          (g.low, g.below)

  -- and so for trees
  pub live_tree_is_given : (dims : ℕ) (cache : PageCache D A m) (t : Tree) (page level : ℕ) → t.page ≡ page
      → t.level ≡ level → Stands dims (pages cache) t → StandsAt dims (given cache) page level t.row
  live_tree_is_given dims cache t page level at_page at_level stands =
      let there : StandsAt dims (pages cache) t.page t.level t.row =
      record { node = stands.root; below = stands.below } in
      tree_carried dims (pages cache) (given cache) (live_node_is_given dims cache) page level t.row
      (subst (λ (l : ℕ). StandsAt dims (pages cache) page l t.row) at_level
      (subst (λ (n : ℕ). StandsAt dims (pages cache) n t.level t.row) at_page there))

  pub given_tree_is_live : (dims : ℕ) (cache : PageCache D A m) (page level : ℕ) (row : Row)
      → IsPageMap cache → StandsAt dims (given cache) page level row
      → StandsAt dims (pages cache) page level row
  given_tree_is_live dims cache page level row map stands =
      tree_carried dims (given cache) (pages cache)
      (λ n c there. given_node_is_live dims cache n c map there) page level row stands
