-- What range queries over trees are answered (the search of Guttman 1984; that answers ascend by identifier
-- is our rule, docs/FORMAT.md, "Trees of pages").
use Rattle.std.specs.Prelude.{◌≡◌, ◌⊎◌, ℕ, Bool, List, Option, Result, Vec, IfErr, IfOk, OnOk, IsPermutation}
use Rattle.std.specs.List.{filter}
use Rattle.std.specs.List.Sorted.{IsNonDecreasingBy}
use Rattle.box_math.specs.Bounds.{Bounds}
use Rattle.box_math.specs.Objects.{Object, has_tag}
use Rattle.box_math.specs.Queries.{admits, seeks}
use Rattle.box_math.specs.declared.query.Query.{Query}
use Rattle.page_file.specs.Fault.{IsDamage, IsOfDevice}
use Rattle.page_file.specs.declared.fault.Fault.{Fault}
use Rattle.page_file.specs.declared.fault.Fault.TheVariants as fault
use Rattle.page_cache.specs.Cache.{IsHonest, given, looks_of, pages}
use Rattle.page_cache.specs.Calls.{Asks}
use Rattle.page_cache.specs.declared.cache.PageCache.{PageCache}
use Rattle.tree_node.specs.Searches.{admitted, counted, passing_objects}
use Rattle.tree_node.specs.Trees.{Tree}
use Rattle.tree_node.specs.declared.node.Root.{Root}
use Rattle.node_page.specs.Checked.{ComesTo}
use Rattle.node_page.specs.Rooted.{IsTreeAt}

-- the objects that have the tag that is asked for, if one is
abbrev pub having : Option ℕ → List (ℕ × Object) → List (ℕ × Object)
having asked objects = filter (λ object. has_tag asked object.1) objects

-- the objects of the tree whose boxes pass the test and that have the tag that is asked for, if one is, each
-- as often as the tree has it, by identifier
pub record IsRangeAnswer (test : Bounds → Bool) (asked : Option ℕ) (t : Tree)
    (rows : List (ℕ × Object)) : Type 0 where
  pub all : IsPermutation (having asked (passing_objects test t.row)) rows
  pub order : IsNonDecreasingBy (λ row. row.0) rows

-- What a range query does to a cache, and what it is answered. On an honest device, where a tree with the
-- shape of an R-tree stands in the pages: rows that are so of the tree, and a look at the root and at each other
-- node that the query admits; it is refused by `Memory` or `Device`. On other pages it may be refused by `Damaged`
-- too, with the number of a page that a walk down the nodes comes to.
pub record AnswersBy {D : ℕ} {B A H : Type 0} {m : _} (IsAnswer : Tree → List (ℕ × Object) → Type 0)
    (query : Query D) (root : Root) (old new : PageCache B A m) (result : Result (Vec (ℕ × Object) H) Fault)
    : Type 0 where
  pub asks : Asks old new result
  pub rows : IsHonest old → (t : Tree) (most : ℕ) → IsTreeAt D most (pages old) root t
      → IfOk result (λ rows. IsAnswer t rows.items)
  pub looks : IsHonest old → (t : Tree) (most : ℕ) → IsTreeAt D most (pages old) root t
      → OnOk result (looks_of new ≡ counted (looks_of old) (admitted (admits query) t))
  pub stands : IsHonest old → (t : Tree) (most : ℕ) → IsTreeAt D most (pages old) root t
      → IfErr result IsOfDevice
  pub damage : IsHonest old
      → IfErr result (λ f. (n : ℕ) → f ≡ fault.Damaged n → ComesTo D (given old) root.page n)
  pub other_faults : IfErr result (λ f. IsOfDevice f ⊎ IsDamage f)

-- the objects that it seeks, by identifier
abbrev pub AnswersRange : {D : ℕ} {B A H : Type 0} {m : _} → Query D → Option ℕ → Root → PageCache B A m
    → PageCache B A m → Result (Vec (ℕ × Object) H) Fault → Type 0
AnswersRange query tag root old new result =
    AnswersBy (IsRangeAnswer (seeks query) tag) query root old new result

-- the same in the order in which the tree has them, from left to right
abbrev pub AnswersInTreeOrder : {D : ℕ} {B A H : Type 0} {m : _} → Query D → Option ℕ → Root → PageCache B A m
    → PageCache B A m → Result (Vec (ℕ × Object) H) Fault → Type 0
AnswersInTreeOrder query tag root old new result =
    AnswersBy (λ t rows. rows ≡ having tag (passing_objects (seeks query) t.row)) query root old new result
