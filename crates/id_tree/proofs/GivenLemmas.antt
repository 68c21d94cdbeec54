-- Tables in the pages given out: one that stands in live pages stands there too, and the other way round in a
-- sound map.
use Rattle.std.proofs.Common.{◌≡◌, ◌∙◌, ◌⊎◌, ℕ, ◌-◌, ◌<◌, ◌≤◌, List, Option, Some, [], ◌∷◌, length}
use Rattle.std.proofs.Common.{get_or, sym, ap, ⊎_elim, arith}
use Rattle.std.proofs.lemmas.Bool.{cases_eq}
use Rattle.std.specs.Prelude.{Result, Ok, Err, IfErr}
use Rattle.bucket_page.specs.Layout.{Entry}
use Rattle.page_file.specs.Given.{given_is}
use Rattle.page_file.specs.Layout.{kind_of}
use Rattle.page_file.specs.declared.fault.Fault.{Fault}
use Rattle.page_file.specs.declared.fault.Fault.TheVariants as fault
use Rattle.page_cache.specs.Cache.{IsPageMap, blocks_behind, given, next_of, pages}
use Rattle.page_cache.specs.Calls.{AsksUntil, fault_in, no_call_asks}
use Rattle.page_cache.specs.Laws.{a_live_page_is_given, a_page_in_use_is_live}
use Rattle.page_cache.specs.declared.cache.PageCache.{PageCache}
use Rattle.node_page.specs.Standing.{PageMap}
use Rattle.node_page.proofs.CheckLemmas.{quiet_visit}
use Rattle.id_page.specs.Fork.{Link, fork_at}
use Rattle.id_page.proofs.ForkReading.{fork_spells}
use Rattle.id_page.proofs.LeafReading.{leaf_spells}
use Rattle.id_tree.specs.Checked.{ComesInTree, IsCheckedTable, Leads}
use Rattle.id_tree.specs.Tree.{HasNode, IdTree, Row, end, more, object, child, RowStands, TreeStands, fork_in}
use Rattle.id_tree.specs.Tree.{leaf_in, links_of, objects_in}
use Rattle.id_tree.proofs.NodeLemmas.{there_bytes}

-- nodes of one map are nodes of the other
module _ (dims : ℕ) (old new : PageMap)
    (same : (n level : ℕ) (row : Row) → HasNode dims old n level row → HasNode dims new n level row) where
  row_carried : (level : ℕ) (row : Row) → RowStands dims old level row → RowStands dims new level row
  row_carried level end h = tt
  row_carried level (more (object id kept) rest) h = (h.0, row_carried level rest h.1)
  row_carried level (more (child key page below) rest) h = (
    h.0,
    h.1,
    h.2,
    same page (level - 1) below h.3,
    row_carried (level - 1) below h.4,
    row_carried level
        rest h.5,
  )

  tree_carried : (t : IdTree) → TreeStands dims old t → TreeStands dims new t
  tree_carried t s = record {
    low = s.low;
    high = s.high;
    bounded = s.bounded;
    root = same t.page t.level t.row s.root;
    below = row_carried t.level t.row s.below;
    parted = s.parted;
    filled = s.filled;
    wide = s.wide;
    single = s.single;
    once = s.once;
  }

-- where a page has a node, its bytes spell it
record IsNodeIn (dims : ℕ) (page : Option (List ℕ)) (level : ℕ) (row : Row) : Type 0 where
  pub leaf : level ≡ 0 → leaf_in dims page ≡ Some (objects_in row)
  pub fork : 0 < level → fork_in dims page ≡ Some (record { level = level; links = links_of row })

-- a page that spells one is of no free page's kind
not_free : (dims : ℕ) (bytes : List ℕ) (level : ℕ) (row : Row) → IsNodeIn dims (Some bytes) level row
    → ¬ (kind_of bytes ≡ 5)
not_free dims bytes level row node free = ⊎_elim
    (λ (low : level ≡ 0). let kind = (leaf_spells dims bytes (objects_in row) (node.leaf low)).head.kind in
    omega (arith, kind, free))
    (λ (up : ¬ (level ≡ 0)). let kind =
    (fork_spells dims bytes (record { level = level; links = links_of row })
    (node.fork (omega (arith, up)))).head.kind in omega (arith, kind, free))
    (cases_eq level 0)

module _ {D A : Type 0} {m : _} where
  live_node : (dims : ℕ) (cache : PageCache D A m) (n level : ℕ) (row : Row)
      → HasNode dims (pages cache) n level row → HasNode dims (given cache) n level row
  live_node dims cache n level row node =
      let there = there_bytes dims (pages cache) n level row node in
      let same = a_live_page_is_given cache n there.0 there.1 ∙ sym there.1 in
      record {
        leaf = λ low. ap (leaf_in dims) same ∙ node.leaf low;
        fork = λ up. ap (fork_in dims) same
            ∙ node.fork up;
      }

  given_node : (dims : ℕ) (cache : PageCache D A m) (n level : ℕ) (row : Row) → IsPageMap cache
      → HasNode dims (given cache) n level row → HasNode dims (pages cache) n level row
  given_node dims cache n level row map node =
      let there = there_bytes dims (given cache) n level row node in
      let spelled : IsNodeIn dims (Some there.0) level row =
      record {
        leaf = λ low. ap (leaf_in dims) (sym there.1)
            ∙ node.leaf low;
        fork = λ up. ap (fork_in dims) (sym there.1) ∙ node.fork up;
      } in
      let same = a_page_in_use_is_live cache n there.0 map there.1 (not_free dims there.0 level row spelled)
      ∙ sym there.1 in
      record {
        leaf = λ low. ap (leaf_in dims) same ∙ node.leaf low;
        fork = λ up. ap (fork_in dims) same
            ∙ node.fork up;
      }

  pub live_table : (dims : ℕ) (cache : PageCache D A m) (t : IdTree) → TreeStands dims (pages cache) t
      → TreeStands dims (given cache) t
  live_table dims cache t = tree_carried dims (pages cache) (given cache) (live_node dims cache) t

  pub given_table : (dims : ℕ) (cache : PageCache D A m) (t : IdTree) → IsPageMap cache
      → TreeStands dims (given cache) t → TreeStands dims (pages cache) t
  given_table dims cache t map = tree_carried dims (given cache) (pages cache)
      (λ n level row. given_node dims cache n level row map) t

  -- a page that has a node was given out
  pub node_given_out : (dims : ℕ) (cache : PageCache D A m) (n level : ℕ) (row : Row)
      → HasNode dims (given cache) n level row → (2 ≤ n) × (n < next_of cache)
  node_given_out dims cache n level row node = let there = there_bytes dims (given cache) n level row node in
      out there.0 there.1
    where
      out : (page : List ℕ) → given cache n ≡ Some page → (2 ≤ n) × (n < next_of cache)
      out page e = let g = given_is (blocks_behind cache) (next_of cache) n page e in (g.low, g.below)

  -- a look at a leaf in memory is none at the device
  pub leaf_asks : {T : Type 0} (cache : PageCache D A m) (page : ℕ) (result : Result T Fault)
      → IfErr result (λ f. (f ≡ fault.Memory) ⊎ (f ≡ fault.Damaged page))
      → AsksUntil cache cache (fault_in result)
  leaf_asks cache page (Ok x) h = no_call_asks cache
  leaf_asks cache page (Err f) h =
      let a = no_call_asks cache in
      record {
        gate = a.gate;
        map = a.map;
        capacity = a.capacity;
        looks = a.looks;
        touched =
            a.touched;
        faults = sym (quiet_visit f page h _);
      }

  pub checked_live : (dims : ℕ) (cache : PageCache D A m) (root : ℕ) (pairs : List Entry) (list : List ℕ)
      → IsPageMap cache → IsCheckedTable dims (given cache) root pairs list
      → IsCheckedTable dims (pages cache) root pairs list
  checked_live dims cache root pairs list map is = record {
    table = is.table;
    page_is = is.page_is;
    stands = given_table dims cache is.table map is.stands;
    pairs_are = is.pairs_are;
    pages_are = is.pages_are;
  }

-- ---- walks to a page that is damaged

leads_so : (dims : ℕ) (old new : PageMap) (page : ℕ) (walk : List ℕ) (n : ℕ) → ((k : ℕ) → new k ≡ old k)
    → Leads dims new page walk n → Leads dims old page walk n
leads_so dims old new page [] n same leads = leads
leads_so dims old new page (next ∷ walk) n same leads = (
  (leads.0.0, ap (fork_in dims) (sym (same page)) ∙ leads.0.1, leads.0.2),
  leads_so dims old new next walk
      n same leads.1,
)

pub comes_so : (dims : ℕ) (old new : PageMap) (page n : ℕ) → ((k : ℕ) → new k ≡ old k)
    → ComesInTree dims new page n → ComesInTree dims old page n
comes_so dims old new page n same comes = (comes.0, leads_so dims old new page comes.0 n same comes.1)

pub comes_here : (dims : ℕ) (m : PageMap) (page n : ℕ) → n ≡ page → ComesInTree dims m page n
comes_here dims m page n is = ([], is)

-- by way of a child
pub comes_below : (dims : ℕ) (m : PageMap) (page level : ℕ) (bytes : List ℕ) (links : List Link)
    (place p n : ℕ) → m page ≡ Some bytes → fork_at dims bytes ≡ Some
    (record { level = level; links = links }) → place < length links
    → ((other : Link) → p ≡ (get_or links place other).1) → ComesInTree dims m p n → ComesInTree dims m page n
comes_below dims m page level bytes links place p n there is within named comes = (
  p ∷ comes.0,
  (
    (
      record { level = level; links = links },
      ap (fork_in dims) there
          ∙ is,
      (place, within, λ other. sym (named other)),
    ),
    comes.1,
  ),
)
