-- What holds of identifier tables of both kinds.
use Rattle.std.proofs.Common.{◌≡◌, ◌∙◌, ℕ, ◌+◌, ◌*◌, ◌<◌, ◌≤◌, IsSome, length, refl, sym, ap, subst, arith}
use Rattle.std.proofs.Common.{List, Option, Some}
use Rattle.block_bytes.specs.Kinds.{directory_kind}
use Rattle.block_bytes.specs.Numbers.{number_at}
use Rattle.box_math.specs.Measures.{sum_over}
use Rattle.page_cache.specs.Cache.{given, pages}
use Rattle.page_cache.specs.declared.cache.PageCache.{PageCache}
use Rattle.node_page.specs.Parts.{Moves, Part}
use Rattle.node_page.specs.Standing.{PageMap}
use Rattle.node_page.proofs.PartLemmas.{not_new}
use Rattle.id_words.specs.Objects.{times_in}
use Rattle.id_words.proofs.ObjectLemmas.{occurs_here}
use Rattle.id_chains.proofs.CheckedLemmas.{live_table_is_given}
use Rattle.id_chains.proofs.CountLemmas.{pages_of_ids as pages_of_chains}
use Rattle.id_page.specs.Layout.{fork_kind}
use Rattle.id_page.proofs.ForkReading.{fork_spells}
use Rattle.id_tree.specs.Tree.{links_of}
use Rattle.id_tree.proofs.NodeLemmas.{bytes_of_fork}
use Rattle.id_tree.proofs.FewLemmas.{few_pages}
use Rattle.id_tree.proofs.GivenLemmas.{live_table}
use Rattle.id_table.specs.Table.{IdTable, IdsStand, entries_of, occurs_in_ids, page_of}
use Rattle.id_table.specs.Table.IdTable.{chained, treed}
use Rattle.id_table.proofs.ChainLemmas.{IsOther, chains_are_other, chains_stay, once_in_all_chains, one_of_chains}
use Rattle.id_table.proofs.TreeLemmas.{one_of_trees, tree_is_other, tree_stays}

-- its first page is one of its pages
pub begins_in_itself : (t : IdTable) → 0 < occurs_in_ids (page_of t) t
begins_in_itself (chained t) = let here = occurs_here t.page in omega (arith, here)
begins_in_itself (treed t) = let here = occurs_here t.page in omega (arith, here)

-- no page is in it twice
pub ids_once : (dims : ℕ) (pages : PageMap) (t : IdTable) (n : ℕ) → IdsStand dims pages t
    → occurs_in_ids n t ≤ 1
ids_once dims pages (chained t) n s = s.once n
ids_once dims pages (treed t) n s = s.once n

-- it stands in pages that are equal where it stands
pub ids_stay : (dims : ℕ) (old new : PageMap) (t : IdTable)
    → ((n : ℕ) → 0 < occurs_in_ids n t → new n ≡ old n) → IdsStand dims old t → IdsStand dims new t
ids_stay dims old new (chained t) same s = chains_stay dims old new t same s
ids_stay dims old new (treed t) same s = tree_stays dims old new t same s

-- each of its pages is there, and none is a node of a tree of boxes
pub ids_are_other : (dims : ℕ) (pages : PageMap) (t : IdTable) (n : ℕ) → IdsStand dims pages t
    → 0 < occurs_in_ids n t → IsOther (pages n)
ids_are_other dims pages (chained t) n s here = chains_are_other dims pages t n s here
ids_are_other dims pages (treed t) n s here = tree_is_other dims pages t n s here

pub ids_there : (dims : ℕ) (pages : PageMap) (t : IdTable) (n : ℕ) → IdsStand dims pages t
    → 0 < occurs_in_ids n t → IsSome (pages n)
ids_there dims pages t n s here =
    let other = ids_are_other dims pages t n s here in there (pages n) other.0 other.1
  where
    there : (page : Option (List ℕ)) (bytes : List ℕ) → page ≡ Some bytes → IsSome page
    there page bytes is = subst IsSome (sym is) refl

-- one that stands beside a change stands after it, and shares no page with it
pub ids_beside : (dims : ℕ) (old new : PageMap) (was now : Part) (t : IdTable) → Moves old new was now
    → IdsStand dims old t → ((n : ℕ) → 0 < occurs_in_ids n t → was n ≡ 0)
    → IdsStand dims new t × ((n : ℕ) → 0 < occurs_in_ids n t → now n ≡ 0)
ids_beside dims old new was now t moves stands apart =
    let none : (n : ℕ) → 0 < occurs_in_ids n t
    → now n ≡ 0 =
    λ n here. not_new old new was now n moves (apart n here) (ids_there dims old t n stands here) in
    (ids_stay dims old new t (λ n here. moves.outside n (apart n here) (none n here)) stands, none)

-- byte 0 of its first page is that of its kind
abbrev pub first_byte : IdTable → ℕ
first_byte (chained t) = directory_kind
first_byte (treed t) = fork_kind

pub begins_so : (dims : ℕ) (m : PageMap) (t : IdTable) → IdsStand dims m t
    → (bytes : List ℕ) × (m (page_of t) ≡ Some bytes) × (number_at 1 0 bytes ≡ first_byte t)
begins_so dims m (chained t) s = (s.directory, s.there, s.spelled.kind)
begins_so dims m (treed t) s =
    let fork = bytes_of_fork dims (m t.page) (record { level = t.level; links = links_of t.row })
    (s.root.fork s.high) in
    (fork.0, fork.1, (fork_spells dims fork.0 (record { level = t.level; links = links_of t.row }) fork.2).head.kind)

-- so tables of both kinds begin in different pages
kinds_apart : (page : Option (List ℕ)) (a b : List ℕ) → page ≡ Some a → page ≡ Some b
    → number_at 1 0 a ≡ directory_kind → number_at 1 0 b ≡ fork_kind → ⊥
kinds_apart page a b is_a is_b at bt =
    let same : Some a ≡ Some b = sym is_a ∙ is_b in
    let bytes : a ≡ b = cc in
    omega (arith, at, bt, ap (number_at 1 0) bytes)

-- one stands at a page
pub one_table : (dims : ℕ) (m : PageMap) (s t : IdTable) → page_of s ≡ page_of t → IdsStand dims m s
    → IdsStand dims m t → s ≡ t
one_table dims m (chained s) (chained t) at a b = ap chained (one_of_chains dims m s t at a b)
one_table dims m (chained s) (treed t) at a b =
    let first = begins_so dims m (chained s) a in
    let second = begins_so dims m (treed t) b in
    absurd (kinds_apart (m t.page) first.0 second.0 (ap m (sym at) ∙ first.1) second.1 first.2 second.2)
one_table dims m (treed s) (chained t) at a b =
    let first = begins_so dims m (treed s) a in
    let second = begins_so dims m (chained t) b in
    absurd (kinds_apart (m t.page) second.0 first.0 second.1 (ap m (sym at) ∙ first.1) second.2 first.2)
one_table dims m (treed s) (treed t) at a b = ap treed (one_of_trees dims m s t at a b)

-- it has each identifier once
pub ids_single : (dims : ℕ) (pages : PageMap) (t : IdTable) (q : ℕ) → IdsStand dims pages t
    → times_in q (entries_of t) ≤ 1
ids_single dims pages (chained t) q s = once_in_all_chains dims pages t q s
ids_single dims pages (treed t) q s = s.single q

-- it has a page for each 28 objects, and a thousand and one more at most
pub pages_of_ids : (dims limit : ℕ) (pages : PageMap) (t : IdTable) → IdsStand dims pages t
    → 28 * sum_over limit (λ n. occurs_in_ids n t) ≤ length (entries_of t) + 28028
pages_of_ids dims limit pages (chained t) s = omega (arith, pages_of_chains dims limit pages t s)
pages_of_ids dims limit pages (treed t) s = omega (arith, few_pages dims limit pages t s)

module _ {B A : Type 0} {m : _} where
  -- one of live pages stands in those given out
  pub ids_given : (dims : ℕ) (cache : PageCache B A m) (t : IdTable) → IdsStand dims (pages cache) t
      → IdsStand dims (given cache) t
  ids_given dims cache (chained t) s = live_table_is_given dims cache t s
  ids_given dims cache (treed t) s = live_table dims cache t s
