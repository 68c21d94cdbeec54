-- The pages in use and the free ones, listed together.
use Rattle.std.proofs.Common.{◌≡◌, ◌∙◌, ℕ, ◌+◌, ◌<◌, ◌≤◌, Bool, true, false, ◌||◌, cond, eqb, List, [], ◌∷◌}
use Rattle.std.proofs.Common.{◌++◌, map, refl, sym, ap, subst, arith, ⊎_elim}
use Rattle.std.specs.Prelude.{IsSome}
use Rattle.std.specs.List.{AllByRecursion, IsDistinct}
use Rattle.std.specs.Set.{is_member}
use Rattle.std.proofs.lemmas.Bool.{cases_eq}
use Rattle.std.proofs.lemmas.Bool.Decides.{nat_tests}
use Rattle.catalog_page.specs.Layout.{Record}
use Rattle.id_table.specs.Table.{IdTable, occurs_in_ids}
use Rattle.id_table.proofs.TableLemmas.{one_table}
use Rattle.layer_pages.specs.Layers.{IsLayerAt}
use Rattle.layer_pages.proofs.LayerLemmas.{pages_of_a_layer}
use Rattle.node_page.specs.Checked.{named_pages}
use Rattle.node_page.specs.Parts.{IsAllOf}
use Rattle.node_page.specs.Standing.{PageMap}
use Rattle.node_page.proofs.PartLemmas.{all_of_same, none_or_some}
use Rattle.node_page.proofs.StandingLemmas.{one_tree_stands}
use Rattle.node_page.proofs.VisitLemmas.{times_more}
use Rattle.page_cache.specs.Cache.{IsLive, IsPageMap, blocks_behind, free_of, next_of, pages, version_of}
use Rattle.page_cache.specs.Laws.{a_live_page_was_given_out, a_page_is_live_or_free, free_pages_are_distinct}
use Rattle.page_cache.specs.Laws.{the_catalog_is_live}
use Rattle.page_cache.specs.declared.cache.PageCache.{PageCache}
use Rattle.page_file.specs.Chains.{chain_within}
use Rattle.page_file.specs.File.{header_of}
use Rattle.page_file.specs.Live.{lives}
use Rattle.tree_node.specs.Trees.{Tree, occurs_in}
use Rattle.live_layers.specs.Checked.{AddsLayers, FindsLayers, NamesEach}
use Rattle.live_layers.specs.Layers.{LayerStands, LayersStand, Reading, in_use, of_catalog, of_layer}
use Rattle.live_layers.specs.Layers.{of_layers, root_of, row_of}
use Rattle.live_layers.proofs.OnceLemmas.{here_once, not_here}

-- ---- how often a list has a page, and whether it does

other : (a b : ℕ) → ¬ (a ≡ b) → eqb b a ≡ false
other a b differs = grind (arith, nat_tests)

not_same : (a b : ℕ) → eqb a b ≡ false → ¬ (a ≡ b)
not_same a b e = grind (arith, nat_tests)

or_false : (a b : Bool) → (a || b) ≡ false → (a ≡ false) × (b ≡ false)
or_false true b e = absurd (cc)
or_false false b e = (refl, e)

none_listed : (list : List ℕ) (n : ℕ) → is_member eqb list n ≡ false → named_pages list n ≡ 0
none_listed [] n e = omega arith
none_listed (x ∷ xs) n e =
    let both = or_false (eqb n x) (is_member eqb xs n) e in
    omega (arith, not_here x n (λ (is : x ≡ n). not_same n x both.0 (sym is)), none_listed xs n both.1)

pub some_listed : (list : List ℕ) (n : ℕ) → is_member eqb list n ≡ true → 0 < named_pages list n
some_listed [] n e = absurd (cc)
some_listed (x ∷ xs) n e = ⊎_elim
    (λ (is : x ≡ n). omega (arith, here_once x n is))
    (λ (differs : ¬ (x ≡ n)).
    let later : is_member eqb xs n ≡ true =
    sym (ap (λ (b : Bool). b || is_member eqb xs n) (other x n differs)) ∙ e in
    omega (arith, some_listed xs n later))
    (cases_eq x n)

none_after : (n : ℕ) (list : List ℕ) → AllByRecursion (λ y. eqb n y ≡ false) list → named_pages list n ≡ 0
none_after n [] all = omega arith
none_after n (x ∷ xs) all =
    omega (arith, not_here x n (λ (is : x ≡ n). not_same n x all.0 (sym is)), none_after n xs all.1)

once_listed : (list : List ℕ) (n : ℕ) → IsDistinct eqb list → named_pages list n ≤ 1
unfolding IsDistinct
once_listed [] n distinct = omega arith
once_listed (x ∷ xs) n distinct = ⊎_elim
    (λ (is : x ≡ n).
    let none : named_pages xs n ≡ 0 =
    none_after n xs (subst (λ (k : ℕ). AllByRecursion (λ y. eqb k y ≡ false) xs) is distinct.0) in
    omega (arith, here_once x n is, none))
    (λ (differs : ¬ (x ≡ n)). omega (arith, not_here x n differs, once_listed xs n distinct.1))
    (cases_eq x n)

is_listed : (list : List ℕ) (n : ℕ) → 0 < named_pages list n → is_member eqb list n ≡ true
is_listed list n some = case (is_member eqb list n) refl
  where
    case : (b : Bool) → is_member eqb list n ≡ b → b ≡ true
    case true e = refl
    case false e = absurd (omega (arith, some, none_listed list n e))

-- ---- the pages of layers

-- each is live
layers_live : (pages : PageMap) (hs : List Reading) (n : ℕ) → LayersStand pages hs → 0 < of_layers hs n
    → IsSome (pages n)
layers_live pages [] n stand some = absurd (omega (arith, some))
layers_live pages (h ∷ hs) n stand some = ⊎_elim
    (λ (none : of_layer h n ≡ 0). layers_live pages hs n stand.1 (omega (arith, some, none)))
    (λ (here : 0 < of_layer h n). pages_of_a_layer h.row.dims h.row.fanout pages (root_of h.row)
    h.row.ids_root h.pages h.layer.objects stand.0.at n here)
    (none_or_some (of_layer h n))

-- where two are read from one record, they are the same
same_parts : (pages : PageMap) (h k : Reading) (n : ℕ) → h.row ≡ k.row → LayerStands pages h
    → LayerStands pages k → of_layer h n ≡ of_layer k n
same_parts pages h k n row a b =
    let r = k.row in
    let at =
    subst (λ (x : Record). IsLayerAt x.dims x.fanout pages (root_of x) x.ids_root h.pages
    h.layer.objects) row a.at in
    let trees : h.pages.tree ≡ k.pages.tree =
    one_tree_stands r.dims pages h.pages.tree k.pages.tree (at.tree.page_is ∙ sym b.at.tree.page_is)
    at.tree.stands b.at.tree.stands in
    let tables : h.pages.ids ≡ k.pages.ids =
    one_table r.dims pages h.pages.ids k.pages.ids (at.ids_root_is ∙ sym b.at.ids_root_is) at.ids
    b.at.ids in
    omega (arith, ap (λ (t : Tree). occurs_in n t) trees, ap (λ (t : IdTable). occurs_in_ids n t) tables)

pub same_layers_parts : (pages : PageMap) (hs ks : List Reading) (n : ℕ) → map row_of hs ≡ map row_of ks
    → LayersStand pages hs → LayersStand pages ks → of_layers hs n ≡ of_layers ks n
same_layers_parts pages [] [] n rows a b = refl
same_layers_parts pages [] (k ∷ ks) n rows a b = absurd (cc)
same_layers_parts pages (h ∷ hs) [] n rows a b = absurd (cc)
same_layers_parts pages (h ∷ hs) (k ∷ ks) n rows a b =
    let first : h.row ≡ k.row = cc in
    let rest : map row_of hs ≡ map row_of ks = cc in
    omega (arith, same_parts pages h k n first a.0 b.0, same_layers_parts pages hs ks n rest a.1 b.1)

-- ---- all pages

the_catalog : (n : ℕ) → 0 < of_catalog n → 2 ≡ n
the_catalog n some = grind (arith, nat_tests)

module _ {D A : Type 0} {m : _} (cache : PageCache D A m) (sound : IsPageMap cache) (hs : List Reading)
    (stand : LayersStand (pages cache) hs) (found : List ℕ)
    (listed : (n : ℕ) → named_pages found n ≡ named_pages (free_of cache) n + in_use hs n) where
  -- a live page is not free
  not_free : (n : ℕ) → IsLive cache n → named_pages (free_of cache) n ≡ 0
  not_free n live =
      none_listed (free_of cache) n (lives (blocks_behind cache) (header_of cache.file) n live).not_free

  used_live : (n : ℕ) → 0 < in_use hs n → IsLive cache n
  used_live n some = ⊎_elim
      (λ (none : of_catalog n ≡ 0). layers_live (pages cache) hs n stand (omega (arith, some, none)))
      (λ (here : 0 < of_catalog n). subst (λ (k : ℕ). IsLive cache k) (the_catalog n here)
      (the_catalog_is_live cache))
      (none_or_some (of_catalog n))

  -- where each page given out is listed once, the live ones are in use, each once
  pub each_is_used : NamesEach (next_of cache) found → IsAllOf (pages cache) (in_use hs)
  each_is_used each = record {
    once = λ n. ⊎_elim
        (λ (none : named_pages found n ≡ 0). omega (arith, none, listed n))
        (λ (some : 0 < named_pages found n). let given = each.given n some in
        omega (arith, each.once n given.0 given.1, listed n))
        (none_or_some (named_pages found n));
    live = λ n some. used_live n some;
    used = λ n live.
        let given = a_live_page_was_given_out cache n live in
        omega (arith, each.once n given.0 given.1, listed n, not_free n live);
  }

  -- and the other way
  pub used_is_each : IsAllOf (pages cache) (in_use hs) → NamesEach (next_of cache) found
  used_is_each all = record {
    once = λ n low below. ⊎_elim
        (λ (live : IsLive cache n). omega (arith, listed n, not_free n live, all.once n, all.used n live))
        (λ (free : is_member eqb (free_of cache) n ≡ true).
        let some = some_listed (free_of cache) n free in
        let once = once_listed (free_of cache) n (free_pages_are_distinct cache sound) in
        let unused : in_use hs n ≡ 0 = ⊎_elim
        (λ (none : in_use hs n ≡ 0). none)
        (λ (used : 0 < in_use hs n). absurd (omega (arith, some, not_free n (used_live n used))))
        (none_or_some (in_use hs n)) in
        omega (arith, listed n, some, once, unused))
        (a_page_is_live_or_free cache n low below);
    given = λ n some. ⊎_elim
        (λ (none : named_pages (free_of cache) n ≡ 0).
        let given = a_live_page_was_given_out cache n (used_live n (omega (arith, some, none, listed n))) in
        (given.0, given.1))
        (λ (free : 0 < named_pages (free_of cache) n).
        let within =
        chain_within (blocks_behind cache) (header_of cache.file).next (header_of cache.file).count
        (header_of cache.file).first sound.free n (is_listed (free_of cache) n free) in
        (omega (arith, within.0), within.1))
        (none_or_some (named_pages (free_of cache) n));
  }

-- ---- a check of pages

module _ {D A : Type 0} {m : _} (cache : PageCache D A m) (sound : IsPageMap cache) (records : List Record)
    (before list found : List ℕ) (next : ℕ)
    (begun : before ≡ free_of cache ++ 2 ∷ []) (adds : AddsLayers (pages cache) (version_of cache) records before list)
    (same : found ≡ list) (number : next ≡ next_of cache) where
  all_listed : (n : ℕ) → named_pages found n ≡ named_pages (free_of cache) n + in_use adds.layers n
  all_listed n =
      let first : named_pages before n ≡ named_pages (free_of cache) n + cond (eqb 2 n) 1 0 =
      ap (λ (xs : List ℕ). named_pages xs n) begun ∙ times_more n 2 (free_of cache) in
      omega (arith, ap (λ (xs : List ℕ). named_pages xs n) same, adds.listed n, first)

  -- what was listed are the layers of the records
  pub layers_found : NamesEach next found → FindsLayers (pages cache) (version_of cache) records
  layers_found each = record {
    layers = adds.layers;
    rows = adds.rows;
    stand = adds.stand;
    allowed = adds.allowed;
    used = each_is_used cache sound adds.layers adds.stand found all_listed
        (subst (λ (k : ℕ). NamesEach k found) number each);
  }

  -- where all pages are in use, each is listed
  pub pages_listed : (hs : List Reading) → map row_of hs ≡ records → LayersStand (pages cache) hs
      → IsAllOf (pages cache) (in_use hs) → NamesEach next found
  pages_listed hs rows stand all =
      let used =
      all_of_same (pages cache) (in_use hs) (in_use adds.layers)
      (λ n. omega
      (arith, same_layers_parts (pages cache) hs adds.layers n (rows ∙ sym adds.rows) stand adds.stand))
      all in
      subst (λ (k : ℕ). NamesEach k found) (sym number)
      (used_is_each cache sound adds.layers adds.stand found all_listed used)
