-- What a check of a layer finds: a tree and a table of the same objects, on pages of their own.
use Rattle.std.proofs.Common.{Result, Ok, Err, IfErr, IfOk, ◌⊎◌, ◌≡◌, ◌∙◌, ℕ, ◌+◌, ◌<◌, ◌≤◌, ◌==◌, ◌||◌}
use Rattle.std.proofs.Common.{Bool, true, false, cond, eqb, Option, Some, None, IsSome, List, [], ◌∷◌, ◌++◌}
use Rattle.std.proofs.Common.{length, All, refl, sym, ap, subst, ⊎_elim, inl, inr, arith}
use Rattle.std.specs.Prelude.{IsPermutation, is_some}
use Rattle.std.specs.Cmp.{nat_cmp_total}
use Rattle.std.specs.FinMap.{contains_key, entries, entries_sorted, from_entries, get-from_entries}
use Rattle.std.specs.FinMap.{len-entries}
use Rattle.std.specs.List.Sorted.{IsNonDecreasingBy}
use Rattle.std.specs.Ordering.{nat_cmp}
use Rattle.std.proofs.lemmas.Bool.{cases_eq}
use Rattle.std.proofs.lemmas.Bool.Decides.{nat_tests}
use Rattle.std.proofs.lemmas.List.Sorted.{IsPermutation-cons, IsPermutation-sym, IsPermutation-trans}
use Rattle.std.proofs.lemmas.List.Sorted.{length_permutation}
use Rattle.block_bytes.specs.Kinds.{node_kind, untagged_node_kind}
use Rattle.box_math.specs.Bounds.{IsBox}
use Rattle.box_math.specs.Objects.{bounds_of}
use Rattle.bucket_page.specs.Layout.{Entry}
use Rattle.page_file.specs.Fault.{IsDamage, faults_after}
use Rattle.page_file.specs.Layout.{kind_of}
use Rattle.page_file.specs.declared.fault.Fault.{Fault}
use Rattle.page_file.specs.declared.fault.Fault.TheVariants as fault
use Rattle.page_cache.specs.Cache.{given, pages}
use Rattle.page_cache.specs.Calls.{Asks, AsksUntil}
use Rattle.page_cache.specs.declared.cache.PageCache.{PageCache}
use Rattle.tree_node.specs.Nodes.{NodeContent}
use Rattle.tree_node.specs.Trees.{Tree, objects_in, occurs_in}
use Rattle.tree_node.specs.declared.node.Root.{Root}
use Rattle.tree_node.proofs.PositionLemmas.{total-append}
use Rattle.tree_node.proofs.RowLemmas.{occurs_here}
use Rattle.node_page.specs.Checked.{IsCheckedTree, named_pages}
use Rattle.node_bytes.specs.Layout.{IsNodeKind}
use Rattle.node_page.specs.Standing.{PageMap, Stands, node_in}
use Rattle.node_page.proofs.GivenLemmas.{live_tree_is_given, tree_carried}
use Rattle.node_page.proofs.PartLemmas.{none_or_some}
use Rattle.node_bytes.proofs.Reading.{spells as node_spells}
use Rattle.node_page.proofs.StandingLemmas.{one_tree_stands, pages_are_there}
use Rattle.id_table.specs.Checked.{ComesInTable, IsCheckedTable}
use Rattle.id_words.specs.Objects.{kept_in, times_in}
use Rattle.id_words.proofs.ObjectLemmas.{found_is}
use Rattle.id_table.specs.Table.{IdTable, IdsStand, entries_of, objects_of, occurs_in_ids}
use Rattle.id_table.proofs.TableLemmas.{ids_are_other, ids_given, ids_once, ids_single, ids_stay, one_table}
use Rattle.layer_pages.specs.Checked.{AreOfOneLayer, ComesInLayer, IsCheckedLayer, odd_page}
use Rattle.layer_pages.specs.Layers.{IsLayerAt, LayerPages, Objects, part_of_layer}
use Rattle.layer_pages.proofs.ObjectLemmas.{no_objects, one_entry_more, one_order, row_boxes}

-- ---- a table has each identifier once

none_found : (q : ℕ) (es : List Entry) → times_in q es ≡ 0 → kept_in q es ≡ None
none_found q [] none = refl
none_found q (e ∷ es) none = step (eqb e.0 q) (times_in q es) none (none_found q es)
  where
    step : (b : Bool) (n : ℕ) → cond b 1 0 + n ≡ 0 → (n ≡ 0 → kept_in q es ≡ None)
        → cond b (Some e.1) (kept_in q es) ≡ None
    step true n none rest = absurd (omega (arith, none))
    step false n none rest = rest (omega (arith, none))

-- so its objects are the entries of their map
entries_once : (es : List Entry) → ((q : ℕ) → times_in q es ≤ 1)
    → IsPermutation es (entries (from_entries {R = nat_cmp} es))
entries_once [] once = no_objects
entries_once (e ∷ es) once =
    let alone : times_in e.0 es ≡ 0 = omega (arith, once e.0, occurs_here e.0) in
    let rest = entries_once es (λ q. omega (arith, once q)) in
    let absent : contains_key (from_entries {R = nat_cmp} es) e.0 ≡ false =
    ap is_some (get-from_entries nat_cmp_total es e.0 ∙ found_is e.0 es ∙ none_found e.0 es alone) in
    IsPermutation-trans (e ∷ es) (e ∷ entries (from_entries {R = nat_cmp} es))
    (entries (from_entries {R = nat_cmp} (e ∷ es)))
    (IsPermutation-cons e es (entries (from_entries {R = nat_cmp} es)) rest)
    (one_entry_more (from_entries {R = nat_cmp} es) e.0 e.1 absent)

pub table_entries : (dims : ℕ) (pages : PageMap) (t : IdTable) → IdsStand dims pages t
    → IsPermutation (entries_of t) (entries (objects_of t))
table_entries dims pages t stands = entries_once (entries_of t) (λ q. ids_single dims pages t q stands)

-- ---- no page of a tree is one of a table

-- the pages that pass a test
abbrev passing : (List ℕ → Bool) → Option (List ℕ) → Option (List ℕ)
passing test None = None
passing test (Some page) = cond (test page) (Some page) None

passes : (test : List ℕ → Bool) (page : Option (List ℕ)) (bytes : List ℕ) → page ≡ Some bytes
    → test bytes ≡ true → passing test page ≡ Some bytes
passes test page bytes is good = ap (passing test) is ∙ ap (λ (b : Bool). cond b (Some bytes) None) good

abbrev is_node_kind : ℕ → Bool
is_node_kind kind = kind == node_kind || kind == untagged_node_kind

abbrev is_node : List ℕ → Bool
is_node page = is_node_kind (kind_of page)

node_is : (kind : ℕ) → IsNodeKind kind → is_node_kind kind ≡ true
node_is kind (inl is) = grind (arith, nat_tests)
node_is kind (inr is) = grind (arith, nat_tests)

nodes_pass : (dims : ℕ) (page : Option (List ℕ)) (c : NodeContent) → node_in dims page ≡ Some c
    → node_in dims (passing is_node page) ≡ Some c
nodes_pass dims None c is = absurd (cc)
nodes_pass dims (Some page) c is =
    ap (node_in dims)
    (passes is_node (Some page) page refl (node_is (kind_of page) (node_spells dims page c is).head.kind))
    ∙ is

-- a page that passes as a node is one
is_node_page : (page : Option (List ℕ)) (bytes : List ℕ) → page ≡ Some bytes → IsSome (passing is_node page)
    → IsNodeKind (kind_of bytes)
is_node_page page bytes is node = case (is_node_kind (kind_of bytes)) refl
    (subst (λ (p : Option (List ℕ)). IsSome (passing is_node p)) is node)
  where
    of_kind : (kind : ℕ) → is_node_kind kind ≡ true → IsNodeKind kind
    of_kind kind so = ⊎_elim
        (λ (is : kind ≡ node_kind). inl is)
        (λ (other : ¬ (kind ≡ node_kind)). ⊎_elim
        (λ (old : kind ≡ untagged_node_kind). inr old)
        (λ (none : ¬ (kind ≡ untagged_node_kind)). absurd (neither kind other none so))
        (cases_eq kind untagged_node_kind))
        (cases_eq kind node_kind)
      where
        neither : (kind : ℕ) → ¬ (kind ≡ node_kind) → ¬ (kind ≡ untagged_node_kind) → is_node_kind kind ≡ true
            → ⊥
        neither kind other none so = grind (arith, nat_tests)

    case : (b : Bool) → is_node_kind (kind_of bytes) ≡ b → IsSome (cond b (Some bytes) None)
        → IsNodeKind (kind_of bytes)
    case true so some = of_kind (kind_of bytes) so
    case false other some = absurd (cc)

tree_apart : (dims : ℕ) (m : PageMap) (t : Tree) (ids : IdTable) (n : ℕ) → Stands dims m t
    → IdsStand dims m ids → 0 < occurs_in n t → 0 < occurs_in_ids n ids → ⊥
tree_apart dims m t ids n tree table here there =
    let at =
    tree_carried dims m (λ k. passing is_node (m k)) (λ k c is. nodes_pass dims (m k) c is) t.page
    t.level t.row (record { node = tree.root; below = tree.below }) in
    let other = ids_are_other dims m ids n table there in
    other.2
    (is_node_page (m n) other.0 other.1
    (pages_are_there dims (λ k. passing is_node (m k)) t n
    (record { root = at.node; below = at.below; distinct = tree.distinct }) here))

once_in_both : (dims : ℕ) (m : PageMap) (t : Tree) (ids : IdTable) (n : ℕ) → Stands dims m t
    → IdsStand dims m ids → occurs_in n t + occurs_in_ids n ids ≤ 1
once_in_both dims m t ids n tree table = ⊎_elim
    (λ (none : occurs_in n t ≡ 0). omega (arith, none, ids_once dims m ids n table))
    (λ (some : 0 < occurs_in n t). ⊎_elim
    (λ (none : occurs_in_ids n ids ≡ 0). omega (arith, none, tree.distinct n))
    (λ (also : 0 < occurs_in_ids n ids). absurd (tree_apart dims m t ids n tree table some also))
    (none_or_some (occurs_in_ids n ids)))
    (none_or_some (occurs_in n t))

-- ---- a tree and a table that were checked

module _ (dims most : ℕ) (m : PageMap) (root : Root) (ids_root : ℕ) (pairs listed : List Entry)
    (held_pages listed_pages : List ℕ)
    (tree : IsCheckedTree dims most m root.page root.level pairs held_pages)
    (table : IsCheckedTable dims m ids_root listed listed_pages) where
  -- their pages together
  both_pages : (n : ℕ)
      → named_pages (held_pages ++ listed_pages) n ≡ part_of_layer
      (record { tree = tree.tree; ids = table.table }) n
  both_pages n =
      omega (
        arith,
        total-append (λ (page : ℕ). cond (eqb page n) 1 0) held_pages listed_pages,
        tree.pages_are n,
        table.pages_are n,
      )

  -- are a layer where they have the same objects
  pub layer_checked : (count : ℕ) → IsPermutation pairs listed
      → All (λ (object : Entry). IsBox dims (bounds_of object.1)) pairs → length pairs ≡ count
      → IsCheckedLayer dims most m root ids_root count (held_pages ++ listed_pages)
  layer_checked count same boxes many =
      let all = table_entries dims m table.table table.stands in
      let held =
      IsPermutation-trans pairs (entries_of table.table) (entries (objects_of table.table))
      (subst (IsPermutation pairs) table.pairs_are same) all in
      record {
        layer = record { tree = tree.tree; ids = table.table };
        objects = objects_of table.table;
        stands = record {
          tree = record {
            page_is = tree.page_is;
            level_is = tree.level_is;
            stands = tree.stands;
            shape = tree.shape;
          };
          boxes = row_boxes dims most tree.tree.row tree.shape.below
              (subst (All (λ (object : Entry). IsBox dims (bounds_of object.1))) tree.pairs_are boxes);
          ids_root_is = table.page_is;
          ids = table.stands;
          leaves =
              subst (λ (os : List Entry). IsPermutation os (entries (objects_of table.table))) tree.pairs_are
              held;
          table = refl;
          once = λ n. once_in_both dims m tree.tree table.table n tree.stands table.stands;
        };
        count_is = len-entries (objects_of table.table)
            ∙ (let n = length_permutation pairs (entries (objects_of table.table)) held in
            omega (arith, n, many));
        pages_are = both_pages;
      }

  -- where a layer stands there, they are its tree and its table
  module _ (l : LayerPages) (objects : Objects) (is : IsLayerAt dims most m root ids_root l objects) where
    tree_same : tree.tree ≡ l.tree
    tree_same =
        one_tree_stands dims m tree.tree l.tree (tree.page_is ∙ sym is.tree.page_is) tree.stands
        is.tree.stands

    table_same : table.table ≡ l.ids
    table_same = one_table dims m table.table l.ids (table.page_is ∙ sym is.ids_root_is) table.stands is.ids

    pub pairs_there : IsPermutation pairs (entries objects)
    pairs_there =
        subst (λ (os : List Entry). IsPermutation os (entries objects))
        (sym (tree.pairs_are ∙ ap (λ (t : Tree). objects_in t.row) tree_same)) is.leaves

    pub listed_there : IsPermutation listed (entries objects)
    listed_there =
        subst (λ (os : List Entry). IsPermutation os (entries objects))
        (sym (table.pairs_are ∙ ap entries_of table_same))
        (subst (λ (o : Objects). IsPermutation (entries_of l.ids) (entries o)) is.table
        (table_entries dims m l.ids is.ids))

-- ---- lists in the order of identifiers

pub in_order : (objects sorted : List Entry) (all : Objects) → IsPermutation objects sorted
    → IsNonDecreasingBy (λ (o : Entry). o.0) sorted → IsPermutation objects (entries all)
    → sorted ≡ entries all
in_order objects sorted all moved order same =
    one_order sorted (entries all) order (entries_sorted all)
    (IsPermutation-trans sorted objects (entries all) (IsPermutation-sym objects sorted moved) same)

-- ---- in the pages given out

module _ {B A : Type 0} {m : _} where
  -- a layer of live pages stands in those given out
  pub layer_given : (dims most : ℕ) (cache : PageCache B A m) (root : Root) (ids_root : ℕ) (l : LayerPages)
      (objects : Objects) → IsLayerAt dims most (pages cache) root ids_root l objects
      → IsLayerAt dims most (given cache) root ids_root l objects
  layer_given dims most cache root ids_root l objects is =
      let at = live_tree_is_given dims cache l.tree l.tree.page l.tree.level refl refl is.tree.stands in
      record {
        tree = record {
          page_is = is.tree.page_is;
          level_is = is.tree.level_is;
          stands = record { root = at.node; below = at.below; distinct = is.tree.stands.distinct };
          shape = is.tree.shape;
        };
        boxes = is.boxes;
        ids_root_is = is.ids_root_is;
        ids = ids_given dims cache l.ids is.ids;
        leaves = is.leaves;
        table = is.table;
        once = is.once;
      }

-- ---- a check, call after call

pub if_err : {T E : Type 0} (r : Result T E) (P Q : E → Type 0) → ((f : E) → P f → Q f) → IfErr r P → IfErr r Q
if_err (Ok x) P Q weaker h = tt
if_err (Err e) P Q weaker h = weaker e h

-- a table that was checked in equal pages
pub table_on : (dims : ℕ) (old new : PageMap) (ids_root : ℕ) (listed : List Entry) (list : List ℕ)
    → ((n : ℕ) → new n ≡ old n) → IsCheckedTable dims old ids_root listed list
    → IsCheckedTable dims new ids_root listed list
table_on dims old new ids_root listed list same table = record {
  table = table.table;
  page_is = table.page_is;
  stands = ids_stay dims old new table.table (λ n p. same n) table.stands;
  pairs_are = table.pairs_are;
  pages_are = table.pages_are;
}

module _ (dims most : ℕ) (m : PageMap) (root : Root) (ids_root count : ℕ) (held listed : List Entry)
    (held_pages listed_pages : List ℕ)
    (tree : IsCheckedTree dims most m root.page root.level held held_pages)
    (table : IsCheckedTable dims m ids_root listed listed_pages) where
  -- what was joined is a layer
  pub all_checked : {V : Type 0} (r : Result V Fault) (list_of : V → List ℕ)
      → IfOk r (λ v. AreOfOneLayer dims count held listed held_pages listed_pages (list_of v))
      → IfOk r (λ v. IsCheckedLayer dims most m root ids_root count (list_of v))
  all_checked (Ok v) list_of a = subst (IsCheckedLayer dims most m root ids_root count) (sym a.pages_are)
      (layer_checked dims most m root ids_root held listed held_pages listed_pages tree table count a.same
      a.boxes a.many)
  all_checked (Err f) list_of a = tt

-- what is damaged of a tree and a table that are no layer, is of the layer
pub comes_oddly : {T : Type 0} (dims : ℕ) (m : PageMap) (root : Root) (ids_root count : ℕ) (held : List Entry)
    (result : Result T Fault)
    → IfErr result (λ f. (f ≡ fault.Memory) ⊎ (f ≡ fault.Damaged (odd_page ids_root count held)))
    → IfErr result (λ f. (n : ℕ) → f ≡ fault.Damaged n → ComesInLayer dims m root ids_root n)
comes_oddly dims m root ids_root count held (Ok x) odd = tt
comes_oddly dims m root ids_root count held (Err f) odd = λ n is. ⊎_elim
    (λ (memory : f ≡ fault.Memory). absurd (let bad : fault.Memory ≡ fault.Damaged n = sym memory ∙ is in cc))
    (λ (damaged : f ≡ fault.Damaged (odd_page ids_root count held)).
    let same : n ≡ odd_page ids_root count held =
    (let both : fault.Damaged n ≡ fault.Damaged (odd_page ids_root count held) = sym is ∙ damaged in cc) in
    by_count n (length held == count) same)
    odd
  where
    by_count : (n : ℕ) (t : Bool) → n ≡ cond t ids_root 2 → ComesInLayer dims m root ids_root n
    by_count n true is = inr (inr (inl is))
    by_count n false is = inl is

-- pages that agree lead to the same
pub comes_on : (dims : ℕ) (m m' : PageMap) (ids_root n : ℕ) → ((k : ℕ) → m k ≡ m' k)
    → ComesInTable dims m ids_root n → ComesInTable dims m' ids_root n
comes_on dims m m' ids_root n same comes =
    subst (λ (p : PageMap). ComesInTable dims p ids_root n) (λ i k. same k i) comes

module _ {B A : Type 0} {m : _} where
  -- an answer that wants no page
  pub quiet_asks : {T : Type 0} (old now : PageCache B A m) (result : Result T Fault)
      → IfErr result (λ f. (f ≡ fault.Memory) ⊎ IsDamage f) → AsksUntil old now None → Asks old now result
  quiet_asks old now (Ok x) either a = a
  quiet_asks old now (Err f) either a =
      record {
        gate = a.gate;
        map = a.map;
        capacity = a.capacity;
        looks = a.looks;
        touched = a.touched;
        faults = a.faults ∙ sym (quiet _);
      }
    where
      quiet : (n : ℕ) → faults_after f n ≡ n
      quiet n =
          ⊎_elim (λ (is : f ≡ fault.Memory). ap (λ (e : Fault). faults_after e n) is)
          (λ (is : IsDamage f). ap (λ (e : Fault). faults_after e n) is.1) either
