-- The table is filled, and then the old tree is freed.
use Rattle.std.proofs.Common.{◌≡◌, ℕ, ◌+◌, List, None, length, ap, subst, inl, inr, arith, ⊎_elim}
use Rattle.std.specs.FinMap as map
use Rattle.std.specs.FinMap.{len-empty}
use Rattle.std.specs.Ordering.{nat_cmp}
use Rattle.box_math.specs.Objects.{Object}
use Rattle.std.specs.Prelude.{IsPermutation}
use Rattle.std.proofs.lemmas.List.Sorted.{length_permutation}
use Rattle.tree_node.specs.declared.node.Entry.{Entry as Leaf}
use Rattle.id_words.specs.Objects.{pairs_in}
use Rattle.page_cache.specs.Cache.{Grows, pages}
use Rattle.page_cache.specs.Calls.{changes_and_refuses, changes_in_turn}
use Rattle.node_page.proofs.NodeLemmas.{at_error}
use Rattle.tree_node.specs.declared.node.Root.{Root}
use Rattle.node_page.specs.Faults.{IsChangeFault, IsNoDamage}
use Rattle.node_page.specs.Standing.{PageMap}
use Rattle.id_table.specs.Changes.{most_filled_pages}
use Rattle.id_table.specs.Table.{objects_of}
use Rattle.layer_pages.specs.Layers.{IsLayerAt, LayerPages, Objects}
use Rattle.layer_pages.proofs.LayerLemmas.{root_of}
use Rattle.layer_pages.proofs.LoadLemmas.{all_new, listed_again, table_left, tree_still}
use Rattle.layer_pages.proofs.loading.put_ids.Goals as goal

pub returns-in_err-fill-clause-faults : goal.returns-in_err-fill-clause-faults
returns-in_err-fill-clause-faults g c = λ sound l most all is same.
    let sorted = pairs_in c.fill.new.entries in
    let fresh =
    all_new g.row.D most (pages c.args.cache.now) c.args.root c.args.ids_root l is sorted all
    (listed_again _ c.fill.new.entries all c.fill.ensures.same same) in
    at_error c.from_residual.result c.in_err-fill.field-0.0
    (IsNoDamage c.fill.new.cache) c.from_residual.ensures.1
    (c.in_err-fill.ensures.faults sound l.ids is.ids_root_is is.ids fresh)

pub returns-clause-changes : goal.returns-clause-changes
returns-clause-changes g c =
    changes_in_turn c.args.cache.now c.fill.new.cache c.free_tree.new.cache None
    c.in_ok-fill.ensures.changes c.in_ok-free_tree.ensures.changes

pub returns-clause-sound : goal.returns-clause-sound
returns-clause-sound g c = λ sound l most all is same.
    let m = pages c.args.cache.now in
    let sorted = pairs_in c.fill.new.entries in
    let still = listed_again _ c.fill.new.entries all c.fill.ensures.same same in
    let fresh = all_new g.row.D most m c.args.root c.args.ids_root l is sorted all still in
    let filled = c.in_ok-fill.ensures.filled sound l.ids is.ids_root_is is.ids fresh in
    c.free_tree.ensures.sound (c.fill.ensures.sound sound l.ids is.ids_root_is is.ids fresh) l.tree
    (root_of g.row.D most m c.args.root c.args.ids_root l map.empty is)
    (tree_still g.row.D most m c.args.root c.args.ids_root l is sorted all still (pages c.fill.new.cache)
    filled)

pub returns-clause-put : goal.returns-clause-put
returns-clause-put g c = λ sound l most all is same.
    let m = pages c.args.cache.now in
    let mid = pages c.fill.new.cache in
    let sorted = pairs_in c.fill.new.entries in
    let still = listed_again _ c.fill.new.entries all c.fill.ensures.same same in
    let fresh = all_new g.row.D most m c.args.root c.args.ids_root l is sorted all still in
    let filled = c.in_ok-fill.ensures.filled sound l.ids is.ids_root_is is.ids fresh in
    table_left g.row.D most m c.args.root c.args.ids_root l is sorted all still mid filled
    (pages c.free_tree.new.cache)
    (c.in_ok-free_tree.ensures.freed (c.fill.ensures.sound sound l.ids is.ids_root_is is.ids fresh) l.tree
    (root_of g.row.D most m c.args.root c.args.ids_root l map.empty is)
    (tree_still g.row.D most m c.args.root c.args.ids_root l is sorted all still mid filled))

pub returns-in_err-free_tree-clause-changes : goal.returns-in_err-free_tree-clause-changes
returns-in_err-free_tree-clause-changes g c =
    changes_and_refuses c.args.cache.now c.fill.new.cache c.free_tree.new.cache
    c.in_err-free_tree.field-0.0 c.from_residual-in_err-free_tree.result c.from_residual-in_err-free_tree.ensures.1
    c.in_ok-fill.ensures.changes c.in_err-free_tree.ensures.changes

pub returns-in_err-free_tree-clause-faults : goal.returns-in_err-free_tree-clause-faults
returns-in_err-free_tree-clause-faults g c = λ sound l most all is same.
    let m = pages c.args.cache.now in
    let sorted = pairs_in c.fill.new.entries in
    let still = listed_again _ c.fill.new.entries all c.fill.ensures.same same in
    let fresh = all_new g.row.D most m c.args.root c.args.ids_root l is sorted all still in
    let filled = c.in_ok-fill.ensures.filled sound l.ids is.ids_root_is is.ids fresh in
    at_error c.from_residual-in_err-free_tree.result c.in_err-free_tree.field-0.0 (IsNoDamage c.free_tree.new.cache)
    c.from_residual-in_err-free_tree.ensures.1
    (inl
    (c.in_err-free_tree.ensures.faults (c.fill.ensures.sound sound l.ids is.ids_root_is is.ids fresh) l.tree
    (root_of g.row.D most m c.args.root c.args.ids_root l map.empty is)
    (tree_still g.row.D most m c.args.root c.args.ids_root l is sorted all still (pages c.fill.new.cache)
    filled) c.requires.root.page.0))

-- the table had no object, so it has as many as it took
as_many : (dims most : ℕ) (m : PageMap) (root : Root) (ids_root : ℕ) (l : LayerPages)
    (old sorted : List (Leaf dims))
    → IsLayerAt dims most m root ids_root l map.empty → IsPermutation old sorted
    → map.len (objects_of l.ids) + length sorted ≡ length old
as_many dims most m root ids_root l old sorted is same =
    omega (
      arith,
      ap (λ (o : Objects). map.len o) is.table,
      len-empty nat_cmp Object,
      length_permutation old sorted same,
    )

pub returns-in_err-fill-clause-grows : goal.returns-in_err-fill-clause-grows
returns-in_err-fill-clause-grows g c = λ sound l most all is same.
    let m = pages c.args.cache.now in
    let sorted = pairs_in c.fill.new.entries in
    let fresh = all_new g.row.D most m c.args.root c.args.ids_root l is sorted all
    (listed_again _ c.fill.new.entries all c.fill.ensures.same same) in
    subst (λ (n : ℕ). Grows (most_filled_pages n) c.args.cache.now c.fill.new.cache)
    (as_many g.row.D most m c.args.root c.args.ids_root l _ c.fill.new.entries is c.fill.ensures.same)
    (c.fill.ensures.grows_few sound l.ids is.ids_root_is is.ids fresh)

pub returns-clause-grows : goal.returns-clause-grows
returns-clause-grows g c = λ sound l most all is same.
    let m = pages c.args.cache.now in
    let sorted = pairs_in c.fill.new.entries in
    let fresh = all_new g.row.D most m c.args.root c.args.ids_root l is sorted all
    (listed_again _ c.fill.new.entries all c.fill.ensures.same same) in
    let filled =
    subst (λ (n : ℕ). Grows (most_filled_pages n) c.args.cache.now c.fill.new.cache)
    (as_many g.row.D most m c.args.root c.args.ids_root l _ c.fill.new.entries is c.fill.ensures.same)
    (c.fill.ensures.grows_few sound l.ids is.ids_root_is is.ids fresh) in
    omega (arith, filled, c.free_tree.ensures.grows)

pub returns-in_err-free_tree-clause-grows : goal.returns-in_err-free_tree-clause-grows
returns-in_err-free_tree-clause-grows g c = λ sound l most all is same.
    let m = pages c.args.cache.now in
    let sorted = pairs_in c.fill.new.entries in
    let fresh = all_new g.row.D most m c.args.root c.args.ids_root l is sorted all
    (listed_again _ c.fill.new.entries all c.fill.ensures.same same) in
    let filled =
    subst (λ (n : ℕ). Grows (most_filled_pages n) c.args.cache.now c.fill.new.cache)
    (as_many g.row.D most m c.args.root c.args.ids_root l _ c.fill.new.entries is c.fill.ensures.same)
    (c.fill.ensures.grows_few sound l.ids is.ids_root_is is.ids fresh) in
    omega (arith, filled, c.free_tree.ensures.grows)

pub returns-in_err-fill-clause-other_faults : goal.returns-in_err-fill-clause-other_faults
returns-in_err-fill-clause-other_faults g c =
    at_error c.from_residual.result c.in_err-fill.field-0.0 (IsChangeFault c.fill.new.cache) c.from_residual.ensures.1
    (⊎_elim (λ quiet. ⊎_elim inl (λ full. inr (inl full)) quiet) (λ damaged. inr (inr damaged))
    c.in_err-fill.ensures.other_faults)

pub returns-in_err-free_tree-clause-other_faults : goal.returns-in_err-free_tree-clause-other_faults
returns-in_err-free_tree-clause-other_faults g c =
    at_error c.from_residual-in_err-free_tree.result c.in_err-free_tree.field-0.0 (IsChangeFault c.free_tree.new.cache)
    c.from_residual-in_err-free_tree.ensures.1
    (⊎_elim inl (λ damaged. inr (inr damaged)) c.in_err-free_tree.ensures.other_faults)
