-- A packed tree, and then the table.
use Rattle.std.proofs.Common.{List, None, All, sym, subst, refl, arith}
use Rattle.std.proofs.lemmas.List.{length-map}
use Rattle.std.proofs.lemmas.List.Sorted.{IsPermutation-trans, length_permutation}
use Rattle.box_math.specs.Bounds.{IsBox}
use Rattle.page_cache.specs.Cache.{pages}
use Rattle.page_cache.specs.Calls.{changes_and_refuses, changes_in_turn}
use Rattle.tree_node.specs.Nodes.{Item, item_of, items_of}
use Rattle.bulk_load.specs.Loads.{Loads}
use Rattle.node_page.proofs.NodeLemmas.{at_error}
use Rattle.node_page.specs.Faults.{IsChangeFault, IsNoDamage}
use Rattle.id_words.specs.Objects.{pairs_in}
use Rattle.layer_pages.proofs.LoadLemmas.{all_boxes, as_items, layer_loaded, layer_still}
use Rattle.layer_pages.proofs.LoadLemmas.{listed_again, low_root}
use Rattle.layer_pages.proofs.loading.load.Goals as goal

pub returns-then-not-can_be_root-clause-faults : goal.returns-then-not-can_be_root-clause-faults
returns-then-not-can_be_root-clause-faults g c =
    λ sound l most all is same. absurd (c.if-not-can_be_root.ensures.no refl
    (low_root c.args.cache.now c.load.new.cache g.row.D c.args.layer.fanout.most
    (items_of c.args.entries.now)
    c.in_ok-after.after (c.in_ok-after.ensures.loaded sound)))

pub returns-clause-changes : goal.returns-clause-changes
returns-clause-changes g c =
    changes_in_turn c.args.cache.now c.load.new.cache c.put_ids.new.cache None
    c.in_ok-after.ensures.changes c.in_ok-put_ids.ensures.changes

pub returns-clause-sound : goal.returns-clause-sound
returns-clause-sound g c = λ sound l most all is same.
    let loads =
    subst (λ (xs : List Item). Loads g.row.D c.args.layer.fanout.most (pages c.args.cache.now)
    (pages c.load.new.cache) xs c.in_ok-after.after) (sym (as_items (items_of c.args.entries.now)))
    (c.in_ok-after.ensures.loaded sound) in
    c.in_ok-put_ids.ensures.sound (c.load.ensures.sound sound) l most all
    (layer_still g.row.D c.args.layer.fanout.most most (pages c.args.cache.now) (pages c.load.new.cache)
    c.args.layer.root
    c.in_ok-after.after c.args.layer.ids_root l is (pairs_in c.args.entries.now) loads)
    (listed_again c.args.entries.now c.load.new.objects all c.load.ensures.all same)

pub returns-clause-loaded : goal.returns-clause-loaded
returns-clause-loaded g c = λ sound l most all is same.
    let objects = pairs_in c.args.entries.now in
    let m = pages c.args.cache.now in
    let mid = pages c.load.new.cache in
    let after = c.in_ok-after.after in
    let items = items_of c.args.entries.now in
    let loads =
    subst (λ (xs : List Item). Loads g.row.D c.args.layer.fanout.most m mid xs after) (sym (as_items items))
    (c.in_ok-after.ensures.loaded sound) in
    let boxes =
    subst (λ (xs : List Item). All (λ (item : Item). IsBox g.row.D item.bounds) xs) (sym (as_items items))
    (all_boxes g.row.D items (λ i below. c.see_boxes.ensures i
    (omega (arith, below, length-map c.args.entries.now item_of)))) in
    let still =
    layer_still g.row.D c.args.layer.fanout.most most m mid c.args.layer.root after c.args.layer.ids_root l is
    objects loads in
    layer_loaded g.row.D c.args.layer.fanout.most most m mid c.args.layer.root after c.args.layer.ids_root l
    is
    objects loads
    (pages c.put_ids.new.cache) all same boxes
    (c.in_ok-put_ids.ensures.put (c.load.ensures.sound sound) l most all still
    (listed_again c.args.entries.now c.load.new.objects all c.load.ensures.all same))

pub returns-in_err-put_ids-clause-changes : goal.returns-in_err-put_ids-clause-changes
returns-in_err-put_ids-clause-changes g c =
    changes_and_refuses c.args.cache.now c.load.new.cache c.put_ids.new.cache
    c.in_err-put_ids.field-0.0 c.from_residual-in_err-put_ids.result c.from_residual-in_err-put_ids.ensures.1
    c.in_ok-after.ensures.changes c.in_err-put_ids.ensures.changes

pub returns-in_err-put_ids-clause-faults : goal.returns-in_err-put_ids-clause-faults
returns-in_err-put_ids-clause-faults g c = λ sound l most all is same.
    let loads =
    subst (λ (xs : List Item). Loads g.row.D c.args.layer.fanout.most (pages c.args.cache.now)
    (pages c.load.new.cache) xs c.in_ok-after.after) (sym (as_items (items_of c.args.entries.now)))
    (c.in_ok-after.ensures.loaded sound) in
    at_error c.from_residual-in_err-put_ids.result c.in_err-put_ids.field-0.0 (IsNoDamage c.put_ids.new.cache)
    c.from_residual-in_err-put_ids.ensures.1
    (c.in_err-put_ids.ensures.faults (c.load.ensures.sound sound) l most all
    (layer_still g.row.D c.args.layer.fanout.most most (pages c.args.cache.now) (pages c.load.new.cache)
    c.args.layer.root
    c.in_ok-after.after c.args.layer.ids_root l is (pairs_in c.args.entries.now) loads)
    (listed_again c.args.entries.now c.load.new.objects all c.load.ensures.all same))

pub returns-in_err-after-clause-grows : goal.returns-in_err-after-clause-grows
returns-in_err-after-clause-grows g c = λ sound l most all is same. omega (arith, c.load.ensures.grows)

pub returns-then-not-can_be_root-clause-grows : goal.returns-then-not-can_be_root-clause-grows
returns-then-not-can_be_root-clause-grows g c = λ sound l most all is same.
    omega (arith, c.load.ensures.grows)

pub returns-clause-grows : goal.returns-clause-grows
returns-clause-grows g c = λ sound l most all is same.
    let loads =
    subst (λ (xs : List Item). Loads g.row.D c.args.layer.fanout.most (pages c.args.cache.now)
    (pages c.load.new.cache) xs c.in_ok-after.after) (sym (as_items (items_of c.args.entries.now)))
    (c.in_ok-after.ensures.loaded sound) in
    omega (
      arith,
      c.load.ensures.grows,
      length_permutation c.args.entries.now c.load.new.objects c.load.ensures.all,
      c.put_ids.ensures.grows (c.load.ensures.sound sound) l most all
          (layer_still g.row.D c.args.layer.fanout.most most (pages c.args.cache.now) (pages c.load.new.cache)
          c.args.layer.root c.in_ok-after.after c.args.layer.ids_root l is (pairs_in c.args.entries.now) loads)
          (listed_again c.args.entries.now c.load.new.objects all c.load.ensures.all same),
    )

pub returns-in_err-put_ids-clause-grows : goal.returns-in_err-put_ids-clause-grows
returns-in_err-put_ids-clause-grows g c = λ sound l most all is same.
    let loads =
    subst (λ (xs : List Item). Loads g.row.D c.args.layer.fanout.most (pages c.args.cache.now)
    (pages c.load.new.cache) xs c.in_ok-after.after) (sym (as_items (items_of c.args.entries.now)))
    (c.in_ok-after.ensures.loaded sound) in
    omega (
      arith,
      c.load.ensures.grows,
      length_permutation c.args.entries.now c.load.new.objects c.load.ensures.all,
      c.put_ids.ensures.grows (c.load.ensures.sound sound) l most all
          (layer_still g.row.D c.args.layer.fanout.most most (pages c.args.cache.now) (pages c.load.new.cache)
          c.args.layer.root c.in_ok-after.after c.args.layer.ids_root l is (pairs_in c.args.entries.now) loads)
          (listed_again c.args.entries.now c.load.new.objects all c.load.ensures.all same),
    )

pub returns-in_err-put_ids-clause-same : goal.returns-in_err-put_ids-clause-same
returns-in_err-put_ids-clause-same g c =
    IsPermutation-trans c.args.entries.now c.load.new.objects c.put_ids.new.entries c.load.ensures.all
    c.in_err-put_ids.ensures.same

pub returns-clause-same : goal.returns-clause-same
returns-clause-same g c =
    IsPermutation-trans c.args.entries.now c.load.new.objects c.put_ids.new.entries c.load.ensures.all
    c.in_ok-put_ids.ensures.same

pub returns-in_err-after-clause-other_faults : goal.returns-in_err-after-clause-other_faults
returns-in_err-after-clause-other_faults g c =
    at_error c.from_residual.result c.in_err-after.field-0.0 (IsChangeFault c.load.new.cache) c.from_residual.ensures.1
    c.in_err-after.ensures.other_faults

pub returns-in_err-put_ids-clause-other_faults : goal.returns-in_err-put_ids-clause-other_faults
returns-in_err-put_ids-clause-other_faults g c =
    at_error c.from_residual-in_err-put_ids.result c.in_err-put_ids.field-0.0 (IsChangeFault c.put_ids.new.cache)
    c.from_residual-in_err-put_ids.ensures.1 c.in_err-put_ids.ensures.other_faults
