-- What searches of a tree answer, said of the objects of its layer.
use Rattle.std.proofs.Common.{◌≡◌, ◌∙◌, ℕ, Bool, true, false, ◌&&◌, List, [], ◌∷◌, ◌+◌, Option, cond, map, take, refl}
use Rattle.std.proofs.Common.{sym, ap, subst}
use Rattle.std.specs.Prelude.{IsPermutation, filter, ℤ}
use Rattle.std.specs.FinMap.{entries, entries_sorted}
use Rattle.std.proofs.lemmas.List.Sorted.{IsPermutation-sym, IsPermutation-trans}
use Rattle.box_math.specs.Bounds.{Bounds}
use Rattle.box_math.specs.Nearest.{by_distance, nearest_first, with_distance}
use Rattle.box_math.specs.Objects.{bounds_of, has_tag}
use Rattle.bucket_page.specs.Layout.{Entry}
use Rattle.range_query.specs.Queries.{having}
use Rattle.tree_node.specs.Positions.{total}
use Rattle.tree_node.specs.Searches.{passing_objects}
use Rattle.tree_node.specs.Trees.{objects_in}
use Rattle.tree_node.specs.declared.node.Root.{Root}
use Rattle.node_page.specs.Standing.{PageMap}
use Rattle.bulk_load.proofs.RowWords.{total-permutation}
use Rattle.nearest.proofs.OrderLemmas as order
use Rattle.nearest.proofs.OrderLemmas.{listed, listed-nearest_first, same_row, Ascends-nearest_first}
use Rattle.layer_pages.specs.Layers.{IsLayerAt, LayerPages, Objects}
use Rattle.layer_pages.specs.Laws.{NearestAreObjects, ObjectsGiveBoxes, RangesAnswerObjects}
use Rattle.layer_pages.proofs.ObjectLemmas.{filter_permuted, filter_sorted, one_order, row_boxes}

pub objects_give_boxes : ObjectsGiveBoxes
objects_give_boxes dims most t shape boxes = row_boxes dims most t.row shape.below boxes

-- those that pass one test, and of them those that pass another
filter_twice : (one other : Entry → Bool) (xs : List Entry)
    → filter other (filter one xs) ≡ filter (λ x. one x && other x) xs
filter_twice one other [] = refl
filter_twice one other (x ∷ xs) =
    elim (one x) as
    (λ b. filter other (cond b (x ∷ filter one xs) (filter one xs)) ≡ cond (b && other x)
    (x ∷ filter (λ y. one y && other y) xs) (filter (λ y. one y && other y) xs)) [
      | true ↦ ap (λ (os : List Entry). cond (other x) (x ∷ os) os) (filter_twice one other xs)
      | false ↦ filter_twice one other xs
    ]

-- what a search of the tree finds are the objects of the layer that pass
pub found_are_objects : (dims most : ℕ) (pages : PageMap) (root : Root) (ids_root : ℕ) (l : LayerPages)
    (objects : Objects) (test : Bounds → Bool) (asked : Option ℕ) → IsLayerAt dims most pages root ids_root l objects
    → IsPermutation (filter (λ o. test (bounds_of o.1) && has_tag asked o.1) (entries objects))
    (having asked (passing_objects test l.tree.row))
found_are_objects dims most pages root ids_root l objects test asked is =
    let pass : Entry → Bool = λ o. test (bounds_of o.1) && has_tag asked o.1 in
    let twice =
    filter_twice (λ o. test (bounds_of o.1)) (λ o. has_tag asked o.1) (objects_in l.tree.row) in
    subst (IsPermutation (filter pass (entries objects))) (sym twice)
    (IsPermutation-sym (filter pass (objects_in l.tree.row)) (filter pass (entries objects))
    (filter_permuted pass (objects_in l.tree.row) (entries objects) is.leaves))

pub ranges_answer_objects : RangesAnswerObjects
ranges_answer_objects dims most pages root ids_root l objects test asked rows is answer =
    let found = having asked (passing_objects test l.tree.row) in
    let pass : Entry → Bool = λ o. test (bounds_of o.1) && has_tag asked o.1 in
    let same = found_are_objects dims most pages root ids_root l objects test asked is in
    one_order rows (filter pass (entries objects)) answer.order
    (filter_sorted pass (entries objects) (entries_sorted objects))
    (IsPermutation-trans rows found (filter pass (entries objects)) (IsPermutation-sym found rows answer.all)
    (IsPermutation-sym (filter pass (entries objects)) found same))

listed-map : (z : ℕ × ℕ) (row_of : Entry → ℕ × ℕ) (objects : List Entry)
    → listed z (map row_of objects) ≡ total (λ o. cond (same_row z (row_of o)) 1 0) objects
listed-map z row_of [] = refl
listed-map z row_of (o ∷ objects) =
    ap (λ n. cond (same_row z (row_of o)) 1 0 + n) (listed-map z row_of objects)

same_order : (dims : ℕ) (point : List ℤ) (xs ys : List Entry) → IsPermutation xs ys
    → by_distance dims point xs ≡ by_distance dims point ys
same_order dims point xs ys same =
    let ds = map (with_distance dims point) xs in
    let es = map (with_distance dims point) ys in
    order.one_order (nearest_first ds) (nearest_first es) (Ascends-nearest_first ds)
    (Ascends-nearest_first es)
    (λ z. listed-nearest_first z ds ∙ listed-map z _ xs ∙ sym (total-permutation _ xs ys same)
    ∙ sym (listed-map z _ ys) ∙ sym (listed-nearest_first z es))

pub nearest_are_objects : NearestAreObjects
nearest_are_objects dims most pages root ids_root l objects k point is =
    ap (take k) (same_order dims point (objects_in l.tree.row) (entries objects) is.leaves)
