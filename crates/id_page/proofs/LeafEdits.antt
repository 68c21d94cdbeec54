-- A leaf page with one object more, another one, or one less.
use Rattle.std.proofs.Common.{◌≡◌, ℕ, ◌+◌, ◌-◌, ◌<◌, ◌≤◌, List, [], ◌∷◌, ◌++◌, length, get_or, set, take}
use Rattle.std.proofs.Common.{Some, sym, ◌∙◌, ap, subst, arith, below_more, inl, ⊎_elim}
use Rattle.std.proofs.lemmas.Bool.{cases_eq}
use Rattle.std.proofs.lemmas.List.{get_or-set_other, get_or-set_same, get_or-take, get_or_append_left}
use Rattle.std.proofs.lemmas.List.{get_or_at, length-append, length-set, length-take-le}
use Rattle.block_bytes.specs.Kinds.{HasHead}
use Rattle.block_bytes.specs.Numbers.{number_at}
use Rattle.box_math.specs.Bounds.{IsBox, IsDims}
use Rattle.box_math.specs.Objects.{bounds_of}
use Rattle.bucket_page.proofs.Writing.{nothing}
use Rattle.bucket_page.specs.Layout.{Entry, HasOrderedBox}
use Rattle.id_page.specs.Leaf.{HasLeafHead, leaf_at, leaf_object, most_objects, object_size}
use Rattle.id_page.proofs.LeafReading.{box_of_leaf, count_of_leaf, leaf_is, leaf_spells, object_of_leaf}
use Rattle.id_page.proofs.ObjectPlaces.{object_kept}
use Rattle.id_page.proofs.Rows.{Edits, head_byte}

module _ (dims place count : ℕ) (old new : List ℕ) (objects : List Entry)
    (is : leaf_at dims old ≡ Some objects) (edits : Edits (object_size dims) place count old new) where
  still_head : count ≤ most_objects dims → HasLeafHead dims new
  still_head few = let head = (leaf_spells dims old objects is).head in record {
    axes = head.axes;
    kind = head_byte (object_size dims) place count 0 old new edits (inl (omega arith)) (omega arith)
        ∙ head.kind;
    dims_is = head_byte (object_size dims) place count 1 old new edits (inl (omega arith)) (omega arith)
        ∙ head.dims_is;
    few = omega (arith, few, edits.counted);
  }

  still_object : (k : ℕ) → ¬ (k ≡ place) → k < length objects
      → get_or objects k nothing ≡ leaf_object dims new k
  still_object k other lt = object_of_leaf dims old objects k nothing is lt
      ∙ sym (object_kept dims place count k old new edits other)

  still_ordered : (k : ℕ) → ¬ (k ≡ place) → k < length objects → HasOrderedBox dims (leaf_object dims new k)
  still_ordered k other lt = subst (HasOrderedBox dims)
      (sym (object_kept dims place count k old new edits other)) (box_of_leaf dims old objects k is lt)

box_ordered : (dims : ℕ) (object there : Entry) → there ≡ object → IsBox dims (bounds_of object.1)
    → HasOrderedBox dims there
box_ordered dims object there is box = subst (HasOrderedBox dims) (sym is)
    (λ axis lt. (box.spans axis lt).ordered)

pub leaf_pushed : (dims n : ℕ) (old new : List ℕ) (objects : List Entry) (object : Entry)
    → leaf_at dims old ≡ Some objects → n ≡ number_at 2 2 old → n < most_objects dims
    → Edits (object_size dims) n (n + 1) old new → leaf_object dims new n ≡ object
    → IsBox dims (bounds_of object.1)
    → leaf_at dims new ≡ Some (objects ++ object ∷ [])
leaf_pushed dims n old new objects object is now room edits written box =
    let long : n ≡ length objects = now ∙ count_of_leaf dims old objects is in
    let longer : length (objects ++ object ∷ []) ≡ n + 1 = length-append objects (object ∷ [])
    ∙ omega (arith, long) in
    leaf_is dims new (objects ++ object ∷ [])
    (still_head dims n (n + 1) old new objects is edits (omega (arith, room)))
    (edits.counted ∙ sym longer)
    (λ k lt. below_more (λ j. get_or (objects ++ object ∷ []) j nothing ≡ leaf_object dims new j) n
    (λ j less. get_or_append_left objects (object ∷ []) nothing j (omega (arith, less, long))
    ∙ still_object dims n (n + 1) old new objects is edits j (λ e. absurd (omega (arith, less, e)))
    (omega (arith, less, long)))
    (get_or_at objects object [] nothing n (sym long) ∙ sym written) k (omega (arith, lt, longer)))
    (λ k lt. below_more (λ j. HasOrderedBox dims (leaf_object dims new j)) n
    (λ j less. still_ordered dims n (n + 1) old new objects is edits j (λ e. absurd (omega (arith, less, e)))
    (omega (arith, less, long)))
    (box_ordered dims object (leaf_object dims new n) written box) k (omega (arith, lt, longer)))

pub leaf_replaced : (dims place : ℕ) (old new : List ℕ) (objects : List Entry) (object : Entry)
    → leaf_at dims old ≡ Some objects → place < length objects
    → Edits (object_size dims) place (number_at 2 2 old) old new → leaf_object dims new place ≡ object
    → IsBox dims (bounds_of object.1) → leaf_at dims new ≡ Some (set objects place object)
leaf_replaced dims place old new objects object is within edits written box =
    let n = number_at 2 2 old in
    let long : n ≡ length objects = count_of_leaf dims old objects is in
    let as_long = length-set objects place object in
    leaf_is dims new (set objects place object)
    (still_head dims place n old new objects is edits (leaf_spells dims old objects is).head.few)
    (edits.counted ∙ long ∙ sym as_long)
    (λ k lt. ⊎_elim
    (λ (here : k ≡ place). ap (λ i. get_or (set objects place object) i nothing) here
    ∙ get_or-set_same objects place object nothing within ∙ sym written
    ∙ ap (leaf_object dims new) (sym here))
    (λ (other : ¬ (k ≡ place)). get_or-set_other objects place k object nothing other
    ∙ still_object dims place n old new objects is edits k other (omega (arith, lt, as_long)))
    (cases_eq k place))
    (λ k lt. ⊎_elim
    (λ (here : k ≡ place). subst (λ i. HasOrderedBox dims (leaf_object dims new i)) (sym here)
    (box_ordered dims object (leaf_object dims new place) written box))
    (λ (other : ¬ (k ≡ place)). still_ordered dims place n old new objects is edits k other
    (omega (arith, lt, as_long)))
    (cases_eq k place))

pub leaf_popped : (dims less : ℕ) (old new : List ℕ) (objects : List Entry) → leaf_at dims old ≡ Some objects
    → number_at 2 2 old ≡ less + 1
    → Edits (object_size dims) less less old new → leaf_at dims new ≡ Some (take (length objects - 1) objects)
leaf_popped dims less old new objects is some edits =
    let long : number_at 2 2 old ≡ length objects = count_of_leaf dims old objects is in
    let few = (leaf_spells dims old objects is).head.few in
    let shorter : length (take less objects) ≡ less =
    length-take-le less objects (omega (arith, long, some)) in
    leaf_is dims new (take less objects)
    (still_head dims less less old new objects is edits (omega (arith, few, some)))
    (edits.counted ∙ sym shorter)
    (λ k lt. get_or-take less objects k nothing (omega (arith, lt, shorter))
    ∙ still_object dims less less old new objects is edits k (λ e. absurd (omega (arith, lt, shorter, e)))
    (omega (arith, lt, shorter, long, some)))
    (λ k lt. still_ordered dims less less old new objects is edits k
    (λ e. absurd (omega (arith, lt, shorter, e))) (omega (arith, lt, shorter, long, some)))
    ∙ ap (λ (n : ℕ). Some (take n objects))
    (let e : less ≡ length objects - 1 = omega (arith, long, some) in e)

pub leaf_empty : (dims : ℕ) (page : List ℕ) → HasHead 9 dims 0 page → IsDims dims
    → leaf_at dims page ≡ Some []
leaf_empty dims page h axes = leaf_is dims page []
    (record { axes = axes; kind = h.kind_is; dims_is = h.dims_is; few = omega (arith, h.count_is) }) h.count_is
    (λ k lt. absurd (omega (arith, lt))) (λ k lt. absurd (omega (arith, lt)))
