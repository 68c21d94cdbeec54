-- The objects of entries of leaves, and those that are taken at once.
use Rattle.std.proofs.Common.{◌≡◌, ◌∙◌, ℕ, zero, suc, ◌-◌, ◌<◌, ◌≤◌, List, [], ◌∷◌, length, take, drop}
use Rattle.std.proofs.Common.{get_or, refl}
use Rattle.std.proofs.Common.{min, sym, ap, arith, ⊎_elim}
use Rattle.std.proofs.lemmas.Bool.{cases_lt}
use Rattle.std.proofs.lemmas.List.{drop-map, length-map, length-take-le, take-map, take-take, take_all}
use Rattle.std.proofs.lemmas.List.{take_rest}
use Rattle.std.specs.List.Sorted.{IsNonDecreasingBy}
use Rattle.bucket_page.specs.Layout.{Entry}
use Rattle.tree_node.specs.Nodes.{Item, item_of, items_of}
use Rattle.tree_node.specs.declared.node.Entry.{Entry as Leaf}
use Rattle.node_page.specs.Checked.{pairs_of}
use Rattle.id_words.specs.Objects.{pairs_in}

abbrev object_of : Item → Entry
object_of item = (item.reference, (item.bounds, item.tag))

pub as_many_listed : {D : ℕ} (entries : List (Leaf D)) → length (pairs_in entries) ≡ length entries
as_many_listed entries = length-map (items_of entries) object_of ∙ length-map entries item_of

-- those of the first entries, and of the others
pub first_listed : {D : ℕ} (count : ℕ) (entries : List (Leaf D))
    → pairs_in (take count entries) ≡ take count (pairs_in entries)
first_listed count entries = ap pairs_of (sym (take-map item_of count entries))
    ∙ sym (take-map object_of count (items_of entries))

pub others_listed : {D : ℕ} (count : ℕ) (entries : List (Leaf D))
    → pairs_in (drop count entries) ≡ drop count (pairs_in entries)
others_listed count entries = ap pairs_of (sym (drop-map item_of count entries))
    ∙ sym (drop-map object_of count (items_of entries))

-- what is taken at once of the entries behind some
pub taken_behind : {D : ℕ} (entries : List (Leaf D)) (filled : ℕ) (objects : List Entry)
    → objects ≡ take 145 (pairs_in (take (length entries - filled) (drop filled entries)))
    → objects ≡ take 145 (drop filled (pairs_in entries))
taken_behind entries filled objects is = is
    ∙ ap (λ (es : List (Leaf _)). take 145 (pairs_in es)) (take_rest entries filled)
    ∙ ap (take 145) (others_listed filled entries)

-- the first ones, where they are as many or all
pub least_taken : (count most : ℕ) (objects : List Entry) → count ≡ min (length objects) most
    → take count objects ≡ take most objects
least_taken count most objects least = ⊎_elim
    (λ (fewer : length objects < most). take_all count objects (omega (arith, least, fewer))
    ∙ sym (take_all most objects (omega (arith, fewer))))
    (λ (more : most ≤ length objects). ap (λ (n : ℕ). take n objects)
    (let same : count ≡ most = omega (arith, least, more) in same))
    (cases_lt (length objects) most)

-- of those taken at once the first ones are the first of all
pub taken_of : (count most : ℕ) (objects : List Entry) → count ≤ length (take most objects)
    → take count (take most objects) ≡ take count objects
taken_of count most objects within = ⊎_elim
    (λ (fewer : length objects < most). ap (take count) (take_all most objects (omega (arith, fewer))))
    (λ (more : most ≤ length objects). take-take count most objects
    (omega (arith, within, length-take-le most objects more)))
    (cases_lt (length objects) most)

pub few_taken : (most : ℕ) (objects : List Entry) → length (take most objects) ≤ length objects
few_taken most objects = ⊎_elim
    (λ (fewer : length objects < most). omega (arith, ap length (take_all most objects (omega (arith, fewer)))))
    (λ (more : most ≤ length objects). omega (arith, more, length-take-le most objects more))
    (cases_lt (length objects) most)

-- in the order of a number of their identifiers are the objects where the entries are
listed_at : {D : ℕ} (entries : List (Leaf D)) (k : ℕ) (object : Entry) (entry : Leaf D) → k < length entries
    → (get_or (pairs_in entries) k object).0 ≡ (get_or entries k entry).reference
listed_at [] k object entry within = absurd (omega (arith, within))
listed_at (e ∷ entries) zero object entry within = refl
listed_at (e ∷ entries) (suc k) object entry within =
    listed_at entries k object entry (omega (arith, within))

pub listed_in_order : {D : ℕ} (number : ℕ → ℕ) (entries : List (Leaf D))
    → IsNonDecreasingBy (λ (entry : Leaf D). number entry.reference) entries
    → IsNonDecreasingBy (λ (object : Entry). number object.0) (pairs_in entries)
listed_in_order number [] sorted i j object later within = absurd (omega (arith, within))
listed_in_order number (e ∷ entries) sorted i j object later within =
    let all = e ∷ entries in
    let there : j < length all = omega (arith, within, as_many_listed all) in
    omega (
      arith,
      ap number (listed_at all i object e (omega (arith, later, there))),
      ap number (listed_at all j object e there),
      sorted i j e later there,
    )
