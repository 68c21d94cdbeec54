-- A node page changed in place.
use Rattle.std.proofs.Common.{◌≡◌, ◌∙◌, ℕ, ◌+◌, ◌*◌, ◌<◌, ◌≤◌, Bool, false, List, [], ◌∷◌, ◌++◌, length, Some}
use Rattle.std.proofs.Common.{ap, arith, below_more, inl, inr, subst, sym, ◌⊎◌}
use Rattle.std.proofs.lemmas.Bool.{cases_Bool}
use Rattle.block_bytes.specs.Kinds.{node_kind, untagged_node_kind}
use Rattle.block_bytes.specs.Laws.{number_at-put, number_at-put_other}
use Rattle.block_bytes.specs.Numbers.{number_at, put_number}
use Rattle.block_bytes.specs.PlaceLaws.{first_places-more, first_places-same}
use Rattle.box_bytes.specs.Corners.{Keeps, corner_at}
use Rattle.box_bytes.specs.Laws.{corner_at-same}
use Rattle.box_math.specs.Bounds.{IsBox}
use Rattle.tree_node.specs.Nodes.{Item, NodeContent}
use Rattle.node_bytes.specs.Layout.{HasNodeHead, IsClearOfEntry, IsEntry, IsNodeKind, IsOfEntry, IsOfLevel}
use Rattle.node_bytes.specs.Layout.{IsReference, has_tags, high_place, low_place, reference_place, tag_at}
use Rattle.node_bytes.specs.Layout.{tag_place, item_at, items_at, node_at, pushed}
use Rattle.node_bytes.proofs.Places.{has_none, head_clear, item_same, item_stays, same_item, tag_none}
use Rattle.node_bytes.proofs.Places.{tag_there, tags_of_kind, tags_same}
use Rattle.node_bytes.proofs.Reading.{all_places, spells}
use Rattle.node_bytes.proofs.Writing.{nothing, untagged_above}

-- the bytes of entries come after the head
pub behind_head : (dims : ℕ) (tagged : Bool) (place k : ℕ) → IsOfEntry dims tagged place k → 16 ≤ k
behind_head dims tagged place k (inl low) = let le = low.2 in omega arith
behind_head dims tagged place k (inr (inl high)) = let le = high.2 in omega arith
behind_head dims tagged place k (inr (inr (inl reference))) = let le = reference.0 in omega arith
behind_head dims tagged place k (inr (inr (inr tag))) = let le = tag.1 in omega arith

-- a number of the head, which lies clear of the entry and of the count
head_stays : (dims : ℕ) (tagged : Bool) (place count n at : ℕ) (old mid : List ℕ) → length mid ≡ 4096
    → at + n ≤ 5 → Keeps (IsClearOfEntry dims tagged place) old mid → (at + n ≤ 2) ⊎ (4 ≤ at)
    → number_at n at (put_number 2 2 count mid) ≡ number_at n at old
head_stays dims tagged place count n at old mid size within keeps apart =
    number_at-put_other n at 2 2 count mid (omega (arith, size)) apart
    ∙ keeps n at (head_clear dims tagged place n at within)

-- the entry of a node above the leaves has no tag
pub untagged_entry : (dims : ℕ) (page : List ℕ) (c : NodeContent) (reference tag : ℕ)
    → node_at dims page ≡ Some c → number_at 1 0 page ≡ node_kind → IsOfLevel c.level reference tag
    → has_tags page ≡ false → tag ≡ 0
untagged_entry dims page c reference tag is kind refers none =
    untagged_above c.level reference tag refers
    (sym (tags_of_kind page c.level kind (spells dims page c is).head.level_is) ∙ none)

-- the page with the entry written after those that it has, and its count raised
pub entry_pushed : (dims : ℕ) (tagged : Bool) (count : ℕ) (old mid : List ℕ) (item : Item) (c : NodeContent)
    → node_at dims old ≡ Some c → count ≡ number_at 2 2 old → length mid ≡ 4096 → count < 100
    → item_at dims mid count ≡ item → IsBox dims item.bounds → IsReference c.level item.reference
    → Keeps (IsClearOfEntry dims tagged count) old mid
    → node_at dims (put_number 2 2 (count + 1) mid) ≡ Some (pushed c item)
entry_pushed dims tagged count old mid item c is count_is size few written box refers keeps =
    let new = put_number 2 2 (count + 1) mid in
    let was = spells dims old c is in
    let counted : number_at 2 2 new ≡ count + 1 =
    number_at-put 2 2 (count + 1) mid (omega (arith, size)) (omega (arith, few)) in
    let tags : has_tags new ≡ has_tags mid =
    tags_same new mid (number_at-put_other 1 0 2 2 (count + 1) mid (omega (arith, size)) (inl (omega arith)))
    (number_at-put_other 1 4 2 2 (count + 1) mid (omega (arith, size)) (inr (omega arith))) in
    let same : (k : ℕ)
    → item_at dims new k ≡ item_at dims mid k =
    λ k. item_same dims k new mid tags
    (λ j of. number_at-put_other 1 j 2 2 (count + 1) mid (omega (arith, size))
    (inr (omega (arith, behind_head dims (has_tags new) k j of)))) in
    let before : (k : ℕ) → k < count
    → item_at dims new k ≡ item_at dims old k = λ k lt. same k
    ∙ item_stays dims tagged count k old mid lt few keeps in
    let last : item_at dims new count ≡ item = same count ∙ written in
    let head : HasNodeHead dims c.level new = record {
      axes = was.head.axes;
      kind = subst IsNodeKind
          (sym (head_stays dims tagged count (count + 1) 1 0 old mid size (omega arith) keeps
          (inl (omega arith)))) was.head.kind;
      dims_is =
          head_stays dims tagged count (count + 1) 1 1 old mid size (omega arith) keeps (inl (omega arith))
          ∙ was.head.dims_is;
      level_is =
          head_stays dims tagged count (count + 1) 1 4 old mid size (omega arith) keeps (inr (omega arith))
          ∙ was.head.level_is;
      few = omega (arith, counted, few);
      some = λ above. omega (arith, counted);
    } in
    let here : items_at dims new count ≡ c.entries =
    first_places-same (item_at dims new) (item_at dims old) count nothing before
    ∙ ap (items_at dims old) count_is ∙ sym was.entries in
    let entries : items_at dims new (count + 1) ≡ c.entries
    ++ item ∷ [] = first_places-more (item_at dims new) count
    ∙ ap (λ (x : Item). items_at dims new count ++ x ∷ []) last
    ∙ ap (λ (xs : List Item). xs ++ item ∷ []) here in
    all_places dims c.level (count + 1) new (c.entries ++ item ∷ []) head (sym counted) (sym entries)
    (below_more (λ k. IsEntry dims c.level (item_at dims new k)) count
    (λ k lt. subst (IsEntry dims c.level) (sym (before k lt)) (was.each k (omega (arith, lt, count_is))))
    (subst (IsEntry dims c.level) (sym last)
    (record { ordered = λ axis lt. (box.spans axis lt).ordered; refers = refers })))

-- ---- a page of format 1

tag_cleared : (dims place : ℕ) (page : List ℕ) → number_at 4 (tag_place dims place) page ≡ 0
    → tag_at dims page place ≡ 0
tag_cleared dims place page zero_there =
    elim (cases_Bool (has_tags page))
    [ inl has ↦ tag_there dims place page has ∙ zero_there | inr none ↦ tag_none dims place page none ]

item_kept : (dims place : ℕ) (old new : List ℕ) → place < 100
    → ((n at : ℕ) → 1 ≤ at → at + n ≤ 816 + 800 * dims → number_at n at new ≡ number_at n at old)
    → tag_at dims new place ≡ tag_at dims old place
    → item_at dims new place ≡ item_at dims old place
unfolding item_at
item_kept dims place old new lt stays tag =
    same_item (corner_at dims new (low_place place) 800) (corner_at dims old (low_place place) 800)
    (corner_at dims new (high_place place) 800) (corner_at dims old (high_place place) 800)
    (number_at 8 (reference_place dims place) new) (number_at 8 (reference_place dims place) old)
    (tag_at dims new place) (tag_at dims old place)
    (corner_at-same dims new old (low_place place) 800
    (λ k of. let axis = of.1 in let from = of.2 in let to = of.3 in
    stays 1 k (omega (arith, from)) (omega (arith, axis, to, lt))))
    (corner_at-same dims new old (high_place place) 800
    (λ k of. let axis = of.1 in let from = of.2 in let to = of.3 in
    stays 1 k (omega (arith, from)) (omega (arith, axis, to, lt))))
    (stays 8 (reference_place dims place) (omega arith) (omega (arith, lt)))
    tag

-- where all tags are cleared, a page of the kind that has them spells what it spelled without
pub tags_added : (dims : ℕ) (old mid : List ℕ) (c : NodeContent) → length mid ≡ 4096
    → number_at 1 0 old ≡ untagged_node_kind
    → ((place : ℕ) → place < 100 → number_at 4 (tag_place dims place) mid ≡ 0)
    → ((n at : ℕ) → at + n ≤ 816 + 800 * dims → number_at n at mid ≡ number_at n at old)
    → node_at dims old ≡ Some c → node_at dims (put_number 1 0 node_kind mid) ≡ Some c
tags_added dims old mid c size kind cleared others is =
    let new = put_number 1 0 node_kind mid in
    let was = spells dims old c is in
    let stays : (n at : ℕ) → 1 ≤ at → at + n ≤ 816 + 800 * dims
    → number_at n at new ≡ number_at n at old =
    λ n at behind before. number_at-put_other n at 1 0 node_kind mid (omega (arith, size)) (inr behind)
    ∙ others n at before in
    let count : number_at 2 2 new ≡ number_at 2 2 old = stays 2 2 (omega arith) (omega arith) in
    let few = was.head.few in
    let tag : (place : ℕ) → place < 100 → tag_at dims new place ≡ tag_at dims old place =
    λ place lt. tag_cleared dims place new
    (number_at-put_other 4 (tag_place dims place) 1 0 node_kind mid (omega (arith, size))
    (inr (omega arith)) ∙ cleared place lt) ∙ sym (tag_none dims place old (has_none old kind)) in
    let same : (place : ℕ) → place < 100
    → item_at dims new place ≡ item_at dims old place =
    λ place lt. item_kept dims place old new lt stays (tag place lt) in
    let head : HasNodeHead dims c.level new = record {
      axes = was.head.axes;
      kind = inl (number_at-put 1 0 node_kind mid (omega (arith, size)) (omega arith));
      dims_is = stays 1 1 (omega arith) (omega arith) ∙ was.head.dims_is;
      level_is = stays 1 4 (omega arith) (omega arith) ∙ was.head.level_is;
      few = omega (arith, count, few);
      some = λ above. omega (arith, count, was.head.some above);
    } in
    all_places dims c.level (number_at 2 2 old) new c.entries head (sym count)
    (was.entries
    ∙ first_places-same (item_at dims old) (item_at dims new) (number_at 2 2 old) nothing
    (λ place lt. sym (same place (omega (arith, lt, few)))))
    (λ place lt. subst (IsEntry dims c.level) (sym (same place (omega (arith, lt, few)))) (was.each place lt))

-- the kind of a node page that is not of format 1
pub kind_of : (dims : ℕ) (page : List ℕ) (c : NodeContent) → node_at dims page ≡ Some c
    → ¬ (number_at 1 0 page ≡ untagged_node_kind) → number_at 1 0 page ≡ node_kind
kind_of dims page c is other =
    elim ((spells dims page c is).head.kind) [ inl new ↦ new | inr old ↦ absurd (other old) ]
