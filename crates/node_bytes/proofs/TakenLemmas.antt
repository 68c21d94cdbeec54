-- A node page from which an entry is taken.
use Rattle.std.proofs.Common.{◌≡◌, ◌∙◌, ◌⊎◌, ℕ, suc, ◌+◌, ◌-◌, ◌<◌, ◌≤◌, ◌++◌, Bool, List, Some, ap, arith, drop}
use Rattle.std.proofs.Common.{get_or, inl, inr, length, remove, subst, sym, take, ⊎_elim}
use Rattle.std.proofs.lemmas.Bool.{cases_eq, cases_lt}
use Rattle.std.proofs.lemmas.List.Edits.{get_or-remove_above, get_or-remove_below, length-remove}
use Rattle.block_bytes.specs.Laws.{number_at-put, number_at-put_other}
use Rattle.block_bytes.specs.Numbers.{number_at, put_number}
use Rattle.block_bytes.specs.PlaceLaws.{first_places-are}
use Rattle.tree_node.specs.Nodes.{Item, NodeContent}
use Rattle.node_bytes.specs.Layout.{HasNodeHead, IsEntry, IsNamed, IsNodeKind, IsOfEntry, IsTidy, has_tags}
use Rattle.node_bytes.specs.Layout.{item_at, node_at}
use Rattle.node_bytes.specs.Taken.{IsTakenOut, without_entry}
use Rattle.node_bytes.proofs.Editing.{behind_head}
use Rattle.node_bytes.proofs.Places.{item_same, tags_same}
use Rattle.node_bytes.proofs.Reading.{all_places, item_of_node, size_of, spells}
use Rattle.node_bytes.proofs.TidyLemmas.{named_as, tidy_by}
use Rattle.node_bytes.proofs.Writing.{nothing, unnamed_behind}

-- the entries without that in a place
pub others_are : {X : Type 0} (xs : List X) (at : ℕ) → take at xs ++ drop (at + 1) xs ≡ remove xs at
others_are xs at = let one : at + 1 ≡ suc at = omega arith in ap (λ (n : ℕ). take at xs ++ drop n xs) one

module _ (dims : ℕ) (tagged : Bool) (place count left : ℕ) (old mid : List ℕ) (size : length mid ≡ 4096)
    (count_is : count ≡ number_at 2 2 old) (left_is : left + 1 ≡ count) (within : place < count)
    (few : count ≤ 100) (out : IsTakenOut dims tagged place count old mid) where
  abbrev now : List ℕ
  now = put_number 2 2 left mid

  counted : number_at 2 2 now ≡ left
  counted = number_at-put 2 2 left mid (omega (arith, size)) (omega (arith, few, left_is))

  beside_count : (n at : ℕ) → (at + n ≤ 2) ⊎ (4 ≤ at) → number_at n at now ≡ number_at n at mid
  beside_count n at apart = number_at-put_other n at 2 2 left mid (omega (arith, size)) apart

  head_stays : (n at : ℕ) → at + n ≤ 16 → (at + n ≤ 2) ⊎ (4 ≤ at) → number_at n at now ≡ number_at n at old
  head_stays n at upto apart = beside_count n at apart ∙ out.head n at upto

  pub kind_stays : number_at 1 0 now ≡ number_at 1 0 old
  kind_stays = head_stays 1 0 (omega arith) (inl (omega arith))

  tags_now : has_tags now ≡ has_tags mid
  tags_now = tags_same now mid (beside_count 1 0 (inl (omega arith))) (beside_count 1 4 (inr (omega arith)))

  tags_stay : has_tags now ≡ has_tags old
  tags_stay = tags_same now old kind_stays (head_stays 1 4 (omega arith) (inr (omega arith)))

  item_now : (k : ℕ) → item_at dims now k ≡ item_at dims mid k
  item_now k = item_same dims k now mid tags_now (λ j of.
      beside_count 1 j (inr (omega (arith, behind_head dims (has_tags now) k j of))))

  -- a tidy page stays one
  pub tidy_taken : tagged ≡ has_tags old → IsTidy dims old → IsTidy dims now
  tidy_taken tags tidy = tidy_by dims tagged left now (tags_stay ∙ sym tags) counted (λ k unnamed.
      beside_count 1 k (inr (omega (arith, unnamed_behind dims tagged left k unnamed))) ∙ zero_there k unnamed)
    where
      not_named : (k : ℕ) → ¬ (number_at 1 k mid ≡ 0) → (IsNamed dims tagged left k → ⊥)
          → IsNamed dims tagged count k → ⊥
      not_named k other unnamed (inl head) = unnamed (inl head)
      not_named k other unnamed (inr of) =
          ⊎_elim (λ (lt : of.0 < left). unnamed (inr (of.0, lt, of.2)))
          (λ (le : left ≤ of.0). let there : of.0 ≡ count - 1 = omega (arith, le, of.1, left_is) in
          other (out.cleared k (subst (λ p. IsOfEntry dims tagged p k) there of.2))) (cases_lt of.0 left)

      zero_there : (k : ℕ) → (IsNamed dims tagged left k → ⊥) → number_at 1 k mid ≡ 0
      zero_there k unnamed = elim (cases_eq (number_at 1 k mid) 0) [
        | inl e ↦ e
        | inr o ↦ out.rest k (not_named k o unnamed) ∙ tidy k (λ named. not_named k o unnamed
            (named_as dims (has_tags old) tagged (number_at 2 2 old) count k (sym tags) (sym count_is) named))
      ]

  module _ (c : NodeContent) (is : node_at dims old ≡ Some c) (more : 1 < length c.entries) where
    many : length c.entries ≡ count
    many = sym (size_of dims old c (spells dims old c is)) ∙ sym count_is

    inside : place < length c.entries
    inside = omega (arith, many, within)

    item_there : (k : ℕ) → k < left → get_or (remove c.entries place) k nothing ≡ item_at dims now k
    item_there k lt = ⊎_elim
        (λ (before : k < place). get_or-remove_below c.entries place nothing k before inside
        ∙ item_of_node dims old c k nothing (spells dims old c is) (omega (arith, before, inside))
        ∙ sym (item_now k ∙ out.before k before))
        (λ (behind : place ≤ k). get_or-remove_above c.entries place nothing k behind inside
        ∙ item_of_node dims old c (k + 1) nothing (spells dims old c is) (omega (arith, lt, left_is, many))
        ∙ sym (item_now k ∙ out.moved k behind (omega (arith, lt, left_is)))) (cases_lt k place)

    entry_there : (k : ℕ) → k < left → IsEntry dims c.level (item_at dims now k)
    entry_there k lt = let was = (spells dims old c is).each in ⊎_elim
        (λ (before : k < place). subst (IsEntry dims c.level) (sym (item_now k ∙ out.before k before))
        (was k (omega (arith, before, within, count_is))))
        (λ (behind : place ≤ k). subst (IsEntry dims c.level)
        (sym (item_now k ∙ out.moved k behind (omega (arith, lt, left_is))))
        (was (k + 1) (omega (arith, lt, left_is, count_is)))) (cases_lt k place)

    -- the page spells the node without the entry
    pub spells_taken : node_at dims now ≡ Some (without_entry c place)
    spells_taken =
        let was = (spells dims old c is).head in
        let entries : List Item = remove c.entries place in
        let long : length entries + 1 ≡ length c.entries = length-remove c.entries place inside in
        let head : HasNodeHead dims c.level now = record {
          axes = was.axes;
          kind = subst IsNodeKind (sym kind_stays) was.kind;
          dims_is = head_stays 1 1 (omega arith) (inl (omega arith)) ∙ was.dims_is;
          level_is = head_stays 1 4 (omega arith) (inr (omega arith)) ∙ was.level_is;
          few = omega (arith, counted, few, left_is);
          some = λ above. omega (arith, counted, left_is, many, more);
        } in
        all_places dims c.level left now (take place c.entries ++ drop (place + 1) c.entries) head (sym counted)
        (others_are c.entries place
        ∙ first_places-are (item_at dims now) left entries nothing (omega (arith, long, many, left_is)) item_there)
        entry_there
