-- What a loop over the entries of a leaf has offered, where those are passed over that are too far.
use Rattle.std.proofs.Common.{◌≡◌, ◌∙◌, ℕ, zero, suc, ◌+◌, ◌-◌, ◌<◌, ◌≤◌, false, Some, List, length, take}
use Rattle.std.proofs.Common.{get_or, map, refl, sym, ap, subst, ⊎_elim, arith}
use Rattle.std.specs.Prelude.{slice_get}
use Rattle.std.proofs.lemmas.Bool.{cases_lt}
use Rattle.std.proofs.lemmas.List.{get_or_default, take_all}
use Rattle.std.proofs.lemmas.Option.{slice_get-get_or}
use Rattle.box_math.specs.Bounds.{Bounds}
use Rattle.box_math.specs.Masks.{has_bit}
use Rattle.box_math.specs.Nearest.{put_nearest_first}
use Rattle.tree_node.specs.Boxes.{no_item}
use Rattle.tree_node.specs.Nodes.{Item}
use Rattle.nearest.specs.declared.candidate.Object.{Object}
use Rattle.nearest.specs.Candidates.{Past, offered, row_at}
use Rattle.nearest.proofs.AnswerLemmas.{entry_offered, past_put, past_take, put_far}

-- ---- places that are passed over

module _ (P Q : ℕ → Type 0) (step : (i : ℕ) → Q i → P i → P (i + 1)) where
  passed_by : (n i : ℕ) → ((p : ℕ) → i ≤ p → p < i + n → Q p) → P i → P (i + n)
  passed_by zero i over here = let same : i ≡ i + 0 = omega arith in subst P same here
  passed_by (suc n) i over here =
      let same : i + 1 + n ≡ i + suc n = omega arith in
      subst P same
      (passed_by n (i + 1) (λ p low high. over p (omega (arith, low)) (omega (arith, high)))
      (step i (over i (omega arith) (omega arith)) here))

  pub passed_to : (i j : ℕ) → i ≤ j → ((p : ℕ) → i ≤ p → p < j → Q p) → P i → P j
  passed_to i j up over here =
      let same : i + (j - i) ≡ j = omega (arith, up) in
      subst P same (passed_by (j - i) i (λ p low high. over p low (omega (arith, high, up))) here)

-- ---- the objects of a leaf

-- the entries before place i are offered
pub record Offering (far : Bounds → ℕ) (k : ℕ) (before best : List (ℕ × ℕ)) (items : List Item)
    (i : ℕ) : Type 0 where
  pub few : length best ≤ k
  pub offers : best ≡ offered k before (map (row_at far) (take i items))

pub none_offered : (far : Bounds → ℕ) (k : ℕ) (best : List (ℕ × ℕ)) (items : List Item) → length best ≤ k
    → Offering far k best best items 0
none_offered far k best items few = record { few = few; offers = refl }

module _ {far : Bounds → ℕ} {k : ℕ} {before best : List (ℕ × ℕ)} {items : List Item} {i : ℕ} where
  pub one_offered : Offering far k before best items i → (x : ℕ × ℕ) (next : List (ℕ × ℕ))
      → i < length items → x ≡ row_at far (get_or items i no_item)
      → next ≡ take k (put_nearest_first x best) → Offering far k before next items (i + 1)
  one_offered so_far x next within is now =
      let more =
      entry_offered (row_at far) k before best next items i (get_or items i no_item) x within
      (get_or_default items i no_item (get_or items i no_item) within) is so_far.offers now in
      record { few = more.0; offers = more.1 }

  -- one that is farther than the k best changes nothing
  pub one_beyond : Offering far k before best items i → i < length items
      → Past (far (get_or items i no_item).bounds) k best → Offering far k before best items (i + 1)
  one_beyond so_far within past =
      let x = row_at far (get_or items i no_item) in
      one_offered so_far x best within refl
      (sym (put_far k x best past ∙ take_all k best so_far.few))

  pub all_offered : Offering far k before best items i → length items ≤ i
      → best ≡ offered k before (map (row_at far) items)
  all_offered so_far past =
      so_far.offers ∙ ap (λ (xs : List Item). offered k before (map (row_at far) xs)) (take_all i items past)

-- the object that an entry names, at its distance
pub object_at : (far : Bounds → ℕ) (items : List Item) (i distance : ℕ) (item : Item) → i < length items
    → item ≡ get_or items i item → distance ≡ far (get_or items i no_item).bounds
    → (o : Object) → o ≡ record { distance = distance; identifier = item.reference }
    → (o.identifier, o.distance) ≡ row_at far (get_or items i no_item)
object_at far items i distance item within at is o made =
    let same : item ≡ get_or items i no_item = at ∙ get_or_default items i item no_item within in
    ap (λ (x : Object). (x.identifier, x.distance)) made ∙ (rw (is, ← same) refl)

-- the same where its distance was measured alone
pub object_in : (far : Bounds → ℕ) (items : List Item) (i distance : ℕ) (item : Item) → i < length items
    → item ≡ get_or items i item → distance ≡ far item.bounds
    → (o : Object) → o ≡ record { distance = distance; identifier = item.reference }
    → (o.identifier, o.distance) ≡ row_at far (get_or items i no_item)
object_in far items i distance item within at is o made =
    let same : item ≡ get_or items i no_item = at ∙ get_or_default items i item no_item within in
    object_at far items i distance item within at (is ∙ ap (λ (x : Item). far x.bounds) same) o made

-- ---- those that a mask names

-- and each whose bit is not set is farther than the k best
pub record OfferingMasked (far : Bounds → ℕ) (k : ℕ) (before best : List (ℕ × ℕ)) (items : List Item)
    (mask i : ℕ) : Type 0 where
  pub so_far : Offering far k before best items i
  pub beyond : (place : ℕ) → place < length items → has_bit mask place ≡ false
      → Past (far (get_or items place no_item).bounds) k best

pub none_masked : (far : Bounds → ℕ) (k : ℕ) (best : List (ℕ × ℕ)) (items : List Item) (mask : ℕ)
    → length best ≤ k
    → ((place : ℕ) (item : Item) → slice_get items place ≡ Some item → has_bit mask place ≡ false
    → Past (far item.bounds) k best) → OfferingMasked far k best best items mask 0
none_masked far k best items mask few beyond = record {
  so_far = none_offered far k best items few;
  beyond =
      λ place within unset. beyond place (get_or items place no_item)
      (slice_get-get_or items place no_item within) unset;
}

module _ {far : Bounds → ℕ} {k : ℕ} {before best : List (ℕ × ℕ)} {items : List Item} {mask i : ℕ} where
  pub one_masked : OfferingMasked far k before best items mask i → (x : ℕ × ℕ) (next : List (ℕ × ℕ))
      → i < length items → x ≡ row_at far (get_or items i no_item)
      → next ≡ take k (put_nearest_first x best) → OfferingMasked far k before next items mask (i + 1)
  one_masked o x next within is now = record {
    so_far = one_offered o.so_far x next within is now;
    beyond = λ place there unset.
        let d = far (get_or items place no_item).bounds in
        subst (λ (b : List (ℕ × ℕ)). Past d k b) (sym now)
        (past_take d k (put_nearest_first x best) (past_put d k x best (o.beyond place there unset)));
  }

  one_unset : OfferingMasked far k before best items mask i → has_bit mask i ≡ false
      → OfferingMasked far k before best items mask (i + 1)
  one_unset o unset = ⊎_elim
      (λ (within : i < length items). record {
        so_far = one_beyond o.so_far within (o.beyond i within unset);
        beyond = o.beyond;
      })
      (λ (past : length items ≤ i). record {
        so_far = record {
          few = o.so_far.few;
          offers = subst (λ (xs : List Item). best ≡ offered k before (map (row_at far) xs))
              (take_all i items past ∙ sym (take_all (i + 1) items (omega (arith, past)))) o.so_far.offers;
        };
        beyond = o.beyond;
      })
      (cases_lt i (length items))

-- those are passed over whose bits are not set
pub masked_to : (far : Bounds → ℕ) (k : ℕ) (before best : List (ℕ × ℕ)) (items : List Item) (mask i j : ℕ)
    → i ≤ j → ((p : ℕ) → i ≤ p → p < j → has_bit mask p ≡ false)
    → OfferingMasked far k before best items mask i → OfferingMasked far k before best items mask j
masked_to far k before best items mask i j up unset o =
    passed_to (λ (n : ℕ). OfferingMasked far k before best items mask n)
    (λ (n : ℕ). has_bit mask n ≡ false)
    (λ n none (m : OfferingMasked far k before best items mask n). one_unset m none) i j up unset o
