-- What a loop over the entries of a node has taken.
use Rattle.std.proofs.Common.{◌≡◌, ◌∙◌, ℕ, zero, suc, ◌+◌, ◌-◌, ◌<◌, ◌≤◌, ◌&&◌, ⊎_elim, Bool, true, false}
use Rattle.std.proofs.Common.{cond, Option, Some, List, [], ◌∷◌, ◌++◌, All, length, take, get_or, map, refl}
use Rattle.std.proofs.Common.{sym, ap, subst, arith}
use Rattle.std.specs.Prelude.{slice_get}
use Rattle.std.specs.List.{filter}
use Rattle.std.proofs.lemmas.Bool.{cases_lt, false≢true}
use Rattle.std.proofs.lemmas.List.{append_assoc, append-nil, get_or_default, map-append, take_all, take_more}
use Rattle.std.proofs.lemmas.List.Elements.{All-get_or, filter-append}
use Rattle.std.proofs.lemmas.Option.{slice_get-get_or}
use Rattle.box_math.specs.Bounds.{Bounds, IsBox, meets_test}
use Rattle.box_math.specs.Masks.{has_bit}
use Rattle.box_math.proofs.BoxLaws.{Within-refl}
use Rattle.tree_node.specs.Boxes.{no_item}
use Rattle.tree_node.specs.Nodes.{Item}
use Rattle.range_query.specs.Entries.{wanted}
use Rattle.box_math.specs.declared.query.Query.{Query}
use Rattle.box_math.specs.Queries.{admits, seeks}
use Rattle.box_math.specs.Objects.{has_tag}
use Rattle.range_query.proofs.QueryLemmas.{sought_admits}

-- something of each entry before place i that passes a test is taken
pub record Taken {X : Type 0} (f : Item → X) (test : Item → Bool) (items : List Item) (i : ℕ)
    (old now : List X) : Type 0 where
  pub is : now ≡ old ++ map f (filter test (take i items))

one_more : {X : Type 0} (f : Item → X) (test : Item → Bool) (items : List Item) (i : ℕ) (x : Item)
    → i < length items → x ≡ get_or items i x → (b : Bool) → test x ≡ b
    → map f (filter test (take (i + 1) items)) ≡ map f (filter test (take i items)) ++ cond b (f x ∷ []) []
one_more {X} f test items i x within is b passes =
    let taken : take (i + 1) items ≡ take i items ++ x ∷ [] = take_more items i x within
    ∙ ap (λ (y : Item). take i items ++ y ∷ []) (sym is) in
    let split = filter-append test (take i items) (x ∷ []) in
    let last : map f (cond (test x) (x ∷ []) []) ≡ cond b (f x ∷ []) [] =
    ap (λ (t : Bool). map f (cond t (x ∷ []) [])) passes ∙ pushed b in
    ap (λ (xs : List Item). map f (filter test xs)) taken ∙ ap (map f) split
    ∙ map-append f (filter test (take i items)) (cond (test x) (x ∷ []) [])
    ∙ ap (λ (ys : List X). map f (filter test (take i items)) ++ ys) last
  where
    pushed : (t : Bool) → map f (cond t (x ∷ []) []) ≡ cond t (f x ∷ []) []
    pushed true = refl
    pushed false = refl

module _ {X : Type 0} {f : Item → X} {test : Item → Bool} {items : List Item} {i : ℕ} {old now : List X} where
  pub one_taken : Taken f test items i old now → (x : Item) → i < length items → x ≡ get_or items i x
      → test x ≡ true → (next : List X) → next ≡ now ++ f x ∷ [] → Taken f test items (i + 1) old next
  one_taken so_far x within is passes next pushed = record {
    is = pushed ∙ ap (λ (xs : List X). xs ++ f x ∷ []) so_far.is
        ∙ append_assoc old (map f (filter test (take i items))) (f x ∷ [])
        ∙ ap (λ (xs : List X). old ++ xs) (sym (one_more f test items i x within is true passes));
  }

  pub one_passed : Taken f test items i old now → (x : Item) → i < length items → x ≡ get_or items i x
      → test x ≡ false → Taken f test items (i + 1) old now
  one_passed so_far x within is fails = record {
    is = so_far.is
        ∙ ap (λ (xs : List X). old ++ xs)
        (sym (one_more f test items i x within is false fails
        ∙ append-nil (map f (filter test (take i items)))));
  }

  pub all_taken : Taken f test items i old now → length items ≤ i → now ≡ old ++ map f (filter test items)
  all_taken so_far past = so_far.is
      ∙ ap (λ (xs : List Item). old ++ map f (filter test xs)) (take_all i items past)

pub none_taken : {X : Type 0} (f : Item → X) (test : Item → Bool) (items : List Item) (old : List X)
    → Taken f test items 0 old old
none_taken f test items old = record { is = sym (append-nil old) }

-- ---- an entry whose bit is not set

not_true : (b : Bool) → (b ≡ true → ⊥) → b ≡ false
not_true true no_way = absurd (no_way refl)
not_true false no_way = refl

-- where each admitted box meets the window, an entry whose bit is not set is not admitted
unset_fails : (dims : ℕ) (test : Bounds → Bool) (window : Bounds) (items : List Item) (mask i : ℕ)
    → i < length items
    → ((b : Bounds) → IsBox dims b → test b ≡ true → meets_test dims b window ≡ true)
    → All (λ item. IsBox dims item.bounds) items
    → ((place : ℕ) (item : Item) → slice_get items place ≡ Some item
    → has_bit mask place ≡ meets_test dims item.bounds window) → has_bit mask i ≡ false
    → test (get_or items i no_item).bounds ≡ false
unset_fails dims test window items mask i within meets boxes met unset =
    let x = get_or items i no_item in
    let box = All-get_or (λ (item : Item). IsBox dims item.bounds) items i no_item within boxes in
    let bit = met i x (slice_get-get_or items i no_item within) in
    not_true (test x.bounds) (λ passes. false≢true (sym unset ∙ bit ∙ meets x.bounds box passes))

module _ {X : Type 0} {f : Item → X} {items : List Item} {i : ℕ} {old now : List X} where
  pub sought_unset : {D : ℕ} (q : Query D) (tag : Option ℕ) (window : Bounds) (mask : ℕ) → i < length items
      → ((b : Bounds) → admits q b ≡ true → meets_test D b window ≡ true)
      → All (λ item. IsBox D item.bounds) items
      → ((place : ℕ) (item : Item) → slice_get items place ≡ Some item
      → has_bit mask place ≡ meets_test D item.bounds window) → has_bit mask i ≡ false
      → Taken f (wanted (seeks q) tag) items i old now
      → Taken f (wanted (seeks q) tag) items (i + 1) old now
  sought_unset {D} q tag window mask within meets boxes met unset so_far =
      let fails =
      unset_fails D (seeks q) window items mask i within
      (λ b box passes. meets b
      (sought_admits q b b (λ axis lt. (box.spans axis lt).ordered) (Within-refl D b) passes)) boxes
      met unset in
      let x = get_or items i no_item in
      one_passed so_far x within (get_or_default items i no_item x within)
      (ap (λ (b : Bool). b && has_tag tag (x.bounds, x.tag)) fails)

  pub admitted_unset : {D : ℕ} (q : Query D) (window : Bounds) (mask : ℕ) → i < length items
      → ((b : Bounds) → admits q b ≡ true → meets_test D b window ≡ true)
      → All (λ item. IsBox D item.bounds) items
      → ((place : ℕ) (item : Item) → slice_get items place ≡ Some item
      → has_bit mask place ≡ meets_test D item.bounds window) → has_bit mask i ≡ false
      → Taken f (λ item. admits q item.bounds) items i old now
      → Taken f (λ item. admits q item.bounds) items (i + 1) old now
  admitted_unset {D} q window mask within meets boxes met unset so_far =
      let fails =
      unset_fails D (admits q) window items mask i within (λ b box passes. meets b passes) boxes met
      unset in
      one_passed so_far (get_or items i no_item) within
      (get_or_default items i no_item (get_or items i no_item) within) fails

-- ---- entries up to the next whose bit is set

one_past : {X : Type 0} (f : Item → X) (test : Item → Bool) (items : List Item) (i : ℕ) (old now : List X)
    → length items ≤ i → Taken f test items i old now → Taken f test items (i + 1) old now
one_past f test items i old now past so_far = record {
  is = so_far.is
      ∙ ap (λ (xs : List Item). old ++ map f (filter test xs))
      (take_all i items past ∙ sym (take_all (i + 1) items (omega (arith, past))));
}

skip : {X : Type 0} (f : Item → X) (test : Item → Bool) (items : List Item) (old now : List X) (mask i : ℕ)
    → ((k : ℕ) → k < length items → has_bit mask k ≡ false → Taken f test items k old now
    → Taken f test items (k + 1) old now)
    → Taken f test items i old now → (d : ℕ) → ((k : ℕ) → i ≤ k → k < i + d → has_bit mask k ≡ false)
    → Taken f test items (i + d) old now
skip f test items old now mask i step so_far zero unset =
    subst (λ (n : ℕ). Taken f test items n old now) (let e : i ≡ i + 0 = omega arith in e) so_far
skip f test items old now mask i step so_far (suc d) unset =
    let before =
    skip f test items old now mask i step so_far d (λ k low high. unset k low (omega (arith, high))) in
    let next : Taken f test items (i + d + 1) old now = ⊎_elim
    (λ (within : i + d < length items). step (i + d) within (unset (i + d) (omega arith) (omega arith))
    before)
    (λ (past : length items ≤ i + d). one_past f test items (i + d) old now past before)
    (cases_lt (i + d) (length items)) in
    subst (λ (n : ℕ). Taken f test items n old now) (let e : i + d + 1 ≡ i + suc d = omega arith in e) next

skip_to : {X : Type 0} (f : Item → X) (test : Item → Bool) (items : List Item) (old now : List X)
    (mask i j : ℕ)
    → ((k : ℕ) → k < length items → has_bit mask k ≡ false → Taken f test items k old now
    → Taken f test items (k + 1) old now)
    → Taken f test items i old now → i ≤ j → ((k : ℕ) → i ≤ k → k < j → has_bit mask k ≡ false)
    → Taken f test items j old now
skip_to f test items old now mask i j step so_far up unset =
    let e : i + (j - i) ≡ j = omega (arith, up) in
    subst (λ (n : ℕ). Taken f test items n old now) e
    (skip f test items old now mask i step so_far (j - i)
    (λ k low high. unset k low (omega (arith, high, e))))

module _ {X : Type 0} {f : Item → X} {items : List Item} {old now : List X} where
  pub sought_to : {D : ℕ} (q : Query D) (tag : Option ℕ) (window : Bounds) (mask i j : ℕ)
      → ((b : Bounds) → admits q b ≡ true → meets_test D b window ≡ true)
      → All (λ item. IsBox D item.bounds) items
      → ((place : ℕ) (item : Item) → slice_get items place ≡ Some item
      → has_bit mask place ≡ meets_test D item.bounds window)
      → i ≤ j → ((k : ℕ) → i ≤ k → k < j → has_bit mask k ≡ false)
      → Taken f (wanted (seeks q) tag) items i old now
      → Taken f (wanted (seeks q) tag) items j old now
  sought_to q tag window mask i j meets boxes met up unset so_far =
      skip_to f (wanted (seeks q) tag) items old now mask i j
      (λ k within no_bit taken. sought_unset q tag window mask within meets boxes met no_bit taken)
      so_far up unset

  pub admitted_to : {D : ℕ} (q : Query D) (window : Bounds) (mask i j : ℕ)
      → ((b : Bounds) → admits q b ≡ true → meets_test D b window ≡ true)
      → All (λ item. IsBox D item.bounds) items
      → ((place : ℕ) (item : Item) → slice_get items place ≡ Some item
      → has_bit mask place ≡ meets_test D item.bounds window)
      → i ≤ j → ((k : ℕ) → i ≤ k → k < j → has_bit mask k ≡ false)
      → Taken f (λ item. admits q item.bounds) items i old now
      → Taken f (λ item. admits q item.bounds) items j old now
  admitted_to q window mask i j meets boxes met up unset so_far =
      skip_to f (λ item. admits q item.bounds) items old now mask i j
      (λ k within no_bit taken. admitted_unset q window mask within meets boxes met no_bit taken) so_far
      up unset
