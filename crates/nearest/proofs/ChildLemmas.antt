-- What a loop over the entries of a node above the leaves has appended, where those are passed over that are
-- too far.
use Rattle.std.proofs.Common.{◌≡◌, ◌∙◌, ℕ, ◌+◌, ◌-◌, ◌^◌, ◌<◌, ◌≤◌, false, Some, List, [], ◌∷◌, ◌++◌, length}
use Rattle.std.proofs.Common.{take, get_or, map, All, IsPermutation, refl, sym, ap, subst, ⊎_elim, arith}
use Rattle.std.proofs.Common.{append_assoc}
use Rattle.std.specs.Prelude.{slice_get}
use Rattle.std.proofs.lemmas.Bool.{cases_lt}
use Rattle.std.proofs.lemmas.List.{append-nil, get_or_default, map_more, take_all}
use Rattle.std.proofs.lemmas.List.Elements.{All-cons, All-nil}
use Rattle.std.proofs.lemmas.List.Sorted.{All-permutation, IsPermutation-append_left, IsPermutation-middle}
use Rattle.std.proofs.lemmas.List.Sorted.{IsPermutation-refl, IsPermutation-sym, IsPermutation-to_front}
use Rattle.std.proofs.lemmas.List.Sorted.{IsPermutation-trans, sum_by-IsPermutation}
use Rattle.std.proofs.lemmas.List.Sums.{sum_by-append}
use Rattle.std.proofs.lemmas.Option.{slice_get-get_or}
use Rattle.box_math.specs.Bounds.{Bounds}
use Rattle.box_math.specs.Masks.{has_bit}
use Rattle.tree_node.specs.Boxes.{no_item}
use Rattle.tree_node.specs.Nodes.{Item}
use Rattle.nearest.specs.declared.candidate.Candidate.{Candidate}
use Rattle.nearest.specs.Candidates.{Appends, Past, candidate_at, work_in, work_of}
use Rattle.nearest.proofs.FrontierLemmas.{all_front}
use Rattle.nearest.proofs.OfferLemmas.{passed_to}
use Rattle.nearest.proofs.WorkLemmas.{less_work}

-- the entries before a place are appended
pub record Appending (far : Bounds → ℕ) (level k : ℕ) (best : List (ℕ × ℕ)) (items : List Item) (i : ℕ)
    (before now : List Candidate) : Type 0 where
  pub took : Appends k best (map (candidate_at far level) (take i items)) before now

pub none_appended : (far : Bounds → ℕ) (level k : ℕ) (best : List (ℕ × ℕ)) (items : List Item)
    (before : List Candidate) → Appending far level k best items 0 before before
none_appended far level k best items before = record {
  took = record {
    kept = [];
    gone = [];
    all = IsPermutation-refl [];
    past = All-nil (λ c. Past c.distance k best);
    is = sym (append-nil before);
  };
}

one_in_front : (children kept gone : List Candidate) (x : Candidate) → IsPermutation children (kept ++ gone)
    → IsPermutation (children ++ x ∷ []) (kept ++ x ∷ gone)
one_in_front children kept gone x perm =
    IsPermutation-trans (children ++ x ∷ []) (x ∷ (kept ++ gone)) (kept ++ x ∷ gone)
    (IsPermutation-trans (children ++ x ∷ []) ((kept ++ gone) ++ x ∷ []) (x ∷ (kept ++ gone))
    (IsPermutation-append_left (x ∷ []) children (kept ++ gone) perm)
    (IsPermutation-to_front (kept ++ gone) x))
    (IsPermutation-sym (kept ++ x ∷ gone) (x ∷ (kept ++ gone)) (IsPermutation-middle kept x gone))

module _ {far : Bounds → ℕ} {level k : ℕ} {best : List (ℕ × ℕ)} {items : List Item} {i : ℕ}
    {before now : List Candidate} where
  pub one_appended : Appending far level k best items i before now → (next : List Candidate)
      → i < length items → next ≡ now ++ candidate_at far level (get_or items i no_item) ∷ []
      → Appending far level k best items (i + 1) before next
  one_appended was next within is =
      let so_far = was.took in
      let x = candidate_at far level (get_or items i no_item) in
      let more : map (candidate_at far level) (take (i + 1) items)
      ≡ map (candidate_at far level) (take i items) ++ x ∷ [] =
      map_more (candidate_at far level) items i no_item within in
      record {
        took = record {
          kept = so_far.kept ++ x ∷ [];
          gone = so_far.gone;
          all = subst (λ (cs : List Candidate). IsPermutation cs ((so_far.kept ++ x ∷ []) ++ so_far.gone))
              (sym more)
              (subst (IsPermutation (map (candidate_at far level) (take i items) ++ x ∷ []))
              (sym (append_assoc so_far.kept (x ∷ []) so_far.gone))
              (one_in_front (map (candidate_at far level) (take i items)) so_far.kept so_far.gone x
              so_far.all));
          past = so_far.past;
          is = is ∙ ap (λ (cs : List Candidate). cs ++ x ∷ []) so_far.is
              ∙ append_assoc before so_far.kept (x ∷ []);
        };
      }

  pub one_left : Appending far level k best items i before now → i < length items
      → Past (far (get_or items i no_item).bounds) k best
      → Appending far level k best items (i + 1) before now
  one_left was within beyond =
      let so_far = was.took in
      let x = candidate_at far level (get_or items i no_item) in
      let more : map (candidate_at far level) (take (i + 1) items)
      ≡ map (candidate_at far level) (take i items) ++ x ∷ [] =
      map_more (candidate_at far level) items i no_item within in
      record {
        took = record {
          kept = so_far.kept;
          gone = x ∷ so_far.gone;
          all = subst (λ (cs : List Candidate). IsPermutation cs (so_far.kept ++ x ∷ so_far.gone)) (sym more)
              (one_in_front (map (candidate_at far level) (take i items)) so_far.kept so_far.gone x
              so_far.all);
          past = All-cons (λ c. Past c.distance k best) x so_far.gone beyond so_far.past;
          is = so_far.is;
        };
      }

  -- past the end nothing is appended
  none_there : Appending far level k best items i before now → length items ≤ i
      → Appending far level k best items (i + 1) before now
  none_there was past = record {
    took = subst (λ (xs : List Item). Appends k best (map (candidate_at far level) xs) before now)
        (take_all i items past ∙ sym (take_all (i + 1) items (omega (arith, past)))) was.took;
  }

  pub all_appended : Appending far level k best items i before now → length items ≤ i
      → Appends k best (map (candidate_at far level) items) before now
  all_appended was past =
      subst (λ (xs : List Item). Appends k best (map (candidate_at far level) xs) before now)
      (take_all i items past) was.took

-- those are passed over whose bits are not set
pub appended_to : (far : Bounds → ℕ) (level k : ℕ) (best : List (ℕ × ℕ)) (items : List Item)
    (before now : List Candidate) (mask i j : ℕ)
    → ((place : ℕ) (item : Item) → slice_get items place ≡ Some item → has_bit mask place ≡ false
    → Past (far item.bounds) k best)
    → i ≤ j → ((p : ℕ) → i ≤ p → p < j → has_bit mask p ≡ false)
    → Appending far level k best items i before now → Appending far level k best items j before now
appended_to far level k best items before now mask i j beyond up unset so_far =
    passed_to (λ (n : ℕ). Appending far level k best items n before now)
    (λ (n : ℕ). has_bit mask n ≡ false)
    (λ n none (a : Appending far level k best items n before now). ⊎_elim
    (λ (within : n < length items). one_left a within
    (beyond n (get_or items n no_item) (slice_get-get_or items n no_item within) none))
    (λ (past : length items ≤ n). none_there a past)
    (cases_lt n (length items)))
    i j up unset so_far

-- the child that an entry names, at its distance
pub child_at : (far : Bounds → ℕ) (level : ℕ) (items : List Item) (i distance : ℕ) (item : Item)
    → i < length items → item ≡ get_or items i item → distance ≡ far (get_or items i no_item).bounds
    → (child : Candidate) → child ≡ record { distance = distance; page = item.reference; level = level - 1 }
    → child ≡ candidate_at far level (get_or items i no_item)
child_at far level items i distance item within at is child made =
    let same : item ≡ get_or items i no_item = at ∙ get_or_default items i item no_item within in
    made ∙ (rw (is, ← same) refl)

-- the same where its distance was measured alone
pub child_in : (far : Bounds → ℕ) (level : ℕ) (items : List Item) (i distance : ℕ) (item : Item)
    → i < length items → item ≡ get_or items i item → distance ≡ far item.bounds
    → (child : Candidate) → child ≡ record { distance = distance; page = item.reference; level = level - 1 }
    → child ≡ candidate_at far level (get_or items i no_item)
child_in far level items i distance item within at is child made =
    let same : item ≡ get_or items i no_item = at ∙ get_or_default items i item no_item within in
    child_at far level items i distance item within at (is ∙ ap (λ (x : Item). far x.bounds) same) child made

-- ---- what was appended

module _ {k : ℕ} {best : List (ℕ × ℕ)} {children old new : List Candidate}
    (a : Appends k best children old new) where
  pub kept_so : (P : Candidate → Type 0) → All P children → All P a.kept
  kept_so P all = all_front P a.kept a.gone (All-permutation P children (a.kept ++ a.gone) a.all all)

  kept_work : work_in a.kept ≤ work_in children
  kept_work =
      let same = sum_by-IsPermutation work_of children (a.kept ++ a.gone) a.all in
      let parts = sum_by-append work_of a.kept a.gone in
      omega (arith, same, parts)

  pub appended_work : work_in new ≤ work_in old + work_in children
  appended_work =
      let now : work_in new ≡ work_in old + work_in a.kept = ap work_in a.is
      ∙ sum_by-append work_of old a.kept in
      omega (arith, now, kept_work)

-- at most 100 children are less work than their node
pub less_appended : (far : Bounds → ℕ) (level k : ℕ) (best : List (ℕ × ℕ)) (items : List Item)
    (old new : List Candidate) → 0 < level → length items ≤ 100
    → Appends k best (map (candidate_at far level) items) old new → work_in new < work_in old + 101 ^ level
less_appended far level k best items old new above few a =
    let children = map (candidate_at far level) items in
    let all = less_work far level items old (old ++ children) above refl few in
    let parts = sum_by-append work_of old children in
    omega (arith, appended_work a, all, parts)
