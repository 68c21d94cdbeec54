-- Of objects that are offered those may be passed over that are no nearer than a distance than which k are
-- nearer.
use Rattle.std.proofs.Common.{◌≡◌, ◌∙◌, ℕ, zero, suc, ◌+◌, ◌<◌, ◌≤◌, Bool, true, false, cond, nat_lt, List, []}
use Rattle.std.proofs.Common.{◌∷◌, ◌++◌, ◌⊎◌, Some, length, take, get_or, map, refl, sym, ap, subst, inl, inr, ⊎_elim}
use Rattle.std.proofs.Common.{arith}
use Rattle.std.specs.Prelude.{slice_get}
use Rattle.std.proofs.lemmas.Option.{slice_get-get_or}
use Rattle.box_math.specs.Masks.{has_bit}
use Rattle.nearest.proofs.OfferLemmas.{passed_to}
use Rattle.std.specs.List.{count_by}
use Rattle.std.proofs.lemmas.Bool.{cases_lt}
use Rattle.std.proofs.lemmas.Bool.Decides.{nat_tests}
use Rattle.std.proofs.lemmas.List.{map_more, take_all}
use Rattle.std.proofs.lemmas.List.Recursion.{is_count_by}
use Rattle.box_math.specs.Bounds.{Bounds}
use Rattle.box_math.specs.Nearest.{comes_first, put_nearest_first, nearest_first}
use Rattle.tree_node.specs.Boxes.{no_item}
use Rattle.tree_node.specs.Nodes.{Item}
use Rattle.nearest.specs.Candidates.{Past, offered, row_at}
use Rattle.nearest.proofs.AnswerLemmas.{AllPast, NoneNearer, and_then, and_then-listed, first_of_all}
use Rattle.nearest.proofs.AnswerLemmas.{nearest_same, offered_are_first, past_le, past_put, put_take, take_few}
use Rattle.nearest.proofs.OrderLemmas.{Ascends-nearest_first, comes_first-total, first_nearer, listed}
use Rattle.nearest.proofs.OrderLemmas.{listed-append, listed-nearest_first, one_order}

-- what is in order stays
pub ordered_once : (xs : List (ℕ × ℕ)) → nearest_first (nearest_first xs) ≡ nearest_first xs
ordered_once xs =
    one_order (nearest_first (nearest_first xs)) (nearest_first xs) (Ascends-nearest_first (nearest_first xs))
    (Ascends-nearest_first xs) (λ z. listed-nearest_first z (nearest_first xs))

abbrev one_if : Bool → ℕ
one_if b = cond b 1 0

-- how many are nearer
abbrev pub nearer : ℕ → List (ℕ × ℕ) → ℕ
nearer d [] = 0
nearer d (x ∷ xs) = cond (nat_lt x.1 d) 1 0 + nearer d xs

nearer_push : (d : ℕ) (xs : List (ℕ × ℕ)) (x : ℕ × ℕ)
    → nearer d (xs ++ x ∷ []) ≡ nearer d xs + cond (nat_lt x.1 d) 1 0
nearer_push d [] x = omega arith
nearer_push d (y ∷ ys) x = omega (arith, nearer_push d ys x)

-- as many squares are less
abbrev less : ℕ → List ℕ → ℕ
less d [] = 0
less d (n ∷ ns) = cond (nat_lt n d) (1 + less d ns) (less d ns)

less_is : (d : ℕ) (far : Bounds → ℕ) (items : List Item) (squares : List ℕ) → length items ≤ length squares
    → ((k : ℕ) → k < length items → get_or squares k 0 ≡ far (get_or items k no_item).bounds)
    → less d (take (length items) squares) ≡ nearer d (map (row_at far) items)
less_is d far [] squares long exact = refl
less_is d far (i ∷ items) [] long exact = absurd (omega (arith, long))
less_is d far (i ∷ items) (s ∷ squares) long exact =
    let later = less_is d far items squares (omega (arith, long)) (λ k within. exact (suc k) (omega (arith, within))) in
    at (nat_lt s d) (nat_lt (far i.bounds) d) (ap (λ (n : ℕ). nat_lt n d) (exact 0 (omega arith))) later
  where
    at : (a b : Bool) → a ≡ b → {m n : ℕ} → m ≡ n → cond a (1 + m) m ≡ cond b 1 0 + n
    at true true e same = omega (arith, same)
    at false false e same = omega (arith, same)
    at true false e same = absurd (cc)
    at false true e same = absurd (cc)

pub counted_nearer : (d : ℕ) (far : Bounds → ℕ) (items : List Item) (squares : List ℕ)
    → length items ≤ length squares
    → ((k : ℕ) → k < length items → get_or squares k 0 ≡ far (get_or items k no_item).bounds)
    → count_by (λ square. nat_lt square d) (take (length items) squares) ≡ nearer d (map (row_at far) items)
counted_nearer d far items squares long exact =
    sym (is_count_by (less d) (λ square. nat_lt square d) refl (λ n ns. refl) (take (length items) squares))
    ∙ less_is d far items squares long exact

-- ---- where so many are nearer, the first of all are

put_near : (d k : ℕ) (x : ℕ × ℕ) (ys : List (ℕ × ℕ)) → x.1 < d → Past d k ys
    → Past d (suc k) (put_nearest_first x ys)
put_near d k x [] near h = (near, h)
put_near d zero x (y ∷ ys) near h = at (comes_first x y) refl
  where
    at : (b : Bool) → comes_first x y ≡ b → Past d 1 (cond b (x ∷ y ∷ ys) (y ∷ put_nearest_first x ys))
    at true e = (near, tt)
    at false e = (omega (arith, near, first_nearer y x (comes_first-total x y e)), tt)
put_near d (suc k) x (y ∷ ys) near h = at (put_near d k x ys near h.1) (comes_first x y)
  where
    at : Past d (suc k) (put_nearest_first x ys) → (b : Bool)
        → Past d (suc (suc k)) (cond b (x ∷ y ∷ ys) (y ∷ put_nearest_first x ys))
    at later true = (near, h)
    at later false = (h.0, later)

pub many_past : (d k : ℕ) (xs : List (ℕ × ℕ)) → k ≤ nearer d xs → Past d k (nearest_first xs)
many_past d zero xs enough = tt
many_past d (suc k) [] enough = absurd (omega (arith, enough))
many_past d (suc k) (x ∷ xs) enough = at (many_past d k xs) (many_past d (suc k) xs) (nat_lt x.1 d) refl
  where
    at : (k ≤ nearer d xs → Past d k (nearest_first xs))
        → (suc k ≤ nearer d xs → Past d (suc k) (nearest_first xs)) → (b : Bool) → nat_lt x.1 d ≡ b
        → Past d (suc k) (put_nearest_first x (nearest_first xs))
    at one all true e = put_near d k x (nearest_first xs) (grind (arith, nat_tests))
        (one (omega (arith, enough, ap one_if e)))
    at one all false e = past_put d (suc k) x (nearest_first xs) (all (omega (arith, enough, ap one_if e)))

all_past_far : (d k : ℕ) (seen gone : List (ℕ × ℕ)) → NoneNearer d gone → Past d k seen → AllPast k seen gone
all_past_far d k seen [] far h = tt
all_past_far d k seen (x ∷ gone) far h = (past_le d x.1 k seen far.0 h, all_past_far d k seen gone far.1 h)

-- ---- the objects of a leaf

-- The entries before place i are offered, or no nearer than d, and all that are nearer were offered.
pub record OfferingFirst (far : Bounds → ℕ) (d k : ℕ) (before best : List (ℕ × ℕ)) (items : List Item)
    (i : ℕ) : Type 0 where
  pub few : length best ≤ k
  pub begins : before ≡ take k (nearest_first before)
  pub seen : List (ℕ × ℕ)
  pub gone : List (ℕ × ℕ)
  pub first : best ≡ take k (nearest_first seen)
  pub same : (z : ℕ × ℕ) → listed z (map (row_at far) (take i items)) + listed z before
      ≡ listed z seen + listed z gone
  pub past : NoneNearer d gone
  pub near : nearer d (map (row_at far) (take i items)) ≤ nearer d seen

pub first_none : (far : Bounds → ℕ) (d k : ℕ) (before : List (ℕ × ℕ)) (items : List Item) → length before ≤ k
    → nearest_first before ≡ before → OfferingFirst far d k before before items 0
first_none far d k before items few order =
    let begins : before ≡ take k (nearest_first before) =
    sym (take_all k before few) ∙ ap (take k) (sym order) in
    record {
      few = few;
      begins = begins;
      seen = before;
      gone = [];
      first = begins;
      same = λ z. omega arith;
      past = tt;
      near = omega arith;
    }

module _ {far : Bounds → ℕ} {d k : ℕ} {before best : List (ℕ × ℕ)} {items : List Item} {i : ℕ} where
  pub first_offered : OfferingFirst far d k before best items i → (x : ℕ × ℕ) (next : List (ℕ × ℕ))
      → i < length items → x ≡ row_at far (get_or items i no_item)
      → next ≡ take k (put_nearest_first x best) → OfferingFirst far d k before next items (i + 1)
  first_offered o x next within is now =
      let rows = map (row_at far) (take i items) in
      let more : map (row_at far) (take (i + 1) items) ≡ rows ++ x ∷ [] =
      map_more (row_at far) items i no_item within ∙ ap (λ (y : ℕ × ℕ). rows ++ y ∷ []) (sym is) in
      record {
        few = subst (λ (b : List (ℕ × ℕ)). length b ≤ k) (sym now) (take_few k (put_nearest_first x best));
        begins = o.begins;
        seen = x ∷ o.seen;
        gone = o.gone;
        first = now ∙ ap (λ (b : List (ℕ × ℕ)). take k (put_nearest_first x b)) o.first
            ∙ put_take k x (nearest_first o.seen);
        same = λ z. omega (arith, ap (listed z) more, listed-append z rows (x ∷ []), o.same z);
        past = o.past;
        near = omega (arith, ap (nearer d) more, nearer_push d rows x, o.near);
      }

  pub first_passed : OfferingFirst far d k before best items i → i < length items
      → d ≤ far (get_or items i no_item).bounds → OfferingFirst far d k before best items (i + 1)
  first_passed o within far_off =
      let rows = map (row_at far) (take i items) in
      let x = row_at far (get_or items i no_item) in
      let more : map (row_at far) (take (i + 1) items) ≡ rows ++ x ∷ [] =
      map_more (row_at far) items i no_item within in
      let not_near : nat_lt x.1 d ≡ false = grind (arith, nat_tests) in
      record {
        few = o.few;
        begins = o.begins;
        seen = o.seen;
        gone = x ∷ o.gone;
        first = o.first;
        same = λ z. omega (arith, ap (listed z) more, listed-append z rows (x ∷ []), o.same z);
        past = (far_off, o.past);
        near = omega (
          arith,
          ap (nearer d) more,
          nearer_push d rows x,
          ap one_if not_near,
          o.near,
        );
      }

  pub all_first : OfferingFirst far d k before best items i → length items ≤ i
      → k ≤ nearer d (map (row_at far) items) → best ≡ offered k before (map (row_at far) items)
  all_first o whole enough =
      let rows = map (row_at far) items in
      let all : map (row_at far) (take i items) ≡ rows = ap (map (row_at far)) (take_all i items whole) in
      let past : Past d k (nearest_first o.seen) =
      many_past d k o.seen (omega (arith, enough, ap (nearer d) all, o.near)) in
      let one : nearest_first (and_then rows before) ≡ nearest_first (o.gone ++ o.seen) =
      nearest_same (and_then rows before) (o.gone ++ o.seen) (λ z. omega (
        arith,
        and_then-listed z rows before,
        ap (listed z) all,
        o.same z,
        listed-append z o.gone o.seen,
      )) in
      o.first
      ∙ sym (first_of_all k o.seen o.gone (all_past_far d k (nearest_first o.seen) o.gone o.past past))
      ∙ ap (take k) (sym one) ∙ sym (offered_are_first k before rows before o.begins)

  first_unset : (d ≤ far (get_or items i no_item).bounds ⊎ (length items ≤ i))
      → OfferingFirst far d k before best items i → OfferingFirst far d k before best items (i + 1)
  first_unset either o = ⊎_elim
      (λ (within : i < length items). first_passed o within (⊎_elim
      (λ (far_off : d ≤ far (get_or items i no_item).bounds). far_off)
      (λ (past : length items ≤ i). absurd (omega (arith, past, within))) either))
      (λ (past : length items ≤ i).
      let same : take i items ≡ take (i + 1) items =
      take_all i items past ∙ sym (take_all (i + 1) items (omega (arith, past))) in
      record {
        few = o.few;
        begins = o.begins;
        seen = o.seen;
        gone = o.gone;
        first = o.first;
        same = λ z. ap (λ (xs : List Item). listed z (map (row_at far) xs) + listed z before) (sym same)
            ∙ o.same z;
        past = o.past;
        near = omega (arith, o.near, ap (λ (xs : List Item). nearer d (map (row_at far) xs)) same);
      })
      (cases_lt i (length items))

-- those are passed over whose bits are not set
pub first_to : (far : Bounds → ℕ) (d k : ℕ) (before best : List (ℕ × ℕ)) (items : List Item) (mask i j : ℕ)
    → ((place : ℕ) (item : Item) → slice_get items place ≡ Some item → has_bit mask place ≡ false
    → d ≤ far item.bounds)
    → i ≤ j → ((p : ℕ) → i ≤ p → p < j → has_bit mask p ≡ false)
    → OfferingFirst far d k before best items i → OfferingFirst far d k before best items j
first_to far d k before best items mask i j beyond up unset o =
    passed_to (λ (n : ℕ). OfferingFirst far d k before best items n)
    (λ (n : ℕ). d ≤ far (get_or items n no_item).bounds ⊎ (length items ≤ n))
    (λ n none (m : OfferingFirst far d k before best items n). first_unset none m) i j up
    (λ p low high. ⊎_elim
    (λ (within : p < length items). inl (beyond p (get_or items p no_item)
    (slice_get-get_or items p no_item within) (unset p low high)))
    (λ (past : length items ≤ p). inr past)
    (cases_lt p (length items)))
    o
