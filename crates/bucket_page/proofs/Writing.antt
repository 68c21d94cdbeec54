-- The objects of a bucket, written one after the other.
use Rattle.std.proofs.Common.{ap, ◌≡◌, ◌⊎◌, ℕ, ◌+◌, ◌<◌, ◌≤◌, List, [], length, get_or, sym, ◌∙◌, subst}
use Rattle.std.proofs.Common.{arith, below_more, inl, inr, ⊎_elim}
use Rattle.block_bytes.specs.Numbers.{number_at}
use Rattle.block_bytes.specs.PlaceLaws.{first_places-are}
use Rattle.box_math.specs.Bounds.{IsBox}
use Rattle.box_math.specs.Objects.{bounds_of}
use Rattle.box_bytes.specs.Corners.{Keeps}
use Rattle.bucket_page.specs.Layout.{Entry, object_at, object_in, entry_place, entry_size, HasOrderedBox}
use Rattle.bucket_page.specs.Layout.{IsClearOfEntry, IsHead, IsTidy, Spells, IsNamed}
use Rattle.bucket_page.proofs.Places.{entry_place-more, entry_place-above, entry_place-lt, object_stays}

le_or_lt : (a b : ℕ) → (a ≤ b) ⊎ (b < a)
le_or_lt a b = grind arith

-- a byte that is not named is after the head, and outside each entry
pub unnamed_behind : (size count k : ℕ) → (IsNamed size count k → ⊥) → 8 ≤ k
unnamed_behind size count k unnamed =
    ⊎_elim (λ (le : 8 ≤ k). le) (λ (lt : k < 8). absurd (unnamed (inl lt))) (le_or_lt 8 k)

pub unnamed_outside : (size place count k : ℕ) → place < count → (IsNamed size count k → ⊥)
    → IsClearOfEntry size place 1 k
unnamed_outside size place count k lt unnamed =
    let above = entry_place-above size place in
    let below = entry_place-lt size place count lt in
    ⊎_elim (λ (le : entry_place size count ≤ k). inr (omega arith))
    (λ (less : k < entry_place size count). ⊎_elim (λ (le : 16 ≤ k). absurd (unnamed (inr (le, less))))
    (λ (low : k < 16). inl (omega arith)) (le_or_lt 16 k))
    (le_or_lt (entry_place size count) k)

pub named_more : (size place k : ℕ) → IsNamed size place k → IsNamed size (place + 1) k
named_more size place k (inl h) = inl h
named_more size place k (inr h) = let le = h.0 in let lt = h.1 in
    inr (le, omega (arith, entry_place-more size place))

pub head_clear : (size place n at : ℕ) → at + n ≤ 8 → IsClearOfEntry size place n at
head_clear size place n at h = inl (omega (arith, entry_place-above size place))

-- any object
pub nothing : Entry
nothing = (0, (record { low = []; high = [] }, 0))

-- a page in which the head and the first objects are written, and nothing else
pub record Written (dims next : ℕ) (items : List (Entry)) (place : ℕ) (page : List ℕ) : Type 0 where
  pub size : length page ≡ 4096
  pub head : IsHead dims (length items) next page
  pub each : (k : ℕ) → k < place → (other : Entry) → get_or items k other ≡ object_in dims 7 page k
  pub ordered : (k : ℕ) → k < place → HasOrderedBox dims (object_in dims 7 page k)
  pub rest : (k : ℕ) → (IsNamed (entry_size dims 7) place k → ⊥) → number_at 1 k page ≡ 0

pub written_first : (dims next : ℕ) (items : List (Entry)) (page : List ℕ) → length page ≡ 4096
    → IsHead dims (length items) next page → ((k : ℕ) → 8 ≤ k → number_at 1 k page ≡ 0)
    → Written dims next items 0 page
written_first dims next items page size head none = record {
  size = size;
  head = head;
  each = λ k lt other. absurd (omega arith);
  ordered = λ k lt. absurd (omega arith);
  rest = λ k unnamed. none k (unnamed_behind (entry_size dims 7) 0 k unnamed);
}

pub written_more : (dims next : ℕ) (items : List (Entry)) (place : ℕ) (old new : List ℕ) (object : Entry)
    → Written dims next items place old → length new ≡ 4096
    → object_in dims 7 new place ≡ object → IsBox dims (bounds_of object.1)
    → ((other : Entry) → get_or items place other ≡ object)
    → Keeps (IsClearOfEntry (entry_size dims 7) place) old new → Written dims next items (place + 1) new
written_more dims next items place old new object w size is box item keeps = record {
  size = size;
  head = record {
    head = record {
      kind_is = keeps 1 0 (head_clear (entry_size dims 7) place 1 0 (omega arith)) ∙ w.head.head.kind_is;
      dims_is = keeps 1 1 (head_clear (entry_size dims 7) place 1 1 (omega arith)) ∙ w.head.head.dims_is;
      count_is = keeps 2 2 (head_clear (entry_size dims 7) place 2 2 (omega arith)) ∙ w.head.head.count_is;
    };
    next_is = keeps 4 4 (head_clear (entry_size dims 7) place 4 4 (omega arith)) ∙ w.head.next_is;
  };
  each = below_more (λ k. (other : Entry) → get_or items k other ≡ object_in dims 7 new k) place
      (λ k lt other. w.each k lt other
      ∙ sym (object_stays dims 7 place k old new (λ e. absurd (omega (arith, lt, e))) keeps))
      (λ other. item other ∙ sym is);
  ordered = below_more (λ k. HasOrderedBox dims (object_in dims 7 new k)) place
      (λ k lt. subst (HasOrderedBox dims)
      (sym (object_stays dims 7 place k old new (λ e. absurd (omega (arith, lt, e))) keeps))
      (w.ordered k lt))
      (subst (HasOrderedBox dims) (sym is) (λ axis lt. (box.spans axis lt).ordered));
  rest = λ k unnamed. keeps 1 k
      (unnamed_outside (entry_size dims 7) place (place + 1) k (omega arith) unnamed)
      ∙ w.rest k (λ named. unnamed (named_more (entry_size dims 7) place k named));
}

pub written_spells : (dims next : ℕ) (items : List (Entry)) (place : ℕ) (page : List ℕ)
    → Written dims next items place page → length items ≤ place → length items ≤ 100 → 0 < length items
    → Spells dims page (record { next = next; entries = items })
written_spells dims next items place page w all few some =
    let count : number_at 2 2 page ≡ length items = w.head.head.count_is in
    let by_kind : (k : ℕ)
    → object_in dims 7 page k ≡ object_at dims page k =
    λ k. ap (λ (kind : ℕ). object_in dims kind page k) (sym w.head.head.kind_is) in
    record {
      head = record {
        kind = inl w.head.head.kind_is;
        dims_is = w.head.head.dims_is;
        some = omega arith;
        few = omega arith;
      };
      next = w.head.next_is;
      ordered = λ k lt. subst (HasOrderedBox dims) (by_kind k) (w.ordered k (omega arith));
      entries =
          first_places-are (object_at dims page) (number_at 2 2 page) items nothing (sym count)
          (λ k lt. w.each k (omega arith) nothing ∙ by_kind k);
    }

pub written_tidy : (dims next : ℕ) (items : List Entry) (place : ℕ) (page : List ℕ)
    → Written dims next items place page → place ≡ length items → IsTidy dims page
written_tidy dims next items place page w all = λ k unnamed. w.rest k (λ named. unnamed
    (subst (λ (kind : ℕ). IsNamed (entry_size dims kind) (number_at 2 2 page) k) (sym w.head.head.kind_is)
    (subst (λ (n : ℕ). IsNamed (entry_size dims 7) n k) (all ∙ sym w.head.head.count_is) named)))
