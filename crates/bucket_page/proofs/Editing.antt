-- A bucket page changed in place.
use Rattle.std.proofs.Common.{◌≡◌, ◌∙◌, ℕ, ◌+◌, ◌<◌, ◌≤◌, List, [], ◌∷◌, ◌++◌, length, Some, ap, arith}
use Rattle.std.proofs.Common.{below_more, ◌-◌, get_or, set, take, inl, inr, subst, sym, ◌⊎◌, ⊎_elim}
use Rattle.std.proofs.lemmas.Bool.{cases_eq}
use Rattle.std.proofs.lemmas.List.{get_or-set_other, get_or-set_same, get_or-take, length-set, length-take-le}
use Rattle.block_bytes.specs.Laws.{number_at-put, number_at-put_other}
use Rattle.block_bytes.specs.Numbers.{number_at, put_number}
use Rattle.block_bytes.specs.PlaceLaws.{first_places-are, first_places-more, first_places-same}
use Rattle.block_bytes.specs.Places.{first_places}
use Rattle.box_bytes.specs.Corners.{Keeps}
use Rattle.box_math.specs.Bounds.{IsBox}
use Rattle.box_math.specs.Objects.{bounds_of}
use Rattle.bucket_page.specs.Layout.{BucketContent, Entry, HasBucketHead, HasOrderedBox, IsClearOfEntry}
use Rattle.bucket_page.specs.Layout.{IsNamed, IsTidy, bucket_at, entry_place, entry_size, object_at}
use Rattle.bucket_page.specs.Layout.{object_in, popped, pushed, replaced}
use Rattle.bucket_page.proofs.Places.{entry_place-above, entry_place-more, object_same, object_stays}
use Rattle.bucket_page.proofs.Reading.{all_places, count_of_bucket, object_of_bucket, spells}
use Rattle.bucket_page.proofs.Writing.{head_clear, named_more, nothing, unnamed_behind, unnamed_outside}

-- ---- a page of the kind that is written

-- what it has, where its objects are read as those of that kind
module _ (dims : ℕ) (page : List ℕ) (kind_is : number_at 1 0 page ≡ 7) where
  by_kind : (k : ℕ) → object_at dims page k ≡ object_in dims 7 page k
  by_kind k = ap (λ (kind : ℕ). object_in dims kind page k) kind_is

  all_written : (count next : ℕ) → number_at 1 1 page ≡ dims → 1 ≤ count → count ≤ 100
      → count ≡ number_at 2 2 page → next ≡ number_at 4 4 page
      → ((k : ℕ) → k < count → HasOrderedBox dims (object_in dims 7 page k))
      → bucket_at dims page ≡ Some
      (record { next = next; entries = first_places (object_in dims 7 page) count })
  all_written count next dims_is some few counted is ordered =
      let head : HasBucketHead dims page =
      record {
        kind = inl kind_is;
        dims_is = dims_is;
        some = omega (arith, counted, some);
        few = omega (arith, counted, few);
      } in
      all_places dims count next page head counted is
      (λ k lt. subst (HasOrderedBox dims) (sym (by_kind k)) (ordered k lt))
      ∙ ap (λ (es : List Entry). Some (record { next = next; entries = es }))
      (first_places-same (object_at dims page) (object_in dims 7 page) count nothing (λ k lt. by_kind k))

  module _ (c : BucketContent) (is : bucket_at dims page ≡ Some c) where
    written_object : (k : ℕ) → k < length c.entries → get_or c.entries k nothing ≡ object_in dims 7 page k
    written_object k lt = object_of_bucket dims page c k nothing is lt ∙ by_kind k

    written_ordered : (k : ℕ) → k < length c.entries → HasOrderedBox dims (object_in dims 7 page k)
    written_ordered k lt =
        subst (HasOrderedBox dims) (by_kind k)
        ((spells dims page c is).ordered k (omega (arith, lt, count_of_bucket dims page c is)))

-- unnamed bytes of a page of that kind
tidy_written : (dims count : ℕ) (page : List ℕ) → number_at 1 0 page ≡ 7 → number_at 2 2 page ≡ count
    → ((k : ℕ) → (IsNamed (entry_size dims 7) count k → ⊥) → number_at 1 k page ≡ 0) → IsTidy dims page
tidy_written dims count page kind_is counted rest = λ k unnamed. rest k (λ named. unnamed
    (subst (λ (kind : ℕ). IsNamed (entry_size dims kind) (number_at 2 2 page) k) (sym kind_is)
    (subst (λ (n : ℕ). IsNamed (entry_size dims 7) n k) (sym counted) named)))

written_tidy : (dims count : ℕ) (page : List ℕ) → number_at 1 0 page ≡ 7 → number_at 2 2 page ≡ count
    → IsTidy dims page
    → (k : ℕ) → (IsNamed (entry_size dims 7) count k → ⊥) → number_at 1 k page ≡ 0
written_tidy dims count page kind_is counted tidy = λ k unnamed. tidy k (λ named. unnamed
    (subst (λ (kind : ℕ). IsNamed (entry_size dims kind) count k) kind_is
    (subst (λ (n : ℕ). IsNamed (entry_size dims (number_at 1 0 page)) n k) counted named)))

-- ---- an object written in a place, and another count

-- a number of the head, which lies clear of the entry and of the count
head_stays : (size place count n at : ℕ) (old mid : List ℕ) → length mid ≡ 4096 → at + n ≤ 8
    → Keeps (IsClearOfEntry size place) old mid → (at + n ≤ 2) ⊎ (4 ≤ at)
    → number_at n at (put_number 2 2 count mid) ≡ number_at n at old
head_stays size place count n at old mid long within keeps apart =
    number_at-put_other n at 2 2 count mid (omega (arith, long)) apart
    ∙ keeps n at (head_clear size place n at within)

-- an object does not lie in the head
counted_object : (dims count k : ℕ) (mid : List ℕ) → length mid ≡ 4096
    → object_in dims 7 (put_number 2 2 count mid) k ≡ object_in dims 7 mid k
counted_object dims count k mid long =
    object_same dims 7 k (put_number 2 2 count mid) mid
    (λ j le lt. number_at-put_other 1 j 2 2 count mid (omega (arith, long))
    (inr (omega (arith, entry_place-above (entry_size dims 7) k, le))))

counted_byte : (count k : ℕ) (mid : List ℕ) → length mid ≡ 4096 → 8 ≤ k
    → number_at 1 k (put_number 2 2 count mid) ≡ number_at 1 k mid
counted_byte count k mid long behind =
    number_at-put_other 1 k 2 2 count mid (omega (arith, long)) (inr (omega (arith, behind)))

pub edited_kind : (size place count : ℕ) (old mid : List ℕ) → length mid ≡ 4096
    → Keeps (IsClearOfEntry size place) old mid → number_at 1 0 old ≡ 7
    → number_at 1 0 (put_number 2 2 count mid) ≡ 7
edited_kind size place count old mid long keeps is =
    head_stays size place count 1 0 old mid long (omega arith) keeps (inl (omega arith)) ∙ is

-- a byte of an entry stays where another count is written
pub edited_byte : (size place count k : ℕ) (mid : List ℕ) → length mid ≡ 4096 → entry_place size place ≤ k
    → number_at 1 k (put_number 2 2 count mid) ≡ number_at 1 k mid
edited_byte size place count k mid long from =
    counted_byte count k mid long (omega (arith, from, entry_place-above size place))

-- what is clear of the entry and behind the head stays
pub edited_rest : (size place count k : ℕ) (old mid : List ℕ) → length mid ≡ 4096
    → Keeps (IsClearOfEntry size place) old mid → 8 ≤ k → IsClearOfEntry size place 1 k
    → number_at 1 k (put_number 2 2 count mid) ≡ number_at 1 k old
edited_rest size place count k old mid long keeps behind clear = counted_byte count k mid long behind
    ∙ keeps 1 k clear

-- ---- an object after the others

-- the page with the object written after those that it has, and its count raised
pub entry_pushed : (dims count : ℕ) (old mid : List ℕ) (object : Entry) (c : BucketContent)
    → bucket_at dims old ≡ Some c → number_at 1 0 old ≡ 7 → count ≡ number_at 2 2 old → length mid ≡ 4096
    → count < 100
    → object_in dims 7 mid count ≡ object → IsBox dims (bounds_of object.1)
    → Keeps (IsClearOfEntry (entry_size dims 7) count) old mid
    → bucket_at dims (put_number 2 2 (count + 1) mid) ≡ Some (pushed c object)
entry_pushed dims count old mid object c is kind_is count_is size few written box keeps =
    let entry = entry_size dims 7 in
    let new = put_number 2 2 (count + 1) mid in
    let was = spells dims old c is in
    let long : length c.entries ≡ count = sym (count_of_bucket dims old c is) ∙ sym count_is in
    let counted : number_at 2 2 new ≡ count + 1 =
    number_at-put 2 2 (count + 1) mid (omega (arith, size)) (omega (arith, few)) in
    let before : (k : ℕ) → k < count → object_in dims 7 new k ≡ object_in dims 7 old k
    = λ k lt. counted_object dims (count + 1) k mid size
    ∙ object_stays dims 7 count k old mid (λ e. absurd (omega (arith, lt, e))) keeps in
    let last : object_in dims 7 new count ≡ object = counted_object dims (count + 1) count mid size
    ∙ written in
    let here : first_places (object_in dims 7 new) count ≡ c.entries =
    sym (first_places-are (object_in dims 7 new) count c.entries nothing long
    (λ k lt. written_object dims old kind_is c is k (omega (arith, lt, long)) ∙ sym (before k lt))) in
    let next : c.next ≡ number_at 4 4 new =
    sym (head_stays entry count (count + 1) 4 4 old mid size (omega arith) keeps (inr (omega arith))
    ∙ was.next) in
    all_written dims new (edited_kind entry count (count + 1) old mid size keeps kind_is) (count + 1) c.next
    (head_stays entry count (count + 1) 1 1 old mid size (omega arith) keeps (inl (omega arith))
    ∙ was.head.dims_is) (omega arith) (omega (arith, few)) (sym counted) next
    (below_more (λ k. HasOrderedBox dims (object_in dims 7 new k)) count
    (λ k lt. subst (HasOrderedBox dims) (sym (before k lt))
    (written_ordered dims old kind_is c is k (omega (arith, lt, long))))
    (subst (HasOrderedBox dims) (sym last) (λ axis lt. (box.spans axis lt).ordered)))
    ∙ ap (λ (es : List Entry). Some (record { next = c.next; entries = es }))
    (first_places-more (object_in dims 7 new) count
    ∙ ap (λ (x : Entry). first_places (object_in dims 7 new) count ++ x ∷ []) last
    ∙ ap (λ (es : List Entry). es ++ object ∷ []) here)

pub tidy_pushed : (dims count : ℕ) (old mid : List ℕ) → number_at 1 0 old ≡ 7 → count ≡ number_at 2 2 old
    → length mid ≡ 4096 → count < 100
    → Keeps (IsClearOfEntry (entry_size dims 7) count) old mid → IsTidy dims old
    → IsTidy dims (put_number 2 2 (count + 1) mid)
tidy_pushed dims count old mid kind_is count_is size few keeps tidy =
    let entry = entry_size dims 7 in
    tidy_written dims (count + 1) (put_number 2 2 (count + 1) mid)
    (edited_kind entry count (count + 1) old mid size keeps kind_is)
    (number_at-put 2 2 (count + 1) mid (omega (arith, size)) (omega (arith, few)))
    (λ k unnamed. edited_rest entry count (count + 1) k old mid size keeps
    (unnamed_behind entry (count + 1) k unnamed)
    (unnamed_outside entry count (count + 1) k (omega arith) unnamed)
    ∙ written_tidy dims count old kind_is (sym count_is) tidy k
    (λ named. unnamed (named_more entry count k named)))

-- ---- an object in the place of another

pub entry_replaced : (dims place : ℕ) (old new : List ℕ) (object : Entry) (c : BucketContent)
    → bucket_at dims old ≡ Some c → number_at 1 0 old ≡ 7 → place < length c.entries
    → object_in dims 7 new place ≡ object → IsBox dims (bounds_of object.1)
    → Keeps (IsClearOfEntry (entry_size dims 7) place) old new
    → bucket_at dims new ≡ Some (replaced c place object)
entry_replaced dims place old new object c is kind_is within written box keeps =
    let entry = entry_size dims 7 in
    let was = spells dims old c is in
    let count = length c.entries in
    let count_is : number_at 2 2 new ≡ count = keeps 2 2 (head_clear entry place 2 2 (omega arith))
    ∙ count_of_bucket dims old c is in
    let others : (k : ℕ) → ¬ (k ≡ place)
    → object_in dims 7 new k ≡ object_in dims 7 old k =
    λ k other. object_stays dims 7 place k old new other keeps in
    let next : c.next ≡ number_at 4 4 new =
    sym (keeps 4 4 (head_clear entry place 4 4 (omega arith)) ∙ was.next) in
    all_written dims new (keeps 1 0 (head_clear entry place 1 0 (omega arith)) ∙ kind_is) count c.next
    (keeps 1 1 (head_clear entry place 1 1 (omega arith)) ∙ was.head.dims_is) (omega (arith, within))
    (omega (arith, count_of_bucket dims old c is, was.head.few)) (sym count_is) next
    (λ k lt. ⊎_elim
    (λ (here : k ≡ place). subst (λ i. HasOrderedBox dims (object_in dims 7 new i)) (sym here)
    (subst (HasOrderedBox dims) (sym written) (λ axis below. (box.spans axis below).ordered)))
    (λ (other : ¬ (k ≡ place)). subst (HasOrderedBox dims) (sym (others k other))
    (written_ordered dims old kind_is c is k lt))
    (cases_eq k place))
    ∙ ap (λ (es : List Entry). Some (record { next = c.next; entries = es }))
    (sym (first_places-are (object_in dims 7 new) count (set c.entries place object) nothing
    (length-set c.entries place object)
    (λ k lt. ⊎_elim
    (λ (here : k ≡ place). ap (λ i. get_or (set c.entries place object) i nothing) here
    ∙ get_or-set_same c.entries place object nothing within ∙ sym written
    ∙ ap (object_in dims 7 new) (sym here))
    (λ (other : ¬ (k ≡ place)). get_or-set_other c.entries place k object nothing other
    ∙ written_object dims old kind_is c is k lt ∙ sym (others k other))
    (cases_eq k place))))

pub tidy_replaced : (dims place : ℕ) (old new : List ℕ) (c : BucketContent) → bucket_at dims old ≡ Some c
    → number_at 1 0 old ≡ 7 → place < length c.entries
    → Keeps (IsClearOfEntry (entry_size dims 7) place) old new → IsTidy dims old → IsTidy dims new
tidy_replaced dims place old new c is kind_is within keeps tidy =
    let entry = entry_size dims 7 in
    let count = count_of_bucket dims old c is in
    tidy_written dims (length c.entries) new (keeps 1 0 (head_clear entry place 1 0 (omega arith)) ∙ kind_is)
    (keeps 2 2 (head_clear entry place 2 2 (omega arith)) ∙ count)
    (λ k unnamed. keeps 1 k (unnamed_outside entry place (length c.entries) k within unnamed)
    ∙ written_tidy dims (length c.entries) old kind_is count tidy k unnamed)

-- ---- the last object taken

pub entry_popped : (dims count : ℕ) (old mid : List ℕ) (c : BucketContent) → bucket_at dims old ≡ Some c
    → number_at 1 0 old ≡ 7 → count ≡ number_at 2 2 old → length mid ≡ 4096 → 1 < count → count ≤ 100
    → Keeps (IsClearOfEntry (entry_size dims 7) (count - 1)) old mid
    → bucket_at dims (put_number 2 2 (count - 1) mid) ≡ Some (popped c)
entry_popped dims count old mid c is kind_is count_is size some few keeps =
    let entry = entry_size dims 7 in
    let less = count - 1 in
    let new = put_number 2 2 less mid in
    let was = spells dims old c is in
    let long : length c.entries ≡ count = sym (count_of_bucket dims old c is) ∙ sym count_is in
    let counted : number_at 2 2 new ≡ less =
    number_at-put 2 2 less mid (omega (arith, size)) (omega (arith, few)) in
    let same : (k : ℕ) → k < less → object_in dims 7 new k ≡ object_in dims 7 old k
    = λ k lt. counted_object dims less k mid size
    ∙ object_stays dims 7 less k old mid (λ e. absurd (omega (arith, lt, e))) keeps in
    let next : c.next ≡ number_at 4 4 new =
    sym (head_stays entry less less 4 4 old mid size (omega arith) keeps (inr (omega arith))
    ∙ was.next) in
    all_written dims new (edited_kind entry less less old mid size keeps kind_is) less c.next
    (head_stays entry less less 1 1 old mid size (omega arith) keeps (inl (omega arith)) ∙ was.head.dims_is)
    (omega (arith, some)) (omega (arith, few)) (sym counted) next
    (λ k lt. subst (HasOrderedBox dims) (sym (same k lt))
    (written_ordered dims old kind_is c is k (omega (arith, lt, long))))
    ∙ ap (λ (es : List Entry). Some (record { next = c.next; entries = es }))
    (sym (first_places-are (object_in dims 7 new) less (take less c.entries) nothing
    (length-take-le less c.entries (omega (arith, long)))
    (λ k lt. get_or-take less c.entries k nothing lt
    ∙ written_object dims old kind_is c is k (omega (arith, lt, long)) ∙ sym (same k lt))))
    ∙ ap (λ (n : ℕ). Some (record { next = c.next; entries = take (n - 1) c.entries })) (sym long)

-- the bytes of the last entry are cleared, and behind it nothing was
pub tidy_popped : (dims count : ℕ) (old mid : List ℕ) → number_at 1 0 old ≡ 7 → count ≡ number_at 2 2 old
    → length mid ≡ 4096 → 1 < count → count ≤ 100
    → Keeps (IsClearOfEntry (entry_size dims 7) (count - 1)) old mid
    → ((k : ℕ) → entry_place (entry_size dims 7) (count - 1) ≤ k
    → k < entry_place (entry_size dims 7) (count - 1 + 1) → number_at 1 k mid ≡ 0)
    → IsTidy dims old → IsTidy dims (put_number 2 2 (count - 1) mid)
tidy_popped dims count old mid kind_is count_is size some few keeps cleared tidy =
    let entry = entry_size dims 7 in
    let less = count - 1 in
    let more : less + 1 ≡ count = omega arith in
    tidy_written dims less (put_number 2 2 less mid) (edited_kind entry less less old mid size keeps kind_is)
    (number_at-put 2 2 less mid (omega (arith, size)) (omega (arith, few)))
    (λ k unnamed. counted_byte less k mid size (unnamed_behind entry less k unnamed) ∙ ⊎_elim
    (λ (named : (entry_place entry less ≤ k) × (k < entry_place entry (less + 1))). cleared k named.0 named.1)
    (λ (other : ¬ ((entry_place entry less ≤ k) × (k < entry_place entry (less + 1)))).
    keeps 1 k (clear_of entry less k other)
    ∙ written_tidy dims count old kind_is (sym count_is) tidy k
    (λ named. unnamed
    (still_named entry less k other (subst (λ (n : ℕ). IsNamed entry n k) (sym more) named))))
    (in_entry entry less k))
  where
    in_entry : (entry place k : ℕ)
        → ((entry_place entry place ≤ k) × (k < entry_place entry (place + 1)))
        ⊎ (¬ ((entry_place entry place ≤ k) × (k < entry_place entry (place + 1))))
    in_entry entry place k = grind arith

    clear_of : (entry place k : ℕ) → ¬ ((entry_place entry place ≤ k) × (k < entry_place entry (place + 1)))
        → IsClearOfEntry entry place 1 k
    clear_of entry place k other = let more = entry_place-more entry place in grind (arith, other)

    still_named : (entry place k : ℕ)
        → ¬ ((entry_place entry place ≤ k) × (k < entry_place entry (place + 1)))
        → IsNamed entry (place + 1) k → IsNamed entry place k
    still_named entry place k other (inl h) = inl h
    still_named entry place k other (inr h) = let le = h.0 in let lt = h.1 in inr (le, grind (arith, other))
