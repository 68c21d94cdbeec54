-- Where entries lie: one after the other, all of them within the page.
use Rattle.std.proofs.Common.{◌≡◌, ◌⊎◌, ℕ, ◌+◌, ◌*◌, ◌^◌, ◌<◌, ◌≤◌, ◌↔◌, ◌==◌, false, ℤ, List, length, refl}
use Rattle.std.proofs.Common.{sym, ◌∙◌, ap, subst, arith, inl, inr, ⊎_elim}
use Rattle.std.proofs.Math.Nat.{mul-le-mul_left}
use Rattle.std.proofs.lemmas.Bool.{cases_eq}
use Rattle.block_bytes.specs.Numbers.{number_at, IsApart, put_number}
use Rattle.block_bytes.specs.Laws.{number_at-put, number_at-put_other, number_at-same}
use Rattle.box_math.specs.Bounds.{Bounds, IsOrdered}
use Rattle.box_bytes.specs.Corners.{corner_at, box_at, IsClearOfBox, Keeps}
use Rattle.box_bytes.specs.Laws.{corner_at-numbers, corner_at-same}
use Rattle.bucket_page.specs.Layout.{Entry, entry_place, entry_size, object_in, tag_in, HasOrderedBox}
use Rattle.bucket_page.specs.Layout.{IsClearOfEntry}

-- ---- the size of an entry

pub entry_size-tagged : (dims kind : ℕ) → ¬ (kind ≡ 4) → entry_size dims kind ≡ 12 + 8 * dims
unfolding entry_size
entry_size-tagged dims kind other = let no : (kind == 4) ≡ false = grind arith in rw no refl

pub entry_size-untagged : (dims kind : ℕ) → kind ≡ 4 → entry_size dims kind ≡ 8 + 8 * dims
unfolding entry_size
entry_size-untagged dims kind is = rw is refl

pub entry_size-written : (dims : ℕ) → entry_size dims 7 ≡ 12 + 8 * dims
entry_size-written dims = entry_size-tagged dims 7 (λ is. absurd (omega (arith, is)))

pub entry_size-above : (dims kind : ℕ) → 8 + 8 * dims ≤ entry_size dims kind
entry_size-above dims kind = ⊎_elim
    (λ (is : kind ≡ 4). omega (arith, entry_size-untagged dims kind is))
    (λ (other : ¬ (kind ≡ 4)). omega (arith, entry_size-tagged dims kind other))
    (cases_eq kind 4)

-- ---- where it begins

pub entry_place-more : (size place : ℕ) → entry_place size (place + 1) ≡ entry_place size place + size
unfolding entry_place
entry_place-more size place = grind arith

pub entry_place-le : (size k place : ℕ) → k ≤ place → entry_place size k ≤ entry_place size place
unfolding entry_place
entry_place-le size k place le = let less : size * k ≤ size * place = mul-le-mul_left size le in omega arith

pub entry_place-lt : (size k place : ℕ) → k < place → entry_place size k + size ≤ entry_place size place
entry_place-lt size k place lt =
    omega (arith, entry_place-more size k, entry_place-le size (k + 1) place (omega arith))

pub entry_place-above : (size place : ℕ) → 16 ≤ entry_place size place
unfolding entry_place
entry_place-above size place = omega arith

-- where an entry begins, as it is computed
pub entry_place-is : (size place : ℕ) → 16 + size * place ≡ entry_place size place
unfolding entry_place
entry_place-is size place = refl

pub entry_place-within : (size place : ℕ) → size ≤ 36 → place < 100 → 16 + size * place + size ≤ 4096
entry_place-within size place small lt =
    let le : size * (place + 1) ≤ size * 100 = mul-le-mul_left size (omega arith) in
    let more : size * (place + 1) ≡ size * place + size = grind arith in
    omega arith

-- ---- tags

pub tag_in-tagged : (kind at : ℕ) (page : List ℕ) → ¬ (kind ≡ 4) → number_at 4 at page ≡ tag_in kind at page
unfolding tag_in
tag_in-tagged kind at page other = let no : (kind == 4) ≡ false = grind arith in rw no refl

pub tag_in-untagged : (kind at : ℕ) (page : List ℕ) → kind ≡ 4 → 0 ≡ tag_in kind at page
unfolding tag_in
tag_in-untagged kind at page is = rw is refl

-- a tag is read from its own bytes alone
pub tag_in-same : (kind at : ℕ) (a b : List ℕ) → (¬ (kind ≡ 4) → number_at 4 at a ≡ number_at 4 at b)
    → tag_in kind at a ≡ tag_in kind at b
tag_in-same kind at a b same = ⊎_elim
    (λ (is : kind ≡ 4). sym (tag_in-untagged kind at a is) ∙ tag_in-untagged kind at b is)
    (λ (other : ¬ (kind ≡ 4)). sym (tag_in-tagged kind at a other) ∙ same other
    ∙ tag_in-tagged kind at b other)
    (cases_eq kind 4)

-- ---- objects

pub same_object : (i i' : ℕ) (low low' high high' : List ℤ) (t t' : ℕ) → i ≡ i' → low ≡ low' → high ≡ high'
    → t ≡ t'
    → ◌≡◌ {A = Entry} (i, (record { low = low; high = high }, t))
    (i', (record { low = low'; high = high' }, t'))
same_object i i' low low' high high' t t' e f h g = cc

-- an object is that of its numbers
pub object_is : (dims kind place : ℕ) (page : List ℕ) (id : ℕ) (b : Bounds) (tag : ℕ)
    → id ≡ number_at 8 (entry_place (entry_size dims kind) place) page
    → b ≡ box_at dims page (entry_place (entry_size dims kind) place + 8)
    (entry_place (entry_size dims kind) place + 8 + 4 * dims) 4
    → tag ≡ tag_in kind (entry_place (entry_size dims kind) place + 8 + 8 * dims) page
    → ◌≡◌ {A = Entry} (id, (b, tag)) (object_in dims kind page place)
unfolding object_in
object_is dims kind place page id b tag e f g = cc

-- an object is read from its own bytes alone
pub object_same : (dims kind place : ℕ) (a b : List ℕ)
    → ((k : ℕ) → entry_place (entry_size dims kind) place ≤ k
    → k < entry_place (entry_size dims kind) place + entry_size dims kind → number_at 1 k a ≡ number_at 1 k b)
    → object_in dims kind a place ≡ object_in dims kind b place
unfolding object_in
object_same dims kind place a b same =
    let size = entry_size dims kind in
    let at = entry_place size place in
    let large : 8 + 8 * dims ≤ size = entry_size-above dims kind in
    same_object (number_at 8 at a) (number_at 8 at b) (corner_at dims a (at + 8) 4)
    (corner_at dims b (at + 8) 4) (corner_at dims a (at + 8 + 4 * dims) 4)
    (corner_at dims b (at + 8 + 4 * dims) 4)
    (tag_in kind (at + 8 + 8 * dims) a) (tag_in kind (at + 8 + 8 * dims) b)
    (number_at-same 8 at a b (λ k le lt. same k (omega arith) (omega arith)))
    (corner_at-same dims a b (at + 8) 4
    (λ k of. let l = of.1 in let ge = of.2 in let lt = of.3 in same k (omega arith) (omega arith)))
    (corner_at-same dims a b (at + 8 + 4 * dims) 4
    (λ k of. let l = of.1 in let ge = of.2 in let lt = of.3 in same k (omega arith) (omega arith)))
    (tag_in-same kind (at + 8 + 8 * dims) a b
    (λ other. let more = entry_size-tagged dims kind other in
    number_at-same 4 (at + 8 + 8 * dims) a b (λ k le lt. same k (omega arith) (omega arith))))

-- an object stays where another one is written
pub object_stays : (dims kind place k : ℕ) (old new : List ℕ) → ¬ (k ≡ place)
    → Keeps (IsClearOfEntry (entry_size dims kind) place) old new
    → object_in dims kind new k ≡ object_in dims kind old k
object_stays dims kind place k old new other keeps =
    let size = entry_size dims kind in
    object_same dims kind k new old (λ j le lt. keeps 1 j (⊎_elim
    (λ (before : k < place). inl (omega (arith, le, lt, entry_place-lt size k place before)))
    (λ (after : place < k). inr (omega (arith, le, lt, entry_place-lt size place k after)))
    (let either : (k < place) ⊎ (place < k) = grind (arith, other) in either)))

-- ---- an object written as its identifier, then its box, then its tag

pub apart_of_box : (dims at n from : ℕ) → IsApart n from (8 + 8 * dims) at
    → IsClearOfBox dims (at + 8) (at + 8 + 4 * dims) 4 n from
apart_of_box dims at n from (inl h) =
    record { lows = λ axis lt. inl (omega arith); highs = λ axis lt. inl (omega arith) }
apart_of_box dims at n from (inr h) =
    record { lows = λ axis lt. inr (omega arith); highs = λ axis lt. inr (omega arith) }

pub identifier_apart : (dims at : ℕ) → IsClearOfBox dims (at + 8) (at + 8 + 4 * dims) 4 8 at
identifier_apart dims at =
    record { lows = λ axis lt. inl (omega arith); highs = λ axis lt. inl (omega arith) }

-- a corner before the tag stays where that is written
corner_before : (dims at tag to : ℕ) (old : List ℕ) → to + 4 ≤ length old → at + 4 * dims ≤ to
    → corner_at dims (put_number 4 to tag old) at 4 ≡ corner_at dims old at 4
corner_before dims at tag to old within before =
    corner_at-numbers dims old (put_number 4 to tag old) at 4
    (λ axis lt. number_at-put_other 4 (at + 4 * axis) 4 to tag old within (inl (omega arith)))

module _ (dims place at id tag : ℕ) (old mid boxed : List ℕ) (b : Bounds)
    (at_is : at ≡ entry_place (entry_size dims 7) place) (room : at + 12 + 8 * dims ≤ length old)
    (same_size : length boxed ≡ length old)
    (put : mid ≡ put_number 8 at id old)
    (keeps : Keeps (IsClearOfBox dims (at + 8) (at + 8 + 4 * dims) 4) mid boxed) where
  new : List ℕ
  new = put_number 4 (at + 8 + 8 * dims) tag boxed

  there : id < 256 ^ 8 → number_at 8 at new ≡ id
  unfolding new
  there small =
      number_at-put_other 8 at 4 (at + 8 + 8 * dims) tag boxed (omega arith) (inl (omega arith))
      ∙ keeps 8 at (identifier_apart dims at) ∙ ap (number_at 8 at) put
      ∙ number_at-put 8 at id old (omega arith) small

  is_written : id < 256 ^ 8 → tag < 256 ^ 4 → box_at dims boxed (at + 8) (at + 8 + 4 * dims) 4 ≡ b
      → ◌≡◌ {A = Entry} (object_in dims 7 new place) (id, (b, tag))
  unfolding new object_in
  is_written small fits is =
      let tag_there : number_at 4 (at + 8 + 8 * dims) new ≡ tag =
      number_at-put 4 (at + 8 + 8 * dims) tag boxed (omega arith) fits in
      rw (sym at_is)
      (same_object (number_at 8 at new) id (corner_at dims new (at + 8) 4) b.low
      (corner_at dims new (at + 8 + 4 * dims) 4) b.high
      (tag_in 7 (at + 8 + 8 * dims) new) tag
      (there small)
      (corner_before dims (at + 8) tag (at + 8 + 8 * dims) boxed (omega arith) (omega arith)
      ∙ ap (λ (x : Bounds). x.low) is)
      (corner_before dims (at + 8 + 4 * dims) tag (at + 8 + 8 * dims) boxed (omega arith) (omega arith)
      ∙ ap (λ (x : Bounds). x.high) is)
      (sym (tag_in-tagged 7 (at + 8 + 8 * dims) new (λ e. absurd (omega (arith, e)))) ∙ tag_there))

  keeps_others : Keeps (IsClearOfEntry (entry_size dims 7) place) old new
  unfolding new
  keeps_others = λ n from clear.
      let size = entry_size-written dims in
      let outside : IsApart n from (entry_size dims 7) at = rw at_is clear in
      let of_all : IsApart n from (12 + 8 * dims) at = subst (λ (s : ℕ). IsApart n from s at) size outside in
      let of_tag : IsApart n from 4 (at + 8 + 8 * dims) =
      ⊎_elim (λ (h : from + n ≤ at). inl (omega arith))
      (λ (h : at + (12 + 8 * dims) ≤ from). inr (omega arith)) of_all in
      let of_box : IsApart n from (8 + 8 * dims) at =
      ⊎_elim (λ (h : from + n ≤ at). inl h) (λ (h : at + (12 + 8 * dims) ≤ from). inr (omega arith))
      of_all in
      let of_id : IsApart n from 8 at =
      ⊎_elim (λ (h : from + n ≤ at). inl h) (λ (h : at + (12 + 8 * dims) ≤ from). inr (omega arith))
      of_all in
      number_at-put_other n from 4 (at + 8 + 8 * dims) tag boxed (omega arith) of_tag
      ∙ keeps n from (apart_of_box dims at n from of_box) ∙ ap (number_at n from) put
      ∙ number_at-put_other n from 8 at id old (omega arith) of_id

pub object_written : (dims place at id tag : ℕ) (old mid boxed : List ℕ) (b : Bounds)
    → at ≡ entry_place (entry_size dims 7) place → at + 12 + 8 * dims ≤ length old → length boxed ≡ length old
    → mid ≡ put_number 8 at id old → Keeps (IsClearOfBox dims (at + 8) (at + 8 + 4 * dims) 4) mid boxed
    → id < 256 ^ 8 → tag < 256 ^ 4 → box_at dims boxed (at + 8) (at + 8 + 4 * dims) 4 ≡ b
    → ◌≡◌ {A = Entry} (object_in dims 7 (put_number 4 (at + 8 + 8 * dims) tag boxed) place) (id, (b, tag))
unfolding new
object_written dims place at id tag old mid boxed b at_is room same_size put keeps small fits is =
    is_written dims place at id tag old mid boxed b at_is room same_size put keeps small fits is

pub entry_keeps : (dims place at id tag : ℕ) (old mid boxed : List ℕ)
    → at ≡ entry_place (entry_size dims 7) place → at + 12 + 8 * dims ≤ length old → length boxed ≡ length old
    → mid ≡ put_number 8 at id old → Keeps (IsClearOfBox dims (at + 8) (at + 8 + 4 * dims) 4) mid boxed
    → Keeps (IsClearOfEntry (entry_size dims 7) place) old (put_number 4 (at + 8 + 8 * dims) tag boxed)
unfolding new
entry_keeps dims place at id tag old mid boxed at_is room same_size put keeps =
    keeps_others dims place at id tag old mid boxed (box_at dims old 0 0 4) at_is room same_size put keeps

-- the lows and highs of the box at a place are those of the object there
pub ordered_at : (dims kind place at : ℕ) (page : List ℕ) → at ≡ entry_place (entry_size dims kind) place
    → IsOrdered dims (corner_at dims page (at + 8) 4) (corner_at dims page (at + 8 + 4 * dims) 4)
    ↔ HasOrderedBox dims (object_in dims kind page place)
unfolding object_in
ordered_at dims kind place at page is = rw is (λ h. h, λ h. h)

-- ---- an entry cleared byte by byte

pub cleared_more : (at k : ℕ) (page : List ℕ) → k + 1 ≤ length page
    → ((j : ℕ) → at ≤ j → j < k → number_at 1 j page ≡ 0) → (j : ℕ) → at ≤ j → j < k + 1
    → number_at 1 j (put_number 1 k 0 page) ≡ 0
cleared_more at k page within before j from below = ⊎_elim
    (λ (here : j ≡ k). ap (λ (i : ℕ). number_at 1 i (put_number 1 k 0 page)) here
    ∙ number_at-put 1 k 0 page within (omega arith))
    (λ (other : ¬ (j ≡ k)). let earlier : j < k = grind (arith, other) in
    number_at-put_other 1 j 1 k 0 page within (inl (omega arith)) ∙ before j from earlier)
    (cases_eq j k)

pub cleared_keeps : (dims place at k : ℕ) (old page : List ℕ) → at ≡ entry_place (entry_size dims 7) place
    → at ≤ k → k < at + 12 + 8 * dims → k + 1 ≤ length page
    → Keeps (IsClearOfEntry (entry_size dims 7) place) old page
    → Keeps (IsClearOfEntry (entry_size dims 7) place) old (put_number 1 k 0 page)
cleared_keeps dims place at k old page at_is from below within keeps = λ n to clear.
    let size = entry_size-written dims in
    let apart : IsApart n to 1 k = ⊎_elim
    (λ (h : to + n ≤ entry_place (entry_size dims 7) place). inl (omega (arith, h, at_is, from)))
    (λ (h : entry_place (entry_size dims 7) place + entry_size dims 7 ≤ to). inr
    (omega (arith, h, at_is, below, size)))
    clear in
    number_at-put_other n to 1 k 0 page within apart ∙ keeps n to clear
