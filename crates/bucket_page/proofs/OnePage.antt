-- A bucket has one page of a kind: what a page spells fixes each byte that it names, and the others are zero.
use Rattle.std.proofs.Common.{◌≡◌, ℕ, ◌+◌, ◌-◌, ◌*◌, ◌/◌, ◌<◌, ◌≤◌, List, length, get_or, subst, sym, ◌∙◌, ap}
use Rattle.std.proofs.Common.{arith, inl, inr, ⊎_elim}
use Rattle.std.proofs.Math.Nat.{lt-mul-div-succ, div-lt_iff_lt-mul, mul-div-le}
use Rattle.std.proofs.lemmas.Bool.{cases_eq, cases_lt}
use Rattle.block_bytes.specs.PlaceLaws.{get_or-first_places}
use Rattle.block_bytes.specs.Numbers.{number_at, AreBytes}
use Rattle.block_bytes.specs.Laws.{number_at-fixes}
use Rattle.box_math.specs.Objects.{bounds_of, tag_of}
use Rattle.box_bytes.specs.Corners.{corner_at}
use Rattle.box_bytes.specs.Laws.{corner_at-fixes}
use Rattle.bucket_page.specs.Layout.{BucketContent, Entry, Spells, IsNamed, names, entry_place, entry_size}
use Rattle.bucket_page.specs.Layout.{object_at, object_in, objects_at, size_in, tag_in}
use Rattle.bucket_page.specs.PageLaws.{BucketsHaveOnePage}
use Rattle.bucket_page.proofs.Places.{entry_size-above, entry_size-tagged, entry_size-untagged, tag_in-tagged}
use Rattle.bucket_page.proofs.Reading.{size_of, spells}

-- ---- an object fixes its bytes

-- the row that a place is in, of rows of one width
row_of : (w n from k : ℕ) → 0 < w → from ≤ k → k < from + w * n
    → (row : ℕ) × (row < n) × (from + w * row ≤ k) × (k < from + w * row + w)
row_of w n from k pos_w le lt =
    let j : ℕ = k - from in
    let row : ℕ = j / w in
    let below : row < n =
    (div-lt_iff_lt-mul {k = w} {x = j} {y = n} pos_w).1
    (let e : n * w ≡ w * n = grind arith in omega arith) in
    let high : j < w * (row + 1) = lt-mul-div-succ j pos_w in
    let more : w * (row + 1) ≡ w * row + w = grind arith in
    let low : w * row ≤ j = mul-div-le j w in
    (row, below, omega arith, omega arith)

corner_bytes : (dims at : ℕ) (a b : List ℕ) → AreBytes a → AreBytes b
    → corner_at dims a at 4 ≡ corner_at dims b at 4 → (k : ℕ) → at ≤ k → k < at + 4 * dims
    → number_at 1 k a ≡ number_at 1 k b
corner_bytes dims at a b ba bb e k le lt = let row = row_of 4 dims at k (omega arith) le lt in
    corner_at-fixes dims at 4 a b ba bb e k (row.0, row.1, row.2, row.3)

-- bytes behind the highs are those of a tag
tag_bytes : (dims kind at : ℕ) (a b : List ℕ) → AreBytes a → AreBytes b → tag_in kind at a ≡ tag_in kind at b
    → (k : ℕ) → at ≤ k → k + (8 + 8 * dims) < at + entry_size dims kind → number_at 1 k a ≡ number_at 1 k b
tag_bytes dims kind at a b ba bb e k le lt = ⊎_elim
    (λ (is : kind ≡ 4). absurd (omega (arith, le, lt, entry_size-untagged dims kind is)))
    (λ (other : ¬ (kind ≡ 4)). number_at-fixes 4 at a b ba bb
    (tag_in-tagged kind at a other ∙ e ∙ sym (tag_in-tagged kind at b other)) k le
    (omega (arith, lt, entry_size-tagged dims kind other)))
    (cases_eq kind 4)

pub object_bytes : (dims kind place : ℕ) (a b : List ℕ) → AreBytes a → AreBytes b
    → object_in dims kind a place ≡ object_in dims kind b place
    → (k : ℕ) → entry_place (entry_size dims kind) place ≤ k
    → k < entry_place (entry_size dims kind) place + entry_size dims kind → number_at 1 k a ≡ number_at 1 k b
unfolding object_in
object_bytes dims kind place a b ba bb e k le lt =
    let at = entry_place (entry_size dims kind) place in
    let id : number_at 8 at a ≡ number_at 8 at b = ap (λ (o : Entry). o.0) e in
    let lows : corner_at dims a (at + 8) 4 ≡ corner_at dims b (at + 8) 4 =
    ap (λ (o : Entry). (bounds_of o.1).low) e in
    let highs : corner_at dims a (at + 8 + 4 * dims) 4 ≡ corner_at dims b (at + 8 + 4 * dims) 4 =
    ap (λ (o : Entry). (bounds_of o.1).high) e in
    let tags : tag_in kind (at + 8 + 8 * dims) a ≡ tag_in kind (at + 8 + 8 * dims) b =
    ap (λ (o : Entry). tag_of o.1) e in
    ⊎_elim (λ (h : k < at + 8). number_at-fixes 8 at a b ba bb id k le h)
    (λ (h : at + 8 ≤ k). ⊎_elim
    (λ (l : k < at + 8 + 4 * dims). corner_bytes dims (at + 8) a b ba bb lows k h l)
    (λ (l : at + 8 + 4 * dims ≤ k). ⊎_elim
    (λ (m : k < at + 8 + 8 * dims). corner_bytes dims (at + 8 + 4 * dims) a b ba bb highs k l
    (omega arith))
    (λ (m : at + 8 + 8 * dims ≤ k). tag_bytes dims kind (at + 8 + 8 * dims) a b ba bb tags k m (omega arith))
    (cases_lt k (at + 8 + 8 * dims))) (cases_lt k (at + 8 + 4 * dims)))
    (cases_lt k (at + 8))

-- ---- a bucket fixes its page

entry_bytes : (dims : ℕ) (a b : List ℕ) (c : BucketContent) → AreBytes a → AreBytes b
    → number_at 1 0 a ≡ number_at 1 0 b → Spells dims a c → Spells dims b c
    → (k : ℕ) → 16 ≤ k → k < entry_place (size_in dims a) (length c.entries)
    → number_at 1 k a ≡ number_at 1 k b
unfolding entry_place
entry_bytes dims a b c ba bb alike sa sb k le lt =
    let size = size_in dims a in
    let row =
    row_of size (length c.entries) 16 k (omega (arith, entry_size-above dims (number_at 1 0 a))) le lt in
    let place = row.0 in
    let below : place < length c.entries = row.1 in
    let in_a : place < number_at 2 2 a = omega (arith, size_of dims a c sa) in
    let in_b : place < number_at 2 2 b = omega (arith, size_of dims b c sb) in
    let same : objects_at dims a (number_at 2 2 a) ≡ objects_at dims b (number_at 2 2 b) = sym sa.entries
    ∙ sb.entries in
    let none = object_at dims a place in
    let object : object_at dims a place ≡ object_at dims b place =
    sym (get_or-first_places (object_at dims a) (number_at 2 2 a) place none in_a)
    ∙ ap (λ (os : List Entry). get_or os place none) same
    ∙ get_or-first_places (object_at dims b) (number_at 2 2 b) place none in_b in
    object_bytes dims (number_at 1 0 a) place a b ba bb
    (object ∙ ap (λ (kind : ℕ). object_in dims kind b place) (sym alike)) k row.2 (omega (arith, row.3))

head_bytes : (dims : ℕ) (a b : List ℕ) (c : BucketContent) → AreBytes a → AreBytes b
    → number_at 1 0 a ≡ number_at 1 0 b → Spells dims a c → Spells dims b c → (k : ℕ) → k < 8
    → number_at 1 k a ≡ number_at 1 k b
head_bytes dims a b c ba bb alike sa sb k lt =
    ⊎_elim (λ (h : k < 1). number_at-fixes 1 0 a b ba bb alike k (omega arith) h)
    (λ (h : 1 ≤ k). ⊎_elim
    (λ (l : k < 2). number_at-fixes 1 1 a b ba bb (sa.head.dims_is ∙ sym sb.head.dims_is) k h l)
    (λ (l : 2 ≤ k). ⊎_elim
    (λ (m : k < 4). number_at-fixes 2 2 a b ba bb (size_of dims a c sa ∙ sym (size_of dims b c sb)) k l m)
    (λ (m : 4 ≤ k). number_at-fixes 4 4 a b ba bb (sa.next ∙ sym sb.next) k m lt) (cases_lt k 4))
    (cases_lt k 2)) (cases_lt k 1)

named_bytes : (dims : ℕ) (a b : List ℕ) (c : BucketContent) → AreBytes a → AreBytes b
    → number_at 1 0 a ≡ number_at 1 0 b → Spells dims a c → Spells dims b c → (k : ℕ) → names dims a k
    → number_at 1 k a ≡ number_at 1 k b
named_bytes dims a b c ba bb alike sa sb k (inl lt) = head_bytes dims a b c ba bb alike sa sb k lt
named_bytes dims a b c ba bb alike sa sb k (inr of) =
    entry_bytes dims a b c ba bb alike sa sb k of.0
    (subst (λ n. k < entry_place (size_in dims a) n) (size_of dims a c sa) of.1)

-- pages of one kind that spell the same name the same bytes
same_names : (dims : ℕ) (a b : List ℕ) (c : BucketContent) → number_at 1 0 a ≡ number_at 1 0 b
    → Spells dims a c → Spells dims b c → (k : ℕ) → names dims b k → names dims a k
same_names dims a b c alike sa sb k of =
    subst (λ n. IsNamed (size_in dims a) n k) (size_of dims b c sb ∙ sym (size_of dims a c sa))
    (subst (λ kind. IsNamed (entry_size dims kind) (number_at 2 2 b) k) (sym alike) of)

pub one_page : BucketsHaveOnePage
one_page dims a b c ba bb alike pa pb k =
    let sa = spells dims a c pa.spelled in
    let sb = spells dims b c pb.spelled in
    ⊎_elim
    (λ (same : number_at 1 k a ≡ number_at 1 k b). same)
    (λ (other : ¬ (number_at 1 k a ≡ number_at 1 k b)).
    pa.rest k (λ of. other (named_bytes dims a b c ba bb alike sa sb k of))
    ∙ sym (pb.rest k
    (λ of. other (named_bytes dims a b c ba bb alike sa sb k (same_names dims a b c alike sa sb k of)))))
    (cases_eq (number_at 1 k a) (number_at 1 k b))
