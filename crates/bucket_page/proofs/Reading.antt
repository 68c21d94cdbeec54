-- What a page spells, and the test of it.
use Rattle.std.proofs.Common.{◌≡◌, ℕ, ◌<◌, ◌≤◌, ◌&&◌, ◌==◌, Bool, true, nat_le, List, length, get_or, Option}
use Rattle.std.proofs.Common.{Some, None, sym, ◌∙◌, ap, arith}
use Rattle.std.proofs.lemmas.Bool.Decides.{nat_tests}
use Rattle.std.proofs.lemmas.Option.{cond_some}
use Rattle.block_bytes.specs.FormLaws.{none_read}
use Rattle.block_bytes.specs.Numbers.{number_at}
use Rattle.block_bytes.specs.PlaceLaws.{get_or-first_places, length-first_places}
use Rattle.box_math.specs.Bounds.{all_over}
use Rattle.box_math.specs.Objects.{bounds_of}
use Rattle.box_bytes.specs.Laws.{all_over-each, all_over-from}
use Rattle.box_math.proofs.TestLaws.{ordered_test_true}
use Rattle.bucket_page.specs.Layout.{BucketContent, Entry, entry_place, object_at, object_in, objects_at}
use Rattle.bucket_page.specs.Layout.{size_in, HasOrderedBox, HasBucketHead, IsBucketKind, Spells}
use Rattle.bucket_page.specs.Layout.{is_bucket_kind, is_ordered, bucket_test, bucket_at}

head_means : (k : Bool) (d dims n : ℕ) (b : Bool)
    → (k && d == dims && nat_le 1 n && nat_le n 100 && b) ≡ true
    → (k ≡ true) × (d ≡ dims) × (1 ≤ n) × (n ≤ 100) × (b ≡ true)
head_means k d dims n b h = (
  grind (arith, nat_tests),
  grind (arith, nat_tests),
  grind (arith, nat_tests),
  grind (arith, nat_tests),
  grind (arith, nat_tests),
)

head_test : (k : Bool) (d dims n : ℕ) (b : Bool) → k ≡ true → d ≡ dims → 1 ≤ n → n ≤ 100 → b ≡ true
    → (k && d == dims && nat_le 1 n && nat_le n 100 && b) ≡ true
head_test k d dims n b kind is some few holds = grind (arith, nat_tests)

kind_means : (k : ℕ) → is_bucket_kind k ≡ true → IsBucketKind k
kind_means k h = grind (arith, nat_tests)

kind_test : (k : ℕ) → IsBucketKind k → is_bucket_kind k ≡ true
kind_test k h = grind (arith, nat_tests)

-- where the page spells a bucket, reading it gives that bucket
pub spelled : (dims : ℕ) (page : List ℕ) (c : BucketContent) → Spells dims page c
    → bucket_at dims page ≡ Some c
unfolding bucket_at bucket_test
spelled dims page c s =
    let n = number_at 2 2 page in
    let each : all_over n (λ place. is_ordered dims (object_at dims page place)) ≡ true =
    all_over-from n (λ place. is_ordered dims (object_at dims page place))
    (λ place lt.
    (ordered_test_true dims (bounds_of (object_at dims page place).1).low
    (bounds_of (object_at dims page place).1).high).1 (s.ordered place lt)) in
    let passes =
    head_test (is_bucket_kind (number_at 1 0 page)) (number_at 1 1 page) dims n
    (all_over n (λ place. is_ordered dims (object_at dims page place)))
    (kind_test (number_at 1 0 page) s.head.kind) s.head.dims_is s.head.some s.head.few each in
    rw passes
    (ap (λ next. Some (record { next = next; entries = objects_at dims page n })) s.next
    ∙ ap (λ es. Some (record { next = c.next; entries = es })) (sym s.entries))

-- and what reading gives is spelled so
pub spells : (dims : ℕ) (page : List ℕ) (c : BucketContent) → bucket_at dims page ≡ Some c
    → Spells dims page c
unfolding bucket_at bucket_test
spells dims page c h =
    let n = number_at 2 2 page in
    let test = all_over n (λ place. is_ordered dims (object_at dims page place)) in
    let parts =
    cond_some
    (is_bucket_kind (number_at 1 0 page) && number_at 1 1 page == dims && nat_le 1 n && nat_le n 100
    && test) (record { next = number_at 4 4 page; entries = objects_at dims page n }) c h in
    let means = head_means (is_bucket_kind (number_at 1 0 page)) (number_at 1 1 page) dims n test parts.0 in
    record {
      head = record {
        kind = kind_means (number_at 1 0 page) means.0;
        dims_is = means.1;
        some = means.2;
        few = means.3;
      };
      next = ap (λ (x : BucketContent). x.next) parts.1;
      ordered =
          λ place lt.
          (ordered_test_true dims (bounds_of (object_at dims page place).1).low
          (bounds_of (object_at dims page place).1).high).0
          (all_over-each n (λ k. is_ordered dims (object_at dims page k)) means.4 place lt);
      entries = sym (ap (λ (x : BucketContent). x.entries) parts.1);
    }

-- ---- what readers of a page that spells a bucket know

pub size_of : (dims : ℕ) (page : List ℕ) (c : BucketContent) → Spells dims page c
    → number_at 2 2 page ≡ length c.entries
size_of dims page c s =
    sym (ap length s.entries ∙ length-first_places (object_at dims page) (number_at 2 2 page))

pub count_of_bucket : (dims : ℕ) (page : List ℕ) (c : BucketContent) → bucket_at dims page ≡ Some c
    → number_at 2 2 page ≡ length c.entries
count_of_bucket dims page c is = size_of dims page c (spells dims page c is)

pub next_of_bucket : (dims : ℕ) (page : List ℕ) (c : BucketContent) → bucket_at dims page ≡ Some c
    → number_at 4 4 page ≡ c.next
next_of_bucket dims page c is = (spells dims page c is).next

pub object_of_bucket : (dims : ℕ) (page : List ℕ) (c : BucketContent) (place : ℕ) (other : Entry)
    → bucket_at dims page ≡ Some c → place < length c.entries
    → get_or c.entries place other ≡ object_at dims page place
object_of_bucket dims page c place other is lt =
    let s = spells dims page c is in
    let size = size_of dims page c s in
    ap (λ (es : List (Entry)). get_or es place other) s.entries
    ∙ get_or-first_places (object_at dims page) (number_at 2 2 page) place other (omega arith)

pub box_of_bucket : (dims : ℕ) (page : List ℕ) (c : BucketContent) (place : ℕ) → bucket_at dims page ≡ Some c
    → place < length c.entries → HasOrderedBox dims (object_at dims page place)
box_of_bucket dims page c place is lt = let s = spells dims page c is in let size = size_of dims page c s in
    s.ordered place (omega arith)

-- ---- decoding

-- without its head the page spells no bucket
pub no_head : (dims : ℕ) (page : List ℕ) → (HasBucketHead dims page → ⊥) → bucket_at dims page ≡ None
no_head dims page none = none_read (bucket_at dims page) (λ c is. none (spells dims page c is).head)

-- nor with a place that holds no object
pub no_place : (dims place : ℕ) (page : List ℕ) → place < number_at 2 2 page
    → (HasOrderedBox dims (object_at dims page place) → ⊥) → bucket_at dims page ≡ None
no_place dims place page lt none =
    none_read (bucket_at dims page) (λ c is. none ((spells dims page c is).ordered place lt))

-- with its head and an object in each place it spells a bucket
pub all_places : (dims count next : ℕ) (page : List ℕ) → HasBucketHead dims page → count ≡ number_at 2 2 page
    → next ≡ number_at 4 4 page
    → ((place : ℕ) → place < count → HasOrderedBox dims (object_at dims page place))
    → bucket_at dims page ≡ Some (record { next = next; entries = objects_at dims page count })
all_places dims count next page head same is each =
    spelled dims page (record { next = next; entries = objects_at dims page count }) (record {
      head = head;
      next = sym is;
      ordered = λ place lt. each place (omega arith);
      entries = ap (objects_at dims page) same;
    })

-- ---- one object

-- an object in a bucket is found as it is
pub some_of_bucket : (dims : ℕ) (page : List ℕ) (c : BucketContent) (place : ℕ) (other object : Entry)
    → bucket_at dims page ≡ Some c → place < length c.entries → object ≡ object_at dims page place
    → ◌≡◌ {A = Option (Entry)} (Some object) (Some (get_or c.entries place other))
some_of_bucket dims page c place other object is lt e =
    ap (λ (x : Entry). Some x) (e ∙ sym (object_of_bucket dims page c place other is lt))

-- and so is its identifier
pub id_of_bucket : (dims : ℕ) (page : List ℕ) (c : BucketContent) (place : ℕ) (other : Entry)
    → bucket_at dims page ≡ Some c → place < length c.entries
    → (get_or c.entries place other).0 ≡ number_at 8 (entry_place (size_in dims page) place) page
unfolding object_in
id_of_bucket dims page c place other is lt =
    ap (λ (x : Entry). x.0) (object_of_bucket dims page c place other is lt)
