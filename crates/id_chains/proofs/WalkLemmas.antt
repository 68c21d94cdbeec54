-- A chain walked bucket by bucket.
use Rattle.std.proofs.Common.{◌≡◌, ◌∙◌, ℕ, suc, ◌+◌, ◌<◌, Bool, true, false, cond, eqb, Some, None, Option}
use Rattle.std.proofs.Common.{List, [], ◌∷◌, ◌++◌, length, refl, sym, ap, subst, arith}
use Rattle.box_math.specs.Objects.{Object}
use Rattle.bucket_page.specs.Layout.{BucketContent, Entry}
use Rattle.node_page.specs.Standing.{PageMap}
use Rattle.id_words.specs.Objects.{kept_in}
use Rattle.id_chains.specs.Table.{Bucket, ChainStands, bucket_in, entries_in}
use Rattle.id_words.proofs.ObjectLemmas.{not_here}

in_front : (q : ℕ) (xs ys : List Entry) (b : Object) → kept_in q xs ≡ Some b → kept_in q (xs ++ ys) ≡ Some b
in_front q [] ys b is = absurd (cc)
in_front q (x ∷ xs) ys b is = step (eqb x.0 q) (kept_in q xs) (kept_in q (xs ++ ys)) (in_front q xs ys b) is
  where
    step : (t : Bool) (front all : Option Object) → (front ≡ Some b → all ≡ Some b)
        → cond t (Some x.1) front ≡ Some b → cond t (Some x.1) all ≡ Some b
    step true front all later e = e
    step false front all later e = later e

-- What is left of a chain after so many buckets without an identifier: it stands from a page on.
pub record Rest (dims : ℕ) (pages : PageMap) (id : ℕ) (chain : List Bucket) (walked number : ℕ) : Type 0 where
  pub rest : List Bucket
  pub stands : ChainStands dims pages number rest
  pub same : kept_in id (entries_in chain) ≡ kept_in id (entries_in rest)
  pub long : length chain ≡ walked + length rest

module _ (dims : ℕ) (pages : PageMap) (id : ℕ) (chain : List Bucket) where
  pub all_left : (number : ℕ) → ChainStands dims pages number chain → Rest dims pages id chain 0 number
  all_left number stands = record { rest = chain; stands = stands; same = refl; long = omega arith }

  pub nothing_left : (walked number : ℕ) → Rest dims pages id chain walked number → number ≡ 0
      → kept_in id (entries_in chain) ≡ None
  nothing_left walked number r none = end r.rest r.stands r.same
    where
      end : (bs : List Bucket) → ChainStands dims pages number bs
          → kept_in id (entries_in chain) ≡ kept_in id (entries_in bs) → kept_in id (entries_in chain) ≡ None
      end [] stands same = same
      end (b ∷ bs) stands same = absurd (omega (arith, none, stands.1))

  -- the bucket that the walk is at
  pub record Here (walked number : ℕ) : Type 0 where
    pub bucket : Bucket
    pub behind : List Bucket
    pub content : BucketContent
    pub entries : content.entries ≡ bucket.entries
    pub there : bucket_in dims (pages number) ≡ Some content
    pub stands : ChainStands dims pages content.next behind
    pub same : kept_in id (entries_in chain) ≡ kept_in id (bucket.entries ++ entries_in behind)
    pub long : length chain ≡ walked + suc (length behind)

  pub is_here : (walked number : ℕ) → Rest dims pages id chain walked number → ¬ (number ≡ 0)
      → Here walked number
  is_here walked number r some = at r.rest r.stands r.same r.long
    where
      at : (bs : List Bucket) → ChainStands dims pages number bs
          → kept_in id (entries_in chain) ≡ kept_in id (entries_in bs) → length chain ≡ walked + length bs
          → Here walked number
      at [] stands same long = absurd (some stands)
      at (b ∷ bs) stands same long = record {
        bucket = b;
        behind = bs;
        content = record { next = stands.2; entries = b.entries };
        entries = refl;
        there = ap (λ n. bucket_in dims (pages n)) stands.0 ∙ stands.3;
        stands = stands.4;
        same = same;
        long = long;
      }

  pub walk_on : (walked number next : ℕ) → (here : Here walked number)
      → kept_in id here.content.entries ≡ None → next ≡ here.content.next
      → Rest dims pages id chain (walked + 1) next
  walk_on walked number next here none is = record {
    rest = here.behind;
    stands = subst (λ n. ChainStands dims pages n here.behind) (sym is) here.stands;
    same = here.same
        ∙ not_here id here.bucket.entries (entries_in here.behind)
        (ap (kept_in id) (sym here.entries) ∙ none);
    long = omega (arith, here.long);
  }

  pub found_here : (walked number : ℕ) (b : Object) (here : Here walked number)
      → kept_in id here.content.entries ≡ Some b → kept_in id (entries_in chain) ≡ Some b
  found_here walked number b here is = here.same
      ∙ in_front id here.bucket.entries (entries_in here.behind) b (ap (kept_in id) (sym here.entries) ∙ is)

-- ---- the first bucket

-- a chain that begins at a page has its first bucket there
pub record Begins (dims : ℕ) (pages : PageMap) (first : ℕ) (chain : List Bucket) : Type 0 where
  pub bucket : Bucket
  pub behind : List Bucket
  pub content : BucketContent
  pub is : chain ≡ bucket ∷ behind
  pub page : bucket.page ≡ first
  pub low : 2 < first
  pub entries : content.entries ≡ bucket.entries
  pub there : bucket_in dims (pages first) ≡ Some content
  pub rest : ChainStands dims pages content.next behind

pub begins_at : (dims : ℕ) (pages : PageMap) (first : ℕ) (chain : List Bucket)
    → ChainStands dims pages first chain → ¬ (first ≡ 0) → Begins dims pages first chain
begins_at dims pages first [] stands some = absurd (some stands)
begins_at dims pages first (b ∷ bs) stands some = record {
  bucket = b;
  behind = bs;
  content = record { next = stands.2; entries = b.entries };
  is = refl;
  page = sym stands.0;
  low = stands.1;
  entries = refl;
  there = ap (λ n. bucket_in dims (pages n)) stands.0 ∙ stands.3;
  rest = stands.4;
}
