-- A search for the place of an identifier in a chain.
use Rattle.std.proofs.Common.{◌≡◌, ◌∙◌, ℕ, ◌+◌, ◌<◌, ◌≤◌, Some, None, Option, List, [], ◌∷◌, ◌++◌, cond, eqb}
use Rattle.std.proofs.Common.{length, length-append, inl, inr, ◌⊎◌, refl, sym, ap, subst, arith}
use Rattle.std.proofs.lemmas.Bool.Decides.{nat_tests}
use Rattle.std.proofs.lemmas.List.{append_assoc}
use Rattle.bucket_page.specs.Layout.{BucketContent, Entry}
use Rattle.page_cache.specs.Cache.{IsHonest, given, pages}
use Rattle.page_cache.specs.Calls.{AsksUntil, asks_in_turn}
use Rattle.page_cache.specs.declared.cache.PageCache.{PageCache}
use Rattle.node_page.specs.Standing.{PageMap}
use Rattle.id_chains.specs.Pages.{HasAt, HasObject, IsFoundAt, IsInChain}
use Rattle.id_words.specs.Objects.{kept_in}
use Rattle.id_chains.specs.Table.{Bucket, ChainStands, IdChains, IdChainsStand, bucket_in, chain_at}
use Rattle.id_chains.specs.Table.{entries_in, occurs_in_chain}
use Rattle.id_chains.specs.Walks.{IsAlong, MeetsAlong, NamesNext}
use Rattle.id_chains.proofs.MeetLemmas.{along_on, meets_here, same_names}
use Rattle.id_words.proofs.ObjectLemmas.{not_here}
use Rattle.id_chains.proofs.TableLemmas.{chain_in_table}
use Rattle.id_chains.proofs.WalkLemmas.{Begins, begins_at}
use Rattle.node_page.proofs.PartLemmas.{there_not_missing}

-- The buckets of a chain before a page have no such identifier, and the rest of it stands from that page on.
pub record Passed (dims : ℕ) (pages : PageMap) (id : ℕ) (chain : List Bucket) (walked number : ℕ) : Type
    0 where
  pub before : List Bucket
  pub rest : List Bucket
  pub is : chain ≡ before ++ rest
  pub stands : ChainStands dims pages number rest
  pub same : kept_in id (entries_in chain) ≡ kept_in id (entries_in rest)
  pub long : length chain ≡ walked + length rest

module _ {B A : Type 0} {m : _} where
  pub record Searching (dims id directory first : ℕ) (old now : PageCache B A m) (walked before number : ℕ)
      : Type 0 where
    pub asks : AsksUntil old now None
    pub met : IsHonest old → (before ≡ directory) ⊎ MeetsAlong dims (given old) first before
    pub along : IsHonest old → IsAlong dims (given old) first number
    pub left : IsHonest old → (chain : List Bucket) → ChainStands dims (pages old) first chain
        → Passed dims (pages old) id chain walked number

  pub searches : (dims id directory first : ℕ) (cache : PageCache B A m) → AsksUntil cache cache None
      → Searching dims id directory first cache cache 0 directory first
  searches dims id directory first cache asks = record {
    asks = asks;
    met = λ h. inl refl;
    along = λ h. ([], refl);
    left = λ h chain stands.
        record { before = []; rest = chain; is = refl; stands = stands; same = refl; long = omega arith };
  }

  module _ {dims id directory first : ℕ} {old now : PageCache B A m} {walked before number : ℕ}
      (so_far : Searching dims id directory first old now walked before number) where
    -- what the page that the walk is at names, said of the pages before it
    pub named_before : (next : ℕ) → IsHonest old
        → (IsHonest now → NamesNext dims (given now number) next) → NamesNext dims (given old number) next
    named_before next h names =
        same_names dims (given old) (given now) (λ k. so_far.asks.map.given_stay h k) number next
        (names (so_far.asks.gate.honest.0 h))

    pub begins_here : ¬ (number ≡ 0) → (h : IsHonest old) → (chain : List Bucket)
        → (stands : ChainStands dims (pages old) first chain)
        → Begins dims (pages old) number (so_far.left h chain stands).rest
    begins_here some h chain stands = let p = so_far.left h chain stands in
        begins_at dims (pages old) number p.rest p.stands some

    pub there_now : (some : ¬ (number ≡ 0)) → (h : IsHonest old) → (chain : List Bucket)
        → (stands : ChainStands dims (pages old) first chain)
        → bucket_in dims (pages now number) ≡ Some ((begins_here some h chain stands).content)
    there_now some h chain stands = ap (bucket_in dims) (so_far.asks.map.pages_stay h number)
        ∙ (begins_here some h chain stands).there

    -- what has the identifier has not ended
    pub not_ended : IsHonest old → (chain : List Bucket) → ChainStands dims (pages old) first chain
        → HasObject id chain → ¬ (number ≡ 0)
    not_ended h chain stands has none = let p = so_far.left h chain stands in ended p.rest p.stands p.same
      where
        ended : (rest : List Bucket) → ChainStands dims (pages old) number rest
            → kept_in id (entries_in chain) ≡ kept_in id (entries_in rest) → ⊥
        ended [] stands same = there_not_missing (kept_in id (entries_in chain)) has same
        ended (b ∷ bs) stands same = omega (arith, none, stands.1)

    -- nor is it longer than it is
    pub not_so_long : IsHonest old → (chain : List Bucket) → ChainStands dims (pages old) first chain
        → length chain ≤ walked → HasObject id chain → ⊥
    not_so_long h chain stands short has = let p = so_far.left h chain stands in
        ended p.rest p.same (omega (arith, p.long, short))
      where
        ended : (rest : List Bucket) → kept_in id (entries_in chain) ≡ kept_in id (entries_in rest)
            → length rest ≡ 0 → ⊥
        ended [] same e = there_not_missing (kept_in id (entries_in chain)) has same
        ended (b ∷ bs) same e = omega (arith, e)

    pub found_place : (place : ℕ) → ¬ (number ≡ 0)
        → (IsHonest now → (c : BucketContent) → bucket_in dims (pages now number) ≡ Some c
        → HasAt id c.entries place)
        → IsHonest old → (chain : List Bucket) → ChainStands dims (pages old) first chain
        → IsInChain id chain number place
    found_place place some reads h chain stands =
        let p = so_far.left h chain stands in
        let b = begins_here some h chain stands in
        record {
          before = p.before;
          bucket = b.bucket;
          after = b.behind;
          is = p.is ∙ ap (λ (bs : List Bucket). p.before ++ bs) b.is;
          page_is = b.page;
          has = subst (λ (es : List Entry). HasAt id es place) b.entries
              (reads (so_far.asks.gate.honest.0 h) b.content (there_now some h chain stands));
        }

    pub goes_past : (found : Option ℕ) (next_number : ℕ) (next : PageCache B A m) → ¬ (number ≡ 0)
        → found ≡ None → AsksUntil now next None
        → (IsHonest now → (c : BucketContent) → bucket_in dims (pages now number) ≡ Some c
        → IsFoundAt id c.entries found × (next_number ≡ c.next))
        → (IsHonest now → NamesNext dims (given now number) next_number)
        → Searching dims id directory first old next (walked + 1) number next_number
    goes_past found next_number next some none asks reads names = record {
      asks = asks_in_turn old now next None so_far.asks asks;
      met = λ h. inr (meets_here dims (given old) first number number some (so_far.along h) refl);
      along = λ h. along_on dims (given old) first number next_number (so_far.along h)
          (named_before next_number h names);
      left = λ h chain stands.
          let p = so_far.left h chain stands in
          let b = begins_here some h chain stands in
          let read = reads (so_far.asks.gate.honest.0 h) b.content (there_now some h chain stands) in
          let not_in : kept_in id b.bucket.entries ≡ None = ap (kept_in id) (sym b.entries)
          ∙ subst (IsFoundAt id b.content.entries) none read.0 in
          record {
            before = p.before ++ b.bucket ∷ [];
            rest = b.behind;
            is = p.is ∙ ap (λ (bs : List Bucket). p.before ++ bs) b.is
                ∙ sym (append_assoc p.before (b.bucket ∷ []) b.behind);
            stands = subst (λ n. ChainStands dims (pages old) n b.behind) (sym read.1) b.rest;
            same = p.same ∙ ap (λ (bs : List Bucket). kept_in id (entries_in bs)) b.is
                ∙ not_here id b.bucket.entries (entries_in b.behind) not_in;
            long = let e = ap length b.is in omega (arith, p.long, e);
          };
    }

-- ---- the page of an identifier

pub occurs-append : (n : ℕ) (xs ys : List Bucket)
    → occurs_in_chain n (xs ++ ys) ≡ occurs_in_chain n xs + occurs_in_chain n ys
occurs-append n [] ys = omega arith
occurs-append n (x ∷ xs) ys = let rest = occurs-append n xs ys in omega (arith, rest)

pub here_at : (page n : ℕ) → page ≡ n → ◌≡◌ {A = ℕ} (cond (eqb page n) 1 0) 1
here_at page n is = grind (arith, nat_tests)

-- a chain in which an identifier is begins with a bucket
pub first_there : (dims : ℕ) (pages : PageMap) (id : ℕ) (chain : List Bucket) (first holder place : ℕ)
    → ChainStands dims pages first chain → IsInChain id chain holder place → Begins dims pages first chain
first_there dims pages id [] first holder place stands p = let e = ap length p.is in
    absurd (omega (arith, e, length-append p.before (p.bucket ∷ p.after)))
first_there dims pages id (b ∷ bs) first holder place stands p =
    begins_at dims pages first (b ∷ bs) stands (λ none. omega (arith, none, stands.1))

-- a bucket with an object in a place
pub record HoldsAt (dims : ℕ) (pages : PageMap) (page place : ℕ) : Type 0 where
  pub content : BucketContent
  pub there : bucket_in dims (pages page) ≡ Some content
  pub within : place < length content.entries

pub holder_there : (dims : ℕ) (pages : PageMap) (id : ℕ) (chain : List Bucket) (first holder place : ℕ)
    → ChainStands dims pages first chain → IsInChain id chain holder place → HoldsAt dims pages holder place
holder_there dims pages id chain first holder place stands p =
    at p.before first (subst (ChainStands dims pages first) p.is stands)
  where
    at : (before : List Bucket) (first : ℕ) → ChainStands dims pages first (before ++ p.bucket ∷ p.after)
        → HoldsAt dims pages holder place
    at [] first h =
        record {
          content = record { next = h.2; entries = p.bucket.entries };
          there = ap (λ n. bucket_in dims (pages n)) (sym p.page_is) ∙ h.3;
          within = p.has.within;
        }
    at (b ∷ bs) first h = at bs h.2 h.4

-- and what that bucket has
pub holder_entries : (dims : ℕ) (pages : PageMap) (id : ℕ) (chain : List Bucket) (first holder place : ℕ)
    → ChainStands dims pages first chain → (p : IsInChain id chain holder place)
    → (c : BucketContent) → bucket_in dims (pages holder) ≡ Some c → c.entries ≡ p.bucket.entries
holder_entries dims pages id chain first holder place stands p c is =
    at p.before first (subst (ChainStands dims pages first) p.is stands)
  where
    at : (before : List Bucket) (first : ℕ) → ChainStands dims pages first (before ++ p.bucket ∷ p.after)
        → c.entries ≡ p.bucket.entries
    at [] first h =
        let there : bucket_in dims (pages holder) ≡ Some
        (record { next = h.2; entries = p.bucket.entries }) =
        ap (λ n. bucket_in dims (pages n)) (sym p.page_is) ∙ h.3 in
        let same : c ≡ record { next = h.2; entries = p.bucket.entries } = cc (is, there) in
        ap (λ (k : BucketContent). k.entries) same
    at (b ∷ bs) first h = at bs h.2 h.4

-- a page of a chain is not the directory
pub chain_apart : (dims : ℕ) (pages : PageMap) (t : IdChains) (class n : ℕ) → IdChainsStand dims pages t
    → class < 1000 → 0 < occurs_in_chain n (chain_at t class) → ¬ (t.page ≡ n)
chain_apart dims pages t class n stands small here is =
    let part = chain_in_table n class t (omega (arith, small, stands.whole)) in
    let one = here_at t.page n is in omega (arith, part, one, here, stands.once n)

pub first_apart : (dims : ℕ) (pages : PageMap) (t : IdChains) (class first : ℕ)
    → Begins dims pages first (chain_at t class) → IdChainsStand dims pages t → class < 1000 → ¬ (t.page ≡ first)
first_apart dims pages t class first b stands small =
    let one = here_at b.bucket.page first b.page in let counted = ap (occurs_in_chain first) b.is in
    chain_apart dims pages t class first stands small (omega (arith, one, counted))

pub holder_apart : (dims : ℕ) (pages : PageMap) (t : IdChains) (class id holder place : ℕ)
    → IsInChain id (chain_at t class) holder place → IdChainsStand dims pages t → class < 1000
    → ¬ (t.page ≡ holder)
holder_apart dims pages t class id holder place p stands small =
    let one = here_at p.bucket.page holder p.page_is in let counted = ap (occurs_in_chain holder) p.is in
    chain_apart dims pages t class holder stands small
    (omega (arith, one, counted, occurs-append holder p.before (p.bucket ∷ p.after)))
