-- What a check of an identifier table has found, chain by chain, and in pages that are live.
use Rattle.std.proofs.Common.{◌≡◌, ◌∙◌, ℕ, suc, ◌+◌, ◌<◌, ◌≤◌, Bool, cond, eqb, Option, Some, None, IsSome}
use Rattle.std.proofs.Common.{List, [], ◌∷◌, ◌++◌, length, length-append, get_or, sum_by, refl, sym, ap}
use Rattle.std.proofs.Common.{subst, ⊎_elim, arith}
use Rattle.std.proofs.Math.ListN.{get_or-append}
use Rattle.std.proofs.Math.Seq.{get_or-append_seam}
use Rattle.std.proofs.lemmas.Bool.{cases_eq}
use Rattle.std.proofs.lemmas.List.{append-nil, append_assoc}
use Rattle.std.proofs.lemmas.List.Concat.{flat_map-append}
use Rattle.std.proofs.lemmas.List.Sums.{sum_by-append, sum_by-cons}
use Rattle.std.specs.BTreeSet.{BTreeSet}
use Rattle.std.specs.List.{flat_map}
use Rattle.bucket_page.specs.Layout.{BucketContent, bucket_at, Entry}
use Rattle.bucket_page.proofs.Reading.{spells}
use Rattle.page_file.specs.Given.{given_is}
use Rattle.page_file.specs.Layout.{kind_of}
use Rattle.page_cache.specs.Cache.{IsHonest, IsPageMap, blocks_behind, given, looks_of, next_of, pages}
use Rattle.page_cache.specs.Calls.{AsksUntil}
use Rattle.page_cache.specs.Laws.{a_live_page_is_given, a_page_in_use_is_live}
use Rattle.page_cache.specs.declared.cache.PageCache.{PageCache}
use Rattle.node_page.specs.Checked.{named_pages}
use Rattle.node_page.specs.Standing.{PageMap}
use Rattle.id_chains.specs.Checked.{AddsBucket, AddsChain, AddsChains, IsCheckedTable, LeadsAlong, MayStand}
use Rattle.id_chains.specs.Table.{Bucket, ChainStands, IdChains, IdChainsStand, IsDirectory, IsFilled, bucket_in}
use Rattle.id_chains.specs.Table.{entries_in, link_at, occurs_in_chain}
use Rattle.id_chains.proofs.CheckLemmas.{Prefix}
use Rattle.id_chains.proofs.ReplaceLemmas.{chain_stays}

-- ---- the chains of a directory

-- at most one chain stands from a page on
pub one_chain : (dims : ℕ) (live : PageMap) (first : ℕ) (bs cs : List Bucket)
    → ChainStands dims live first bs → ChainStands dims live first cs → bs ≡ cs
one_chain dims live first [] [] b c = refl
one_chain dims live first [] (x ∷ cs) b c = absurd (omega (arith, b, c.1))
one_chain dims live first (x ∷ bs) [] b c = absurd (omega (arith, b.1, c))
one_chain dims live first (x ∷ bs) (y ∷ cs) b c =
    let page : x.page ≡ y.page = sym b.0 ∙ c.0 in
    let read : ◌≡◌ {A = Option BucketContent} (Some (record { next = b.2; entries = x.entries }))
    (Some (record { next = c.2; entries = y.entries })) = sym b.3
    ∙ ap (λ (n : ℕ). bucket_in dims (live n)) page ∙ c.3 in
    let content : ◌≡◌ {A = BucketContent} (record { next = b.2; entries = x.entries })
    (record { next = c.2; entries = y.entries }) = cc in
    let same : ◌≡◌ {A = Bucket} x y =
    ap (λ (z : BucketContent). record { page = x.page; entries = z.entries }) content
    ∙ ap (λ (n : ℕ). record { page = n; entries = y.entries }) page in
    let rest =
    one_chain dims live b.2 bs cs b.4
    (subst (λ (n : ℕ). ChainStands dims live n cs) (sym (ap (λ (z : BucketContent). z.next) content))
    c.4) in
    ap (λ (z : Bucket). z ∷ bs) same ∙ ap (λ (zs : List Bucket). y ∷ zs) rest

-- the chains before one, and that one, are a part of all
sums_at : (f : List Bucket → ℕ) (xs cs : List (List Bucket)) → length xs < length cs
    → ((k : ℕ) → k < length xs → get_or xs k [] ≡ get_or cs k [])
    → sum_by f xs + f (get_or cs (length xs) []) ≤ sum_by f cs
sums_at f [] [] lt same = absurd (omega (arith, lt))
sums_at f [] (c ∷ cs) lt same = omega (arith, sum_by-cons f c cs)
sums_at f (x ∷ xs) [] lt same = absurd (omega (arith, lt))
sums_at f (x ∷ xs) (c ∷ cs) lt same =
    let first = ap f (same 0 (omega arith)) in
    let rest = sums_at f xs cs (omega (arith, lt)) (λ k below. same (suc k) (omega (arith, below))) in
    omega (arith, first, rest, sum_by-cons f x xs, sum_by-cons f c cs)

module _ (dims : ℕ) (live : PageMap) (directory : List ℕ) (pairs_before : List Entry)
    (list_before : List ℕ) where
  pub chains_none : AddsChains dims live directory 0 pairs_before pairs_before list_before list_before
  chains_none = record {
    chains = [];
    whole = refl;
    stands = λ class lt. absurd (omega (arith, lt));
    filled = λ class lt. absurd (omega (arith, lt));
    pairs_are = sym (append-nil pairs_before);
    pages_are = λ n. omega arith;
  }

  module _ (count : ℕ) (pairs : List Entry) (list : List ℕ)
      (so_far : AddsChains dims live directory count pairs_before pairs list_before list) where
    pub chains_more : (first : ℕ) (pairs_next : List Entry) (list_next : List ℕ)
        → first ≡ link_at count directory → AddsChain dims live count first pairs pairs_next list list_next
        → AddsChains dims live directory (count + 1) pairs_before pairs_next list_before list_next
    chains_more first pairs_next list_next is a =
        let here : get_or (so_far.chains ++ a.chain ∷ []) count [] ≡ a.chain =
        ap (λ (n : ℕ). get_or (so_far.chains ++ a.chain ∷ []) n []) (sym so_far.whole)
        ∙ get_or-append_seam so_far.chains a.chain [] [] in
        let there : (class : ℕ) → class < count
        → get_or (so_far.chains ++ a.chain ∷ []) class [] ≡ get_or so_far.chains class [] =
        λ class lt. get_or-append so_far.chains (a.chain ∷ []) [] class
        (omega (arith, lt, so_far.whole)) in
        let es = flat_map-append entries_in so_far.chains (a.chain ∷ [])
        ∙ ap (λ (xs : List Entry). flat_map entries_in so_far.chains ++ xs)
        (append-nil (entries_in a.chain)) in
        record {
          chains = so_far.chains ++ a.chain ∷ [];
          whole = omega (arith, length-append so_far.chains (a.chain ∷ []), so_far.whole);
          stands = λ class lt. ⊎_elim
              (λ (now : class ≡ count). subst
              (λ (c : List Bucket). ChainStands dims live (link_at class directory) c)
              (sym (ap (λ (n : ℕ). get_or (so_far.chains ++ a.chain ∷ []) n []) now ∙ here))
              (subst (λ (n : ℕ). ChainStands dims live n a.chain)
              (is ∙ ap (λ (n : ℕ). link_at n directory) (sym now)) a.stands))
              (λ (other : ¬ (class ≡ count)). subst (ChainStands dims live (link_at class directory))
              (sym (there class (omega (arith, lt, other))))
              (so_far.stands class (omega (arith, lt, other))))
              (cases_eq class count);
          filled = λ class lt. ⊎_elim
              (λ (now : class ≡ count). subst (λ (c : List Bucket). IsFilled class c)
              (sym (ap (λ (n : ℕ). get_or (so_far.chains ++ a.chain ∷ []) n []) now ∙ here))
              (subst (λ (n : ℕ). IsFilled n a.chain) (sym now) a.filled))
              (λ (other : ¬ (class ≡ count)). subst (IsFilled class)
              (sym (there class (omega (arith, lt, other))))
              (so_far.filled class (omega (arith, lt, other))))
              (cases_eq class count);
          pairs_are = a.pairs_are ∙ ap (λ (ps : List Entry). ps ++ entries_in a.chain) so_far.pairs_are
              ∙ append_assoc pairs_before (flat_map entries_in so_far.chains) (entries_in a.chain)
              ∙ ap (λ (ps : List Entry). pairs_before ++ ps) (sym es);
          pages_are = λ n.
              let one = sum_by-cons (occurs_in_chain n) a.chain [] in
              omega (
                arith,
                a.pages_are n,
                so_far.pages_are n,
                sum_by-append (occurs_in_chain n) so_far.chains (a.chain ∷ []),
                one,
              );
        }

    -- the live of the next chain were not visited
    pub next_once : (cs : List (List Bucket)) → count < length cs
        → MayStand dims live directory cs list_before → (n : ℕ)
        → named_pages list n + occurs_in_chain n (get_or cs count []) ≤ 1
    next_once cs lt may n =
        let same : (k : ℕ) → k < length so_far.chains
        → get_or so_far.chains k [] ≡ get_or cs k [] = λ k below.
        one_chain dims live (link_at k directory) (get_or so_far.chains k []) (get_or cs k [])
        (so_far.stands k (omega (arith, below, so_far.whole)))
        (may.stands k (omega (arith, below, so_far.whole, lt))) in
        let sums = sums_at (occurs_in_chain n) so_far.chains cs (omega (arith, lt, so_far.whole)) same in
        let at = ap (λ (k : ℕ). occurs_in_chain n (get_or cs k [])) so_far.whole in
        omega (arith, sums, at, so_far.pages_are n, may.once n)

-- ---- the whole table

only_directory : (n page : ℕ) (list : List ℕ) → list ≡ page ∷ [] → named_pages list n ≡ cond (eqb page n) 1 0
only_directory n page list is = ap (λ (l : List ℕ). named_pages l n) is
    ∙ (let e : cond (eqb page n) 1 0 + 0 ≡ cond (eqb page n) 1 0 = omega arith in e)

pub table_checked : (dims : ℕ) (live : PageMap) (directory : ℕ) (bytes : List ℕ)
    (pairs_before pairs : List Entry) (list_before list : List ℕ) → live directory ≡ Some bytes
    → 2 < directory → IsDirectory dims bytes → pairs_before ≡ []
    → list_before ≡ directory ∷ [] → ((n : ℕ) → named_pages list n ≤ 1)
    → AddsChains dims live bytes 1000 pairs_before pairs list_before list
    → IsCheckedTable dims live directory pairs list
table_checked dims live directory bytes pairs_before pairs list_before list there low spelled none first once
    a =
    let parts : (n : ℕ)
    → named_pages list n ≡ cond (eqb directory n) 1 0 + sum_by (occurs_in_chain n) a.chains =
    λ n. omega (arith, a.pages_are n, only_directory n directory list_before first) in
    record {
      table = record { page = directory; chains = a.chains };
      page_is = refl;
      stands = record {
        directory = bytes;
        there = there;
        low = low;
        spelled = spelled;
        whole = a.whole;
        chains = a.stands;
        filled = a.filled;
        once = λ n. omega (arith, parts n, once n);
      };
      pairs_are = a.pairs_are ∙ ap (λ (ps : List Entry). ps ++ flat_map entries_in a.chains) none;
      pages_are = parts;
    }

-- what has to stand once the directory was visited
pub may_stand : (dims : ℕ) (live : PageMap) (t : IdChains) (directory : ℕ) (bytes list : List ℕ)
    → t.page ≡ directory → live directory ≡ Some bytes → IdChainsStand dims live t → list ≡ directory ∷ []
    → MayStand dims live bytes t.chains list
may_stand dims live t directory bytes list at there stands visited =
    let same : ◌≡◌ {A = List ℕ} stands.directory bytes = some_same (sym stands.there ∙ ap live at ∙ there) in
    record {
      stands =
          λ class lt. subst
          (λ (d : List ℕ). ChainStands dims live (link_at class d) (get_or t.chains class [])) same
          (stands.chains class (omega (arith, lt, stands.whole)));
      filled = λ class lt. stands.filled class (omega (arith, lt, stands.whole));
      once = λ n. let page = ap {B = ℕ} (λ (p : ℕ). cond (eqb p n) 1 0) at in
          omega (arith, stands.once n, only_directory n directory list visited, page);
    }
  where
    some_same : {a b : List ℕ} → ◌≡◌ {A = Option (List ℕ)} (Some a) (Some b) → a ≡ b
    some_same e = cc

pub is_spelled : (dims : ℕ) (live : PageMap) (t : IdChains) (directory : ℕ) (bytes : List ℕ)
    → t.page ≡ directory → live directory ≡ Some bytes → IdChainsStand dims live t → IsDirectory dims bytes
is_spelled dims live t directory bytes at there stands =
    let same : ◌≡◌ {A = Option (List ℕ)} (Some stands.directory) (Some bytes) = sym stands.there ∙ ap live at
    ∙ there in let is : stands.directory ≡ bytes = cc in subst (IsDirectory dims) is stands.spelled

-- ---- pages given out, and those that are live

-- buckets and directories of one map are those of the other
module _ (dims : ℕ) (old new : PageMap)
    (bucket : (n : ℕ) (c : BucketContent) → bucket_in dims (old n) ≡ Some c → bucket_in dims (new n) ≡ Some c)
    (directory : (n : ℕ) (page : List ℕ) → old n ≡ Some page → IsDirectory dims page → new n ≡ Some page)
  where
    chain_carried : (first : ℕ) (bs : List Bucket) → ChainStands dims old first bs
        → ChainStands dims new first bs
    chain_carried first [] h = h
    chain_carried first (b ∷ bs) h = (h.0, h.1, h.2, bucket b.page _ h.3, chain_carried h.2 bs h.4)

    pub table_carried : (t : IdChains) → IdChainsStand dims old t → IdChainsStand dims new t
    table_carried t stands = record {
      directory = stands.directory;
      there = directory t.page stands.directory stands.there stands.spelled;
      low = stands.low;
      spelled = stands.spelled;
      whole = stands.whole;
      chains =
          λ class small. chain_carried (link_at class stands.directory) (get_or t.chains class [])
          (stands.chains class small);
      filled = stands.filled;
      once = stands.once;
    }

pub adds_on : (dims : ℕ) (old new : PageMap) (class number next : ℕ) (whole : Bool)
    (pairs_before pairs : List Entry) (list_before list : List ℕ) (seen_before seen : BTreeSet ℕ)
    → ((n : ℕ) → new n ≡ old n)
    → AddsBucket dims old class number next whole pairs_before pairs list_before list seen_before seen
    → AddsBucket dims new class number next whole pairs_before pairs list_before list seen_before seen
adds_on dims old new class number next whole pairs_before pairs list_before list seen_before seen same a =
    record {
      entries = a.entries;
      low = a.low;
      there = ap (bucket_in dims) (same number) ∙ a.there;
      full = a.full;
      objects = a.objects;
      visited = a.visited;
    }

pub chain_on : (dims : ℕ) (old new : PageMap) (class first : ℕ) (pairs_before pairs : List Entry)
    (list_before list : List ℕ) → ((n : ℕ) → new n ≡ old n)
    → AddsChain dims old class first pairs_before pairs list_before list
    → AddsChain dims new class first pairs_before pairs list_before list
chain_on dims old new class first pairs_before pairs list_before list same a = record {
  chain = a.chain;
  stands = chain_stays dims old new first a.chain (λ n here. same n) a.stands;
  filled = a.filled;
  pairs_are = a.pairs_are;
  pages_are = a.pages_are;
}

pub chains_on : (dims : ℕ) (old new : PageMap) (directory : List ℕ) (count : ℕ)
    (pairs_before pairs : List Entry) (list_before list : List ℕ) → ((n : ℕ) → new n ≡ old n)
    → AddsChains dims old directory count pairs_before pairs list_before list
    → AddsChains dims new directory count pairs_before pairs list_before list
chains_on dims old new directory count pairs_before pairs list_before list same a = record {
  chains = a.chains;
  whole = a.whole;
  stands =
      λ class lt. chain_stays dims old new (link_at class directory) (get_or a.chains class [])
      (λ n here. same n) (a.stands class lt);
  filled = a.filled;
  pairs_are = a.pairs_are;
  pages_are = a.pages_are;
}

pub may_stand_on : (dims : ℕ) (old new : PageMap) (directory : List ℕ) (chains : List (List Bucket))
    (list : List ℕ) → ((n : ℕ) → new n ≡ old n) → MayStand dims old directory chains list
    → MayStand dims new directory chains list
may_stand_on dims old new directory chains list same may = record {
  stands =
      λ class lt. chain_stays dims old new (link_at class directory) (get_or chains class [])
      (λ n here. same n) (may.stands class lt);
  filled = may.filled;
  once = may.once;
}

bucket_kind_of : (dims : ℕ) (page : List ℕ) (c : BucketContent) → bucket_at dims page ≡ Some c
    → ¬ (kind_of page ≡ 5)
bucket_kind_of dims page c is free = let kind = (spells dims page c is).head.kind in
    absurd (omega (arith, kind, free))

module _ {B A : Type 0} {m : _} where
  -- a page that is there was given out
  pub was_given_out : (cache : PageCache B A m) (n : ℕ) → IsSome (given cache n)
      → (2 ≤ n) × (n < next_of cache)
  was_given_out cache n = case (given cache n) refl
    where
      case : (o : Option (List ℕ)) → given cache n ≡ o → IsSome o → (2 ≤ n) × (n < next_of cache)
      case None e some = absurd (cc)
      case (Some page) e some = let g = given_is (blocks_behind cache) (next_of cache) n page e in
          (g.low, g.below)

  pub live_table_is_given : (dims : ℕ) (cache : PageCache B A m) (t : IdChains)
      → IdChainsStand dims (pages cache) t → IdChainsStand dims (given cache) t
  live_table_is_given dims cache t stands =
      table_carried dims (pages cache) (given cache) bucket
      (λ n page there spelled. a_live_page_is_given cache n page there) t stands
    where
      bucket : (n : ℕ) (c : BucketContent) → bucket_in dims (pages cache n) ≡ Some c
          → bucket_in dims (given cache n) ≡ Some c
      bucket n c = case (pages cache n) refl
        where
          case : (o : Option (List ℕ)) → pages cache n ≡ o → bucket_in dims o ≡ Some c
              → bucket_in dims (given cache n) ≡ Some c
          case None e is = absurd (cc)
          case (Some page) e is = ap (bucket_in dims) (a_live_page_is_given cache n page e) ∙ is

  pub given_table_is_live : (dims : ℕ) (cache : PageCache B A m) (t : IdChains) → IsPageMap cache
      → IdChainsStand dims (given cache) t → IdChainsStand dims (pages cache) t
  given_table_is_live dims cache t map stands = table_carried dims (given cache) (pages cache) bucket
      (λ n page there spelled. a_page_in_use_is_live cache n page map there
      (λ (free : kind_of page ≡ 5). omega (arith, free, spelled.kind))) t stands
    where
      bucket : (n : ℕ) (c : BucketContent) → bucket_in dims (given cache n) ≡ Some c
          → bucket_in dims (pages cache n) ≡ Some c
      bucket n c = case (given cache n) refl
        where
          case : (o : Option (List ℕ)) → given cache n ≡ o → bucket_in dims o ≡ Some c
              → bucket_in dims (pages cache n) ≡ Some c
          case None e is = absurd (cc)
          case (Some page) e is =
              ap (bucket_in dims) (a_page_in_use_is_live cache n page map e (bucket_kind_of dims page c is))
              ∙ is

  pub checked_live : (dims : ℕ) (cache : PageCache B A m) (directory : ℕ) (pairs : List Entry)
      (list : List ℕ) → IsPageMap cache → IsCheckedTable dims (given cache) directory pairs list
      → IsCheckedTable dims (pages cache) directory pairs list
  checked_live dims cache directory pairs list map is = record {
    table = is.table;
    page_is = is.page_is;
    stands = given_table_is_live dims cache is.table map is.stands;
    pairs_are = is.pairs_are;
    pages_are = is.pages_are;
  }

  -- ---- what the loops have found

  pub record Chained (dims class first : ℕ) (old now : PageCache B A m) (walked number : ℕ)
      (pairs_before pairs : List Entry) (list_before list : List ℕ) (seen : BTreeSet ℕ)
      (marks_before marks : ℕ) : Type 0 where
    pub asks : AsksUntil old now None
    pub found : IsHonest old
        → Prefix dims (given old) class first walked number pairs_before pairs list_before list seen
    pub leads : IsHonest old → (walk : List ℕ) × LeadsAlong dims (given old) first walk number
    pub numbers : marks ≡ marks_before
    pub looks : looks_of now + length list_before ≤ looks_of old + length list

  pub record AllChained (dims : ℕ) (directory : List ℕ) (old now : PageCache B A m) (count : ℕ)
      (pairs_before pairs : List Entry) (list_before list : List ℕ) (marks_before marks : ℕ) : Type 0 where
    pub asks : AsksUntil old now None
    pub found : IsHonest old → AddsChains dims (given old) directory count pairs_before pairs list_before list
    pub numbers : marks ≡ marks_before
    pub looks : looks_of now + length list_before ≤ looks_of old + length list
