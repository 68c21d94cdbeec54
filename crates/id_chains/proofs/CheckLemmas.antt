-- What a check of an identifier table has found, object by object and bucket by bucket.
use Rattle.std.proofs.Common.{◌≡◌, ◌∙◌, ℕ, zero, suc, ◌+◌, ◌<◌, ◌≤◌, Bool, true, cond, eqb, Option}
use Rattle.std.proofs.Common.{Some, IsSome, List, [], ◌∷◌, ◌++◌, length, length-append, drop, All, refl, sym}
use Rattle.std.proofs.Common.{ap, subst, ⊎_elim, arith}
use Rattle.std.proofs.lemmas.Bool.{cases_eq}
use Rattle.std.proofs.lemmas.List.{append-nil, append_assoc}
use Rattle.std.proofs.lemmas.List.Concat.{flat_map-append}
use Rattle.std.proofs.lemmas.List.Elements.{All-append, All-cons, All-get_or, All-head, All-nil, All-tail}
use Rattle.std.specs.BTreeSet.{BTreeSet}
use Rattle.block_bytes.specs.PlaceLaws.{first_places-more, get_or-first_places, length-first_places}
use Rattle.block_bytes.specs.Places.{first_places}
use Rattle.bucket_page.specs.Layout.{BucketContent, Entry}
use Rattle.node_page.specs.Checked.{named_pages}
use Rattle.node_page.specs.Standing.{PageMap}
use Rattle.node_page.proofs.VisitLemmas.{times_more}
use Rattle.id_words.specs.Seen.{SeesOne, seen_times}
use Rattle.id_words.proofs.ObjectLemmas.{times-append, not_there}
use Rattle.id_words.proofs.SeenLemmas.{seen_once, none_seen}
use Rattle.id_chains.specs.Checked.{AddsBucket, AddsChain, AddsObjects, MayFollow}
use Rattle.id_chains.specs.Table.{Bucket, ChainStands, IsFilled, bucket_in, class_of, entries_in}
use Rattle.id_words.specs.Objects.{times_in}
use Rattle.id_chains.specs.Table.{occurs_in_chain}
use Rattle.id_chains.proofs.BucketLemmas.{some_object}
use Rattle.id_chains.proofs.PlaceLemmas.{here_at, occurs-append}
use Rattle.id_chains.proofs.TableLemmas.{chain_short, chain_there}
use Rattle.id_chains.proofs.WalkLemmas.{begins_at}

-- ---- objects

pub adds_none : (class : ℕ) (objects pairs : List Entry) (seen : BTreeSet ℕ) → objects ≡ []
    → AddsObjects class objects pairs pairs seen seen
adds_none class objects pairs seen none =
    subst (λ (os : List Entry). AddsObjects class os pairs pairs seen seen) (sym none) (record {
      pairs_are = sym (append-nil pairs);
      placed = All-nil (λ (object : Entry). class_of object.0 ≡ class);
      seen_are = λ id. omega arith;
    })

pub adds_one : (class : ℕ) (objects more before pairs pairs_next : List Entry)
    (seen_before seen seen_next : BTreeSet ℕ) (x : Entry)
    → AddsObjects class objects before pairs seen_before seen → class_of x.0 ≡ class
    → pairs_next ≡ pairs ++ x ∷ []
    → SeesOne seen seen_next x.0 → more ≡ objects ++ x ∷ []
    → AddsObjects class more before pairs_next seen_before seen_next
adds_one class objects more before pairs pairs_next seen_before seen seen_next x so_far is pushed sees
    grown = subst (λ (os : List Entry). AddsObjects class os before pairs_next seen_before seen_next)
    (sym grown) (record {
      pairs_are = pushed ∙ ap (λ (ps : List Entry). ps ++ x ∷ []) so_far.pairs_are
          ∙ append_assoc before objects (x ∷ []);
      placed = All-append (λ (object : Entry). class_of object.0 ≡ class) objects (x ∷ []) so_far.placed
          (All-cons (λ (object : Entry). class_of object.0 ≡ class) x [] is
          (All-nil (λ (object : Entry). class_of object.0 ≡ class)));
      seen_are = λ id. let times = times-append id objects (x ∷ []) in
          omega (arith, sees id, so_far.seen_are id, times);
    })

-- the object in a place, beside those in the places before it
pub times_places : (id : ℕ) (at : ℕ → Entry) (place count : ℕ) → place < count
    → times_in id (first_places at place) + cond (eqb (at place).0 id) 1 0 ≤ times_in id
    (first_places at count)
times_places id at place zero lt = absurd (omega (arith, lt))
times_places id at place (suc count) lt =
    let more : first_places at (suc count) ≡ first_places at count
    ++ at count ∷ [] =
    ap (λ (n : ℕ). first_places at n) (let e : suc count ≡ count + 1 = omega arith in e)
    ∙ first_places-more at count in
    let times = ap (times_in id) more ∙ times-append id (first_places at count) (at count ∷ []) in
    ⊎_elim
    (λ (is : place ≡ count). let same =
    ap (λ (n : ℕ). times_in id (first_places at n) + cond (eqb (at n).0 id) 1 0) is in
    omega (arith, times, same))
    (λ (other : ¬ (place ≡ count)). let before = times_places id at place count (omega (arith, lt, other)) in
    omega (arith, times, before))
    (cases_eq place count)

pub placed_at : (P : Entry → Type 0) (at : ℕ → Entry) (place count : ℕ) → place < count
    → All P (first_places at count) → P (at place)
placed_at P at place count lt all =
    subst P (get_or-first_places at count place some_object lt)
    (All-get_or P (first_places at count) place some_object (omega (arith, length-first_places at count, lt))
    all)

-- ---- buckets

entries-more : (bs : List Bucket) (b : Bucket) → entries_in (bs ++ b ∷ []) ≡ entries_in bs ++ b.entries
entries-more bs b = flat_map-append (λ (c : Bucket). c.entries) bs (b ∷ [])
    ∙ ap (λ (es : List Entry). entries_in bs ++ es) (append-nil b.entries)

abbrev IsFull : Bucket → Type 0
IsFull b = length b.entries ≡ 100

full_more : (bs : List Bucket) (b : Bucket) → All IsFull (drop 1 bs) → (0 < length bs → IsFull b)
    → All IsFull (drop 1 (bs ++ b ∷ []))
full_more [] b all full = All-nil IsFull
full_more (c ∷ bs) b all full =
    All-append IsFull bs (b ∷ []) all (All-cons IsFull b [] (full (omega arith)) (All-nil IsFull))

full_at : (bs : List Bucket) (b : Bucket) (behind : List Bucket) → All IsFull (drop 1 (bs ++ b ∷ behind))
    → 0 < length bs → IsFull b
full_at [] b behind all some = absurd (omega (arith, some))
full_at (c ∷ bs) b behind all some = at bs all
  where
    at : (xs : List Bucket) → All IsFull (xs ++ b ∷ behind) → IsFull b
    at [] all = All-head IsFull b behind all
    at (x ∷ xs) all = at xs (All-tail IsFull x (xs ++ b ∷ behind) all)

-- the rest of a chain that stands, from a page on
pub record Behind (dims : ℕ) (pages : PageMap) (number : ℕ) (chain before : List Bucket) : Type 0 where
  pub rest : List Bucket
  pub is : chain ≡ before ++ rest
  pub stands : ChainStands dims pages number rest

-- the buckets so far, and the page from which the chain has to go on
pub record Prefix (dims : ℕ) (pages : PageMap) (class first walked number : ℕ)
    (pairs_before pairs : List Entry) (list_before list : List ℕ) (seen : BTreeSet ℕ) : Type 0 where
  pub before : List Bucket
  pub many : length before ≡ walked
  pub joins : (rest : List Bucket) → ChainStands dims pages number rest
      → ChainStands dims pages first (before ++ rest)
  pub parts : (chain : List Bucket) → ChainStands dims pages first chain
      → Behind dims pages number chain before
  pub full : All IsFull (drop 1 before)
  pub placed : All (λ object. class_of object.0 ≡ class) (entries_in before)
  pub seen_are : (id : ℕ) → seen_times seen id ≡ times_in id (entries_in before)
  pub pairs_are : pairs ≡ pairs_before ++ entries_in before
  pub pages_are : (n : ℕ) → named_pages list n ≡ named_pages list_before n + occurs_in_chain n before

module _ (dims : ℕ) (pages : PageMap) (class first : ℕ) (pairs_before : List Entry)
    (list_before : List ℕ) where
  pub prefix_none : (seen : BTreeSet ℕ) → seen.keys ≡ []
      → Prefix dims pages class first 0 first pairs_before pairs_before list_before list_before seen
  prefix_none seen none = record {
    before = [];
    many = refl;
    joins = λ rest stands. stands;
    parts = λ chain stands. record { rest = chain; is = refl; stands = stands };
    full = All-nil IsFull;
    placed = All-nil (λ (object : Entry). class_of object.0 ≡ class);
    seen_are = λ id. none_seen seen id none;
    pairs_are = sym (append-nil pairs_before);
    pages_are = λ n. omega arith;
  }

  module _ (walked number : ℕ) (pairs : List Entry) (list : List ℕ) (seen : BTreeSet ℕ)
      (p : Prefix dims pages class first walked number pairs_before pairs list_before list seen) where
    pub prefix_more : (next : ℕ) (whole : Bool) (pairs_next : List Entry) (list_next : List ℕ)
        (seen_next : BTreeSet ℕ) → (0 < walked → whole ≡ true)
        → AddsBucket dims pages class number next whole pairs pairs_next list list_next seen seen_next
        → Prefix dims pages class first (walked + 1) next pairs_before pairs_next list_before list_next
        seen_next
    prefix_more next whole pairs_next list_next seen_next must a =
        let b : Bucket = record { page = number; entries = a.entries } in
        let es = entries-more p.before b in
        let placed : All (λ (object : Entry). class_of object.0 ≡ class) (entries_in p.before ++ a.entries) =
        All-append (λ (object : Entry). class_of object.0 ≡ class) (entries_in p.before) a.entries
        p.placed a.objects.placed in
        record {
          before = p.before ++ b ∷ [];
          many = omega (arith, length-append p.before (b ∷ []), p.many);
          joins = λ rest stands. subst (ChainStands dims pages first)
              (sym (append_assoc p.before (b ∷ []) rest))
              (p.joins (b ∷ rest) (refl, a.low, next, a.there, stands));
          parts = λ chain stands. let q = p.parts chain stands in next_part chain q.rest q.is q.stands;
          full = full_more p.before b p.full (λ some. a.full (must (omega (arith, some, p.many))));
          placed = subst (All (λ (object : Entry). class_of object.0 ≡ class)) (sym es) placed;
          seen_are = λ id. let counted = ap (times_in id) es
              ∙ times-append id (entries_in p.before) a.entries in
              omega (arith, a.objects.seen_are id, p.seen_are id, counted);
          pairs_are = a.objects.pairs_are ∙ ap (λ (ps : List Entry). ps ++ a.entries) p.pairs_are
              ∙ append_assoc pairs_before (entries_in p.before) a.entries
              ∙ ap (λ (ps : List Entry). pairs_before ++ ps) (sym es);
          pages_are = λ n. let visited = ap (λ (l : List ℕ). named_pages l n) a.visited
              ∙ times_more n number list in
              omega (arith, visited, p.pages_are n, occurs-append n p.before (b ∷ []));
        }
      where
        next_part : (chain rest : List Bucket) → chain ≡ p.before ++ rest
            → ChainStands dims pages number rest
            → Behind dims pages next chain (p.before ++ record { page = number; entries = a.entries } ∷ [])
        next_part chain [] is stands = absurd (omega (arith, a.low, stands))
        next_part chain (c ∷ cs) is stands =
            let b : Bucket = record { page = number; entries = a.entries } in
            let read : ◌≡◌ {A = Option BucketContent}
            (Some (record { next = stands.2; entries = c.entries }))
            (Some (record { next = next; entries = a.entries })) = sym stands.3
            ∙ ap (λ (n : ℕ). bucket_in dims (pages n)) (sym stands.0) ∙ a.there in
            let content : ◌≡◌ {A = BucketContent} (record { next = stands.2; entries = c.entries })
            (record { next = next; entries = a.entries }) = cc in
            let same : ◌≡◌ {A = Bucket} c b =
            ap (λ (x : BucketContent). record { page = c.page; entries = x.entries }) content
            ∙ ap (λ (n : ℕ). record { page = n; entries = a.entries }) (sym stands.0) in
            record {
              rest = cs;
              is = is ∙ ap (λ (x : Bucket). p.before ++ x ∷ cs) same
                  ∙ sym (append_assoc p.before (b ∷ []) cs);
              stands =
                  subst (λ (n : ℕ). ChainStands dims pages n cs) (ap (λ (x : BucketContent). x.next) content)
                  stands.4;
            }

    pub prefix_all : number ≡ 0 → AddsChain dims pages class first pairs_before pairs list_before list
    prefix_all none = record {
      chain = p.before;
      stands = subst (ChainStands dims pages first) (append-nil p.before) (p.joins [] none);
      filled =
          record {
            full = p.full;
            placed = p.placed;
            single = λ id. omega (arith, p.seen_are id, seen_once seen id);
          };
      pairs_are = p.pairs_are;
      pages_are = p.pages_are;
    }

    -- the bucket that has to come next in a chain that stands
    pub record Next (whole : Bool) : Type 0 where
      pub content : BucketContent
      pub there : bucket_in dims (pages number) ≡ Some content
      pub follows : MayFollow class number whole content list seen

    pub next_is : (whole : Bool) (chain : List Bucket) → (whole ≡ true → 0 < walked) → ¬ (number ≡ 0)
        → ChainStands dims pages first chain → IsFilled class chain
        → ((n : ℕ) → named_pages list_before n + occurs_in_chain n chain ≤ 1) → Next whole
    next_is whole chain must some stands filled once =
        let q = p.parts chain stands in
        let b = begins_at dims pages number q.rest q.stands some in
        let is : chain ≡ p.before ++ b.bucket ∷ b.behind = q.is
        ∙ ap (λ (bs : List Bucket). p.before ++ bs) b.is in
        let all : entries_in chain ≡ entries_in p.before
        ++ (b.bucket.entries ++ entries_in b.behind) = ap entries_in is
        ∙ flat_map-append (λ (c : Bucket). c.entries) p.before (b.bucket ∷ b.behind) in
        let placed = subst (All (λ (object : Entry). class_of object.0 ≡ class)) all filled.placed in
        let counted = ap (occurs_in_chain number) is ∙ occurs-append number p.before (b.bucket ∷ b.behind) in
        record {
          content = b.content;
          there = b.there;
          follows = record {
            low = b.low;
            unvisited =
                omega (arith, once number, counted, p.pages_are number, here_at b.bucket.page number b.page);
            full = λ yes. ap length b.entries
                ∙ full_at p.before b.bucket b.behind
                (subst (λ (bs : List Bucket). All IsFull (drop 1 bs)) is filled.full)
                (omega (arith, p.many, must yes));
            placed = subst (All (λ (object : Entry). class_of object.0 ≡ class)) (sym b.entries)
                (front (λ (object : Entry). class_of object.0 ≡ class) b.bucket.entries (entries_in b.behind)
                (back (λ (object : Entry). class_of object.0 ≡ class) (entries_in p.before)
                (b.bucket.entries ++ entries_in b.behind) placed));
            single = λ id.
                let times = ap (times_in id) all
                ∙ times-append id (entries_in p.before) (b.bucket.entries ++ entries_in b.behind) in
                let here = times-append id b.bucket.entries (entries_in b.behind) in
                let same = ap (times_in id) b.entries in
                omega (arith, filled.single id, times, here, same, p.seen_are id);
          };
        }
      where
        back : (P : Entry → Type 0) (xs ys : List Entry) → All P (xs ++ ys) → All P ys
        back P [] ys all = all
        back P (x ∷ xs) ys all = back P xs ys (All-tail P x (xs ++ ys) all)

        front : (P : Entry → Type 0) (xs ys : List Entry) → All P (xs ++ ys) → All P xs
        front P [] ys all = All-nil P
        front P (x ∷ xs) ys all =
            All-cons P x xs (All-head P x (xs ++ ys) all) (front P xs ys (All-tail P x (xs ++ ys) all))

    -- it ends before it has as many buckets as there are pages
    pub never_so_long : (next : ℕ) (chain : List Bucket) → next ≤ walked → 0 < next
        → ((n : ℕ) → IsSome (pages n) → (2 ≤ n) × (n < next)) → ChainStands dims pages first chain
        → ((n : ℕ) → named_pages list_before n + occurs_in_chain n chain ≤ 1) → ⊥
    never_so_long next chain long some given stands once =
        let q = p.parts chain stands in
        let all : List Bucket = record { page = 0; entries = [] } ∷ chain in
        let none : occurs_in_chain 0 chain ≡ 0 =
        ⊎_elim (λ (is : occurs_in_chain 0 chain ≡ 0). is)
        (λ (other : ¬ (occurs_in_chain 0 chain ≡ 0)). absurd
        (omega (
          arith,
          (given 0 (chain_there dims pages first chain 0 stands (omega (arith, other)))).0,
        )))
        (cases_eq (occurs_in_chain 0 chain) 0) in
        let few : length all ≤ next = chain_short all next
        (λ n. ⊎_elim
        (λ (is : 0 ≡ n). let zero_times : occurs_in_chain n chain ≡ 0 =
        ap (λ (k : ℕ). occurs_in_chain k chain) (sym is) ∙ none in
        omega (arith, zero_times, here_at 0 n is))
        (λ (other : ¬ (0 ≡ n)). omega (arith, not_there 0 n other, once n)) (cases_eq 0 n))
        (λ n here. ⊎_elim (λ (is : 0 ≡ n). omega (arith, is, some))
        (λ (other : ¬ (0 ≡ n)).
        (given n
        (chain_there dims pages first chain n stands (omega (arith, not_there 0 n other, here)))).1)
        (cases_eq 0 n)) in
        omega (arith, few, long, p.many, ap length q.is, length-append p.before q.rest)

    -- and so it has not ended after as many
    pub not_ended : (next : ℕ) → next ≤ walked → 0 < next
        → ((n : ℕ) → IsSome (pages n) → (2 ≤ n) × (n < next)) → ((n : ℕ) → named_pages list n ≤ 1)
        → ¬ (number ≡ 0)
    not_ended next long some given once = λ (none : number ≡ 0).
        never_so_long next p.before long some given
        (subst (ChainStands dims pages first) (append-nil p.before) (p.joins [] none))
        (λ n. omega (arith, once n, p.pages_are n))
