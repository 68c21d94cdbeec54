-- An object of a chain with another box, and the table with it.
use Rattle.std.proofs.Common.{◌≡◌, ◌∙◌, ℕ, suc, ◌<◌, ◌≤◌, All, drop, take, get_or, set, Bool, true, false}
use Rattle.std.proofs.Common.{cond, eqb, Option, Some, None, List, [], ◌∷◌, ◌++◌, length, refl, sym, ap}
use Rattle.std.proofs.Common.{subst, arith}
use Rattle.box_math.specs.Objects.{Object}
use Rattle.bucket_page.specs.Layout.{Entry}
use Rattle.std.proofs.lemmas.Bool.Decides.{nat_tests}
use Rattle.std.proofs.lemmas.Cmp.{nat_cmp_total}
use Rattle.std.proofs.lemmas.List.{length-set}
use Rattle.std.proofs.lemmas.List.Concat.{flat_map-append}
use Rattle.std.specs.FinMap as map
use Rattle.std.specs.FinMap.{get-insert, nat_cmp-IsAntisymmetric, same_map}
use Rattle.node_page.specs.Standing.{PageMap}
use Rattle.id_chains.specs.Changes.{Sets}
use Rattle.id_chains.specs.Pages.{IsInChain}
use Rattle.id_words.specs.Objects.{kept_in, times_in}
use Rattle.id_chains.specs.Table.{Bucket, ChainStands, IdChains, IdChainsStand, IsFilled, chain_at}
use Rattle.id_chains.specs.Table.{class_of, entries_in, link_at, objects_of, occurs_in_chain}
use Rattle.id_words.proofs.ObjectLemmas.{all_more, one_more, times_more, same_key}
use Rattle.id_chains.proofs.BucketLemmas.{some_object}
use Rattle.id_chains.proofs.HolderLemmas.{PutsAt, full_changed, puts_in_chain, regroup}
use Rattle.id_chains.proofs.PlaceLemmas.{here_at, holder_apart, occurs-append}
use Rattle.id_chains.proofs.RemoveLemmas.{all_less, none_in, one_of, split_set}
use Rattle.id_chains.proofs.ReplaceLemmas.{Replaces, found_with, moves_with, stands_with, with_chain}
use Rattle.id_chains.proofs.TableLemmas.{chain_in_table, found_by_class}

-- the buckets behind the first one are as full as they were
rest_full : (bs : List Bucket) (b : Bucket) (es : List Entry) (after : List Bucket)
    → length es ≡ length b.entries → All (λ (b : Bucket). length b.entries ≡ 100) (drop 1 (bs ++ b ∷ after))
    → All (λ (b : Bucket). length b.entries ≡ 100)
    (drop 1 (bs ++ record { page = b.page; entries = es } ∷ after))
rest_full [] b es after size full = full
rest_full (a ∷ bs) b es after size full = full_changed bs b es after size full

-- an object among others gives way to another of its identifier
module _ (x y : Entry) (before after : List Entry) (same : y.0 ≡ x.0)
    (single : (i : ℕ) → times_in i (before ++ y ∷ after) ≤ 1) where
  pub still_single : (i : ℕ) → times_in i (before ++ x ∷ after) ≤ 1
  still_single i = let e : ◌≡◌ {A = ℕ} (cond (eqb y.0 i) 1 0) (cond (eqb x.0 i) 1 0) =
      ap (λ k. cond (eqb k i) 1 0) same in
      omega (arith, e, single i, times_more i x before after, times_more i y before after)

  no_other : kept_in x.0 (before ++ after) ≡ None
  no_other =
      none_in x.0 (before ++ after)
      (omega (arith, single x.0, times_more x.0 y before after, one_of y.0 x.0 same))

  pub found_instead : (q : ℕ)
      → kept_in q (before ++ x ∷ after) ≡ cond (eqb x.0 q) (Some x.1) (kept_in q (before ++ y ∷ after))
  found_instead q =
      step (eqb x.0 q) (eqb y.0 q) (kept_in q (before ++ after)) (ap (λ k. eqb k q) same)
      (one_more q x before after no_other)
      (one_more q y before after (ap (λ k. kept_in k (before ++ after)) same ∙ no_other))
    where
      step : (xq yq : Bool) (base : Option Object) {now was : Option Object} → yq ≡ xq
          → now ≡ cond xq (Some x.1) base → was ≡ cond yq (Some y.1) base → now ≡ cond xq (Some x.1) was
      step true yq base e n w = n
      step false true base e n w = absurd (cc)
      step false false base e n w = n ∙ sym w

-- where an identifier is in its chain
module _ (dims : ℕ) (old : PageMap) (t : IdChains) (id page place : ℕ) (stands : IdChainsStand dims old t)
    (p : IsInChain id (chain_at t (class_of id)) page place) where
  abbrev y : Entry
  y = get_or p.bucket.entries place some_object

  abbrev before : List Entry
  before = entries_in p.before ++ take place p.bucket.entries

  abbrev after : List Entry
  after = drop (suc place) p.bucket.entries ++ entries_in p.after

  small : class_of id < 1000
  small = omega arith

  held : entries_in (chain_at t (class_of id)) ≡ before ++ y ∷ after
  held = ap entries_in p.is ∙ flat_map-append (λ (b : Bucket). b.entries) p.before (p.bucket ∷ p.after)
      ∙ ap (λ (es : List Entry). entries_in p.before ++ (es ++ entries_in p.after))
      (split_set p.bucket.entries place y some_object p.has.within).0
      ∙ regroup [] (entries_in p.before) (take place p.bucket.entries) (drop (suc place) p.bucket.entries)
      (entries_in p.after) y

  filled : IsFilled (class_of id) (chain_at t (class_of id))
  filled = stands.filled (class_of id) small

  single : (i : ℕ) → times_in i (before ++ y ∷ after) ≤ 1
  single i = subst (λ (es : List Entry). times_in i es ≤ 1) held (filled.single i)

  -- what the table has for it is what is kept of the object there
  pub kept_there : (kept : Object) → map.get (objects_of t) id ≡ Some kept → ◌≡◌ {A = Entry} y (id, kept)
  kept_there kept has =
      let id_is : y.0 ≡ id = p.has.id_is some_object in
      let no_other : kept_in y.0 (before ++ after) ≡ None =
      none_in y.0 (before ++ after)
      (omega (arith, single y.0, times_more y.0 y before after, one_of y.0 y.0 refl)) in
      let here : kept_in id (entries_in (chain_at t (class_of id))) ≡ cond (eqb y.0 id) (Some y.1)
      (kept_in id (before ++ after)) = ap (kept_in id) held ∙ one_more id y before after no_other in
      let found : Some y.1 ≡ Some kept =
      sym (here ∙ ap (λ b. cond b (Some y.1) (kept_in id (before ++ after))) (is_there y.0 id id_is))
      ∙ sym (found_by_class t id stands.whole stands.filled) ∙ has in
      same_entry y id kept id_is found
    where
      is_there : (a q : ℕ) → a ≡ q → eqb a q ≡ true
      is_there a q is = grind (arith, nat_tests)

      same_entry : (e : Entry) (i : ℕ) (o : Object) → e.0 ≡ i → ◌≡◌ {A = Option Object} (Some e.1) (Some o)
          → ◌≡◌ {A = Entry} e (i, o)
      same_entry (j, u) i o first second = cc

  -- the table with another object in its place
  module _ (new : PageMap) (kept : Object) (puts : PutsAt dims old new page place (id, kept)) where
    abbrev x : Entry
    x = (id, kept)

    abbrev chain : List Bucket
    chain = p.before ++ record { page = p.bucket.page; entries = set p.bucket.entries place x } ∷ p.after

    counted : (n : ℕ) → occurs_in_chain n chain ≡ occurs_in_chain n (chain_at t (class_of id))
    counted n =
        occurs-append n p.before
        (record { page = p.bucket.page; entries = set p.bucket.entries place x } ∷ p.after)
        ∙ sym (occurs-append n p.before (p.bucket ∷ p.after)) ∙ sym (ap (occurs_in_chain n) p.is)

    once : (n : ℕ) → occurs_in_chain n (chain_at t (class_of id)) ≤ 1
    once n =
        omega (arith, chain_in_table n (class_of id) t (omega (arith, small, stands.whole)), stands.once n)

    holds : entries_in chain ≡ before ++ x ∷ after
    holds = flat_map-append (λ (b : Bucket). b.entries) p.before
        (record { page = p.bucket.page; entries = set p.bucket.entries place x } ∷ p.after)
        ∙ ap (λ (es : List Entry). entries_in p.before ++ (es ++ entries_in p.after))
        (split_set p.bucket.entries place x some_object p.has.within).1
        ∙ regroup [] (entries_in p.before) (take place p.bucket.entries) (drop (suc place) p.bucket.entries)
        (entries_in p.after) x

    replaces : Replaces dims old new t stands.directory (class_of id) chain
    replaces = record {
      directory = stands.directory;
      there = puts.others t.page (holder_apart dims old t (class_of id) id page place p stands small)
          ∙ stands.there;
      spelled = stands.spelled;
      first = puts_in_chain dims old new (link_at (class_of id) stands.directory) page place x p.before
          p.bucket p.after p.page_is p.has.within
          (λ n. subst (λ (bs : List Bucket). occurs_in_chain n bs ≤ 1) p.is (once n)) puts
          (subst (ChainStands dims old (link_at (class_of id) stands.directory)) p.is
          (stands.chains (class_of id) small));
      links = λ other differ. refl;
      filled = record {
        full = rest_full p.before p.bucket (set p.bucket.entries place x) p.after
            (length-set p.bucket.entries place x)
            (subst (λ (bs : List Bucket). All (λ (b : Bucket). length b.entries ≡ 100) (drop 1 bs)) p.is
            filled.full);
        placed = subst (All (λ (object : Entry). class_of object.0 ≡ class_of id)) (sym holds)
            (all_more (λ (object : Entry). class_of object.0 ≡ class_of id) x before after
            (all_less (λ (object : Entry). class_of object.0 ≡ class_of id) y before after
            (subst (All (λ (object : Entry). class_of object.0 ≡ class_of id)) held filled.placed)).1
            refl);
        single =
            λ i. subst (λ (es : List Entry). times_in i es ≤ 1) (sym holds)
            (still_single x y before after (p.has.id_is some_object) single i);
      };
      others =
          λ n off gone none. puts.others n
          (λ is. let one = here_at p.bucket.page n (p.page_is ∙ sym is) in
          let here = ap (occurs_in_chain n) p.is in
          omega (arith, one, here, gone, occurs-append n p.before (p.bucket ∷ p.after)));
      came = λ n gone some. absurd (omega (arith, gone, some, counted n));
      went = λ n some none. absurd (omega (arith, some, none, counted n));
      once = λ n. omega (arith, once n, counted n);
    }

    found : (q : ℕ)
        → kept_in q (entries_in chain) ≡ cond (eqb id q) (Some kept)
        (kept_in q (entries_in (chain_at t (class_of id))))
    found q = ap (kept_in q) holds ∙ found_instead x y before after (p.has.id_is some_object) single q
        ∙ ap (λ (es : List Entry). cond (eqb id q) (Some kept) (kept_in q es)) (sym held)

    pub sets_box : Sets dims old new t id kept
    sets_box =
        let stands_now = stands_with dims old new t (class_of id) chain small stands replaces in
        record {
          table = with_chain t (class_of id) chain;
          page = refl;
          stands = stands_now;
          objects =
              same_map nat_cmp_total nat_cmp-IsAntisymmetric (objects_of (with_chain t (class_of id) chain))
              (map.insert (objects_of t) id kept) (λ q.
              found_with dims old new t id chain (Some kept) stands stands_now found q
              ∙ ap (λ b. cond b (Some kept) (map.get (objects_of t) q)) (sym (same_key q id))
              ∙ sym (get-insert nat_cmp_total (objects_of t) id kept q));
          moves = moves_with dims old new t (class_of id) chain small stands replaces;
        }
