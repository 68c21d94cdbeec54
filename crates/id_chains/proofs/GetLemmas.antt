-- A search at a cache.
use Rattle.std.proofs.Common.{◌≡◌, ◌∙◌, ℕ, ◌+◌, ◌<◌, ◌≤◌, true, false, is_some, Some, None, Option, List, []}
use Rattle.std.proofs.Common.{◌∷◌, length, inl, inr, refl, sym, ap, subst, arith}
use Rattle.box_math.specs.Objects.{Object}
use Rattle.std.specs.FinMap as map
use Rattle.bucket_page.specs.Layout.{BucketContent}
use Rattle.page_cache.specs.Cache.{IsHonest, given, next_of, pages}
use Rattle.page_cache.specs.Calls.{AsksUntil, asks_in_turn}
use Rattle.page_cache.specs.Laws.{a_live_page_was_given_out}
use Rattle.page_cache.specs.declared.cache.PageCache.{PageCache}
use Rattle.id_words.specs.Objects.{kept_in}
use Rattle.id_chains.specs.Table.{Bucket, ChainStands, IdChains, IdChainsStand, IsDirectory, bucket_in}
use Rattle.id_chains.specs.Table.{chain_at, class_of, entries_in, link_at, objects_of}
use Rattle.id_chains.specs.Walks.{IsAlong, MeetsInChain, NamesFirst, NamesNext}
use Rattle.id_chains.proofs.MeetLemmas.{along_on, meets_here, same_names}
use Rattle.id_chains.proofs.TableLemmas.{chain_in_table, chain_short, found_by_class, table_there}
use Rattle.id_chains.proofs.WalkLemmas.{Rest, Here, all_left, found_here, is_here, nothing_left, walk_on}

module _ {B A : Type 0} {m : _} where
  -- directory and chain are on pages of their own
  pub chain_is_short : (dims : ℕ) (cache : PageCache B A m) (t : IdChains) (class : ℕ) → class < 1000
      → IdChainsStand dims (pages cache) t → length (chain_at t class) < next_of cache
  chain_is_short dims cache t class small stands =
      let chain = chain_at t class in
      let all : List Bucket = record { page = t.page; entries = [] } ∷ chain in
      let few : length all ≤ next_of cache = chain_short all (next_of cache)
      (λ n. let part = chain_in_table n class t (omega (arith, small, stands.whole)) in
      omega (arith, part, stands.once n))
      (λ n here. let part = chain_in_table n class t (omega (arith, small, stands.whole)) in
      (a_live_page_was_given_out cache n
      (table_there dims (pages cache) t n stands (omega (arith, part, here)))).1) in
      omega (arith, few)

  -- the buckets so far have no such identifier, and what is left of the chain stands
  pub record Walking (dims id directory : ℕ) (old now : PageCache B A m) (walked before number : ℕ) : Type
      0 where
    pub asks : AsksUntil old now None
    pub met : IsHonest old → MeetsInChain dims (given old) directory (class_of id) before
    pub along : IsHonest old → (first : ℕ) × NamesFirst dims (given old directory) (class_of id) first
        × IsAlong dims (given old) first number
    pub left : IsHonest old → (t : IdChains) → t.page ≡ directory → IdChainsStand dims (pages old) t
        → Rest dims (pages old) id (chain_at t (class_of id)) walked number

  pub begins : (dims id directory class number : ℕ) (old now : PageCache B A m) → AsksUntil old now None
      → class ≡ class_of id
      → (IsHonest old → (page : List ℕ) → pages old directory ≡ Some page → IsDirectory dims page
      → number ≡ link_at class page)
      → (IsHonest old → NamesFirst dims (given old directory) class number)
      → Walking dims id directory old now 0 directory number
  begins dims id directory class number old now asks is reads names = record {
    asks = asks;
    met = λ h. inl refl;
    along = λ h. (
      number,
      subst (λ (k : ℕ). NamesFirst dims (given old directory) k number) is (names h),
      ([], refl),
    );
    left = λ h t at stands.
        let first = reads h stands.directory (ap (pages old) (sym at) ∙ stands.there) stands.spelled
        ∙ ap (λ k. link_at k stands.directory) is in
        let within : class_of id < 1000 = omega arith in
        all_left dims (pages old) id (chain_at t (class_of id)) number
        (subst (λ n. ChainStands dims (pages old) n (chain_at t (class_of id))) (sym first)
        (stands.chains (class_of id) within));
  }

  module _ {dims id directory : ℕ} {old now : PageCache B A m} {walked before number : ℕ}
      (so_far : Walking dims id directory old now walked before number) where
    -- the walk has met the page that it is at
    pub meets : ¬ (number ≡ 0) → IsHonest old → (n : ℕ) → n ≡ number
        → MeetsInChain dims (given old) directory (class_of id) n
    meets some h n is = let a = so_far.along h in
        inr (a.0, a.1, meets_here dims (given old) a.0 number n some a.2 is)

    -- what the chain has is what the table has
    has : (t : IdChains) → IdChainsStand dims (pages old) t
        → map.get (objects_of t) id ≡ kept_in id (entries_in (chain_at t (class_of id)))
    has t stands = found_by_class t id stands.whole stands.filled

    pub ends_without : number ≡ 0 → IsHonest old → (t : IdChains) → t.page ≡ directory
        → IdChainsStand dims (pages old) t → None ≡ map.get (objects_of t) id
    ends_without none h t at stands =
        sym (has t stands
        ∙ nothing_left dims (pages old) id (chain_at t (class_of id)) walked number
        (so_far.left h t at stands) none)

    pub here_is : ¬ (number ≡ 0) → IsHonest old → (t : IdChains) → t.page ≡ directory
        → IdChainsStand dims (pages old) t → Here dims (pages old) id (chain_at t (class_of id)) walked number
    here_is some h t at stands =
        is_here dims (pages old) id (chain_at t (class_of id)) walked number (so_far.left h t at stands) some

    pub there_now : (some : ¬ (number ≡ 0)) → (h : IsHonest old) → (t : IdChains) → (at : t.page ≡ directory)
        → (stands : IdChainsStand dims (pages old) t)
        → bucket_in dims (pages now number) ≡ Some ((here_is some h t at stands).content)
    there_now some h t at stands = ap (bucket_in dims) (so_far.asks.map.pages_stay h number)
        ∙ (here_is some h t at stands).there

    pub ends_with : (b : Option Object) → ¬ (number ≡ 0) → is_some b ≡ true
        → (IsHonest now → (c : BucketContent) → bucket_in dims (pages now number) ≡ Some c
        → b ≡ kept_in id c.entries)
        → IsHonest old → (t : IdChains) → t.page ≡ directory → IdChainsStand dims (pages old) t
        → b ≡ map.get (objects_of t) id
    ends_with None some there reads h t at stands = absurd (cc)
    ends_with (Some b) some there reads h t at stands =
        let here = here_is some h t at stands in
        let read = reads (so_far.asks.gate.honest.0 h) here.content (there_now some h t at stands) in
        sym (has t stands
        ∙ found_here dims (pages old) id (chain_at t (class_of id)) walked number b here (sym read))

    pub goes_on : (b : Option Object) (next_number : ℕ) (next : PageCache B A m) → ¬ (number ≡ 0)
        → is_some b ≡ false → AsksUntil now next None
        → (IsHonest now → (c : BucketContent) → bucket_in dims (pages now number) ≡ Some c
        → (b ≡ kept_in id c.entries) × (next_number ≡ c.next))
        → (IsHonest now → NamesNext dims (given now number) next_number)
        → Walking dims id directory old next (walked + 1) number next_number
    goes_on b next_number next some none asks reads names = record {
      asks = asks_in_turn old now next None so_far.asks asks;
      met = λ h. meets some h number refl;
      along = λ h.
          let a = so_far.along h in
          let named =
          same_names dims (given old) (given now) (λ k. so_far.asks.map.given_stay h k) number next_number
          (names (so_far.asks.gate.honest.0 h)) in
          (a.0, a.1, along_on dims (given old) a.0 number next_number a.2 named);
      left = λ h t at stands.
          let here = here_is some h t at stands in
          let read = reads (so_far.asks.gate.honest.0 h) here.content (there_now some h t at stands) in
          walk_on dims (pages old) id (chain_at t (class_of id)) walked number next_number here
          (sym read.0 ∙ is_none b none) read.1;
    }
      where
        is_none : (b : Option Object) → is_some b ≡ false → b ≡ None
        is_none None e = refl
        is_none (Some x) e = absurd (cc)

    -- so the walk ends before it has made as many steps as there are pages
    pub never_as_long : next_of old ≤ walked → IsHonest old → (t : IdChains) → t.page ≡ directory
        → IdChainsStand dims (pages old) t → ⊥
    never_as_long many h t at stands =
        let small : class_of id < 1000 = omega arith in
        omega (
          arith,
          chain_is_short dims old t (class_of id) small stands,
          many,
          (so_far.left h t at stands).long,
        )
