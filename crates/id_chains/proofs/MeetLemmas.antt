-- The page that a search or a change names as damaged is one that a walk along a chain meets.
use Rattle.std.proofs.Common.{◌≡◌, ◌⊎◌, ℕ, ◌≤◌, List, []}
use Rattle.std.proofs.Common.{◌∷◌, ◌++◌, Option, None, sym, subst, refl}
use Rattle.std.proofs.Common.{⊎_elim, inl, inr, arith}
use Rattle.std.proofs.lemmas.Bool.{cases_eq}
use Rattle.page_file.specs.Fault.{IsOfDevice}
use Rattle.page_file.specs.Given.{given_is}
use Rattle.page_file.specs.Layout.{kind_of}
use Rattle.page_file.specs.Pages.{SameBut}
use Rattle.page_file.specs.declared.fault.Fault.{Fault}
use Rattle.page_file.specs.declared.fault.Fault.TheVariants as fault
use Rattle.page_cache.specs.Cache.{IsHonest, IsLive, IsPageMap, blocks_behind, given}
use Rattle.page_cache.specs.Cache.{next_of, pages}
use Rattle.page_cache.specs.Calls.{AsksUntil}
use Rattle.page_cache.specs.Laws.{a_page_in_use_is_live}
use Rattle.page_cache.specs.declared.cache.PageCache.{PageCache}
use Rattle.node_page.specs.Standing.{PageMap}
use Rattle.id_words.proofs.BreakLemmas.{no_damage}
use Rattle.id_chains.specs.Walks.{BeginsChain, IsAlong, MeetsAlong, MeetsBucket, MeetsInChain}
use Rattle.id_chains.specs.Walks.{NamesFirst, NamesNext, NamesNoMore, PassesAlong}
use Rattle.id_chains.proofs.BucketLemmas.{apart_pages, is_there}

-- ---- walks

passes_on : (dims : ℕ) (m : PageMap) (first : ℕ) (walk : List ℕ) (page next : ℕ)
    → PassesAlong dims m first walk page → NamesNext dims (m page) next
    → PassesAlong dims m first (walk ++ next ∷ []) next
passes_on dims m first [] page next passes names =
    (subst (λ (k : ℕ). NamesNext dims (m k) next) passes names, refl)
passes_on dims m first (k ∷ walk) page next passes names =
    (passes.0, passes_on dims m k walk page next passes.1 names)

-- a walk goes on to the page that the one at its end names
pub along_on : (dims : ℕ) (m : PageMap) (first page next : ℕ) → IsAlong dims m first page
    → NamesNext dims (m page) next → IsAlong dims m first next
along_on dims m first page next along names =
    (along.0 ++ next ∷ [], passes_on dims m first along.0 page next along.1 names)

passes_so : (dims : ℕ) (old new : PageMap) (page : ℕ) (walk : List ℕ) (n : ℕ) → NamesNoMore dims old new
    → PassesAlong dims new page walk n → PassesAlong dims old page walk n
passes_so dims old new page [] n no_more passes = passes
passes_so dims old new page (next ∷ walk) n no_more passes =
    (no_more page next passes.0, passes_so dims old new next walk n no_more passes.1)

-- a walk now is one that there was before, where no page names one that it did not name
pub along_so : (dims : ℕ) (old new : PageMap) (first n : ℕ) → NamesNoMore dims old new
    → IsAlong dims new first n → IsAlong dims old first n
along_so dims old new first n no_more along =
    (along.0, passes_so dims old new first along.0 n no_more along.1)

pub meets_so : (dims : ℕ) (old new : PageMap) (first n : ℕ) → NamesNoMore dims old new
    → MeetsAlong dims new first n → MeetsAlong dims old first n
meets_so dims old new first n no_more meets = (meets.0, along_so dims old new first n no_more meets.1)

-- so it is where the pages are the same
pub same_names : (dims : ℕ) (old new : PageMap) → ((k : ℕ) → new k ≡ old k) → NamesNoMore dims old new
same_names dims old new same =
    λ k next names. subst (λ (page : Option (List ℕ)). NamesNext dims page next) (same k) names

pub no_more_in_turn : (dims : ℕ) (old mid new : PageMap) → NamesNoMore dims old mid
    → NamesNoMore dims mid new → NamesNoMore dims old new
no_more_in_turn dims old mid new a b = λ page next names. a page next (b page next names)

-- ---- free pages

-- the first page of a chain, as a change reads it
pub begins_chain : (dims : ℕ) (m : PageMap) (directory named class first n : ℕ) → named ≡ class
    → NamesFirst dims (m directory) named first → ¬ (first ≡ 0) → n ≡ first
    → BeginsChain dims m directory class n
begins_chain dims m directory named class first n same names some is =
    subst (BeginsChain dims m directory class) (sym is)
    (inr (some, subst (λ (k : ℕ). NamesFirst dims (m directory) k first) same names))

-- the one that a fault names is the one that the walk is at
pub meets_here : (dims : ℕ) (m : PageMap) (first page n : ℕ) → ¬ (page ≡ 0) → IsAlong dims m first page
    → n ≡ page → MeetsAlong dims m first n
meets_here dims m first page n some along is = subst (MeetsAlong dims m first) (sym is) (some, along)

-- a chain of which a walk meets a bucket begins with one
pub first_names : (dims : ℕ) (m : PageMap) (first n : ℕ) → MeetsBucket dims m first n
    → (next : ℕ) × NamesNext dims (m first) next
first_names dims m first n meets = at meets.1.0 meets.1.1
  where
    at : (walk : List ℕ) → PassesAlong dims m first walk n → (next : ℕ) × NamesNext dims (m first) next
    at [] passes =
        (meets.0.0, subst (λ (k : ℕ). NamesNext dims (m k) meets.0.0) passes meets.0.1)
    at (next ∷ walk) passes = (next, passes.0)

module _ {B A : Type 0} {m : _} where
  -- a page that begins as a bucket was given out, and with a sound map it is live
  pub named_given : (dims : ℕ) (cache : PageCache B A m) (page next : ℕ)
      → NamesNext dims (given cache page) next → 2 ≤ page
  named_given dims cache page next names =
      (given_is (blocks_behind cache) (next_of cache) page names.0 names.1).low

  pub named_live : (dims : ℕ) (cache : PageCache B A m) (page next : ℕ) → IsPageMap cache
      → NamesNext dims (given cache page) next → IsLive cache page
  named_live dims cache page next map names =
      is_there (pages cache page) names.0
      (a_page_in_use_is_live cache page names.0 map names.1
      (λ (free : kind_of names.0 ≡ 5). let kind = names.2.kind in omega (arith, kind, free)))

  -- a page that is freed names no next one
  pub freed_names_no_more : (dims : ℕ) (old new : PageCache B A m) (n : ℕ) → IsPageMap new
      → pages new n ≡ None → SameBut n (given old) (given new) → NamesNoMore dims (given old) (given new)
  freed_names_no_more dims old new n map gone others page next names = ⊎_elim
      (λ (is : page ≡ n).
      absurd (apart_pages (pages new) page n (named_live dims new page next map names) gone is))
      (λ (other : ¬ (page ≡ n)).
      subst (λ (bytes : Option (List ℕ)). NamesNext dims bytes next) (others page other) names)
      (cases_eq page n)

  -- one that begins as a directory is live too
  pub directory_live : (dims : ℕ) (cache : PageCache B A m) (page class first : ℕ) → IsPageMap cache
      → NamesFirst dims (given cache page) class first → IsLive cache page
  directory_live dims cache page class first map names =
      is_there (pages cache page) names.0
      (a_page_in_use_is_live cache page names.0 map names.1
      (λ (free : kind_of names.0 ≡ 5). omega (arith, names.2.kind, free)))

  -- a bucket that a walk meets is met
  pub bucket_met : (dims : ℕ) (cache : PageCache B A m) (first n page : ℕ)
      → MeetsBucket dims (given cache) first page → n ≡ page → MeetsAlong dims (given cache) first n
  bucket_met dims cache first n page meets is =
      let low = named_given dims cache page meets.0.0 meets.0.1 in
      meets_here dims (given cache) first page n (λ none. omega (arith, none, low)) meets.1 is

  -- and so is the first page of its chain
  pub first_met : (dims : ℕ) (cache : PageCache B A m) (first n page : ℕ)
      → MeetsBucket dims (given cache) first page → n ≡ first → MeetsAlong dims (given cache) first n
  first_met dims cache first n page meets is =
      let names = first_names dims (given cache) first page meets in
      let low = named_given dims cache first names.0 names.1 in
      meets_here dims (given cache) first first n (λ none. omega (arith, none, low)) ([], refl) is

  -- a fault that names the first page or the directory
  pub one_of_two : (dims : ℕ) (cache : PageCache B A m) (first page directory n : ℕ) (f : Fault)
      → MeetsBucket dims (given cache) first page
      → IsOfDevice f ⊎ ((f ≡ fault.Damaged first) ⊎ (f ≡ fault.Damaged directory)) → f ≡ fault.Damaged n
      → (n ≡ directory) ⊎ MeetsAlong dims (given cache) first n
  one_of_two dims cache first page directory n f meets either damaged = ⊎_elim
      (λ (device : IsOfDevice f). absurd (no_damage f n device damaged))
      (λ (names : (f ≡ fault.Damaged first) ⊎ (f ≡ fault.Damaged directory)). ⊎_elim
      (λ (is : f ≡ fault.Damaged first). let at : n ≡ first = cc in
      inr (first_met dims cache first n page meets at))
      (λ (is : f ≡ fault.Damaged directory). let at : n ≡ directory = cc in inl at)
      names)
      either

  -- what a change has met in its chain, said of the table as it stood before
  pub met_in_chain : (dims directory named class first n : ℕ) (old read : PageCache B A m)
      → AsksUntil old read None → IsHonest old → named ≡ class
      → NamesFirst dims (given old directory) named first
      → (n ≡ directory) ⊎ MeetsAlong dims (given read) first n
      → MeetsInChain dims (given old) directory class n
  met_in_chain dims directory named class first n old read asks honest is names either = ⊎_elim
      (λ (at : n ≡ directory). inl at)
      (λ (meets : MeetsAlong dims (given read) first n).
      let same = same_names dims (given old) (given read) (λ k. asks.map.given_stay honest k) in
      inr (
        first,
        subst (λ (k : ℕ). NamesFirst dims (given old directory) k first) is names,
        meets_so dims (given old) (given read) first n same meets,
      ))
      either
