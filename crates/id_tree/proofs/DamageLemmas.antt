-- The page that a search or a change names as damaged is one that a walk down the forks comes to.
use Rattle.std.proofs.Common.{◌≡◌, ◌∙◌, ◌⊎◌, ℕ, List, ◌∷◌, Option, Some, None, Result, Ok, Err, IfErr, ap}
use Rattle.std.proofs.Common.{refl, sym, subst, ⊎_elim}
use Rattle.std.proofs.Common.{inl, inr, Bool, true, false, IsSome, ◌-◌, ◌<◌, ◌≤◌}
use Rattle.std.specs.Prelude.{IfOk, IfSome, OnOk}
use Rattle.block_bytes.specs.Numbers.{number_at}
use Rattle.block_bytes.specs.Places.{first_places}
use Rattle.page_file.specs.Fault.{IsOfDevice}
use Rattle.page_file.specs.declared.fault.Fault.{Fault}
use Rattle.page_file.specs.declared.fault.Fault.TheVariants as fault
use Rattle.page_cache.specs.Cache.{IsHonest, KeepsMap, given}
use Rattle.page_cache.specs.declared.cache.PageCache.{PageCache}
use Rattle.id_words.proofs.WriteLemmas.{untouched_refused}
use Rattle.id_words.specs.Damage.{MayBreakAt}
use Rattle.node_page.specs.Standing.{PageMap}
use Rattle.node_page.proofs.DamageLemmas.{damaged_read}
use Rattle.id_page.specs.Fork.{ForkContent, HasForkHead, fork_at, link_at}
use Rattle.id_page.proofs.ForkReading.{fork_spelled}
use Rattle.id_tree.specs.Checked.{BeginsAsLeaf, ComesDown, ComesInTree, IsReached, Names, NamesChild, SpellsFork}
use Rattle.id_tree.specs.Tree.{fork_in}
use Rattle.id_tree.specs.declared.search.Sought.{Sought}
use Rattle.id_tree.proofs.GivenLemmas.{comes_here, comes_so}

-- a page that begins as a fork spells one
pub fork_of_head : (dims : ℕ) (page : List ℕ) → HasForkHead dims page
    → (c : ForkContent) × (fork_at dims page ≡ Some c)
fork_of_head dims page head =
    (content, fork_spelled dims page content (record { head = head; level_is = refl; links_are = refl }))
  where
    content : ForkContent
    content = record { level = number_at 1 4 page; links = first_places (link_at page) (number_at 2 2 page) }

-- the child that it names, if it does
pub names_in : (dims : ℕ) (m : PageMap) (page : ℕ) (bytes : List ℕ) (c : ForkContent) → m page ≡ Some bytes
    → fork_at dims bytes ≡ Some c → (child : Option ℕ) → IfSome child (Names c)
    → IfSome child (NamesChild dims m page)
names_in dims m page bytes c there is None names = tt
names_in dims m page bytes c there is (Some p) names = (c, ap (fork_in dims) there ∙ is, names)

pub named_some : (P : ℕ → Type 0) (child : Option ℕ) (p : ℕ) → child ≡ Some p → IfSome child P → P p
named_some P child p is named = subst (λ (o : Option ℕ). IfSome o P) is named

pub comes_down : (dims : ℕ) (m : PageMap) (page child n : ℕ) → NamesChild dims m page child
    → ComesInTree dims m child n
    → ComesInTree dims m page n
comes_down dims m page p n names comes = (p ∷ comes.0, (names, comes.1))

-- a fault that names the page at which a walk is
pub comes_at : (dims : ℕ) (m : PageMap) (page n : ℕ) (f : Fault) → IsOfDevice f ⊎ (f ≡ fault.Damaged page)
    → f ≡ fault.Damaged n → ComesInTree dims m page n
comes_at dims m page n f either damaged = comes_here dims m page n (damaged_read f page n either damaged)

pub damaged_is : (page n : ℕ) → fault.Damaged page ≡ fault.Damaged n → n ≡ page
damaged_is page n is = cc

-- a leaf to which a way leads from a child
pub comes_under : (dims : ℕ) (old mid : PageMap) (page child : ℕ) → ((n : ℕ) → mid n ≡ old n)
    → NamesChild dims old page child → (leaf : Option ℕ) → IfSome leaf (ComesInTree dims mid child)
    → IfSome leaf (ComesInTree dims old page)
comes_under dims old mid page p same names None comes = tt
comes_under dims old mid page p same names (Some leaf) comes =
    comes_down dims old page p leaf names (comes_so dims old mid p leaf same comes)

-- down from a fork by way of a child
pub down_by : (dims : ℕ) (old mid : PageMap) (page child level count : ℕ) → ((n : ℕ) → mid n ≡ old n)
    → 0 < level → SpellsFork dims old page level count → NamesChild dims old page child → (leaf : Option ℕ)
    → ComesDown dims mid child (level - 1) leaf → ComesDown dims old page level leaf
down_by dims old mid page p level count same high fork names leaf comes =
    let now : ComesDown dims old p (level - 1) leaf =
    subst (λ (m : PageMap). ComesDown dims m p (level - 1) leaf) (λ i n. same n i) comes in
    (p ∷ now.0, (high, (count, fork), names, now.1))

-- a search that came down to a leaf and was answered there
pub reached : {D : ℕ} (r : Result (Sought D) Fault) (dims : ℕ) (old mid : PageMap) (root leaf : ℕ)
    → ((n : ℕ) → mid n ≡ old n) → (level : ℕ) × ComesDown dims old root level (Some leaf)
    → IfOk r (λ sought. sought.at.leaf ≡ leaf) → OnOk r (BeginsAsLeaf dims mid leaf)
    → IfOk r (λ sought. IsReached dims old root sought.at.leaf)
reached (Ok sought) dims old mid root leaf same down here begins =
    subst (IsReached dims old root) (sym here)
    (down.0, inr (down.1, (begins.0, sym (same leaf) ∙ begins.1, begins.2)))
reached (Err e) dims old mid root leaf same down here begins = tt

-- ---- what is said where no page is touched

pub not_before : (before now : Bool) → (before ≡ true → now ≡ true) → now ≡ false → before ≡ false
not_before false now stays none = refl
not_before true now stays none = absurd (let both = sym (stays refl) ∙ none in cc)

module _ {B A : Type 0} {m : _} where
  -- a page at which the chain of free pages may break now may do so before, where the map is kept
  pub breaks_kept : (old now : PageCache B A m) (n : ℕ) → KeepsMap old now → IsHonest old → MayBreakAt now n
      → MayBreakAt old n
  breaks_kept old now n keeps honest breaks = (
    λ map. breaks.0 (keeps.sound.0 map),
    subst IsSome (keeps.given_stay honest n) breaks.1,
    λ live. breaks.2 (subst IsSome (sym (keeps.pages_stay honest n)) live),
  )

  -- what a change names, said of the pages as they stood before
  pub said_before : (dims : ℕ) (old now : PageCache B A m) (page n : ℕ) → KeepsMap old now → IsHonest old
      → ComesInTree dims (given now) page n ⊎ MayBreakAt now n
      → ComesInTree dims (given old) page n ⊎ MayBreakAt old n
  said_before dims old now page n keeps honest either = ⊎_elim
      (λ (comes : ComesInTree dims (given now) page n).
      inl (comes_so dims (given old) (given now) page n (keeps.given_stay honest) comes))
      (λ (breaks : MayBreakAt now n). inr (breaks_kept old now n keeps honest breaks))
      either

  -- and of the fork above a child
  pub said_below : (dims : ℕ) (old now : PageCache B A m) (page child n : ℕ) → KeepsMap old now → IsHonest old
      → NamesChild dims (given old) page child → ComesInTree dims (given now) child n ⊎ MayBreakAt now n
      → ComesInTree dims (given old) page n ⊎ MayBreakAt old n
  said_below dims old now page p n keeps honest names either = ⊎_elim
      (λ (comes : ComesInTree dims (given old) p n). inl (comes_down dims (given old) page p n names comes))
      (λ (breaks : MayBreakAt old n). inr breaks)
      (said_before dims old now p n keeps honest either)

-- a page that could not be freed, where none is touched
pub free_untouched : {T : Type 0} (r : Result T Fault) (n next : ℕ)
    → (3 ≤ n → n < next → IfErr r IsOfDevice) → ((n < 3) ⊎ (next ≤ n) → r ≡ Err (fault.Damaged n))
    → IfErr r (λ f. IsOfDevice f ⊎ (f ≡ fault.Damaged n))
free_untouched (Ok x) n next inside outside = tt
free_untouched (Err f) n next inside outside =
    untouched_refused n next f inside (λ out. let is = outside out in cc)

-- a fork that is the same names the same child
pub names_same : (dims : ℕ) (old mid : PageMap) (page child : ℕ) → ((n : ℕ) → mid n ≡ old n)
    → NamesChild dims old page child → NamesChild dims mid page child
names_same dims old mid page p same names = (names.0, ap (fork_in dims) (same page) ∙ names.1, names.2)

-- one page of two
pub comes_to_one : (dims : ℕ) (m : PageMap) (page a b n : ℕ) → ComesInTree dims m page a
    → ComesInTree dims m page b
    → (n ≡ a) ⊎ (n ≡ b) → ComesInTree dims m page n
comes_to_one dims m page a b n to_a to_b either = ⊎_elim
    (λ (is : n ≡ a). subst (ComesInTree dims m page) (sym is) to_a)
    (λ (is : n ≡ b). subst (ComesInTree dims m page) (sym is) to_b)
    either
