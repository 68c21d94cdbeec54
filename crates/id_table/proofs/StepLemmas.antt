-- The kind of a table is looked up, and then the call of that kind is made.
use Rattle.std.proofs.Common.{◌≡◌, ◌∙◌, ◌⊎◌, ◌<◌, ℕ, List, [], None, IsSome, Result, Ok, Err, IfOk, OnOk, sym}
use Rattle.std.proofs.Common.{subst, refl, inl, inr}
use Rattle.box_math.specs.Objects.{Object}
use Rattle.bucket_page.specs.Layout.{Entry}
use Rattle.page_file.specs.Fault.{IsOfDevice}
use Rattle.page_file.specs.declared.fault.Fault.{Fault}
use Rattle.page_file.specs.declared.fault.Fault.TheVariants as fault
use Rattle.page_cache.specs.Cache.{IsHonest, given, pages}
use Rattle.page_cache.specs.Calls.{AsksUntil}
use Rattle.page_cache.specs.declared.cache.PageCache.{PageCache}
use Rattle.node_page.specs.Parts.{Moves, Part}
use Rattle.node_page.specs.Standing.{PageMap}
use Rattle.id_words.proofs.BreakLemmas.{no_damage}
use Rattle.id_words.specs.Damage.{MayBreakAt}
use Rattle.id_chains.specs.Changes as chains
use Rattle.id_chains.specs.Checked as checked_chains
use Rattle.id_chains.specs.Table.{IdChains, IdChainsStand}
use Rattle.id_chains.specs.Walks as walks
use Rattle.id_tree.specs.Changes as trees
use Rattle.id_tree.specs.Checked as checked_trees
use Rattle.id_tree.specs.Rows.{IsLeafPlace}
use Rattle.id_tree.specs.Tree.{IdTree, TreeStands}
use Rattle.id_tree.specs.declared.search.LeafPlace.{LeafPlace}
use Rattle.id_table.specs.Changes.{Fills, KeepsTidy, Makes, Removes, Sets}
use Rattle.id_table.specs.Checked.{ComesInTable, IsCheckedTable, MeetsInTable}
use Rattle.id_table.specs.Table.{IdTable, IdsStand, IsSpot, kind_of, page_of}
use Rattle.id_table.specs.Table.IdTable.{chained, treed}
use Rattle.id_table.specs.declared.asking.Spot.{Spot}
use Rattle.id_table.specs.declared.asking.Spot.TheVariants.{InChain, InLeaf}
use Rattle.id_table.specs.declared.kind.TableKind.{TableKind}
use Rattle.id_table.specs.declared.kind.TableKind.TheVariants.{Chains, Tree}

apart : Chains ≡ Tree → ⊥
apart same = absurd (cc)

module _ {D A : Type 0} {m : _} (dims page : ℕ) (old mid : PageCache D A m) (asks : AsksUntil old mid None)
  where
    -- the look left the pages as they were
    pub same_pages : IsHonest old → pages mid ≡ pages old
    same_pages honest = λ i n. asks.map.pages_stay honest n i

    pub same_given : IsHonest old → given mid ≡ given old
    same_given honest = λ i n. asks.map.given_stay honest n i

    -- so what a call promises of a table of its kind is promised of the table that stands
    module _ (P : IdTable → Type 0) (honest : IsHonest old) (t : IdTable) (at : page_of t ≡ page)
        (stands : IdsStand dims (pages old) t) (kind : TableKind) (told : kind ≡ kind_of t) where
      pub of_chains : kind ≡ Chains
          → ((c : IdChains) → c.page ≡ page → IdChainsStand dims (pages mid) c → P (chained c)) → P t
      of_chains is call = case t told at stands
        where
          case : (s : IdTable) → kind ≡ kind_of s → page_of s ≡ page → IdsStand dims (pages old) s → P s
          case (chained c) told at s =
              call c at (subst (λ (p : PageMap). IdChainsStand dims p c) (sym (same_pages honest)) s)
          case (treed c) told at s = absurd (apart (sym is ∙ told))

      pub of_tree : kind ≡ Tree
          → ((c : IdTree) → c.page ≡ page → TreeStands dims (pages mid) c → P (treed c)) → P t
      of_tree is call = case t told at stands
        where
          case : (s : IdTable) → kind ≡ kind_of s → page_of s ≡ page → IdsStand dims (pages old) s → P s
          case (chained c) told at s = absurd (apart (sym told ∙ is))
          case (treed c) told at s =
              call c at (subst (λ (p : PageMap). TreeStands dims p c) (sym (same_pages honest)) s)

-- what a call promises at a spot is promised of the table that stands: a spot tells the kind
module _ (dims page : ℕ) (m : PageMap) (P : IdTable → Type 0) (id : ℕ) (spot : Spot) (t : IdTable)
    (at : page_of t ≡ page) (stands : IdsStand dims m t) (is : IsSpot t id spot) where
  pub at_chain : spot ≡ InChain → ((c : IdChains) → c.page ≡ page → IdChainsStand dims m c → P (chained c))
      → P t
  at_chain same call = case t at stands (subst (IsSpot t id) same is)
    where
      case : (s : IdTable) → page_of s ≡ page → IdsStand dims m s → IsSpot s id InChain → P s
      case (chained c) at s is = call c at s
      case (treed c) at s is = absurd is

  pub at_leaf : (place : LeafPlace) → spot ≡ InLeaf place
      → ((c : IdTree) → c.page ≡ page → TreeStands dims m c → IsLeafPlace c id place.leaf place.place
      → P (treed c)) → P t
  at_leaf place same call = case t at stands (subst (IsSpot t id) same is)
    where
      case : (s : IdTable) → page_of s ≡ page → IdsStand dims m s → IsSpot s id (InLeaf place) → P s
      case (chained c) at s is = absurd is
      case (treed c) at s is = call c at s is

-- ---- what the calls of each kind make of a table

pub on_ok : {T E X Y : Type 0} (r : Result T E) → (X → Y) → OnOk r X → OnOk r Y
on_ok (Ok x) f p = f p
on_ok (Err e) f p = tt

-- what holds however a call ended
pub so_on_ok : {T E : Type 0} (r : Result T E) (X : Type 0) → X → OnOk r X
so_on_ok (Ok x) X h = h
so_on_ok (Err e) X h = tt

-- pages that a look left as they were change as they did
pub moves_on : {old mid new : PageMap} {was now : Part} → mid ≡ old → Moves mid new was now
    → Moves old new was now
moves_on {old} {mid} {new} {was} {now} same s = subst (λ (p : PageMap). Moves p new was now) same s

module _ (dims : ℕ) (old mid new : PageMap) (same : mid ≡ old) where
  pub chains_set : (c : IdChains) (id : ℕ) (kept : Object) → chains.Sets dims mid new c id kept
      → Sets dims old new (chained c) id kept
  chains_set c id kept s = record {
    table = chained s.table;
    kind_is = refl;
    page_is = s.page;
    stands = s.stands;
    objects = s.objects;
    moves = moves_on same s.moves;
  }

  pub tree_set : (c : IdTree) (id : ℕ) (kept : Object) → trees.Sets dims mid new c id kept
      → Sets dims old new (treed c) id kept
  tree_set c id kept s = record {
    table = treed s.table;
    kind_is = refl;
    page_is = s.page;
    stands = s.stands;
    objects = s.objects;
    moves = moves_on same s.moves;
  }

  pub chains_less : (c : IdChains) (id : ℕ) → chains.Removes dims mid new c id
      → Removes dims old new (chained c) id
  chains_less c id s = record {
    table = chained s.table;
    kind_is = refl;
    page_is = s.page;
    stands = s.stands;
    objects = s.objects;
    moves = moves_on same s.moves;
  }

  pub tree_less : (c : IdTree) (id : ℕ) → trees.Removes dims mid new c id → Removes dims old new (treed c) id
  tree_less c id s = record {
    table = treed s.table;
    kind_is = refl;
    page_is = s.page;
    stands = s.stands;
    objects = s.objects;
    moves = moves_on same s.moves;
  }

  pub chains_filled : (c : IdChains) (added : List Entry) → chains.Fills dims mid new c added
      → Fills dims old new (chained c) added
  chains_filled c added s = record {
    table = chained s.table;
    kind_is = refl;
    page_is = s.page;
    stands = s.stands;
    objects = s.objects;
    moves = moves_on same s.moves;
  }

  pub tree_filled : (c : IdTree) (added : List Entry) → trees.Fills dims mid new c added
      → Fills dims old new (treed c) added
  tree_filled c added s = record {
    table = treed s.table;
    kind_is = refl;
    page_is = s.page;
    stands = s.stands;
    objects = s.objects;
    moves = moves_on same s.moves;
  }

module _ (dims : ℕ) (old new : PageMap) (kind : TableKind) (page : ℕ) where
  pub chains_made : kind ≡ Chains → chains.Makes dims old new page → Makes dims old new kind page
  chains_made is s = record {
    table = chained s.table;
    kind_is = sym is;
    page_is = s.page;
    stands = s.stands;
    objects = s.objects;
    moves = s.moves;
  }

  pub tree_made : kind ≡ Tree → trees.Makes dims old new page → Makes dims old new kind page
  tree_made is s = record {
    table = treed s.table;
    kind_is = sym is;
    page_is = s.page;
    stands = s.stands;
    objects = s.objects;
    moves = s.moves;
  }

-- pages keep zeros where they name no bytes
pub tidy_on : {T E : Type 0} (dims : ℕ) (kind : TableKind) (old mid new : PageMap) (r : Result T E) → mid ≡ old
    → OnOk r (KeepsTidy dims kind mid new) → OnOk r (KeepsTidy dims kind old new)
tidy_on dims kind old mid new r same = on_ok r (subst (λ (p : PageMap). KeepsTidy dims kind p new) same)

pub tidy_of : {T E : Type 0} (dims : ℕ) (kind is : TableKind) (old new : PageMap) (r : Result T E) → kind ≡ is
    → OnOk r (KeepsTidy dims is old new) → OnOk r (KeepsTidy dims kind old new)
tidy_of dims kind is old new r same = on_ok r (subst (λ (k : TableKind). KeepsTidy dims k old new) (sym same))

-- ---- what a check of each kind finds

pub chains_checked : (dims page : ℕ) (mid old : PageMap) (pairs : List Entry) (list : List ℕ) → mid ≡ old
    → checked_chains.IsCheckedTable dims mid page pairs list → IsCheckedTable dims old page pairs list
chains_checked dims page mid old pairs list same s = record {
  table = chained s.table;
  page_is = s.page_is;
  stands = subst (λ (p : PageMap). IdChainsStand dims p s.table) same s.stands;
  pairs_are = s.pairs_are;
  pages_are = s.pages_are;
}

pub tree_checked : (dims page : ℕ) (mid old : PageMap) (pairs : List Entry) (list : List ℕ) → mid ≡ old
    → checked_trees.IsCheckedTable dims mid page pairs list → IsCheckedTable dims old page pairs list
tree_checked dims page mid old pairs list same s = record {
  table = treed s.table;
  page_is = s.page_is;
  stands = subst (λ (p : PageMap). TreeStands dims p s.table) same s.stands;
  pairs_are = s.pairs_are;
  pages_are = s.pages_are;
}

pub comes_along_chains : (dims page : ℕ) (mid old : PageMap) (n : ℕ) → mid ≡ old
    → checked_chains.ComesInTable dims mid page n → ComesInTable dims old page n
comes_along_chains dims page mid old n same comes =
    inr (inl (subst (λ (p : PageMap). checked_chains.ComesInTable dims p page n) same comes))

pub comes_down_tree : (dims page : ℕ) (mid old : PageMap) (n : ℕ) → mid ≡ old
    → checked_trees.ComesInTree dims mid page n → ComesInTable dims old page n
comes_down_tree dims page mid old n same comes =
    inr (inr (subst (λ (p : PageMap). checked_trees.ComesInTree dims p page n) same comes))

-- ---- the page that is damaged

-- where the first page could not be looked at
pub comes_at_once : (dims page : ℕ) (m : PageMap) (f : Fault) → IsOfDevice f ⊎ (f ≡ fault.Damaged page)
    → (n : ℕ) → f ≡ fault.Damaged n → ComesInTable dims m page n
comes_at_once dims page m f (inl device) n is = absurd (no_damage f n device is)
comes_at_once dims page m f (inr damaged) n is =
    let both : fault.Damaged n ≡ fault.Damaged page = sym is ∙ damaged in
    let same : n ≡ page = cc in inl same

pub if_made : {T E : Type 0} {P Q : T → Type 0} (r : Result T E) → ((x : T) → P x → Q x) → IfOk r P → IfOk r Q
if_made (Ok x) f p = f x p
if_made (Err e) f p = tt

-- where a call of a kind names a page that its walk meets
pub met_in_chain : (dims page class : ℕ) (mid old : PageMap) (n : ℕ) → mid ≡ old → class < 1000
    → walks.MeetsInChain dims mid page class n → MeetsInTable dims old page n
met_in_chain dims page class mid old n same small meets =
    inr (inl (subst (λ (p : PageMap). walks.MeetsInTable dims p page n) same (class, small, meets)))

pub met_in_chains : (dims page : ℕ) (mid old : PageMap) (n : ℕ) → mid ≡ old
    → walks.MeetsInTable dims mid page n → MeetsInTable dims old page n
met_in_chains dims page mid old n same meets =
    inr (inl (subst (λ (p : PageMap). walks.MeetsInTable dims p page n) same meets))

pub met_in_tree : (dims page : ℕ) (mid old : PageMap) (n : ℕ) → mid ≡ old
    → checked_trees.ComesInTree dims mid page n → MeetsInTable dims old page n
met_in_tree dims page mid old n same comes =
    inr (inr (subst (λ (p : PageMap). checked_trees.ComesInTree dims p page n) same comes))

-- the first page of a chain is met at once
begun_is_met : (dims page class : ℕ) (m : PageMap) (n : ℕ) → walks.BeginsChain dims m page class n
    → walks.MeetsInChain dims m page class n
begun_is_met dims page class m n (inl same) = inl same
begun_is_met dims page class m n (inr begun) = inr (n, begun.1, (begun.0, ([], refl)))

pub in_some_chain : {Q : Type 0} (dims page class : ℕ) (m : PageMap) (n : ℕ) → class < 1000
    → walks.BeginsChain dims m page class n ⊎ Q → walks.BeginsInTable dims m page n ⊎ Q
in_some_chain dims page class m n small (inl begun) = inl (class, small, begun)
in_some_chain dims page class m n small (inr other) = inr other

pub met_at_once : (dims page : ℕ) (m : PageMap) (f : Fault) → IsOfDevice f ⊎ (f ≡ fault.Damaged page)
    → (n : ℕ) → f ≡ fault.Damaged n → MeetsInTable dims m page n
met_at_once dims page m f (inl device) n is = absurd (no_damage f n device is)
met_at_once dims page m f (inr damaged) n is =
    let both : fault.Damaged n ≡ fault.Damaged page = sym is ∙ damaged in
    let same : n ≡ page = cc in inl same

-- where a page was to be given out, too
module _ {D A : Type 0} {m : _} (dims page : ℕ) (old mid : PageCache D A m) (asks : AsksUntil old mid None)
    (honest : IsHonest old) (n : ℕ) where
  breaks_before : MayBreakAt mid n → MayBreakAt old n
  breaks_before b = (
    (λ sound. b.0 (asks.map.sound.0 sound)),
    subst IsSome (asks.map.given_stay honest n) b.1,
    (λ live. b.2 (subst IsSome (sym (asks.map.pages_stay honest n)) live)),
  )

  pub met_or_broken : {P : Type 0} → (P → MeetsInTable dims (given old) page n) → P ⊎ MayBreakAt mid n
      → MeetsInTable dims (given old) page n ⊎ MayBreakAt old n
  met_or_broken f (inl p) = inl (f p)
  met_or_broken f (inr b) = inr (breaks_before b)

  pub begun_or_broken : walks.BeginsInTable dims (given mid) page n ⊎ MayBreakAt mid n
      → MeetsInTable dims (given old) page n ⊎ MayBreakAt old n
  begun_or_broken = met_or_broken
      (λ begun. met_in_chain dims page begun.0 (given mid) (given old) n
      (same_given dims page old mid asks honest) begun.1
      (begun_is_met dims page begun.0 (given mid) n begun.2))
