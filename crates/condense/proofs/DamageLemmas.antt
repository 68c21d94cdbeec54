-- The page that is damaged is one that a walk comes to, also where nodes went meanwhile.
use Rattle.std.proofs.Common.{true, false, Result, Ok, Err, IfErr, OnOk, Some, None, List, []}
use Rattle.std.proofs.Common.{◌∷◌, length, get_or, ◌≡◌, ◌∙◌, ◌⊎◌, ⊎_elim, inl, inr, ℕ, ◌+◌, ◌<◌, ◌≤◌, refl}
use Rattle.std.proofs.Common.{sym, ap, subst, arith, rules}
use Rattle.std.proofs.lemmas.Bool.{cases_eq, cases_lt}
use Rattle.page_file.specs.Fault.{IsOfDevice}
use Rattle.page_file.specs.Pages.{SameBut}
use Rattle.page_file.specs.declared.fault.Fault.{Fault}
use Rattle.page_file.specs.declared.fault.Fault.TheVariants as fault
use Rattle.page_cache.specs.Cache.{IsHonest, IsPageMap, KeepsMap, given, pages, touched_of}
use Rattle.page_cache.specs.declared.cache.PageCache.{PageCache}
use Rattle.tree_node.specs.Boxes.{no_item}
use Rattle.tree_node.specs.Nodes.{NodeContent}
use Rattle.node_page.specs.Checked.{ComesTo, Leads, Names}
use Rattle.node_page.specs.Standing.{PageMap, node_in}
use Rattle.node_page.proofs.DamageLemmas.{comes_on, entry_names}
use Rattle.node_page.proofs.GivenLemmas.{given_node_is_live, live_node_is_given}
use Rattle.node_page.proofs.NodeLemmas.{if_error}
use Rattle.node_page.proofs.StandingLemmas.{same_content}
use Rattle.reinsert.proofs.FaultLemmas.{none_before}
use Rattle.tree_node.specs.declared.node.Root.{Root}
use Rattle.condense.specs.Becoming.{IsNext, LeadsDown}
use Rattle.condense.specs.Spelled.{AddsNoNode, KeepsNodes}
use Rattle.condense.specs.declared.hand.Next.{Next}

-- ---- walks

-- a node names the page of the child in a place
pub child_named : (c : NodeContent) (at page : ℕ) → 0 < c.level → at < length c.entries
    → page ≡ (get_or c.entries at no_item).reference → Names c page
child_named c at page above within is =
    subst (Names c) (sym is)
    (entry_names c c.entries at (get_or c.entries at no_item) refl above within (search rules))

module _ (dims : ℕ) where
  -- a walk in pages of which some spell a node no more is one in the pages before
  leads_before : (old new : PageMap) (page : ℕ) (walk : List ℕ) (n : ℕ) → AddsNoNode dims old new
      → Leads dims new page walk n → Leads dims old page walk n
  leads_before old new page [] n fewer leads = leads
  leads_before old new page (next ∷ walk) n fewer leads = (
    (leads.0.0, fewer page leads.0.0 leads.0.1, leads.0.2),
    leads_before old new next walk n fewer leads.1,
  )

  -- and one from a child is one from the node
  pub comes_before : (old new : PageMap) (page : ℕ) (c : NodeContent) (next n : ℕ)
      → node_in dims (old page) ≡ Some c → Names c next → AddsNoNode dims old new → ComesTo dims new next n
      → ComesTo dims old page n
  comes_before old new page c next n there named fewer walk =
      comes_on dims old page c n there
      (next, named, (walk.0, leads_before old new next walk.0 n fewer walk.1))

  -- ---- pages that stay, and one that goes

  pub same_adds_none : (m m' : PageMap) → ((n : ℕ) → m' n ≡ m n) → AddsNoNode dims m m'
  same_adds_none m m' same n c there = ap (node_in dims) (sym (same n)) ∙ there

  pub same_keeps : (level : ℕ) (m m' : PageMap) → ((n : ℕ) → m' n ≡ m n) → KeepsNodes dims level m m'
  same_keeps level m m' same n c there high = ap (node_in dims) (same n) ∙ there

  module _ (m m' : PageMap) (page : ℕ) (others : SameBut page m m') where
    -- where a page of a lower level changed, nodes stay
    pub others_keep : (level : ℕ) (own : NodeContent) → node_in dims (m page) ≡ Some own → own.level < level
        → KeepsNodes dims level m m'
    others_keep level own there lower n c is high = ⊎_elim
        (λ (same : page ≡ n).
        let one = same_content dims m page own c there
        (subst (λ (k : ℕ). node_in dims (m k) ≡ Some c) (sym same) is) in
        absurd (omega (arith, high, lower, ap (λ (x : NodeContent). x.level) one)))
        (λ (other : page ≡ n → ⊥). ap (node_in dims) (others n (λ is. other (sym is))) ∙ is)
        (cases_eq page n)

    pub gone_adds_none : m' page ≡ None → AddsNoNode dims m m'
    gone_adds_none gone n c is = ⊎_elim
        (λ (same : page ≡ n). let none = subst (λ (k : ℕ). m' k ≡ None) same gone in
        let no = sym (ap (node_in dims) none) ∙ is in absurd (cc))
        (λ (other : page ≡ n → ⊥). ap (node_in dims) (sym (others n (λ is. other (sym is)))) ∙ is)
        (cases_eq page n)

-- ---- a child's page that goes or changes, and then the page of the node above it

module _ (dims : ℕ) (m mid : PageMap) (at : Root) (next : Next) (is_next : IsNext at next)
    (above : LeadsDown dims m at next) (own : NodeContent)
    (there : node_in dims (m next.below.page) ≡ Some own) (low : own.level ≡ next.below.level)
    (apart : SameBut next.below.page m mid) where
  pub parent_stays : node_in dims (mid at.page) ≡ Some above.node
  parent_stays =
      others_keep dims m mid next.below.page apart at.level own there
      (omega (arith, low, is_next.level, is_next.above)) at.page above.node above.there
      (omega (arith, above.level_is))

  pub above_stay : (m' : PageMap) → SameBut at.page mid m' → KeepsNodes dims (at.level + 1) m m'
  above_stay m' others n c is high =
      others_keep dims mid m' at.page others (at.level + 1) above.node parent_stays
      (omega (arith, above.level_is)) n c
      (others_keep dims m mid next.below.page apart (at.level + 1) own there
      (omega (arith, low, is_next.level)) n c is high) high

-- a node leads to its child in pages that stayed
abbrev pub leads_same : (dims : ℕ) (m m' : PageMap) (at : Root) (next : Next) → ((n : ℕ) → m' n ≡ m n)
    → LeadsDown dims m at next → LeadsDown dims m' at next
leads_same dims m m' at next same above = record {
  node = above.node;
  there = ap (node_in dims) (same at.page) ∙ above.there;
  level_is = above.level_is;
  within = above.within;
  names = above.names;
}

-- in those of a sound map
abbrev pub leads_live : {D A : Type 0} {m : _} (dims : ℕ) (cache : PageCache D A m) (at : Root) (next : Next)
    → IsPageMap cache → LeadsDown dims (given cache) at next → LeadsDown dims (pages cache) at next
leads_live dims cache at next map above = record {
  node = above.node;
  there = given_node_is_live dims cache at.page above.node map above.there;
  level_is = above.level_is;
  within = above.within;
  names = above.names;
}

-- and where only nodes of lower levels changed
abbrev pub leads_kept : (dims : ℕ) (m m' : PageMap) (at : Root) (next : Next) → IsNext at next
    → KeepsNodes dims (next.below.level + 1) m m' → LeadsDown dims m at next → LeadsDown dims m' at next
leads_kept dims m m' at next is_next keeps above = record {
  node = above.node;
  there = keeps at.page above.node above.there
      (omega (arith, above.level_is, is_next.level, is_next.above));
  level_is = above.level_is;
  within = above.within;
  names = above.names;
}

-- ---- the pages given out, before a call that is refused

-- where the map is sound, and nodes only went, or no page is touched
pub given_before : {D A : Type 0} {m : _} (dims : ℕ) (old mid new : PageCache D A m) → IsHonest old
    → (touched_of mid ≡ false → KeepsMap old mid) → (touched_of mid ≡ true → touched_of new ≡ true)
    → (IsPageMap old → IsPageMap mid × AddsNoNode dims (pages old) (pages mid))
    → IsPageMap old ⊎ (touched_of new ≡ false) → AddsNoNode dims (given old) (given mid)
given_before dims old mid new honest keeps stays sound either = ⊎_elim
    (λ (map : IsPageMap old). let now = sound map in
    λ n c there. live_node_is_given dims old n c (now.1 n c (given_node_is_live dims mid n c now.0 there)))
    (λ (none : touched_of new ≡ false).
    let same = (keeps (none_before (touched_of mid) (touched_of new) stays none)).given_stay honest in
    same_adds_none dims (given old) (given mid) same)
    either

-- ---- answers

-- what is so anyway
pub with_ok : {T E : Type 0} (r : Result T E) (X : Type 0) → X → OnOk r X
with_ok (Ok x) X so = so
with_ok (Err e) X so = tt

-- ---- faults

pub device_names_none : (f : Fault) (n : ℕ) → IsOfDevice f → f ≡ fault.Damaged n → ⊥
device_names_none f n device damaged =
    ⊎_elim (λ (is : f ≡ fault.Memory). absurd (cc)) (λ (is : f ≡ fault.Device). absurd (cc)) device

module _ {T : Type 0} where
  -- a refusal names that page or none, where none inside is damaged
  pub free_refused : (r : Result T Fault) (page next : ℕ)
      → ((page < 3) ⊎ (next ≤ page) → r ≡ Err (fault.Damaged page))
      → (3 ≤ page → page < next → IfErr r IsOfDevice)
      → IfErr r (λ f. IsOfDevice f ⊎ (f ≡ fault.Damaged page))
  free_refused r page next outside inside =
      let named : r ≡ Err (fault.Damaged page) → IfErr r (λ f. IsOfDevice f ⊎ (f ≡ fault.Damaged page)) =
      λ is. subst (λ (x : Result T Fault). IfErr x (λ f. IsOfDevice f ⊎ (f ≡ fault.Damaged page))) (sym is)
      (inr refl) in
      ⊎_elim
      (λ (low : page < 3). named (outside (inl low)))
      (λ (high : 3 ≤ page). ⊎_elim
      (λ (below : page < next). if_error r IsOfDevice _ (λ f is. inl is) (inside high below))
      (λ (above : next ≤ page). named (outside (inr above)))
      (cases_lt page next))
      (cases_lt page 3)
