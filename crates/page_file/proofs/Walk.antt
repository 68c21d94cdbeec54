-- A walk along the free pages: what is known after some of them.
use Rattle.std.proofs.Common.{◌≡◌, ◌∙◌, ℕ, suc, ◌<◌, ◌≤◌, ◌-◌, true, List, [], ◌∷◌, ◌++◌, None, Some, refl}
use Rattle.std.proofs.Common.{sym, ap, arith, length, subst, ◌+◌, ⊎_elim}
use Rattle.std.specs.Prelude.{IsSome, slice_get}
use Rattle.block_bytes.specs.Kinds.{free_kind}
use Rattle.std.proofs.lemmas.Bool.Decides.{nat_tests}
use Rattle.std.proofs.lemmas.Bool.{cases_eq}
use Rattle.std.proofs.lemmas.List.{append_assoc, append-nil, length-append}
use Rattle.block_device.specs.Device.{Blocks, block_at}
use Rattle.page_file.specs.Breaks.{some_free}
use Rattle.page_file.specs.Chains.{chain_opened}
use Rattle.page_file.specs.Laws.{no_call_keeps_the_gate, no_call_keeps_the_map, the_gate_is_kept_in_turn}
use Rattle.page_file.specs.Laws.{the_map_is_kept_in_turn}
use Rattle.page_file.specs.File.{IsHonest, KeepsGate, KeepsMap, blocks_of, device_of, free_of, header_of}
use Rattle.page_file.specs.File.{next_of}
use Rattle.page_file.specs.Layout.{kind_of, link_of}
use Rattle.page_file.specs.Opening.{is_sound}
use Rattle.page_file.specs.Pages.{BreaksAt, HasFreeChain, IsChain, LinkOn, chain, free_page_link}
use Rattle.page_file.specs.Pages.{free_pages_of, may_link}
use Rattle.page_file.specs.Reused.{link_is}
use Rattle.page_file.specs.declared.file.PageFile.{PageFile}
use Rattle.page_file.specs.declared.header.Header.{Header}

none_free : (h : Header) → is_sound h ≡ true → h.count ≡ 0 → h.first ≡ 0
none_free h e none = grind (arith, nat_tests)

linked_end : (left next link : ℕ) → may_link left next link ≡ true → 0 < left → left - 1 ≡ 0 → link ≡ 0
linked_end left next link e some none = grind (arith, nat_tests)

linked_within : (left next link : ℕ) → may_link left next link ≡ true → 0 < left - 1
    → (3 ≤ link) × (link < next)
linked_within left next link e some = (grind (arith, nat_tests), grind (arith, nat_tests))

one_less : (left : ℕ) → 0 < left → suc (left - 1) ≡ left
one_less left some = omega (arith, some)

one_longer : (found longer : List ℕ) (n : ℕ) → longer ≡ found ++ n ∷ [] → length longer ≡ length found + 1
one_longer found longer n e = ap length e ∙ length-append found (n ∷ [])

-- what stands behind so many
at_seam : (xs : List ℕ) (y : ℕ) (ys : List ℕ) → slice_get (xs ++ y ∷ ys) (length xs) ≡ Some y
at_seam [] y ys = refl
at_seam (x ∷ xs) y ys = at_seam xs y ys

one_more_links_on : (blocks : Blocks) (h : Header) (many next : ℕ) → LinkOn blocks h many
    → slice_get (free_pages_of blocks h) many ≡ Some next
    → IsSome (free_page_link (h.count - many) h.next (block_at next blocks)) → LinkOn blocks h (many + 1)
one_more_links_on blocks h many next linked there some i k less at = ⊎_elim
    (λ (e : i ≡ many). let here = ap (slice_get (free_pages_of blocks h)) e in let same : next ≡ k = cc in
    subst (λ (j : ℕ). IsSome (free_page_link (h.count - j) h.next (block_at k blocks))) (sym e)
    (subst (λ (n : ℕ). IsSome (free_page_link (h.count - many) h.next (block_at n blocks))) same some))
    (λ (ne : ¬ (i ≡ many)). linked i k (omega (arith, less, ne)) at)
    (cases_eq i many)

module _ {D : Type 0} {m : _} where
  -- so many pages are left, from `next` on, of those that were free
  pub record Walked (old now : PageFile D m) (found : List ℕ) (next left : ℕ) : Type 0 where
    pub gate : KeepsGate old now
    pub map : KeepsMap old now
    pub header : header_of now ≡ header_of old
    pub blocks : IsHonest old → blocks_of now ≡ blocks_of old
    pub faults : m.faults (device_of now) ≡ m.faults (device_of old)
    pub ends : left ≡ 0 → next ≡ 0
    pub within : 0 < left → (3 ≤ next) × (next < next_of old)
    pub pages : IsHonest old → free_of old ≡ found ++ chain (blocks_of old) left next
    pub sound : IsHonest old → IsChain (blocks_of old) (next_of old) left next
        → HasFreeChain (blocks_of old) (header_of old)
    pub counted : length found + left ≡ (header_of old).count
    pub linked : IsHonest old → LinkOn (blocks_of old) (header_of old) (length found)

  pub not_walked : (file : PageFile D m) (found : List ℕ) → found ≡ []
      → Walked file file found file.header.first file.header.count
  not_walked file found none = record {
    gate = no_call_keeps_the_gate file;
    map = no_call_keeps_the_map file;
    header = refl;
    blocks = λ h. refl;
    faults = refl;
    ends = none_free file.header file.sound;
    within = some_free file.header file.sound;
    pages = λ h. ap (λ l. l ++ free_of file) (sym none);
    sound = λ h c. c;
    counted = omega (arith, ap length none);
    linked = λ h i k less. absurd (omega (arith, ap length none, less));
  }

  module _ {old now : PageFile D m} {found : List ℕ} {next left : ℕ}
      (walked : Walked old now found next left) where
    opened : 0 < left → IsHonest old
        → free_of old
        ≡ found ++ next ∷ chain (blocks_of old) (left - 1) (link_of (block_at next (blocks_of old)))
    opened some h = walked.pages h
        ∙ ap (λ (n : ℕ). found ++ chain (blocks_of old) n next) (sym (one_less left some))
        ∙ ap (λ l. found ++ l) (chain_opened (blocks_of old) (left - 1) next (walked.within some).0)

    leads : 0 < left → IsHonest old → slice_get (free_of old) (length found) ≡ Some next
    leads some h = ap (λ l. slice_get l (length found)) (opened some h) ∙ at_seam found next _

    -- the page as it is read is the one in its place
    in_place : IsHonest old
        → free_page_link ((header_of old).count - length found) (next_of old) (block_at next (blocks_of old))
        ≡ free_page_link left (next_of now) (block_at next (blocks_of now))
    in_place h =
        let left_is : (header_of old).count - length found ≡ left = omega (arith, walked.counted) in
        ap (λ (n : ℕ). free_page_link n (next_of old) (block_at next (blocks_of old))) left_is
        ∙ ap (λ (x : Header). free_page_link left x.next (block_at next (blocks_of old))) (sym walked.header)
        ∙ ap (λ (b : Blocks). free_page_link left (next_of now) (block_at next b)) (sym (walked.blocks h))

    -- one page more
    pub walked_on : (new : PageFile D m) (link : ℕ) (found_new : List ℕ) → 0 < left → KeepsGate now new
        → KeepsMap now new → header_of new ≡ header_of now → (IsHonest now → blocks_of new ≡ blocks_of now)
        → m.faults (device_of new) ≡ m.faults (device_of now) → may_link left (next_of now) link ≡ true
        → (IsHonest now → free_page_link left (next_of now) (block_at next (blocks_of now)) ≡ Some link)
        → found_new ≡ found ++ next ∷ [] → Walked old new found_new link (left - 1)
    walked_on new link found_new some gate map header blocks faults there linked pushed = record {
      gate = the_gate_is_kept_in_turn old now new walked.gate gate;
      map = the_map_is_kept_in_turn old now new walked.gate.honest.0 walked.map map;
      header = header ∙ walked.header;
      blocks = λ h. blocks (walked.gate.honest.0 h) ∙ walked.blocks h;
      faults = faults ∙ walked.faults;
      ends = linked_end left (next_of now) link there some;
      within =
          λ more. subst (λ (x : ℕ). (3 ≤ link) × (link < x)) (ap (λ (x : Header). x.next) walked.header)
          (linked_within left (next_of now) link there more);
      pages = λ h.
          opened some h
          ∙ ap (λ (n : ℕ). found ++ next ∷ chain (blocks_of old) (left - 1) n) (link_here h).1
          ∙ sym (append_assoc found (next ∷ []) (chain (blocks_of old) (left - 1) link))
          ∙ ap (λ l. l ++ chain (blocks_of old) (left - 1) link) (sym pushed);
      sound = λ h c. walked.sound h
          (subst (λ (n : ℕ). IsChain (blocks_of old) (next_of old) n next) (one_less left some) (
            (walked.within some).0,
            (walked.within some).1,
            (link_here h).0,
            subst (λ (n : ℕ). IsChain (blocks_of old) (next_of old) (left - 1) n) (sym (link_here h).1) c,
          ));
      counted = omega (arith, some, walked.counted, one_longer found found_new next pushed);
      linked = λ h.
          subst (LinkOn (blocks_of old) (header_of old)) (sym (one_longer found found_new next pushed))
          (one_more_links_on (blocks_of old) (header_of old) (length found) next (walked.linked h)
          (leads some h)
          (subst IsSome (sym (in_place h ∙ linked (walked.gate.honest.0 h))) refl));
    }
      where
        link_here : IsHonest old
            → (kind_of (block_at next (blocks_of old)) ≡ free_kind)
            × (link_of (block_at next (blocks_of old)) ≡ link)
        link_here h =
            let is =
            subst (λ (b : Blocks). free_page_link left (next_of now) (block_at next b) ≡ Some link)
            (walked.blocks h) (linked (walked.gate.honest.0 h)) in
            let all = link_is left (next_of now) link (block_at next (blocks_of old)) is in (all.0, all.1)

    -- the chain breaks at a page that is no free page in its place
    pub breaks_here : IsHonest old → 0 < left
        → free_page_link left (next_of now) (block_at next (blocks_of now)) ≡ None
        → BreaksAt (blocks_of old) (header_of old) next
    breaks_here h some none = record {
      before = length found;
      counted = omega (arith, some, walked.counted);
      linked = walked.linked h;
      leads = leads some h;
      broken = in_place h ∙ none;
    }

    -- at the end of the walk
    pub walked_all : left ≡ 0 → IsHonest old
        → (found ≡ free_of old) × HasFreeChain (blocks_of old) (header_of old)
    walked_all none h = (
      sym (walked.pages h ∙ ap (λ (n : ℕ). found ++ chain (blocks_of old) n next) none ∙ append-nil found),
      walked.sound h
          (subst (λ (n : ℕ). IsChain (blocks_of old) (next_of old) n next) (sym none) (walked.ends none)),
    )
