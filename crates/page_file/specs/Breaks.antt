-- Where a chain of free pages breaks: at one page at most, which was given out, and a sound one nowhere.
use Rattle.std.proofs.Common.{◌≡◌, ◌∙◌, ℕ, zero, suc, ◌<◌, ◌-◌, Some, sym, ap, arith, subst, ⊎_elim}
use Rattle.std.proofs.Common.{true, false, ◌≤◌, Bool, List, None, cond, refl}
use Rattle.std.specs.Prelude.{IsSome, slice_get}
use Rattle.std.proofs.lemmas.Bool.{cases_order}
use Rattle.std.proofs.lemmas.Bool.Decides.{nat_tests}
use Rattle.block_device.specs.Device.{Blocks, block_at}
use Rattle.page_file.specs.Chains.{chain_opened}
use Rattle.page_file.specs.Layout.{link_of}
use Rattle.page_file.specs.Opening.{is_sound}
use Rattle.page_file.specs.Pages.{BreaksAt, HasFreeChain, IsChain, chain, free_page_link, free_pages_of}
use Rattle.page_file.specs.Pages.{is_free_page}
use Rattle.page_file.specs.Reused.{chain_link}
use Rattle.page_file.specs.declared.header.Header.{Header}

-- the page at each place of a chain begins one, of those from there on
chain_at : (blocks : Blocks) (next count first i k : ℕ) → IsChain blocks next count first
    → slice_get (chain blocks count first) i ≡ Some k
    → (rest : ℕ) × (count - i ≡ suc rest) × IsChain blocks next (suc rest) k
chain_at blocks next zero first i k whole at = absurd (cc)
chain_at blocks next (suc count) first zero k whole at =
    let opened = ap (λ l. slice_get l 0) (chain_opened blocks count first whole.0) in
    let same : first ≡ k = cc in
    (count, omega arith, subst (λ (n : ℕ). IsChain blocks next (suc count) n) same whole)
chain_at blocks next (suc count) first (suc i) k whole at =
    let later = sym (ap (λ l. slice_get l (suc i)) (chain_opened blocks count first whole.0)) ∙ at in
    let from = chain_at blocks next count (link_of (block_at first blocks)) i k whole.3 later in
    (from.0, omega (arith, from.1), from.2)

-- a sound chain breaks nowhere
pub a_sound_chain_breaks_nowhere : (blocks : Blocks) (h : Header) (n : ℕ) → HasFreeChain blocks h
    → BreaksAt blocks h n → ⊥
a_sound_chain_breaks_nowhere blocks h n free breaks =
    let here = chain_at blocks h.next h.count h.first breaks.before n free breaks.leads in
    let link = chain_link blocks h.next here.0 n here.2 in
    let none = ap (λ (c : ℕ). free_page_link c h.next (block_at n blocks)) (sym here.1) ∙ breaks.broken in
    absurd (let bad = sym none ∙ link in cc)

-- the first of two breaks would be a page that links on
not_before : (blocks : Blocks) (h : Header) (n k : ℕ) (one : BreaksAt blocks h n)
    (other : BreaksAt blocks h k) → one.before < other.before → ⊥
not_before blocks h n k one other less =
    let bad : false ≡ true = subst IsSome one.broken (other.linked one.before n less one.leads) in absurd (cc)

-- a chain breaks at one page at most
pub a_chain_breaks_at_one_page : (blocks : Blocks) (h : Header) (n k : ℕ) → BreaksAt blocks h n
    → BreaksAt blocks h k → n ≡ k
a_chain_breaks_at_one_page blocks h n k one other =
    ⊎_elim
    (λ (same : one.before ≡ other.before). let there = one.leads in
    let here = ap (slice_get (free_pages_of blocks h)) same ∙ other.leads in cc)
    (λ apart. ⊎_elim
    (λ (less : one.before < other.before). absurd (not_before blocks h n k one other less))
    (λ (less : other.before < one.before). absurd (not_before blocks h k n other one less))
    apart)
    (cases_order one.before other.before)

-- a free page that is not the last names one given out
link_given : (count next : ℕ) (block : List ℕ) → IsSome (free_page_link (suc (suc count)) next block)
    → (3 ≤ link_of block) × (link_of block < next)
link_given count next block some = case (is_free_page (suc (suc count)) next block) refl some
  where
    case : (t : Bool) → is_free_page (suc (suc count)) next block ≡ t
        → IsSome (cond t (Some (link_of block)) None) → (3 ≤ link_of block) × (link_of block < next)
    case true e some = (grind (arith, nat_tests), grind (arith, nat_tests))
    case false e some = absurd (cc)

-- pages that link on lead from one given out to one given out
link_on_given : (blocks : Blocks) (next count first i k : ℕ) → (3 ≤ first) × (first < next)
    → ((j m : ℕ) → j < i → slice_get (chain blocks count first) j ≡ Some m
    → IsSome (free_page_link (count - j) next (block_at m blocks)))
    → slice_get (chain blocks count first) i ≡ Some k → (3 ≤ k) × (k < next)
link_on_given blocks next zero first i k within linked at = absurd (cc)
link_on_given blocks next (suc count) first zero k within linked at =
    let opened = ap (λ l. slice_get l 0) (chain_opened blocks count first within.0) in
    let same : first ≡ k = cc in subst (λ (n : ℕ). (3 ≤ n) × (n < next)) same within
link_on_given blocks next (suc zero) first (suc i) k within linked at =
    let opened = ap (λ l. slice_get l (suc i)) (chain_opened blocks zero first within.0) in absurd (cc)
link_on_given blocks next (suc (suc count)) first (suc i) k within linked at =
    let opened = chain_opened blocks (suc count) first within.0 in
    let second = link_of (block_at first blocks) in
    let whole : suc (suc count) - 0 ≡ suc (suc count) = omega arith in
    let named = subst (λ (c : ℕ). IsSome (free_page_link c next (block_at first blocks))) whole
    (linked 0 first (omega arith) (ap (λ l. slice_get l 0) opened)) in
    link_on_given blocks next (suc count) second i k (link_given count next (block_at first blocks) named)
    (λ j m less there. let one : suc (suc count) - suc j ≡ suc count - j = omega arith in
    subst (λ (c : ℕ). IsSome (free_page_link c next (block_at m blocks))) one
    (linked (suc j) m (omega (arith, less)) (ap (λ l. slice_get l (suc j)) opened ∙ there)))
    (sym (ap (λ l. slice_get l (suc i)) opened) ∙ at)

-- the first of the free pages was given out after the catalog
pub some_free : (h : Header) → is_sound h ≡ true → 0 < h.count → (3 ≤ h.first) × (h.first < h.next)
some_free h e some = (grind (arith, nat_tests), grind (arith, nat_tests))

-- the page at which it breaks was given out after the catalog
pub a_break_was_given_out : (blocks : Blocks) (h : Header) (n : ℕ) → is_sound h ≡ true → BreaksAt blocks h n
    → (3 ≤ n) × (n < h.next)
a_break_was_given_out blocks h n sound breaks =
    link_on_given blocks h.next h.count h.first breaks.before n
    (some_free h sound (omega (arith, breaks.counted))) breaks.linked breaks.leads
