-- The page at which the chain of free pages breaks.
use Rattle.std.proofs.Common.{◌≡◌, ◌∙◌, ◌⊎◌, ℕ, zero, suc, ◌<◌, ◌≤◌, Bool, true, false, ◌||◌, eqb, List}
use Rattle.std.proofs.Common.{Option, IsSome, None, refl, ap, sym, subst, ⊎_elim, arith}
use Rattle.std.specs.Prelude.{◌-◌, Some, slice_get}
use Rattle.std.specs.Set.{is_member}
use Rattle.std.proofs.lemmas.Bool.Decides.{nat_tests}
use Rattle.block_device.specs.Device.{Blocks, block_at}
use Rattle.page_file.specs.Chains.{chain_opened, eq_self}
use Rattle.page_file.specs.Fault.{IsOfDevice}
use Rattle.page_file.specs.Given.{is_given}
use Rattle.page_file.specs.Layout.{link_of}
use Rattle.page_file.specs.Live.{lives}
use Rattle.page_file.specs.Opening.{is_sound}
use Rattle.page_file.specs.Pages.{chain, free_page_link, free_pages_of}
use Rattle.page_file.specs.declared.fault.Fault.{Fault}
use Rattle.page_file.specs.declared.fault.Fault.TheVariants as fault
use Rattle.page_file.specs.declared.header.Header.{Header}
use Rattle.page_cache.specs.Cache.{BreaksAt, IsBroken, IsHonest, IsLive, IsPageMap, blocks_behind, given}
use Rattle.page_cache.specs.Cache.{next_of}
use Rattle.page_cache.specs.Calls.{AsksUntil}
use Rattle.page_cache.specs.declared.cache.PageCache.{PageCache}
use Rattle.id_words.specs.Damage.{MayBreakAt}

-- want of memory and a fault of the device name no page
pub no_damage : (f : Fault) (n : ℕ) → IsOfDevice f → f ≡ fault.Damaged n → ⊥
no_damage f n device damaged =
    ⊎_elim (λ (is : f ≡ fault.Memory). absurd (cc)) (λ (is : f ≡ fault.Device). absurd (cc)) device

first_low : (h : Header) → is_sound h ≡ true → 0 < h.count → 3 ≤ h.first
first_low h e some = grind (arith, nat_tests)

first_below : (h : Header) → is_sound h ≡ true → 0 < h.count → h.first < h.next
first_below h e some = grind (arith, nat_tests)

first_is_free : (blocks : Blocks) (h : Header) → is_sound h ≡ true → 0 < h.count
    → is_member eqb (free_pages_of blocks h) h.first ≡ true
first_is_free blocks h sound some = opened h.count some
  where
    opened : (count : ℕ) → 0 < count → is_member eqb (chain blocks count h.first) h.first ≡ true
    opened zero none = absurd (omega (arith, none))
    opened (suc count) more =
        let rest = chain blocks count (link_of (block_at h.first blocks)) in
        ap (λ (l : List ℕ). is_member eqb l h.first)
        (chain_opened blocks count h.first (first_low h sound some))
        ∙ ap (λ (t : Bool). t || is_member eqb rest h.first) (eq_self h.first)

first_leads : (blocks : Blocks) (h : Header) → is_sound h ≡ true → 0 < h.count
    → slice_get (free_pages_of blocks h) 0 ≡ Some h.first
first_leads blocks h sound some = opened h.count some
  where
    opened : (count : ℕ) → 0 < count → slice_get (chain blocks count h.first) 0 ≡ Some h.first
    opened zero none = absurd (omega (arith, none))
    opened (suc count) more = ap (λ (l : List ℕ). slice_get l 0)
        (chain_opened blocks count h.first (first_low h sound some))

is_there : (page : Option (List ℕ)) (bytes : List ℕ) → page ≡ Some bytes → IsSome page
is_there page bytes is = subst IsSome (sym is) refl

module _ {B A : Type 0} {m : _} where
  -- the first of the free pages is not live, also where their chain is broken
  pub broken_is_free : (old new : PageCache B A m) (f : Fault) (n : ℕ) → IsBroken old new f
      → f ≡ fault.Damaged n → ¬ (IsLive old n)
  broken_is_free old new f n broken damaged live =
      let h = old.file.header in
      let said = broken.is in
      let is : n ≡ h.first = cc in
      let there = lives (blocks_behind old) h n live in
      let member = first_is_free (blocks_behind old) h old.file.sound broken.some in
      let both : true ≡ false = sym member
      ∙ ap (is_member eqb (free_pages_of (blocks_behind old) h)) (sym is) ∙ there.not_free in
      absurd (cc)

  -- so it breaks there
  pub broken_breaks : (old new : PageCache B A m) (f : Fault) (n : ℕ) → IsBroken old new f
      → f ≡ fault.Damaged n → BreaksAt old n
  broken_breaks old new f n broken damaged =
      let h = old.file.header in
      let blocks = blocks_behind old in
      let said = broken.is in
      let is : n ≡ h.first = cc in
      let whole : h.count - 0 ≡ h.count = omega arith in
      record {
        before = 0;
        counted = broken.some;
        linked = λ i k none is_at. absurd (omega (arith, none));
        leads = first_leads blocks h old.file.sound broken.some ∙ ap (λ (k : ℕ). Some k) (sym is);
        broken = ap (λ (k : ℕ). free_page_link k h.next (block_at n blocks)) whole
            ∙ ap (λ (k : ℕ). free_page_link h.count h.next (block_at k blocks)) is ∙ broken.no_link;
      }

  pub refused_breaks : (old new : PageCache B A m) (f : Fault) (n : ℕ)
      → IsOfDevice f ⊎ ((f ≡ fault.NoPages) ⊎ IsBroken old new f) → f ≡ fault.Damaged n → BreaksAt old n
  refused_breaks old new f n either damaged = ⊎_elim
      (λ (device : IsOfDevice f). absurd (no_damage f n device damaged))
      (λ (other : (f ≡ fault.NoPages) ⊎ IsBroken old new f). ⊎_elim
      (λ (none : f ≡ fault.NoPages). absurd (cc))
      (λ (broken : IsBroken old new f). broken_breaks old new f n broken damaged)
      other)
      either

  -- a page that could not be given out
  pub refused_is_free : (old new : PageCache B A m) (f : Fault) (n : ℕ)
      → IsOfDevice f ⊎ ((f ≡ fault.NoPages) ⊎ IsBroken old new f) → f ≡ fault.Damaged n → ¬ (IsLive old n)
  refused_is_free old new f n either damaged = ⊎_elim
      (λ (device : IsOfDevice f). absurd (no_damage f n device damaged))
      (λ (other : (f ≡ fault.NoPages) ⊎ IsBroken old new f). ⊎_elim
      (λ (none : f ≡ fault.NoPages). absurd (cc))
      (λ (broken : IsBroken old new f). broken_is_free old new f n broken damaged)
      other)
      either

  -- it was given out
  pub refused_is_given : (old new : PageCache B A m) (f : Fault) (n : ℕ)
      → IsOfDevice f ⊎ ((f ≡ fault.NoPages) ⊎ IsBroken old new f) → f ≡ fault.Damaged n
      → IsSome (given old n)
  refused_is_given old new f n either damaged = ⊎_elim
      (λ (device : IsOfDevice f). absurd (no_damage f n device damaged))
      (λ (other : (f ≡ fault.NoPages) ⊎ IsBroken old new f). ⊎_elim
      (λ (none : f ≡ fault.NoPages). absurd (cc))
      (λ (broken : IsBroken old new f).
      let h = old.file.header in
      let said = broken.is in
      let is : n ≡ h.first = cc in
      let low = first_low h old.file.sound broken.some in
      let below = first_below h old.file.sound broken.some in
      is_there (given old n) (block_at n (blocks_behind old))
      (is_given (blocks_behind old) (next_of old) n (omega (arith, is, low)) (omega (arith, is, below))))
      other)
      either

  pub may_break : (old new : PageCache B A m) (f : Fault) (n : ℕ)
      → (IsPageMap old → IsOfDevice f ⊎ (f ≡ fault.NoPages))
      → IsOfDevice f ⊎ ((f ≡ fault.NoPages) ⊎ IsBroken old new f) → f ≡ fault.Damaged n → MayBreakAt old n
  may_break old new f n sound either damaged = (
    λ map. ⊎_elim (λ (device : IsOfDevice f). no_damage f n device damaged)
        (λ (none : f ≡ fault.NoPages). absurd (cc)) (sound map),
    refused_is_given old new f n either damaged,
    refused_is_free old new f n either damaged,
  )

  pub breaks_before : (old now : PageCache B A m) (n : ℕ) → AsksUntil old now None → IsHonest old
      → MayBreakAt now n → MayBreakAt old n
  breaks_before old now n asks honest breaks = (
    λ map. breaks.0 (asks.map.sound.0 map),
    subst IsSome (asks.map.given_stay honest n) breaks.1,
    λ live. breaks.2 (subst IsSome (sym (asks.map.pages_stay honest n)) live),
  )
