-- Pages given out: the first free one, or a new one.
use Rattle.std.proofs.Common.{inl, ◌≡◌, ◌⊎◌, ◌∙◌, ℕ, zero, suc, ◌<◌, ◌≤◌, ◌-◌, Bool, true, false, ◌&&◌, ◌||◌}
use Rattle.std.proofs.Common.{not, nat_le, nat_lt, ◌==◌, eqb, List, ◌∷◌, length, Some, None, refl, sym, ap}
use Rattle.std.proofs.Common.{arith, ⊎_elim, subst, cond}
use Rattle.std.specs.Prelude.{IsSome}
use Rattle.std.specs.Set.{is_member}
use Rattle.std.proofs.lemmas.Bool.Decides.{nat_tests}
use Rattle.std.proofs.lemmas.Bool.{false_from_ne_true}
use Rattle.block_bytes.specs.Numbers.{zeros}
use Rattle.block_bytes.specs.Kinds.{free_kind}
use Rattle.block_device.specs.Device.{Blocks, Torn, block_at, written}
use Rattle.block_device.specs.Written.{block_at-written, torn_other}
use Rattle.page_file.specs.Chains.{chain_opened, comes_once, eq_other, eq_self}
use Rattle.page_file.specs.Given.{given_more, given_torn}
use Rattle.page_file.specs.Layout.{kind_of, link_of}
use Rattle.page_file.specs.Live.{chain_torn, free_torn, fresh_free, fresh_lives, fresh_none, fresh_others}
use Rattle.page_file.specs.Live.{lives_some, others_same, page_live, refused_free, refused_others, torn_lives}
use Rattle.page_file.specs.Opening.{is_sound}
use Rattle.page_file.specs.Pages.{HasFreeChain, HasGiven, IsChain, MayHaveGiven, SameBut, TakesFirst, chain}
use Rattle.page_file.specs.Pages.{free_page_link, free_pages_of, given_pages, may_link, next_given}
use Rattle.page_file.specs.Pages.{next_of_free, page_of, with_free, with_given, with_one_given}
use Rattle.page_file.specs.Pages.{with_one_taken}
use Rattle.page_file.specs.Settled.{sound_says}
use Rattle.page_file.specs.declared.header.Header.{Header}

-- where there are free pages, and where there are none
pub first_given : (h : Header) → 0 < h.count → next_given h ≡ h.first
first_given h some = case h.count some
  where
    case : (count : ℕ) → 0 < count → next_of_free count h ≡ h.first
    case zero some = absurd (omega (arith, some))
    case (suc count) some = refl

pub first_taken : (blocks : Blocks) (h : Header) → 0 < h.count → with_given blocks h ≡ with_one_taken blocks h
first_taken blocks h some = case h.count some
  where
    case : (count : ℕ) → 0 < count → with_free count blocks h ≡ with_one_taken blocks h
    case zero some = absurd (omega (arith, some))
    case (suc count) some = refl

pub new_given : (h : Header) → h.count ≡ 0 → next_given h ≡ h.next
new_given h none = ap (λ (c : ℕ). next_of_free c h) none

pub one_given : (blocks : Blocks) (h : Header) → h.count ≡ 0 → with_given blocks h ≡ with_one_given h
one_given blocks h none = ap (λ (c : ℕ). with_free c blocks h) none

-- the first free page is taken, and its block torn
module _ (old new : Blocks) (h : Header) (c : ℕ) (is : h.count ≡ suc c) (free : HasFreeChain old h)
    (room : h.next ≤ length old) (torn : Torn h.first old new) where
  abbrev taken_with : ℕ → Header
  taken_with n =
      record { version = h.version; next = h.next; first = link_of (block_at h.first old); count = n }

  abbrev counted : ℕ → Header
  counted n = record { version = h.version; next = h.next; first = h.first; count = n }

  abbrev taken : Header
  taken = taken_with c

  whole : HasFreeChain old (counted (suc c))
  whole = subst (λ (n : ℕ). HasFreeChain old (counted n)) is free

  le : h.first ≤ length old
  le = omega (arith, whole.1, room)

  apart : is_member eqb (free_pages_of old taken) h.first ≡ false
  apart = false_from_ne_true (is_member eqb (free_pages_of old taken) h.first)
      (comes_once old h.next c h.first whole)

  opened : free_pages_of old h ≡ h.first ∷ free_pages_of old taken
  opened = ap (λ (n : ℕ). chain old n h.first) is ∙ chain_opened old c h.first whole.0

  first_none : page_of old h h.first ≡ None
  first_none =
      ap (λ (l : List ℕ). cond (nat_le 2 h.first && (nat_lt h.first h.next && not (is_member eqb l h.first)))
      (Some (block_at h.first old)) None) opened
      ∙ ap (λ (t : Bool). cond
      (nat_le 2 h.first
      && (nat_lt h.first h.next && not (t || is_member eqb (free_pages_of old taken) h.first)))
      (Some (block_at h.first old)) None) (eq_self h.first)
      ∙ ap (λ (t : Bool). cond (nat_le 2 h.first && t) (Some (block_at h.first old)) None)
      (none_right (nat_lt h.first h.next))
      ∙ ap (λ (t : Bool). cond t (Some (block_at h.first old)) None) (none_right (nat_le 2 h.first))
    where
      none_right : (a : Bool) → (a && false) ≡ false
      none_right true = refl
      none_right false = refl

  others_taken : SameBut h.first (page_of old h) (page_of old taken)
  others_taken k ne = sym (
      ap (λ (l : List ℕ). cond (nat_le 2 k && (nat_lt k h.next && not (is_member eqb l k)))
      (Some (block_at k old)) None) opened
      ∙ ap (λ (t : Bool). cond
      (nat_le 2 k && (nat_lt k h.next && not (t || is_member eqb (free_pages_of old taken) k)))
      (Some (block_at k old)) None) (eq_other k h.first ne))

  first_others : SameBut h.first (page_of old h) (page_of new taken)
  first_others k ne = others_same h.first old new taken torn le apart k ne ∙ others_taken k ne

  first_free : HasFreeChain new taken
  first_free = free_torn h.first old new taken torn le apart whole.3

  first_there : page_of new taken h.first ≡ Some (block_at h.first new)
  first_there =
      page_live new taken h.first
      (torn_lives h.first old new taken torn le apart (omega (arith, whole.0)) whole.1)

  rest_free : free_pages_of new taken ≡ free_pages_of old taken
  rest_free = chain_torn h.first old new taken torn le apart

  is_taken : with_one_taken old h ≡ taken
  is_taken =
      ap (λ (n : ℕ). taken_with (n - 1)) is ∙ ap taken_with (let e : suc c - 1 ≡ c = omega arith in e)

-- where the blocks of the pages given out are the same, and none is free
module _ (old new : Blocks) (next : ℕ) (same : (k : ℕ) → k < next → block_at k new ≡ block_at k old) where
  same_block : (k : ℕ) → nat_lt k next ≡ true → block_at k new ≡ block_at k old
  same_block k below = same k (grind (arith, nat_tests))

  one_page : (low below : Bool) (k : ℕ) → nat_lt k next ≡ below
      → cond (low && (below && true)) (Some (block_at k new)) None ≡ cond (low && (below && true))
      (Some (block_at k old)) None
  one_page true true k e = ap Some (same_block k e)
  one_page true false k e = refl
  one_page false below k e = refl

  one_given_page : (low below : Bool) (k : ℕ) → nat_lt k next ≡ below
      → cond (low && below) (Some (block_at k new)) None ≡ cond (low && below) (Some (block_at k old)) None
  one_given_page true true k e = ap Some (same_block k e)
  one_given_page true false k e = refl
  one_given_page false below k e = refl

  given_kept : (k : ℕ) → given_pages new next k ≡ given_pages old next k
  given_kept k = one_given_page (nat_le 2 k) (nat_lt k next) k refl

none_free : (blocks : Blocks) (h : Header) (k : ℕ) → h.count ≡ 0
    → page_of blocks h k ≡ cond (nat_le 2 k && (nat_lt k h.next && true)) (Some (block_at k blocks)) None
none_free blocks h k none =
    ap (λ (c : ℕ). cond (nat_le 2 k && (nat_lt k h.next && not (is_member eqb (chain blocks c h.first) k)))
    (Some (block_at k blocks)) None) none

pages_kept : (old new : Blocks) (h : Header) → h.count ≡ 0
    → ((k : ℕ) → k < h.next → block_at k new ≡ block_at k old) → (k : ℕ) → page_of new h k ≡ page_of old h k
pages_kept old new h none same k = none_free new h k none
    ∙ one_page old new h.next same (nat_le 2 k) (nat_lt k h.next) k refl ∙ sym (none_free old h k none)

-- whichever page is given out
module _ (old new : Blocks) (h h' : Header) (sound : is_sound h ≡ true) (room : h.next ≤ length old) where
  start : 3 ≤ h.next
  start = (sound_says h sound).start

  pub le_given : next_given h ≤ length old
  le_given = case h.count
    where
      case : (c : ℕ) → next_of_free c h ≤ length old
      case zero = room
      case (suc c) = omega (arith, (sound_says h sound).first_below, room)

  pub none_before : HasFreeChain old h → page_of old h (next_given h) ≡ None
  none_before free = case h.count refl
    where
      case : (c : ℕ) → h.count ≡ c → page_of old h (next_of_free c h) ≡ None
      case zero is = fresh_none old old h start room free (inl refl)
      case (suc c) is = first_none old old h c is free room (inl refl)

  pub given_is_zeros : HasFreeChain old h → HasGiven old new h h' → page_of new h' (next_given h) ≡ Some zeros
  given_is_zeros free gives = case h.count refl gives.header gives.block gives.torn
    where
      case : (c : ℕ) → h.count ≡ c → h' ≡ with_free c old h → new ≡ written (next_of_free c h) zeros old
          → Torn (next_of_free c h) old new → page_of new h' (next_of_free c h) ≡ Some zeros
      case zero is header block torn = ap (λ (x : Header). page_of new x h.next) header
          ∙ page_live new (with_one_given h) h.next (fresh_lives old new h start room free torn)
          ∙ ap Some (ap (block_at h.next) block ∙ block_at-written h.next zeros old room)
      case (suc c) is header block torn =
          ap (λ (x : Header). page_of new x h.first) (header ∙ is_taken old new h c is free room torn)
          ∙ first_there old new h c is free room torn
          ∙ ap Some
          (ap (block_at h.first) block
          ∙ block_at-written h.first zeros old (le old new h c is free room torn))

  others_case : HasFreeChain old h → (c : ℕ) → h.count ≡ c → h' ≡ with_free c old h
      → Torn (next_of_free c h) old new → SameBut (next_of_free c h) (page_of old h) (page_of new h')
  others_case free zero is header torn k ne = ap (λ (x : Header). page_of new x k) header
      ∙ fresh_others old new h start room free torn k ne
  others_case free (suc c) is header torn k ne =
      ap (λ (x : Header). page_of new x k) (header ∙ is_taken old new h c is free room torn)
      ∙ first_others old new h c is free room torn k ne

  chain_case : HasFreeChain old h → (c : ℕ) → h.count ≡ c → h' ≡ with_free c old h
      → Torn (next_of_free c h) old new → HasFreeChain new h'
  chain_case free zero is header torn =
      subst (λ (x : Header). HasFreeChain new x) (sym header) (fresh_free old new h start room free torn)
  chain_case free (suc c) is header torn =
      subst (λ (x : Header). HasFreeChain new x) (sym (header ∙ is_taken old new h c is free room torn))
      (first_free old new h c is free room torn)

  given_case : (c : ℕ) → h.count ≡ c → h' ≡ with_free c old h → Torn (next_of_free c h) old new
      → SameBut (next_of_free c h) (given_pages old h.next) (given_pages new h'.next)
  given_case zero is header torn k ne = ap (λ (x : Header). given_pages new x.next k) header
      ∙ given_more h.next old new torn room k ne
  given_case (suc c) is header torn k ne = ap (λ (x : Header). given_pages new x.next k) header
      ∙ given_torn h.first old new h.next torn (omega (arith, (sound_says h sound).first_below, room)) k ne

  pub others_stay : HasFreeChain old h → HasGiven old new h h'
      → SameBut (next_given h) (page_of old h) (page_of new h')
  others_stay free gives = others_case free h.count refl gives.header gives.torn

  pub chain_stays : HasFreeChain old h → HasGiven old new h h' → HasFreeChain new h'
  chain_stays free gives = chain_case free h.count refl gives.header gives.torn

  pub given_stays : HasGiven old new h h'
      → SameBut (next_given h) (given_pages old h.next) (given_pages new h'.next)
  given_stays gives = given_case h.count refl gives.header gives.torn

  -- and refused
  pub others_refused : HasFreeChain old h → MayHaveGiven old new h h'
      → SameBut (next_given h) (page_of old h) (page_of new h')
  others_refused free may = ⊎_elim
      (λ same. ⊎_elim
      (λ (none : h.count ≡ 0). λ k ne. ap (λ (x : Header). page_of new x k) same.0
      ∙ refused_others old new h start room free
      (subst (λ (n : ℕ). Torn n old new) (new_given h none) may.torn) k
      (λ e. ne (e ∙ sym (new_given h none))))
      (λ (e : new ≡ old). λ k ne. ap (λ (x : Header). page_of new x k) same.0
      ∙ ap (λ (b : Blocks). page_of b h k) e)
      same.1)
      (λ taken. others_case free h.count refl taken.0 may.torn)
      may.header

  pub chain_refused : HasFreeChain old h → MayHaveGiven old new h h' → HasFreeChain new h'
  chain_refused free may = ⊎_elim
      (λ same. subst (λ (x : Header). HasFreeChain new x) (sym same.0) (⊎_elim
      (λ (none : h.count ≡ 0). refused_free old new h start room free
      (subst (λ (n : ℕ). Torn n old new) (new_given h none) may.torn))
      (λ (e : new ≡ old). subst (λ (b : Blocks). HasFreeChain b h) (sym e) free)
      same.1))
      (λ taken. chain_case free h.count refl taken.0 may.torn)
      may.header

  pub given_refused : MayHaveGiven old new h h'
      → SameBut (next_given h) (given_pages old h.next) (given_pages new h'.next)
  given_refused may = ⊎_elim
      (λ same. λ k ne. ap (λ (x : Header). given_pages new x.next k) same.0
      ∙ given_torn (next_given h) old new h.next may.torn le_given k ne)
      (λ taken. given_case h.count refl taken.0 may.torn)
      may.header

  -- A refusal that leaves as many pages free leaves the map, since the page of a new number is in none.
  same_header : MayHaveGiven old new h h' → h'.count ≡ h.count → (h' ≡ h) × ((h.count ≡ 0) ⊎ (new ≡ old))
  same_header may count = ⊎_elim
      (λ same. same)
      (λ taken. let less = ap (λ (x : Header). x.count) (taken.0 ∙ first_taken old h taken.1) in
      let some = taken.1 in absurd (omega (arith, less, some, count)))
      may.header

  unwritten : h.count ≡ 0 → MayHaveGiven old new h h' → (k : ℕ) → k < h.next → block_at k new ≡ block_at k old
  unwritten none may k below =
      torn_other h.next k old new (subst (λ (n : ℕ). Torn n old new) (new_given h none) may.torn) room
      (λ (e : k ≡ h.next). absurd (omega (arith, below, e)))

  pub pages_unchanged : MayHaveGiven old new h h' → h'.count ≡ h.count → (k : ℕ)
      → page_of new h' k ≡ page_of old h k
  pages_unchanged may count k = let same = same_header may count in
      ap (λ (x : Header). page_of new x k) same.0 ∙ ⊎_elim
      (λ (none : h.count ≡ 0). pages_kept old new h none (unwritten none may) k)
      (λ (e : new ≡ old). ap (λ (b : Blocks). page_of b h k) e)
      same.1

  pub given_unchanged : MayHaveGiven old new h h' → h'.count ≡ h.count → (k : ℕ)
      → given_pages new h'.next k ≡ given_pages old h.next k
  given_unchanged may count k = let same = same_header may count in
      ap (λ (x : Header). given_pages new x.next k) same.0 ∙ ⊎_elim
      (λ (none : h.count ≡ 0). given_kept old new h.next (unwritten none may) k)
      (λ (e : new ≡ old). ap (λ (b : Blocks). given_pages b h.next k) e)
      same.1

  pub chain_unchanged : MayHaveGiven old new h h' → h'.count ≡ h.count → HasFreeChain new h'
      → HasFreeChain old h
  chain_unchanged may count free = let same = same_header may count in
      let here = subst (λ (x : Header). HasFreeChain new x) same.0 free in ⊎_elim
      (λ (none : h.count ≡ 0). subst (λ (n : ℕ). IsChain old h.next n h.first) (sym none)
      (subst (λ (n : ℕ). IsChain new h.next n h.first) none here))
      (λ (e : new ≡ old). subst (λ (b : Blocks). HasFreeChain b h) e here)
      same.1

  -- the free pages, and the next number
  pub takes_first : HasFreeChain old h → HasGiven old new h h'
      → TakesFirst (next_given h) (free_pages_of old h) h.next (free_pages_of new h') h'.next
  takes_first free gives = case h.count refl gives.header gives.torn
    where
      case : (c : ℕ) → h.count ≡ c → h' ≡ with_free c old h → Torn (next_of_free c h) old new
          → TakesFirst (next_of_free c h) (free_pages_of old h) h.next (free_pages_of new h') h'.next
      case zero is header torn =
          subst (λ (l : List ℕ). TakesFirst h.next l h.next (free_pages_of new h') h'.next)
          (sym (ap (λ (n : ℕ). chain old n h.first) is)) (
            refl,
            ap (λ (x : Header). free_pages_of new x) header ∙ ap (λ (n : ℕ). chain new n h.first) is,
            ap (λ (x : Header). x.next) header,
          )
      case (suc c) is header torn =
          subst (λ (l : List ℕ). TakesFirst h.first l h.next (free_pages_of new h') h'.next)
          (sym (opened old new h c is free room torn)) (
            refl,
            ap (λ (x : Header). free_pages_of new x) (header ∙ is_taken old new h c is free room torn)
                ∙ rest_free old new h c is free room torn,
            ap (λ (x : Header). x.next) header,
          )

-- where no page is free and each number is given out, all are live
pub all_live : (blocks : Blocks) (h : Header) → h.count ≡ 0 → (n : ℕ) → 2 ≤ n → n < h.next
    → IsSome (page_of blocks h n)
all_live blocks h none n low below =
    lives_some blocks h n
    (record {
      low = low;
      below = below;
      not_free = ap (λ (c : ℕ). is_member eqb (chain blocks c h.first) n) none;
    })

-- a page of a chain is a free page as the format has it
pub chain_link : (blocks : Blocks) (next c n : ℕ) → IsChain blocks next (suc c) n
    → free_page_link (suc c) next (block_at n blocks) ≡ Some (link_of (block_at n blocks))
chain_link blocks next c n whole =
    let block = block_at n blocks in
    let kind : (kind_of block == free_kind) ≡ true = let k = whole.2 in grind (arith, nat_tests) in
    ap (λ (t : Bool). cond (t && may_link (suc c) next (link_of block)) (Some (link_of block)) None) kind
    ∙ ap (λ (t : Bool). cond t (Some (link_of block)) None) (linked c (link_of block) whole.3)
  where
    linked : (c link : ℕ) → IsChain blocks next c link → may_link (suc c) next link ≡ true
    linked zero link e = grind (arith, nat_tests)
    linked (suc c) link rest = let low = rest.0 in let below = rest.1 in grind (arith, nat_tests)

-- so the first free page of a sound map is one
pub sound_link : (blocks : Blocks) (h : Header) → HasFreeChain blocks h → 0 < h.count
    → free_page_link h.count h.next (block_at h.first blocks) ≡ Some (link_of (block_at h.first blocks))
sound_link blocks h free some = case h.count some free
  where
    case : (c : ℕ) → 0 < c → IsChain blocks h.next c h.first
        → free_page_link c h.next (block_at h.first blocks) ≡ Some (link_of (block_at h.first blocks))
    case zero some free = absurd (omega (arith, some))
    case (suc c) some free = chain_link blocks h.next c h.first free

-- what a free page names
pub link_is : (count next link : ℕ) (block : List ℕ) → free_page_link count next block ≡ Some link
    → (kind_of block ≡ free_kind) × (link_of block ≡ link) × (may_link count next link ≡ true)
link_is count next link block e =
    case (kind_of block == free_kind) (may_link count next (link_of block)) refl refl e
  where
    case : (a b : Bool) → (kind_of block == free_kind) ≡ a → may_link count next (link_of block) ≡ b
        → cond (a && b) (Some (link_of block)) None ≡ Some link
        → (kind_of block ≡ free_kind) × (link_of block ≡ link) × (may_link count next link ≡ true)
    case true true k l e = let same : link_of block ≡ link = cc in
        (grind (arith, nat_tests), same, ap (may_link count next) (sym same) ∙ l)
    case true false k l e = absurd (cc)
    case false b k l e = absurd (cc)
