-- The map of live pages, where a block was written, a page given out or freed.
use Rattle.std.proofs.Common.{◌≡◌, ◌∙◌, ℕ, zero, suc, ◌<◌, ◌≤◌, ◌+◌, ◌-◌, Bool, true, false, ◌&&◌, ◌||◌, not}
use Rattle.std.proofs.Common.{nat_le, nat_lt, eqb, List, [], ◌∷◌, length, Option, Some, None, refl, sym, ap}
use Rattle.std.proofs.Common.{arith, ⊎_elim, subst, cond}
use Rattle.std.specs.Prelude.{IsSome}
use Rattle.block_bytes.specs.Kinds.{free_kind}
use Rattle.std.specs.List.{IsDistinct, list_any}
use Rattle.std.specs.Set.{is_member}
use Rattle.std.proofs.lemmas.Bool.Decides.{nat_tests}
use Rattle.std.proofs.lemmas.Bool.{and_parts, cases_eq, cases_lt}
use Rattle.std.proofs.lemmas.Map.Keys.{IsDistinct-cons}
use Rattle.std.proofs.lemmas.Map.Steps.{length-le_from_distinct_below}
use Rattle.block_device.specs.Device.{Blocks, Torn, block_at}
use Rattle.block_device.specs.Written.{torn_other}
use Rattle.page_file.specs.Chains.{a_chain_is_distinct, apart_all, chain_count, chain_opened, chain_same}
use Rattle.page_file.specs.Chains.{chain_within, eq_other, eq_self, whole_same}
use Rattle.page_file.specs.Layout.{kind_of, link_of, new_header}
use Rattle.page_file.specs.Opening.{is_sound}
use Rattle.page_file.specs.Pages.{chain, free_pages_of, is_live, page_of, IsChain, HasFreeChain, SameBut}
use Rattle.page_file.specs.declared.header.Header.{Header}

and_false_right : (a : Bool) → (a && false) ≡ false
and_false_right true = refl
and_false_right false = refl

not_true : (a : Bool) → not a ≡ true → a ≡ false
not_true true e = sym e
not_true false e = refl

-- a page outside the free ones may be torn
outside : (n : ℕ) (old new : Blocks) (ns : List ℕ) → Torn n old new → n ≤ length old
    → is_member eqb ns n ≡ false → (k : ℕ) → is_member eqb ns k ≡ true → block_at k new ≡ block_at k old
outside n old new ns torn le apart k member =
    torn_other n k old new torn le
    (λ (e : k ≡ n). let no : true ≡ false = sym member ∙ ap (is_member eqb ns) e ∙ apart in absurd (cc))

pub record Lives (blocks : Blocks) (h : Header) (n : ℕ) : Type 0 where
  pub low : 2 ≤ n
  pub below : n < h.next
  pub not_free : is_member eqb (free_pages_of blocks h) n ≡ false

live_some : (t : Bool) (b : List ℕ) → IsSome (cond t (Some b) None) → t ≡ true
live_some true b some = refl
live_some false b some = some

pub lives : (blocks : Blocks) (h : Header) (n : ℕ) → IsSome (page_of blocks h n) → Lives blocks h n
lives blocks h n some =
    let e = live_some (is_live blocks h n) (block_at n blocks) some in
    let a = and_parts (nat_le 2 n) (nat_lt n h.next && not (is_member eqb (free_pages_of blocks h) n)) e in
    let b = and_parts (nat_lt n h.next) (not (is_member eqb (free_pages_of blocks h) n)) a.1 in
    let low : 2 ≤ n = let t = a.0 in grind (arith, nat_tests) in
    let below : n < h.next = let t = b.0 in grind (arith, nat_tests) in
    record { low = low; below = below; not_free = not_true _ b.1 }

pub is_live_from : (blocks : Blocks) (h : Header) (n : ℕ) → Lives blocks h n → is_live blocks h n ≡ true
is_live_from blocks h n l =
    let a : nat_le 2 n ≡ true = let t = l.low in grind (arith, nat_tests) in
    let b : nat_lt n h.next ≡ true = let t = l.below in grind (arith, nat_tests) in
    ap (λ (t : Bool). t && (nat_lt n h.next && not (is_member eqb (free_pages_of blocks h) n))) a
    ∙ ap (λ (t : Bool). t && not (is_member eqb (free_pages_of blocks h) n)) b
    ∙ ap not l.not_free

pub page_live : (blocks : Blocks) (h : Header) (n : ℕ) → Lives blocks h n
    → page_of blocks h n ≡ Some (block_at n blocks)
page_live blocks h n l = ap (λ (t : Bool). cond t (Some (block_at n blocks)) None) (is_live_from blocks h n l)

-- the page that a live number stands for is its block
pub page_there : (blocks : Blocks) (h : Header) (n : ℕ) → IsSome (page_of blocks h n)
    → page_of blocks h n ≡ Some (block_at n blocks)
page_there blocks h n some = page_live blocks h n (lives blocks h n some)

none_high : (blocks : Blocks) (h : Header) (n : ℕ) → h.next ≤ n → page_of blocks h n ≡ None
none_high blocks h n high =
    let e : nat_lt n h.next ≡ false = grind (arith, nat_tests) in
    ap (λ (t : Bool). cond (nat_le 2 n && (t && not (is_member eqb (free_pages_of blocks h) n)))
    (Some (block_at n blocks)) None) e
    ∙ ap (λ (t : Bool). cond t (Some (block_at n blocks)) None) (and_false_right (nat_le 2 n))

-- the free pages and the map are the same, where the blocks from the catalog on are
pub free_pages_same : (old new : Blocks) (h : Header)
    → ((k : ℕ) → 2 ≤ k → block_at k new ≡ block_at k old) → free_pages_of new h ≡ free_pages_of old h
free_pages_same old new h same =
    chain_same old new h.count h.first (λ k low member. same k (omega (arith, low)))

pub pages_same : (old new : Blocks) (h : Header) → ((k : ℕ) → 2 ≤ k → block_at k new ≡ block_at k old)
    → (n : ℕ) → page_of new h n ≡ page_of old h n
pages_same old new h same n =
    ap (λ (l : List ℕ). cond (nat_le 2 n && (nat_lt n h.next && not (is_member eqb l n)))
    (Some (block_at n new)) None) (free_pages_same old new h same)
    ∙ case (nat_le 2 n) (nat_lt n h.next && not (is_member eqb (chain old h.count h.first) n)) refl
  where
    case : (t r : Bool) → nat_le 2 n ≡ t
        → cond (t && r) (Some (block_at n new)) None ≡ cond (t && r) (Some (block_at n old)) None
    case false r e = refl
    case true r e =
        ap (λ (b : List ℕ). cond r (Some b) None) (same n (let low : 2 ≤ n = grind (arith, nat_tests) in low))

pub free_same : (old new : Blocks) (h : Header) → ((k : ℕ) → 2 ≤ k → block_at k new ≡ block_at k old)
    → HasFreeChain old h → HasFreeChain new h
free_same old new h same f =
    whole_same old new h.next h.count h.first f (λ k low member. same k (omega (arith, low)))

-- a page that is not free is torn
module _ (n : ℕ) (old new : Blocks) (h : Header) (torn : Torn n old new) (le : n ≤ length old)
    (apart : is_member eqb (free_pages_of old h) n ≡ false) where
  pub chain_torn : chain new h.count h.first ≡ chain old h.count h.first
  chain_torn =
      chain_same old new h.count h.first
      (λ k low member. outside n old new (free_pages_of old h) torn le apart k member)

  pub others_same : SameBut n (page_of old h) (page_of new h)
  others_same k ne =
      ap (λ (l : List ℕ). cond (nat_le 2 k && (nat_lt k h.next && not (is_member eqb l k)))
      (Some (block_at k new)) None) chain_torn
      ∙ ap (λ (b : List ℕ). cond (is_live old h k) (Some b) None) (torn_other n k old new torn le ne)

  pub free_torn : HasFreeChain old h → HasFreeChain new h
  free_torn f =
      whole_same old new h.next h.count h.first f
      (λ k low. outside n old new (free_pages_of old h) torn le apart k)

  pub torn_lives : 2 ≤ n → n < h.next → Lives new h n
  torn_lives low below =
      record {
        low = low;
        below = below;
        not_free = ap (λ (l : List ℕ). is_member eqb l n) chain_torn ∙ apart;
      }

some_is : {T : Type 0} (o : Option T) (x : T) → o ≡ Some x → IsSome o
some_is o x e = subst (λ (p : Option _). IsSome p) (sym e) refl

pub lives_some : (blocks : Blocks) (h : Header) (n : ℕ) → Lives blocks h n → IsSome (page_of blocks h n)
lives_some blocks h n l = some_is (page_of blocks h n) (block_at n blocks) (page_live blocks h n l)

-- the page after those given out is torn, and may be given out
module _ (old new : Blocks) (h : Header) (start : 3 ≤ h.next) (room : h.next ≤ length old)
    (free : HasFreeChain old h) (torn : Torn h.next old new) where
  abbrev pub one_page_more : Header
  one_page_more = record { version = h.version; next = h.next + 1; first = h.first; count = h.count }

  not_free : is_member eqb (free_pages_of old h) h.next ≡ false
  not_free = case (is_member eqb (free_pages_of old h) h.next) refl
    where
      case : (t : Bool) → is_member eqb (free_pages_of old h) h.next ≡ t → t ≡ false
      case false e = refl
      case true e = absurd (omega (arith, (chain_within old h.next h.count h.first free h.next e).1))

  same_chain : chain new h.count h.first ≡ chain old h.count h.first
  same_chain = chain_torn h.next old new h torn room not_free

  pub fresh_none : page_of old h h.next ≡ None
  fresh_none = none_high old h h.next (omega arith)

  pub fresh_lives : Lives new one_page_more h.next
  fresh_lives =
      record {
        low = omega (arith, start);
        below = omega arith;
        not_free = ap (λ (l : List ℕ). is_member eqb l h.next) same_chain ∙ not_free;
      }

  lt_next : (k : ℕ) → ¬ (k ≡ h.next) → nat_lt k (h.next + 1) ≡ nat_lt k h.next
  lt_next k ne = grind (arith, nat_tests)

  pub fresh_others : SameBut h.next (page_of old h) (page_of new one_page_more)
  fresh_others k ne =
      ap (λ (t : Bool). cond (nat_le 2 k && (t && not (is_member eqb (chain new h.count h.first) k)))
      (Some (block_at k new)) None) (lt_next k ne)
      ∙ others_same h.next old new h torn room not_free k ne

  pub refused_others : SameBut h.next (page_of old h) (page_of new h)
  refused_others = others_same h.next old new h torn room not_free

  pub refused_free : HasFreeChain new h
  refused_free = free_torn h.next old new h torn room not_free free

  wider : (count first : ℕ) → IsChain new h.next count first → IsChain new (h.next + 1) count first
  wider zero first whole = whole
  wider (suc count) first whole =
      (whole.0, omega (arith, whole.1), whole.2, wider count (link_of (block_at first new)) whole.3)

  pub fresh_free : HasFreeChain new one_page_more
  fresh_free = wider h.count h.first refused_free

-- a page is freed: it is linked in front
module _ (n : ℕ) (old new : Blocks) (h : Header) (torn : Torn n old new) (le : n ≤ length old)
    (apart : is_member eqb (free_pages_of old h) n ≡ false) (low : 3 ≤ n)
    (linked : link_of (block_at n new) ≡ h.first) where
  abbrev pub one_more_free : Header
  one_more_free = record { version = h.version; next = h.next; first = n; count = h.count + 1 }

  freed_chain : chain new (h.count + 1) n ≡ n ∷ chain old h.count h.first
  freed_chain = ap (λ (c : ℕ). chain new c n) (let e : h.count + 1 ≡ suc h.count = omega arith in e)
      ∙ chain_opened new h.count n low
      ∙ ap (λ (m : ℕ). n ∷ chain new h.count m) linked
      ∙ ap (λ (l : List ℕ). n ∷ l) (chain_torn n old new h torn le apart)

  pub freed_none : page_of new one_more_free n ≡ None
  freed_none =
      ap (λ (l : List ℕ). cond (nat_le 2 n && (nat_lt n h.next && not (is_member eqb l n)))
      (Some (block_at n new)) None) freed_chain
      ∙ ap (λ (t : Bool). cond
      (nat_le 2 n && (nat_lt n h.next && not (t || is_member eqb (chain old h.count h.first) n)))
      (Some (block_at n new)) None) (eq_self n)
      ∙ ap (λ (t : Bool). cond (nat_le 2 n && t) (Some (block_at n new)) None)
      (and_false_right (nat_lt n h.next))
      ∙ ap (λ (t : Bool). cond t (Some (block_at n new)) None) (and_false_right (nat_le 2 n))

  pub freed_others : SameBut n (page_of old h) (page_of new one_more_free)
  freed_others k ne =
      ap (λ (l : List ℕ). cond (nat_le 2 k && (nat_lt k h.next && not (is_member eqb l k)))
      (Some (block_at k new)) None) freed_chain
      ∙ ap (λ (t : Bool). cond
      (nat_le 2 k && (nat_lt k h.next && not (t || is_member eqb (chain old h.count h.first) k)))
      (Some (block_at k new)) None) (eq_other k n ne)
      ∙ ap (λ (b : List ℕ). cond (is_live old h k) (Some b) None) (torn_other n k old new torn le ne)

  pub freed_free : n < h.next → kind_of (block_at n new) ≡ free_kind → HasFreeChain old h
      → HasFreeChain new one_more_free
  freed_free below kind f =
      let rest : IsChain new h.next h.count h.first = free_torn n old new h torn le apart f in
      let all : IsChain new h.next (suc h.count) n =
      (low, below, kind, subst (λ (m : ℕ). IsChain new h.next h.count m) (sym linked) rest) in
      subst (λ (c : ℕ). IsChain new h.next c n) (let e : suc h.count ≡ h.count + 1 = omega arith in e) all

-- there is room for one more free page, as long as a page after the catalog is live
pub room_for_one : (blocks : Blocks) (h : Header) (n : ℕ) → HasFreeChain blocks h → 3 ≤ n → Lives blocks h n
    → h.count < h.next - 3
room_for_one blocks h n f low l =
    let ns = free_pages_of blocks h in
    let below3 : (m : ℕ) → m < 3 → is_member eqb (n ∷ ns) m ≡ false
    = λ m small. no_member m small (is_member eqb (n ∷ ns) m) refl in
    let all : List ℕ = 0 ∷ (1 ∷ (2 ∷ (n ∷ ns))) in
    let free_once : IsDistinct eqb ns = a_chain_is_distinct blocks h.next h.count h.first f in
    let one_more : IsDistinct eqb (n ∷ ns) = IsDistinct-cons eqb n ns (apart_all n ns l.not_free) free_once in
    let with_2 : IsDistinct eqb (2 ∷ (n ∷ ns)) =
    IsDistinct-cons eqb 2 (n ∷ ns) (apart_all 2 (n ∷ ns) (below3 2 (omega arith))) one_more in
    let with_1 : IsDistinct eqb (1 ∷ (2 ∷ (n ∷ ns))) =
    IsDistinct-cons eqb 1 (2 ∷ (n ∷ ns)) (refl, apart_all 1 (n ∷ ns) (below3 1 (omega arith))) with_2 in
    let d : IsDistinct eqb all =
    IsDistinct-cons eqb 0 (1 ∷ (2 ∷ (n ∷ ns)))
    (refl, (refl, apart_all 0 (n ∷ ns) (below3 0 (omega arith)))) with_1 in
    let fits : length all ≤ h.next =
    length-le_from_distinct_below all h.next d (λ q member. within q member) in
    omega (arith, fits, chain_count blocks h.next h.count h.first f, l.below, low)
  where
    member_case : (q : ℕ) → is_member eqb (n ∷ free_pages_of blocks h) q ≡ true → (3 ≤ q) × (q < h.next)
    member_case q member = ⊎_elim
        (λ (e : q ≡ n). (omega (arith, e, low), omega (arith, e, l.below)))
        (λ (ne : ¬ (q ≡ n)). chain_within blocks h.next h.count h.first f q
        (sym (ap (λ (t : Bool). t || is_member eqb (free_pages_of blocks h) q) (eq_other q n ne))
        ∙ member))
        (cases_eq q n)

    no_member : (m : ℕ) → m < 3 → (t : Bool) → is_member eqb (n ∷ free_pages_of blocks h) m ≡ t → t ≡ false
    no_member m small false e = refl
    no_member m small true e = absurd (omega (arith, small, (member_case m e).0))

    within : (q : ℕ) → list_any (eqb q) (0 ∷ (1 ∷ (2 ∷ (n ∷ free_pages_of blocks h)))) ≡ true → q < h.next
    within q member = ⊎_elim
        (λ (small : q < 3). omega (arith, small, low, l.below))
        (λ (high : 3 ≤ q).
        let e0 = eq_other q 0 (λ e. absurd (omega (arith, e, high))) in
        let e1 = eq_other q 1 (λ e. absurd (omega (arith, e, high))) in
        let e2 = eq_other q 2 (λ e. absurd (omega (arith, e, high))) in
        let rest : is_member eqb (n ∷ free_pages_of blocks h) q ≡ true
        = sym (ap (λ (t : Bool). t || is_member eqb (n ∷ free_pages_of blocks h) q) e2)
        ∙ sym (ap (λ (t : Bool). t || is_member eqb (2 ∷ (n ∷ free_pages_of blocks h)) q) e1)
        ∙ sym (ap (λ (t : Bool). t || is_member eqb (1 ∷ (2 ∷ (n ∷ free_pages_of blocks h))) q) e0)
        ∙ member in
        (member_case q rest).1)
        (cases_lt q 3)

-- of no free pages
pub new_free : (blocks : Blocks) → HasFreeChain blocks new_header
new_free blocks = refl

-- no page below 3 is free, whatever the chain is
low_case : (t : Bool) (n k : ℕ) (rest : List ℕ) → (t ≡ false → ¬ (k ≡ n)) → is_member eqb rest k ≡ false
    → is_member eqb (cond t [] (n ∷ rest)) k ≡ false
low_case true n k rest apart none = refl
low_case false n k rest apart none = ap (λ (t : Bool). t || is_member eqb rest k) (eq_other k n (apart refl))
    ∙ none

low_is_not_free : (blocks : Blocks) (count n k : ℕ) → k < 3 → is_member eqb (chain blocks count n) k ≡ false
low_is_not_free blocks zero n k low = refl
low_is_not_free blocks (suc count) n k low =
    low_case (nat_lt n 3) n k (chain blocks count (link_of (block_at n blocks)))
    (λ high same. let t : nat_lt n 3 ≡ false = high in absurd (grind (arith, nat_tests)))
    (low_is_not_free blocks count (link_of (block_at n blocks)) k low)

-- so the catalog is live
pub catalog_lives : (blocks : Blocks) (h : Header) → is_sound h ≡ true → IsSome (page_of blocks h 2)
catalog_lives blocks h sound =
    lives_some blocks h 2
    (record {
      low = omega arith;
      below = grind (arith, nat_tests);
      not_free = low_is_not_free blocks h.count h.first 2 (omega arith);
    })
