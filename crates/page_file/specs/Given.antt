-- Pages given out that are live: those that are not of the free pages' kind.
use Rattle.std.proofs.Common.{◌≡◌, ◌∙◌, ℕ, ◌+◌, ◌<◌, ◌≤◌, Bool, true, false, ◌&&◌, eqb, nat_le, nat_lt, List}
use Rattle.std.proofs.Common.{length, Some, None, refl, sym, ap, arith, cond}
use Rattle.std.specs.Set.{is_member}
use Rattle.std.proofs.lemmas.Bool.Decides.{nat_tests}
use Rattle.std.proofs.lemmas.Bool.{false_from_ne_true}
use Rattle.block_device.specs.Device.{Blocks, Torn, block_at}
use Rattle.block_device.specs.Written.{torn_other}
use Rattle.page_file.specs.Layout.{kind_of}
use Rattle.std.specs.Prelude.{is_some}
use Rattle.block_bytes.specs.Kinds.{free_kind}
use Rattle.page_file.specs.Chains.{chain_from}
use Rattle.page_file.specs.Live.{page_live, lives}
use Rattle.page_file.specs.Pages.{free_pages_of, given_pages, page_of, HasFreeChain, SameBut}
use Rattle.page_file.specs.declared.header.Header.{Header}

-- what is known of a page given out
pub record IsGiven (blocks : Blocks) (next n : ℕ) (page : List ℕ) : Type 0 where
  pub low : 2 ≤ n
  pub below : n < next
  pub bytes : page ≡ block_at n blocks

pub given_is : (blocks : Blocks) (next n : ℕ) (page : List ℕ) → given_pages blocks next n ≡ Some page
    → IsGiven blocks next n page
given_is blocks next n page e = case (nat_le 2 n) (nat_lt n next) refl refl e
  where
    case : (a b : Bool) → nat_le 2 n ≡ a → nat_lt n next ≡ b
        → cond (a && b) (Some (block_at n blocks)) None ≡ Some page → IsGiven blocks next n page
    case true true l r e =
        record { low = grind (arith, nat_tests); below = grind (arith, nat_tests); bytes = sym (cc) }
    case true false l r e = absurd (cc)
    case false b l r e = absurd (cc)

pub is_given : (blocks : Blocks) (next n : ℕ) → 2 ≤ n → n < next
    → given_pages blocks next n ≡ Some (block_at n blocks)
is_given blocks next n low below =
    let a : nat_le 2 n ≡ true = grind (arith, nat_tests) in
    let b : nat_lt n next ≡ true = grind (arith, nat_tests) in
    ap (λ (t : Bool). cond (t && nat_lt n next) (Some (block_at n blocks)) None) a
    ∙ ap (λ (t : Bool). cond t (Some (block_at n blocks)) None) b

-- the pages given out are the same, where the blocks from the catalog on are
pub given_same : (old new : Blocks) (next : ℕ) → ((k : ℕ) → 2 ≤ k → block_at k new ≡ block_at k old)
    → (n : ℕ) → given_pages new next n ≡ given_pages old next n
given_same old new next same n = case (nat_le 2 n) (nat_lt n next) refl
  where
    case : (t r : Bool) → nat_le 2 n ≡ t
        → cond (t && r) (Some (block_at n new)) None ≡ cond (t && r) (Some (block_at n old)) None
    case false r e = refl
    case true r e =
        ap (λ (b : List ℕ). cond r (Some b) None) (same n (let low : 2 ≤ n = grind (arith, nat_tests) in low))

-- where a block is torn that was given out, the others are
pub given_torn : (n : ℕ) (old new : Blocks) (next : ℕ) → Torn n old new → n ≤ length old
    → SameBut n (given_pages old next) (given_pages new next)
given_torn n old new next torn le k ne =
    ap (λ (b : List ℕ). cond (nat_le 2 k && nat_lt k next) (Some b) None) (torn_other n k old new torn le ne)

-- where the block after those given out is torn, and its page may be given out, the others are the same
below_more : (k n : ℕ) → ¬ (k ≡ n) → nat_lt k (n + 1) ≡ nat_lt k n
below_more k n ne = grind (arith, nat_tests)

pub given_more : (next : ℕ) (old new : Blocks) → Torn next old new → next ≤ length old
    → SameBut next (given_pages old next) (given_pages new (next + 1))
given_more next old new torn le k ne =
    ap (λ (t : Bool). cond (nat_le 2 k && t) (Some (block_at k new)) None) (below_more k next ne)
    ∙ ap (λ (b : List ℕ). cond (nat_le 2 k && nat_lt k next) (Some b) None)
    (torn_other next k old new torn le ne)

-- a live page was given out
pub live_is_given : (blocks : Blocks) (h : Header) (n : ℕ) (page : List ℕ) → page_of blocks h n ≡ Some page
    → given_pages blocks h.next n ≡ Some page
live_is_given blocks h n page e =
    let l = lives blocks h n (ap is_some e) in
    is_given blocks h.next n l.low l.below ∙ sym (page_live blocks h n l) ∙ e

-- a page given out that is not of their kind is live
pub given_is_live : (blocks : Blocks) (h : Header) (n : ℕ) (page : List ℕ) → HasFreeChain blocks h
    → given_pages blocks h.next n ≡ Some page → ¬ (kind_of page ≡ free_kind) → page_of blocks h n ≡ Some page
given_is_live blocks h n page free e other =
    let g = given_is blocks h.next n page e in
    let apart = false_from_ne_true (is_member eqb (free_pages_of blocks h) n)
    (λ member. other (ap kind_of g.bytes ∙ (chain_from blocks h.next h.count h.first free n member).2.2)) in
    page_live blocks h n (record { low = g.low; below = g.below; not_free = apart }) ∙ ap Some (sym g.bytes)
