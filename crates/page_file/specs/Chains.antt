-- Chains of free pages: what is in one, when it stays, and that no page is in it twice.
use Rattle.std.proofs.Common.{◌≡◌, ◌∙◌, ℕ, zero, suc, ◌<◌, ◌≤◌, Bool, true, false, ◌||◌, nat_lt, eqb, List}
use Rattle.std.proofs.Common.{[], ◌∷◌, length, refl, sym, ap, arith, ⊎_elim, subst, cond}
use Rattle.std.specs.List.{IsDistinct, AllByRecursion}
use Rattle.std.specs.Set.{is_member}
use Rattle.std.proofs.lemmas.Bool.Decides.{nat_tests}
use Rattle.std.proofs.lemmas.Bool.{cases_eq, false_from_ne_true}
use Rattle.std.proofs.lemmas.Map.Keys.{IsDistinct-cons}
use Rattle.block_device.specs.Device.{Blocks, block_at}
use Rattle.page_file.specs.Layout.{kind_of, link_of}
use Rattle.page_file.specs.Pages.{chain, IsChain}

or_left : (a b : Bool) → a ≡ true → (a || b) ≡ true
or_left a b e = ap (λ (t : Bool). t || b) e

or_right : (a b : Bool) → b ≡ true → (a || b) ≡ true
or_right true b e = refl
or_right false b e = e

or_false : (a b : Bool) → (a || b) ≡ false → (a ≡ false) × (b ≡ false)
or_false true b e = absurd (cc)
or_false false b e = (refl, e)

pub eq_self : (n : ℕ) → eqb n n ≡ true
eq_self n = grind (arith, nat_tests)

pub eq_other : (k n : ℕ) → ¬ (k ≡ n) → eqb k n ≡ false
eq_other k n ne = grind (arith, nat_tests)

low_not : (n : ℕ) → 3 ≤ n → nat_lt n 3 ≡ false
low_not n low = grind (arith, nat_tests)

not_low : (n : ℕ) → nat_lt n 3 ≡ false → 3 ≤ n
not_low n e = grind (arith, nat_tests)

-- a free page is in front of those that it leads to
pub chain_opened : (blocks : Blocks) (count first : ℕ) → 3 ≤ first
    → chain blocks (suc count) first ≡ first ∷ chain blocks count (link_of (block_at first blocks))
chain_opened blocks count first low =
    ap (λ (t : Bool). cond t [] (first ∷ chain blocks count (link_of (block_at first blocks))))
    (low_not first low)

-- the free pages are the same, where those blocks are
pub chain_same : (old new : Blocks) (count first : ℕ)
    → ((k : ℕ) → 3 ≤ k → is_member eqb (chain old count first) k ≡ true → block_at k new ≡ block_at k old)
    → chain new count first ≡ chain old count first
chain_same old new zero first same = refl
chain_same old new (suc count) first same =
    case (nat_lt first 3) refl (λ within. chain_same old new count (link_of (block_at first old)) within)
  where
    case : (t : Bool) → nat_lt first 3 ≡ t
        → (((k : ℕ) → 3 ≤ k → is_member eqb (chain old count (link_of (block_at first old))) k ≡ true
        → block_at k new ≡ block_at k old)
        → chain new count (link_of (block_at first old)) ≡ chain old count (link_of (block_at first old)))
        → chain new (suc count) first ≡ chain old (suc count) first
    case true e again =
        ap (λ (t : Bool). cond t [] (first ∷ chain new count (link_of (block_at first new)))) e
        ∙ sym (ap (λ (t : Bool). cond t [] (first ∷ chain old count (link_of (block_at first old)))) e)
    case false e again =
        let rest_old = chain old count (link_of (block_at first old)) in
        let opened : chain old (suc count) first ≡ first ∷ rest_old
        = chain_opened old count first (not_low first e) in
        let within : (k : ℕ) → 3 ≤ k → is_member eqb (first ∷ rest_old) k ≡ true
        → block_at k new ≡ block_at k old
        = λ k low member. same k low (ap (λ (l : List ℕ). is_member eqb l k) opened ∙ member) in
        let head : block_at first new ≡ block_at first old
        = within first (not_low first e) (or_left (eqb first first) _ (eq_self first)) in
        ap (λ (t : Bool). cond t [] (first ∷ chain new count (link_of (block_at first new)))) e
        ∙ ap (λ (b : List ℕ). first ∷ chain new count (link_of b)) head
        ∙ ap (λ (l : List ℕ). first ∷ l)
        (again (λ k low member. within k low (or_right (eqb k first) _ member)))
        ∙ sym opened

pub whole_same : (old new : Blocks) (next count first : ℕ) → IsChain old next count first
    → ((k : ℕ) → 3 ≤ k → is_member eqb (chain old count first) k ≡ true → block_at k new ≡ block_at k old)
    → IsChain new next count first
whole_same old new next zero first whole same = whole
whole_same old new next (suc count) first whole same =
    let rest_old = chain old count (link_of (block_at first old)) in
    let opened : chain old (suc count) first ≡ first ∷ rest_old = chain_opened old count first whole.0 in
    let within : (k : ℕ) → 3 ≤ k → is_member eqb (first ∷ rest_old) k ≡ true → block_at k new ≡ block_at k old
    = λ k low member. same k low (ap (λ (l : List ℕ). is_member eqb l k) opened ∙ member) in
    let head : block_at first new ≡ block_at first old
    = within first whole.0 (or_left (eqb first first) _ (eq_self first)) in
    let second = link_of (block_at first old) in
    let rest : IsChain new next count second
    = whole_same old new next count second whole.3
    (λ k low member. within k low (or_right (eqb k first) _ member)) in
    let linked = subst (λ (b : List ℕ). IsChain new next count (link_of b)) (sym head) rest in
    (whole.0, whole.1, ap kind_of head ∙ whole.2, linked)

-- each page of a chain begins one, of at most as many pages
pub chain_from : (blocks : Blocks) (next count first : ℕ) → IsChain blocks next count first → (k : ℕ)
    → is_member eqb (chain blocks count first) k ≡ true
    → (rest : ℕ) × (rest < count) × IsChain blocks next (suc rest) k
chain_from blocks next zero first whole k member = absurd (cc)
chain_from blocks next (suc count) first whole k member =
    let rest = chain blocks count (link_of (block_at first blocks)) in
    ⊎_elim
    (λ (e : k ≡ first).
    (count, omega arith, subst (λ (n : ℕ). IsChain blocks next (suc count) n) (sym e) whole))
    (λ (ne : ¬ (k ≡ first)).
    let later : is_member eqb rest k ≡ true
    = sym (ap (λ (t : Bool). t || is_member eqb rest k) (eq_other k first ne))
    ∙ sym (ap (λ (l : List ℕ). is_member eqb l k) (chain_opened blocks count first whole.0)) ∙ member in
    let from = chain_from blocks next count (link_of (block_at first blocks)) whole.3 k later in
    (from.0, omega (arith, from.1), from.2))
    (cases_eq k first)

-- each free page is one given out after the catalog
pub chain_within : (blocks : Blocks) (next count first : ℕ) → IsChain blocks next count first → (k : ℕ)
    → is_member eqb (chain blocks count first) k ≡ true → (3 ≤ k) × (k < next)
chain_within blocks next count first whole k member =
    let from = chain_from blocks next count first whole k member in (from.2.0, from.2.1)

pub chain_count : (blocks : Blocks) (next count first : ℕ) → IsChain blocks next count first
    → length (chain blocks count first) ≡ count
chain_count blocks next zero first whole = refl
chain_count blocks next (suc count) first whole =
    ap length (chain_opened blocks count first whole.0)
    ∙ ap suc (chain_count blocks next count (link_of (block_at first blocks)) whole.3)

-- chains that begin at one page have as many pages, since each page names one next page
one_count : (blocks : Blocks) (next a b first : ℕ) → IsChain blocks next a first
    → IsChain blocks next b first → a ≡ b
one_count blocks next zero zero first p q = refl
one_count blocks next zero (suc b) first p q = absurd (omega (arith, p, q.0))
one_count blocks next (suc a) zero first p q = absurd (omega (arith, q, p.0))
one_count blocks next (suc a) (suc b) first p q =
    ap suc (one_count blocks next a b (link_of (block_at first blocks)) p.3 q.3)

-- numbers in a list without n are not n
pub apart_all : (n : ℕ) (ns : List ℕ) → is_member eqb ns n ≡ false
    → AllByRecursion (λ (y : ℕ). eqb n y ≡ false) ns
apart_all n [] e = tt
apart_all n (m ∷ ns) e = let p = or_false (eqb n m) (is_member eqb ns n) e in (p.0, apart_all n ns p.1)

none_distinct : IsDistinct eqb []
unfolding IsDistinct
none_distinct = tt

-- after the first page it does not come again: it would begin both the whole chain and one of fewer pages
pub comes_once : (blocks : Blocks) (next count first : ℕ) → IsChain blocks next (suc count) first
    → is_member eqb (chain blocks count (link_of (block_at first blocks))) first ≡ true → ⊥
comes_once blocks next count first whole member =
    let from = chain_from blocks next count (link_of (block_at first blocks)) whole.3 first member in
    omega (arith, from.1, one_count blocks next (suc from.0) (suc count) first from.2 whole)

-- no page is in a chain twice
pub a_chain_is_distinct : (blocks : Blocks) (next count n : ℕ) → IsChain blocks next count n
    → IsDistinct eqb (chain blocks count n)
a_chain_is_distinct blocks next zero n whole = none_distinct
a_chain_is_distinct blocks next (suc count) n whole =
    let second = link_of (block_at n blocks) in
    let rest = chain blocks count second in
    let apart =
    apart_all n rest (false_from_ne_true (is_member eqb rest n) (comes_once blocks next count n whole)) in
    subst (λ (l : List ℕ). IsDistinct eqb l) (sym (chain_opened blocks count n whole.0))
    (IsDistinct-cons eqb n rest apart (a_chain_is_distinct blocks next count second whole.3))
