-- A node has one page: what a page spells fixes each byte that it names, and the others are zero.
use Rattle.std.proofs.Common.{◌≡◌, ◌⊎◌, ℕ, ◌<◌, ◌≤◌, true, false, eqb, None, Some, List, length, subst, sym}
use Rattle.std.proofs.Common.{◌∙◌, ap, arith, inl, inr, ⊎_elim}
use Rattle.std.proofs.lemmas.Bool.{cases_eq, cases_lt}
use Rattle.std.proofs.lemmas.Bool.Decides.{nat_tests}
use Rattle.block_bytes.specs.FormLaws.{has_one_page}
use Rattle.block_bytes.specs.Numbers.{number_at, AreBytes}
use Rattle.block_bytes.specs.Laws.{number_at-fixes}
use Rattle.box_bytes.specs.Laws.{corner_at-fixes}
use Rattle.tree_node.specs.Nodes.{Item, NodeContent}
use Rattle.node_bytes.specs.Layout.{low_place, high_place, reference_place, tag_place, has_tags, tag_at}
use Rattle.node_bytes.specs.Layout.{item_at, IsOfEntry, Spells, IsNamed, names, node_of_kind}
use Rattle.node_bytes.specs.PageLaws.{NodesHaveOnePage}
use Rattle.node_bytes.proofs.Places.{tag_there, tags_same}
use Rattle.node_bytes.proofs.Reading.{size_of, item_of_node, spells}
use Rattle.node_bytes.proofs.Writing.{nothing}

-- ---- an entry fixes its bytes

pub item_bytes : (dims place : ℕ) (a b : List ℕ) → AreBytes a → AreBytes b → has_tags a ≡ has_tags b
    → item_at dims a place ≡ item_at dims b place → (k : ℕ) → IsOfEntry dims (has_tags a) place k
    → number_at 1 k a ≡ number_at 1 k b
unfolding item_at
item_bytes dims place a b ba bb tags e k (inl of) =
    corner_at-fixes dims (low_place place) 800 a b ba bb (ap (λ (item : Item). item.bounds.low) e) k of
item_bytes dims place a b ba bb tags e k (inr (inl of)) =
    corner_at-fixes dims (high_place place) 800 a b ba bb (ap (λ (item : Item). item.bounds.high) e) k of
item_bytes dims place a b ba bb tags e k (inr (inr (inl of))) =
    number_at-fixes 8 (reference_place dims place) a b ba bb (ap (λ (item : Item). item.reference) e) k of.0
    of.1
item_bytes dims place a b ba bb tags e k (inr (inr (inr of))) =
    let same : tag_at dims a place ≡ tag_at dims b place = ap (λ (item : Item). item.tag) e in
    number_at-fixes 4 (tag_place dims place) a b ba bb
    (sym (tag_there dims place a of.0) ∙ same ∙ tag_there dims place b (sym tags ∙ of.0)) k of.1 of.2

-- ---- a node fixes its page

head_bytes : (dims : ℕ) (a b : List ℕ) (c : NodeContent) → number_at 1 0 a ≡ number_at 1 0 b → AreBytes a
    → AreBytes b → Spells dims a c → Spells dims b c → (k : ℕ) → k < 5 → number_at 1 k a ≡ number_at 1 k b
head_bytes dims a b c kind ba bb sa sb k lt =
    ⊎_elim (λ (h : k < 1). number_at-fixes 1 0 a b ba bb kind k (omega arith) h)
    (λ (h : 1 ≤ k). ⊎_elim
    (λ (l : k < 2). number_at-fixes 1 1 a b ba bb (sa.head.dims_is ∙ sym sb.head.dims_is) k h l)
    (λ (l : 2 ≤ k). ⊎_elim
    (λ (m : k < 4). number_at-fixes 2 2 a b ba bb (size_of dims a c sa ∙ sym (size_of dims b c sb)) k l m)
    (λ (m : 4 ≤ k). number_at-fixes 1 4 a b ba bb (sa.head.level_is ∙ sym sb.head.level_is) k m lt)
    (cases_lt k 4)) (cases_lt k 2)) (cases_lt k 1)

tags_are : (dims : ℕ) (a b : List ℕ) (c : NodeContent) → number_at 1 0 a ≡ number_at 1 0 b → Spells dims a c
    → Spells dims b c → has_tags a ≡ has_tags b
tags_are dims a b c kind sa sb = tags_same a b kind (sa.head.level_is ∙ sym sb.head.level_is)

named_bytes : (dims : ℕ) (a b : List ℕ) (c : NodeContent) → number_at 1 0 a ≡ number_at 1 0 b → AreBytes a
    → AreBytes b → Spells dims a c → Spells dims b c → (k : ℕ) → names dims a k
    → number_at 1 k a ≡ number_at 1 k b
named_bytes dims a b c kind ba bb sa sb k (inl lt) = head_bytes dims a b c kind ba bb sa sb k lt
named_bytes dims a b c kind ba bb sa sb k (inr of) =
    let within : of.0 < length c.entries = omega (arith, of.1, size_of dims a c sa) in
    item_bytes dims of.0 a b ba bb (tags_are dims a b c kind sa sb)
    (sym (item_of_node dims a c of.0 nothing sa within) ∙ item_of_node dims b c of.0 nothing sb within) k
    of.2

-- a page of the kind spells what it is read as
pub of_kind : (kind dims : ℕ) (page : List ℕ) (c : NodeContent) → node_of_kind kind dims page ≡ Some c
    → (number_at 1 0 page ≡ kind) × Spells dims page c
of_kind kind dims page c is = case (cases_eq (number_at 1 0 page) kind)
  where
    case : (number_at 1 0 page ≡ kind) ⊎ (¬ (number_at 1 0 page ≡ kind))
        → (number_at 1 0 page ≡ kind) × Spells dims page c
    case (inl same) = let test : eqb (number_at 1 0 page) kind ≡ true = grind (arith, nat_tests) in
        (same, spells dims page c (rw test at is))
    case (inr other) = let test : eqb (number_at 1 0 page) kind ≡ false = grind (arith, nat_tests) in
        let never : None ≡ Some c = rw test at is in absurd (cc)

pub one_page : NodesHaveOnePage
one_page kind dims = has_one_page (node_of_kind kind dims) (names dims)
    (λ a b c ba bb ia ib.
    let sa = of_kind kind dims a c ia in
    let sb = of_kind kind dims b c ib in
    named_bytes dims a b c (sa.0 ∙ sym sb.0) ba bb sa.1 sb.1)
    (λ a b c ia ib k of.
    let sa = of_kind kind dims a c ia in
    let sb = of_kind kind dims b c ib in
    subst (λ n. IsNamed dims (has_tags a) n k) (size_of dims b c sb.1 ∙ sym (size_of dims a c sa.1))
    (subst (λ t. IsNamed dims t (number_at 2 2 b) k)
    (sym (tags_are dims a b c (sa.0 ∙ sym sb.0) sa.1 sb.1)) of))
