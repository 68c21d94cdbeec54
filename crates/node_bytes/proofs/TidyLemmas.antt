-- Pages with zeros in all bytes that they do not name: written whole, changed in place, and read again.
use Rattle.std.proofs.Common.{◌≡◌, ◌∙◌, ℕ, zero, suc, ◌+◌, ◌-◌, ◌*◌, ◌<◌, ◌≤◌, ◌==◌, Bool, true, false, Some}
use Rattle.std.proofs.Common.{List, length, get_or, drop, ap, arith, inl, inr, refl, subst, sym, ⊎_elim}
use Rattle.std.specs.Prelude.{IsSomeAnd, Option}
use Rattle.std.proofs.lemmas.Bool.{cases_lt}
use Rattle.std.proofs.lemmas.Bool.Decides.{nat_tests}
use Rattle.std.proofs.lemmas.List.{ext_get_or, get_or-drop}
use Rattle.block_bytes.specs.Kinds.{node_kind, untagged_node_kind}
use Rattle.block_bytes.specs.Laws.{byte_at, number_at-put, number_at-put_other}
use Rattle.block_bytes.specs.Numbers.{AreBytes, number_at, put_number}
use Rattle.box_bytes.specs.Corners.{Keeps}
use Rattle.box_math.specs.Bounds.{IsDims}
use Rattle.tree_node.specs.Nodes.{Item, NodeContent}
use Rattle.node_bytes.specs.Layout.{IsClearOfEntry, IsNamed, IsOfEntry, IsPageOfNode, IsSpellable, IsTidy}
use Rattle.node_bytes.specs.Layout.{has_tags, node_at, node_of_kind}
use Rattle.node_bytes.proofs.OnePage.{of_kind, one_page}
use Rattle.node_bytes.proofs.Places.{has_none, tags_same, tags_stay}
use Rattle.node_bytes.proofs.Reading.{spelled}
use Rattle.node_bytes.proofs.Writing.{Written, named_more, unnamed_behind, unnamed_outside, written_rest}
use Rattle.node_bytes.proofs.Writing.{written_spells, written_tags}

-- a page of the kind with tags is read as any is
kind_read : (dims : ℕ) (page : List ℕ) → number_at 1 0 page ≡ node_kind
    → node_of_kind node_kind dims page ≡ node_at dims page
kind_read dims page kind =
    let test : (number_at 1 0 page == node_kind) ≡ true = grind (arith, nat_tests) in rw test refl

-- the page is the one that is written of what it spells, where it is tidy
pub page_of_node : (dims : ℕ) (page : List ℕ) (c : NodeContent) → node_at dims page ≡ Some c
    → number_at 1 0 page ≡ node_kind → IsTidy dims page → IsPageOfNode dims page c
page_of_node dims page c is kind tidy = record { spelled = kind_read dims page kind ∙ is; rest = tidy }

-- the bytes that were left at a page spell a node, and are its page where they were tidy before
pub record Left (dims : ℕ) (new : Option (List ℕ)) (was : List ℕ) (c : NodeContent) : Type 0 where
  pub now : List ℕ
  pub there : new ≡ Some now
  pub spelled : node_at dims now ≡ Some c
  pub is_page : IsTidy dims was → IsPageOfNode dims now c

-- and it is at a page that has these bytes
pub at_page : (dims : ℕ) (page : Option (List ℕ)) (bytes : List ℕ) (c : NodeContent) → page ≡ Some bytes
    → IsPageOfNode dims bytes c → IsSomeAnd page (λ bytes. IsPageOfNode dims bytes c)
at_page dims page bytes c there is =
    subst (λ (o : Option (List ℕ)). IsSomeAnd o (λ bytes. IsPageOfNode dims bytes c)) (sym there) is

pub named_as : (dims : ℕ) (t u : Bool) (n m k : ℕ) → t ≡ u → n ≡ m → IsNamed dims t n k → IsNamed dims u m k
named_as dims t u n m k tags count named =
    subst (λ b. IsNamed dims b m k) tags (subst (λ i. IsNamed dims t i k) count named)

-- a page is tidy, if it is so by its tags and its count
pub tidy_by : (dims : ℕ) (tagged : Bool) (count : ℕ) (page : List ℕ) → has_tags page ≡ tagged
    → number_at 2 2 page ≡ count
    → ((k : ℕ) → (IsNamed dims tagged count k → ⊥) → number_at 1 k page ≡ 0) → IsTidy dims page
tidy_by dims tagged count page tags size rest k unnamed =
    rest k (λ named. unnamed
    (named_as dims tagged (has_tags page) count (number_at 2 2 page) k (sym tags) (sym size) named))

-- ---- a page written whole

pub written_page : (dims level : ℕ) (items : List Item) (place : ℕ) (page : List ℕ) → IsDims dims
    → Written dims level items place page → place ≡ length items
    → IsSpellable (record { level = level; entries = items })
    → IsPageOfNode dims page (record { level = level; entries = items })
written_page dims level items place page axes w all spellable =
    page_of_node dims page (record { level = level; entries = items })
    (spelled dims page (record { level = level; entries = items })
    (written_spells dims level items place page axes w (omega arith) spellable))
    w.head.head.kind_is
    (tidy_by dims (level == 0) (length items) page (sym (written_tags dims level items place page w))
    w.head.head.count_is (written_rest dims level items place page w (omega arith)))

-- ---- a page changed in place

-- the entry is named with those before it, and behind them nothing is
pub tidy_pushed : (dims : ℕ) (tagged : Bool) (count : ℕ) (old mid : List ℕ) → tagged ≡ has_tags old
    → count ≡ number_at 2 2 old → length mid ≡ 4096 → count < 100
    → Keeps (IsClearOfEntry dims tagged count) old mid → IsTidy dims old
    → IsTidy dims (put_number 2 2 (count + 1) mid)
tidy_pushed dims tagged count old mid tags count_is size few keeps tidy =
    let new = put_number 2 2 (count + 1) mid in
    let tags_are : has_tags new ≡ tagged =
    tags_same new mid (number_at-put_other 1 0 2 2 (count + 1) mid (omega (arith, size)) (inl (omega arith)))
    (number_at-put_other 1 4 2 2 (count + 1) mid (omega (arith, size)) (inr (omega arith)))
    ∙ tags_stay dims tagged count old mid keeps ∙ sym tags in
    tidy_by dims tagged (count + 1) new tags_are
    (number_at-put 2 2 (count + 1) mid (omega (arith, size)) (omega (arith, few)))
    (λ k unnamed. number_at-put_other 1 k 2 2 (count + 1) mid (omega (arith, size))
    (inr (omega (arith, unnamed_behind dims tagged (count + 1) k unnamed)))
    ∙ keeps 1 k (unnamed_outside dims tagged (count + 1) count k (omega arith) unnamed)
    ∙ tidy k (λ named. unnamed (named_more dims tagged count k
    (named_as dims (has_tags old) tagged (number_at 2 2 old) count k (sym tags) (sym count_is) named))))

entry_with_tags : (dims : ℕ) (tagged : Bool) (place k : ℕ) → IsOfEntry dims false place k
    → IsOfEntry dims tagged place k
entry_with_tags dims tagged place k (inl of) = inl of
entry_with_tags dims tagged place k (inr (inl of)) = inr (inl of)
entry_with_tags dims tagged place k (inr (inr (inl of))) = inr (inr (inl of))
entry_with_tags dims tagged place k (inr (inr (inr of))) = let never = of.0 in absurd (cc)

named_with_tags : (dims : ℕ) (tagged : Bool) (count k : ℕ) → IsNamed dims false count k
    → IsNamed dims tagged count k
named_with_tags dims tagged count k (inl h) = inl h
named_with_tags dims tagged count k (inr h) = inr (h.0, h.1, entry_with_tags dims tagged h.0 k h.2)

-- with tags a page names no byte less
pub tidy_tagged : (dims : ℕ) (old mid : List ℕ) → length mid ≡ 4096
    → number_at 1 0 old ≡ untagged_node_kind
    → number_at 2 2 (put_number 1 0 node_kind mid) ≡ number_at 2 2 old
    → ((k : ℕ) → number_at 1 k old ≡ 0 → number_at 1 k mid ≡ 0) → IsTidy dims old
    → IsTidy dims (put_number 1 0 node_kind mid)
tidy_tagged dims old mid size kind count zeros tidy k unnamed =
    let new = put_number 1 0 node_kind mid in
    let behind : 5 ≤ k = unnamed_behind dims (has_tags new) (number_at 2 2 new) k unnamed in
    number_at-put_other 1 k 1 0 node_kind mid (omega (arith, size)) (inr (omega (arith, behind)))
    ∙ zeros k (tidy k (λ named. unnamed (named_with_tags dims (has_tags new) (number_at 2 2 new) k
    (named_as dims (has_tags old) false (number_at 2 2 old) (number_at 2 2 new) k (has_none old kind)
    (sym count) named))))

-- the bytes of a zero are zeros
zero_sum : (a b c d : ℕ) → a * 16777216 + (b * 65536 + (c * 256 + (d * 1 + 0))) ≡ 0
    → (a ≡ 0) × (b ≡ 0) × (c ≡ 0) × (d ≡ 0)
zero_sum a b c d none = (omega (arith, none), omega (arith, none), omega (arith, none), omega (arith, none))

zero_bytes : (at k : ℕ) (page : List ℕ) → number_at 4 at page ≡ 0 → k < 4 → get_or (drop at page) k 0 ≡ 0
unfolding number_at
zero_bytes at k page none lt =
    let xs = drop at page in
    one_of k (zero_sum (get_or xs 0 0) (get_or xs 1 0) (get_or xs 2 0) (get_or xs 3 0) none) lt
  where
    one_of : (k : ℕ) → (get_or (drop at page) 0 0 ≡ 0) × (get_or (drop at page) 1 0 ≡ 0)
        × (get_or (drop at page) 2 0 ≡ 0) × (get_or (drop at page) 3 0 ≡ 0) → k < 4
        → get_or (drop at page) k 0 ≡ 0
    one_of zero all lt = all.0
    one_of (suc zero) all lt = all.1
    one_of (suc (suc zero)) all lt = all.2
    one_of (suc (suc (suc zero))) all lt = all.3
    one_of (suc (suc (suc (suc k)))) all lt = absurd (omega (arith, lt))

byte_of_zero : (at k : ℕ) (page : List ℕ) → number_at 4 at page ≡ 0 → at ≤ k → k < at + 4
    → number_at 1 k page ≡ 0
byte_of_zero at k page none le lt =
    let j : ℕ = k - at in
    let there : at + j ≡ k = omega arith in
    sym (byte_at k page) ∙ ap (λ (i : ℕ). get_or page i 0) (sym there) ∙ sym (get_or-drop at page j 0)
    ∙ zero_bytes at j page none (omega (arith, le, lt))

-- where a zero is written, no byte that was zero becomes another
pub zeros_stay : (at k : ℕ) (page : List ℕ) → at + 4 ≤ length page → number_at 1 k page ≡ 0
    → number_at 1 k (put_number 4 at 0 page) ≡ 0
zeros_stay at k page fits zero_there =
    ⊎_elim (λ (before : k < at). number_at-put_other 1 k 4 at 0 page fits (inl (omega arith)) ∙ zero_there)
    (λ (le : at ≤ k). ⊎_elim
    (λ (lt : k < at + 4). byte_of_zero at k (put_number 4 at 0 page)
    (number_at-put 4 at 0 page fits (omega arith)) le lt)
    (λ (behind : at + 4 ≤ k). number_at-put_other 1 k 4 at 0 page fits (inr behind) ∙ zero_there)
    (cases_lt k (at + 4)))
    (cases_lt k at)

-- ---- a page read and written again

-- pages of the node that one of them is decoded as
pub same_page : (dims : ℕ) (a b : List ℕ) (c d : NodeContent) → AreBytes a → AreBytes b
    → length a ≡ length b → node_at dims b ≡ Some c → IsPageOfNode dims a c → IsPageOfNode dims b d → a ≡ b
same_page dims a b c d ba bb size is pa pb =
    let there : IsPageOfNode dims b c = record {
      spelled = kind_read dims b (of_kind node_kind dims b d pb.spelled).0 ∙ is;
      rest = pb.rest;
    } in
    ext_get_or 0 a b size
    (λ k lt. byte_at k a ∙ one_page node_kind dims a b c ba bb pa there k ∙ sym (byte_at k b))
