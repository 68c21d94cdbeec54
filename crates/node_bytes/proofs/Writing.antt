-- The entries of a node, written one after the other.
use Rattle.std.proofs.Common.{◌≡◌, ℕ, ◌+◌, ◌*◌, ◌^◌, ◌<◌, ◌≤◌, ◌==◌, Bool, false, List, [], length, get_or}
use Rattle.std.proofs.Common.{sym, ◌∙◌, subst, arith, below_more, inl, inr, ⊎_elim}
use Rattle.std.proofs.lemmas.Bool.Decides.{nat_tests}
use Rattle.block_bytes.specs.Numbers.{number_at, IsApart}
use Rattle.block_bytes.specs.PlaceLaws.{first_places-are}
use Rattle.box_math.specs.Bounds.{IsBox, IsDims, IsOrdered}
use Rattle.box_bytes.specs.Corners.{Keeps}
use Rattle.tree_node.specs.Nodes.{Item}
use Rattle.node_bytes.specs.Layout.{low_place, high_place, reference_place, tag_place, has_tags, item_at}
use Rattle.node_bytes.specs.Layout.{IsOfLevel, IsSpellable, IsClearOfEntry, IsHead, Spells, IsNamed}
use Rattle.node_bytes.proofs.Places.{head_clear, le_or_lt, item_stays, tags_of_kind}

-- a byte that is not among n bytes is apart from them
outside : (n at k : ℕ) → ((at ≤ k) × (k < at + n) → ⊥) → IsApart 1 k n at
outside n at k h =
    ⊎_elim (λ (le : at + n ≤ k). inr le)
    (λ (lt : k < at + n). ⊎_elim (λ (le : at ≤ k). absurd (h (le, lt)))
    (λ (below : k < at). inl (omega arith)) (le_or_lt at k)) (le_or_lt (at + n) k)

-- a byte that is not named is after the head, and outside each entry
pub unnamed_behind : (dims : ℕ) (tagged : Bool) (count k : ℕ) → (IsNamed dims tagged count k → ⊥) → 5 ≤ k
unnamed_behind dims tagged count k unnamed =
    ⊎_elim (λ (le : 5 ≤ k). le) (λ (lt : k < 5). absurd (unnamed (inl lt))) (le_or_lt 5 k)

pub unnamed_outside : (dims : ℕ) (tagged : Bool) (count place k : ℕ) → place < count
    → (IsNamed dims tagged count k → ⊥) → IsClearOfEntry dims tagged place 1 k
unnamed_outside dims tagged count place k lt unnamed = record {
  bounds = record {
    lows = λ a h. outside 4 (low_place place + 800 * a) k
        (λ among. unnamed (inr (place, lt, inl (a, h, among.0, among.1))));
    highs = λ a h. outside 4 (high_place place + 800 * a) k
        (λ among. unnamed (inr (place, lt, inr (inl (a, h, among.0, among.1)))));
  };
  reference =
      outside 8 (reference_place dims place) k (λ among. unnamed (inr (place, lt, inr (inr (inl among)))));
  tag = λ has. outside 4 (tag_place dims place) k
      (λ among. unnamed (inr (place, lt, inr (inr (inr (has, among.0, among.1))))));
}

pub named_more : (dims : ℕ) (tagged : Bool) (count k : ℕ) → IsNamed dims tagged count k
    → IsNamed dims tagged (count + 1) k
named_more dims tagged count k (inl h) = inl h
named_more dims tagged count k (inr h) = let lt = h.1 in inr (h.0, omega arith, h.2)

-- any entry
pub nothing : Item
nothing = record { bounds = record { low = []; high = [] }; reference = 0; tag = 0 }

-- a page in which the head and the first entries are written, and nothing else
pub record Written (dims level : ℕ) (items : List Item) (place : ℕ) (page : List ℕ) : Type 0 where
  pub size : length page ≡ 4096
  pub head : IsHead dims level (length items) page
  pub each : (k : ℕ) → k < place → (other : Item) → get_or items k other ≡ item_at dims page k
  pub ordered : (k : ℕ) → k < place
      → IsOrdered dims (item_at dims page k).bounds.low (item_at dims page k).bounds.high
  pub rest : (k : ℕ) → (IsNamed dims (level == 0) place k → ⊥) → number_at 1 k page ≡ 0

-- it has tags where it is a leaf
pub written_tags : (dims level : ℕ) (items : List Item) (place : ℕ) (page : List ℕ)
    → Written dims level items place page → (level == 0) ≡ has_tags page
written_tags dims level items place page w = sym (tags_of_kind page level w.head.head.kind_is w.head.level_is)

-- an entry of a node above the leaves has no tag
pub untagged_above : (level reference tag : ℕ) → IsOfLevel level reference tag → (level == 0) ≡ false
    → tag ≡ 0
untagged_above level reference tag of above = (of (grind (arith, nat_tests, above))).2

pub written_first : (dims level : ℕ) (items : List Item) (page : List ℕ) → length page ≡ 4096
    → IsHead dims level (length items) page → ((k : ℕ) → 5 ≤ k → number_at 1 k page ≡ 0)
    → Written dims level items 0 page
written_first dims level items page size head none = record {
  size = size;
  head = head;
  each = λ k lt other. absurd (omega arith);
  ordered = λ k lt. absurd (omega arith);
  rest = λ k unnamed. none k (unnamed_behind dims (level == 0) 0 k unnamed);
}

pub written_more : (dims level : ℕ) (items : List Item) (place : ℕ) (old new : List ℕ) (item : Item)
    → Written dims level items place old → place < 100 → length new ≡ 4096
    → item_at dims new place ≡ item → IsBox dims item.bounds
    → ((other : Item) → get_or items place other ≡ item)
    → Keeps (IsClearOfEntry dims (level == 0) place) old new → Written dims level items (place + 1) new
written_more dims level items place old new item w within size is box there keeps = record {
  size = size;
  head = record {
    head = record {
      kind_is = keeps 1 0 (head_clear dims (level == 0) place 1 0 (omega arith)) ∙ w.head.head.kind_is;
      dims_is = keeps 1 1 (head_clear dims (level == 0) place 1 1 (omega arith)) ∙ w.head.head.dims_is;
      count_is = keeps 2 2 (head_clear dims (level == 0) place 2 2 (omega arith)) ∙ w.head.head.count_is;
    };
    level_is = keeps 1 4 (head_clear dims (level == 0) place 1 4 (omega arith)) ∙ w.head.level_is;
  };
  each = below_more (λ k. (other : Item) → get_or items k other ≡ item_at dims new k) place
      (λ k lt other. w.each k lt other ∙ sym (item_stays dims (level == 0) place k old new lt within keeps))
      (λ other. there other ∙ sym is);
  ordered =
      below_more (λ k. IsOrdered dims (item_at dims new k).bounds.low (item_at dims new k).bounds.high) place
      (λ k lt. subst (λ (x : Item). IsOrdered dims x.bounds.low x.bounds.high)
      (sym (item_stays dims (level == 0) place k old new lt within keeps)) (w.ordered k lt))
      (subst (λ (x : Item). IsOrdered dims x.bounds.low x.bounds.high) (sym is)
      (λ axis lt. (box.spans axis lt).ordered));
  rest = λ k unnamed. keeps 1 k (unnamed_outside dims (level == 0) (place + 1) place k (omega arith) unnamed)
      ∙ w.rest k (λ named. unnamed (named_more dims (level == 0) place k named));
}

pub written_spells : (dims level : ℕ) (items : List Item) (place : ℕ) (page : List ℕ)
    → IsDims dims → Written dims level items place page → length items ≤ place
    → IsSpellable (record { level = level; entries = items })
    → Spells dims page (record { level = level; entries = items })
written_spells dims level items place page axes w all s =
    let count : number_at 2 2 page ≡ length items = w.head.head.count_is in
    let few = s.few in
    record {
      head = record {
        axes = axes;
        kind = inl w.head.head.kind_is;
        dims_is = w.head.head.dims_is;
        level_is = w.head.level_is;
        few = omega arith;
        some = λ above. let some = s.some above in
            omega arith;
      };
      each = λ k lt. record {
        ordered = w.ordered k (omega arith);
        refers = λ above. let of = s.refers k nothing (omega arith) above in
            subst (λ (x : Item). (3 ≤ x.reference) × (x.reference < 2 ^ 31)) (w.each k (omega arith) nothing)
            (of.0, of.1);
      };
      entries =
          first_places-are (item_at dims page) (number_at 2 2 page) items nothing (sym count)
          (λ k lt. w.each k (omega arith) nothing);
    }

-- what is written in all places, of which none is left
pub written_rest : (dims level : ℕ) (items : List Item) (place : ℕ) (page : List ℕ)
    → Written dims level items place page → place ≤ length items
    → (k : ℕ) → (IsNamed dims (level == 0) (length items) k → ⊥) → number_at 1 k page ≡ 0
written_rest dims level items place page w few k unnamed = w.rest k (λ named. unnamed (named_upto named))
  where
    named_upto : IsNamed dims (level == 0) place k → IsNamed dims (level == 0) (length items) k
    named_upto (inl h) = inl h
    named_upto (inr h) = let lt = h.1 in inr (h.0, omega arith, h.2)
