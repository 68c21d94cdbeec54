-- The laws of what pages spell: which bytes are read, and what entries are.
use Rattle.std.proofs.Common.{◌≡◌, ℕ, ◌+◌, ◌^◌, ◌<◌, ◌≤◌, Bool, true, false, cond, List, refl, sym, ◌∙◌, ap}
use Rattle.std.proofs.Common.{subst, arith, inl, inr}
use Rattle.block_bytes.specs.FormLaws.{reads_named}
use Rattle.block_bytes.specs.PlaceLaws.{first_places-same}
use Rattle.block_bytes.specs.Numbers.{number_at, AreBytes}
use Rattle.block_bytes.specs.Laws.{number_at-same, number_at-lt}
use Rattle.box_math.specs.Bounds.{IsBox}
use Rattle.box_bytes.specs.Laws.{box_at-is_box}
use Rattle.tree_node.specs.Nodes.{Item, NodeContent}
use Rattle.node_bytes.specs.Layout.{low_place, high_place, reference_place, tag_place, has_tags, tag_at}
use Rattle.node_bytes.specs.Layout.{item_at, items_at, IsEntry, IsNodeKind, Spells, node_at, names, IsNamed}
use Rattle.node_bytes.specs.PageLaws.{ReadsWhatIsSpelled, ReadsNamedBytes, SpellsNodes}
use Rattle.node_bytes.proofs.Places.{item_same, tags_same}
use Rattle.node_bytes.proofs.Reading.{spells, spelled, spellable, size_of, item_of_node}
use Rattle.node_bytes.proofs.Writing.{nothing}

module _ (dims count : ℕ) (a b : List ℕ)
    (same : (k : ℕ) → IsNamed dims (has_tags a) count k → number_at 1 k a ≡ number_at 1 k b) where
  head_same : (n at : ℕ) → at + n ≤ 5 → number_at n at a ≡ number_at n at b
  head_same n at h = number_at-same n at a b (λ k le lt. same k (inl (omega arith)))

  has_same : has_tags a ≡ has_tags b
  has_same = tags_same a b (head_same 1 0 (omega arith)) (head_same 1 4 (omega arith))

  one_same : (place : ℕ) → place < count → item_at dims a place ≡ item_at dims b place
  one_same place lt = item_same dims place a b has_same (λ k of. same k (inr (place, lt, of)))

  spells_same : (c : NodeContent) → count ≡ number_at 2 2 a → Spells dims a c → Spells dims b c
  spells_same c is s =
      let count_same : number_at 2 2 a ≡ number_at 2 2 b = head_same 2 2 (omega arith) in
      let few = s.head.few in
      record {
        head = record {
          axes = s.head.axes;
          kind = subst IsNodeKind (head_same 1 0 (omega arith)) s.head.kind;
          dims_is = sym (head_same 1 1 (omega arith)) ∙ s.head.dims_is;
          level_is = sym (head_same 1 4 (omega arith)) ∙ s.head.level_is;
          few = omega arith;
          some = λ above. let some = s.head.some above in omega arith;
        };
        each = λ place lt. subst (IsEntry dims c.level) (one_same place (omega arith))
            (s.each place (omega arith));
        entries = s.entries ∙ ap (items_at dims a) (sym is)
            ∙ first_places-same (item_at dims a) (item_at dims b) count nothing one_same
            ∙ ap (items_at dims b) (is ∙ count_same);
      }

pub reads_named_bytes : ReadsNamedBytes
reads_named_bytes dims = reads_named (node_at dims) (names dims)
    (λ a b c same is. spelled dims b c
    (spells_same dims (number_at 2 2 a) a b same c refl (spells dims a c is)))
    (λ a b same k of. subst (λ n. IsNamed dims (has_tags a) n k)
    (sym (head_same dims (number_at 2 2 a) a b same 2 2 (omega arith)))
    (subst (λ t. IsNamed dims t (number_at 2 2 b) k) (sym (has_same dims (number_at 2 2 a) a b same)) of))

pub reads_spelled : ReadsWhatIsSpelled
reads_spelled dims page c = (spells dims page c, spelled dims page c)

small_if : (t : Bool) (x : ℕ) → x < 2 ^ 32 → cond t x 0 < 2 ^ 32
small_if true x small = small
small_if false x small = omega arith

tag_fits : (dims place : ℕ) (page : List ℕ) → AreBytes page → tag_at dims page place < 2 ^ 32
unfolding tag_at
tag_fits dims place page bytes =
    let small : number_at 4 (tag_place dims place) page < 256 ^ 4 =
    number_at-lt 4 (tag_place dims place) page bytes in
    small_if (has_tags page) (number_at 4 (tag_place dims place) page) (omega arith)

-- an entry in a page of bytes has a box, a number of eight bytes and one of four
item_fits : (dims level place : ℕ) (page : List ℕ) → AreBytes page
    → IsEntry dims level (item_at dims page place)
    → IsBox dims (item_at dims page place).bounds × ((item_at dims page place).reference < 2 ^ 64)
    × ((item_at dims page place).tag < 2 ^ 32)
unfolding item_at
item_fits dims level place page bytes is =
    let small : number_at 8 (reference_place dims place) page < 256 ^ 8 =
    number_at-lt 8 (reference_place dims place) page bytes in (
      box_at-is_box dims page (low_place place) (high_place place) 800 bytes is.ordered,
      omega arith,
      tag_fits dims place page bytes,
    )

pub spells_nodes : SpellsNodes
spells_nodes dims page c bytes s =
    let size = size_of dims page c s in
    let fits : (k : ℕ) → k < number_at 2 2 page
    → IsBox dims (item_at dims page k).bounds × ((item_at dims page k).reference < 2 ^ 64)
    × ((item_at dims page k).tag < 2 ^ 32) =
    λ k lt. item_fits dims c.level k page bytes (s.each k lt) in
    record {
      spellable = spellable dims page c s;
      byte = let level = s.head.level_is in
          let small : number_at 1 4 page < 256 ^ 1 = number_at-lt 1 4 page bytes in omega arith;
      boxes = λ k other lt. subst (λ (item : Item). IsBox dims item.bounds)
          (sym (item_of_node dims page c k other s lt)) (fits k (omega arith)).0;
      references =
          λ k other lt. subst (λ (item : Item). item.reference < 2 ^ 64)
          (sym (item_of_node dims page c k other s lt)) (fits k (omega arith)).1;
      tags = λ k other lt. subst (λ (item : Item). item.tag < 2 ^ 32)
          (sym (item_of_node dims page c k other s lt)) (fits k (omega arith)).2;
    }
