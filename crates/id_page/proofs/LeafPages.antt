-- The laws of what leaf pages spell: which bytes are read, and that a leaf has one page.
use Rattle.std.proofs.Common.{◌≡◌, ℕ, Some, ◌+◌, ◌*◌, ◌<◌, ◌≤◌, List, length, sym, ◌∙◌, subst, arith, inl}
use Rattle.std.proofs.Common.{inr, ⊎_elim}
use Rattle.std.proofs.lemmas.Bool.{cases_lt}
use Rattle.block_bytes.specs.FormLaws.{has_one_page, reads_named}
use Rattle.block_bytes.specs.Forms.{SameNamed}
use Rattle.block_bytes.specs.Laws.{number_at-fixes, number_at-same}
use Rattle.block_bytes.specs.Numbers.{AreBytes, number_at}
use Rattle.box_bytes.specs.Laws.{box_at-is_box}
use Rattle.box_math.specs.Bounds.{IsBox}
use Rattle.box_math.specs.Objects.{bounds_of}
use Rattle.bucket_page.proofs.OnePage.{object_bytes}
use Rattle.bucket_page.proofs.Places.{entry_place-above, entry_place-lt, object_same}
use Rattle.bucket_page.proofs.Writing.{nothing}
use Rattle.bucket_page.specs.Layout.{Entry, HasOrderedBox, entry_place, object_in}
use Rattle.id_page.specs.Layout.{IsNamed}
use Rattle.id_page.specs.Leaf.{leaf_at, leaf_names, leaf_object, object_size}
use Rattle.id_page.specs.LeafLaws.{LeavesHaveOnePage, ReadsNamedOfLeaves, ReadsSpelledLeaves, SpellsBoxes}
use Rattle.id_page.proofs.LeafReading.{count_of_leaf, leaf_is, leaf_spelled, leaf_spells, object_of_leaf}
use Rattle.id_page.proofs.Rows.{row_of}

pub reads_spelled : ReadsSpelledLeaves
reads_spelled dims page objects = (leaf_spells dims page objects, leaf_spelled dims page objects)

module _ (dims : ℕ) (a b : List ℕ) (same : SameNamed (leaf_names dims) a b) where
  head_same : (n at : ℕ) → at + n ≤ 4 → number_at n at a ≡ number_at n at b
  head_same n at h = number_at-same n at a b (λ k le lt. same k (inl (omega (arith, le, lt, h))))

  one_same : (place : ℕ) → place < number_at 2 2 a → leaf_object dims a place ≡ leaf_object dims b place
  one_same place lt =
      let size = object_size dims in
      object_same dims 7 place a b
      (λ k le below. same k
      (inr (
        omega (arith, le, entry_place-above size place),
        omega
            (arith, below, entry_place-lt size place (number_at 2 2 a) lt),
      )))

  leaf_same : (objects : List Entry) → leaf_at dims a ≡ Some objects → leaf_at dims b ≡ Some objects
  leaf_same objects is =
      let s = leaf_spells dims a objects is in
      let long = count_of_leaf dims a objects is in
      let counts = head_same 2 2 (omega arith) in
      let few = s.head.few in
      leaf_is dims b objects
      (record {
        axes = s.head.axes;
        kind = sym (head_same 1 0 (omega arith))
            ∙ s.head.kind;
        dims_is = sym (head_same 1 1 (omega arith))
            ∙ s.head.dims_is;
        few = omega (arith, counts, few);
      })
      (sym counts ∙ long)
      (λ k lt. object_of_leaf dims a objects k nothing is lt ∙ one_same k (omega (arith, lt, long)))
      (λ k lt. subst (HasOrderedBox dims) (one_same k (omega (arith, lt, long)))
      (s.ordered k (omega (arith, lt, long))))

pub reads_named_bytes : ReadsNamedOfLeaves
reads_named_bytes dims = reads_named (leaf_at dims) (leaf_names dims)
    (λ a b objects same is. leaf_same dims a b same objects is)
    (λ a b same k of. subst (λ n. IsNamed 4 (object_size dims) n k)
    (sym (head_same dims a b same 2 2 (omega arith))) of)

pub spells_boxes : SpellsBoxes
unfolding object_in
spells_boxes dims page objects bytes s = λ k other lt.
    let is = leaf_spelled dims page objects s in
    let at = entry_place (object_size dims) k in
    subst (λ (object : Entry). IsBox dims (bounds_of object.1))
    (sym (object_of_leaf dims page objects k other is lt))
    (box_at-is_box dims page (at + 8) (at + 8 + 4 * dims) 4 bytes
    (s.ordered k (omega (arith, lt, count_of_leaf dims page objects is))))

-- ---- one page

module _ (dims : ℕ) (a b : List ℕ) (objects : List Entry) (ba : AreBytes a) (bb : AreBytes b)
    (in_a : leaf_at dims a ≡ Some objects) (in_b : leaf_at dims b ≡ Some objects) where
  head_fixed : (k : ℕ) → k < 4 → number_at 1 k a ≡ number_at 1 k b
  head_fixed k lt =
      let ha = (leaf_spells dims a objects in_a).head in
      let hb = (leaf_spells dims b objects in_b).head in
      ⊎_elim (λ (h : k < 1). number_at-fixes 1 0 a b ba bb (ha.kind ∙ sym hb.kind) k (omega arith) h)
      (λ (h : 1 ≤ k). ⊎_elim
      (λ (l : k < 2). number_at-fixes 1 1 a b ba bb (ha.dims_is ∙ sym hb.dims_is) k h l)
      (λ (l : 2 ≤ k). number_at-fixes 2 2 a b ba bb
      (count_of_leaf dims a objects in_a ∙ sym (count_of_leaf dims b objects in_b)) k l lt)
      (cases_lt k 2)) (cases_lt k 1)

  object_fixed : (k : ℕ) → 16 ≤ k → k < entry_place (object_size dims) (length objects)
      → number_at 1 k a ≡ number_at 1 k b
  object_fixed k le lt =
      let row = row_of (object_size dims) (length objects) k le lt in
      let object = sym (object_of_leaf dims a objects row.0 nothing in_a row.1)
      ∙ object_of_leaf dims b objects row.0 nothing in_b row.1 in
      object_bytes dims 7 row.0 a b ba bb object k row.2 row.3

  named_fixed : (k : ℕ) → leaf_names dims a k → number_at 1 k a ≡ number_at 1 k b
  named_fixed k (inl lt) = head_fixed k lt
  named_fixed k (inr of) =
      object_fixed k of.0
      (subst (λ n. k < entry_place (object_size dims) n) (count_of_leaf dims a objects in_a) of.1)

pub one_page : LeavesHaveOnePage
one_page dims = has_one_page (leaf_at dims) (leaf_names dims)
    (λ a b objects ba bb in_a in_b. named_fixed dims a b objects ba bb in_a in_b)
    (λ a b objects in_a in_b k of. subst (λ n. IsNamed 4 (object_size dims) n k)
    (count_of_leaf dims b objects in_b ∙ sym (count_of_leaf dims a objects in_a)) of)
