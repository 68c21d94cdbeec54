-- The laws of what pages spell: which bytes are read, and what objects are.
use Rattle.std.proofs.Common.{◌≡◌, ℕ, ◌+◌, ◌*◌, ◌<◌, ◌≤◌, List, [], get_or, refl, sym, ◌∙◌, ap, subst, arith}
use Rattle.std.proofs.Common.{inl, inr}
use Rattle.block_bytes.specs.FormLaws.{reads_named}
use Rattle.block_bytes.specs.Numbers.{number_at}
use Rattle.block_bytes.specs.PlaceLaws.{first_places-same, get_or-first_places}
use Rattle.block_bytes.specs.Laws.{number_at-same}
use Rattle.box_math.specs.Bounds.{IsBox}
use Rattle.box_math.specs.Objects.{bounds_of}
use Rattle.box_bytes.specs.Laws.{box_at-is_box}
use Rattle.bucket_page.specs.Layout.{BucketContent, Entry, entry_place, entry_size, object_at, object_in}
use Rattle.bucket_page.specs.Layout.{objects_at, size_in, HasOrderedBox, IsBucketKind, Spells, bucket_at}
use Rattle.bucket_page.specs.Layout.{names, IsNamed}
use Rattle.bucket_page.specs.PageLaws.{ReadsWhatIsSpelled, ReadsNamedBytes, SpellsBuckets}
use Rattle.bucket_page.proofs.Places.{entry_place-lt, entry_place-above, object_same}
use Rattle.bucket_page.proofs.Reading.{spells, spelled, size_of}

module _ (dims count : ℕ) (a b : List ℕ)
    (same : (k : ℕ) → IsNamed (size_in dims a) count k → number_at 1 k a ≡ number_at 1 k b) where
  head_same : (n at : ℕ) → at + n ≤ 8 → number_at n at a ≡ number_at n at b
  head_same n at h = number_at-same n at a b (λ k le lt. same k (inl (omega arith)))

  one_same : (place : ℕ) → place < count → object_at dims a place ≡ object_at dims b place
  one_same place lt =
      let size = size_in dims a in
      object_same dims (number_at 1 0 a) place a b
      (λ k le below. same k
      (inr (
        omega (arith, le, entry_place-above size place),
        omega (arith, below, entry_place-lt size place count lt),
      )))
      ∙ ap (λ (kind : ℕ). object_in dims kind b place) (head_same 1 0 (omega arith))

  spells_same : (c : BucketContent) → count ≡ number_at 2 2 a → Spells dims a c → Spells dims b c
  spells_same c is s =
      let count_same : number_at 2 2 a ≡ number_at 2 2 b = head_same 2 2 (omega arith) in
      let some = s.head.some in
      let few = s.head.few in
      record {
        head = record {
          kind = subst IsBucketKind (head_same 1 0 (omega arith)) s.head.kind;
          dims_is = sym (head_same 1 1 (omega arith)) ∙ s.head.dims_is;
          some = omega arith;
          few = omega arith;
        };
        next = sym (head_same 4 4 (omega arith)) ∙ s.next;
        ordered =
            λ place lt. subst (HasOrderedBox dims) (one_same place (omega arith))
            (s.ordered place (omega arith));
        entries = s.entries ∙ ap (objects_at dims a) (sym is)
            ∙ first_places-same (object_at dims a) (object_at dims b) count
            (0, (record { low = []; high = [] }, 0)) one_same ∙ ap (objects_at dims b) (is ∙ count_same);
      }

pub reads_named_bytes : ReadsNamedBytes
reads_named_bytes dims = reads_named (bucket_at dims) (names dims)
    (λ a b c same is. spelled dims b c
    (spells_same dims (number_at 2 2 a) a b same c refl (spells dims a c is)))
    (λ a b same k of. subst (λ n. IsNamed (size_in dims a) n k)
    (sym (head_same dims (number_at 2 2 a) a b same 2 2 (omega arith)))
    (subst (λ kind. IsNamed (entry_size dims kind) (number_at 2 2 b) k)
    (sym (head_same dims (number_at 2 2 a) a b same 1 0 (omega arith))) of))

pub reads_spelled : ReadsWhatIsSpelled
reads_spelled dims page c = (spells dims page c, spelled dims page c)

pub spells_buckets : SpellsBuckets
unfolding object_in
spells_buckets dims page c bytes s =
    let size = size_of dims page c s in
    let some = s.head.some in
    let few = s.head.few in
    record {
      some = omega arith;
      few = omega arith;
      boxes = λ k other lt.
          let at : get_or c.entries k other ≡ object_at dims page k =
          ap (λ (es : List (Entry)). get_or es k other) s.entries
          ∙ get_or-first_places (object_at dims page) (number_at 2 2 page) k other (omega arith) in
          subst (λ (object : Entry). IsBox dims (bounds_of object.1)) (sym at)
          (box_at-is_box dims page (entry_place (size_in dims page) k + 8)
          (entry_place (size_in dims page) k + 8 + 4 * dims) 4 bytes (s.ordered k (omega arith)));
    }
