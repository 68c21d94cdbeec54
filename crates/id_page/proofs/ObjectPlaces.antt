-- Where the objects of a leaf lie, and what stays of them.
use Rattle.std.proofs.Common.{◌≡◌, ◌⊎◌, ℕ, ◌+◌, ◌*◌, ◌<◌, ◌≤◌, ◌==◌, false, List, length, refl, sym, ◌∙◌, ap}
use Rattle.std.proofs.Common.{subst, arith, inl, inr, ⊎_elim}
use Rattle.std.proofs.lemmas.Bool.{cases_eq}
use Rattle.block_bytes.specs.Laws.{number_at-put_other}
use Rattle.block_bytes.specs.Numbers.{IsApart, number_at, put_number}
use Rattle.box_math.specs.Bounds.{IsDims}
use Rattle.box_bytes.specs.Corners.{Keeps}
use Rattle.bucket_page.specs.Layout.{IsClearOfEntry, entry_place, object_in}
use Rattle.bucket_page.proofs.Places.{entry_place-above, entry_place-is, entry_size-written, object_same}
use Rattle.id_page.specs.Leaf.{leaf_object, most_objects, object_size}
use Rattle.id_page.proofs.Rows.{Edits, other_byte}

pub most_flat : (dims : ℕ) → dims ≡ 2 → 145 ≡ most_objects dims
unfolding most_objects
most_flat dims is = rw is refl

pub most_solid : (dims : ℕ) → dims ≡ 3 → 113 ≡ most_objects dims
unfolding most_objects
most_solid dims is = rw is refl

pub most_none : (dims : ℕ) → ¬ (dims ≡ 2) → ¬ (dims ≡ 3) → 0 ≡ most_objects dims
unfolding most_objects
most_none dims no_plane no_space =
    let flat : (dims == 2) ≡ false = grind arith in
    let solid : (dims == 3) ≡ false = grind arith in rw flat (rw solid refl)

-- A leaf has a place for an object in two dimensions only, so a place tells the dimension.
module _ (dims place : ℕ) (within : place < most_objects dims) where
  pub planar_or_spatial : (dims ≡ 2) ⊎ (dims ≡ 3)
  planar_or_spatial = ⊎_elim (λ (flat : dims ≡ 2). inl flat)
      (λ (other : ¬ (dims ≡ 2)). ⊎_elim (λ (solid : dims ≡ 3). inr solid)
      (λ (none : ¬ (dims ≡ 3)). absurd (omega (arith, within, most_none dims other none)))
      (cases_eq dims 3)) (cases_eq dims 2)

  pub dims_there : IsDims dims
  dims_there = ⊎_elim (λ (flat : dims ≡ 2). (omega (arith, flat), omega (arith, flat)))
      (λ (solid : dims ≡ 3). (omega (arith, solid), omega (arith, solid))) planar_or_spatial

  -- all places are within the page
  pub object_within : 16 + (12 + 8 * dims) * place + (12 + 8 * dims) ≤ 4096
  object_within = ⊎_elim
      (λ (flat : dims ≡ 2). let few : place < 145 = omega (arith, within, most_flat dims flat) in
      subst (λ (d : ℕ). 16 + (12 + 8 * d) * place + (12 + 8 * d) ≤ 4096) (sym flat) (omega (arith, few)))
      (λ (solid : dims ≡ 3). let few : place < 113 = omega (arith, within, most_solid dims solid) in
      subst (λ (d : ℕ). 16 + (12 + 8 * d) * place + (12 + 8 * d) ≤ 4096) (sym solid) (omega (arith, few)))
      planar_or_spatial

pub few_objects : (dims : ℕ) → most_objects dims ≤ 145
few_objects dims = ⊎_elim
    (λ (flat : dims ≡ 2). omega (arith, most_flat dims flat))
    (λ (other : ¬ (dims ≡ 2)). ⊎_elim
    (λ (solid : dims ≡ 3). omega (arith, most_solid dims solid))
    (λ (none : ¬ (dims ≡ 3)). omega (arith, most_none dims other none))
    (cases_eq dims 3))
    (cases_eq dims 2)

pub object_place-is : (dims place : ℕ) → 16 + (12 + 8 * dims) * place ≡ entry_place (object_size dims) place
object_place-is dims place = entry_place-is (12 + 8 * dims) place
    ∙ ap (λ (size : ℕ). entry_place size place) (sym (entry_size-written dims))

-- an object stays where another one is written
pub object_kept : (dims place count k : ℕ) (old new : List ℕ) → Edits (object_size dims) place count old new
    → ¬ (k ≡ place) → leaf_object dims new k ≡ leaf_object dims old k
object_kept dims place count k old new edits other =
    object_same dims 7 k new old
    (λ j le lt. other_byte (object_size dims) place count k j old new edits other le lt)

-- the identifier that stands there
pub id_is : (dims place at : ℕ) (page : List ℕ) (id : ℕ) → at ≡ entry_place (object_size dims) place
    → id ≡ number_at 8 at page → id ≡ (leaf_object dims page place).0
unfolding object_in
id_is dims place at page id is e = e ∙ ap (λ (p : ℕ). number_at 8 p page) is

-- an entry cleared
pub cleared_keeps : (dims place at : ℕ) (old mid : List ℕ) → at ≡ entry_place (object_size dims) place
    → Keeps (λ n from. IsApart n from (12 + 8 * dims) at) old mid
    → Keeps (IsClearOfEntry (object_size dims) place) old mid
cleared_keeps dims place at old mid at_is keeps = λ n from clear.
    let size = entry_size-written dims in
    keeps n from (⊎_elim
    (λ (h : from + n ≤ entry_place (object_size dims) place). inl (omega (arith, h, at_is)))
    (λ (h : entry_place (object_size dims) place + object_size dims ≤ from). inr
    (omega (arith, h, at_is, size)))
    clear)

pub cleared_bytes : (dims place at count : ℕ) (mid : List ℕ) → length mid ≡ 4096
    → at ≡ entry_place (object_size dims) place
    → ((k : ℕ) → at ≤ k → k < at + (12 + 8 * dims) → number_at 1 k mid ≡ 0)
    → (k : ℕ) → entry_place (object_size dims) place ≤ k
    → k < entry_place (object_size dims) place + object_size dims
    → number_at 1 k (put_number 2 2 count mid) ≡ 0
cleared_bytes dims place at count mid long at_is cleared k le lt =
    let size = entry_size-written dims in
    let above = entry_place-above (object_size dims) place in
    number_at-put_other 1 k 2 2 count mid (omega (arith, long)) (inr (omega (arith, le, above)))
    ∙ cleared k (omega (arith, le, at_is)) (omega (arith, lt, at_is, size))

-- the written object where the count is written after it
pub object_stands : (dims place count : ℕ) (mid : List ℕ) → length mid ≡ 4096
    → leaf_object dims (put_number 2 2 count mid) place ≡ leaf_object dims mid place
object_stands dims place count mid long =
    object_same dims 7 place (put_number 2 2 count mid) mid
    (λ j le lt. number_at-put_other 1 j 2 2 count mid (omega (arith, long))
    (inr (omega (arith, entry_place-above (object_size dims) place, le))))
