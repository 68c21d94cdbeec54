-- Runs of entries that become nodes: sorted by centre on one axis after the other, and cut evenly (our rule,
-- docs/RULES.md, "Packed load"). An element is seen as an entry of a node, so these words serve entries and
-- branches of trees alike.
use Rattle.std.specs.Prelude.{◌≡◌, ℕ, zero, suc, ◌+◌, ◌-◌, ◌/◌, ◌%◌, ◌^◌, ◌<◌, ◌≤◌, List, [], ◌∷◌, ◌++◌}
use Rattle.std.specs.Prelude.{length, map, replicate, ◌==◌, if◌then◌else◌}
use Rattle.std.specs.Int.{div_ceil}
use Rattle.std.specs.List.{flat_map}
use Rattle.tree_node.specs.Nodes.{Item}
use Rattle.bulk_load.specs.Sorting.{sorted_on}

-- the lists joined in order
abbrev pub joined : {A : Type 0} → List (List A) → List A
joined runs = flat_map (λ run. run) runs

-- ---- even runs

-- the sizes of so many even runs of n elements: no two differ by more than one, and the longer come first
abbrev pub even_sizes : ℕ → ℕ → List ℕ
even_sizes n parts = replicate (n % parts) (n / parts + 1) ++ replicate (parts - n % parts) (n / parts)

-- the list cut into so many even runs
pub record IsEvenCut {A : Type 0} (parts : ℕ) (xs : List A) (runs : List (List A)) : Type 0 where
  pub whole : joined runs ≡ xs
  pub sizes : map length runs ≡ even_sizes (length xs) parts

-- ---- runs

-- s is the least number of slabs on each of so many axes with which they make that many cells
pub record IsLeastRoot (axes cells s : ℕ) : Type 0 where
  pub enough : cells ≤ s ^ axes
  pub least : (k : ℕ) → cells ≤ k ^ axes → s ≤ k

-- each slab has runs of its own, and these one after the other are the runs
abbrev pub EachTiled : {A : Type 0} → (List A → List (List A) → Type 0) → List (List A) → List (List A)
    → Type 0
EachTiled tiled [] runs = runs ≡ []
EachTiled {A} tiled (slab ∷ slabs) runs = (first : List (List A))
    × ((later : List (List A)) × ((runs ≡ first ++ later) × tiled slab first × EachTiled tiled slabs later))

-- at most the most elements are one run, and none are none
abbrev pub one_run : {A : Type 0} → List A → List (List A)
one_run [] = []
one_run (x ∷ xs) = (x ∷ xs) ∷ []

-- and the sizes of these
abbrev pub size_of_one : ℕ → List ℕ
size_of_one zero = []
size_of_one (suc n) = suc n ∷ []

-- more than the most elements: the list sorted on the axis is cut into slabs
pub record IsSlabbed {A : Type 0} (item : A → Item) (dims most axis axes : ℕ)
    (tiled : List A → List (List A) → Type 0) (xs : List A) (runs : List (List A)) : Type 0 where
  pub count : ℕ
  pub root : IsLeastRoot axes (div_ceil (length xs) most) count
  pub slabs : List (List A)
  pub cut : IsEvenCut count (sorted_on item dims axis xs) slabs
  pub each : EachTiled tiled slabs runs

-- The runs of a list where so many axes are left, the last ones. With none left it is one run.
abbrev pub IsTiledOn : {A : Type 0} → (A → Item) → ℕ → ℕ → ℕ → List A → List (List A) → Type 0
IsTiledOn item dims most zero xs runs = runs ≡ xs ∷ []
IsTiledOn item dims most (suc left) xs runs =
    (length xs ≤ most → runs ≡ one_run xs)
    × (most < length xs
    → IsSlabbed item dims most (dims - suc left) (suc left) (IsTiledOn item dims most left) xs runs)

-- the runs of a list, from the first axis on
abbrev pub IsTiled : {A : Type 0} → (A → Item) → ℕ → ℕ → List A → List (List A) → Type 0
IsTiled item dims most xs runs = IsTiledOn item dims most dims xs runs

-- Where the entries of an axis end: on an even axis in their own list, and on an odd one in the other, since
-- each sort goes from one to the other.
unfoldable pub ending : {A : Type 0} → ℕ → A → A → A
ending axis own other = if axis % 2 == 0 then own else other

-- a list was put into an order, and its runs from there on have the sizes that were added to these
pub record AddsRuns {A : Type 0} (item : A → Item) (dims most axes : ℕ) (old new : List A)
    (before after : List ℕ) : Type 0 where
  pub runs : List (List A)
  pub tiled : IsTiledOn item dims most axes old runs
  pub whole : joined runs ≡ new
  pub sizes : after ≡ before ++ map length runs

-- a list was put into the order of its runs, which have these sizes
pub record IsTiledInto {A : Type 0} (item : A → Item) (dims most : ℕ) (old new : List A)
    (sizes : List ℕ) : Type 0 where
  pub runs : List (List A)
  pub tiled : IsTiled item dims most old runs
  pub whole : joined runs ≡ new
  pub each : map length runs ≡ sizes
