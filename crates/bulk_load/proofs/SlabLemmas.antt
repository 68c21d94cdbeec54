-- The slabs of a list, tiled one after the other, from one list into another.
use Rattle.std.proofs.Common.{◌≡◌, ◌∙◌, ℕ, zero, suc, ◌+◌, ◌-◌, ◌*◌, ◌/◌, ◌%◌, ◌^◌, ◌<◌, ◌≤◌, List, [], ◌∷◌}
use Rattle.std.proofs.Common.{◌++◌, length, map, get_or, replicate, take, drop, min, IsPermutation, refl, sym}
use Rattle.std.proofs.Common.{ap, subst, append_assoc, ⊎_elim, arith, length-append, length-drop}
use Rattle.std.specs.Int.{div_ceil}
use Rattle.std.proofs.lemmas.Bool.{cases_lt}
use Rattle.std.proofs.lemmas.Bool.Decides.{nat_tests}
use Rattle.std.specs.Prelude.{Bool, true, false, ◌==◌, if◌then◌else◌}
use Rattle.std.proofs.lemmas.List.{append-nil, get_or-append_right, get_or-replicate, get_or_append_left}
use Rattle.std.proofs.lemmas.List.{length-replicate, length-take, map-append, take_more, drop-drop}
use Rattle.std.proofs.lemmas.List.{length-take-le}
use Rattle.std.proofs.lemmas.Nat.{div-add-mod'}
use Rattle.std.proofs.Math.Nat.{mul-le-mul_left}
use Rattle.std.proofs.Math.Seq.{drop-append_seam, take-append_seam, take-add, take-length}
use borrow.Rule.Slice.PartMut.{mid_of, put_mid}
use Rattle.tree_node.specs.Nodes.{Item}
use Rattle.bulk_load.specs.Sorting.{sorted_on}
use Rattle.bulk_load.specs.Tiling.{AddsRuns, EachTiled, IsEvenCut, IsLeastRoot, IsSlabbed, IsTiledInto}
use Rattle.bulk_load.specs.Tiling.{IsTiledOn, ending, even_sizes, joined, one_run, size_of_one}
use Rattle.bulk_load.proofs.SortLemmas.{length-sorted}
use Rattle.bulk_load.proofs.CutLemmas.{cells_two, root_positive}
use Rattle.bulk_load.proofs.TilingLemmas.{holds_on, joined_append, one_run_holds, one_run_is, slab_sizes}

-- The first k of so many even slabs of an order are tiled, in one list, and the rest stands in another.
pub record Progress {A : Type 0} (item : A → Item) (dims most axes : ℕ) (order : List A)
    (n slabs k from : ℕ) (source final : List A) (before after : List ℕ) : Type 0 where
  pub here : from ≡ k * (n / slabs) + min k (n % slabs)
  pub cut : List (List A)
  pub runs : List (List A)
  pub each : EachTiled (IsTiledOn item dims most axes) cut runs
  pub whole : joined cut ≡ take from order
  pub lengths : map length cut ≡ take k (even_sizes n slabs)
  pub front : length (joined runs) ≡ from
  pub stands : take from final ≡ joined runs
  pub left : drop from source ≡ drop from order
  pub sizes : after ≡ before ++ map length runs

-- ---- where slabs end

long_at : (n p k : ℕ) → k < n % p → get_or (even_sizes n p) k 0 ≡ n / p + 1
long_at n p k long =
    get_or_append_left (replicate (n % p) (n / p + 1)) (replicate (p - n % p) (n / p)) 0 k
    (omega (arith, long, length-replicate (n % p) (n / p + 1)))
    ∙ get_or-replicate (n % p) k (n / p + 1) 0 long

short_at : (n p k : ℕ) → n % p ≤ k → k < p → get_or (even_sizes n p) k 0 ≡ n / p
short_at n p k short below =
    get_or-append_right (replicate (n % p) (n / p + 1)) (replicate (p - n % p) (n / p)) (n % p) k 0
    (length-replicate (n % p) (n / p + 1)) short
    ∙ get_or-replicate (p - n % p) (k - n % p) (n / p) 0 (omega (arith, short, below))

even_count : (n p : ℕ) → 0 < p → length (even_sizes n p) ≡ p
even_count n p some =
    omega (
      arith,
      length-append (replicate (n % p) (n / p + 1)) (replicate (p - n % p) (n / p)),
      length-replicate (n % p) (n / p + 1),
      length-replicate (p - n % p) (n / p),
    )

-- a slab ends where the next one begins
next_from : (n p k from size : ℕ) → k < p → from ≡ k * (n / p) + min k (n % p)
    → size ≡ get_or (even_sizes n p) k 0 → from + size ≡ (k + 1) * (n / p) + min (k + 1) (n % p)
next_from n p k from size below here is = ⊎_elim
    (λ (long : k < n % p). omega (arith, here, is, long_at n p k long, long))
    (λ (short : n % p ≤ k). omega (arith, here, is, short_at n p k short below, short))
    (cases_lt k (n % p))

from_within : (n p k from : ℕ) → k ≤ p → from ≡ k * (n / p) + min k (n % p) → from ≤ n
from_within n p k from below here = omega (arith, here, mul-le-mul_left (n / p) below, div-add-mod' n p)

from_end : (n p from : ℕ) → 0 < p → from ≡ p * (n / p) + min p (n % p) → from ≡ n
from_end n p from some here = omega (arith, here, div-add-mod' n p)

-- within the list
pub slab_within : {A : Type 0} {item : A → Item} {dims most axes : ℕ} {order : List A}
    {n slabs k from : ℕ} {source final : List A} {before after : List ℕ}
    → Progress item dims most axes order n slabs k from source final before after → (size : ℕ) → k < slabs
    → size ≡ get_or (even_sizes n slabs) k 0 → from + size ≤ n
slab_within {n = n} {slabs = slabs} {k = k} {from = from} p size below is =
    from_within n slabs (k + 1) (from + size) (omega (arith, below))
    (next_from n slabs k from size below p.here is)

-- a slab has two elements
pub slab_has_two : (n most axes slabs k size : ℕ) → 4 ≤ most → most < n → 0 < axes
    → IsLeastRoot axes (div_ceil n most) slabs → k < slabs → size ≡ get_or (even_sizes n slabs) k 0 → 2 ≤ size
slab_has_two n most zero slabs k size four more some root below is = absurd (omega (arith, some))
slab_has_two n most (suc axes) slabs k size four more some root below is =
    let count = even_count n slabs (omega (arith, below)) in
    omega (
      arith,
      (slab_sizes n most axes slabs (omega (arith, four)) more root k 0 (omega (arith, below, count))).0,
      is,
      four,
    )

-- ---- the turns of the loop

pub none_yet : {A : Type 0} (item : A → Item) (dims most axes : ℕ) (source final order : List A)
    (n slabs : ℕ) (before : List ℕ) → source ≡ order
    → Progress item dims most axes order n slabs 0 0 source final before before
none_yet item dims most axes source final order n slabs before same = record {
  here = omega arith;
  cut = [];
  runs = [];
  each = refl;
  whole = refl;
  lengths = refl;
  front = refl;
  stands = refl;
  left = same;
  sizes = sym (append-nil before);
}

each_more : {A : Type 0} (tiled : List A → List (List A) → Type 0) (slabs runs : List (List A))
    (slab : List A) (rs : List (List A)) → EachTiled tiled slabs runs → tiled slab rs
    → EachTiled tiled (slabs ++ slab ∷ []) (runs ++ rs)
each_more {A} tiled [] runs slab rs each one =
    (rs, ([], (ap (λ (xs : List (List A)). xs ++ rs) each ∙ sym (append-nil rs), one, refl)))
each_more {A} tiled (s ∷ slabs) runs slab rs each one = (
  each.0,
  (
    each.1.0 ++ rs,
    (
      ap (λ (xs : List (List A)). xs ++ rs) each.1.1.0 ∙ append_assoc each.0 each.1.0 rs,
      each.1.1.1,
      each_more tiled slabs each.1.0 slab rs each.1.1.2 one,
    ),
  ),
)

joined_one : {A : Type 0} (xs : List A) → joined (xs ∷ []) ≡ xs
joined_one xs = append-nil xs

-- a part of a list is written anew
front_written : {A : Type 0} (from part : ℕ) (xs ys : List A) → from ≤ length xs
    → take (from + length ys) (put_mid from part xs ys) ≡ take from xs ++ ys
front_written from part xs ys within =
    let front = take from xs in
    let rest = drop part (drop from xs) in
    let long : length (front ++ ys) ≡ from + length ys =
    omega (arith, length-append front ys, length-take-le from xs within) in
    ap (λ (n : ℕ). take n (front ++ (ys ++ rest))) (sym long)
    ∙ ap (take (length (front ++ ys))) (sym (append_assoc front ys rest))
    ∙ take-append_seam (front ++ ys) rest

back_written : {A : Type 0} (from part : ℕ) (xs ys : List A) → from ≤ length xs → part ≡ length ys
    → drop (from + length ys) (put_mid from part xs ys) ≡ drop (from + length ys) xs
back_written from part xs ys within same =
    let front = take from xs in
    let rest = drop part (drop from xs) in
    let long : length (front ++ ys) ≡ from + length ys =
    omega (arith, length-append front ys, length-take-le from xs within) in
    ap (λ (n : ℕ). drop n (front ++ (ys ++ rest))) (sym long)
    ∙ ap (drop (length (front ++ ys))) (sym (append_assoc front ys rest))
    ∙ drop-append_seam (front ++ ys) rest
    ∙ drop-drop part from xs ∙ ap (λ (n : ℕ). drop (from + n) xs) same

pub one_more : {A : Type 0} {item : A → Item} {dims most axes : ℕ} {order : List A} {n slabs k from : ℕ}
    {source final : List A} {before after : List ℕ}
    → Progress item dims most axes order n slabs k from source final before after
    → (size part : ℕ) (ys zs : List A) (later : List ℕ) → k < slabs → length order ≡ n
    → length source ≡ n → length final ≡ n
    → size ≡ get_or (even_sizes n slabs) k 0 → part ≡ size → length ys ≡ size → length zs ≡ size
    → AddsRuns item dims most axes (mid_of from part source) zs after later
    → Progress item dims most axes order n slabs (k + 1) (from + size) (put_mid from part source ys)
    (put_mid from part final zs) before later
one_more {A} {item = item} {dims = dims} {most = most} {axes = axes} {order = order} {n = n}
    {slabs = slabs} {k = k} {from = from} {source = source} {final = final} {before = before} {after = after}
    p size part ys zs later below order_long source_long final_long is part_is ys_long zs_long added =
    let rest = drop from order in
    let slab = take size rest in
    let sizes = even_sizes n slabs in
    let within : from + size ≤ n = slab_within p size below is in
    let long : length slab ≡ size =
    length-take-le size rest (omega (arith, length-drop from order, order_long, within)) in
    let mid : mid_of from part source ≡ slab = ap (λ (xs : List A). take part xs) p.left
    ∙ ap (λ (a : ℕ). take a rest) part_is in
    let both : joined (p.runs ++ added.runs) ≡ joined p.runs ++ zs = joined_append p.runs added.runs
    ∙ ap (λ (xs : List A). joined p.runs ++ xs) added.whole in
    record {
      here = next_from n slabs k from size below p.here is;
      cut = p.cut ++ slab ∷ [];
      runs = p.runs ++ added.runs;
      each = each_more (IsTiledOn item dims most axes) p.cut p.runs slab added.runs p.each
          (subst (λ (xs : List A). IsTiledOn item dims most axes xs added.runs) mid added.tiled);
      whole = joined_append p.cut (slab ∷ []) ∙ ap (λ (xs : List A). joined p.cut ++ xs) (joined_one slab)
          ∙ ap (λ (xs : List A). xs ++ slab) p.whole ∙ sym (take-add from size order);
      lengths = map-append length p.cut (slab ∷ []) ∙ ap (λ (ks : List ℕ). ks ++ length slab ∷ []) p.lengths
          ∙ ap (λ (a : ℕ). take k sizes ++ a ∷ []) (long ∙ is)
          ∙ sym (take_more sizes k 0 (omega (arith, below, even_count n slabs (omega (arith, below)))));
      front = ap (λ (xs : List A). length xs) both
          ∙ omega (arith, length-append (joined p.runs) zs, p.front, zs_long);
      stands = ap (λ (a : ℕ). take (from + a) (put_mid from part final zs)) (sym zs_long)
          ∙ front_written from part final zs (omega (arith, within, final_long))
          ∙ ap (λ (xs : List A). xs ++ zs) p.stands ∙ sym both;
      left = ap (λ (a : ℕ). drop (from + a) (put_mid from part source ys)) (sym ys_long)
          ∙ back_written from part source ys (omega (arith, within, source_long)) (part_is ∙ sym ys_long)
          ∙ ap (λ (a : ℕ). drop (from + a) source) ys_long ∙ sym (drop-drop size from source)
          ∙ ap (λ (xs : List A). drop size xs) p.left ∙ drop-drop size from order;
      sizes = added.sizes ∙ ap (λ (ks : List ℕ). ks ++ map length added.runs) p.sizes
          ∙ append_assoc before (map length p.runs) (map length added.runs)
          ∙ ap (λ (ks : List ℕ). before ++ ks) (sym (map-append length p.runs added.runs));
    }

pub all_done : {A : Type 0} {item : A → Item} {dims most axes : ℕ} {order : List A} {n slabs k from : ℕ}
    {source final : List A} {before after : List ℕ}
    → Progress item dims most axes order n slabs k from source final before after
    → (axis : ℕ) (old : List A) → k ≡ slabs → 0 < most → axes ≡ dims - (axis + 1) → axis < dims
    → n ≡ length old → most < n → length final ≡ n
    → order ≡ sorted_on item dims axis old → IsLeastRoot (dims - axis) (div_ceil n most) slabs
    → AddsRuns item dims most (dims - axis) old final before after
all_done {A} {item = item} {dims = dims} {most = most} {axes = axes} {order = order} {n = n}
    {slabs = slabs} {k = k} {from = from} {final = final} {before = before} {after = after} p axis old end
    most_some axes_are below length_is more final_long sorted root =
    let some : 0 < slabs =
    root_positive (dims - axis) (div_ceil n most) slabs (omega (arith, below))
    (omega (arith, cells_two n most most_some more)) root in
    let same : length order ≡ n = ap (λ (xs : List A). length xs) sorted ∙ length-sorted item dims axis old
    ∙ sym length_is in
    let last : from ≡ n =
    from_end n slabs from some
    (subst (λ (a : ℕ). from ≡ a * (n / slabs) + min a (n % slabs)) end p.here) in
    let left : suc axes ≡ dims - axis = omega (arith, axes_are, below) in
    let here : axis ≡ dims - suc axes = omega (arith, axes_are, below) in
    let whole : joined p.cut ≡ order = p.whole ∙ ap (λ (a : ℕ). take a order) (last ∙ sym same)
    ∙ take-length order in
    let sizes : map length p.cut ≡ even_sizes (length order) slabs =
    p.lengths ∙ ap (λ (a : ℕ). take a (even_sizes n slabs)) (end ∙ sym (even_count n slabs some))
    ∙ take-length (even_sizes n slabs) ∙ ap (λ (a : ℕ). even_sizes a slabs) (sym same) in
    let slabbed : IsSlabbed item dims most (dims - suc axes) (suc axes) (IsTiledOn item dims most axes) old
    p.runs = record {
      count = slabs;
      root = subst (λ (a : ℕ). IsLeastRoot a (div_ceil (length old) most) slabs) (sym left)
          (subst (λ (a : ℕ). IsLeastRoot (dims - axis) (div_ceil a most) slabs) length_is root);
      slabs = p.cut;
      cut = subst (λ (a : ℕ). IsEvenCut slabs (sorted_on item dims a old) p.cut) here
          (subst (λ (xs : List A). IsEvenCut slabs xs p.cut) sorted
          (record { whole = whole; sizes = sizes }));
      each = p.each;
    } in
    record {
      runs = p.runs;
      tiled = subst (λ (a : ℕ). IsTiledOn item dims most a old p.runs) left
          (λ few. absurd (omega (arith, few, more, length_is)), λ many. slabbed);
      whole = sym p.stands ∙ ap (λ (a : ℕ). take a final) (last ∙ sym final_long) ∙ take-length final;
      sizes = p.sizes;
    }

-- ---- lists that are one run

sizes_of_one : {A : Type 0} (xs : List A) → size_of_one (length xs) ≡ map length (one_run xs)
sizes_of_one [] = refl
sizes_of_one (x ∷ xs) = refl

pub one_node : {A : Type 0} (item : A → Item) (dims most axes : ℕ) (xs : List A) (before : List ℕ) → 0 < axes
    → length xs ≤ most
    → AddsRuns item dims most axes xs xs before (before ++ size_of_one (length xs))
one_node {A} item dims most zero xs before some few = absurd (omega (arith, some))
one_node {A} item dims most (suc axes) xs before some few = record {
  runs = one_run xs;
  tiled = (λ same. refl, λ more. absurd (omega (arith, few, more)));
  whole = one_run_holds xs;
  sizes = ap (λ (ks : List ℕ). before ++ ks) (sizes_of_one xs);
}

-- what is not cut further is one run, on whatever axis
pub one_left : {A : Type 0} (item : A → Item) (dims most axes : ℕ) (xs : List A) (before : List ℕ)
    → 0 < length xs → (0 < axes → length xs ≤ most)
    → AddsRuns item dims most axes xs xs before (before ++ length xs ∷ [])
one_left item dims most zero xs before some few = record {
  runs = xs ∷ [];
  tiled = refl;
  whole = append-nil xs;
  sizes = refl;
}
one_left item dims most (suc axes) xs before some few = record {
  runs = xs ∷ [];
  tiled = (λ same. sym (one_run_is xs some), λ more. absurd (omega (arith, few (omega arith), more)));
  whole = append-nil xs;
  sizes = refl;
}

-- and what is not one run is cut further
pub cut_further : (count axis axes most : ℕ) → ¬ (axis < axes → count ≤ most)
    → (axis < axes) × (most < count)
cut_further count axis axes most more = ⊎_elim
    (λ (here : axis < axes). ⊎_elim
    (λ (many : most < count). (here, many))
    (λ (few : count ≤ most). absurd (more (λ _. few)))
    (cases_lt most count))
    (λ (end : axes ≤ axis). absurd (more (λ (here : axis < axes). absurd (omega (arith, here, end)))))
    (cases_lt axis axes)

-- all axes, from no sizes on
pub tiled_into : {A : Type 0} (item : A → Item) (dims most limit axes : ℕ) (old new : List A)
    (before sizes : List ℕ) → limit ≡ most → axes ≡ dims → before ≡ []
    → AddsRuns item dims limit axes old new before sizes → IsTiledInto item dims most old new sizes
tiled_into item dims most limit axes old new before sizes same all none added = record {
  runs = added.runs;
  tiled = subst (λ (m : ℕ). IsTiledOn item dims m dims old added.runs) same
      (subst (λ (a : ℕ). IsTiledOn item dims limit a old added.runs) all added.tiled);
  whole = added.whole;
  each = sym (added.sizes ∙ ap (λ (ks : List ℕ). ks ++ map length added.runs) none);
}

pub tiled_holds : {A : Type 0} (item : A → Item) (dims most : ℕ) (old new : List A) (sizes : List ℕ)
    → IsTiledInto item dims most old new sizes → IsPermutation old new
tiled_holds item dims most old new sizes t =
    subst (IsPermutation old) t.whole (holds_on item dims most dims old t.runs t.tiled)

-- ---- where the entries of an axis end

pub ending_first : {A : Type 0} (own other : A) → ending 0 own other ≡ own
unfolding ending
ending_first own other = refl

pub ending_next : {A : Type 0} (axis : ℕ) (own other : A)
    → ending (axis + 1) other own ≡ ending axis own other
unfolding ending
ending_next axis own other = grind (arith, nat_tests)

pub ending_one : {A : Type 0} (axis : ℕ) (own : A) → ending axis own own ≡ own
unfolding ending
ending_one {A} axis own = by_test (axis % 2 == 0)
  where
    by_test : (b : Bool) → (if b then own else own) ≡ own
    by_test true = refl
    by_test false = refl

pub ending_even : {A : Type 0} (axis : ℕ) (own other : A) → ¬ (axis % 2 ≡ 1) → ending axis own other ≡ own
unfolding ending
ending_even axis own other even = grind (arith, nat_tests)

pub ending_written : {A : Type 0} (axis from part : ℕ) (own other own_part other_part : List A)
    → ending axis (put_mid from part own own_part) (put_mid from part other other_part)
    ≡ put_mid from part (ending axis own other) (ending axis own_part other_part)
unfolding ending
ending_written {A} axis from part own other own_part other_part = by_test (axis % 2 == 0)
  where
    by_test : (b : Bool) → (if b then put_mid from part own own_part else put_mid from part other other_part)
        ≡ put_mid from part (if b then own else other) (if b then own_part else other_part)
    by_test true = refl
    by_test false = refl

pub ending_long : {A : Type 0} (axis n : ℕ) (own other : List A) → length own ≡ n → length other ≡ n
    → length (ending axis own other) ≡ n
unfolding ending
ending_long {A} axis n own other own_long other_long = by_test (axis % 2 == 0)
  where
    by_test : (b : Bool) → length (if b then own else other) ≡ n
    by_test true = own_long
    by_test false = other_long

-- ---- room in memory

-- a place of a list of elements of some size that has room in memory
pub part_has_room : (from many size : ℕ) → from ≤ many → many * size < 2 ^ 63 → from * size < 2 ^ 63
part_has_room from many size within room = omega (arith, mul-le-mul_left size within, room)

-- a part of a list
pub part_long : {A : Type 0} (from size n : ℕ) (xs : List A) → from + size ≤ n → length xs ≡ n
    → length (take (from + size - from) (drop from xs)) ≡ size
part_long from size n xs within long =
    omega (arith, length-take (from + size - from) (drop from xs), length-drop from xs, within, long)
