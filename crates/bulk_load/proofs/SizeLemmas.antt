-- Sizes of runs, and levels.
use Rattle.std.proofs.Common.{◌≡◌, ◌∙◌, ℕ, suc, ◌+◌, ◌*◌, ◌^◌, ◌<◌, ◌≤◌, List, [], ◌∷◌, length, map, take}
use Rattle.std.proofs.Common.{drop, get_or, All, IsPermutation, refl, sym, ap, subst, ⊎_elim, arith}
use Rattle.std.proofs.Common.{length-append}
use Rattle.std.proofs.lemmas.Bool.{cases_lt}
use Rattle.std.proofs.lemmas.List.{drop-map, length-map, take-append-drop, take-map, take_more}
use Rattle.std.proofs.lemmas.List.Elements.{All-cons, All-drop, All-nil, All-tail, All-take}
use Rattle.std.proofs.lemmas.List.Sorted.{length_permutation}
use Rattle.std.proofs.Math.Nat.{mul-le-mul_left, pow-le-pow_right, pow-succ'}
use Rattle.box_math.specs.Bounds.{IsDims}
use Rattle.tree_node.specs.Nodes.{Item, item_of, items_of}
use Rattle.tree_node.specs.Positions.{total}
use Rattle.tree_node.specs.Rows.{item_in}
use Rattle.tree_node.specs.Trees.{Branch}
use Rattle.tree_node.specs.declared.node.Entry.{Entry}
use Rattle.tree_node.proofs.PositionLemmas.{total-append}
use Rattle.node_page.specs.Standing.{PageMap}
use Rattle.bulk_load.specs.Levels.{AreSizes, WaitFor}
use Rattle.bulk_load.specs.Tiling.{IsTiled, IsTiledInto, joined}
use Rattle.bulk_load.specs.TilingLaws.{IsFair}
use Rattle.bulk_load.proofs.LevelLemmas.{wait_permuted}
use Rattle.bulk_load.proofs.LiftLemmas.{joined_alike, lengths_alike, tiled_alike}
use Rattle.bulk_load.proofs.PackedLemmas.{two_runs}
use Rattle.bulk_load.proofs.TilingLemmas.{fair_on, holds_on}

-- where a run ends
pub run_ends : (sizes : List ℕ) (place : ℕ) → place < length sizes
    → total (λ size. size) (take place sizes) + get_or sizes place 0 ≡ total (λ size. size)
    (take (place + 1) sizes)
run_ends sizes place within =
    omega (
      arith,
      ap (total (λ size. size)) (take_more sizes place 0 within),
      total-append (λ size. size) (take place sizes) (get_or sizes place 0 ∷ []),
    )

pub run_within : (sizes : List ℕ) (place : ℕ) → place < length sizes
    → total (λ size. size) (take place sizes) + get_or sizes place 0 ≤ total (λ size. size) sizes
run_within sizes place within = omega (
  arith,
  run_ends sizes place within,
  total-append (λ size. size) (take (place + 1) sizes) (drop (place + 1) sizes),
  ap (total (λ size. size)) (take-append-drop (place + 1) sizes),
)

-- fair runs of the entries, and what their sizes are
fair_sizes : {A : Type 0} (most : ℕ) (runs : List (List A)) → 4 ≤ most → most ≤ 100 → All (IsFair most) runs
    → All (λ size. (2 ≤ size) × (size ≤ 100)) (map length runs)
fair_sizes {A} most [] four few fair = All-nil (λ size. (2 ≤ size) × (size ≤ 100))
fair_sizes {A} most (run ∷ runs) four few fair =
    let one = fair 0 run (omega arith) in
    All-cons (λ size. (2 ≤ size) × (size ≤ 100)) (length run) (map length runs)
    (omega (arith, one.0, four), omega (arith, one.1, few))
    (fair_sizes most runs four few (All-tail (IsFair most) run runs fair))

pub joined_size : {A : Type 0} (runs : List (List A))
    → total (λ size. size) (map length runs) ≡ length (joined runs)
joined_size [] = refl
joined_size (run ∷ runs) = omega (arith, joined_size runs, length-append run (joined runs))

twice : (sizes : List ℕ) → All (λ size. (2 ≤ size) × (size ≤ 100)) sizes
    → 2 * length sizes ≤ total (λ size. size) sizes
twice [] two = omega arith
twice (size ∷ sizes) two =
    omega (
      arith,
      (two 0 0 (omega arith)).0,
      twice sizes (All-tail (λ size. (2 ≤ size) × (size ≤ 100)) size sizes two),
    )

-- ---- a part of some entries

pub part_items : {D : ℕ} (part size from : ℕ) (entries : List (Entry D)) → part ≡ size
    → items_of (take part (drop from entries)) ≡ take size (drop from (items_of entries))
part_items {D} part size from entries is = sym (take-map (item_of {D = D}) part (drop from entries))
    ∙ ap (λ (is : List Item). take part is) (sym (drop-map (item_of {D = D}) from entries))
    ∙ ap (λ (n : ℕ). take n (drop from (items_of entries))) is

pub part_refers : {D : ℕ} (P : Item → Type 0) (part from : ℕ) (entries : List (Entry D))
    → All P (items_of entries) → All P (items_of (take part (drop from entries)))
part_refers {D} P part from entries all =
    subst (λ (is : List Item). All P is) (sym (part_items part part from entries refl))
    (All-take P part (drop from (items_of entries)) (All-drop P from (items_of entries) all))

-- ---- levels

-- so many entries of a node are below 2^level: a level that they fit is a byte, and one more too
pub level_is_low : (many level : ℕ) → 1 ≤ many → many * 2 ^ level < 2 ^ 64 → level < 64
level_is_low many level some fits = ⊎_elim
    (λ (low : level < 64). low)
    (λ (high : 64 ≤ level). absurd
    (omega (arith, fits, mul-le-mul_left (2 ^ level) some, pow-le-pow_right {n = 2} (omega arith) high)))
    (cases_lt level 64)

halves : (k n p q top : ℕ) → q ≡ 2 * p → 2 * k ≤ n → n * p < top → k * q < top
halves k n p q top is half fits =
    subst (λ (x : ℕ). k * x < top) (sym is) (omega (arith, mul-le-mul_left p half, fits))

-- half as many fit the next level
pub next_fits : (many next level : ℕ) → 2 * next ≤ many → many * 2 ^ level < 2 ^ 64
    → next * 2 ^ (level + 1) < 2 ^ 64
next_fits many next level half fits =
    let one : level + 1 ≡ suc level = omega arith in
    halves next many (2 ^ level) (2 ^ (level + 1)) (2 ^ 64) (ap (λ (n : ℕ). 2 ^ n) one ∙ pow-succ' 2 level)
    half fits

-- a tiling in place, and the sizes that it answers
pub record TiledSizes (many : ℕ) (sizes : List ℕ) : Type 0 where
  pub whole : total (λ size. size) sizes ≡ many
  pub sized : AreSizes sizes
  pub two : 2 ≤ length sizes
  pub half : 2 * length sizes ≤ many

pub tiled_sizes : {D : ℕ} (most : ℕ) (old new : List (Entry D)) (sizes : List ℕ) → IsDims D → 4 ≤ most
    → most ≤ 100 → most < length old → IsTiledInto item_of D most old new sizes
    → TiledSizes (length new) sizes
tiled_sizes {D} most old new sizes is four few more_than t =
    let fair : All (IsFair most) t.runs =
    fair_on item_of D most D old t.runs (omega (arith, four))
    (omega (arith, more_than), λ none. absurd (omega (arith, is.0, none))) t.tiled in
    let all : All (λ size. (2 ≤ size) × (size ≤ 100)) sizes =
    subst (λ (ns : List ℕ). All (λ size. (2 ≤ size) × (size ≤ 100)) ns) t.each
    (fair_sizes most t.runs four few fair) in
    let many : total (λ size. size) sizes ≡ length new = ap (total (λ size. size)) (sym t.each)
    ∙ joined_size t.runs ∙ ap length t.whole in
    let same : length (joined t.runs) ≡ length old =
    length_permutation old (joined t.runs) (holds_on item_of D most D old t.runs t.tiled) in
    record {
      whole = many;
      sized = λ k d below. (omega (arith, (all k d below).0), (all k d below).1);
      two = omega (
        arith,
        ap length t.each,
        length-map t.runs length,
        two_runs most t.runs fair (omega (arith, more_than, same)),
      );
      half = omega (arith, twice sizes all, many);
    }

-- what waits, tiled alike
pub record WaitTiled (dims most level : ℕ) (pages : PageMap) (bs : List Branch) (items : List Item)
    (sizes : List ℕ) : Type 0 where
  pub runs : List (List Branch)
  pub lengths : map length runs ≡ sizes
  pub tiled : IsTiled item_in dims most bs runs
  pub same : IsPermutation bs (joined runs)
  pub wait : WaitFor dims level pages items (joined runs)

pub wait_tiled : {D : ℕ} (most level : ℕ) (pages : PageMap) (bs : List Branch) (old new : List (Entry D))
    (sizes : List ℕ) → IsTiledInto item_of D most old new sizes
    → WaitFor D level pages (items_of old) bs → WaitTiled D most level pages bs (items_of new) sizes
wait_tiled {D} most level pages bs old new sizes t waits =
    let lifted = tiled_alike item_of item_in D most D old t.runs bs waits.are t.tiled in
    let same : IsPermutation bs (joined lifted.rs) = holds_on item_in D most D bs lifted.rs lifted.is_tiled in
    record {
      runs = lifted.rs;
      lengths = lengths_alike item_of item_in t.runs lifted.rs lifted.alike ∙ t.each;
      tiled = lifted.is_tiled;
      same = same;
      wait = wait_permuted D level pages (items_of old) (items_of new) bs (joined lifted.rs) waits same
          (joined_alike item_of item_in t.runs lifted.rs lifted.alike
          ∙ ap (λ (es : List (Entry D)). items_of es) t.whole);
    }
