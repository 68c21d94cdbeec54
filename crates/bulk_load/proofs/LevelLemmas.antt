-- Nodes written one after the other: what stands above them, what waits below, and the pages of both.
use Rattle.std.proofs.Common.{◌≡◌, ◌∙◌, ℕ, suc, ◌+◌, ◌-◌, ◌<◌, ◌≤◌, Some, None, List, [], ◌∷◌, ◌++◌, length}
use Rattle.std.proofs.Common.{map, take, drop, get_or, refl, sym, ap, subst, arith}
use Rattle.std.specs.Prelude.{IsSome, IsPermutation}
use Rattle.std.proofs.lemmas.List.{drop_all, get_or-map, length-map, map-append, take_all, take_more}
use Rattle.std.proofs.Math.Seq.{drop-append_seam, drop-cons, take-append_seam}
use Rattle.page_file.specs.Pages.{SameBut}
use Rattle.box_math.specs.Bounds.{Bounds}
use Rattle.tree_node.specs.Boxes.{RowHasBoxes, least_box}
use Rattle.tree_node.specs.Nodes.{Item}
use Rattle.tree_node.specs.Rows.{item_in, occurs_on, row_of}
use Rattle.tree_node.specs.Shape.{IsLeastBox}
use Rattle.tree_node.specs.Trees.{Branch, object, child, Tree, occurs_in, row_items}
use Rattle.tree_node.proofs.BoxLemmas.{join_is_least_box}
use Rattle.tree_node.proofs.PositionLemmas.{total-append}
use Rattle.tree_node.proofs.RowLemmas.{items-row_of, occurs-row_of}
use Rattle.tree_node.specs.declared.node.Root.{Root}
use Rattle.node_page.specs.Parts.{Moves, Part, both, no_page, one_page}
use Rattle.node_page.specs.Standing.{HasNode, PageMap, RowStands, node_in}
use Rattle.node_page.proofs.PartLemmas.{moves_beside, moves_in_turn, moves_same, one_page_moves}
use Rattle.node_page.proofs.PartLemmas.{staying_moves, there_not_missing}
use Rattle.node_page.proofs.StandingLemmas.{below_there, page_of_node, row_stays}
use Rattle.bulk_load.specs.Levels.{LevelWritten, PackedAt, WaitFor, pages_below}
use Rattle.bulk_load.specs.Packed.{AreParents, higher, root}
use Rattle.bulk_load.specs.Tiling.{IsTiled, joined}
use Rattle.bulk_load.proofs.RowWords.{boxes_by_entry, row_back, row_front, row_length-row_of, row_permuted}
use Rattle.bulk_load.proofs.RowWords.{row_together, stands_by_entry, total-permutation}

-- ---- pages below entries

pub below_append : (xs ys : List Branch) (n : ℕ)
    → pages_below (xs ++ ys) n ≡ pages_below xs n + pages_below ys n
below_append xs ys n =
    omega (
      arith,
      occurs-row_of n (xs ++ ys),
      total-append (occurs_on n) xs ys,
      occurs-row_of n xs,
      occurs-row_of n ys,
    )

pub below_permuted : (xs ys : List Branch) (n : ℕ) → IsPermutation xs ys → pages_below ys n ≡ pages_below xs n
below_permuted xs ys n same =
    omega (arith, occurs-row_of n xs, occurs-row_of n ys, total-permutation (occurs_on n) xs ys same)

below_child : (bounds : Bounds) (page : ℕ) (run : List Branch) (n : ℕ)
    → pages_below (child bounds page (row_of run) ∷ []) n ≡ one_page page n + pages_below run n
below_child bounds page run n = omega arith

-- ---- between two levels

-- of the entries some have become nodes of these parents, and the rest wait
pub record Between (dims level : ℕ) (was now : PageMap) (all parents rest : List Branch) : Type 0 where
  pub above : RowStands dims now (suc level) (row_of parents)
  pub below : RowStands dims now level (row_of rest)
  pub above_boxes : RowHasBoxes dims (row_of parents)
  pub below_boxes : RowHasBoxes dims (row_of rest)
  pub moves : Moves was now (pages_below all) (both (pages_below parents) (pages_below rest))

apart : (mid : PageMap) (p n : ℕ) → mid p ≡ None → IsSome (mid n) → ¬ (n ≡ p)
apart mid p n free there is = there_not_missing (mid p) (subst (λ (k : ℕ). IsSome (mid k)) is there) free

-- entries that stand beside a page that was not live stand after it is written
pub stay : (dims level : ℕ) (mid now : PageMap) (p : ℕ) (bs : List Branch) → mid p ≡ None → SameBut p mid now
    → ((n : ℕ) → 0 < pages_below bs n → IsSome (mid n))
    → RowStands dims mid level (row_of bs) → RowStands dims now level (row_of bs)
stay dims level mid now p bs free same live stand =
    row_stays dims mid now level (row_of bs) (λ n there. same n (apart mid p n free (live n there))) stand

pub least_of : (dims : ℕ) (bounds : Bounds) (run : List Branch) → 0 < length run
    → RowHasBoxes dims (row_of run) → bounds ≡ least_box dims (map item_in run)
    → IsLeastBox dims bounds (row_of run)
least_of dims bounds run some boxes is =
    subst (λ (b : Bounds). IsLeastBox dims b (row_of run)) (ap (least_box dims) (items-row_of run) ∙ sym is)
    (join_is_least_box dims (row_of run) (omega (arith, some, row_length-row_of run)) boxes)

-- one page more, beside the pages that are there
page_comes : (was mid now : PageMap) (p : ℕ) (all old new : Part) → Moves was mid all old → mid p ≡ None
    → IsSome (now p) → SameBut p mid now
    → ((n : ℕ) → new n ≡ one_page p n + old n) → Moves was now all new
page_comes was mid now p all old new moves free there same more_by =
    moves_in_turn was mid now all old new moves
    (moves_same mid now (both no_page old) old (both (one_page p) old) new (λ n. omega arith)
    (λ n. sym (more_by n))
    (moves_beside mid now no_page (one_page p) old ((one_page_moves mid now p same).0 free there) moves.live
    (λ n. omega (arith, moves.once n))))

-- the next run is written, below its least box
pub node_written : (dims level : ℕ) (was mid now : PageMap) (all parents run rest : List Branch) (p : ℕ)
    (bounds : Bounds) → Between dims level was mid all parents (run ++ rest)
    → mid p ≡ None → SameBut p mid now → HasNode dims now p level (row_of run)
    → IsLeastBox dims bounds (row_of run)
    → Between dims level was now all (parents ++ child bounds p (row_of run) ∷ []) rest
node_written dims level was mid now all parents run rest p bounds b free same node least =
    let live : (n : ℕ) → 0 < pages_below parents n + pages_below (run ++ rest) n
    → IsSome (mid n) = b.moves.live in
    let own : RowStands dims now level (row_of run) =
    stay dims level mid now p run free same
    (λ n there. live n (omega (arith, there, below_append run rest n)))
    (row_front (RowStands dims mid level) (stands_by_entry dims mid level) run rest b.below) in
    let one_down : level ≡ suc level - 1 = omega arith in
    let parent : RowStands dims now (suc level) (row_of (child bounds p (row_of run) ∷ [])) = (
      omega arith,
      subst (λ (l : ℕ). HasNode dims now p l (row_of run)) one_down node,
      subst (λ (l : ℕ). RowStands dims now l (row_of run)) one_down own,
      tt,
    ) in
    record {
      above = row_together (RowStands dims now (suc level)) (stands_by_entry dims now (suc level)) parents
          (child bounds p (row_of run) ∷ [])
          (stay dims (suc level) mid now p parents free same (λ n there. live n (omega (arith, there)))
          b.above) parent;
      below = stay dims level mid now p rest free same
          (λ n there. live n (omega (arith, there, below_append run rest n)))
          (row_back (RowStands dims mid level) (stands_by_entry dims mid level) run rest b.below);
      above_boxes =
          row_together (RowHasBoxes dims) (boxes_by_entry dims) parents (child bounds p (row_of run) ∷ [])
          b.above_boxes
          (least.box, row_front (RowHasBoxes dims) (boxes_by_entry dims) run rest b.below_boxes, tt);
      below_boxes = row_back (RowHasBoxes dims) (boxes_by_entry dims) run rest b.below_boxes;
      moves = page_comes was mid now p (pages_below all)
          (both (pages_below parents) (pages_below (run ++ rest)))
          (both (pages_below (parents ++ child bounds p (row_of run) ∷ [])) (pages_below rest)) b.moves free
          (page_of_node dims (now p) (record { level = level; entries = row_items (row_of run) }) node) same
          (λ n. omega (
            arith,
            below_append run rest n,
            below_append parents (child bounds p (row_of run) ∷ []) n,
            below_child bounds p run n,
          ));
    }

-- nothing written yet
pub none_written : (dims level : ℕ) (was : PageMap) (items : List Item) (bs : List Branch)
    → WaitFor dims level was items bs → Between dims level was was bs [] bs
none_written dims level was items bs waits = record {
  above = tt;
  below = waits.stand;
  above_boxes = tt;
  below_boxes = waits.boxes;
  moves = moves_same was was (pages_below bs) (pages_below bs) (pages_below bs)
      (both (pages_below []) (pages_below bs)) (λ n. refl) (λ n. omega arith)
      (staying_moves was was (pages_below bs) (λ n. refl) waits.once
      (λ n there. below_there dims was level (row_of bs) n waits.stand there));
}

-- ---- the runs of a level

are_more : (dims : ℕ) (runs : List (List Branch)) (parents run : List Branch) (bounds : Bounds) (p : ℕ)
    → AreParents dims runs parents → IsLeastBox dims bounds (row_of run)
    → AreParents dims (runs ++ run ∷ []) (parents ++ child bounds p (row_of run) ∷ [])
are_more dims [] [] run bounds p are least = (refl, least, tt)
are_more dims [] (q ∷ qs) run bounds p are least = absurd are
are_more dims (r ∷ runs) [] run bounds p are least = absurd are
are_more dims (r ∷ runs) (object b id ∷ qs) run bounds p are least = absurd are
are_more dims (r ∷ runs) (child b page below ∷ qs) run bounds p are least =
    (are.0, are.1, are_more dims runs qs run bounds p are.2 least)

-- the first runs are written
pub record Written (dims level : ℕ) (was now : PageMap) (runs : List (List Branch)) (count : ℕ)
    (left items : List Item) : Type 0 where
  pub parents : List Branch
  pub made : AreParents dims (take count runs) parents
  pub seen : map item_in parents ≡ items
  pub left_is : map item_in (joined (drop count runs)) ≡ left
  pub between : Between dims level was now (joined runs) parents (joined (drop count runs))

pub first_run : (dims level : ℕ) (was : PageMap) (runs : List (List Branch)) (items : List Item)
    → WaitFor dims level was items (joined runs) → Written dims level was was runs 0 items []
first_run dims level was runs items waits =
    record {
      parents = [];
      made = tt;
      seen = refl;
      left_is = waits.are;
      between = none_written dims level was items (joined runs) waits;
    }

-- the next run, and what is left after it
next_is : (runs : List (List Branch)) (count : ℕ) → count < length runs
    → drop count runs ≡ get_or runs count [] ∷ drop (count + 1) runs
next_is runs count within = let one : suc count ≡ count + 1 = omega arith in
    drop-cons runs count [] within ∙ ap (λ (k : ℕ). get_or runs count [] ∷ drop k runs) one

run_length : (runs : List (List Branch)) (sizes : List ℕ) (count size : ℕ) → map length runs ≡ sizes
    → count < length runs → size ≡ get_or sizes count 0 → length (get_or runs count []) ≡ size
run_length runs sizes count size same within is = sym (get_or-map length runs count [] 0 within)
    ∙ ap (λ (ns : List ℕ). get_or ns count 0) same ∙ sym is

pub next_items : (dims level : ℕ) (was now : PageMap) (runs : List (List Branch)) (sizes : List ℕ)
    (count size : ℕ) (left items : List Item) → Written dims level was now runs count left items
    → map length runs ≡ sizes → count < length runs → size ≡ get_or sizes count 0
    → (take size left ≡ map item_in (get_or runs count []))
    × (drop size left ≡ map item_in (joined (drop (count + 1) runs)))
next_items dims level was now runs sizes count size left items w same within is =
    let run = get_or runs count [] in
    let rest = joined (drop (count + 1) runs) in
    let whole : left ≡ map item_in run ++ map item_in rest = sym w.left_is
    ∙ ap (λ (rs : List (List Branch)). map item_in (joined rs)) (next_is runs count within)
    ∙ map-append item_in run rest in
    let long : size ≡ length (map item_in run) =
    sym (length-map run item_in ∙ run_length runs sizes count size same within is) in (
      ap (take size) whole ∙ ap (λ (k : ℕ). take k (map item_in run ++ map item_in rest)) long
          ∙ take-append_seam (map item_in run) (map item_in rest),
      ap (drop size) whole ∙ ap (λ (k : ℕ). drop k (map item_in run ++ map item_in rest)) long
          ∙ drop-append_seam (map item_in run) (map item_in rest),
    )

-- one run more
pub one_run_more : (dims level : ℕ) (was mid now : PageMap) (runs : List (List Branch)) (sizes : List ℕ)
    (count size : ℕ) (left items : List Item) (p : ℕ) (bounds : Bounds)
    → Written dims level was mid runs count left items → map length runs ≡ sizes → count < length runs
    → size ≡ get_or sizes count 0 → 0 < size
    → mid p ≡ None → SameBut p mid now
    → node_in dims (now p) ≡ Some (record { level = level; entries = take size left })
    → bounds ≡ least_box dims (take size left)
    → Written dims level was now runs (count + 1) (drop size left)
    (items ++ record { bounds = bounds; reference = p; tag = 0 } ∷ [])
one_run_more dims level was mid now runs sizes count size left items p bounds w same within is some free
    other node bounds_are =
    let run = get_or runs count [] in
    let rest = joined (drop (count + 1) runs) in
    let next = next_items dims level was mid runs sizes count size left items w same within is in
    let here : joined (drop count runs) ≡ run
    ++ rest = ap (λ (rs : List (List Branch)). joined rs) (next_is runs count within) in
    let b : Between dims level was mid (joined runs) w.parents (run ++ rest) =
    subst (λ (bs : List Branch). Between dims level was mid (joined runs) w.parents bs) here w.between in
    let there : HasNode dims now p level (row_of run) =
    subst (λ (is : List Item). node_in dims (now p) ≡ Some (record { level = level; entries = is }))
    (next.0 ∙ sym (items-row_of run)) node in
    let least : IsLeastBox dims bounds (row_of run) =
    least_of dims bounds run (omega (arith, some, run_length runs sizes count size same within is))
    (row_front (RowHasBoxes dims) (boxes_by_entry dims) run rest b.below_boxes)
    (bounds_are ∙ ap (least_box dims) next.0) in
    record {
      parents = w.parents ++ child bounds p (row_of run) ∷ [];
      made = subst
          (λ (rs : List (List Branch)). AreParents dims rs (w.parents ++ child bounds p (row_of run) ∷ []))
          (sym (take_more runs count [] within))
          (are_more dims (take count runs) w.parents run bounds p w.made least);
      seen = map-append item_in w.parents (child bounds p (row_of run) ∷ [])
          ∙ ap (λ (is : List Item). is ++ record { bounds = bounds; reference = p; tag = 0 } ∷ []) w.seen;
      left_is = sym next.1;
      between =
          node_written dims level was mid now (joined runs) w.parents run rest p bounds b free other there
          least;
    }

-- all runs are written
pub all_written : (dims level : ℕ) (was now : PageMap) (runs : List (List Branch)) (count : ℕ)
    (left items : List Item) → Written dims level was now runs count left items → length runs ≤ count
    → LevelWritten dims level was now runs items
all_written dims level was now runs count left items w past =
    let none : drop count runs ≡ [] = drop_all count runs past in
    let pages : (n : ℕ)
    → both (pages_below w.parents) (pages_below (joined (drop count runs))) n ≡ pages_below w.parents n =
    λ n. omega (arith, ap (λ (rs : List (List Branch)). pages_below (joined rs) n) none) in
    let moves : Moves was now (pages_below (joined runs)) (pages_below w.parents) =
    moves_same was now (pages_below (joined runs)) (pages_below (joined runs))
    (both (pages_below w.parents) (pages_below (joined (drop count runs)))) (pages_below w.parents)
    (λ n. refl) pages w.between.moves in
    record {
      parents = w.parents;
      made = subst (λ (rs : List (List Branch)). AreParents dims rs w.parents) (take_all count runs past)
          w.made;
      wait = record {
        are = w.seen;
        stand = w.between.above;
        boxes = w.between.above_boxes;
        once = moves.once;
      };
      moves = moves;
    }

-- ---- levels

-- entries in another order wait as well
pub wait_permuted : (dims level : ℕ) (pages : PageMap) (items others : List Item) (xs ys : List Branch)
    → WaitFor dims level pages items xs → IsPermutation xs ys → map item_in ys ≡ others
    → WaitFor dims level pages others ys
wait_permuted dims level pages items others xs ys waits same seen = record {
  are = seen;
  stand = row_permuted (RowStands dims pages level) (stands_by_entry dims pages level) xs ys same waits.stand;
  boxes = row_permuted (RowHasBoxes dims) (boxes_by_entry dims) xs ys same waits.boxes;
  once = λ n. omega (arith, below_permuted xs ys n same, waits.once n);
}

-- the entries of a root are written
pub root_written : (dims most level : ℕ) (was now : PageMap) (items : List Item) (bs : List Branch)
    (r : Root) → WaitFor dims level was items bs → length items ≤ most → level ≡ r.level
    → was r.page ≡ None → SameBut r.page was now
    → node_in dims (now r.page) ≡ Some (record { level = level; entries = items })
    → PackedAt dims most level was now bs r
root_written dims most level was now items bs r waits few level_is free same node =
    let there : HasNode dims now r.page level (row_of bs) =
    subst (λ (is : List Item). node_in dims (now r.page) ≡ Some (record { level = level; entries = is }))
    (sym waits.are ∙ sym (items-row_of bs)) node in
    let live : (n : ℕ) → 0 < pages_below bs n
    → IsSome (was n) = λ n there. below_there dims was level (row_of bs) n waits.stand there in
    let t : Tree = record { page = r.page; level = level; row = row_of bs } in
    let moves : Moves was now (pages_below bs) (λ n. occurs_in n t) =
    page_comes was was now r.page (pages_below bs) (pages_below bs) (λ n. occurs_in n t)
    (staying_moves was was (pages_below bs) (λ n. refl) waits.once live) free
    (page_of_node dims (now r.page) (record { level = level; entries = row_items (row_of bs) }) there) same
    (λ n. omega arith) in
    record {
      tree = t;
      page = refl;
      level_is = level_is;
      packs = root level r.page bs (omega (arith, few, length-map bs item_in, ap length waits.are));
      stands =
          record {
            root = there;
            below = stay dims level was now r.page bs free same live waits.stand;
            distinct = moves.once;
          };
      moves = moves;
    }

-- a level is written, and those above it
pub level_packed : (dims most level : ℕ) (was mid now : PageMap) (bs : List Branch)
    (runs : List (List Branch)) (parents : List Branch) (r : Root)
    → most < length bs → IsTiled item_in dims most bs runs → AreParents dims runs parents
    → Moves was mid (pages_below bs) (pages_below parents) → PackedAt dims most (suc level) mid now parents r
    → PackedAt dims most level was now bs r
level_packed dims most level was mid now bs runs parents r more_than tiled made moves p = record {
  tree = p.tree;
  page = p.page;
  level_is = p.level_is;
  packs = higher level bs runs parents p.tree more_than tiled made p.packs;
  stands = p.stands;
  moves = moves_in_turn was mid now (pages_below bs) (pages_below parents) (λ n. occurs_in n p.tree) moves
      p.moves;
}
