-- Leaves that change, and the nodes above them.
use Rattle.std.proofs.Common.{◌≡◌, ◌∙◌, ℕ, ◌-◌, ◌<◌, ◌≤◌, Bool, false, Some, List, length, sym, ap, subst}
use Rattle.std.proofs.Common.{arith}
use Rattle.bucket_page.specs.Layout.{Entry}
use Rattle.page_file.specs.Pages.{SameBut}
use Rattle.node_page.specs.Parts.{Moves, one_page}
use Rattle.node_page.specs.Standing.{PageMap}
use Rattle.node_page.proofs.PartLemmas.{moves_same, one_page_moves}
use Rattle.id_tree.specs.Rows.{NodeStands, Reaches, here, down, part_at}
use Rattle.id_tree.specs.Steps.{Becomes, Step, Turns}
use Rattle.id_tree.specs.Tree.{IsLarge, Row, leaf_in, least_objects, objects_in}
use Rattle.id_tree.proofs.NodeLemmas.{leaf_links, leaf_pages, objects_of_row, row_of, row_of_filled}
use Rattle.id_tree.proofs.NodeLemmas.{row_of_parted, row_of_stands, there_of_leaf}
use Rattle.id_tree.proofs.WayLemmas.{TurnsChild, by_child, child_large, child_stands, child_turned}

-- a leaf whose page was written with other objects
unfoldable pub leaf_becomes : (dims : ℕ) (old new : PageMap) (page : ℕ) (edge : Bool) (row : Row) (id : ℕ)
    (step : Step) (xs : List Entry) → NodeStands dims old page 0 edge row → SameBut page old new
    → leaf_in dims (new page) ≡ Some xs
    → Turns id step (objects_in row) xs → 0 < length xs → (edge ≡ false → least_objects dims ≤ length xs)
    → Becomes dims old new page 0 edge row id step
leaf_becomes dims old new page edge row id step xs s others there turns some large =
    let objects = objects_of_row xs in
    let stands = row_of_stands dims new xs in
    let was : (n : ℕ) → one_page page n ≡ part_at page row n =
    λ n. omega (arith, leaf_pages dims old row n s.below) in
    let is : (n : ℕ) → one_page page n ≡ part_at page (row_of xs) n =
    λ n. omega (arith, leaf_pages dims new (row_of xs) n stands) in
    let moves : Moves old new (part_at page row) (part_at page (row_of xs)) =
    moves_same old new (one_page page) (part_at page row) (one_page page) (part_at page (row_of xs)) was is
    ((one_page_moves old new page others).1 (there_of_leaf dims (new page) xs there)) in
    record {
      now = row_of xs;
      stands = record {
        low = s.low;
        node = record {
          leaf = λ low. there ∙ ap (λ (ys : List Entry). Some ys) (sym objects);
          fork = λ high. absurd (omega (arith, high));
        };
        below = stands;
        parted = row_of_parted xs;
        filled = row_of_filled dims 0 edge xs;
        once = moves.once;
      };
      turns = subst (Turns id step (objects_in row)) (sym objects) turns;
      some = omega (arith, some, ap length objects);
      large = λ off. record {
        leaf = λ low. omega (arith, large off, ap length objects);
        fork =
            λ high. absurd (omega (arith, high));
      };
      wide = let none = ap length (leaf_links dims old row s.below) in omega (arith, none);
      moves = moves;
    }

-- a leaf below a node became another one by a step of an identifier whose way leads there: so did the node
pub reached : (dims : ℕ) (old new : PageMap) (id : ℕ) (step : Step) (level page : ℕ) (row : Row) (leaf : ℕ)
    (last : Row) (edge : Bool) → Reaches id level page row leaf last → NodeStands dims old page level edge row
    → (edge ≡ false → IsLarge dims level row)
    → ((edge : Bool) → NodeStands dims old leaf 0 edge last → (edge ≡ false → IsLarge dims 0 last)
    → Becomes dims old new leaf 0 edge last id step)
    → Becomes dims old new page level edge row id step
reached dims old new id step level page row leaf last edge (here p r) s large becomes = becomes edge s large
reached dims old new id step level page row leaf last edge (down _ _ below _ _ _ high way rest) s large
    becomes =
    by_child dims old page level edge id below row high s way new step large
    (reached dims old new id step (level - 1) below way.below leaf last _ rest
    (child_stands dims old page level edge id below row high s way)
    (child_large dims old page level edge id below row high s way) becomes)

-- a fork has the same children then
pub reached_above : (dims : ℕ) (old new : PageMap) (id : ℕ) (step : Step) (level page : ℕ) (row : Row)
    (leaf : ℕ) (last : Row) (edge : Bool) → 0 < level → Reaches id level page row leaf last
    → NodeStands dims old page level edge row → (edge ≡ false → IsLarge dims level row)
    → ((edge : Bool) → NodeStands dims old leaf 0 edge last → (edge ≡ false → IsLarge dims 0 last)
    → Becomes dims old new leaf 0 edge last id step)
    → TurnsChild dims old new page level edge row id step
reached_above dims old new id step level page row leaf last edge high (here p r) s large becomes =
    absurd (omega (arith, high))
reached_above dims old new id step level page row leaf last edge high (down _ _ below _ _ _ up way rest) s
    large becomes =
    child_turned dims old page level edge id below row up s way new step large
    (reached dims old new id step (level - 1) below way.below leaf last _ rest
    (child_stands dims old page level edge id below row up s way)
    (child_large dims old page level edge id below row up s way) becomes)
